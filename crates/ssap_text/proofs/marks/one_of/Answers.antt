-- Each word of the table is looked for in turn.
use Rattle.std.proofs.Common.{◌≡◌, ◌≢◌, inl, inr, ℕ, zero, suc, ◌<◌, ◌+◌, List, [], ◌∷◌, ◌++◌, length, get_or, drop, refl, subst, arith}
use Rattle.std.specs.Prelude.{Some, None}
use Rattle.std.specs.Borrow.{Bor}
use Rattle.std.proofs.lemmas.Bool.Decides.{Decides-eqb}
use Rattle.std.proofs.lemmas.List.{drop_more}
use Rattle.std.proofs.lemmas.Slice.Eq.{strip_prefix_is}
use Rattle.ssap_grammar.specs.Front.{OneOf}
use Rattle.ssap_text.specs.Pieces.{words}
use Rattle.ssap_text.proofs.marks.one_of.Goals as goal

-- a word that stands at the front is one of its table
one_of_at : (table : List (Bor (List ℕ) × Bor (List ℕ))) (at : ℕ) (d : Bor (List ℕ) × Bor (List ℕ)) (bytes rest : List ℕ) → at < length table
    → bytes ≡ (get_or table at d).0.now ++ rest → OneOf (words table) (get_or table at d).1.now bytes rest
one_of_at [] at d bytes rest inside e = absurd (omega arith)
one_of_at (entry ∷ table) zero d bytes rest inside e = inl (refl, e)
one_of_at (entry ∷ table) (suc at) d bytes rest inside e = inr (one_of_at table at d bytes rest (omega arith) e)

-- where the first word does not stand there, it is one of the others
one_of_others : (entry : Bor (List ℕ) × Bor (List ℕ)) (table : List (Bor (List ℕ) × Bor (List ℕ))) (value bytes rest : List ℕ)
    → ((behind : List ℕ) → bytes ≢ entry.0.now ++ behind) → OneOf (words (entry ∷ table)) value bytes rest → OneOf (words table) value bytes rest
one_of_others entry table value bytes rest none (inl x) = absurd (none rest x.1)
one_of_others entry table value bytes rest none (inr x) = x

pub returns-in-Some-clause-found : goal.returns-in-Some-clause-found
returns-in-Some-clause-found c =
    one_of_at c.args.table.now c.loop-word.word-index _ c.args.bytes.now c.in-Some.rest.now c.loop-word-test.true
    (strip_prefix_is Decides-eqb c.args.bytes.now _ (Some c.in-Some.rest) c.in-Some.ensures.cases)

pub loop-word-preserved : goal.loop-word-preserved
loop-word-preserved c value rest x =
    let table = c.args.table.now in
    let at = c.loop-word.word-index in
    one_of_others (get_or table at _) (drop (at + 1) table) value c.args.bytes.now rest
    (strip_prefix_is Decides-eqb c.args.bytes.now _ None c.in_default.ensures.cases)
    (subst (λ (t : List (Bor (List ℕ) × Bor (List ℕ))). OneOf (words t) value c.args.bytes.now rest) (drop_more table at _ c.loop-word-test.true) (c.loop-word.invariant value rest x))
