-- Writes that follow one another, and the pieces that an entry is written in.
use Rattle.std.proofs.Common.{◌≡◌, ◌∙◌, ap, subst, ℕ, List, [], ◌∷◌, ◌++◌, length, Option, append_assoc, Result, Ok, Err}
use Rattle.std.specs.Fmt.{decimal}
use Rattle.std.specs.Io.KnownBytes.{Appends}
use Rattle.std.proofs.KnownBytes.{Appends-trans}
use Rattle.sib_io.specs.Causes.{Writes}
use Rattle.sib_io.proofs.KnownLemmas.{part_after}
use Rattle.sib_script.specs.Script.{entry_spelling}
use Rattle.sib_script.specs.Steps.{delivery_prefix}
use Rattle.sib_script.specs.declared.entry.Entry.TheVariants.{Bytes, End}

-- a write behind bytes that were written is a write of both
pub writes_behind : {T E : Type 0} (a b c : Option (List ℕ)) (first then : List ℕ) (result : Result T E) → Appends a b first → Writes b c result then → Writes a c result (first ++ then)
writes_behind a b c first then (Ok done) p q = Appends-trans a b c first then p q
writes_behind a b c first then (Err fault) p q = part_after a b c first then p q

-- a write of some bytes is one of the same bytes
pub writes_same : {T E : Type 0} (a b : Option (List ℕ)) (result : Result T E) (bytes others : List ℕ) → bytes ≡ others → Writes a b result bytes → Writes a b result others
writes_same a b result bytes others e p = subst (λ l. Writes a b result l) e p

-- a delivery's line, its bytes and a line end are its entry
pub delivery_pieces : (link : ℕ) (line bytes : List ℕ) → line ≡ delivery_prefix link (decimal (length bytes) ++ 10 ∷ []) → line ++ (bytes ++ 10 ∷ []) ≡ entry_spelling (Bytes link bytes)
unfolding entry_spelling
delivery_pieces link line bytes e = ap (λ l. l ++ (bytes ++ 10 ∷ [])) e ∙ ap (λ l. 62 ∷ l) (regroup (decimal link) (decimal (length bytes)) bytes)
  where
    regroup : (l d b : List ℕ) → (l ++ 32 ∷ (d ++ 10 ∷ [])) ++ (b ++ 10 ∷ []) ≡ ((((l ++ 32 ∷ []) ++ d) ++ 10 ∷ []) ++ b) ++ 10 ∷ []
    regroup l d b = simp append_assoc

-- the line of an end is its entry
pub end_piece : (link : ℕ) (line : List ℕ) → line ≡ 45 ∷ (decimal link ++ 10 ∷ []) → line ≡ entry_spelling (End link)
unfolding entry_spelling
end_piece link line e = e
