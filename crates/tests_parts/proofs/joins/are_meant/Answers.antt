-- The rows of the wildcard are all triples.
use Rattle.std.proofs.Common.{List, Contains, None, inl, inr, refl, subst}
use Rattle.std.proofs.lemmas.List.Sorted.{Contains-permutation}
use Rattle.std.specs.Option.{IsSome}
use Rattle.m3_terms.specs.InsertedLaws.{cons_cases, is_kept}
use Rattle.triple_index.specs.Fits.{fits}
use Rattle.triple_index.specs.declared.triple.IdTriple.{IdTriple}
use Rattle.pattern_join.specs.Meaning.{triple_in}
use Rattle.tests_parts.proofs.joins.are_meant.Goals as goal

pub loop-row-init : goal.loop-row-init
loop-row-init g c t there = inl (Contains-permutation _ _ t c.rows-rows.ensures.rows (is_kept (fits (record { subject = None; predicate = None; object = None })) c.args.view.now t refl there))

pub loop-row-preserved : goal.loop-row-preserved
loop-row-preserved g c t there = elim (c.loop-row.invariant t there) [
  | inl left ↦ elim (cons_cases c.in-Some.row c.next.new.self t (subst (λ (l : List IdTriple). Contains l t) c.in-Some.ensures.row left)) [
    | inl same ↦ inr (subst (λ (u : IdTriple). IsSome (triple_in (g.T.TermTable.terms c.args.table.now) u)) same (c.is_meant.ensures c.if-not-is_meant.false))
    | inr later ↦ inl later
  ]
  | inr some ↦ inr some
]
