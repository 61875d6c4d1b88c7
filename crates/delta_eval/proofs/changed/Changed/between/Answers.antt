use Rattle.std.proofs.Common.{◌∙◌, sym}
use Rattle.std.proofs.lemmas.Slice.Eq.{slice_eq-Decides}
use Rattle.sparql_algebra.specs.SolutionLaws.{solution_exact}
use Rattle.delta_eval.proofs.NoDifference.{no_difference}
use Rattle.delta_eval.proofs.changed.Changed.between.Goals as goal

pub returns-then-eq : goal.returns-then-eq
returns-then-eq c =
    let same = (slice_eq-Decides solution_exact _ _ c.eq.result c.eq.ensures).0 c.if-eq.true in
    no_difference c.args.old.now c.args.new.now c.none.result (sym c.as_slice.ensures.rows ∙ same ∙ c.as_slice-2.ensures.rows)
    c.none.ensures.added c.none.ensures.obsolete
