-- A count goes on with a digit, and ends with a line end.
use Rattle.std.proofs.Common.{subst, sym, ℕ, ◌∷◌, []}
use Rattle.sib_script.specs.Steps.{Walks}
use Rattle.sib_script.specs.declared.step.Step.TheVariants.{Count}
use Rattle.sib_script.proofs.Steps.{moves_none, stick_count, walk_count}
use Rattle.sib_script.proofs.step.count_step.Goals as goal

pub returns-in_err-longer : goal.returns-in_err-longer
returns-in_err-longer c =
    let a = c.args in
    moves_none (Count a.link a.count) a.byte c.from_residual.result c.from_residual.ensures (λ t n. stick_count a.link a.count a.byte c.if-byte-eq10.false c.in_err-longer.ensures)

pub returns : goal.returns
returns c =
    let a = c.args in
    let l = c.in_ok-longer.ensures in
    subst (λ (n : ℕ). Walks (Count a.link a.count) (a.byte ∷ []) (Count a.link n)) (sym l.1) (walk_count a.link a.count a.byte l.0)
