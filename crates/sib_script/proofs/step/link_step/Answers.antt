-- A link's number goes on with a digit, and ends with a space.
use Rattle.std.proofs.Common.{subst, sym, ℕ, ◌∷◌, []}
use Rattle.sib_script.specs.Steps.{Walks}
use Rattle.sib_script.specs.declared.step.Step.TheVariants.{Link}
use Rattle.sib_script.proofs.Steps.{moves_none, stick_link, walk_link}
use Rattle.sib_script.proofs.step.link_step.Goals as goal

pub returns-in_err-longer : goal.returns-in_err-longer
returns-in_err-longer c =
    let a = c.args in
    moves_none (Link a.link) a.byte c.from_residual.result c.from_residual.ensures (λ t n. stick_link a.link a.byte c.if-byte-eq32.false c.in_err-longer.ensures)

pub returns : goal.returns
returns c =
    let a = c.args in
    let l = c.in_ok-longer.ensures in
    subst (λ (n : ℕ). Walks (Link a.link) (a.byte ∷ []) (Link n)) (sym l.1) (walk_link a.link a.byte l.0)
