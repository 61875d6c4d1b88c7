-- First the header is walked over, and then the delivery's own bytes are taken.
use Rattle.std.proofs.Common.{take, drop, length, ◌-◌}
use Rattle.std.proofs.lemmas.List.{take_rest}
use Rattle.sib_script.specs.Steps.{IsStep, GoesOn}
use Rattle.sib_script.proofs.Reading.{on_any_err, wanted_goes}
use Rattle.sib_script.proofs.Steps.{leads_through}
use Rattle.sib_script.proofs.step.advance.Goals as goal

pub returns-clause-leads : goal.returns-clause-leads
returns-clause-leads c =
    let a = c.args in
    let w = c.walk-next in
    let l = c.in_ok-last in
    let bytes = a.bytes.now in
    leads_through a.step w.result.0 l.last a.piece.now.items c.fill.new.piece.items bytes (take (length bytes - w.result.1) (drop w.result.1 bytes)) w.result.1 l.count w.ensures.within (take_rest bytes w.result.1) w.ensures.walks w.ensures.stops l.ensures.leads

pub returns-in_err-last-clause-wanted : goal.returns-in_err-last-clause-wanted
returns-in_err-last-clause-wanted c =
    let a = c.args in
    let w = c.walk-next in
    let bytes = a.bytes.now in
    let piece = a.piece.now.items in
    on_any_err c.from_residual.result (IsStep a.step piece → GoesOn a.step piece bytes) (λ h.
    wanted_goes a.step w.result.0 piece bytes (take (length bytes - w.result.1) (drop w.result.1 bytes)) w.result.1 h w.ensures.walks (take_rest bytes w.result.1) c.in_err-last.ensures.wanted)
