use Rattle.std.proofs.Common.{◌∙◌, sym}
use Rattle.std.proofs.lemmas.Result.{err_from_is_err_and}
use Rattle.ssap_decode.specs.Standing.{placed_of}
use Rattle.space_shared.proofs.Heard.{heard_on, heard_last, heard_not}
use Rattle.space_shared.proofs.intake.Intake.hear.Goals as goal

-- the message was not delivered, or found the link closed
pub returns-in_err-deliver-clause-delivers : goal.returns-in_err-deliver-clause-delivers
returns-in_err-deliver-clause-delivers g c =
    let e = err_from_is_err_and c.from_residual.result c.from_residual.ensures.1 in
    rw (e.1, e.2) (heard_not c.args.self.now.link (placed_of c.args.framed.now) c.in-Ok.arrived c.args.seat.now c.deliver.new.seat c.in-Ok.ensures _ c.in_err-deliver.ensures.calls)

-- it is no request
pub returns-then-is_last-clause-delivers : goal.returns-then-is_last-clause-delivers
returns-then-is_last-clause-delivers g c =
    heard_last c.args.self.now.link (placed_of c.args.framed.now) c.in-Ok.arrived c.args.seat.now c.deliver.new.seat c.in-Ok.ensures
    (sym c.is_no_request-is_last.ensures ∙ c.if-is_last.true) c.in_ok-deliver.ensures.calls

-- it is a request
pub returns-clause-delivers : goal.returns-clause-delivers
returns-clause-delivers g c =
    heard_on c.args.self.now.link (placed_of c.args.framed.now) c.in-Ok.arrived c.args.seat.now c.deliver.new.seat c.in-Ok.ensures
    (sym c.is_no_request-is_last.ensures ∙ c.if-is_last.false) c.in_ok-deliver.ensures.calls
