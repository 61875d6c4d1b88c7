use Rattle.std.proofs.Common.{subst}
use Rattle.space_turn.specs.Sights.{HasCalled}
use Rattle.session_core.specs.Runs.{reply_to}
use Rattle.session_core.specs.declared.call.Call.TheVariants.{Deliver}
use Rattle.space_shared.proofs.CallsAnswered.{made_in_room, worn_full}
use Rattle.space_shared.proofs.LawsOfLinks.{opened_after}
use Rattle.space_shared.proofs.OpenedLinks.{delivery_answered}
use Rattle.space_shared.proofs.calls.deliver.Goals as goal

-- a link that was opened is answered
pub answered-requires : goal.answered-requires
answered-requires g c = delivery_answered c.args.seat.now c.call.new.seat c.args.link c.args.arrived c.in-Ok.reply c.in-Ok.ensures.ok c.requires.opened

-- and stays so
pub returns-then-answered-clause-opened : goal.returns-then-answered-clause-opened
returns-then-answered-clause-opened g c =
    opened_after c.args.link c.args.seat.now c.call.new.seat (Deliver c.args.link c.args.arrived) c.in-Ok.reply c.requires.opened c.call.ensures.same_seat c.in-Ok.ensures.ok

pub returns-else-answered-clause-opened : goal.returns-else-answered-clause-opened
returns-else-answered-clause-opened g c =
    opened_after c.args.link c.args.seat.now c.call.new.seat (Deliver c.args.link c.args.arrived) c.in-Ok.reply c.requires.opened c.call.ensures.same_seat c.in-Ok.ensures.ok

-- the call was done
pub returns-then-answered-clause-calls : goal.returns-then-answered-clause-calls
returns-then-answered-clause-calls g c = (c.in-Ok.reply, c.if-answered.ensures, c.in-Ok.ensures.ok)

-- or found the link closed
pub returns-else-answered-clause-calls : goal.returns-else-answered-clause-calls
returns-else-answered-clause-calls g c = (
  subst (λ answer. HasCalled reply_to c.args.seat.now (Deliver c.args.link c.args.arrived) answer c.call.new.seat) c.if-answered.ensures c.in-Ok.ensures.ok,
  (c.call.ensures.own, made_in_room c.in-Ok.reply c.call.new.seat.found c.in-Ok.ensures.worn),
)

-- or was not made, since the history is full
pub returns-in-Err-Worn-clause-calls : goal.returns-in-Err-Worn-clause-calls
returns-in-Err-Worn-clause-calls g c =
    let full = worn_full c.call.result c.in-Err-Worn.field-0 c.in-Err-Worn.count c.call.new.seat.found c.in-Err-Worn.is c.in-Err-Worn.field-0-is c.call.ensures.worn in
    (c.in-Err-Worn.ensures.err, (c.call.ensures.own, full.0, full.1))
