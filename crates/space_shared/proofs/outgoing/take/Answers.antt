use Rattle.std.proofs.Common.{◌∙◌, Err, ap, subst}
use Rattle.session_core.specs.declared.call.Call.TheVariants.{Take}
use Rattle.space_turn.specs.Sights.{HasCalled}
use Rattle.session_core.specs.Opened.{SuitsTake}
use Rattle.session_core.specs.Runs.{reply_to}
use Rattle.space_shared.proofs.LawsOfLinks.{answer_of_take}
use Rattle.space_shared.proofs.PumpsGoOn.{room_found}
use Rattle.space_shared.proofs.outgoing.take.Goals as goal

-- no such link is no answer of an opened link
pub unreachable-requires-in-Ok-NoLink : goal.unreachable-requires-in-Ok-NoLink
unreachable-requires-in-Ok-NoLink g c =
    subst SuitsTake c.in-Ok-NoLink.field-0-is
    (answer_of_take c.args.link c.args.seat.now c.call.new.seat c.in-Ok-NoLink.field-0 c.requires.opened c.in-Ok-NoLink.ensures.ok)

-- a message came
pub returns-in-Ok-Message-clause-asked : goal.returns-in-Ok-Message-clause-asked
returns-in-Ok-Message-clause-asked g c = (
  subst (λ r. HasCalled reply_to c.args.seat.now (Take c.args.link) r c.call.new.seat) c.in-Ok-Message.field-0-is c.in-Ok-Message.ensures.ok,
  room_found c.call.result c.in-Ok-Message.field-0 c.call.new.seat.found c.in-Ok-Message.is c.call.ensures.worn,
)

-- none waits
pub returns-in-Ok-Empty-clause-asked : goal.returns-in-Ok-Empty-clause-asked
returns-in-Ok-Empty-clause-asked g c = (
  subst (λ r. HasCalled reply_to c.args.seat.now (Take c.args.link) r c.call.new.seat) c.in-Ok-Empty.field-0-is c.in-Ok-Empty.ensures.ok,
  room_found c.call.result c.in-Ok-Empty.field-0 c.call.new.seat.found c.in-Ok-Empty.is c.call.ensures.worn,
)

-- the link is over
pub returns-in-Ok-Over-clause-asked : goal.returns-in-Ok-Over-clause-asked
returns-in-Ok-Over-clause-asked g c = (
  subst (λ r. HasCalled reply_to c.args.seat.now (Take c.args.link) r c.call.new.seat) c.in-Ok-Over.field-0-is c.in-Ok-Over.ensures.ok,
  room_found c.call.result c.in-Ok-Over.field-0 c.call.new.seat.found c.in-Ok-Over.is c.call.ensures.worn,
)

-- the history is full
pub returns-in-Err-Worn-clause-asked : goal.returns-in-Err-Worn-clause-asked
returns-in-Err-Worn-clause-asked g c =
    (c.in-Err-Worn.ensures.err, (c.call.ensures.worn c.in-Err-Worn.count).0 (c.in-Err-Worn.is ∙ ap Err c.in-Err-Worn.field-0-is))
