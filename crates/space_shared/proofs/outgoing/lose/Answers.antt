use Rattle.std.proofs.Common.{◌∙◌, Err, ap, subst}
use Rattle.session_core.specs.Opened.{SuitsLost}
use Rattle.space_shared.proofs.LawsOfLinks.{answer_of_lost}
use Rattle.space_shared.proofs.PumpsGoOn.{room_found}
use Rattle.space_shared.proofs.outgoing.lose.Goals as goal

-- no such link is no answer of an opened link
pub unreachable-requires-in-Ok-NoLink : goal.unreachable-requires-in-Ok-NoLink
unreachable-requires-in-Ok-NoLink g c =
    subst SuitsLost c.in-Ok-NoLink.field-0-is
    (answer_of_lost c.args.link c.args.seat.now c.call.new.seat c.in-Ok-NoLink.field-0 c.requires.opened c.in-Ok-NoLink.ensures.ok)

-- the space was told
pub returns-in-Ok-Done-clause-lost : goal.returns-in-Ok-Done-clause-lost
returns-in-Ok-Done-clause-lost g c =
    (c.in-Ok-Done.field-0, c.in-Ok-Done.ensures.ok, room_found c.call.result c.in-Ok-Done.field-0 c.call.new.seat.found c.in-Ok-Done.is c.call.ensures.worn)

-- the history is full
pub returns-in-Err-Worn-clause-lost : goal.returns-in-Err-Worn-clause-lost
returns-in-Err-Worn-clause-lost g c =
    (c.in-Err-Worn.ensures.err, (c.call.ensures.worn c.in-Err-Worn.count).0 (c.in-Err-Worn.is ∙ ap Err c.in-Err-Worn.field-0-is))
