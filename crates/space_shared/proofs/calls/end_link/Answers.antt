use Rattle.space_shared.proofs.CallsAnswered.{ended_in_room, worn_says}
use Rattle.space_shared.proofs.OpenedLinks.{ending_answered}
use Rattle.space_shared.proofs.calls.end_link.Goals as goal

-- a link that was opened is answered
pub answered-requires : goal.answered-requires
answered-requires g c = ending_answered c.args.seat.now c.call.new.seat c.args.link c.in-Ok.reply c.in-Ok.ensures.ok c.requires.opened

-- the link was ended
pub returns-in-Ok-clause-worn : goal.returns-in-Ok-clause-worn
returns-in-Ok-clause-worn g c = ended_in_room c.in-Ok.reply c.args.end c.call.new.seat.found c.requires.wanted c.in-Ok.ensures.worn

-- or the history is full
pub returns-in-Err-Worn-clause-worn : goal.returns-in-Err-Worn-clause-worn
returns-in-Err-Worn-clause-worn g c =
    rw c.in-Err-Worn.count-is
    (worn_says c.call.result c.in-Err-Worn.field-0 c.in-Err-Worn.count c.call.new.seat.found c.in-Err-Worn.is c.in-Err-Worn.field-0-is c.call.ensures.worn)
