use Rattle.std.proofs.Common.{ap, ◌∙◌, Err}
use Rattle.serve_links.proofs.LooksTell.{room_answered, room_refused, worn_found}
use Rattle.serve_links.proofs.serve.ask_link.Goals as goal

-- the space answered
pub returns-in-Ok-clause-asks : goal.returns-in-Ok-clause-asks
returns-in-Ok-clause-asks g c =
    (c.in-Ok.reply, c.in-Ok.ensures.ok, c.opened.ensures, room_answered c.call.result c.in-Ok.reply c.call.new.seat.found c.in-Ok.is c.call.ensures.worn)

-- the history is worn
pub returns-in-Err-Worn-clause-asks : goal.returns-in-Err-Worn-clause-asks
returns-in-Err-Worn-clause-asks g c =
    (c.in-Err-Worn.ensures.err, worn_found c.call.result c.in-Err-Worn.count c.call.new.seat.found (c.in-Err-Worn.is ∙ ap Err c.in-Err-Worn.field-0-is) c.call.ensures.worn)

-- out of memory
pub returns-in-Err-NoMemory-clause-asks : goal.returns-in-Err-NoMemory-clause-asks
returns-in-Err-NoMemory-clause-asks g c =
    (c.in-Err-NoMemory.ensures.err, room_refused c.call.result c.call.new.seat.found (c.in-Err-NoMemory.is ∙ ap Err c.in-Err-NoMemory.field-0-is) c.call.ensures.worn)
