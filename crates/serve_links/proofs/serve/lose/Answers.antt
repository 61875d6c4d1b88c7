use Rattle.std.proofs.Common.{ap, ◌∙◌, Err}
use Rattle.serve_links.proofs.LooksTell.{room_answered, worn_found, refused_found}
use Rattle.serve_links.proofs.serve.lose.Goals as goal

-- the space was told
pub returns-after-reply-clause-loses : goal.returns-after-reply-clause-loses
returns-after-reply-clause-loses g c = (
  c.call.ensures.same_seat,
  c.in-Ok.reply,
  c.in-Ok.ensures.ok,
  refused_found c.call.new.seat.found (room_answered c.call.result c.in-Ok.reply c.call.new.seat.found c.in-Ok.is c.call.ensures.worn),
)

-- the history is worn
pub returns-in-Err-Worn-clause-loses : goal.returns-in-Err-Worn-clause-loses
returns-in-Err-Worn-clause-loses g c = (
  c.call.ensures.same_seat,
  c.in-Err-Worn.ensures.err,
  worn_found c.call.result c.in-Err-Worn.count c.call.new.seat.found (c.in-Err-Worn.is ∙ ap Err c.in-Err-Worn.field-0-is) c.call.ensures.worn,
)
