use Rattle.std.proofs.Common.{◌∙◌, sym, subst}
use Rattle.sib_io.specs.declared.outside.Failed.{Failed}
use Rattle.space_shared.specs.Exchanges.{SeatSight, HasOpened}
use Rattle.serve_links.specs.Serving.{outside, Serving, Works}
use Rattle.serve_links.specs.Starting.{Loses}
use Rattle.serve_links.specs.declared.serve.StartFault.TheVariants as fault
use Rattle.serve_links.specs.declared.served.ServeEnd.TheVariants as end
use Rattle.serve_links.proofs.LinkOpens.{link_opens, called_opened, told_none}
use Rattle.serve_links.proofs.ServersGoOn.{none_given, some_given, starts_by, ends_without, ends_failed, ends_unlinked, serves_none, serves_both, ends_unstarted, ends_losing}
use Rattle.serve_links.proofs.serve.serve_next.Goals as goal

-- no connection waits
pub returns-in-Ok-None-clause-serves : goal.returns-in-Ok-None-clause-serves
returns-in-Ok-None-clause-serves g c name old s =
    let w = g.A.Accept.waiting c.args.accept.now in
    let n = g.A.Accept.waiting c.next.new.self in
    let b = g.P.Spawner.begun c.args.spawner.now in
    let a = g.A.Accept.faults c.args.accept.now in
    let f = g.A.Accept.faults c.next.new.self in
    let st = g.P.Spawner.faults c.args.spawner.now in
    let h = none_given (g.row.A-Input.Denot × g.row.A-Output.Denot) Failed w n c.in-Ok-None.field-0 c.in-Ok-None.field-0-is c.in-Ok-None.ensures.connection in
    ends_without name old c.args.seat.now w n b a st f s h.0 h.1 c.in-Ok-None.ensures.cause.kept

-- the connections failed
pub returns-in-Err-clause-serves : goal.returns-in-Err-clause-serves
returns-in-Err-clause-serves g c name old s =
    let w = g.A.Accept.waiting c.args.accept.now in
    let n = g.A.Accept.waiting c.next.new.self in
    let b = g.P.Spawner.begun c.args.spawner.now in
    let a = g.A.Accept.faults c.args.accept.now in
    let f = g.A.Accept.faults c.next.new.self in
    let st = g.P.Spawner.faults c.args.spawner.now in
    ends_failed name old c.args.seat.now w n b a st f s c.in-Err.ensures.connection c.in-Err.ensures.cause.failed

-- the link that opened was opened
pub start_both-requires-clause-opened : goal.start_both-requires-clause-opened
start_both-requires-clause-opened g c lifetimes lives =
    let link = c.in-Ok-Some-ask_link.link in
    let (answer, called, told, room) = c.in-Ok-Some-ask_link.ensures.asks in
    let opened = called_opened c.args.seat.now c.ask_link.new.seat answer link (sym c.in-Ok-Some-ask_link.field-0-is ∙ told) called in
    link_opens c.args.seat.now c.ask_link.new.seat link c.ask_link.ensures.same_seat opened

pub lose-requires-clause-opened : goal.lose-requires-clause-opened
lose-requires-clause-opened g c lifetimes lives =
    let link = c.in-Ok-Some-ask_link.link in
    let (answer, called, told, room) = c.in-Ok-Some-ask_link.ensures.asks in
    let opened = called_opened c.args.seat.now c.ask_link.new.seat answer link (sym c.in-Ok-Some-ask_link.field-0-is ∙ told) called in
    subst (λ (x : SeatSight). HasOpened x link) (sym c.start_both.ensures.same) (link_opens c.args.seat.now c.ask_link.new.seat link c.ask_link.ensures.same_seat opened)

-- both jobs began
pub returns-in-Ok-clause-serves : goal.returns-in-Ok-clause-serves
returns-in-Ok-clause-serves g c name old s =
    let w = g.A.Accept.waiting c.args.accept.now in
    let n = g.A.Accept.waiting c.next.new.self in
    let b = g.P.Spawner.begun c.args.spawner.now in
    let a = g.A.Accept.faults c.args.accept.now in
    let f = g.A.Accept.faults c.next.new.self in
    let st = g.P.Spawner.faults c.args.spawner.now in
    let took = some_given (g.row.A-Input.Denot × g.row.A-Output.Denot) Failed w n c.in-Ok-Some.field-0 c.in-Ok-Some.connection c.in-Ok-Some.field-0-is c.in-Ok-Some.ensures.connection in
    let link = c.in-Ok-Some-ask_link.link in
    let (answer, called, told, room) = c.in-Ok-Some-ask_link.ensures.asks in
    let opened = called_opened c.args.seat.now c.ask_link.new.seat answer link (sym c.in-Ok-Some-ask_link.field-0-is ∙ told) called in
    let after = g.P.Spawner.begun c.start_both.new.spawner in
    let started = g.P.Spawner.faults c.start_both.new.spawner in
    let (kept_starts, added) = c.in-Ok.ensures.starts in
    subst (λ (x : SeatSight). Serving name old (outside n after f started) x) (sym c.start_both.ensures.same)
    (serves_both name old c.args.seat.now w n b a st f s c.in-Ok-Some.connection took c.in-Ok-Some.ensures.cause.kept c.ask_link.new.seat c.ask_link.ensures.same_seat
    link opened after started added kept_starts room)

-- they did not, out of memory
pub returns-in-Err-NoMemory-clause-serves : goal.returns-in-Err-NoMemory-clause-serves
returns-in-Err-NoMemory-clause-serves g c name old s =
    let w = g.A.Accept.waiting c.args.accept.now in
    let n = g.A.Accept.waiting c.next.new.self in
    let b = g.P.Spawner.begun c.args.spawner.now in
    let a = g.A.Accept.faults c.args.accept.now in
    let f = g.A.Accept.faults c.next.new.self in
    let st = g.P.Spawner.faults c.args.spawner.now in
    let took = some_given (g.row.A-Input.Denot × g.row.A-Output.Denot) Failed w n c.in-Ok-Some.field-0 c.in-Ok-Some.connection c.in-Ok-Some.field-0-is c.in-Ok-Some.ensures.connection in
    let link = c.in-Ok-Some-ask_link.link in
    let (answer, called, told, room) = c.in-Ok-Some-ask_link.ensures.asks in
    let opened = called_opened c.args.seat.now c.ask_link.new.seat answer link (sym c.in-Ok-Some-ask_link.field-0-is ∙ told) called in
    let after = g.P.Spawner.begun c.start_both.new.spawner in
    let started = g.P.Spawner.faults c.start_both.new.spawner in
    let (kept_starts, added) = starts_by (Unit {0}) c.ask_link.new.seat.turn link c.in-Ok-Some.connection b after st started c.in-Err-NoMemory.field-0 fault.NoMemory c.in-Err-NoMemory.field-0-is
    c.in-Err-NoMemory.ensures.starts
    in
    subst (λ (x : SeatSight). Works name old (outside n after f started) end.NoMemory x) (sym c.start_both.ensures.same)
    (ends_unstarted name old c.args.seat.now w n b a st f s c.in-Ok-Some.connection took c.in-Ok-Some.ensures.cause.kept c.ask_link.new.seat c.ask_link.ensures.same_seat
    link opened after started added kept_starts room)

-- one of them was refused
pub returns-in-Err-Refused-clause-serves : goal.returns-in-Err-Refused-clause-serves
returns-in-Err-Refused-clause-serves g c name old s =
    let w = g.A.Accept.waiting c.args.accept.now in
    let n = g.A.Accept.waiting c.next.new.self in
    let b = g.P.Spawner.begun c.args.spawner.now in
    let a = g.A.Accept.faults c.args.accept.now in
    let f = g.A.Accept.faults c.next.new.self in
    let st = g.P.Spawner.faults c.args.spawner.now in
    let took = some_given (g.row.A-Input.Denot × g.row.A-Output.Denot) Failed w n c.in-Ok-Some.field-0 c.in-Ok-Some.connection c.in-Ok-Some.field-0-is c.in-Ok-Some.ensures.connection in
    let link = c.in-Ok-Some-ask_link.link in
    let (answer, called, told, room) = c.in-Ok-Some-ask_link.ensures.asks in
    let opened = called_opened c.args.seat.now c.ask_link.new.seat answer link (sym c.in-Ok-Some-ask_link.field-0-is ∙ told) called in
    let after = g.P.Spawner.begun c.start_both.new.spawner in
    let started = g.P.Spawner.faults c.start_both.new.spawner in
    let (rose, part, some, added) = starts_by (Unit {0}) c.ask_link.new.seat.turn link c.in-Ok-Some.connection b after st started c.in-Err-Refused.field-0 fault.Refused c.in-Err-Refused.field-0-is
    c.in-Err-Refused.ensures.starts
    in
    ends_losing name old c.args.seat.now w n b a st f s c.in-Ok-Some.connection took c.in-Ok-Some.ensures.cause.kept c.ask_link.new.seat c.ask_link.ensures.same_seat
    link opened after started rose part some added c.lose.new.seat c.lose.result
    (subst (λ (x : SeatSight). Loses link x c.lose.result c.lose.new.seat) c.start_both.ensures.same c.lose.ensures.loses)

-- no link opened
pub returns-in-Ok-None-ask_link-clause-serves : goal.returns-in-Ok-None-ask_link-clause-serves
returns-in-Ok-None-ask_link-clause-serves g c name old s =
    let w = g.A.Accept.waiting c.args.accept.now in
    let n = g.A.Accept.waiting c.next.new.self in
    let b = g.P.Spawner.begun c.args.spawner.now in
    let a = g.A.Accept.faults c.args.accept.now in
    let f = g.A.Accept.faults c.next.new.self in
    let st = g.P.Spawner.faults c.args.spawner.now in
    let took = some_given (g.row.A-Input.Denot × g.row.A-Output.Denot) Failed w n c.in-Ok-Some.field-0 c.in-Ok-Some.connection c.in-Ok-Some.field-0-is c.in-Ok-Some.ensures.connection in
    let (answer, called, told, room) = c.in-Ok-None-ask_link.ensures.asks in
    serves_none name old c.args.seat.now w n b a st f s c.in-Ok-Some.connection took c.in-Ok-Some.ensures.cause.kept c.ask_link.new.seat c.ask_link.ensures.same_seat
    answer called (told_none c.ask_link.new.seat.turn c.in-Ok-Some.connection answer (sym c.in-Ok-None-ask_link.field-0-is ∙ told)) room

-- no link was asked for
pub returns-in-Err-ask_link-clause-serves : goal.returns-in-Err-ask_link-clause-serves
returns-in-Err-ask_link-clause-serves g c name old s =
    let w = g.A.Accept.waiting c.args.accept.now in
    let n = g.A.Accept.waiting c.next.new.self in
    let b = g.P.Spawner.begun c.args.spawner.now in
    let a = g.A.Accept.faults c.args.accept.now in
    let f = g.A.Accept.faults c.next.new.self in
    let st = g.P.Spawner.faults c.args.spawner.now in
    let took = some_given (g.row.A-Input.Denot × g.row.A-Output.Denot) Failed w n c.in-Ok-Some.field-0 c.in-Ok-Some.connection c.in-Ok-Some.field-0-is c.in-Ok-Some.ensures.connection in
    ends_unlinked name old c.args.seat.now w n b a st f s c.in-Ok-Some.connection took c.in-Ok-Some.ensures.cause.kept c.ask_link.new.seat c.ask_link.ensures.same_seat
    c.in-Err-ask_link.end c.in-Err-ask_link.ensures.asks
