use Rattle.std.proofs.Common.{List}
use Rattle.space_shared.specs.Exchanges.{Exchange}
use Rattle.space_shared.specs.Output.{outlet}
use Rattle.space_shared.specs.Pumping.{Pumps}
use Rattle.space_shared.proofs.outgoing.counted.Given as goal

-- the link was asked for messages, and those that came were given
abbrev pub invariant-loop : goal.invariant-loop
invariant-loop g l = (said : List Exchange) × Pumps l.fn.link l.fn.seat
    (outlet (g.K.Sink.given l.fn.sink) (g.K.Sink.faults l.fn.sink)) said l.seat (outlet (g.K.Sink.given l.sink) (g.K.Sink.faults l.sink))
