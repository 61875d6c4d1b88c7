use Rattle.kp_talk.specs.Ending.{Outside, outside}
use Rattle.kp_talk.specs.Saying.{Outlets, outlets}
use Rattle.kp_talk.proofs.LastLines.{ended_whole, ended_unprinted, ended_unsent}
use Rattle.kp_talk.proofs.run.talk.Goals as goal

-- the last line was printed, and all was handed on
pub returns-in-Ok-last-clause-ended : goal.returns-in-Ok-last-clause-ended
returns-in-Ok-last-clause-ended g c =
    let mid : Outside = outside (g.S.Source.left c.talk_on-ending.new.source) (g.K.Sink.given c.talk_on-ending.new.sink) (g.O.Sink.given c.talk_on-ending.new.out) (g.S.Source.faults c.talk_on-ending.new.source) (g.K.Sink.faults c.talk_on-ending.new.sink) (g.O.Sink.faults c.talk_on-ending.new.out) in
    let next : Outlets = outlets (g.K.Sink.given c.talk_on-ending.new.sink) (g.O.Sink.given c.print_last-last.new.out) (g.K.Sink.faults c.talk_on-ending.new.sink) (g.O.Sink.faults c.print_last-last.new.out) in
    let new : Outlets = outlets (g.K.Sink.given c.hand_on.new.sink) (g.O.Sink.given c.hand_on.new.out) (g.K.Sink.faults c.hand_on.new.sink) (g.O.Sink.faults c.hand_on.new.out) in
    ended_whole c.args.errand _ mid next new c.talk_on-ending.result c.talk_on-ending.ensures
    (c.in-Ok-last.ensures (g.K.Sink.given c.talk_on-ending.new.sink) (g.K.Sink.faults c.talk_on-ending.new.sink)) c.in-Ok.ensures.kept

-- it could not be printed
pub returns-in-Err-last-clause-ended : goal.returns-in-Err-last-clause-ended
returns-in-Err-last-clause-ended g c =
    let mid : Outside = outside (g.S.Source.left c.talk_on-ending.new.source) (g.K.Sink.given c.talk_on-ending.new.sink) (g.O.Sink.given c.talk_on-ending.new.out) (g.S.Source.faults c.talk_on-ending.new.source) (g.K.Sink.faults c.talk_on-ending.new.sink) (g.O.Sink.faults c.talk_on-ending.new.out) in
    let next : Outlets = outlets (g.K.Sink.given c.talk_on-ending.new.sink) (g.O.Sink.given c.print_last-last.new.out) (g.K.Sink.faults c.talk_on-ending.new.sink) (g.O.Sink.faults c.print_last-last.new.out) in
    let new : Outlets = outlets (g.K.Sink.given c.hand_on.new.sink) (g.O.Sink.given c.hand_on.new.out) (g.K.Sink.faults c.hand_on.new.sink) (g.O.Sink.faults c.hand_on.new.out) in
    ended_unprinted c.args.errand _ mid next new c.talk_on-ending.result c.in-Err-last.failed c.talk_on-ending.ensures
    (c.in-Err-last.ensures (g.K.Sink.given c.talk_on-ending.new.sink) (g.K.Sink.faults c.talk_on-ending.new.sink)) c.in-Ok.ensures.kept

-- not all could be handed on
pub returns-in-Err-clause-ended : goal.returns-in-Err-clause-ended
returns-in-Err-clause-ended g c =
    let mid : Outside = outside (g.S.Source.left c.talk_on-ending.new.source) (g.K.Sink.given c.talk_on-ending.new.sink) (g.O.Sink.given c.talk_on-ending.new.out) (g.S.Source.faults c.talk_on-ending.new.source) (g.K.Sink.faults c.talk_on-ending.new.sink) (g.O.Sink.faults c.talk_on-ending.new.out) in
    let next : Outlets = outlets (g.K.Sink.given c.talk_on-ending.new.sink) (g.O.Sink.given c.print_last-last.new.out) (g.K.Sink.faults c.talk_on-ending.new.sink) (g.O.Sink.faults c.print_last-last.new.out) in
    let new : Outlets = outlets (g.K.Sink.given c.hand_on.new.sink) (g.O.Sink.given c.hand_on.new.out) (g.K.Sink.faults c.hand_on.new.sink) (g.O.Sink.faults c.hand_on.new.out) in
    ended_unsent c.args.errand _ mid next new c.talk_on-ending.result c.print_last-last.result c.talk_on-ending.ensures
    (c.print_last-last.ensures (g.K.Sink.given c.talk_on-ending.new.sink) (g.K.Sink.faults c.talk_on-ending.new.sink)) c.in-Err.ensures.kept
