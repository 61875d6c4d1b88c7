use Rattle.std.proofs.Common.{refl}
use Rattle.kp_talk.specs.Ending.{Outside, outside}
use Rattle.kp_talk.proofs.TurnsGoOn.{turns_start, turns_fail}
use Rattle.kp_talk.proofs.run.talk_on.Goals as goal

-- the talk begins
pub read_all-requires : goal.read_all-requires
read_all-requires g c =
    let old : Outside = outside (g.S.Source.left c.args.source.now) (g.K.Sink.given c.args.sink.now) (g.O.Sink.given c.args.out.now) (g.S.Source.faults c.args.source.now) (g.K.Sink.faults c.args.sink.now) (g.O.Sink.faults c.args.out.now) in
    let now : Outside = outside (g.S.Source.left c.args.source.now) (g.K.Sink.given c.start.new.sink) (g.O.Sink.given c.args.out.now) (g.S.Source.faults c.args.source.now) (g.K.Sink.faults c.start.new.sink) (g.O.Sink.faults c.args.out.now) in
    (c.args.errand, old, turns_start c.args.errand old now c.in-Ok.party (c.in-Ok.ensures (g.O.Sink.given c.args.out.now) (g.O.Sink.faults c.args.out.now)) refl refl)

-- it came to its ending
pub returns-in-Ok : goal.returns-in-Ok
returns-in-Ok g c =
    let old : Outside = outside (g.S.Source.left c.args.source.now) (g.K.Sink.given c.args.sink.now) (g.O.Sink.given c.args.out.now) (g.S.Source.faults c.args.source.now) (g.K.Sink.faults c.args.sink.now) (g.O.Sink.faults c.args.out.now) in
    let now : Outside = outside (g.S.Source.left c.args.source.now) (g.K.Sink.given c.start.new.sink) (g.O.Sink.given c.args.out.now) (g.S.Source.faults c.args.source.now) (g.K.Sink.faults c.start.new.sink) (g.O.Sink.faults c.args.out.now) in
    c.read_all.ensures c.args.errand old (turns_start c.args.errand old now c.in-Ok.party (c.in-Ok.ensures (g.O.Sink.given c.args.out.now) (g.O.Sink.faults c.args.out.now)) refl refl)

-- it could not begin
pub returns-in-Err : goal.returns-in-Err
returns-in-Err g c =
    let begins = c.in-Err.ensures (g.O.Sink.given c.args.out.now) (g.O.Sink.faults c.args.out.now) in
    turns_fail c.args.errand _ _ c.in-Err.ending begins.0 begins.1 refl refl
