use Rattle.std.proofs.Common.{refl, inl, inr}
use Rattle.stream_report.specs.Ending.{Outside, outside}
use Rattle.stream_report.specs.Giving.{Outlet, outlet}
use Rattle.stream_report.proofs.ReadsGoOn.{ended_flushed, ended_unflushed}
use Rattle.stream_report.proofs.run.write_report.Goals as goal

-- a flush that hands all on leaves the ending as it is
pub returns-in-Ok-clause-ended : goal.returns-in-Ok-clause-ended
returns-in-Ok-clause-ended g c =
    let old : Outside = outside (g.S.Source.left c.args.source.now) (g.K.Sink.given c.args.sink.now) (g.S.Source.faults c.args.source.now) (g.K.Sink.faults c.args.sink.now) in
    let mid : Outside = outside (g.S.Source.left c.read_all-ending.new.source) (g.K.Sink.given c.read_all-ending.new.sink) (g.S.Source.faults c.read_all-ending.new.source) (g.K.Sink.faults c.read_all-ending.new.sink) in
    let next : Outlet = outlet (g.K.Sink.given c.flush.new.self) (g.K.Sink.faults c.flush.new.self) in
    ended_flushed c.args.report old mid next c.read_all-ending.result c.flush.ensures.bytes c.in-Ok.ensures.cause.kept c.read_all-ending.ensures

pub returns-in-Ok-clause-handed : goal.returns-in-Ok-clause-handed
returns-in-Ok-clause-handed g c = inr c.in-Ok.ensures.handed

-- a flush that fails is a fault of the sink
pub returns-in-Err-clause-ended : goal.returns-in-Err-clause-ended
returns-in-Err-clause-ended g c =
    let old : Outside = outside (g.S.Source.left c.args.source.now) (g.K.Sink.given c.args.sink.now) (g.S.Source.faults c.args.source.now) (g.K.Sink.faults c.args.sink.now) in
    let mid : Outside = outside (g.S.Source.left c.read_all-ending.new.source) (g.K.Sink.given c.read_all-ending.new.sink) (g.S.Source.faults c.read_all-ending.new.source) (g.K.Sink.faults c.read_all-ending.new.sink) in
    let next : Outlet = outlet (g.K.Sink.given c.flush.new.self) (g.K.Sink.faults c.flush.new.self) in
    ended_unflushed c.args.report old mid next c.read_all-ending.result c.flush.ensures.bytes c.in-Err.ensures.cause.failed c.read_all-ending.ensures

pub returns-in-Err-clause-handed : goal.returns-in-Err-clause-handed
returns-in-Err-clause-handed g c = inl refl
