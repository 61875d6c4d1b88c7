use Rattle.std.proofs.Common.{◌∙◌}
use Rattle.sib_replay.proofs.EndLemmas.{ends_refused, ends_script, ends_unwritten}
use Rattle.sib_replay.proofs.replay.Replay.finish.Goals as goal

-- an input that ends inside an entry
pub returns-in-Err : goal.returns-in-Err
returns-in-Err g c name old steps read h =
    ends_refused name old _ read c.args.self.now.reader c.end.new.self c.args.self.now.session c.in-Err.fault (g.K.Sink.given c.refuse.new.sink)
    (g.K.Sink.faults c.refuse.new.sink) c.refuse.result h c.in-Err.ensures.ends c.refuse.ensures.place

-- a script, and its last line
pub returns-in-Ok : goal.returns-in-Ok
returns-in-Ok g c name old steps read h =
    ends_script name old _ read c.args.self.now.reader c.end.new.self c.args.self.now.session c.in_default.field-0 (g.K.Sink.given c.write_last.new.sink)
    (g.K.Sink.faults c.write_last.new.sink) c.deref.result.now c.write_last.result h c.in_default.ensures.ends (c.deref.ensures.value ∙ c.in-Ok.ensures) c.write_last.ensures

-- a script, and no memory for its last line
pub returns-in-Err-last_line : goal.returns-in-Err-last_line
returns-in-Err-last_line g c name old steps read h =
    ends_unwritten name old _ read c.args.self.now.reader c.end.new.self c.args.self.now.session h
