-- A line with a length is that of a message, and any other has none.
use Rattle.std.proofs.Common.{◌∙◌}
use Rattle.replay_trial.specs.Reading.{message_of}
use Rattle.replay_trial.proofs.Counting.{sized, unsized}
use Rattle.replay_trial.proofs.replies.next_line.Goals as goal

pub returns-in-Some-clause-message : goal.returns-in-Some-clause-message
returns-in-Some-clause-message c line more is =
    let s = sized c.args.bytes.now c.cut.result.0.now c.cut.result.1.now more c.cut.ensures.apart c.cut.ensures.counted line c.size_of.result c.in-Some.size is (c.size_of.ensures.header, c.size_of.ensures.other) c.in-Some.is in
    (c.message_of.ensures.message (message_of line) more s.0 s.1).0

pub returns-in-Some-clause-rest : goal.returns-in-Some-clause-rest
returns-in-Some-clause-rest c line more is =
    let s = sized c.args.bytes.now c.cut.result.0.now c.cut.result.1.now more c.cut.ensures.apart c.cut.ensures.counted line c.size_of.result c.in-Some.size is (c.size_of.ensures.header, c.size_of.ensures.other) c.in-Some.is in
    (c.message_of.ensures.message (message_of line) more s.0 s.1).1

pub returns-in-None-clause-message : goal.returns-in-None-clause-message
returns-in-None-clause-message c line more is =
    c.split_at.ensures.front ∙ (unsized c.args.bytes.now c.cut.result.0.now c.cut.result.1.now more c.cut.ensures.apart c.cut.ensures.counted line c.size_of.result is (c.size_of.ensures.header, c.size_of.ensures.other) c.in-None.is).0

pub returns-in-None-clause-rest : goal.returns-in-None-clause-rest
returns-in-None-clause-rest c line more is =
    c.split_at.ensures.back ∙ (unsized c.args.bytes.now c.cut.result.0.now c.cut.result.1.now more c.cut.ensures.apart c.cut.ensures.counted line c.size_of.result is (c.size_of.ensures.header, c.size_of.ensures.other) c.in-None.is).1
