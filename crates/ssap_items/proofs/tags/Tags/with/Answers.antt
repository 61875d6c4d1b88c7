-- One flag is set, and the others stay.
use Rattle.std.proofs.Common.{arith}
use Rattle.ssap_items.proofs.TagLaws.{with_start, with_finish}
use Rattle.ssap_items.proofs.tags.Tags.with.Goals as goal

pub returns-in-Start : goal.returns-in-Start
returns-in-Start c other =
    rw c.in-Start.is (with_start c.args.self c.in-Start.name c.number.result c.number.ensures.value (omega arith) other)

pub returns-in-Finish : goal.returns-in-Finish
returns-in-Finish c other =
    rw c.in-Finish.is (with_finish c.args.self c.in-Finish.name c.number-in-Finish.result c.number-in-Finish.ensures.value (omega arith) other)
