-- At the end all bytes are counted.
use Rattle.sparql_text.proofs.StringValues.{all_counted}
use Rattle.sparql_text.proofs.past.value_len.Goals as goal

pub returns : goal.returns
returns c value is = all_counted c.args.raw.now value c.bytes.left.now c.bytes.count c.bytes.escaped is c.in_default.ensures.cases c.bytes.invariant.counted
