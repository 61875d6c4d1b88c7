-- The last byte decides.
use Rattle.std.proofs.Common.{sym}
use Rattle.sparql_text.proofs.ByteRuns.{dot_last}
use Rattle.sparql_text.proofs.runs.ends_in_dot.Goals as goal

pub returns-in-Some : goal.returns-in-Some
returns-in-Some c = sym (dot_last c.args.bytes.now c.in-Some.field-0-1.now c.in-Some.last.now c.in-Some.ensures.cases.0)
