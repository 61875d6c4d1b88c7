-- Of bytes that may each stand in a prefix the first and the last decide.
use Rattle.std.proofs.Common.{◌∙◌, sym}
use Rattle.sparql_text.proofs.ByteRuns.{prefix_at}
use Rattle.sparql_text.proofs.runs.is_prefix.Goals as goal

pub returns-then-is_letter : goal.returns-then-is_letter
returns-then-is_letter c =
    prefix_at c.args.bytes.now c.in-Some.first.now c.in-Some.others.now c.ends_in_dot.result c.in-Some.ensures.cases.0 c.requires
    (sym c.is_letter.ensures ∙ c.if-is_letter.true) c.ends_in_dot.ensures
