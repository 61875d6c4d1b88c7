-- A line behind `#` that is no text is no comment.
use Rattle.std.proofs.lemmas.Bool.{both_ways}
use Rattle.sparql_text.proofs.Gaps.{comment_none}
use Rattle.sparql_text.proofs.gap.behind_comment.Goals as goal

pub returns-else-is_text-clause-none : goal.returns-else-is_text-clause-none
returns-else-is_text-clause-none c =
    comment_none c.args.bytes.now c.in_ok-behind.field-0.now c.split_line.result.0.now c.split_line.result.1.now c.in_ok-behind.ensures.found c.split_line.ensures
    (λ text. both_ways c.is_text.result c.if-is_text.false (c.is_text.ensures.1 text))
