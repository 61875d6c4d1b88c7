-- The run behind the first byte, without the dots at its end.
use Rattle.std.proofs.Common.{◌∙◌, sym}
use Rattle.sparql_text.proofs.ByteRuns.{local_longest, longest_local_at}
use Rattle.sparql_text.proofs.runs.split_local.Goals as goal

pub returns : goal.returns
returns c = longest_local_at c.args.bytes.now _ _ _ _ c.split_at-2.ensures.front c.split_at-2.ensures.back
    (local_longest c.args.bytes.now c.in-Some.first.now c.in-Some.others.now c.run.result.0.now c.run.result.1.now c.undotted_len.result
    c.in-Some.ensures.cases.0 (sym c.is_local_first.ensures ∙ c.if-not-is_local_first.false) c.run.ensures c.undotted_len.ensures.within
    c.undotted_len.ensures.undotted c.undotted_len.ensures.longest)
