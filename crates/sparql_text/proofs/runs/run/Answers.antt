-- A run ends where `take_while` does.
use Rattle.std.proofs.Common.{◌∙◌, ap, take, drop}
use Rattle.std.proofs.lemmas.List.Sums.{prefix_len-le-length}
use Rattle.sparql_text.specs.Cutting.{is_of}
use Rattle.sparql_text.proofs.ByteRuns.{run_of}
use Rattle.sparql_text.proofs.runs.run.Goals as goal

pub split_at-requires : goal.split_at-requires
split_at-requires c = rw c.run_len.ensures (prefix_len-le-length (is_of c.args.class) c.args.bytes.now)

pub returns : goal.returns
returns c = run_of (is_of c.args.class) c.args.bytes.now _ _ (c.split_at.ensures.front ∙ ap (λ n. take n c.args.bytes.now) c.run_len.ensures)
    (c.split_at.ensures.back ∙ ap (λ n. drop n c.args.bytes.now) c.run_len.ensures)
