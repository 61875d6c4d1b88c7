-- A line ends at the first byte that ends one, or with the bytes.
use Rattle.std.proofs.Common.{refl}
use Rattle.sparql_text.proofs.Gaps.{line_at, line_all}
use Rattle.sparql_text.proofs.gap.split_line.Goals as goal

pub returns-in-Some : goal.returns-in-Some
returns-in-Some c = line_at c.args.bytes.now _ _ c.in-Some.end c.in-Some.ensures.0 c.in-Some.ensures.1 c.split_at.ensures.front c.split_at.ensures.back

pub returns-in-None : goal.returns-in-None
returns-in-None c = line_all c.args.bytes.now _ _ _ c.in-None.ensures refl c.split_at-in-None.ensures.front c.split_at-in-None.ensures.back
