-- Piece by piece, until none comes.
use Rattle.sparql_text.specs.Lexing.Gap.{Nothing}
use Rattle.sparql_text.proofs.Gaps.{gap_more, gap_stops}
use Rattle.sparql_text.proofs.gap.skip_gap.Goals as goal

pub gap-init : goal.gap-init
gap-init c = Nothing c.args.bytes.now

pub gap-preserved : goal.gap-preserved
gap-preserved c = gap_more c.args.bytes.now c.gap.rest.now c.in-Some.more.now c.gap.invariant c.in-Some.ensures.found

pub returns-clause-stops : goal.returns-clause-stops
returns-clause-stops c left = gap_stops c.gap.rest.now left c.in_default.ensures.none
