-- Behind the gap stands a token, the end, or no token.
use Rattle.std.proofs.Common.{◌∙◌, sym, arith}
use Rattle.sparql_text.proofs.Gaps.{gap_shorter, begins_shorter}
use Rattle.sparql_text.proofs.TokenReadings.{some_is}
use Rattle.sparql_text.proofs.next.next_token.Goals as goal

pub overflow_sub-place : goal.overflow_sub-place
overflow_sub-place c = let less = gap_shorter c.args.bytes.now c.skip_gap-rest.result.now c.skip_gap-rest.ensures.gap in omega (arith, less, c.requires)

pub returns-in-Some-clause-next : goal.returns-in-Some-clause-next
returns-in-Some-clause-next c =
    let less = gap_shorter c.args.bytes.now c.skip_gap-rest.result.now c.skip_gap-rest.ensures.gap in
    let found = c.in-Some.ensures.found in
    (found.0, c.skip_gap-rest.result.now, found.1, c.skip_gap-rest.ensures.gap, found.2, omega (arith, less, c.requires))

pub returns-in-Some-clause-goes_on : goal.returns-in-Some-clause-goes_on
returns-in-Some-clause-goes_on c =
    let less = gap_shorter c.args.bytes.now c.skip_gap-rest.result.now c.skip_gap-rest.ensures.gap in
    let found = c.in-Some.ensures.found in
    let fewer = begins_shorter found.0 c.skip_gap-rest.result.now c.in-Some.rest.now found.2 in
    omega (arith, less, fewer)

pub returns-in-None-clause-next : goal.returns-in-None-clause-next
returns-in-None-clause-next c =
    let less = gap_shorter c.args.bytes.now c.skip_gap-rest.result.now c.skip_gap-rest.ensures.gap in (
      c.skip_gap-rest.result.now,
      c.skip_gap-rest.ensures.gap,
      record {
        some = some_is c.skip_gap-rest.result.now (sym c.is_empty.ensures ∙ c.if-is_empty.false);
        token = c.in-None.ensures.none;
        gap = c.skip_gap-rest.ensures.stops;
      },
      omega (arith, less, c.requires),
    )
