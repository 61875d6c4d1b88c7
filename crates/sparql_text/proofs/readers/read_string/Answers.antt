-- A string is its quotes and what stands between them.
use Rattle.std.proofs.Common.{sym, subst}
use Rattle.std.proofs.lemmas.Bool.{both_ways}
use Rattle.m3_terms.specs.Text.{IsText}
use Rattle.sparql_text.proofs.TokenReadings.{string_found, string_is}
use Rattle.sparql_text.proofs.readers.read_string.Goals as goal

pub returns-then-not-is_text-clause-none : goal.returns-then-not-is_text-clause-none
returns-then-not-is_text-clause-none c value left reads =
    let q = c.in_ok-quote.ensures.found in
    let same = (string_is c.args.bytes.now c.in_ok-quote.more.now c.in_ok-raw.raw.now c.in_ok-raw.ensures.value.0 c.in_ok-raw.rest.now value left c.in_ok-quote.quote
    q.0 q.1 c.in_ok-raw.ensures.found c.in_ok-raw.ensures.value.1 reads).0 in
    both_ways c.is_text.result c.if-not-is_text.true (c.is_text.ensures.1 (subst IsText (sym same) reads.1.3))

pub returns-clause-found : goal.returns-clause-found
returns-clause-found c =
    let q = c.in_ok-quote.ensures.found in
    let v = c.in_ok-raw.ensures.value in (
      v.0,
      (c.in_ok-quote.quote, q.0, v.1),
      string_found c.args.bytes.now c.in_ok-quote.more.now c.in_ok-raw.raw.now v.0 c.in_ok-raw.rest.now c.in_ok-quote.quote q.0 q.1 c.in_ok-raw.ensures.found v.1
          (c.is_text.ensures.0 c.if-not-is_text.false),
    )
