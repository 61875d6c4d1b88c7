-- A name is the run of its prefix, `:` and the longest local part.
use Rattle.std.proofs.Common.{◌∙◌, sym, subst}
use Rattle.std.specs.Prelude.{IsTrue}
use Rattle.std.proofs.lemmas.Bool.{both_ways}
use Rattle.sparql_text.specs.Tokens.{is_prefix}
use Rattle.sparql_text.proofs.TokenReadings.{name_is_run, name_longest}
use Rattle.sparql_text.proofs.readers.read_name.Goals as goal

pub returns-in_err-more-clause-none : goal.returns-in_err-more-clause-none
returns-in_err-more-clause-none c = rw c.from_residual.ensures (λ prefix local left reads.
    c.in_err-more.ensures.none _ (name_is_run c.args.bytes.now c.run.result.0.now c.run.result.1.now prefix local left c.run.ensures reads).1)

pub returns-then-not-is_prefix-clause-none : goal.returns-then-not-is_prefix-clause-none
returns-then-not-is_prefix-clause-none c prefix local left reads =
    let same = (name_is_run c.args.bytes.now c.run.result.0.now c.run.result.1.now prefix local left c.run.ensures reads).0 in
    both_ways (is_prefix c.run.result.0.now) (sym c.is_prefix.ensures ∙ c.if-not-is_prefix.true) (subst (λ p. IsTrue (is_prefix p)) (sym same) reads.1.0)

pub returns-clause-longest : goal.returns-clause-longest
returns-clause-longest c = name_longest c.args.bytes.now c.run.result.0.now c.run.result.1.now c.in_ok-more.more.now c.split_local.result.0.now c.split_local.result.1.now
    c.run.ensures c.in_ok-more.ensures.found c.split_local.ensures
