-- A variable is its mark and the run of its bytes.
use Rattle.std.proofs.Common.{◌∙◌, sym}
use Rattle.sparql_text.proofs.TokenReadings.{empty_is, some_is, variable_found, variable_longest, variable_none, variable_unmarked}
use Rattle.sparql_text.proofs.readers.read_variable.Goals as goal

pub returns-in_err-more-clause-none : goal.returns-in_err-more-clause-none
returns-in_err-more-clause-none c = rw c.from_residual.ensures (variable_unmarked c.args.bytes.now c.in_err-more.ensures.none)

pub returns-then-is_empty-clause-none : goal.returns-then-is_empty-clause-none
returns-then-is_empty-clause-none c = variable_none c.args.bytes.now c.in_ok-more.more.now c.run.result.0.now c.run.result.1.now c.in_ok-more.ensures.found c.run.ensures
    (empty_is c.run.result.0.now (sym c.is_empty.ensures ∙ c.if-is_empty.true))

pub returns-clause-found : goal.returns-clause-found
returns-clause-found c = variable_found c.args.bytes.now c.in_ok-more.more.now c.run.result.0.now c.run.result.1.now c.in_ok-more.ensures.found c.run.ensures
    (some_is c.run.result.0.now (sym c.is_empty.ensures ∙ c.if-is_empty.false))

pub returns-clause-longest : goal.returns-clause-longest
returns-clause-longest c = variable_longest c.args.bytes.now c.in_ok-more.more.now c.run.result.0.now c.run.result.1.now c.in_ok-more.ensures.found c.run.ensures
