-- An IRI is the run of its bytes up to `>`.
use Rattle.std.proofs.Common.{◌∙◌, sym, subst}
use Rattle.m3_terms.specs.Text.{IsText}
use Rattle.std.proofs.lemmas.Bool.{both_ways}
use Rattle.sparql_text.proofs.TokenReadings.{empty_is, iri_is_run}
use Rattle.sparql_text.proofs.readers.read_iri.Goals as goal
use Rattle.sparql_text.proofs.readers.read_iri.Goals.{then-is_empty-via-then-is_empty, then-is_empty-via-else-is_empty+then-not-is_text}

pub returns-in_err-rest-clause-none : goal.returns-in_err-rest-clause-none
returns-in_err-rest-clause-none c = rw c.from_residual-in_err-rest.ensures (λ value left reads.
    c.in_err-rest.ensures.none left
    (iri_is_run c.args.bytes.now c.in_ok-more.more.now c.run.result.0.now c.run.result.1.now value left c.in_ok-more.ensures.found c.run.ensures reads).1)

pub returns-then-is_empty-clause-none : goal.returns-then-is_empty-clause-none
returns-then-is_empty-clause-none c value left reads =
    let same = (iri_is_run c.args.bytes.now c.in_ok-more.more.now c.run.result.0.now c.run.result.1.now value left c.in_ok-more.ensures.found c.run.ensures reads).0 in
    elim c.then-is_empty.branch [
      | then-is_empty-via-then-is_empty w ↦ reads.1.1 (sym same ∙ empty_is c.run.result.0.now (sym c.is_empty.ensures ∙ w.if-is_empty.true))
      | then-is_empty-via-else-is_empty+then-not-is_text w ↦
          both_ways w.is_text.result w.if-not-is_text.true (w.is_text.ensures.1 (subst IsText (sym same) reads.1.0))
    ]
