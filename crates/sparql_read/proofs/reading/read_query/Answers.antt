-- What was judged of a text decides what is answered.
use Rattle.std.proofs.lemmas.Result.{err_from_is_err_and}
use Rattle.sparql_text.specs.Faults.Refuses.{NoMemory}
use Rattle.sparql_text.specs.Naming.{declarations}
use Rattle.sparql_read.proofs.TextsRead.{reads_query, reads_place, reads_limit, lacks_distinct, reads_not_distinct, is_fine, few_names, is_valid}
use Rattle.sparql_read.proofs.reading.read_query.Goals as goal

pub returns-in_err-judgement-clause-fault : goal.returns-in_err-judgement-clause-fault
returns-in_err-judgement-clause-fault c =
    let p = err_from_is_err_and c.from_residual.result c.from_residual.ensures.1 in
    rw (p.1, p.2) NoMemory

pub returns-in-NotInProfile-clause-reading : goal.returns-in-NotInProfile-clause-reading
returns-in-NotInProfile-clause-reading c =
    reads_place c.args.text.now c.in_ok-judgement.judgement c.in-NotInProfile.place c.in_ok-judgement.ensures c.in-NotInProfile.is

pub returns-in-OverLimit-clause-reading : goal.returns-in-OverLimit-clause-reading
returns-in-OverLimit-clause-reading c =
    reads_limit c.args.text.now c.in_ok-judgement.judgement c.in-OverLimit.which c.in-OverLimit.place c.in_ok-judgement.ensures c.in-OverLimit.is

pub build-requires-clause-said : goal.build-requires-clause-said
build-requires-clause-said c =
    rw (c.as_slice.ensures.value, c.as_slice-in-Fine.ensures.value)
    (is_fine c.args.text.now c.in_ok-judgement.judgement c.in-Fine.distinct c.in_ok-judgement.ensures c.in-Fine.is c.if-not-distinct.false)

pub build-requires-clause-few : goal.build-requires-clause-few
build-requires-clause-few c =
    let fine = is_fine c.args.text.now c.in_ok-judgement.judgement c.in-Fine.distinct c.in_ok-judgement.ensures c.in-Fine.is c.if-not-distinct.false in
    rw c.as_slice.ensures.value
    (few_names c.args.text.now fine.0 c.in_ok-judgement.judgement.variables.items (declarations c.in_ok-judgement.judgement.declared.items) fine.1)

pub returns-in_err-build-in-Fine-clause-fault : goal.returns-in_err-build-in-Fine-clause-fault
returns-in_err-build-in-Fine-clause-fault c =
    let p = err_from_is_err_and c.from_residual-in_err-build-in-Fine.result c.from_residual-in_err-build-in-Fine.ensures.1 in
    rw (p.1, p.2) NoMemory

pub returns-then-not-distinct-clause-fault : goal.returns-then-not-distinct-clause-fault
returns-then-not-distinct-clause-fault c =
    lacks_distinct c.args.text.now c.in_ok-judgement.judgement c.in-Fine.distinct c.in_ok-judgement.ensures c.in-Fine.is c.if-not-distinct.true

pub returns-then-not-distinct-clause-reading : goal.returns-then-not-distinct-clause-reading
returns-then-not-distinct-clause-reading c =
    reads_not_distinct c.args.text.now
    (lacks_distinct c.args.text.now c.in_ok-judgement.judgement c.in-Fine.distinct c.in_ok-judgement.ensures c.in-Fine.is c.if-not-distinct.true)

pub returns-clause-valid : goal.returns-clause-valid
returns-clause-valid c = is_valid c.args.text.now c.in_ok-build-in-Fine.field-0 c.in_ok-build-in-Fine.ensures

pub returns-clause-reading : goal.returns-clause-reading
returns-clause-reading c = reads_query c.args.text.now c.in_ok-build-in-Fine.field-0 c.in_ok-build-in-Fine.ensures
