use Rattle.std.proofs.Common.{refl}
use Rattle.std.proofs.lemmas.Bool.{false≢true}
use Rattle.ssap_grammar.specs.Table.{ReadsResult}
use Rattle.ssap_grammar.proofs.Tables.{result_alone, result_opens}
use Rattle.ssap_read.proofs.Each.{begin, more, each_only, each_none, shorter}
use Rattle.ssap_read.proofs.table.each_result_row.Goals as goal

pub each-init : goal.each-init
each-init c = begin ReadsResult result_opens c.args.bytes.now _ _ c.new-result_rows.ensures c.skip_spaces-rest.ensures.spaces c.skip_spaces-rest.ensures.stops

pub returns-in_default : goal.returns-in_default
returns-in_default c =
    each_none ReadsResult c.args.bytes.now _ _ c.each.invariant (λ b. false≢true (c.each-test.ensures.1 b)) (rw c.in_default.is at c.in_ok-result_row.ensures)

pub each-smaller : goal.each-smaller
each-smaller c =
    let p = rw c.in-Some.is at c.in_ok-result_row.ensures in
    shorter (result_alone _) (result_opens _) _ _ _ p.reads c.skip_spaces-rest-in-each.ensures.spaces

pub each-preserved : goal.each-preserved
each-preserved c =
    more ReadsResult result_opens c.args.bytes.now _ _ _ _ _ _ c.each.invariant c.in_ok-push.ensures.ok (rw c.in-Some.is at c.in_ok-result_row.ensures)
    c.skip_spaces-rest-in-each.ensures.spaces c.skip_spaces-rest-in-each.ensures.stops

pub returns : goal.returns
returns c = each_only ReadsResult result_opens c.args.bytes.now _ _ c.each.invariant (c.each-test.ensures.0 refl)
