use Rattle.std.proofs.Common.{refl}
use Rattle.std.proofs.lemmas.Bool.{false≢true}
use Rattle.ssap_grammar.specs.Table.{ReadsVariable}
use Rattle.ssap_grammar.proofs.Tables.{variable_alone, variable_opens}
use Rattle.ssap_read.proofs.Each.{begin, more, each_only, each_none, shorter}
use Rattle.ssap_read.proofs.table.each_variable.Goals as goal

pub each-init : goal.each-init
each-init c = begin ReadsVariable variable_opens c.args.bytes.now _ _ c.new-variables.ensures c.skip_spaces-rest.ensures.spaces c.skip_spaces-rest.ensures.stops

pub returns-in_default : goal.returns-in_default
returns-in_default c =
    each_none ReadsVariable c.args.bytes.now _ _ c.each.invariant (λ b. false≢true (c.each-test.ensures.1 b)) (rw c.in_default.is at c.in_ok-variable.ensures)

pub each-smaller : goal.each-smaller
each-smaller c =
    let p = rw c.in-Some.is at c.in_ok-variable.ensures in
    shorter (variable_alone _) (variable_opens _) _ _ _ p.reads c.skip_spaces-rest-in-each.ensures.spaces

pub each-preserved : goal.each-preserved
each-preserved c =
    more ReadsVariable variable_opens c.args.bytes.now _ _ _ _ _ _ c.each.invariant c.in_ok-push.ensures.ok (rw c.in-Some.is at c.in_ok-variable.ensures)
    c.skip_spaces-rest-in-each.ensures.spaces c.skip_spaces-rest-in-each.ensures.stops

pub returns : goal.returns
returns c = each_only ReadsVariable variable_opens c.args.bytes.now _ _ c.each.invariant (c.each-test.ensures.0 refl)
