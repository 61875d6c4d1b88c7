use Rattle.std.proofs.Common.{refl}
use Rattle.std.proofs.lemmas.Bool.{false≢true}
use Rattle.ssap_grammar.specs.Triples.{ReadsTriple}
use Rattle.ssap_grammar.proofs.Triples.{triple_alone, triple_opens}
use Rattle.ssap_read.proofs.Each.{begin, more, each_only, each_none, shorter}
use Rattle.ssap_read.proofs.triple.each_triple.Goals as goal

pub each-init : goal.each-init
each-init c = begin ReadsTriple triple_opens c.args.bytes.now _ _ c.new-triples.ensures c.skip_spaces-rest.ensures.spaces c.skip_spaces-rest.ensures.stops

pub returns-in_default : goal.returns-in_default
returns-in_default c =
    each_none ReadsTriple c.args.bytes.now _ _ c.each.invariant (λ b. false≢true (c.each-test.ensures.1 b)) (rw c.in_default.is at c.in_ok-triple.ensures)

pub each-smaller : goal.each-smaller
each-smaller c =
    let p = rw c.in-Some.is at c.in_ok-triple.ensures in
    shorter (triple_alone _) (triple_opens _) _ _ _ p.reads c.skip_spaces-rest-in-each.ensures.spaces

pub each-preserved : goal.each-preserved
each-preserved c =
    more ReadsTriple triple_opens c.args.bytes.now _ _ _ _ _ _ c.each.invariant c.in_ok-push.ensures.ok (rw c.in-Some.is at c.in_ok-triple.ensures)
    c.skip_spaces-rest-in-each.ensures.spaces c.skip_spaces-rest-in-each.ensures.stops

pub returns : goal.returns
returns c = each_only ReadsTriple triple_opens c.args.bytes.now _ _ c.each.invariant (c.each-test.ensures.0 refl)
