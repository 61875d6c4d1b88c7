use Rattle.std.proofs.Common.{refl}
use Rattle.std.proofs.lemmas.Bool.{false≢true}
use Rattle.ssap_read.proofs.Each.{shorter}
use Rattle.ssap_grammar.proofs.Messages.{item_opens, item_alone}
use Rattle.ssap_read.proofs.Messaging.{reading_begins, item_missing, item_twice, item_taken, head_missing, content_only}
use Rattle.ssap_read.proofs.message.content.Goals as goal

pub each-init : goal.each-init
each-init c =
    reading_begins c.args.bytes.now _ _ c.new-gathered.ensures c.skip_spaces-rest.ensures.spaces c.skip_spaces-rest.ensures.stops

pub returns-in_default : goal.returns-in_default
returns-in_default c =
    item_missing c.args.bytes.now _ _ c.each.invariant (λ b. false≢true (c.each-test.ensures.1 b)) (rw c.in_default.is at c.in_ok-piece.ensures)

pub returns-then-not-taken : goal.returns-then-not-taken
returns-then-not-taken c =
    item_twice c.args.bytes.now _ _ _ _ _ _ c.each.invariant (rw c.in-Some.is at c.in_ok-piece.ensures) c.in_ok-taken.ensures c.if-not-taken.true

pub each-smaller : goal.each-smaller
each-smaller c =
    let p = (rw c.in-Some.is at c.in_ok-piece.ensures) in
    shorter (item_alone _) (item_opens _) _ _ _ p.reads c.skip_spaces-rest-in-each.ensures.spaces

pub each-preserved : goal.each-preserved
each-preserved c =
    item_taken c.args.bytes.now _ _ _ _ _ _ _ c.each.invariant (rw c.in-Some.is at c.in_ok-piece.ensures) c.skip_spaces-rest-in-each.ensures.spaces c.skip_spaces-rest-in-each.ensures.stops c.in_ok-taken.ensures c.if-not-taken.false

pub returns-in_default-complete : goal.returns-in_default-complete
returns-in_default-complete c =
    head_missing c.args.bytes.now _ _ c.each.invariant (c.each-test.ensures.0 refl) c.in_default-complete.ensures

pub returns : goal.returns
returns c =
    content_only c.args.bytes.now _ _ _ c.each.invariant (c.each-test.ensures.0 refl) c.in-Some-complete.ensures
