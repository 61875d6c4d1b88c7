-- One triple more.
use Rattle.std.proofs.Common.{◌≡◌, ◌<◌, ◌+◌, sym, subst, get_or, length, take}
use Rattle.std.specs.List.{AllZip}
use Rattle.answer_bodies.specs.Reading.{IsTripleOf}
use Rattle.answer_bodies.proofs.Zips.{zip_more}
use Rattle.answer_bodies.proofs.read.given_triples.Goals as goal

pub loop-raw-preserved : goal.loop-raw-preserved
loop-raw-preserved c =
    let item = c.raw-item.result in
    let i = c.loop-raw.raw-index in
    let items = c.args.raws.now in
    subst (λ l. AllZip IsTripleOf (take (i + 1) items) l) (sym c.in_ok-push-in-Some.ensures.ok)
    (zip_more IsTripleOf items c.loop-raw.given i item c.in-Some.triple
    (subst (λ l. i < length l) c.as_slice-raw-items.ensures c.loop-raw-test.true)
    (subst (λ l. item ≡ get_or l i item) c.as_slice-raw-items.ensures c.raw-item.is)
    c.loop-raw.invariant (rw c.in-Some.is at c.in_ok-triple.ensures))
