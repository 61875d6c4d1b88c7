use Rattle.std.proofs.Common.{◌≡◌, ◌∙◌, ap, sym, subst, arith, true, ◌==◌, ◌∷◌, ℕ, ◌++◌, List, [], length, take, append_assoc, append-nil, length-append, take-append-drop, refl}
use Rattle.std.proofs.lemmas.Bool.Decides.{nat_tests}
use Rattle.std.proofs.lemmas.Result.{err_from_is_err_and}
use Rattle.space_shared.specs.Exchanges.{SeatSight, HasOpened}
use Rattle.space_shared.specs.Listening.{Listens}
use Rattle.space_shared.proofs.Exchanges.{same_seats}
use Rattle.space_shared.proofs.Deliveries.{listens_as, stops_as}
use Rattle.space_shared.proofs.intake.Intake.feed.Goals as goal

-- no bytes are left where their length is none
empty : (bytes : List ℕ) → true ≡ (length bytes == 0) → bytes ≡ []
empty [] t = refl
empty (b ∷ bytes) t = absurd (grind (arith, nat_tests))

-- a longer prefix was taken
pub loop-rest-preserved : goal.loop-rest-preserved
loop-rest-preserved g c =
    let (front, whole, on) = c.loop-rest.invariant.front in
    let rest = c.loop-rest.rest.now in
    let count = c.in_ok-count.count in
    let longer = front ++ take count rest in
    let more : (link : ℕ) (first : SeatSight) (read : List ℕ) → Listens link first read c.args.self.now c.args.seat.now
    → Listens link first (read ++ longer) c.feed_some.new.self c.feed_some.new.seat =
    λ link first read x. listens_as link first c.feed_some.new.seat (read ++ front ++ take count rest) (read ++ longer) c.feed_some.new.self
    (c.in_ok-count.ensures.feeds link first (read ++ front) (on link first read x)) (append_assoc read front (take count rest))
    in
    let same : longer ++ c.split_at.result.1.now ≡ c.args.bytes.now =
    append_assoc front (take count rest) c.split_at.result.1.now ∙ ap (λ l. front ++ (take count rest ++ l)) c.split_at.ensures.back
    ∙ ap (λ l. front ++ l) (take-append-drop count rest) ∙ whole
    in
    let (link, first, read, x) = c.requires.listening in
    let then = more link first read x in
    record {
      seat = same_seats c.args.seat.now c.loop-rest.seat c.feed_some.new.seat c.loop-rest.invariant.seat c.feed_some.ensures.same_seat;
      opened = subst (λ l. HasOpened c.feed_some.new.seat l) c.loop-rest.invariant.link c.feed_some.ensures.opened;
      link = c.feed_some.ensures.same_link ∙ c.loop-rest.invariant.link;
      taken = omega (arith, then.follows.stands.taken, x.follows.stands.taken, ap length same, length-append longer c.split_at.result.1.now, length-append read longer);
      listening = (link, first, read ++ longer, then);
      front = (longer, same, more);
    }

-- the input ended
pub returns-in_err-count-clause-feeds : goal.returns-in_err-count-clause-feeds
returns-in_err-count-clause-feeds g c link first read x =
    let (front, whole, on) = c.loop-rest.invariant.front in
    let fed = c.in_err-count.ensures.feeds link first (read ++ front) (on link first read x) in
    let p = err_from_is_err_and c.from_residual.result c.from_residual.ensures.1 in
    rw (p.1, p.2) (stops_as link first c.feed_some.new.seat read front c.loop-rest.rest.now c.args.bytes.now _ fed.0 whole, fed.1)

-- all bytes were taken
pub returns-clause-feeds : goal.returns-clause-feeds
returns-clause-feeds g c link first read x =
    let (front, whole, on) = c.loop-rest.invariant.front in
    let none : c.loop-rest.rest.now ≡ [] = empty c.loop-rest.rest.now c.loop-rest-test.ensures in
    listens_as link first c.loop-rest.seat (read ++ front) (read ++ c.args.bytes.now) c.loop-rest.self (on link first read x)
    (ap (λ l. read ++ l) (sym (append-nil front) ∙ ap (λ l. front ++ l) (sym none) ∙ whole))
