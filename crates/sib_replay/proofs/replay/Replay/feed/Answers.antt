use Rattle.std.proofs.Common.{◌≡◌, ◌∙◌, ap, sym, refl, subst, arith, ℕ, ◌++◌, List, [], take, drop, append_assoc, append-nil, take-append-drop}
use Rattle.std.proofs.lemmas.Result.{err_from_is_err_and}
use Rattle.sib_replay.specs.Doing.{Seen, seen}
use Rattle.sib_replay.specs.Session.{Replays, Stops}
use Rattle.sib_replay.proofs.replay.Replay.feed.Goals as goal

-- nothing was read yet
pub loop-rest-init : goal.loop-rest-init
loop-rest-init g c = record {
  taken = refl;
  ongoing = c.requires.ongoing;
  front = (
    [],
    refl,
    λ name old read h. subst (λ (l : List ℕ). Replays name old (seen (g.K.Sink.given c.args.sink.now) (g.K.Sink.faults c.args.sink.now) c.args.steps.now) l c.args.self.now.reader c.args.self.now.session)
        (sym (append-nil read)) h,
  );
}

-- what stopped the rest stops all
pub returns-in_err-count : goal.returns-in_err-count
returns-in_err-count g c name old read h =
    let p = err_from_is_err_and c.from_residual.result c.from_residual.ensures.1 in
    let (front, whole, on) = c.loop-rest.invariant.front in
    let new : Seen = seen (g.K.Sink.given c.feed_some.new.sink) (g.K.Sink.faults c.feed_some.new.sink) c.feed_some.new.steps in
    let ending = c.in_err-count.field-0.0 in
    let stops = c.in_err-count.ensures.fed name old (read ++ front) (on name old read h) in
    let same : (read ++ front) ++ c.loop-rest.rest.now ≡ read ++ c.args.bytes.now = append_assoc read front c.loop-rest.rest.now ∙ ap (λ l. read ++ l) whole in
    rw (p.1, p.2) (subst (λ (l : List ℕ). Stops name old new l ending) same stops)

-- a longer prefix was read and answered
pub loop-rest-preserved : goal.loop-rest-preserved
loop-rest-preserved g c =
    let (front, whole, on) = c.loop-rest.invariant.front in
    let rest = c.loop-rest.rest.now in
    let count = c.in_ok-count.count in
    let back : c.split_at.result.1.now ≡ drop count rest = c.split_at.ensures.back in
    let same : (front ++ take count rest) ++ c.split_at.result.1.now ≡ c.args.bytes.now =
    append_assoc front (take count rest) c.split_at.result.1.now ∙ ap (λ l. front ++ (take count rest ++ l)) back
    ∙ ap (λ l. front ++ l) (take-append-drop count rest) ∙ whole
    in
    record {
      taken = omega (arith, c.in_ok-count.ensures.taken, c.split_at.ensures.back_len, c.loop-rest.invariant.taken, c.in_ok-count.ensures.within);
      ongoing = c.in_ok-count.ensures.ongoing;
      front = (
        front ++ take count rest,
        same,
        λ name old read h.
            subst (λ (l : List ℕ). Replays name old (seen (g.K.Sink.given c.feed_some.new.sink) (g.K.Sink.faults c.feed_some.new.sink) c.feed_some.new.steps) l c.feed_some.new.self.reader c.feed_some.new.self.session)
            (append_assoc read front (take count rest)) (c.in_ok-count.ensures.fed name old (read ++ front) (on name old read h)),
      );
    }
