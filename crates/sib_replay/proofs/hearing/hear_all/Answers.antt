use Rattle.std.proofs.Common.{◌≡◌, ◌∙◌, ap, sym, refl, subst, arith, true, ◌==◌, ◌∷◌, ℕ, ◌+◌, ◌++◌, List, [], length, take, Option, Some, append_assoc, append-nil, length-append, take-append-drop}
use Rattle.std.proofs.lemmas.Bool.Decides.{nat_tests}
use Rattle.std.proofs.lemmas.Result.{err_from_is_err_and}
use Rattle.session_core.specs.Space.{Space}
use Rattle.ssap_decode.specs.Decoding.{Decoding}
use Rattle.sib_replay.specs.Doing.{Seen, seen, Does}
use Rattle.sib_replay.specs.Output.{Event, space_after, answers_after, rows_after}
use Rattle.sib_replay.specs.Session.{Follows, Hearing, HearsSome}
use Rattle.sib_replay.proofs.DoingLemmas.{does_nothing}
use Rattle.sib_replay.proofs.DeliveryLemmas.{hearing_starts, hears_all_on, hears_all_stops, hears_all_fault}
use Rattle.sib_replay.proofs.hearing.hear_all.Goals as goal

-- no bytes are left where their length is none
empty : (bytes : List ℕ) → true ≡ (length bytes == 0) → bytes ≡ []
empty [] t = refl
empty (b ∷ bytes) t = absurd (grind (arith, nat_tests))

-- nothing was taken yet
pub loop-rest-init : goal.loop-rest-init
loop-rest-init g c = record {
  taken = refl;
  following = c.requires.following;
  drained = c.requires.drained;
  front = (
    [],
    refl,
    λ name before heard came is f.
        ([], hearing_starts name before c.args.link came heard c.args.core.now.space c.args.decoder.now f is c.requires.runs, does_nothing _),
  );
}

-- a longer prefix was taken and answered
pub loop-rest-preserved : goal.loop-rest-preserved
loop-rest-preserved g c =
    let (front, whole, on) = c.loop-rest.invariant.front in
    let rest = c.loop-rest.rest.now in
    let count = c.in-Some.count in
    let longer = front ++ take count rest in
    let link = c.args.link in
    let space : Space = c.hear_some.new.core.space in
    let decoder : Decoding = c.hear_some.new.decoder in
    let old : Seen = seen (g.K.Sink.given c.args.sink.now) (g.K.Sink.faults c.args.sink.now) c.args.steps.now in
    let new : Seen = seen (g.K.Sink.given c.hear_some.new.sink) (g.K.Sink.faults c.hear_some.new.sink) c.hear_some.new.steps in
    let e = c.in_ok-count.ensures in
    let same : longer ++ c.split_at.result.1.now ≡ c.args.bytes.now =
    append_assoc front (take count rest) c.split_at.result.1.now ∙ ap (λ l. front ++ (take count rest ++ l)) c.split_at.ensures.back
    ∙ ap (λ l. front ++ l) (take-append-drop count rest) ∙ whole
    in
    let step : (name : List ℕ) (before : List Event) (heard : List ℕ) (came : ℕ) → c.args.core.now.space ≡ space_after name before → Follows c.args.decoder.now heard came
    → (events : List Event) × Hearing name before link came (heard ++ longer) events space decoder × Does old new (answers_after name before events) (rows_after name before events) =
    λ name before heard came is f.
    let (events, h, p) = on name before heard came is f in
    let some : HearsSome name before link came (heard ++ front) events rest old new space decoder (Some count) =
    subst (λ (o : Option ℕ). HearsSome name before link came (heard ++ front) events rest old new space decoder o) c.in-Some.is
    (e.heard name before (heard ++ front) came events old h p)
    in (
      events ++ some.0,
      subst (λ (l : List ℕ). Hearing name before link came l (events ++ some.0) space decoder) (append_assoc heard front (take count rest)) some.1,
      some.2,
    )
    in
    let (heard, came, f) = c.requires.following in
    let (name, before, is) = c.requires.behind in
    let (events, h, p) = step name before heard came is f in
    record {
      taken = omega (arith, h.follows.stands.taken, f.stands.taken, ap length same, length-append longer c.split_at.result.1.now, length-append heard longer);
      following = (heard ++ longer, came + length events, h.follows);
      drained = e.drained;
      front = (longer, same, step);
    }

-- a fault came
pub returns-in_err-count : goal.returns-in_err-count
returns-in_err-count g c name before heard came is f =
    let (front, whole, on) = c.loop-rest.invariant.front in
    let (events, h, done) = on name before heard came is f in
    let p = err_from_is_err_and c.from_residual.result c.from_residual.ensures.1 in
    rw (p.1, p.2) (hears_all_fault name before c.args.link came heard front c.loop-rest.rest.now c.args.bytes.now _ _ _ (c.in_err-count.ensures.heard name before (heard ++ front) came events _ h done) whole)

-- the link stops
pub returns-in-None : goal.returns-in-None
returns-in-None g c name before heard came is f =
    let (front, whole, on) = c.loop-rest.invariant.front in
    let (events, h, done) = on name before heard came is f in
    let space : Space = c.hear_some.new.core.space in
    let old : Seen = seen (g.K.Sink.given c.args.sink.now) (g.K.Sink.faults c.args.sink.now) c.args.steps.now in
    let new : Seen = seen (g.K.Sink.given c.hear_some.new.sink) (g.K.Sink.faults c.hear_some.new.sink) c.hear_some.new.steps in
    hears_all_stops name before c.args.link came heard front c.loop-rest.rest.now c.args.bytes.now events old new space c.hear_some.new.decoder
    (subst (λ (o : Option ℕ). HearsSome name before c.args.link came (heard ++ front) events c.loop-rest.rest.now old new space c.hear_some.new.decoder o) c.in-None.is
    (c.in_ok-count.ensures.heard name before (heard ++ front) came events old h done)) whole

-- the link goes on behind all bytes
pub returns : goal.returns
returns g c name before heard came is f =
    let (front, whole, on) = c.loop-rest.invariant.front in
    let (events, h, done) = on name before heard came is f in
    let none : c.loop-rest.rest.now ≡ [] = empty c.loop-rest.rest.now c.loop-rest-test.ensures in
    hears_all_on name before c.args.link came heard front c.args.bytes.now events _ _ c.loop-rest.core.space c.loop-rest.decoder h done
    (sym (append-nil front) ∙ ap (λ l. front ++ l) (sym none) ∙ whole)
