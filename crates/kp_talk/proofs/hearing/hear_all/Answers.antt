use Rattle.std.proofs.Common.{◌≡◌, ◌∙◌, ap, sym, refl, arith, true, ◌==◌, ◌∷◌, ℕ, ◌++◌, List, [], length, take, None, append_assoc, append-nil, length-append, take-append-drop}
use Rattle.std.proofs.lemmas.Bool.Decides.{nat_tests}
use Rattle.std.proofs.lemmas.Result.{err_from_is_err_and}
use Rattle.kp_talk.specs.Saying.{Outlets, outlets}
use Rattle.kp_talk.specs.Listening.{Listens}
use Rattle.kp_talk.specs.declared.errand.Errand.{Errand}
use Rattle.kp_talk.proofs.BytesAreHeard.{heard_as, hears_last, heard_anew}
use Rattle.kp_talk.proofs.hearing.hear_all.Goals as goal

-- no bytes are left where their length is none
empty : (bytes : List ℕ) → true ≡ (length bytes == 0) → bytes ≡ []
empty [] t = refl
empty (b ∷ bytes) t = absurd (grind (arith, nat_tests))

-- nothing was heard yet
pub loop-rest-init : goal.loop-rest-init
loop-rest-init g c = record {
  taken = refl;
  listening = c.requires.listening;
  front = ([], refl, λ errand old heard l. heard_as errand old _ heard (heard ++ []) c.args.party.now c.args.decoder.now l (sym (append-nil heard)));
}

-- a longer prefix was heard
pub loop-rest-preserved : goal.loop-rest-preserved
loop-rest-preserved g c =
    let (front, whole, on) = c.loop-rest.invariant.front in
    let rest = c.loop-rest.rest.now in
    let count = c.in_ok-count.count in
    let longer = front ++ take count rest in
    let before : Outlets = outlets (g.K.Sink.given c.args.sink.now) (g.O.Sink.given c.args.out.now) (g.K.Sink.faults c.args.sink.now) (g.O.Sink.faults c.args.out.now) in
    let after : Outlets = outlets (g.K.Sink.given c.hear_some.new.sink) (g.O.Sink.given c.hear_some.new.out) (g.K.Sink.faults c.hear_some.new.sink) (g.O.Sink.faults c.hear_some.new.out) in
    let more : (errand : Errand) (old : Outlets) (heard : List ℕ) → Listens errand old before heard c.args.party.now c.args.decoder.now
    → Listens errand old after (heard ++ longer) c.hear_some.new.party c.hear_some.new.decoder =
    λ errand old heard l. heard_as errand old after (heard ++ front ++ take count rest) (heard ++ longer) c.hear_some.new.party c.hear_some.new.decoder
    (c.in_ok-count.ensures.hears errand old (heard ++ front) (on errand old heard l)) (append_assoc heard front (take count rest))
    in
    let same : longer ++ c.split_at.result.1.now ≡ c.args.bytes.now =
    append_assoc front (take count rest) c.split_at.result.1.now ∙ ap (λ l. front ++ (take count rest ++ l)) c.split_at.ensures.back
    ∙ ap (λ l. front ++ l) (take-append-drop count rest) ∙ whole
    in
    let (errand, old, now, heard, l) = c.requires.listening in
    let first = heard_anew errand old now before heard c.args.party.now c.args.decoder.now l in
    let then = more errand (outlets None None before.writes before.prints) heard first in
    record {
      taken = omega (arith, then.follows.stands.taken, l.follows.stands.taken, ap length same, length-append longer c.split_at.result.1.now, length-append heard longer);
      listening = (errand, _, _, heard ++ longer, then);
      front = (longer, same, more);
    }

-- the talk ended
pub returns-in_err-count : goal.returns-in_err-count
returns-in_err-count g c errand old heard l =
    let (front, whole, on) = c.loop-rest.invariant.front in
    let p = err_from_is_err_and c.from_residual.result c.from_residual.ensures.1 in
    rw (p.1, p.2) (hears_last errand old _ heard front c.loop-rest.rest.now c.args.bytes.now (heard ++ c.args.bytes.now) _ c.hear_some.new.party c.hear_some.new.party
    c.hear_some.new.decoder c.hear_some.new.decoder (c.in_err-count.ensures.hears errand old (heard ++ front) (on errand old heard l)) whole)

-- all bytes were heard
pub returns : goal.returns
returns g c errand old heard l =
    let (front, whole, on) = c.loop-rest.invariant.front in
    let none : c.loop-rest.rest.now ≡ [] = empty c.loop-rest.rest.now c.loop-rest-test.ensures in
    heard_as errand old _ (heard ++ front) (heard ++ c.args.bytes.now) c.loop-rest.party c.loop-rest.decoder (on errand old heard l)
    (ap (λ l. heard ++ l) (sym (append-nil front) ∙ ap (λ l. front ++ l) (sym none) ∙ whole))
