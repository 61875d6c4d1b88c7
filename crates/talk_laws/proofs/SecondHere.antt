-- The second request of a talk, which asks a query or a subscription: the talk fits again.
use Rattle.std.proofs.Common.{◌≡◌, ◌≤◌, ◌<◌, ◌^◌, ℕ, ◌+◌, nat_lt, nat_le, Bool, true, false, List, length, Contains, Option, Some, None, Ok, refl, sym, ap, subst, ◌∙◌, arith}
use Rattle.std.specs.Fmt.{decimal}
use Rattle.std.proofs.lemmas.Bool.{ltb-false}
use Rattle.std.proofs.lemmas.List.Elements.{Contains-push_cases, Contains-push}
use mathlib.Core.Bool.{true≢false}
use mathlib.Core.Logic.{⊎_elim}
use Rattle.m3_terms.specs.declared.triple.Triple.{Triple}
use Rattle.sparql_algebra.specs.declared.algebra.Query.{Query as Said}
use Rattle.sparql_read.specs.Reading.{reading_of}
use Rattle.link_table.specs.Links.{Link, is_open, state_of}
use Rattle.ssap_items.specs.declared.heads.Transaction as transaction
use Rattle.answer_bodies.specs.declared.answer.Answer.{Answer}
use Rattle.ssap_shape.specs.Sound.{AreSoundHeads}
use Rattle.ssap_shape.specs.declared.request.Wish.TheVariants.{Sparql}
use Rattle.ssap_shape.specs.declared.request.Ask.{Ask}
use Rattle.ssap_shape.specs.declared.request.Ask.TheVariants as ask
use Rattle.ssap_shape.specs.declared.request.Request.{Request as Asked}
use Rattle.ssap_shape.specs.declared.status.Status.{Status}
use Rattle.ssap_shape.specs.declared.status.Status.TheVariants.{Success}
use Rattle.session_core.specs.Space.{Space}
use Rattle.session_core.specs.Answers.{answer_of, width_of}
use Rattle.session_core.specs.Subscriptions.{Subscription, Wanted, Selected, wanted_by, wanted_of, answer_over}
use Rattle.session_core.specs.Requests.{verdict, is_success, subscribed, answer_for, is_overnamed}
use Rattle.session_core.specs.Queues.{queue}
use Rattle.ssap_shape.specs.declared.reply.Incoming.{Incoming}
use Rattle.ssap_shape.specs.declared.reply.Incoming.TheVariants.{Confirm as Confirmed}
use Rattle.ssap_shape.specs.Told.{is_success as tells_success}
use Rattle.kp_talk.specs.declared.errand.Task.{Task}
use Rattle.kp_talk.specs.declared.errand.Task.TheVariants.{Insert, Query, Watch}
use Rattle.kp_talk.specs.Talk.{request_at}
use Rattle.talk_laws.specs.Truth.{IsErrand, IsTrue, asks_text}
use Rattle.talk_laws.proofs.Stages.{Stage, point_of, second_of, second}
use Rattle.talk_laws.proofs.Plain.{IsSaid, IsPlain, AllPlain, confirm_with, spelled}
use Rattle.talk_laws.proofs.QuietSteps.{Vacant}
use Rattle.talk_laws.proofs.Fits.{Holds, Fits, Suits, Given, Goes}
use Rattle.talk_laws.proofs.DeliveriesElsewhere.{sent_on}
use Rattle.talk_laws.proofs.ConfirmsFit.{Says, Fit, second_fits}
use Rattle.talk_laws.proofs.ConfirmsGo.{confirm_goes}
use Rattle.talk_laws.proofs.DeliveriesHere.{NumbersAreIds, after}
use Rattle.talk_laws.proofs.GrantedPasses.{same_success, reading_so, reading_refuses, granted_passes, or_second}

module _ (plain : AllPlain) (ids : NumbersAreIds) (given : Given) (is : IsErrand given.errand given.text) (count : ℕ) (stage : Stage) (space : Space) (lives : Option Subscription)
    (holds : Holds given.name given.errand given.text given.link space count lives)
    (fits : Fits given.errand space.graph space.links given.link count lives stage) (suits : Suits given.errand.task (point_of stage))
    (opened : is_open (state_of space.links given.link) ≡ true) (one : count ≡ 1) (named : space.name ≡ given.name) (next_small : space.numbered + 1 < 2 ^ 64)
    (sound : (wanted : Wanted) → wanted_by (Sparql given.text) ≡ Some wanted → IsSaid (answer_over space.graph wanted))
    (line : (wanted : Wanted) → wanted_by (Sparql given.text) ≡ Some wanted
    → IsTrue given.name given.history given.link given.text given.requests 0 (answer_over space.graph wanted)) where
  abbrev GoesTo : Space → Type 0
  GoesTo new = Goes given (count + 1) stage (sent_on given.link space new) new

  abbrev after_second : Task → Bool → Space
  after_second task b = after plain ids given is count stage space lives holds fits suits opened (second_of given.errand task) b

  none_lives : (lives : Option Subscription) → Holds given.name given.errand given.text given.link space count lives → Vacant given.link space
  none_lives None vacant = vacant
  none_lives (Some s) h = absurd (let two = h.2 in omega (arith, two, one))

  vacant : Vacant given.link space
  vacant = none_lives lives holds

  heads_sound : (kind : transaction.Transaction) (what : Ask) → AreSoundHeads (request_at given.errand 2 kind what).heads
  heads_sound kind what = record { transaction_id = ids 2 (omega arith); node_id = is.node; space_id = is.space }

  -- the talk fits after the confirm of the second request
  fit : (task : Task) → given.errand.task ≡ task → (graph : List Triple) (links : List Link) (now : Option Subscription) (status : Status) (number : Option ℕ) (answer : Option Answer)
      → (tells_success status ≡ true → Says given task graph now number answer) → Fit given count graph links now status number answer stage (second_of given.errand task)
  fit task e graph links now status number answer says =
      subst (λ task. Fit given count graph links now status number answer stage (second_of given.errand task)) e
      (second_fits given count graph links now status number answer space.graph space.links lives opened one
      (λ success. subst (λ task. Says given task graph now number answer) (sym e) (says success)) stage suits fits)

  -- it is refused
  refused : (task : Task) → given.errand.task ≡ task → AreSoundHeads (second_of given.errand task).heads → is_success (verdict space (second_of given.errand task)) ≡ false
      → GoesTo (after_second task false)
  refused task same heads e =
      let request = second_of given.errand task in
      let status = verdict space request in
      confirm_goes plain given count stage space lives fits suits opened request status None None (plain.bare request.heads status heads) space refl None vacant
      (fit task same space.graph (after_second task false).links None status None None (λ told. absurd (true≢false (sym told ∙ same_success status ∙ e))))

  -- a query is answered
  queried : given.errand.task ≡ Query given.text → is_success (verdict space (second_of given.errand (Query given.text))) ≡ true → GoesTo (after_second (Query given.text) true)
  queried same e =
      let request = second_of given.errand (Query given.text) in
      let p = granted_passes space request (λ status. reading_refuses (reading_of given.text) status) e in
      let q = reading_so (reading_of given.text) p.1 in
      let wanted : Wanted = Selected q.0 in
      let asks : wanted_by (Sparql given.text) ≡ Some wanted = ap wanted_of q.1 in
      let answer : Answer = answer_over space.graph wanted in
      let answers : answer_for space request.ask ≡ Some answer = ap (answer_of space.graph) q.1 in
      let few : length (spelled (Confirmed (confirm_with request.heads Success None (answer_for space request.ask)))) ≤ 4194304 = ltb-false 4194304 _ (or_second _ _ p.2) in
      let is_plain : IsPlain (Confirmed (confirm_with request.heads Success None (answer_for space request.ask))) =
      subst (λ a. IsPlain (Confirmed (confirm_with request.heads Success None a))) (sym answers)
      (plain.queried request.heads answer (heads_sound transaction.TheVariants.Query request.ask) refl (sound wanted asks)
      (subst (λ a. length (spelled (Confirmed (confirm_with request.heads Success None a))) ≤ 4194304) answers few))
      in
      confirm_goes plain given count stage space lives fits suits opened request Success None (answer_for space request.ask) is_plain space refl None vacant
      (fit (Query given.text) same space.graph (after_second (Query given.text) true).links None Success None (answer_for space request.ask)
      (λ told. (answer, answers, line wanted asks)))

  -- a subscription is made
  module _ (most : ℕ) (same : given.errand.task ≡ Watch given.text most) (p : given.errand.space ≡ space.name) (query : Said) (read : reading_of given.text ≡ Ok query)
      (few : length (spelled (Confirmed (confirm_with (second_of given.errand (Watch given.text most)).heads Success (Some (space.numbered + 1))
      (answer_for space (second_of given.errand (Watch given.text most)).ask)))) ≤ 4194304) where
    abbrev request : Asked
    request = second_of given.errand (Watch given.text most)

    abbrev wanted : Wanted
    wanted = Selected query

    asks : wanted_by (Sparql given.text) ≡ Some wanted
    asks = ap wanted_of read

    answers : answer_for space request.ask ≡ Some (answer_over space.graph wanted)
    answers = ap (answer_of space.graph) read

    abbrev made : Subscription
    made = record { number = space.numbered + 1; link = given.link; node = given.errand.node; transaction = decimal 2; wanted = wanted; sequence = 0 }

    abbrev done : Space
    done = subscribed space given.link request.heads (Some wanted)

    abbrev answered_with : Option Answer → Incoming
    answered_with answer = Confirmed (confirm_with request.heads Success (Some (space.numbered + 1)) answer)

    is_plain : IsPlain (answered_with (answer_for space request.ask))
    is_plain =
        subst (λ a. IsPlain (answered_with a)) (sym answers)
        (plain.subscribed request.heads (space.numbered + 1) (answer_over space.graph wanted) (heads_sound transaction.TheVariants.Subscribe request.ask) refl next_small (sound wanted asks)
        (subst (λ a. length (spelled (answered_with a)) ≤ 4194304) answers few))

    holds_made : Holds given.name given.errand given.text given.link done (count + 1) (Some made)
    holds_made = (
      record {
        lives = Contains-push space.subscriptions made;
        here = refl;
        opened = opened;
        sole = λ other c on. ⊎_elim
            (λ (old : Contains space.subscriptions other). absurd (vacant other old on))
            (λ (new : made ≡ other). sym new)
            (Contains-push_cases space.subscriptions made other c);
      },
      record { named = sym (p ∙ named); node = refl; transaction = refl; asks = asks },
      omega (arith, one),
    )

    made_goes : GoesTo (queue done given.link (Some (spelled (answered_with (answer_for space request.ask)))))
    made_goes =
        confirm_goes plain given count stage space lives fits suits opened request Success (Some (space.numbered + 1)) (answer_for space request.ask) is_plain done refl (Some made) holds_made
        (fit (Watch given.text most) same space.graph (queue done given.link (Some (spelled (answered_with (answer_for space request.ask))))).links (Some made) Success
        (Some (space.numbered + 1)) (answer_for space request.ask)
        (λ told. (answer_over space.graph wanted, space.numbered + 1, made, answers, refl, refl, line wanted asks, record { subscription = refl; applied = refl; answer = refl })))

    made_so : GoesTo (after_second (Watch given.text most) true)
    made_so = subst (λ w. GoesTo (queue (subscribed space given.link request.heads w) given.link (Some (spelled (answered_with (answer_for space request.ask)))))) (sym asks) made_goes

  watched : (most : ℕ) → given.errand.task ≡ Watch given.text most → is_success (verdict space (second_of given.errand (Watch given.text most))) ≡ true
      → GoesTo (after_second (Watch given.text most) true)
  watched most same e =
      let p = granted_passes space (second_of given.errand (Watch given.text most)) (λ status. reading_refuses (reading_of given.text) status) e in
      let q = reading_so (reading_of given.text) p.1 in
      made_so most same p.0 q.0 q.1
      (ltb-false 4194304 _ (or_second (nat_lt 65536 (width_of space.graph (Sparql given.text))) _ (or_second (is_overnamed space.named (wanted_by (Sparql given.text))) _
      (or_second (nat_le 256 (length space.subscriptions)) _ p.2))))

  second_by : (task : Task) → given.errand.task ≡ task → asks_text task given.text → (b : Bool) → is_success (verdict space (second_of given.errand task)) ≡ b → GoesTo (after_second task b)
  second_by (Insert triple) same a b e = absurd a
  second_by (Query asked) same a true e =
      subst (λ asked. given.errand.task ≡ Query asked → is_success (verdict space (second_of given.errand (Query asked))) ≡ true → GoesTo (after_second (Query asked) true))
      (sym a) queried same e
  second_by (Query asked) same a false e = refused (Query asked) same (heads_sound transaction.TheVariants.Query (ask.Query (Sparql asked))) e
  second_by (Watch asked most) same a true e =
      subst (λ asked. given.errand.task ≡ Watch asked most → is_success (verdict space (second_of given.errand (Watch asked most))) ≡ true → GoesTo (after_second (Watch asked most) true))
      (sym a) (watched most) same e
  second_by (Watch asked most) same a false e = refused (Watch asked most) same (heads_sound transaction.TheVariants.Subscribe (ask.Subscribe (Sparql asked))) e

  -- whatever the errand asks
  pub second_goes : (b : Bool) → is_success (verdict space (second given.errand)) ≡ b → GoesTo (after_second given.errand.task b)
  second_goes b e = second_by given.errand.task refl is.asked b e
