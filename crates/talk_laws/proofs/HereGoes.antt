-- What is delivered on the link of a talk: the talk fits again.
use Rattle.std.proofs.Common.{◌≡◌, ◌⊎◌, ℕ, zero, suc, ◌+◌, Bool, true, false, ◌&&◌, List, [], ◌∷◌, ◌++◌, Option, Some, None, refl, sym, ap, subst, ◌∙◌, inl, inr, arith, if◌then◌else◌}
use mathlib.Core.Bool.{true≢false}
use Rattle.m3_terms.specs.declared.triple.Triple.{Triple}
use Rattle.link_table.specs.Links.{Link, is_open, state_of}
use Rattle.link_table.specs.declared.state.LinkState.{LinkState}
use Rattle.link_table.specs.declared.state.LinkState.TheVariants.{Never, Open, Ended, Overrun, Gone}
use Rattle.ssap_shape.specs.declared.request.Wish.TheVariants.{Sparql}
use Rattle.ssap_shape.specs.declared.request.Request.{Request as Asked}
use Rattle.ssap_shape.specs.declared.request.Arrived.{Arrived}
use Rattle.ssap_shape.specs.declared.request.Arrived.TheVariants.{Request}
use Rattle.session_core.specs.Space.{Space, empty_space}
use Rattle.session_core.specs.Subscriptions.{Subscription, Wanted, wanted_by, answer_over}
use Rattle.session_core.specs.Requests.{verdict, is_success}
use Rattle.session_core.specs.Runs.{run, is_update, accepts, is_accepted}
use Rattle.session_core.specs.Steps.{on_open, delivered, step}
use Rattle.session_core.specs.Laws.{graph_by}
use Rattle.session_core.specs.declared.call.Call.{Call}
use Rattle.session_core.specs.declared.call.Call.TheVariants as call
use Rattle.session_core.proofs.Growing.{call_grows}
use Rattle.kp_talk.specs.declared.errand.Task.{Task}
use Rattle.kp_talk.specs.declared.errand.Task.TheVariants.{Insert, Query, Watch}
use Rattle.kp_talk.specs.declared.errand.Errand.{Errand}
use Rattle.talk_laws.specs.Truth.{IsErrand, IsTrue, asks_text}
use Rattle.talk_laws.proofs.Stages.{Joins, Asks, Follows, Unsubscribes, LeavesAsked, LeavesWatched, Stage, At, Closed, point_of, join, second_of, second, unsubscribe, leave}
use Rattle.talk_laws.proofs.Plain.{AllPlain}
use Rattle.talk_laws.proofs.Fits.{Holds, Fits, Suits, IsDue, IsThird, IsFourth, Given, Goes}
use Rattle.talk_laws.proofs.HistoriesGo.{run_one}
use Rattle.talk_laws.proofs.CallsThatClose.{nothing_goes}
use Rattle.talk_laws.proofs.DeliveriesElsewhere.{Known, sent_on, none_sent}
use Rattle.talk_laws.proofs.CallsGo.{HereGoes}
use Rattle.talk_laws.proofs.DeliveriesHere.{NumbersAreIds, after, first_joins, third_leave, third_unsubscribe, fourth_leave}
use Rattle.talk_laws.proofs.SecondHere.{second_goes}

-- where none lives on the link, the talk fits after one more delivery
fits_more : (errand : Errand) (graph : List Triple) (links : List Link) (link count : ℕ) (stage : Stage) → Fits errand graph links link count None stage
    → Fits errand graph links link (count + 1) None stage
fits_more errand graph links link count (At Joins) f = tt
fits_more errand graph links link count (At Asks) f = omega (arith, f)
fits_more errand graph links link count (At (Follows left mirror)) f = f
fits_more errand graph links link count (At (Unsubscribes number)) f = omega (arith, f)
fits_more errand graph links link count (At LeavesAsked) f = omega (arith, f)
fits_more errand graph links link count (At (LeavesWatched number)) f = omega (arith, f)
fits_more errand graph links link count (Closed point finish) (inl u) = inl u
fits_more errand graph links link count (Closed point finish) (inr late) = inr (omega (arith, late))

and_false : (a b : Bool) → b ≡ false → (a && b) ≡ false
and_false true b e = e
and_false false b e = refl

no_update : (errand : Errand) (task : Task) (text : List ℕ) → asks_text task text → is_update (second_of errand task).ask ≡ false
no_update errand (Insert triple) text a = absurd a
no_update errand (Query asked) text a = refl
no_update errand (Watch asked count) text a = refl

watches : (task : Task) (text : List ℕ) (arrived : Arrived) (errand : Errand) → IsFourth errand task arrived → Suits task (Unsubscribes 0) × (arrived ≡ Request (leave errand 4))
watches (Insert triple) text arrived errand f = absurd f
watches (Query asked) text arrived errand f = absurd f
watches (Watch asked count) text arrived errand f = (tt, f)

-- the third request leaves, or unsubscribes
thirds : (task : Task) (arrived : Arrived) (errand : Errand) → IsThird errand task arrived
    → (Suits task LeavesAsked × (arrived ≡ Request (leave errand 3))) ⊎ ((number : ℕ) × Suits task (Unsubscribes number) × (arrived ≡ Request (unsubscribe errand number)))
thirds (Insert triple) arrived errand t = absurd t
thirds (Query asked) arrived errand t = inl (tt, t)
thirds (Watch asked count) arrived errand t = inr (t.0, tt, t.1)

module _ (plain : AllPlain) (ids : NumbersAreIds) (given : Given) (is : IsErrand given.errand given.text) (past later : List Call) where
  abbrev space : Space
  space = run given.name past

  abbrev GoesTo : ℕ → Stage → Space → Type 0
  GoesTo count stage new = Goes given (count + 1) stage (sent_on given.link space new) new

  -- on a link that is not open nothing comes of it
  unheard : (count : ℕ) (stage : Stage) (lives : Option Subscription) → Holds given.name given.errand given.text given.link space count lives
      → Fits given.errand space.graph space.links given.link count lives stage → Suits given.errand.task (point_of stage)
      → is_open (state_of space.links given.link) ≡ false → GoesTo count stage space
  unheard count stage None holds fits suits shut =
      nothing_goes given (count + 1) stage space space (sent_on given.link space space) (none_sent given.link space space refl) suits None holds
      (fits_more given.errand space.graph space.links given.link count stage fits)
  unheard count stage (Some s) holds fits suits shut = absurd (true≢false (sym holds.0.opened ∙ shut))

  -- the answer to the second request is that over the graph behind it
  line : (others : List Asked) → given.requests ≡ join given.errand ∷ second given.errand ∷ others → given.history ≡ past ++ call.Deliver given.link (Request (second given.errand)) ∷ later
      → (wanted : Wanted) → wanted_by (Sparql given.text) ≡ Some wanted → IsTrue given.name given.history given.link given.text given.requests 0 (answer_over space.graph wanted)
  line others requests split wanted asks =
      let one = call.Deliver given.link (Request (second given.errand)) in
      let moved : run given.name (past ++ one ∷ []) ≡ (step space one).space = run_one (empty_space given.name) past one in
      let silent : is_accepted space one ≡ false =
      and_false (is_open (state_of space.links given.link)) (accepts space (Request (second given.errand)))
      (ap (λ b. b && is_success (verdict space (second given.errand))) (no_update given.errand given.errand.task given.text is.asked))
      in
      let same : (step space one).space.graph ≡ space.graph =
      (call_grows space one).graph ∙ ap (λ b. graph_by space.graph (if b then one ∷ [] else [])) silent
      in
      record {
        wanted = wanted;
        said = asks;
        earlier = past;
        call = one;
        later = later;
        split = split;
        cause = (join given.errand, second given.errand, others, requests, refl);
        true = ap (λ graph. answer_over graph wanted) (sym (ap (λ (s : Space). s.graph) moved ∙ same));
      }

  module _ (stage : Stage) (lives : Option Subscription) (suits : Suits given.errand.task (point_of stage)) (opened : is_open (state_of space.links given.link) ≡ true) where
    -- what arrives behind so many messages
    abbrev Arrives : ℕ → Arrived → Type 0
    Arrives count arrived = given.history ≡ past ++ call.Deliver given.link arrived ∷ later → Known given space (delivered space given.link arrived)
        → Holds given.name given.errand given.text given.link space count lives → Fits given.errand space.graph space.links given.link count lives stage
        → GoesTo count stage (delivered space given.link arrived)

    first : Arrives 0 (Request (join given.errand))
    first split known holds fits =
        first_joins plain ids given is 0 stage space lives holds fits suits opened refl (is_success (verdict space (join given.errand))) refl

    second_here : (others : List Asked) → given.requests ≡ join given.errand ∷ second given.errand ∷ others → Arrives 1 (Request (second given.errand))
    second_here others requests split known holds fits =
        second_goes plain ids given is 1 stage space lives holds fits suits opened refl known.named known.next_small known.sound (line others requests split)
        (is_success (verdict space (second given.errand))) refl

    third : (arrived : Arrived) → (Suits given.errand.task LeavesAsked × (arrived ≡ Request (leave given.errand 3)))
        ⊎ ((number : ℕ) × Suits given.errand.task (Unsubscribes number) × (arrived ≡ Request (unsubscribe given.errand number))) → Arrives 2 arrived
    third arrived (inl t) = subst (Arrives 2) (sym t.1)
        (λ split known holds fits. third_leave plain ids given is 2 stage space lives holds fits suits opened refl t.0
        (λ e. subst (λ b. Known given space (after plain ids given is 2 stage space lives holds fits suits opened (leave given.errand 3) b)) e known)
        (is_success (verdict space (leave given.errand 3))) refl)
    third arrived (inr t) = subst (Arrives 2) (sym t.2)
        (λ split known holds fits. third_unsubscribe plain ids given is 2 stage space lives holds fits suits opened t.0 refl t.1
        (λ e. subst (λ b. Known given space (after plain ids given is 2 stage space lives holds fits suits opened (unsubscribe given.errand t.0) b)) e known)
        (is_success (verdict space (unsubscribe given.errand t.0))) refl)

    fourth : (arrived : Arrived) → Suits given.errand.task (Unsubscribes 0) × (arrived ≡ Request (leave given.errand 4)) → Arrives 3 arrived
    fourth arrived t = subst (Arrives 3) (sym t.1)
        (λ split known holds fits. fourth_leave plain ids given is 3 stage space lives holds fits suits opened refl t.0
        (λ e. subst (λ b. Known given space (after plain ids given is 3 stage space lives holds fits suits opened (leave given.errand 4) b)) e known)
        (is_success (verdict space (leave given.errand 4))) refl)

    arrives : (count : ℕ) (arrived : Arrived) → IsDue given.errand given.requests count arrived → Arrives count arrived
    arrives zero arrived due = subst (Arrives 0) (sym due) first
    arrives (suc zero) arrived due = subst (Arrives 1) (sym due.0) (second_here due.1.0 due.1.1)
    arrives (suc (suc zero)) arrived due = third arrived (thirds given.errand.task arrived given.errand due)
    arrives (suc (suc (suc zero))) arrived due = fourth arrived (watches given.errand.task given.text arrived given.errand due)
    arrives (suc (suc (suc (suc count)))) arrived due = absurd due

-- whatever is due is delivered on the link
pub here_goes : AllPlain → NumbersAreIds → (given : Given) → IsErrand given.errand given.text → HereGoes given
here_goes plain ids given is past later arrived count stage lives split known due holds fits suits = by (state_of (run given.name past).links given.link) refl known
  where
    by : (state : LinkState) → state_of (run given.name past).links given.link ≡ state
        → Known given (run given.name past) (on_open state (run given.name past) (delivered (run given.name past) given.link arrived)).space
        → Goes given (count + 1) stage (sent_on given.link (run given.name past) (on_open state (run given.name past) (delivered (run given.name past) given.link arrived)).space)
        (on_open state (run given.name past) (delivered (run given.name past) given.link arrived)).space
    by Never e known = unheard plain ids given is past later count stage lives holds fits suits (ap is_open e)
    by Open e known = arrives plain ids given is past later stage lives suits (ap is_open e) count arrived due split known holds fits
    by Ended e known = unheard plain ids given is past later count stage lives holds fits suits (ap is_open e)
    by Overrun e known = unheard plain ids given is past later count stage lives holds fits suits (ap is_open e)
    by Gone e known = unheard plain ids given is past later count stage lives holds fits suits (ap is_open e)
