-- The confirm of a request on the link of a talk, and the ends that are told behind it: the talk fits again.
use Rattle.std.proofs.Common.{◌≡◌, ◌≢◌, ◌≤◌, ℕ, ◌+◌, Bool, true, false, not, List, [], ◌∷◌, ◌++◌, map, filter, Contains, Option, Some, None, refl, sym, ap, subst, ◌∙◌, arith, append-nil, append_assoc}
use Rattle.std.specs.List.{AllByRecursion}
use Rattle.std.proofs.lemmas.Bool.{cases_Bool}
use mathlib.Core.Bool.{true≢false}
use mathlib.Core.Logic.{⊎_elim}
use Rattle.m3_terms.specs.InsertedLaws.{was_there, is_kept}
use Rattle.sparql_algebra.proofs.ListMembers.{kept}
use Rattle.link_table.specs.Links.{Link, is_open, link_at, changed, sent, state_of, state_or_never, pending_of, pending_or_none}
use Rattle.link_table.proofs.NoLinkOpensAgain.{OpensNone-sent}
use Rattle.ssap_shape.specs.declared.request.Request.{Request as Asked}
use Rattle.ssap_shape.specs.declared.status.Status.{Status}
use Rattle.ssap_shape.specs.declared.status.Status.TheVariants.{Success}
use Rattle.answer_bodies.specs.declared.answer.Answer.{Answer}
use Rattle.session_core.specs.Space.{Space}
use Rattle.session_core.specs.Subscriptions.{Subscription, ended_by}
use Rattle.session_core.specs.Queues.{queue}
use Rattle.session_core.specs.Following.{takes, tell_ends}
use Rattle.session_core.proofs.WhatFollowsHolds.{ends_hold}
use Rattle.session_core.proofs.Growing.{IsAlike, alike_holds}
use Rattle.ssap_shape.specs.declared.reply.Incoming.{Incoming}
use Rattle.ssap_shape.specs.declared.reply.Incoming.TheVariants.{Confirm as Confirmed, Indication as Indicated}
use Rattle.talk_laws.specs.Truth.{IsTrueLine}
use Rattle.talk_laws.proofs.Stages.{Stage, point_of, through, lines_on, lines_more}
use Rattle.talk_laws.proofs.Plain.{IsPlain, AllPlain, confirm_with, spelled}
use Rattle.talk_laws.proofs.LinksTakeOrClose.{IsShut, took, missed}
use Rattle.talk_laws.proofs.QuietSteps.{Vacant, Housed, Quiet}
use Rattle.talk_laws.proofs.TurnsAreHeard.{shut_vacant, open_known}
use Rattle.talk_laws.proofs.EndsAreHeard.{quiet_ends, ends_heard, EndsHeard, repeated}
use Rattle.talk_laws.proofs.Fits.{IsOurs, Holds, Fits, Suits, Given, Goes}
use Rattle.talk_laws.proofs.TalksSuit.{suits_through}
use Rattle.talk_laws.proofs.HistoriesGo.{all_both}
use Rattle.talk_laws.proofs.CallsThatClose.{Closes, closes_changed, fits_shut}
use Rattle.talk_laws.proofs.HeardGoes.{ends_fit, all_plain, end_plain}
use Rattle.talk_laws.proofs.DeliveriesElsewhere.{Known, sent_on, sent_is}
use Rattle.talk_laws.proofs.ConfirmsFit.{Fit}

module _ (plain : AllPlain) (given : Given) (count : ℕ) (stage : Stage) (space : Space) (lives : Option Subscription)
    (fits : Fits given.errand space.graph space.links given.link count lives stage) (suits : Suits given.errand.task (point_of stage))
    (opened : is_open (state_of space.links given.link) ≡ true)
    (request : Asked) (status : Status) (number : Option ℕ) (answer : Option Answer) where
  abbrev pub told : Incoming
  told = Confirmed (confirm_with request.heads status number answer)

  abbrev GoesTo : Space → Type 0
  GoesTo new = Goes given (count + 1) stage (sent_on given.link space new) new

  abbrev pub queued_on : Space → Space
  queued_on done = queue done given.link (Some (spelled told))

  -- nothing is told, and the link is shut
  shut_goes : (new : Space) → pending_of new.links given.link ≡ pending_of space.links given.link → IsShut new.links given.link → Vacant given.link new → GoesTo new
  shut_goes new waits shut vacant = record {
    told = [];
    sends = sent_is given.link space new [] (waits ∙ sym (append-nil (pending_of space.links given.link)));
    plain = tt;
    lines = tt;
    lives = None;
    holds = vacant;
    fits = fits_shut given.errand space.graph new.graph space.links new.links given.link count (count + 1) lives stage (omega arith) fits shut;
    suits = suits;
  }

  module _ (is_plain : IsPlain told) (done : Space) (links : done.links ≡ space.links) where
    abbrev queued : Space
    queued = queued_on done

    closes : Closes given.link done queued
    closes = closes_changed given.link (sent (spelled told)) (OpensNone-sent (spelled told)) done given.link

    opened_done : is_open (state_of done.links given.link) ≡ true
    opened_done = ap (λ l. is_open (state_of l given.link)) links ∙ opened

    waited : pending_of done.links given.link ≡ pending_of space.links given.link
    waited = ap (λ l. pending_of l given.link) links

    -- who lives on the link lives there behind a confirm that is taken
    holds_on : (more : ℕ) (now : Option Subscription) → is_open (state_of queued.links given.link) ≡ true → Holds given.name given.errand given.text given.link done more now
        → Holds given.name given.errand given.text given.link queued more now
    holds_on more None open_now vacant = closes.vacant vacant
    holds_on more (Some s) open_now holds = ⊎_elim
        (λ (housed : Housed given.link queued s). (housed, holds.1, holds.2))
        (λ (both : IsShut queued.links given.link × Vacant given.link queued). absurd (true≢false (sym open_now ∙ both.0.shut)))
        (closes.housed s holds.0)

    by_taken : (now : Option Subscription) → Holds given.name given.errand given.text given.link done (count + 1) now
        → Fit given count done.graph queued.links now status number answer stage request → (taken : Bool) → takes done.links given.link (spelled told) ≡ taken → GoesTo queued
    by_taken now holds fit true e =
        let t = took (spelled told) done.links given.link e in
        record {
          told = told ∷ [];
          sends = sent_is given.link space queued _ (t.0 ∙ ap (λ l. l ++ spelled told ∷ []) waited);
          plain = (is_plain, tt);
          lines = fit.0;
          lives = now;
          holds = holds_on (count + 1) now t.1 holds;
          fits = fit.1;
          suits = suits_through given.errand stage (told ∷ []) suits;
        }
    by_taken now holds fit false e =
        let m = missed (spelled told) done.links given.link opened_done e in
        shut_goes queued (m.0 ∙ waited) m.1 (shut_vacant done (changed (sent (spelled told)) done.links given.link) given.link m.1.shut)

    -- a confirm alone
    pub confirm_goes : (now : Option Subscription) → Holds given.name given.errand given.text given.link done (count + 1) now
        → Fit given count done.graph queued.links now status number answer stage request → GoesTo queued
    confirm_goes now holds fit = by_taken now holds fit (takes done.links given.link (spelled told)) refl

    -- a confirm, and behind it the ends of the subscriptions that pass a test
    module _ (test : Subscription → Bool) (is : done.subscriptions ≡ filter (λ s. not (test s)) space.subscriptions) (graph : done.graph ≡ space.graph) (named : done.name ≡ given.name) where
      abbrev gone : List Subscription
      gone = filter test space.subscriptions

      abbrev last : Space
      last = tell_ends Success queued gone

      graphs : last.graph ≡ space.graph
      graphs = (ends_hold IsAlike alike_holds.sending Success queued gone).graph ∙ graph

      -- those that end are of other links
      quiet_last : (now : Option Subscription) → Holds given.name given.errand given.text given.link done (count + 1) now
          → Fit given count space.graph last.links now status number answer stage request
          → ((t : Subscription) → Contains gone t → t.link ≢ given.link) → (taken : Bool) → takes done.links given.link (spelled told) ≡ taken → GoesTo last
      quiet_last now holds fit apart true e =
          let t = took (spelled told) done.links given.link e in
          let q = quiet_ends given.link Success queued gone apart in
          record {
            told = told ∷ [];
            sends = sent_is given.link space last _ (ap pending_or_none q.same ∙ t.0 ∙ ap (λ l. l ++ spelled told ∷ []) waited);
            plain = (is_plain, tt);
            lines = fit.0;
            lives = now;
            holds = quiet_holds q now (holds_on (count + 1) now t.1 holds);
            fits = subst (λ g. Fits given.errand g last.links given.link (count + 1) now (through given.errand stage (told ∷ []))) (sym graphs) fit.1;
            suits = suits_through given.errand stage (told ∷ []) suits;
          }
        where
          quiet_holds : Quiet given.link queued last → (now : Option Subscription) → Holds given.name given.errand given.text given.link queued (count + 1) now
              → Holds given.name given.errand given.text given.link last (count + 1) now
          quiet_holds q None vacant = q.vacant vacant
          quiet_holds q (Some s) holds = (q.housed s holds.0, holds.1, holds.2)
      quiet_last now holds fit apart false e =
          let m = missed (spelled told) done.links given.link opened_done e in
          let q = quiet_ends given.link Success queued gone apart in
          let shut = shut_vacant done (changed (sent (spelled told)) done.links given.link) given.link m.1.shut in
          shut_goes last (ap pending_or_none q.same ∙ m.0 ∙ waited)
          (record { known = λ none. m.1.known (sym q.same ∙ none); shut = ap (λ found. is_open (state_or_never found)) q.same ∙ m.1.shut }) (q.vacant shut)

      -- the one on the link ends
      one_ends : (s : Subscription) → Known given space last → Housed given.link space s → IsOurs given.name given.errand given.text s → 2 ≤ count + 1
          → Fit given count space.graph queued.links (Some s) status number answer stage request → test s ≡ true
          → (taken : Bool) → takes done.links given.link (spelled told) ≡ taken → GoesTo last
      one_ends s known h ours two fit passes taken e = by taken e
        where
          vacant_done : Vacant given.link done
          vacant_done t c on =
              let both = (kept (λ s. not (test s)) space.subscriptions t).0 (subst (λ l. Contains l t) is c) in
              true≢false (sym both.1 ∙ ap not (ap test (h.sole t both.0 on) ∙ passes))

          heard : link_at queued.links given.link ≢ None → EndsHeard given.link (Indicated (ended_by given.name s Success)) queued last (Contains gone s)
          heard known_link =
              ends_heard given.link Success s given.name queued gone named (closes.vacant vacant_done) known_link
              (λ t c on. h.sole t (was_there test space.subscriptions t c) on) h.here

          by : (taken : Bool) → takes done.links given.link (spelled told) ≡ taken → GoesTo last
          by true e =
              let t = took (spelled told) done.links given.link e in
              let h2 = heard (open_known queued.links given.link t.1) in
              let ends = repeated h2.count (Indicated (ended_by given.name s Success)) in
              let small = known.small s h.lives in
              let f = ends_fit given.errand given.name Success space.graph last.graph queued.links last.links given.link (count + 1) s h2.count
              (through given.errand stage (told ∷ [])) fit.1 (h2.heard (is_kept test space.subscriptions s passes h.lives))
              in
              record {
                told = told ∷ ends;
                sends = sent_is given.link space last (map spelled (told ∷ ends))
                    (h2.waits ∙ ap (λ l. l ++ map spelled ends) (t.0 ∙ ap (λ l. l ++ spelled told ∷ []) waited)
                    ∙ append_assoc (pending_of space.links given.link) (spelled told ∷ []) (map spelled ends));
                plain = (is_plain, all_plain h2.count _ (end_plain plain given (count + 1) s ours two (known.heads s ours) small.0 small.1 Success));
                lines = subst (AllByRecursion (IsTrueLine given.name given.history given.link given.text given.requests)) (sym (lines_more given.errand stage (told ∷ []) ends))
                    (all_both (IsTrueLine given.name given.history given.link given.text given.requests) (lines_on given.errand stage (told ∷ [])) _ fit.0
                    (subst (AllByRecursion (IsTrueLine given.name given.history given.link given.text given.requests)) (sym f.0) tt));
                lives = None;
                holds = h2.vacant;
                fits = f.1;
                suits = suits_through given.errand stage (told ∷ ends) suits;
              }
          by false e =
              let m = missed (spelled told) done.links given.link opened_done e in
              let h2 = heard m.1.known in
              let none = h2.shut m.1 in
              shut_goes last (h2.waits ∙ ap (λ n. pending_of queued.links given.link ++ map spelled (repeated n (Indicated (ended_by given.name s Success)))) none.0
              ∙ append-nil (pending_of queued.links given.link) ∙ m.0 ∙ waited) none.1 h2.vacant

      -- whoever lives on the link
      pub confirm_ends : (lives : Option Subscription) → Holds given.name given.errand given.text given.link space count lives → Known given space last
          → ((after : List Link) (now : Option Subscription) → Fit given count space.graph after now status number answer stage request) → GoesTo last
      confirm_ends None vacant known fit =
          quiet_last None (λ t c. vacant t (was_there (λ s. not (test s)) space.subscriptions t (subst (λ l. Contains l t) is c))) (fit last.links None)
          (λ t c. vacant t (was_there test space.subscriptions t c)) (takes done.links given.link (spelled told)) refl
      confirm_ends (Some s) holds known fit = ⊎_elim
          (λ (passes : test s ≡ true).
          one_ends s known holds.0 holds.1 (let two = holds.2 in omega (arith, two)) (fit queued.links (Some s)) passes (takes done.links given.link (spelled told)) refl)
          (λ (stays : test s ≡ false).
          quiet_last (Some s) (
            record {
              lives = subst (λ l. Contains l s) (sym is) (is_kept (λ s. not (test s)) space.subscriptions s (ap not stays) holds.0.lives);
              here = holds.0.here;
              opened = opened_done;
              sole = λ one c on. holds.0.sole one (was_there (λ s. not (test s)) space.subscriptions one (subst (λ l. Contains l one) is c)) on;
            },
            holds.1,
            (let two = holds.2 in omega (arith, two)),
          )
          (fit last.links (Some s))
          (λ t c on.
          let both = (kept test space.subscriptions t).0 c in
          true≢false (sym both.1 ∙ ap test (holds.0.sole t both.0 on) ∙ stays))
          (takes done.links given.link (spelled told)) refl)
          (cases_Bool (test s))
