-- A request on another link that is granted: the talk fits again.
use Rattle.std.proofs.Common.{◌≡◌, ◌≢◌, ℕ, ◌+◌, Bool, not, List, [], ◌++◌, filter, Contains, Option, Some, None, refl, sym, ap, subst, ◌∙◌}
use Rattle.std.proofs.lemmas.List.Elements.{Contains-push_cases, Contains-append_left}
use mathlib.Core.Logic.{⊎_elim}
use Rattle.answer_bodies.proofs.DifferenceLaws.{empty_exactly}
use Rattle.link_table.specs.Links.{is_open, link_at, state_of, state_or_never, pending_or_none}
use Rattle.ssap_items.specs.declared.heads.Heads.{Heads}
use Rattle.ssap_shape.specs.declared.request.Ask.{Ask}
use Rattle.ssap_shape.specs.declared.request.Ask.TheVariants.{Join, Leave, Update, Query, Subscribe, Unsubscribe}
use Rattle.ssap_shape.specs.declared.status.Status.TheVariants.{Success}
use Rattle.session_core.specs.Space.{Space}
use Rattle.session_core.specs.Requests.{granted, subscribed, confirm}
use Rattle.session_core.specs.Subscriptions.{Subscription, Wanted, wanted_by, answer_over, numbers_of, is_of, is_named}
use Rattle.session_core.specs.Queues.{queue}
use Rattle.session_core.specs.Following.{Change, tell_ends, tell_changes, change_among, follow}
use Rattle.session_core.proofs.NumbersDiffer.{HaveOwn, number_in}
use Rattle.session_core.proofs.WhatFollowsHolds.{queue_holds, ends_hold, changes_hold}
use Rattle.session_core.proofs.Growing.{IsAlike, alike_holds}
use Rattle.session_core.proofs.ChangesLeadOn.{own_holds}
use Rattle.talk_laws.specs.Truth.{IsTrue}
use Rattle.talk_laws.proofs.Stages.{Stage, point_of}
use Rattle.talk_laws.proofs.Plain.{AllPlain}
use Rattle.talk_laws.proofs.QuietSteps.{Housed, Quiet, quiet_same, quiet_chain, quiet_queue, quiet_vacant}
use Rattle.talk_laws.proofs.TurnsAreHeard.{told_more, change_of, turns_heard}
use Rattle.talk_laws.proofs.Fits.{IsOurs, Holds, Fits, Suits, Given, Goes}
use Rattle.talk_laws.proofs.CallsThatClose.{nothing_goes, fits_same}
use Rattle.talk_laws.proofs.HeardGoes.{heard_goes}
use Rattle.talk_laws.proofs.DeliveriesElsewhere.{Known, sent_on, sent_is, none_sent, quiet_goes, ends_go}

module _ (plain : AllPlain) (given : Given) (count : ℕ) (stage : Stage) (space : Space) (lives : Option Subscription)
    (holds : Holds given.name given.errand given.text given.link space count lives)
    (fits : Fits given.errand space.graph space.links given.link count lives stage) (suits : Suits given.errand.task (point_of stage))
    (other : ℕ) (apart : other ≢ given.link) (heads : Heads) where
  abbrev GoesTo : Space → Type 0
  GoesTo new = Goes given count stage (sent_on given.link space new) new

  -- the changes that are told where this is granted
  abbrev pub changes_for : Ask → Space → ℕ → List Change
  changes_for Join queued number = []
  changes_for Leave queued number = []
  changes_for (Update remove insert confirm) queued number = change_among space.graph queued (numbers_of space.subscriptions) number
  changes_for (Query wish) queued number = []
  changes_for (Subscribe wish) queued number = []
  changes_for (Unsubscribe text) queued number = []

  -- what a subscription is told makes a true line
  abbrev pub Lines : (ℕ → List Change) → Space → Type 0
  Lines changes new = (s : Subscription) → IsOurs given.name given.errand given.text s
      → Contains (changes s.number) (change_of space.graph new.graph s) → Housed given.link new (told_more s)
      → IsTrue given.name given.history given.link given.text given.requests (s.sequence + 1) (answer_over new.graph s.wanted)

  quiet_parts : (new : Space) → new.links ≡ space.links → new.subscriptions ≡ space.subscriptions → Quiet given.link space new
  quiet_parts new links is = record {
    same = ap (λ l. link_at l given.link) links;
    vacant = λ v s c. v s (subst (λ l. Contains l s) is c);
    housed = λ s h. record {
      lives = subst (λ l. Contains l s) (sym is) h.lives;
      here = h.here;
      opened = ap (λ l. is_open (state_of l given.link)) links ∙ h.opened;
      sole = λ one c on. h.sole one (subst (λ l. Contains l one) is c) on;
    };
  }

  -- a subscription is made on another link
  made_quiet : (wanted : Option Wanted) → Quiet given.link space (subscribed space other heads wanted) × ((subscribed space other heads wanted).graph ≡ space.graph)
  made_quiet None = (quiet_same given.link space, refl)
  made_quiet (Some wanted) = (
    record {
      same = refl;
      vacant = λ v s c on. ⊎_elim
          (λ (old : Contains space.subscriptions s). v s old on)
          (λ new. apart (ap (λ (s : Subscription). s.link) new ∙ on))
          (Contains-push_cases space.subscriptions _ s c);
      housed = λ s h. record {
        lives = Contains-append_left space.subscriptions _ s h.lives;
        here = h.here;
        opened = h.opened;
        sole = λ one c on. ⊎_elim
            (λ (old : Contains space.subscriptions one). h.sole one old on)
            (λ new. absurd (apart (ap (λ (s : Subscription). s.link) new ∙ on)))
            (Contains-push_cases space.subscriptions _ one c);
      };
    },
    refl,
  )

  module _ (due : Option (List ℕ)) where
    -- what follows from what is done
    abbrev Follows : Ask → Space → Type 0
    Follows ask done = Known given space (follow space heads ask (queue done other due)) → Lines (changes_for ask (queue done other due)) (follow space heads ask (queue done other due))
        → GoesTo (follow space heads ask (queue done other due))

    quieted : (done : Space) → Quiet given.link done (queue done other due)
    quieted done = quiet_queue given.link done other due apart

    alike : (done : Space) → IsAlike done (queue done other due)
    alike done = queue_holds IsAlike alike_holds.sending done other due

    stays : (done : Space) → Quiet given.link space done → done.graph ≡ space.graph → GoesTo (queue done other due)
    stays done first graph =
        quiet_goes plain given count stage space lives holds fits suits (queue done other due) ((alike done).graph ∙ graph)
        (quiet_chain given.link space done (queue done other due) first (quieted done))

    ends : (test : Subscription → Bool) (done : Space) → done.links ≡ space.links → done.subscriptions ≡ filter (λ s. not (test s)) space.subscriptions → done.graph ≡ space.graph
        → done.name ≡ space.name → let new = tell_ends Success (queue done other due) (filter test space.subscriptions) in Known given space new → GoesTo new
    ends test done links is graph named known =
        let queued = queue done other due in
        ends_go plain given count stage space lives holds fits suits test done queued links is (quieted done) ((alike done).graph ∙ graph)
        ((alike done).name ∙ named ∙ known.named)
        ((ends_hold IsAlike alike_holds.sending Success queued (filter test space.subscriptions)).graph ∙ (alike done).graph ∙ graph)
        known lives holds fits

    -- after an update all have their turns
    module _ (done : Space) (links : done.links ≡ space.links) (is : done.subscriptions ≡ space.subscriptions) (named : done.name ≡ space.name) where
      abbrev queued : Space
      queued = queue done other due

      abbrev last : Space
      last = tell_changes space.graph queued (numbers_of space.subscriptions)

      before_turns : Quiet given.link space queued
      before_turns = quiet_chain given.link space done queued (quiet_parts done links is) (quieted done)

      own_queued : HaveOwn space.subscriptions → HaveOwn queued.subscriptions
      own_queued own =
          queue_holds (λ old new. HaveOwn old.subscriptions → HaveOwn new.subscriptions) own_holds.sending done other due (subst HaveOwn (sym is) own)

      turns : (lives : Option Subscription) → Holds given.name given.errand given.text given.link space count lives
          → Fits given.errand space.graph space.links given.link count lives stage → Known given space last
          → Lines (λ number. change_among space.graph queued (numbers_of space.subscriptions) number) last → GoesTo last
      turns None vacant fits_none known lines =
          let q = quiet_chain given.link space queued last before_turns
          (quiet_vacant given.link space.graph (numbers_of space.subscriptions) queued (own_queued known.own) (before_turns.vacant vacant))
          in
          nothing_goes given count stage space last (sent_on given.link space last) (none_sent given.link space last q.same) suits None (q.vacant vacant)
          (fits_same given.errand space.graph last.graph space.links last.links given.link count None stage fits_none
          (λ was. record { known = λ gone. was.known (sym q.same ∙ gone); shut = ap (λ found. is_open (state_or_never found)) q.same ∙ was.shut })
          (λ s e. absurd (cc)))
      turns (Some s) holds_one fits_one known lines =
          let h = before_turns.housed s holds_one.0 in
          let same = before_turns.same in
          let small = known.small s holds_one.0.lives in
          let graphs : queued.graph ≡ last.graph = sym (changes_hold IsAlike alike_holds space.graph queued (numbers_of space.subscriptions)).graph in
          let may = known.follows s.wanted in
          heard_goes plain given count s holds_one.1 holds_one.2 (known.heads s holds_one.1) small.0 small.1 space.graph last.graph may (known.sides s.wanted holds_one.1.asks) stage suits
          queued last (sent_on given.link space last) (change_among space.graph queued (numbers_of space.subscriptions) s.number) refl
          (λ more e. sent_is given.link space last more (e ∙ ap (λ found. pending_or_none found ++ more) same))
          (fits_same given.errand space.graph space.graph space.links queued.links given.link count (Some s) stage fits_one
          (λ was. record { known = λ gone. was.known (sym same ∙ gone); shut = ap (λ found. is_open (state_or_never found)) same ∙ was.shut }) (λ t e. refl))
          h (λ told housed. lines s holds_one.1 told housed)
          (turns_heard given.link space.graph given.name last.graph (numbers_of space.subscriptions) queued s ((alike done).name ∙ named ∙ known.named) graphs known.own (own_queued known.own)
          h (number_in space.subscriptions s holds_one.0.lives) (λ empty. (empty_exactly (answer_over space.graph s.wanted) (answer_over last.graph s.wanted) may).0 empty))

    ask_goes : (ask : Ask) → Follows ask (granted space other heads ask)
    ask_goes Join known lines = stays (granted space other heads Join) (quiet_parts (granted space other heads Join) refl refl) refl
    ask_goes Leave known lines = ends (is_of heads.node_id) (granted space other heads Leave) refl refl refl refl known
    ask_goes (Update remove insert confirm) known lines =
        turns (granted space other heads (Update remove insert confirm)) refl refl refl lives holds fits known lines
    ask_goes (Query wish) known lines = stays space (quiet_same given.link space) refl
    ask_goes (Subscribe wish) known lines =
        stays (subscribed space other heads (wanted_by wish)) (made_quiet (wanted_by wish)).0 (made_quiet (wanted_by wish)).1
    ask_goes (Unsubscribe text) known lines =
        ends (is_named heads.node_id text) (granted space other heads (Unsubscribe text)) refl refl refl refl known

    -- whatever is granted
    pub granted_goes : (ask : Ask) (done : Space) → done ≡ granted space other heads ask → Follows ask done
    granted_goes ask done is = subst (Follows ask) (sym is) (ask_goes ask)

    -- and what is refused changes nothing
    pub refused_goes : (done : Space) → done ≡ space → GoesTo (queue done other due)
    refused_goes done is = subst (λ (done : Space). GoesTo (queue done other due)) (sym is) (stays space (quiet_same given.link space) refl)
