-- A call that delivers on another link: the talk fits again.
use Rattle.std.proofs.Common.{◌≡◌, ◌≢◌, ℕ, ◌+◌, Bool, true, false, List, [], Contains, Option, Some, refl, sym, ap, subst, if◌then◌else◌}
use Rattle.link_table.specs.Links.{is_open, changed, ended, state_of}
use Rattle.link_table.specs.declared.state.LinkState.{LinkState}
use Rattle.link_table.specs.declared.state.LinkState.TheVariants.{Never, Open, Ended, Overrun, Gone}
use Rattle.link_table.proofs.OtherLinksStay.{link_at-others}
use Rattle.ssap_shape.specs.declared.request.Ask.{Ask}
use Rattle.ssap_shape.specs.declared.request.Ask.TheVariants.{Join, Leave, Update, Query, Subscribe, Unsubscribe}
use Rattle.ssap_shape.specs.declared.request.Request as asked
use Rattle.ssap_shape.specs.declared.request.Arrived.{Arrived}
use Rattle.ssap_shape.specs.declared.request.Arrived.TheVariants.{Request, Wrong, NotRequest}
use Rattle.session_core.specs.Space.{Space}
use Rattle.session_core.specs.Requests.{verdict, is_success, granted, done_with, due_with, confirm, wrong_status}
use Rattle.session_core.specs.Subscriptions.{Subscription, answer_over}
use Rattle.session_core.specs.Queues.{queue}
use Rattle.session_core.specs.Following.{Change, follow}
use Rattle.session_core.specs.Steps.{delivered, on_open, step}
use Rattle.session_core.specs.Watching.{changes_by_arrived, changes_by_ask, changes_by}
use Rattle.session_core.specs.declared.call.Call.TheVariants as call
use Rattle.talk_laws.specs.Truth.{IsTrue}
use Rattle.talk_laws.proofs.Stages.{Stage, point_of}
use Rattle.talk_laws.proofs.Plain.{AllPlain}
use Rattle.talk_laws.proofs.QuietSteps.{Housed, quiet_same, quiet_queue, quiet_linked}
use Rattle.talk_laws.proofs.TurnsAreHeard.{told_more, change_of}
use Rattle.talk_laws.proofs.Fits.{IsOurs, Holds, Fits, Suits, Given, Goes}
use Rattle.talk_laws.proofs.DeliveriesElsewhere.{Known, sent_on, quiet_goes}
use Rattle.talk_laws.proofs.GrantedElsewhere.{changes_for, granted_goes, refused_goes}

module _ (plain : AllPlain) (given : Given) (count : ℕ) (stage : Stage) (space : Space) (lives : Option Subscription)
    (holds : Holds given.name given.errand given.text given.link space count lives)
    (fits : Fits given.errand space.graph space.links given.link count lives stage) (suits : Suits given.errand.task (point_of stage))
    (other : ℕ) (apart : other ≢ given.link) where
  abbrev GoesTo : Space → Type 0
  GoesTo new = Goes given count stage (sent_on given.link space new) new

  abbrev Lines : (ℕ → List Change) → Space → Type 0
  Lines changes new = (s : Subscription) → IsOurs given.name given.errand given.text s
      → Contains (changes s.number) (change_of space.graph new.graph s) → Housed given.link new (told_more s)
      → IsTrue given.name given.history given.link given.text given.requests (s.sequence + 1) (answer_over new.graph s.wanted)

  -- where this is known, and what is told makes true lines, the talk goes on
  abbrev Leads : (ℕ → List Change) → Space → Type 0
  Leads changes new = Known given space new → Lines changes new → GoesTo new

  module _ (request : asked.Request) where
    same_changes : (ask : Ask) (number : ℕ) → changes_for plain given count stage space lives holds fits suits other apart request.heads ask
        (queue (done_with space other request (verdict space request)) other (due_with space request (verdict space request))) number
        ≡ changes_by_ask space other request ask number
    same_changes Join number = refl
    same_changes Leave number = refl
    same_changes (Update remove insert confirm) number = refl
    same_changes (Query wish) number = refl
    same_changes (Subscribe wish) number = refl
    same_changes (Unsubscribe text) number = refl

    -- by whether it is granted
    abbrev Decides : Bool → Type 0
    Decides b = Leads (λ number. if b then changes_by_ask space other request request.ask number else [])
        (if b then follow space request.heads request.ask (queue (done_with space other request (verdict space request)) other (due_with space request (verdict space request)))
        else queue (done_with space other request (verdict space request)) other (due_with space request (verdict space request)))

    by : (b : Bool) → is_success (verdict space request) ≡ b → Decides b
    by true e known lines =
        granted_goes plain given count stage space lives holds fits suits other apart request.heads (due_with space request (verdict space request)) request.ask
        (done_with space other request (verdict space request)) (ap (λ b. if b then granted space other request.heads request.ask else space) e) known
        (λ s ours told housed. lines s ours (subst (λ l. Contains l (change_of space.graph
        (follow space request.heads request.ask (queue (done_with space other request (verdict space request)) other (due_with space request (verdict space request)))).graph s))
        (same_changes request.ask s.number) told) housed)
    by false e known lines =
        refused_goes plain given count stage space lives holds fits suits other apart request.heads (due_with space request (verdict space request))
        (done_with space other request (verdict space request)) (ap (λ b. if b then granted space other request.heads request.ask else space) e)

    request_goes : Leads (changes_by_arrived space other (Request request)) (delivered space other (Request request))
    request_goes = by (is_success (verdict space request)) refl

  arrived_goes : (arrived : Arrived) → Leads (changes_by_arrived space other arrived) (delivered space other arrived)
  arrived_goes (Request request) known lines = request_goes request known lines
  arrived_goes (Wrong heads status) known lines =
      quiet_goes plain given count stage space lives holds fits suits (delivered space other (Wrong heads status)) refl
      (quiet_queue given.link space other (Some (confirm heads (wrong_status space heads status))) apart)
  arrived_goes NotRequest known lines =
      quiet_goes plain given count stage space lives holds fits suits (delivered space other NotRequest) refl
      (quiet_linked given.link space (changed ended space.links other) (link_at-others ended space.links other given.link (λ e. apart (sym e))))

  still : Leads (λ number. []) space
  still known lines = quiet_goes plain given count stage space lives holds fits suits space refl (quiet_same given.link space)

  by_state : (state : LinkState) (arrived : Arrived)
      → Leads (λ number. if is_open state then changes_by_arrived space other arrived number else []) (on_open state space (delivered space other arrived)).space
  by_state Never arrived known lines = still known lines
  by_state Open arrived known lines = arrived_goes arrived known lines
  by_state Ended arrived known lines = still known lines
  by_state Overrun arrived known lines = still known lines
  by_state Gone arrived known lines = still known lines

  -- whatever is delivered there
  pub elsewhere_goes : (arrived : Arrived) → Leads (changes_by space (call.Deliver other arrived)) (step space (call.Deliver other arrived)).space
  elsewhere_goes arrived known lines = by_state (state_of space.links other) arrived known lines
