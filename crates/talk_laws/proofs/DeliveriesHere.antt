-- A request of the talk that is delivered on its link: the talk fits again.
use Rattle.std.proofs.Common.{◌≡◌, ◌<◌, ℕ, ◌+◌, Bool, true, false, List, Option, Some, None, refl, sym, ◌∙◌, arith, if◌then◌else◌}
use Rattle.std.specs.Fmt.{decimal}
use mathlib.Core.Bool.{true≢false}
use Rattle.m3_terms.specs.declared.triple.Triple.{Triple}
use Rattle.link_table.specs.Links.{Link, is_open, state_of}
use Rattle.ssap_items.specs.declared.heads.Transaction as transaction
use Rattle.ssap_shape.specs.Sound.{IsSoundId, AreSoundHeads}
use Rattle.ssap_shape.specs.declared.request.Ask.{Ask}
use Rattle.ssap_shape.specs.declared.request.Ask.TheVariants as ask
use Rattle.ssap_shape.specs.declared.request.Request.{Request as Asked}
use Rattle.ssap_shape.specs.declared.status.Status.{Status}
use Rattle.ssap_shape.specs.declared.status.Status.TheVariants.{Success}
use Rattle.session_core.specs.Space.{Space}
use Rattle.session_core.specs.Subscriptions.{Subscription, is_of, is_named}
use Rattle.session_core.specs.Requests.{verdict, is_success, granted, success_due, confirm}
use Rattle.session_core.specs.Queues.{queue}
use Rattle.session_core.specs.Following.{follow}
use Rattle.ssap_shape.specs.Told.{is_success as tells_success}
use Rattle.kp_talk.specs.Talk.{request_at}
use Rattle.talk_laws.specs.Truth.{IsErrand}
use Rattle.talk_laws.proofs.Stages.{Unsubscribes, LeavesAsked, Stage, point_of, join, unsubscribe, leave}
use Rattle.talk_laws.proofs.Plain.{AllPlain}
use Rattle.talk_laws.proofs.QuietSteps.{Vacant}
use Rattle.talk_laws.proofs.Fits.{Holds, Fits, Suits, Given, Goes}
use Rattle.talk_laws.proofs.DeliveriesElsewhere.{Known, sent_on}
use Rattle.talk_laws.proofs.ConfirmsFit.{Fit, first_fits, left_fits, unsubscribed_fits, last_fits}
use Rattle.talk_laws.proofs.ConfirmsGo.{confirm_goes, confirm_ends}
use Rattle.talk_laws.proofs.GrantedPasses.{same_success}

-- the numbers of requests are identifiers
abbrev pub NumbersAreIds : Type 0
NumbersAreIds = (number : ℕ) → number < 5 → IsSoundId (decimal number)

module _ (plain : AllPlain) (ids : NumbersAreIds) (given : Given) (is : IsErrand given.errand given.text) (count : ℕ) (stage : Stage) (space : Space) (lives : Option Subscription)
    (holds : Holds given.name given.errand given.text given.link space count lives)
    (fits : Fits given.errand space.graph space.links given.link count lives stage) (suits : Suits given.errand.task (point_of stage))
    (opened : is_open (state_of space.links given.link) ≡ true) where
  abbrev GoesTo : Space → Type 0
  GoesTo new = Goes given (count + 1) stage (sent_on given.link space new) new

  -- the space after a request, by whether it is granted
  abbrev pub after : Asked → Bool → Space
  after request b =
      if b then follow space request.heads request.ask (queue (if b then granted space given.link request.heads request.ask else space) given.link
      (if b then success_due space request.heads request.ask else Some (confirm request.heads (verdict space request))))
      else queue (if b then granted space given.link request.heads request.ask else space) given.link
      (if b then success_due space request.heads request.ask else Some (confirm request.heads (verdict space request)))

  holds_more : (lives : Option Subscription) → Holds given.name given.errand given.text given.link space count lives
      → Holds given.name given.errand given.text given.link space (count + 1) lives
  holds_more None vacant = vacant
  holds_more (Some s) h = (h.0, h.1, (let two = h.2 in omega (arith, two)))

  heads_sound : (number : ℕ) (kind : transaction.Transaction) (what : Ask) → number < 5 → AreSoundHeads (request_at given.errand number kind what).heads
  heads_sound number kind what few = record { transaction_id = ids number few; node_id = is.node; space_id = is.space }

  -- a request that is refused
  refused : (request : Asked) → AreSoundHeads request.heads → is_success (verdict space request) ≡ false
      → Fit given count space.graph (after request false).links lives (verdict space request) None None stage request → GoesTo (after request false)
  refused request sound e fit =
      confirm_goes plain given count stage space lives fits suits opened request (verdict space request) None None
      (plain.bare request.heads (verdict space request) sound) space refl lives (holds_more lives holds) fit

  not_told : (request : Asked) {A : Type 0} → is_success (verdict space request) ≡ false → tells_success (verdict space request) ≡ true → A
  not_told request e f = absurd (true≢false (sym f ∙ same_success (verdict space request) ∙ e))

  -- the request to join
  first_here : count ≡ 0 → (b : Bool) → is_success (verdict space (join given.errand)) ≡ b → GoesTo (after (join given.errand) b)
  first_here none true e =
      confirm_goes plain given count stage space lives fits suits opened (join given.errand) Success None None
      (plain.bare (join given.errand).heads Success (heads_sound 1 transaction.TheVariants.Join ask.Join (omega arith)))
      (granted space given.link (join given.errand).heads ask.Join) refl None (vacant_done lives holds)
      (first_fits given count (granted space given.link (join given.errand).heads ask.Join).graph _ None Success None None space.graph space.links lives opened none stage fits)
    where
      vacant_done : (lives : Option Subscription) → Holds given.name given.errand given.text given.link space count lives
          → Vacant given.link (granted space given.link (join given.errand).heads ask.Join)
      vacant_done None vacant = vacant
      vacant_done (Some s) h = absurd (let two = h.2 in omega (arith, two, none))
  first_here none false e =
      refused (join given.errand) (heads_sound 1 transaction.TheVariants.Join ask.Join (omega arith)) e
      (first_fits given count space.graph _ lives (verdict space (join given.errand)) None None space.graph space.links lives opened none stage fits)

  -- a request to leave, after which all subscriptions of the node end
  leave_here : (number : ℕ) → number < 5 → (is_success (verdict space (leave given.errand number)) ≡ true → Known given space (after (leave given.errand number) true))
      → ((graph : List Triple) (links : List Link) (now : Option Subscription) (status : Status) → Fit given count graph links now status None None stage (leave given.errand number))
      → (b : Bool) → is_success (verdict space (leave given.errand number)) ≡ b → GoesTo (after (leave given.errand number) b)
  leave_here number few known fit true e =
      let heads = (leave given.errand number).heads in
      confirm_ends plain given count stage space lives fits suits opened (leave given.errand number) Success None None
      (plain.bare heads Success (heads_sound number transaction.TheVariants.Leave ask.Leave few))
      (granted space given.link heads ask.Leave) refl (is_of given.errand.node) refl refl (known e).named lives holds (known e)
      (λ links now. fit space.graph links now Success)
  leave_here number few known fit false e =
      refused (leave given.errand number) (heads_sound number transaction.TheVariants.Leave ask.Leave few) e (fit space.graph _ lives (verdict space (leave given.errand number)))

  -- a request to unsubscribe
  unsubscribe_here : (number : ℕ) → (is_success (verdict space (unsubscribe given.errand number)) ≡ true → Known given space (after (unsubscribe given.errand number) true))
      → ((graph : List Triple) (links : List Link) (now : Option Subscription) (status : Status) → Fit given count graph links now status None None stage (unsubscribe given.errand number))
      → (b : Bool) → is_success (verdict space (unsubscribe given.errand number)) ≡ b → GoesTo (after (unsubscribe given.errand number) b)
  unsubscribe_here number known fit true e =
      let request = unsubscribe given.errand number in
      confirm_ends plain given count stage space lives fits suits opened request Success None None
      (plain.bare request.heads Success (heads_sound 3 transaction.TheVariants.Unsubscribe request.ask (omega arith)))
      (granted space given.link request.heads request.ask) refl (is_named given.errand.node (decimal number)) refl refl (known e).named lives holds (known e)
      (λ links now. fit space.graph links now Success)
  unsubscribe_here number known fit false e =
      refused (unsubscribe given.errand number) (heads_sound 3 transaction.TheVariants.Unsubscribe (unsubscribe given.errand number).ask (omega arith)) e
      (fit space.graph _ lives (verdict space (unsubscribe given.errand number)))

  -- the third request
  pub third_leave : count ≡ 2 → Suits given.errand.task LeavesAsked → (is_success (verdict space (leave given.errand 3)) ≡ true → Known given space (after (leave given.errand 3) true))
      → (b : Bool) → is_success (verdict space (leave given.errand 3)) ≡ b → GoesTo (after (leave given.errand 3) b)
  third_leave two query known b e =
      leave_here 3 (omega arith) known
      (λ graph links now status. left_fits given count graph links now status None None space.graph space.links lives opened two query stage suits fits) b e

  pub third_unsubscribe : (number : ℕ) → count ≡ 2 → Suits given.errand.task (Unsubscribes number) → (is_success (verdict space (unsubscribe given.errand number)) ≡ true → Known given space (after (unsubscribe given.errand number) true))
      → (b : Bool) → is_success (verdict space (unsubscribe given.errand number)) ≡ b → GoesTo (after (unsubscribe given.errand number) b)
  third_unsubscribe number two watch known b e =
      unsubscribe_here number known
      (λ graph links now status. unsubscribed_fits given count graph links now status None None space.graph space.links lives opened number two watch stage suits fits) b e

  -- the fourth
  pub fourth_leave : count ≡ 3 → Suits given.errand.task (Unsubscribes 0) → (is_success (verdict space (leave given.errand 4)) ≡ true → Known given space (after (leave given.errand 4) true))
      → (b : Bool) → is_success (verdict space (leave given.errand 4)) ≡ b → GoesTo (after (leave given.errand 4) b)
  fourth_leave three watch known b e =
      leave_here 4 (omega arith) known
      (λ graph links now status. last_fits given count graph links now status None None space.graph space.links lives opened three watch stage suits fits) b e

  -- the first
  pub first_joins : count ≡ 0 → (b : Bool) → is_success (verdict space (join given.errand)) ≡ b → GoesTo (after (join given.errand) b)
  first_joins none b e = first_here none b e
