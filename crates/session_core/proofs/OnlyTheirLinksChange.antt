-- What comes on a link changes no other link but those of subscriptions.
use Rattle.std.proofs.Common.{◌≡◌, ◌≢◌, ℕ, ◌+◌, nat_lt, Bool, true, false, not, if◌then◌else◌, List, [], ◌∷◌, length, filter, Contains, Option, Some, None, refl, sym, ap, ◌∙◌}
use Rattle.std.proofs.lemmas.List.Elements.{Contains-push_cases}
use mathlib.Core.Logic.{⊎_elim}
use Rattle.m3_terms.specs.InsertedLaws.{head_in, tail_in, was_there}
use Rattle.m3_terms.specs.declared.triple.Triple.{Triple}
use Rattle.query_eval.proofs.Counts.{mapped_from}
use Rattle.link_table.specs.Links.{is_open, state_of, link_at, sent, ended, changed}
use Rattle.link_table.proofs.OtherLinksStay.{link_at-others}
use Rattle.answer_bodies.specs.Differences.{is_empty_difference}
use Rattle.ssap_items.specs.declared.heads.Heads.{Heads}
use Rattle.ssap_shape.specs.declared.status.Status.{Status}
use Rattle.ssap_shape.specs.declared.status.Status.TheVariants.{Success}
use Rattle.ssap_shape.specs.declared.request.Ask.{Ask}
use Rattle.ssap_shape.specs.declared.request.Ask.TheVariants.{Join, Leave, Update, Query, Subscribe, Unsubscribe}
use Rattle.ssap_shape.specs.declared.request.Arrived.{Arrived}
use Rattle.ssap_shape.specs.declared.request.Arrived.TheVariants.{Request, Wrong, NotRequest}
use Rattle.session_core.specs.Space.{Space}
use Rattle.session_core.specs.Subscriptions.{Subscription, Wanted, wanted_by, width_over, has_number, numbers_of, subscription_at, is_of, is_named}
use Rattle.session_core.specs.Requests.{verdict, is_success, granted, subscribed, done_with, due_with, confirm, wrong_status}
use Rattle.session_core.specs.Queues.{queue}
use Rattle.session_core.specs.Following.{tell_end, tell_ends, takes, told_once_more, without_number, end_over, with_next, difference_over, change_bytes, tell_living, tell_changes, follow, follow_with}
use Rattle.session_core.specs.Steps.{delivered}
use Rattle.session_core.specs.Laws.{OtherLinksStay}
use Rattle.session_core.proofs.NumbersDiffer.{found_there}
use Rattle.session_core.proofs.Told.{done_links}
use Rattle.session_core.proofs.ChangesLeadOn.{turn_cases}

module _ (other : ℕ) where
  -- no subscription is on this link
  abbrev Frees : List Subscription → Type 0
  Frees subscriptions = (s : Subscription) → Contains subscriptions s → s.link ≢ other

  -- where none is, the link stays, and none is afterwards
  abbrev Stays : Space → Space → Type 0
  Stays old new = Frees old.subscriptions → (link_at new.links other ≡ link_at old.links other) × Frees new.subscriptions

  stays_chain : (a b c : Space) → Stays a b → Stays b c → Stays a c
  stays_chain a b c p q free = let before = p free in let after = q before.1 in (after.0 ∙ before.0, after.1)

  stays_sent : (space : Space) (link : ℕ) (message : List ℕ) → link ≢ other → Stays space (queue space link (Some message))
  stays_sent space link message n free = (
    link_at-others (sent message) space.links link other (λ e. n (sym e)),
    λ s c. free s (was_there (λ s. is_open (state_of (changed (sent message) space.links link) s.link)) space.subscriptions s c),
  )

  stays_queued : (space : Space) (link : ℕ) (due : Option (List ℕ)) → link ≢ other → Stays space (queue space link due)
  stays_queued space link None n free = (refl, free)
  stays_queued space link (Some message) n free = stays_sent space link message n free

  stays_ends : (status : Status) (space : Space) (subscriptions : List Subscription) → Frees subscriptions → Stays space (tell_ends status space subscriptions)
  stays_ends status space [] frees free = (refl, free)
  stays_ends status space (s ∷ subscriptions) frees free =
      let after = tell_end status space s in
      stays_chain space after (tell_ends status after subscriptions) (stays_sent space s.link _ (frees s (head_in s subscriptions)))
      (stays_ends status after subscriptions (λ t c. frees t (tail_in s subscriptions t c))) free

  stays_over : (space : Space) (t : Subscription) → t.link ≢ other → Stays space (end_over space t)
  stays_over space t n free =
      stays_sent (without_number space t.number) t.link _ n (λ s c. free s (was_there (λ s. not (has_number t.number s)) space.subscriptions s c))

  link_told : (number : ℕ) (s : Subscription) → (told_once_more number s).link ≡ s.link
  link_told number s = at (has_number number s)
    where
      at : (b : Bool) → (if b then record s { sequence = s.sequence + 1 } else s).link ≡ s.link
      at true = refl
      at false = refl

  stays_next : (space : Space) (t : Subscription) (message : List ℕ) → t.link ≢ other → Stays space (queue (with_next space t.number) t.link (Some message))
  stays_next space t message n free = stays_sent (with_next space t.number) t.link message n (λ s c.
      let from = mapped_from (told_once_more t.number) space.subscriptions s c in
      λ e. free from.0 from.1 (sym (link_told t.number from.0) ∙ ap (λ (s : Subscription). s.link) from.2 ∙ e))

  stays_turn : (before : List Triple) (space : Space) (t : Subscription) → t.link ≢ other → Stays space (tell_living before space (Some t))
  stays_turn before space t n =
      let difference = difference_over before space.graph t.wanted in
      let bytes = change_bytes space t difference in
      turn_cases (λ after more. Stays space after) (nat_lt 65536 (width_over space.graph t.wanted)) (is_empty_difference difference) (nat_lt 4194304 (length bytes))
      (takes space.links t.link bytes) (end_over space t) space (queue (with_next space t.number) t.link (Some bytes))
      (record { sequence = t.sequence + 1; difference = difference })
      (stays_over space t n) (λ empty free. (refl, free)) (λ full took. stays_next space t bytes n) (λ lost. stays_next space t bytes n)

  stays_living : (before : List Triple) (space : Space) (number : ℕ) (found : Option Subscription) → subscription_at space.subscriptions number ≡ found
      → Stays space (tell_living before space found)
  stays_living before space number None h free = (refl, free)
  stays_living before space number (Some t) h free = stays_turn before space t (free t (found_there space.subscriptions number t h).0) free

  stays_changes : (before : List Triple) (space : Space) (numbers : List ℕ) → Stays space (tell_changes before space numbers)
  stays_changes before space [] free = (refl, free)
  stays_changes before space (number ∷ numbers) free =
      let found = subscription_at space.subscriptions number in
      let after = tell_living before space found in
      stays_chain space after (tell_changes before after numbers) (stays_living before space number found refl) (stays_changes before after numbers) free

  stays_followed : (before : Space) (heads : Heads) (ask : Ask) (space : Space) → Frees before.subscriptions → Stays space (follow before heads ask space)
  stays_followed before heads Join space frees free = (refl, free)
  stays_followed before heads Leave space frees free =
      stays_ends Success space (filter (is_of heads.node_id) before.subscriptions) (λ s c. frees s (was_there (is_of heads.node_id) before.subscriptions s c)) free
  stays_followed before heads (Update remove insert confirm) space frees free = stays_changes before.graph space (numbers_of before.subscriptions) free
  stays_followed before heads (Query wish) space frees free = (refl, free)
  stays_followed before heads (Subscribe wish) space frees free = (refl, free)
  stays_followed before heads (Unsubscribe text) space frees free =
      stays_ends Success space (filter (is_named heads.node_id text) before.subscriptions) (λ s c. frees s (was_there (is_named heads.node_id text) before.subscriptions s c)) free

  frees_subscribed : (space : Space) (link : ℕ) (heads : Heads) (wanted : Option Wanted) → link ≢ other → Frees space.subscriptions → Frees (subscribed space link heads wanted).subscriptions
  frees_subscribed space link heads None n free = free
  frees_subscribed space link heads (Some wanted) n free = λ s c. ⊎_elim (λ old. free s old) (λ new. λ e. n (ap (λ (s : Subscription). s.link) new ∙ e)) (Contains-push_cases space.subscriptions _ s c)

  frees_granted : (space : Space) (link : ℕ) (heads : Heads) (ask : Ask) → link ≢ other → Frees space.subscriptions → Frees (granted space link heads ask).subscriptions
  frees_granted space link heads Join n free = free
  frees_granted space link heads Leave n free = λ s c. free s (was_there (λ s. not (is_of heads.node_id s)) space.subscriptions s c)
  frees_granted space link heads (Update remove insert confirm) n free = free
  frees_granted space link heads (Query wish) n free = free
  frees_granted space link heads (Subscribe wish) n free = frees_subscribed space link heads (wanted_by wish) n free
  frees_granted space link heads (Unsubscribe text) n free = λ s c. free s (was_there (λ s. not (is_named heads.node_id text s)) space.subscriptions s c)

  frees_done : (b : Bool) (space : Space) (link : ℕ) (heads : Heads) (ask : Ask) → link ≢ other → Frees space.subscriptions
      → Frees (if b then granted space link heads ask else space).subscriptions
  frees_done true space link heads ask n free = frees_granted space link heads ask n free
  frees_done false space link heads ask n free = free

  stays_either : (b : Bool) (before : Space) (heads : Heads) (ask : Ask) (space : Space) → Frees before.subscriptions
      → Stays space (if b then follow before heads ask space else space)
  stays_either true before heads ask space frees = stays_followed before heads ask space frees
  stays_either false before heads ask space frees = λ free. (refl, free)

  stays_delivered : (space : Space) (link : ℕ) (arrived : Arrived) → link ≢ other → Frees space.subscriptions → link_at (delivered space link arrived).links other ≡ link_at space.links other
  stays_delivered space link NotRequest n free = link_at-others ended space.links link other (λ e. n (sym e))
  stays_delivered space link (Wrong heads status) n free = (stays_sent space link (confirm heads (wrong_status space heads status)) n free).0
  stays_delivered space link (Request request) n free =
      let status = verdict space request in
      let done = done_with space link request status in
      let queued = queue done link (due_with space request status) in
      (stays_chain done queued (follow_with space request status queued) (stays_queued done link (due_with space request status) n)
      (stays_either (is_success status) space request.heads request.ask queued free)
      (frees_done (is_success status) space link request.heads request.ask n free)).0
      ∙ ap (λ links. link_at links other) (done_links space link request status)

pub other_links_stay : OtherLinksStay
other_links_stay space link arrived other n free = stays_delivered other space link arrived (λ e. n (sym e)) free
