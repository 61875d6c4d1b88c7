-- What holds where a message is sent holds of all that follows from a request.
use Rattle.std.proofs.Common.{ℕ, Bool, true, false, nat_lt, if◌then◌else◌, List, [], ◌∷◌, length, filter, Option, Some, None}
use Rattle.m3_terms.specs.declared.triple.Triple.{Triple}
use Rattle.answer_bodies.specs.Differences.{is_empty_difference}
use Rattle.answer_bodies.specs.declared.answer.Difference.{Difference}
use Rattle.ssap_items.specs.declared.heads.Heads.{Heads}
use Rattle.ssap_shape.specs.declared.request.Ask.{Ask}
use Rattle.ssap_shape.specs.declared.request.Ask.TheVariants.{Join, Leave, Update, Query, Subscribe, Unsubscribe}
use Rattle.ssap_shape.specs.declared.request.Request.{Request}
use Rattle.ssap_shape.specs.declared.status.Status.{Status}
use Rattle.ssap_shape.specs.declared.status.Status.TheVariants.{Success}
use Rattle.session_core.specs.Space.{Space}
use Rattle.session_core.specs.Subscriptions.{Subscription, width_over, subscription_at, numbers_of, is_of, is_named}
use Rattle.session_core.specs.Requests.{is_success}
use Rattle.session_core.specs.Queues.{queue}
use Rattle.session_core.specs.Following.{tell_end, tell_ends, without_number, end_over, with_next, difference_over, change_bytes, tell_difference, tell_change, tell_living, tell_changes, follow, follow_with}

-- a relation of spaces that composes, and holds where a message is sent
pub record HoldsOfSending (P : Space → Space → Type 0) : Type 0 where
  pub same : (space : Space) → P space space
  pub chain : (a b c : Space) → P a b → P b c → P a c
  pub sends : (space : Space) (link : ℕ) (message : List ℕ) → P space (queue space link (Some message))

-- and where a subscription is taken out, or is told once more
pub record HoldsOfTelling (P : Space → Space → Type 0) : Type 0 where
  pub sending : HoldsOfSending P
  pub drops : (space : Space) (number : ℕ) → P space (without_number space number)
  pub counts : (space : Space) (number : ℕ) → P space (with_next space number)

module _ (P : Space → Space → Type 0) (h : HoldsOfSending P) where
  -- it holds where there may be a message to send
  pub queue_holds : (space : Space) (link : ℕ) (due : Option (List ℕ)) → P space (queue space link due)
  queue_holds space link None = h.same space
  queue_holds space link (Some message) = h.sends space link message

  -- where subscriptions that ended are told so
  pub ends_hold : (status : Status) (space : Space) (subscriptions : List Subscription) → P space (tell_ends status space subscriptions)
  ends_hold status space [] = h.same space
  ends_hold status space (subscription ∷ subscriptions) =
      let after = tell_end status space subscription in
      h.chain space after (tell_ends status after subscriptions) (h.sends space subscription.link _) (ends_hold status after subscriptions)

module _ (P : Space → Space → Type 0) (t : HoldsOfTelling P) where
  either_holds : (b : Bool) (space one other : Space) → P space one → P space other → P space (if b then one else other)
  either_holds true space one other p q = p
  either_holds false space one other p q = q

  over_holds : (space : Space) (subscription : Subscription) → P space (end_over space subscription)
  over_holds space subscription =
      let without = without_number space subscription.number in
      t.sending.chain space without (end_over space subscription) (t.drops space subscription.number) (t.sending.sends without subscription.link _)

  next_holds : (space : Space) (subscription : Subscription) (message : List ℕ) → P space (queue (with_next space subscription.number) subscription.link (Some message))
  next_holds space subscription message =
      let next = with_next space subscription.number in
      t.sending.chain space next (queue next subscription.link (Some message)) (t.counts space subscription.number) (t.sending.sends next subscription.link message)

  difference_holds : (space : Space) (subscription : Subscription) (difference : Difference) → P space (tell_difference space subscription difference)
  difference_holds space subscription difference =
      either_holds (is_empty_difference difference) space space _ (t.sending.same space)
      (either_holds (nat_lt 4194304 (length (change_bytes space subscription difference))) space (end_over space subscription)
      (queue (with_next space subscription.number) subscription.link (Some (change_bytes space subscription difference)))
      (over_holds space subscription) (next_holds space subscription (change_bytes space subscription difference)))

  change_holds : (before : List Triple) (space : Space) (subscription : Subscription) → P space (tell_change before space subscription)
  change_holds before space subscription =
      let difference = difference_over before space.graph subscription.wanted in
      either_holds (nat_lt 65536 (width_over space.graph subscription.wanted)) space (end_over space subscription) (tell_difference space subscription difference)
      (over_holds space subscription) (difference_holds space subscription difference)

  -- where the subscription that there may be has its turn
  pub living_holds : (before : List Triple) (space : Space) (found : Option Subscription) → P space (tell_living before space found)
  living_holds before space None = t.sending.same space
  living_holds before space (Some subscription) = change_holds before space subscription

  -- where subscriptions are told what an update changed
  pub changes_hold : (before : List Triple) (space : Space) (numbers : List ℕ) → P space (tell_changes before space numbers)
  changes_hold before space [] = t.sending.same space
  changes_hold before space (number ∷ numbers) =
      let found = subscription_at space.subscriptions number in
      let after = tell_living before space found in
      t.sending.chain space after (tell_changes before after numbers) (living_holds before space found) (changes_hold before after numbers)

  -- and of what follows from a request that was granted
  pub granted_holds : (before : Space) (heads : Heads) (ask : Ask) (space : Space) → P space (follow before heads ask space)
  granted_holds before heads Join space = t.sending.same space
  granted_holds before heads Leave space = ends_hold P t.sending Success space (filter (is_of heads.node_id) before.subscriptions)
  granted_holds before heads (Update remove insert confirm) space = changes_hold before.graph space (numbers_of before.subscriptions)
  granted_holds before heads (Query wish) space = t.sending.same space
  granted_holds before heads (Subscribe wish) space = t.sending.same space
  granted_holds before heads (Unsubscribe text) space = ends_hold P t.sending Success space (filter (is_named heads.node_id text) before.subscriptions)

  -- and from any
  pub follow_holds : (before : Space) (request : Request) (status : Status) (space : Space) → P space (follow_with before request status space)
  follow_holds before request status space =
      either_holds (is_success status) space (follow before request.heads request.ask space) space (granted_holds before request.heads request.ask space) (t.sending.same space)
