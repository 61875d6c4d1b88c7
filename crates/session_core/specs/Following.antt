-- What follows from a request once its confirm is queued: the indications, subscription by subscription in rising number.
use Rattle.std.specs.Prelude.{ℕ, ◌+◌, Bool, ◌==◌, ◌&&◌, ◌++◌, not, nat_lt, if◌then◌else◌, List, [], ◌∷◌, length, map, filter, Option, Some, None}
use Rattle.m3_terms.specs.declared.triple.Triple.{Triple}
use Rattle.link_table.specs.Links.{Link, is_open, state_of, pending_of, fits}
use Rattle.answer_bodies.specs.Differences.{difference_of, is_empty_difference}
use Rattle.answer_bodies.specs.declared.answer.Difference.{Difference}
use Rattle.ssap_items.specs.declared.heads.Heads.{Heads}
use Rattle.ssap_shape.specs.declared.request.Ask.{Ask}
use Rattle.ssap_shape.specs.declared.request.Ask.TheVariants.{Join, Leave, Update, Query, Subscribe, Unsubscribe}
use Rattle.ssap_shape.specs.declared.request.Request.{Request}
use Rattle.ssap_shape.specs.declared.status.Status.{Status}
use Rattle.ssap_shape.specs.declared.status.Status.TheVariants.{Success, OutOfResources}
use Rattle.session_core.specs.Space.{Space}
use Rattle.session_core.specs.Subscriptions.{Subscription, Wanted, answer_over, width_over, subscription_at, numbers_of, has_number, is_of, is_named, indication_bytes, ended_by, changed_by}
use Rattle.session_core.specs.Requests.{is_success}
use Rattle.session_core.specs.Queues.{queue}

-- a subscription that ended with this status is told so on its link
abbrev pub tell_end : Status → Space → Subscription → Space
tell_end status space subscription = queue space subscription.link (Some (indication_bytes (ended_by space.name subscription status)))

-- subscriptions that ended are told so, one after another
abbrev pub tell_ends : Status → Space → List Subscription → Space
tell_ends status space [] = space
tell_ends status space (subscription ∷ subscriptions) = tell_ends status (tell_end status space subscription) subscriptions

-- the space without the subscription of this number
abbrev pub without_number : Space → ℕ → Space
without_number space number = record space { subscriptions = filter (λ subscription. not (has_number number subscription)) space.subscriptions }

-- a subscription ends because it passed a limit, and is told so
abbrev pub end_over : Space → Subscription → Space
end_over space subscription = tell_end OutOfResources (without_number space subscription.number) subscription

-- the subscription of this number after one more change was told
abbrev pub told_once_more : ℕ → Subscription → Subscription
told_once_more number subscription = if has_number number subscription then record subscription { sequence = subscription.sequence + 1 } else subscription

-- the space after the next number of a subscription's changes was used
abbrev pub with_next : Space → ℕ → Space
with_next space number = record space { subscriptions = map (told_once_more number) space.subscriptions }

-- how the answer over one graph differs from that over an earlier one
abbrev pub difference_over : List Triple → List Triple → Wanted → Difference
difference_over before after wanted = difference_of (answer_over before wanted) (answer_over after wanted)

-- the bytes of the indication that tells a change
abbrev pub change_bytes : Space → Subscription → Difference → List ℕ
change_bytes space subscription difference = indication_bytes (changed_by space.name subscription difference)

-- a subscription is told how its answer changed: not where it did not, and where the indication would be longer than
-- 4,194,304 bytes it ends
abbrev pub tell_difference : Space → Subscription → Difference → Space
tell_difference space subscription difference =
    if is_empty_difference difference then space
    else if nat_lt 4194304 (length (change_bytes space subscription difference)) then end_over space subscription
    else queue (with_next space subscription.number) subscription.link (Some (change_bytes space subscription difference))

-- a subscription is told what an update changed, where this was the graph before it: where the width passes 65,536 it ends
abbrev pub tell_change : List Triple → Space → Subscription → Space
tell_change before space subscription =
    if nat_lt 65536 (width_over space.graph subscription.wanted) then end_over space subscription
    else tell_difference space subscription (difference_over before space.graph subscription.wanted)

-- the subscription that there may be is told
abbrev pub tell_living : List Triple → Space → Option Subscription → Space
tell_living before space None = space
tell_living before space (Some subscription) = tell_change before space subscription

-- the subscriptions of these numbers are told, one after another: one that has ended by then is passed over
abbrev pub tell_changes : List Triple → Space → List ℕ → Space
tell_changes before space [] = space
tell_changes before space (number ∷ numbers) = tell_changes before (tell_living before space (subscription_at space.subscriptions number)) numbers

-- a change that a subscription was told: its number, and how the answer differs
pub record Change : Type 0 where
  pub sequence : ℕ
  pub difference : Difference

-- an open link that takes one more message, which would not be too many bytes
abbrev pub takes : List Link → ℕ → List ℕ → Bool
takes links link message = is_open (state_of links link) && fits (pending_of links link ++ message ∷ [])

-- a subscription is told this change, which is queued on its link
abbrev pub is_told : Space → Subscription → Difference → Bool
is_told space subscription difference = not (nat_lt 65536 (width_over space.graph subscription.wanted))
    && (not (is_empty_difference difference)
    && (not (nat_lt 4194304 (length (change_bytes space subscription difference)))
    && takes space.links subscription.link (change_bytes space subscription difference)))

-- the change that the subscription that there may be is told at its turn, if it is told one
abbrev pub change_at : List Triple → Space → Option Subscription → List Change
change_at before space None = []
change_at before space (Some subscription) =
    if is_told space subscription (difference_over before space.graph subscription.wanted)
    then record { sequence = subscription.sequence + 1; difference = difference_over before space.graph subscription.wanted } ∷ [] else []

-- the change that the subscription of this number is told while those of some numbers have their turns
abbrev pub change_among : List Triple → Space → List ℕ → ℕ → List Change
change_among before space [] number = []
change_among before space (one ∷ others) number =
    (if one == number then change_at before space (subscription_at space.subscriptions one) else [])
    ++ change_among before (tell_living before space (subscription_at space.subscriptions one)) others number

-- what follows from a request that was granted, by the space before it: after an update all subscriptions are told what it
-- changed, and those that a node ended are told so
abbrev pub follow : Space → Heads → Ask → Space → Space
follow before heads Join space = space
follow before heads Leave space = tell_ends Success space (filter (is_of heads.node_id) before.subscriptions)
follow before heads (Update remove insert confirm) space = tell_changes before.graph space (numbers_of before.subscriptions)
follow before heads (Query wish) space = space
follow before heads (Subscribe wish) space = space
follow before heads (Unsubscribe text) space = tell_ends Success space (filter (is_named heads.node_id text) before.subscriptions)

-- what follows from a request with this status: nothing from one that is refused
abbrev pub follow_with : Space → Request → Status → Space → Space
follow_with before request status space = if is_success status then follow before request.heads request.ask space else space
