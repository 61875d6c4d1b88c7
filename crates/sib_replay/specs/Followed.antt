-- What a replay owes to the subscriptions that live behind its events.
use Rattle.std.specs.Prelude.{◌≡◌, ℕ, List, [], ◌∷◌, map, flat_map, Some, codes, refl}
use mathlib.Core.Logic.{inl, inr}
use Rattle.session_core.specs.Subscriptions.{Subscription, subscription_at}
use Rattle.session_core.specs.Watching.{IsFollowed, begun, changes}
use Rattle.session_core.specs.Indicated.{StandAmong, told_bytes}
use Rattle.session_core.specs.Runs.{sent}
use Rattle.sib_replay.specs.Output.{Event, answers, history, space_after}
use Rattle.sib_replay.specs.Lines.{Line, Sends, Finds, line_bytes, messages_on}

-- whatever the events, each subscription that lives behind them was followed through the history of their calls
abbrev pub SubscriptionsAreFollowed : Type 0
SubscriptionsAreFollowed = (name : List ℕ) (events : List Event) (number : ℕ) (subscription : Subscription)
    → subscription_at (space_after name events).subscriptions number ≡ Some subscription
    → IsFollowed (space_after name events).graph subscription (begun name (history name events) number) (changes name (history name events) number)

-- the answers to events are lines, whose messages on each link are those that were sent there, and the changes that a living
-- subscription was told stand, in their order, among those on its link
abbrev pub ChangesAreWritten : Type 0
ChangesAreWritten = (name : List ℕ) (events : List Event) → (lines : List Line) × (answers name events ≡ flat_map line_bytes lines)
    × ((link : ℕ) → messages_on link lines ≡ sent name (history name events) link)
    × ((number : ℕ) (subscription : Subscription) → subscription_at (space_after name events).subscriptions number ≡ Some subscription
    → StandAmong (map (told_bytes name subscription) (changes name (history name events) number)) (messages_on subscription.link lines))

-- of the messages on a link the first and the third stand among them, whatever other lines are between
example_written : StandAmong (codes "a" ∷ codes "c" ∷ [])
    (messages_on 1 (Sends 1 (codes "a") ∷ Sends 2 (codes "x") ∷ Sends 1 (codes "b") ∷ Finds 2 ∷ Sends 1 (codes "c") ∷ []))
example_written = inl (refl, inr (inl (refl, tt)))

-- a message on another link is none of this one
example_elsewhere : messages_on 1 (Sends 2 (codes "x") ∷ []) ≡ []
example_elsewhere = refl
