-- The changes that a subscription was told, as messages on its link.
use Rattle.std.specs.Prelude.{◌≡◌, ◌⊎◌, ℕ, List, [], ◌∷◌, map, Some, ⊤, codes, refl}
use mathlib.Core.Logic.{inl, inr}
use Rattle.ssap_items.specs.declared.heads.Transaction as transaction
use Rattle.ssap_shape.specs.declared.reply.Indication.TheVariants.{Changes}
use Rattle.session_core.specs.Subscriptions.{Subscription, subscription_at, heads_for, indication_bytes}
use Rattle.session_core.specs.Following.{Change}
use Rattle.session_core.specs.Runs.{run, sent}
use Rattle.session_core.specs.Watching.{changes}
use Rattle.session_core.specs.declared.call.Call.{Call}

-- messages stand among others, in their order
abbrev pub StandAmong : List (List ℕ) → List (List ℕ) → Type 0
StandAmong [] others = ⊤
StandAmong (message ∷ messages) [] = ⊥
StandAmong (message ∷ messages) (other ∷ others) = ((message ≡ other) × StandAmong messages others) ⊎ StandAmong (message ∷ messages) others

-- the indication of a change that a subscription was told, as it is sent
abbrev pub told_bytes : List ℕ → Subscription → Change → List ℕ
told_bytes name subscription change =
    indication_bytes (Changes (heads_for name subscription transaction.TheVariants.Subscribe) subscription.number change.sequence change.difference)

-- whatever the history, the changes that a living subscription was told were sent on its link, in their order
abbrev pub ChangesAreSent : Type 0
ChangesAreSent = (name : List ℕ) (history : List Call) (number : ℕ) (subscription : Subscription)
    → subscription_at (run name history).subscriptions number ≡ Some subscription
    → StandAmong (map (told_bytes name subscription) (changes name history number)) (sent name history subscription.link)

-- the first and the third of three messages stand among them
example_among : StandAmong (codes "a" ∷ codes "c" ∷ []) (codes "a" ∷ codes "b" ∷ codes "c" ∷ [])
example_among = inl (refl, inr (inl (refl, tt)))

-- a message that stands once does not stand twice
example_once : StandAmong (codes "a" ∷ codes "a" ∷ []) (codes "a" ∷ []) → ⊥
example_once (inl both) = both.1
example_once (inr later) = later
