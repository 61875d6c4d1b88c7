-- What holds of the subscriptions of every history holds of those of a replay.
use Rattle.std.proofs.Common.{◌≡◌, ◌∙◌, ap, sym, subst, ℕ, List, map, Some}
use Rattle.session_core.specs.Space.{Space}
use Rattle.session_core.specs.Subscriptions.{Subscription, subscription_at}
use Rattle.session_core.specs.Watching.{IsFollowed, begun, changes}
use Rattle.session_core.specs.Indicated.{StandAmong, told_bytes}
use Rattle.session_core.specs.Runs.{run}
use Rattle.session_core.proofs.SubscriptionsAreFollowed.{answers_are_followed}
use Rattle.session_core.proofs.ChangesAreSent.{changes_are_sent}
use Rattle.sib_replay.specs.Output.{Event, history, space_after}
use Rattle.sib_replay.specs.Followed.{SubscriptionsAreFollowed, ChangesAreWritten}
use Rattle.sib_replay.proofs.EventLemmas.{spaces_run}
use Rattle.sib_replay.proofs.OrderLemmas.{messages_are_sent}

-- a subscription that lives behind events lives behind their calls
lives_run : (name : List ℕ) (events : List Event) (number : ℕ) (subscription : Subscription) → subscription_at (space_after name events).subscriptions number ≡ Some subscription
    → subscription_at (run name (history name events)).subscriptions number ≡ Some subscription
lives_run name events number subscription lives = ap (λ (s : Space). subscription_at s.subscriptions number) (sym (spaces_run name events)) ∙ lives

pub subscriptions_followed : SubscriptionsAreFollowed
subscriptions_followed name events number subscription lives =
    subst (λ (s : Space). IsFollowed s.graph subscription (begun name (history name events) number) (changes name (history name events) number)) (sym (spaces_run name events))
    (answers_are_followed name (history name events) number subscription (lives_run name events number subscription lives))

pub changes_written : ChangesAreWritten
changes_written name events =
    let written = messages_are_sent name events in (
      written.0,
      written.1,
      written.2,
      λ number subscription lives. subst (StandAmong (map (told_bytes name subscription) (changes name (history name events) number))) (sym (written.2 subscription.link))
          (changes_are_sent name (history name events) number subscription (lives_run name events number subscription lives)),
    )
