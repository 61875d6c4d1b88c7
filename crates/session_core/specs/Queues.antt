-- Messages that are sent on links, and the subscriptions that end with theirs.
use Rattle.std.specs.Prelude.{ℕ, List, filter, Option, Some, None}
use Rattle.link_table.specs.Links.{Link, is_open, state_of, sent, changed}
use Rattle.session_core.specs.Subscriptions.{Subscription}
use Rattle.session_core.specs.Space.{Space}

-- the subscriptions whose links are open
abbrev pub on_open_links : List Link → List Subscription → List Subscription
on_open_links links subscriptions = filter (λ subscription. is_open (state_of links subscription.link)) subscriptions

-- the space with other links, the one way in which a step changes them: a subscription lives as long as its link is open
abbrev pub with_links : Space → List Link → Space
with_links space links = record space { links = links; subscriptions = on_open_links links space.subscriptions }

-- a link is sent a message, if there is one to send
abbrev pub queue : Space → ℕ → Option (List ℕ) → Space
queue space link None = space
queue space link (Some message) = with_links space (changed (sent message) space.links link)
