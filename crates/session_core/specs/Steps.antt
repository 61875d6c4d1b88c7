-- One step of a space: what a call answers, and the space after it.
use Rattle.std.specs.Prelude.{ℕ, ◌+◌, if◌then◌else◌, List, [], ◌∷◌, ◌++◌, length, Option, Some, None, ⊤}
use Rattle.link_table.specs.Links.{Link, new_link, ended, lost, taken, changed, link_at, state_of, is_full, counted}
use Rattle.link_table.specs.declared.state.LinkState.{LinkState}
use Rattle.link_table.specs.declared.state.LinkState.TheVariants.{Never, Open, Ended, Overrun, Gone}
use Rattle.ssap_shape.specs.declared.request.Arrived.{Arrived}
use Rattle.ssap_shape.specs.declared.request.Arrived.TheVariants.{Request, Wrong, NotRequest}
use Rattle.session_core.specs.Space.{Space, State}
use Rattle.ssap_shape.specs.declared.request.Request.{Request as Asked}
use Rattle.ssap_shape.specs.declared.status.Status.{Status}
use Rattle.session_core.specs.Requests.{done_with, due_with, verdict, confirm, wrong_status}
use Rattle.session_core.specs.Queues.{with_links, queue}
use Rattle.session_core.specs.Following.{follow_with}
use Rattle.session_core.specs.Rings.{ring}
use Rattle.session_core.specs.declared.call.Call.{Call}
use Rattle.session_core.specs.declared.call.Call.TheVariants.{NewLink, Deliver, End, Lost, Take}
use Rattle.session_core.specs.declared.call.Reply.{Reply}
use Rattle.session_core.specs.declared.call.Reply.TheVariants.{Opened, TooManyLinks, Done, Closed, NoLink, Message, Empty, Over}

-- what a call answers, and the space after it
pub record Step : Type 0 where
  pub space : Space
  pub reply : Reply

-- the space after a request with this status, whose confirm is sent on its link once it has taken effect, and then what
-- follows from it
abbrev pub decided : Space → ℕ → Asked → Status → Space
decided space link request status = follow_with space request status (queue (done_with space link request status) link (due_with space request status))

-- the space after a message came on an open link: what is no request ends the link
abbrev pub delivered : Space → ℕ → Arrived → Space
delivered space link NotRequest = with_links space (changed ended space.links link)
delivered space link (Wrong heads status) = queue space link (Some (confirm heads (wrong_status space heads status)))
delivered space link (Request request) = decided space link request (verdict space request)

-- nothing changes, and this is answered
abbrev pub unchanged : Space → Reply → Step
unchanged space reply = record { space = space; reply = reply }

-- this is the space after it, and the links that were sent a message or ended are told
abbrev pub told : Space → Space → Step
told old new = record { space = new; reply = Done (ring old.links new.links) }

-- a call that is for an open link: the space after it, where it is open
abbrev pub on_open : LinkState → Space → Space → Step
on_open Never old new = unchanged old NoLink
on_open Open old new = told old new
on_open Ended old new = unchanged old Closed
on_open Overrun old new = unchanged old Closed
on_open Gone old new = unchanged old Closed

-- a call that is for any link that was opened
abbrev pub on_opened : LinkState → Space → Space → Step
on_opened Never old new = unchanged old NoLink
on_opened Open old new = told old new
on_opened Ended old new = told old new
on_opened Overrun old new = told old new
on_opened Gone old new = told old new

-- what is answered where no message waits on a link
abbrev pub idle : LinkState → Reply
idle Never = Over
idle Open = Empty
idle Ended = Over
idle Overrun = Over
idle Gone = Over

-- the oldest of the messages of a link is taken
abbrev pub taken_from : Space → ℕ → LinkState → List (List ℕ) → Step
taken_from space link state [] = unchanged space (idle state)
taken_from space link state (message ∷ pending) = record { space = with_links space (changed taken space.links link); reply = Message message }

-- a message is asked for, on this link if there is one
abbrev pub take_step : Space → ℕ → Option Link → Step
take_step space number None = unchanged space NoLink
take_step space number (Some link) = taken_from space number link.state link.pending

-- the next link opens, unless too many count or no number is left
abbrev pub open_step : Space → Step
open_step space =
    if is_full space.links then unchanged space (TooManyLinks (counted space.links))
    else record { space = with_links space (space.links ++ new_link ∷ []); reply = Opened (length space.links + 1) }

-- what a call answers and leaves
abbrev pub step : Space → Call → Step
step space NewLink = open_step space
step space (Deliver link arrived) = on_open (state_of space.links link) space (delivered space link arrived)
step space (End link) = on_open (state_of space.links link) space (with_links space (changed ended space.links link))
step space (Lost link) = on_opened (state_of space.links link) space (with_links space (changed lost space.links link))
step space (Take link) = take_step space link (link_at space.links link)

-- the space and the number of calls after one more
abbrev pub advanced : State → Call → State
advanced state call = record { space = (step state.space call).space; count = state.count + 1 }

-- a call that takes no memory
abbrev pub IsLean : Call → Type 0
IsLean NewLink = ⊥
IsLean (Deliver link arrived) = ⊥
IsLean (End link) = ⊤
IsLean (Lost link) = ⊤
IsLean (Take link) = ⊤

-- how many subscriptions live
abbrev pub live_subscriptions : Space → ℕ
live_subscriptions space = length space.subscriptions
