-- A call gives a number to one subscription at most.
use Rattle.std.proofs.Common.{◌≤◌, ◌+◌, ℕ, Bool, true, false, List, [], ◌∷◌, Option, Some, None, subst, sym, ◌∙◌, arith, if◌then◌else◌}
use Rattle.link_table.specs.Links.{Link, state_of, link_at, is_full}
use Rattle.link_table.specs.declared.state.LinkState.{LinkState}
use Rattle.link_table.specs.declared.state.LinkState.TheVariants.{Never, Open, Ended, Overrun, Gone}
use Rattle.ssap_items.specs.declared.heads.Heads.{Heads}
use Rattle.ssap_shape.specs.declared.request.Ask.{Ask}
use Rattle.ssap_shape.specs.declared.request.Ask.TheVariants.{Join, Leave, Update, Query, Subscribe, Unsubscribe}
use Rattle.ssap_shape.specs.declared.request.Arrived.{Arrived}
use Rattle.ssap_shape.specs.declared.request.Arrived.TheVariants.{Request, Wrong, NotRequest}
use Rattle.session_core.specs.Space.{Space}
use Rattle.session_core.specs.Subscriptions.{Wanted, wanted_by}
use Rattle.session_core.specs.Requests.{verdict, is_success, granted, subscribed, done_with, due_with}
use Rattle.session_core.specs.Queues.{queue}
use Rattle.session_core.specs.Steps.{Step, delivered, on_open, on_opened, take_step, taken_from, step}
use Rattle.session_core.specs.declared.call.Call.{Call}
use Rattle.session_core.specs.declared.call.Call.TheVariants as call
use Rattle.session_core.proofs.Growing.{IsAlike, alike_holds}
use Rattle.session_core.proofs.WhatFollowsHolds.{queue_holds, follow_holds}

-- of two spaces the later gave one number more, or none
abbrev GivesOne : Space → Space → Type 0
GivesOne old new = new.numbered ≤ old.numbered + 1

subscribed_gives : (space : Space) (link : ℕ) (heads : Heads) (wanted : Option Wanted) → GivesOne space (subscribed space link heads wanted)
subscribed_gives space link heads None = omega arith
subscribed_gives space link heads (Some wanted) = omega arith

granted_gives : (space : Space) (link : ℕ) (heads : Heads) (ask : Ask) → GivesOne space (granted space link heads ask)
granted_gives space link heads Join = omega arith
granted_gives space link heads Leave = omega arith
granted_gives space link heads (Update remove insert confirm) = omega arith
granted_gives space link heads (Query wish) = omega arith
granted_gives space link heads (Subscribe wish) = subscribed_gives space link heads (wanted_by wish)
granted_gives space link heads (Unsubscribe text) = omega arith

either_gives : (success : Bool) (space : Space) (link : ℕ) (heads : Heads) (ask : Ask) → GivesOne space (if success then granted space link heads ask else space)
either_gives true space link heads ask = granted_gives space link heads ask
either_gives false space link heads ask = omega arith

delivered_gives : (space : Space) (link : ℕ) (arrived : Arrived) → GivesOne space (delivered space link arrived)
delivered_gives space link NotRequest = omega arith
delivered_gives space link (Wrong heads status) = omega arith
delivered_gives space link (Request request) =
    let status = verdict space request in
    let done = done_with space link request status in
    let queued = queue done link (due_with space request status) in
    subst (λ n. n ≤ space.numbered + 1)
    (sym ((follow_holds IsAlike alike_holds space request status queued).numbered ∙ (queue_holds IsAlike alike_holds.sending done link (due_with space request status)).numbered))
    (either_gives (is_success status) space link request.heads request.ask)

on_open_gives : (state : LinkState) (space new : Space) → GivesOne space new → GivesOne space (on_open state space new).space
on_open_gives Never space new g = omega arith
on_open_gives Open space new g = g
on_open_gives Ended space new g = omega arith
on_open_gives Overrun space new g = omega arith
on_open_gives Gone space new g = omega arith

on_opened_gives : (state : LinkState) (space new : Space) → GivesOne space new → GivesOne space (on_opened state space new).space
on_opened_gives Never space new g = omega arith
on_opened_gives Open space new g = g
on_opened_gives Ended space new g = g
on_opened_gives Overrun space new g = g
on_opened_gives Gone space new g = g

open_gives : (full : Bool) (space : Space) (refused opened : Step) → GivesOne space refused.space → GivesOne space opened.space
    → GivesOne space (if full then refused else opened).space
open_gives true space refused opened e g = e
open_gives false space refused opened e g = g

taken_gives : (space : Space) (number : ℕ) (state : LinkState) (pending : List (List ℕ)) → GivesOne space (taken_from space number state pending).space
taken_gives space number state [] = omega arith
taken_gives space number state (message ∷ pending) = omega arith

take_gives : (space : Space) (number : ℕ) (found : Option Link) → GivesOne space (take_step space number found).space
take_gives space number None = omega arith
take_gives space number (Some link) = taken_gives space number link.state link.pending

-- a call gives one number at most
pub one_number_more : (space : Space) (one : Call) → (step space one).space.numbered ≤ space.numbered + 1
one_number_more space call.NewLink = open_gives (is_full space.links) space _ _ (omega arith) (omega arith)
one_number_more space (call.Deliver link arrived) = on_open_gives (state_of space.links link) space (delivered space link arrived) (delivered_gives space link arrived)
one_number_more space (call.End link) = on_open_gives (state_of space.links link) space _ (omega arith)
one_number_more space (call.Lost link) = on_opened_gives (state_of space.links link) space _ (omega arith)
one_number_more space (call.Take link) = take_gives space link (link_at space.links link)
