-- A call gives one number at most to a subscription, and tells each one change at most.
use Rattle.std.proofs.Common.{◌≡◌, ◌≢◌, ◌≤◌, ℕ, ◌+◌, Bool, true, false, List, [], ◌∷◌, ◌++◌, length, Contains, Option, Some, None, sym, subst, arith, if◌then◌else◌, length-append}
use Rattle.std.proofs.lemmas.Bool.{cases_eq}
use mathlib.Core.Logic.{⊎_elim}
use Rattle.m3_terms.specs.declared.triple.Triple.{Triple}
use Rattle.link_table.specs.Links.{Link, is_open, is_full, link_at, state_of}
use Rattle.link_table.specs.declared.state.LinkState.{LinkState}
use Rattle.link_table.specs.declared.state.LinkState.TheVariants.{Never, Open, Ended, Overrun, Gone}
use Rattle.ssap_items.specs.declared.heads.Heads.{Heads}
use Rattle.ssap_shape.specs.declared.request.Ask.{Ask}
use Rattle.ssap_shape.specs.declared.request.Ask.TheVariants.{Join, Leave, Update, Query, Subscribe, Unsubscribe}
use Rattle.ssap_shape.specs.declared.request.Request as asked
use Rattle.ssap_shape.specs.declared.request.Arrived.{Arrived}
use Rattle.ssap_shape.specs.declared.request.Arrived.TheVariants.{Request, Wrong, NotRequest}
use Rattle.session_core.specs.Space.{Space, empty_space}
use Rattle.session_core.specs.Subscriptions.{Subscription, Wanted, wanted_by, numbers_of, subscription_at}
use Rattle.session_core.specs.Requests.{verdict, is_success, granted, subscribed, done_with, due_with}
use Rattle.session_core.specs.Queues.{queue}
use Rattle.session_core.specs.Following.{Change, is_told, difference_over, tell_living, change_at, change_among}
use Rattle.session_core.specs.Steps.{Step, delivered, on_open, on_opened, take_step, taken_from, step}
use Rattle.session_core.specs.Runs.{run, run_from}
use Rattle.session_core.specs.Watching.{Beginning, changes_by_ask, changes_by_arrived, changes_by, changes_from, changes, begun_by}
use Rattle.session_core.specs.declared.call.Call.{Call}
use Rattle.session_core.specs.declared.call.Call.TheVariants as call
use Rattle.session_core.proofs.NumbersDiffer.{AreOthers, HaveOwn, DoDiffer}
use Rattle.session_core.proofs.WhatFollowsHolds.{queue_holds, follow_holds}
use Rattle.session_core.proofs.Growing.{IsAlike, alike_holds}
use Rattle.session_core.proofs.ChangesLeadOn.{own_told, other_told}
use Rattle.session_core.proofs.SubscriptionsAreFollowed.{IsWatched, call_watches, empty_watched}

either_one : (b : Bool) (change : Change) → length (if b then change ∷ [] else []) ≤ 1
either_one true change = omega arith
either_one false change = omega arith

change_one : (before : List Triple) (space : Space) (found : Option Subscription) → length (change_at before space found) ≤ 1
change_one before space None = omega arith
change_one before space (Some s) = either_one (is_told space s (difference_over before space.graph s.wanted)) _

among_one : (before : List Triple) (numbers : List ℕ) (space : Space) (number : ℕ) → DoDiffer numbers → length (change_among before space numbers number) ≤ 1
among_one before [] space number d = omega arith
among_one before (one ∷ numbers) space number d = ⊎_elim
    (λ (e : one ≡ number).
    subst (λ l. length l ≤ 1) (sym (own_told before space one numbers number e (subst (AreOthers numbers) e d.0))) (change_one before space (subscription_at space.subscriptions one)))
    (λ (n : one ≢ number).
    subst (λ l. length l ≤ 1) (sym (other_told before space one numbers number n)) (among_one before numbers (tell_living before space (subscription_at space.subscriptions one)) number d.1))
    (cases_eq one number)

ask_one : (space : Space) (link : ℕ) (request : asked.Request) (ask : Ask) (number : ℕ) → HaveOwn space.subscriptions → length (changes_by_ask space link request ask number) ≤ 1
ask_one space link request Join number own = omega arith
ask_one space link request Leave number own = omega arith
ask_one space link request (Update remove insert confirm) number own =
    among_one space.graph (numbers_of space.subscriptions) (queue (done_with space link request (verdict space request)) link (due_with space request (verdict space request))) number own
ask_one space link request (Query wish) number own = omega arith
ask_one space link request (Subscribe wish) number own = omega arith
ask_one space link request (Unsubscribe text) number own = omega arith

if_one : (b : Bool) (changes : List Change) → length changes ≤ 1 → length (if b then changes else []) ≤ 1
if_one true changes le = le
if_one false changes le = omega arith

arrived_one : (space : Space) (link : ℕ) (arrived : Arrived) (number : ℕ) → HaveOwn space.subscriptions → length (changes_by_arrived space link arrived number) ≤ 1
arrived_one space link (Request request) number own = if_one (is_success (verdict space request)) _ (ask_one space link request request.ask number own)
arrived_one space link (Wrong heads status) number own = omega arith
arrived_one space link NotRequest number own = omega arith

call_one : (space : Space) (one : Call) (number : ℕ) → HaveOwn space.subscriptions → length (changes_by space one number) ≤ 1
call_one space call.NewLink number own = omega arith
call_one space (call.Deliver link arrived) number own = if_one (is_open (state_of space.links link)) _ (arrived_one space link arrived number own)
call_one space (call.End link) number own = omega arith
call_one space (call.Lost link) number own = omega arith
call_one space (call.Take link) number own = omega arith

-- how a space counts on
abbrev Counts : Space → Space → Type 0
Counts old new = new.numbered ≤ old.numbered + 1

same_count : (space : Space) → Counts space space
same_count space = omega arith

subscribed_counts : (space : Space) (link : ℕ) (heads : Heads) (wanted : Option Wanted) → Counts space (subscribed space link heads wanted)
subscribed_counts space link heads None = omega arith
subscribed_counts space link heads (Some wanted) = omega arith

granted_counts : (space : Space) (link : ℕ) (heads : Heads) (ask : Ask) → Counts space (granted space link heads ask)
granted_counts space link heads Join = omega arith
granted_counts space link heads Leave = omega arith
granted_counts space link heads (Update remove insert confirm) = omega arith
granted_counts space link heads (Query wish) = omega arith
granted_counts space link heads (Subscribe wish) = subscribed_counts space link heads (wanted_by wish)
granted_counts space link heads (Unsubscribe text) = omega arith

done_counts : (b : Bool) (space : Space) (link : ℕ) (heads : Heads) (ask : Ask) → Counts space (if b then granted space link heads ask else space)
done_counts true space link heads ask = granted_counts space link heads ask
done_counts false space link heads ask = omega arith

delivered_counts : (space : Space) (link : ℕ) (arrived : Arrived) → Counts space (delivered space link arrived)
delivered_counts space link (Request request) =
    let status = verdict space request in
    let done = done_with space link request status in
    let queued = queue done link (due_with space request status) in
    let a = (queue_holds IsAlike alike_holds.sending done link (due_with space request status)).numbered in
    let b = (follow_holds IsAlike alike_holds space request status queued).numbered in
    let c = done_counts (is_success status) space link request.heads request.ask in
    omega (arith, a, b, c)
delivered_counts space link (Wrong heads status) = omega arith
delivered_counts space link NotRequest = omega arith

on_open_counts : (state : LinkState) (space new : Space) → Counts space new → Counts space (on_open state space new).space
on_open_counts Never space new c = omega arith
on_open_counts Open space new c = c
on_open_counts Ended space new c = omega arith
on_open_counts Overrun space new c = omega arith
on_open_counts Gone space new c = omega arith

on_opened_counts : (state : LinkState) (space new : Space) → Counts space new → Counts space (on_opened state space new).space
on_opened_counts Never space new c = omega arith
on_opened_counts Open space new c = c
on_opened_counts Ended space new c = c
on_opened_counts Overrun space new c = c
on_opened_counts Gone space new c = c

either_counts : (b : Bool) (space : Space) (one other : Step) → Counts space one.space → Counts space other.space → Counts space (if b then one else other).space
either_counts true space one other p q = p
either_counts false space one other p q = q

take_counts : (space : Space) (number : ℕ) (state : LinkState) (pending : List (List ℕ)) → Counts space (taken_from space number state pending).space
take_counts space number state [] = omega arith
take_counts space number state (message ∷ pending) = omega arith

found_counts : (space : Space) (number : ℕ) (found : Option Link) → Counts space (take_step space number found).space
found_counts space number None = omega arith
found_counts space number (Some link) = take_counts space number link.state link.pending

step_counts : (space : Space) (one : Call) → Counts space (step space one).space
step_counts space call.NewLink = either_counts (is_full space.links) space _ _ (same_count space) (omega arith)
step_counts space (call.Deliver link arrived) = on_open_counts (state_of space.links link) space (delivered space link arrived) (delivered_counts space link arrived)
step_counts space (call.End link) = on_open_counts (state_of space.links link) space _ (omega arith)
step_counts space (call.Lost link) = on_opened_counts (state_of space.links link) space _ (omega arith)
step_counts space (call.Take link) = found_counts space link (link_at space.links link)

-- calls count no further than they are many
from_counts : (space : Space) (calls : List Call) → (run_from space calls).numbered ≤ space.numbered + length calls
from_counts space [] = omega arith
from_counts space (one ∷ calls) =
    let first = step_counts space one in
    let rest = from_counts (step space one).space calls in
    omega (arith, first, rest)

pub run_counts : (name : List ℕ) (history : List Call) → (run name history).numbered ≤ length history
run_counts name history = let all = from_counts (empty_space name) history in omega (arith, all)

-- the subscriptions of a run have numbers of their own, of those that were given, and were told no more changes than there were calls
from_own : (space : Space) (calls : List Call) (number : ℕ) (beginnings : List Beginning) (told : List Change) → IsWatched space number beginnings told
    → HaveOwn (run_from space calls).subscriptions
    × ((s : Subscription) → Contains (run_from space calls).subscriptions s → s.number ≤ (run_from space calls).numbered)
    × (length (changes_from space calls number) ≤ length calls)
from_own space [] number beginnings told w = (w.own, w.given, omega arith)
from_own space (one ∷ calls) number beginnings told w =
    let rest = from_own (step space one).space calls number (beginnings ++ begun_by space one number) (told ++ changes_by space one number) (call_watches space one number beginnings told w) in
    let first = call_one space one number w.own in
    let split = length-append (changes_by space one number) (changes_from (step space one).space calls number) in
    (rest.0, rest.1, (let later = rest.2 in omega (arith, later, first, split)))

pub run_own : (name : List ℕ) (history : List Call) (number : ℕ) → HaveOwn (run name history).subscriptions
    × ((s : Subscription) → Contains (run name history).subscriptions s → s.number ≤ (run name history).numbered)
    × (length (changes name history number) ≤ length history)
run_own name history number = from_own (empty_space name) history number [] [] (empty_watched name number)
