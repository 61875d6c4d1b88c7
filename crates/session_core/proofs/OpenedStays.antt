-- A link that was opened stays so.
use Rattle.std.proofs.Common.{◌≡◌, ◌∙◌, ap, sym, refl, subst, arith, inl, inr, ℕ, zero, suc, ◌+◌, ◌<◌, ◌≤◌, Bool, true, false, if◌then◌else◌, List, [], ◌∷◌, ◌++◌, length, drop, Option, Some, None, option_map, slice_get}
use Rattle.std.proofs.lemmas.Bool.{cases_eq, cases_Bool}
use Rattle.link_table.specs.Links.{Link, new_link, is_open, is_full, counted, fits, closed_link, sent, ended, lost, taken, link_at, changed, state_of, state_or_never}
use Rattle.link_table.specs.declared.state.LinkState.{LinkState}
use Rattle.link_table.specs.declared.state.LinkState.TheVariants.{Never, Open, Ended, Overrun, Gone}
use Rattle.link_table.proofs.OtherLinksStay.{link_at-suc, link_at-changed, state_of-others}
use Rattle.link_table.proofs.OpeningKeepsLinks.{state_of-opened, state_of-newest}
use Rattle.ssap_items.specs.declared.heads.Heads.{Heads}
use Rattle.ssap_shape.specs.declared.request.Ask.{Ask}
use Rattle.ssap_shape.specs.declared.request.Ask.TheVariants.{Join, Leave, Update, Query, Subscribe, Unsubscribe}
use Rattle.ssap_shape.specs.declared.request.Arrived.{Arrived}
use Rattle.ssap_shape.specs.declared.request.Arrived.TheVariants.{Request, Wrong, NotRequest}
use Rattle.session_core.specs.Space.{Space, empty_space}
use Rattle.session_core.specs.Subscriptions.{Wanted, wanted_by}
use Rattle.session_core.specs.Requests.{verdict, is_success, granted, subscribed, done_with, due_with}
use Rattle.session_core.specs.Queues.{with_links, queue}
use Rattle.session_core.specs.Following.{follow_with}
use Rattle.session_core.specs.Steps.{Step, unchanged, delivered, on_open, on_opened, take_step, taken_from, step}
use Rattle.session_core.specs.Runs.{run_from, run, reply_to}
use Rattle.session_core.specs.Opened.{was_opened, IsOpened, OpenedStays, OpenedIsOpened}
use Rattle.session_core.specs.declared.call.Call.{Call}
use Rattle.session_core.specs.declared.call.Call.TheVariants as call
use Rattle.session_core.specs.declared.call.Reply.{Reply}
use Rattle.session_core.specs.declared.call.Reply.TheVariants as reply
use Rattle.session_core.proofs.Standing.{run_from-one}
use Rattle.session_core.proofs.WhatFollowsHolds.{HoldsOfTelling, queue_holds, follow_holds}

-- a change leaves a link opened that was
abbrev KeepsOpened : (Link → Link) → Type 0
KeepsOpened change = (link : Link) → was_opened link.state ≡ true → was_opened (change link).state ≡ true

closed_opened : (state : LinkState) (pending : List (List ℕ)) → was_opened state ≡ true → was_opened (closed_link state pending).state ≡ true
closed_opened state [] h = refl
closed_opened state (message ∷ pending) h = h

keeps_sent : (message : List ℕ) → KeepsOpened (sent message)
keeps_sent message link h = elim (cases_Bool (is_open link.state)) [
  | inl was ↦ elim (cases_Bool (fits (link.pending ++ message ∷ []))) [
    | inl fit ↦ rw (was, fit) h
    | inr over ↦ rw (was, over) (closed_opened Overrun link.pending refl)
  ]
  | inr not ↦ rw not h
]

keeps_ended : KeepsOpened ended
keeps_ended link h = elim (cases_Bool (is_open link.state)) [
  | inl was ↦ rw was (closed_opened Ended link.pending refl)
  | inr not ↦ rw not h
]

keeps_lost : KeepsOpened lost
keeps_lost link h = refl

keeps_taken : KeepsOpened taken
keeps_taken link h = elim (cases_Bool (is_open link.state)) [
  | inl was ↦ rw was h
  | inr not ↦ rw not (closed_opened link.state (drop 1 link.pending) h)
]

of_number : (change : Link → Link) → KeepsOpened change → (found : Option Link) → was_opened (state_or_never found) ≡ true
    → was_opened (state_or_never (option_map change found)) ≡ true
of_number change keeps None h = h
of_number change keeps (Some link) h = keeps link h

-- after such a change of a link each link that was opened still was
changed_opened : (change : Link → Link) → KeepsOpened change → (links : List Link) (number other : ℕ) → was_opened (state_of links other) ≡ true
    → was_opened (state_of (changed change links number) other) ≡ true
changed_opened change keeps links number other h = elim (cases_eq other number) [
  | inl same ↦
      let here = ap (λ found. was_opened (state_or_never found)) (link_at-changed change links other) ∙ of_number change keeps (link_at links other) h in
      ap (λ n. was_opened (state_of (changed change links n) other)) (sym same) ∙ here
  | inr differs ↦ ap was_opened (state_of-others change links number other differs) ∙ h
]

within_slice : (links : List Link) (place : ℕ) → was_opened (state_or_never (slice_get links place)) ≡ true → place < length links
within_slice [] place h = absurd (cc)
within_slice (link ∷ links) zero h = omega arith
within_slice (link ∷ links) (suc place) h = omega (arith, within_slice links place h)

-- the number of a link that was opened is one of those that were given
opened_within : (links : List Link) (number : ℕ) → was_opened (state_of links number) ≡ true → number ≤ length links
opened_within links zero h = omega arith
opened_within links (suc place) h =
    omega (arith, within_slice links place (ap (λ found. was_opened (state_or_never found)) (sym (link_at-suc links place)) ∙ h))

-- each link that was opened in one space was so in another
abbrev Lasts : Space → Space → Type 0
Lasts old new = (number : ℕ) → was_opened (state_of old.links number) ≡ true → was_opened (state_of new.links number) ≡ true

lasts : (space : Space) → Lasts space space
lasts space number h = h

lasts_hold : HoldsOfTelling Lasts
lasts_hold = record {
  sending = record {
    same = lasts;
    chain = λ a b c (p : Lasts a b) (q : Lasts b c) number h. q number (p number h);
    sends = λ space link message number h. changed_opened (sent message) (keeps_sent message) space.links link number h;
  };
  drops = λ space gone number h. h;
  counts = λ space one number h. h;
}

subscribed_lasts : (space : Space) (link : ℕ) (heads : Heads) (wanted : Option Wanted) → Lasts space (subscribed space link heads wanted)
subscribed_lasts space link heads None number h = h
subscribed_lasts space link heads (Some wanted) number h = h

granted_lasts : (space : Space) (link : ℕ) (heads : Heads) (ask : Ask) → Lasts space (granted space link heads ask)
granted_lasts space link heads Join number h = h
granted_lasts space link heads Leave number h = h
granted_lasts space link heads (Update remove insert confirm) number h = h
granted_lasts space link heads (Query wish) number h = h
granted_lasts space link heads (Subscribe wish) number h = subscribed_lasts space link heads (wanted_by wish) number h
granted_lasts space link heads (Unsubscribe text) number h = h

done_lasts : (space : Space) (link : ℕ) (heads : Heads) (ask : Ask) (success : Bool) → Lasts space (if success then granted space link heads ask else space)
done_lasts space link heads ask true number h = granted_lasts space link heads ask number h
done_lasts space link heads ask false number h = h

-- what comes on an open link
arrived_lasts : (space : Space) (link : ℕ) (arrived : Arrived) → Lasts space (delivered space link arrived)
arrived_lasts space link (Request request) number h =
    let status = verdict space request in
    let done = done_with space link request status in
    let queued = queue done link (due_with space request status) in
    follow_holds Lasts lasts_hold space request status queued number
    (queue_holds Lasts lasts_hold.sending done link (due_with space request status) number
    (done_lasts space link request.heads request.ask (is_success status) number h))
arrived_lasts space link (Wrong heads status) number h = changed_opened (sent _) (keeps_sent _) space.links link number h
arrived_lasts space link NotRequest number h = changed_opened ended keeps_ended space.links link number h

on_open_lasts : (state : LinkState) (space new : Space) → Lasts space new → Lasts space (on_open state space new).space
on_open_lasts Never space new l = lasts space
on_open_lasts Open space new l = l
on_open_lasts Ended space new l = lasts space
on_open_lasts Overrun space new l = lasts space
on_open_lasts Gone space new l = lasts space

on_opened_lasts : (state : LinkState) (space new : Space) → Lasts space new → Lasts space (on_opened state space new).space
on_opened_lasts Never space new l = lasts space
on_opened_lasts Open space new l = l
on_opened_lasts Ended space new l = l
on_opened_lasts Overrun space new l = l
on_opened_lasts Gone space new l = l

open_lasts : (full : Bool) (space : Space) (refused opened : Step) → Lasts space refused.space → Lasts space opened.space
    → Lasts space (if full then refused else opened).space
open_lasts true space refused opened p q = p
open_lasts false space refused opened p q = q

newest_lasts : (space : Space) → Lasts space (with_links space (space.links ++ new_link ∷ []))
newest_lasts space number h = ap was_opened (state_of-opened space.links number (opened_within space.links number h)) ∙ h

taken_lasts : (space : Space) (number : ℕ) (state : LinkState) (pending : List (List ℕ)) → Lasts space (taken_from space number state pending).space
taken_lasts space link state [] = lasts space
taken_lasts space link state (message ∷ pending) = λ number h. changed_opened taken keeps_taken space.links link number h

take_lasts : (space : Space) (number : ℕ) (found : Option Link) → Lasts space (take_step space number found).space
take_lasts space link None = lasts space
take_lasts space link (Some found) = taken_lasts space link found.state found.pending

call_lasts : (space : Space) (one : Call) → Lasts space (step space one).space
call_lasts space call.NewLink = open_lasts (is_full space.links) space _ _ (lasts space) (newest_lasts space)
call_lasts space (call.Deliver link arrived) = on_open_lasts (state_of space.links link) space (delivered space link arrived) (arrived_lasts space link arrived)
call_lasts space (call.End link) = on_open_lasts (state_of space.links link) space _ (λ number h. changed_opened ended keeps_ended space.links link number h)
call_lasts space (call.Lost link) = on_opened_lasts (state_of space.links link) space _ (λ number h. changed_opened lost keeps_lost space.links link number h)
call_lasts space (call.Take link) = take_lasts space link (link_at space.links link)

run_lasts : (space : Space) (calls : List Call) → Lasts space (run_from space calls)
run_lasts space [] = lasts space
run_lasts space (one ∷ calls) = λ number h. run_lasts (step space one).space calls number (call_lasts space one number h)

pub run_from-append : (space : Space) (xs ys : List Call) → run_from space (xs ++ ys) ≡ run_from (run_from space xs) ys
run_from-append space [] ys = refl
run_from-append space (x ∷ xs) ys = run_from-append (step space x).space xs ys

pub opened_stays : OpenedStays
opened_stays name history more link h =
    subst (λ (s : Space). was_opened (state_of s.links link) ≡ true) (sym (run_from-append (empty_space name) history more))
    (run_lasts (run name history) more link h)

opened_number : (a b : ℕ) → ◌≡◌ {A = Reply} (reply.Opened a) (reply.Opened b) → b ≡ a
opened_number a b e = cc

-- the link that opens
newest : (full : Bool) (space : Space) (link : ℕ)
    → (if full then unchanged space (reply.TooManyLinks (counted space.links)) else record { space = with_links space (space.links ++ new_link ∷ []); reply = reply.Opened (length space.links + 1) }).reply ≡ reply.Opened link
    → was_opened (state_of (if full then unchanged space (reply.TooManyLinks (counted space.links)) else record { space = with_links space (space.links ++ new_link ∷ []); reply = reply.Opened (length space.links + 1) }).space.links link) ≡ true
newest true space link told = absurd (cc)
newest false space link told =
    ap (λ n. was_opened (state_of (space.links ++ new_link ∷ []) n)) (opened_number (length space.links + 1) link told) ∙ ap was_opened (state_of-newest space.links)

pub opened_is_opened : OpenedIsOpened
opened_is_opened name history link told =
    subst (λ (s : Space). was_opened (state_of s.links link) ≡ true) (sym (run_from-one (empty_space name) history call.NewLink))
    (newest (is_full (run name history).links) (run name history) link told)
