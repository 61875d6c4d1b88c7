-- The links that a step is told of are those among the links that were open which were sent a message or are open no more.
use Rattle.std.proofs.Common.{◌≡◌, ◌≤◌, ℕ, suc, ◌+◌, Bool, true, false, ◌&&◌, ◌||◌, not, nat_lt, if◌then◌else◌, cond, List, [], ◌∷◌, ◌++◌, length, map, filter, Option, Some, slice_get, refl, sym, ap, ◌∙◌, arith}
use Rattle.std.proofs.lemmas.List.{map-append}
use Rattle.std.proofs.lemmas.List.Elements.{filter-append}
use Rattle.link_table.proofs.OtherLinksStay.{length-changed}
use Rattle.ssap_shape.specs.declared.request.Arrived.{Arrived}
use Rattle.ssap_shape.specs.declared.request.Arrived.TheVariants.{Request, Wrong, NotRequest}
use Rattle.session_core.specs.Space.{Space}
use Rattle.session_core.specs.Requests.{verdict, done_with, due_with, confirm, wrong_status}
use Rattle.session_core.specs.Queues.{queue}
use Rattle.session_core.specs.Steps.{delivered}
use Rattle.session_core.proofs.Told.{done_links}
use Rattle.session_core.proofs.WhatFollowsHolds.{HoldsOfTelling, queue_holds, follow_holds}
use Rattle.link_table.specs.Links.{Link, sent, ended, is_open, link_at, state_or_never, pending_or_none, if_open, open_from, open_links}
use Rattle.link_table.specs.declared.open_link.OpenLink.{OpenLink}
use Rattle.session_core.specs.Rings.{is_rung, ring_from, ring, is_rung_link}
use Rattle.session_core.proofs.Changes.{link_at-place}

-- the numbers of those that were open and are to be told of
abbrev rung_among : List Link → List OpenLink → List ℕ
rung_among all opened = map (λ link. link.number) (filter (is_rung_link all) opened)

rung_among-append : (all : List Link) (xs ys : List OpenLink) → rung_among all (xs ++ ys) ≡ rung_among all xs ++ rung_among all ys
rung_among-append all xs ys =
    ap (map (λ (link : OpenLink). link.number)) (filter-append (is_rung_link all) xs ys)
    ∙ map-append (λ (link : OpenLink). link.number) (filter (is_rung_link all) xs) (filter (is_rung_link all) ys)

-- one link is told of as it is among all
one_rung : (all : List Link) (number : ℕ) (one other : Link) → link_at all number ≡ Some other
    → (if is_rung one other then number ∷ [] else []) ≡ rung_among all (if_open number one)
one_rung all number one other h = by (is_open one.state)
  where
    -- what was open is told of by what the link is now
    now : Link → Bool
    now link = not (is_open link.state) || nat_lt (length one.pending) (length link.pending)

    at : (rung : Bool) → (if rung then number ∷ [] else [])
        ≡ map (λ (link : OpenLink). link.number) (cond rung (record { number = number; waiting = length one.pending } ∷ []) [])
    at true = refl
    at false = refl

    by : (was : Bool) → (if was && now other then number ∷ [] else [])
        ≡ rung_among all (if was then record { number = number; waiting = length one.pending } ∷ [] else [])
    by true =
        at (now other)
        ∙ ap (λ (found : Option Link). map (λ (link : OpenLink). link.number)
        (cond (not (is_open (state_or_never found)) || nat_lt (length one.pending) (length (pending_or_none found))) (record { number = number; waiting = length one.pending } ∷ []) []))
        (sym h)
    by false = refl

rings_from : (all : List Link) (number : ℕ) (before after : List Link) → ((place : ℕ) → slice_get after place ≡ link_at all (number + place))
    → length before ≤ length after → ring_from number before after ≡ rung_among all (open_from number before)
rings_from all number [] after h few = refl
rings_from all number (one ∷ before) [] h few = absurd (omega arith)
rings_from all number (one ∷ before) (other ∷ after) h few =
    let here : link_at all number ≡ Some other = ap (link_at all) (omega arith) ∙ sym (h 0) in
    let later = rings_from all (number + 1) before after (λ place. h (suc place) ∙ ap (link_at all) (omega arith)) (omega arith) in
    (λ i. one_rung all number one other here i ++ later i) ∙ sym (rung_among-append all (if_open number one) (open_from (number + 1) before))

-- where no link is taken away, those that are told of are those that were open and were sent a message or are open no more
pub ring_is : (before after : List Link) → length before ≤ length after
    → ring before after ≡ map (λ link. link.number) (filter (is_rung_link after) (open_links before))
ring_is before after few =
    rings_from after 1 before after (λ place. sym (link_at-place after place) ∙ ap (link_at after) (omega arith)) few

-- whatever follows from a request, there are as many links as before
as_many : HoldsOfTelling (λ old new. length new.links ≡ length old.links)
as_many = record {
  sending = record {
    same = λ space. refl;
    chain = λ a b c p q. q ∙ p;
    sends = λ space link message. length-changed (sent message) space.links link;
  };
  drops = λ space number. refl;
  counts = λ space number. refl;
}

-- a message that comes on a link opens none
delivered_length : (space : Space) (link : ℕ) (arrived : Arrived) → length (delivered space link arrived).links ≡ length space.links
delivered_length space link NotRequest = length-changed ended space.links link
delivered_length space link (Wrong heads status) = as_many.sending.sends space link (confirm heads (wrong_status space heads status))
delivered_length space link (Request request) =
    let status = verdict space request in
    let done = done_with space link request status in
    let queued = queue done link (due_with space request status) in
    follow_holds (λ old new. length new.links ≡ length old.links) as_many space request status queued
    ∙ queue_holds (λ old new. length new.links ≡ length old.links) as_many.sending done link (due_with space request status)
    ∙ ap length (done_links space link request status)

-- so what is told where a message came is told of links that were open
pub delivered_ring : (space : Space) (link : ℕ) (arrived : Arrived)
    → ring space.links (delivered space link arrived).links
    ≡ map (λ link. link.number) (filter (is_rung_link (delivered space link arrived).links) (open_links space.links))
delivered_ring space link arrived =
    ring_is space.links (delivered space link arrived).links (omega (arith, delivered_length space link arrived))

-- and found among those that were open before
pub delivered_rung : (old new : Space) (link : ℕ) (arrived : Arrived) (before : List OpenLink) (rung : List ℕ) → new ≡ delivered old link arrived
    → before ≡ open_links old.links → rung ≡ map (λ link. link.number) (filter (is_rung_link new.links) before)
    → rung ≡ ring old.links (delivered old link arrived).links
delivered_rung old new link arrived before rung e f g =
    g ∙ (λ i. map (λ (one : OpenLink). one.number) (filter (is_rung_link (e i).links) (f i))) ∙ sym (delivered_ring old link arrived)
