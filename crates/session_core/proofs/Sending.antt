-- What is sent on a link, taken from it, and waits on it.
use Rattle.std.proofs.Common.{◌≡◌, ◌≢◌, ◌⊎◌, ℕ, zero, suc, Bool, true, false, ◌==◌, List, [], ◌∷◌, ◌++◌, length, drop, Option, Some, None, refl, sym, ap, subst, ◌∙◌, inl, inr, if◌then◌else◌, append-nil, append_assoc, slice_get}
use Rattle.std.proofs.lemmas.Bool.{cases_eq, eq-eqb, ne_eqb}
use Rattle.std.proofs.lemmas.List.{drop_at}
use mathlib.Core.Bool.{true≢false}
use mathlib.Core.Logic.{⊎_elim}
use Rattle.link_table.specs.Links.{Link, is_open, new_link, closed_link, with_message, fits, sent, ended, lost, taken, link_at, changed, state_of, state_or_never, pending_of, pending_or_none, is_full}
use Rattle.link_table.specs.declared.state.LinkState.{LinkState}
use Rattle.link_table.specs.declared.state.LinkState.TheVariants.{Never, Open, Ended, Overrun, Gone}
use Rattle.ssap_shape.specs.declared.request.Arrived.{Arrived}
use Rattle.ssap_shape.specs.declared.request.Arrived.TheVariants.{Request, Wrong, NotRequest}
use Rattle.session_core.specs.Space.{Space, empty_space}
use Rattle.session_core.specs.Requests.{done_with, due_with, verdict, confirm, wrong_status}
use Rattle.session_core.specs.Queues.{with_links, queue}
use Rattle.session_core.specs.Following.{follow_with}
use Rattle.session_core.specs.Steps.{Step, delivered, on_open, on_opened, idle, take_step, taken_from as step_from, step}
use Rattle.session_core.specs.Runs.{run_from, sent_by, sent_from, message_in, taken_by, taken_from, loses}
use Rattle.session_core.specs.Laws.{SentTakenWaiting, TakenOfSent}
use Rattle.session_core.specs.declared.call.Call.{Call}
use Rattle.session_core.specs.declared.call.Call.TheVariants as call
use Rattle.session_core.proofs.Changes.{link_at-place, changed-none, changed-there, changed-apart, push_there, push_old}
use Rattle.session_core.proofs.Told.{done_links}
use Rattle.session_core.proofs.WhatFollowsHolds.{HoldsOfTelling, follow_holds}

-- messages with more behind them
abbrev pub Extends : List (List ℕ) → List (List ℕ) → Type 0
Extends old new = (more : List (List ℕ)) × (new ≡ old ++ more)

pub extends_same : (pending : List (List ℕ)) → Extends pending pending
extends_same pending = ([], sym (append-nil pending))

extends_by : (old new : List (List ℕ)) → new ≡ old → Extends old new
extends_by old new e = ([], e ∙ sym (append-nil old))

pub extends_chain : (old between new : List (List ℕ)) → Extends old between → Extends between new → Extends old new
extends_chain old between new x y = (x.0 ++ y.0, y.1 ∙ ap (λ l. l ++ y.0) x.1 ∙ append_assoc old x.0 y.0)

-- what is behind messages is what is dropped behind them
extends_drop : (old new : List (List ℕ)) → Extends old new → old ++ drop (length old) new ≡ new
extends_drop old new x = ap (λ l. old ++ drop (length old) l) x.1 ∙ ap (λ l. old ++ l) (drop_at old x.0 (length old) refl) ∙ sym x.1

module _ (P : List (List ℕ) → List (List ℕ) → Type 0) (same : (pending : List (List ℕ)) → P pending pending) where
  pending_at : (change : Link → Link) → ((link : Link) → P link.pending (change link).pending) → (links : List Link) (number other : ℕ) (found : Option Link)
      → link_at links number ≡ found → (other ≡ number) ⊎ (other ≢ number) → P (pending_of links other) (pending_of (changed change links number) other)
  pending_at change each links number other None h s =
      subst (λ l. P (pending_of links other) (pending_of l other)) (sym (changed-none change links number h)) (same (pending_of links other))
  pending_at change each links number other (Some link) h (inl e) =
      let before = ap pending_or_none (ap (link_at links) e ∙ h) in
      let after = ap pending_or_none (ap (link_at (changed change links number)) e ∙ changed-there change links number link h) in
      subst (λ old. P old (pending_of (changed change links number) other)) (sym before) (subst (P link.pending) (sym after) (each link))
  pending_at change each links number other (Some link) h (inr n) =
      subst (P (pending_of links other)) (sym (ap pending_or_none (changed-apart change links number other n))) (same (pending_of links other))

  -- what holds of the messages on each link that changes, and of those that stay, holds on every link
  pending_changed : (change : Link → Link) → ((link : Link) → P link.pending (change link).pending) → (links : List Link) (number other : ℕ)
      → P (pending_of links other) (pending_of (changed change links number) other)
  pending_changed change each links number other = pending_at change each links number other (link_at links number) refl (cases_eq other number)

  either_pending : (b : Bool) (old : List (List ℕ)) (one other : Link) → P old one.pending → P old other.pending → P old (if b then one else other).pending
  either_pending true old one other p q = p
  either_pending false old one other p q = q

closed_pending : (state : LinkState) (pending : List (List ℕ)) → (closed_link state pending).pending ≡ pending
closed_pending state [] = refl
closed_pending state (message ∷ pending) = refl

ended_pending : (link : Link) → (ended link).pending ≡ link.pending
ended_pending link = either_pending (λ old new. new ≡ old) (λ p. refl) (is_open link.state) link.pending (closed_link Ended link.pending) link (closed_pending Ended link.pending) refl

sent_pending : (message : List ℕ) (link : Link) → Extends link.pending (sent message link).pending
sent_pending message link =
    either_pending Extends extends_same (is_open link.state) link.pending (with_message message link) link
    (either_pending Extends extends_same (fits (link.pending ++ message ∷ [])) link.pending (record link { pending = link.pending ++ message ∷ [] }) (closed_link Overrun link.pending)
    (message ∷ [], refl) (extends_by link.pending _ (closed_pending Overrun link.pending)))
    (extends_same link.pending)

with_pending : (open' : Bool) (state : LinkState) (pending : List (List ℕ)) → (if open' then record { state = state; pending = pending } else closed_link state pending).pending ≡ pending
with_pending true state pending = refl
with_pending false state pending = closed_pending state pending

pub queued_extends : (old new : Space) (link : ℕ) (due : Option (List ℕ)) (number : ℕ) → new.links ≡ old.links
    → Extends (pending_of old.links number) (pending_of (queue new link due).links number)
queued_extends old new link None number e = extends_by _ _ (ap (λ links. pending_of links number) e)
queued_extends old new link (Some message) number e =
    subst (λ links. Extends (pending_of old.links number) (pending_of (changed (sent message) links link) number)) (sym e)
    (pending_changed Extends extends_same (sent message) (sent_pending message) old.links link number)

-- whatever follows from a request, on each link messages are sent behind those that wait
pub extends_holds : (number : ℕ) → HoldsOfTelling (λ old new. Extends (pending_of old.links number) (pending_of new.links number))
extends_holds number = record {
  sending = record {
    same = λ space. extends_same (pending_of space.links number);
    chain = λ a b c x y. extends_chain (pending_of a.links number) (pending_of b.links number) (pending_of c.links number) x y;
    sends = λ space link message. pending_changed Extends extends_same (sent message) (sent_pending message) space.links link number;
  };
  drops = λ space dropped. extends_same (pending_of space.links number);
  counts = λ space told. extends_same (pending_of space.links number);
}

pub delivered_extends : (space : Space) (link : ℕ) (arrived : Arrived) (number : ℕ) → Extends (pending_of space.links number) (pending_of (delivered space link arrived).links number)
delivered_extends space link NotRequest number =
    extends_by _ _ (pending_changed (λ old new. new ≡ old) (λ p. refl) ended ended_pending space.links link number)
delivered_extends space link (Wrong heads status) number = queued_extends space space link (Some (confirm heads (wrong_status space heads status))) number refl
delivered_extends space link (Request request) number =
    let status = verdict space request in
    let queued = queue (done_with space link request status) link (due_with space request status) in
    extends_chain (pending_of space.links number) (pending_of queued.links number) (pending_of (follow_with space request status queued).links number)
    (queued_extends space (done_with space link request status) link (due_with space request status) number (done_links space link request status))
    (follow_holds (λ old new. Extends (pending_of old.links number) (pending_of new.links number)) (extends_holds number) space request status queued)

on_open_extends : (state : LinkState) (old new : Space) (number : ℕ) → Extends (pending_of old.links number) (pending_of new.links number)
    → Extends (pending_of old.links number) (pending_of (on_open state old new).space.links number)
on_open_extends Never old new number x = extends_same (pending_of old.links number)
on_open_extends Open old new number x = x
on_open_extends Ended old new number x = extends_same (pending_of old.links number)
on_open_extends Overrun old new number x = extends_same (pending_of old.links number)
on_open_extends Gone old new number x = extends_same (pending_of old.links number)

on_open_same : (state : LinkState) (old new : Space) (number : ℕ) → pending_of new.links number ≡ pending_of old.links number
    → pending_of (on_open state old new).space.links number ≡ pending_of old.links number
on_open_same Never old new number e = refl
on_open_same Open old new number e = e
on_open_same Ended old new number e = refl
on_open_same Overrun old new number e = refl
on_open_same Gone old new number e = refl

on_opened_same : (state : LinkState) (old new : Space) (number : ℕ) → pending_of new.links number ≡ pending_of old.links number
    → pending_of (on_opened state old new).space.links number ≡ pending_of old.links number
on_opened_same Never old new number e = refl
on_opened_same Open old new number e = e
on_opened_same Ended old new number e = e
on_opened_same Overrun old new number e = e
on_opened_same Gone old new number e = e

-- on a link that just opened nothing waits
pushed_pending : (was now : Option Link) → ((link : Link) → was ≡ Some link → now ≡ Some link)
    → ((link : Link) → now ≡ Some link → (was ≡ Some link) ⊎ (link ≡ new_link)) → pending_or_none now ≡ pending_or_none was
pushed_pending (Some link) now old new = ap pending_or_none (old link refl)
pushed_pending None None old new = refl
pushed_pending None (Some link) old new = pushed_new link (new link refl)
  where
    pushed_new : (link : Link) → (◌≡◌ {A = Option Link} None (Some link)) ⊎ (link ≡ new_link) → link.pending ≡ []
    pushed_new link (inl e) = cc
    pushed_new link (inr e) = ap (λ (l : Link). l.pending) e

opened_pending : (links : List Link) (number : ℕ) → pending_of (links ++ new_link ∷ []) number ≡ pending_of links number
opened_pending links zero = refl
opened_pending links (suc place) =
    ap pending_or_none (link_at-place (links ++ new_link ∷ []) place)
    ∙ pushed_pending (slice_get links place) (slice_get (links ++ new_link ∷ []) place)
    (λ link h. push_old links place new_link link h) (λ link h. push_there links place new_link link h)
    ∙ sym (ap pending_or_none (link_at-place links place))

open_same : (full : Bool) (space : Space) (refused opened : Step) (number : ℕ) → pending_of refused.space.links number ≡ pending_of space.links number
    → pending_of opened.space.links number ≡ pending_of space.links number → pending_of (if full then refused else opened).space.links number ≡ pending_of space.links number
open_same true space refused opened number e f = e
open_same false space refused opened number e f = f

-- a link that is not this one
apart : (link number : ℕ) (calls : List Call) → loses (call.Lost link ∷ calls) number ≡ false → link ≢ number
apart link number calls h e = true≢false (sym (lost_here (link == number) (loses calls number) (eq-eqb link number e)) ∙ h)
  where
    lost_here : (here rest : Bool) → here ≡ true → (if here then true else rest) ≡ true
    lost_here true rest e = refl
    lost_here false rest e = absurd (true≢false (sym e))

loses_rest : (one : Call) (calls : List Call) (number : ℕ) → loses (one ∷ calls) number ≡ false → loses calls number ≡ false
loses_rest call.NewLink calls number h = h
loses_rest (call.Deliver link arrived) calls number h = h
loses_rest (call.End link) calls number h = h
loses_rest (call.Lost link) calls number h = rest (link == number) (loses calls number) h
  where
    rest : (here later : Bool) → (if here then true else later) ≡ false → later ≡ false
    rest true later e = absurd (true≢false e)
    rest false later e = e
loses_rest (call.Take link) calls number h = h

no_message : (state : LinkState) → message_in (idle state) ≡ []
no_message Never = refl
no_message Open = refl
no_message Ended = refl
no_message Overrun = refl
no_message Gone = refl

-- a step that takes a message leaves the others
abbrev Takes : List (List ℕ) → Step → ℕ → Type 0
Takes pending after number = pending ≡ message_in after.reply ++ pending_of after.space.links number

take_here : (space : Space) (number : ℕ) (state : LinkState) (pending : List (List ℕ)) → link_at space.links number ≡ Some (record { state = state; pending = pending })
    → Takes pending (step_from space number state pending) number
take_here space number state [] h = rw (no_message state) (sym (ap pending_or_none h))
take_here space number state (message ∷ pending) h =
    let link : Link = record { state = state; pending = message ∷ pending } in
    let rest = ap pending_or_none (changed-there taken space.links number link h) ∙ with_pending (is_open state) state pending in
    ap (λ l. message ∷ l) (sym rest)

take_found : (space : Space) (number : ℕ) (found : Option Link) → link_at space.links number ≡ found
    → Takes (pending_of space.links number) (take_step space number found) number
take_found space number None h = refl
take_found space number (Some link) h =
    subst (λ pending. Takes pending (step_from space number link.state link.pending) number) (sym (ap pending_or_none h))
    (take_here space number link.state link.pending h)

-- on other links the messages stay
take_apart : (space : Space) (number other : ℕ) (found : Option Link) → other ≢ number
    → pending_of (take_step space number found).space.links other ≡ pending_of space.links other
take_apart space number other None n = refl
take_apart space number other (Some link) n = from_apart link.pending
  where
    from_apart : (pending : List (List ℕ)) → pending_of (step_from space number link.state pending).space.links other ≡ pending_of space.links other
    from_apart [] = refl
    from_apart (message ∷ pending) = ap pending_or_none (changed-apart taken space.links number other n)

taking : (space : Space) (link number : ℕ) → (link ≡ number) ⊎ (link ≢ number)
    → pending_of space.links number ≡ taken_by space (call.Take link) number ++ pending_of (step space (call.Take link)).space.links number
taking space link number (inl e) =
    let here : (link == number) ≡ true = eq-eqb link number e in
    rw here (subst (λ k. Takes (pending_of space.links k) (step space (call.Take link)) k) e (take_found space link (link_at space.links link) refl))
taking space link number (inr n) =
    let away : (link == number) ≡ false = ne_eqb link number n in
    rw away (sym (take_apart space link number (link_at space.links link) (λ e. n (sym e))))

-- what waited and what a call sends is what it takes and what waits then
step_sends : (space : Space) (one : Call) (number : ℕ) → loses (one ∷ []) number ≡ false
    → pending_of space.links number ++ sent_by space one number ≡ taken_by space one number ++ pending_of (step space one).space.links number
step_sends space call.NewLink number h =
    append-nil (pending_of space.links number) ∙ sym (open_same (is_full space.links) space _ _ number refl (opened_pending space.links number))
step_sends space (call.Deliver link arrived) number h =
    extends_drop _ _ (on_open_extends (state_of space.links link) space (delivered space link arrived) number (delivered_extends space link arrived number))
step_sends space (call.End link) number h =
    append-nil (pending_of space.links number)
    ∙ sym (on_open_same (state_of space.links link) space (with_links space (changed ended space.links link)) number
    (pending_changed (λ old new. new ≡ old) (λ p. refl) ended ended_pending space.links link number))
step_sends space (call.Lost link) number h =
    append-nil (pending_of space.links number)
    ∙ sym (on_opened_same (state_of space.links link) space (with_links space (changed lost space.links link)) number
    (ap pending_or_none (changed-apart lost space.links link number (λ e. apart link number [] h (sym e)))))
step_sends space (call.Take link) number h = append-nil (pending_of space.links number) ∙ taking space link number (cases_eq link number)

loses_here : (one : Call) (calls : List Call) (number : ℕ) → loses (one ∷ calls) number ≡ false → loses (one ∷ []) number ≡ false
loses_here call.NewLink calls number h = refl
loses_here (call.Deliver link arrived) calls number h = refl
loses_here (call.End link) calls number h = refl
loses_here (call.Lost link) calls number h = here (link == number) (loses calls number) h
  where
    here : (lost' later : Bool) → (if lost' then true else later) ≡ false → (if lost' then true else false) ≡ false
    here true later e = e
    here false later e = refl
loses_here (call.Take link) calls number h = refl

-- what is sent in two parts is taken in two parts
in_parts : (waiting sent_now taken_now waiting_then sent_later taken_later rest : List (List ℕ)) → waiting ++ sent_now ≡ taken_now ++ waiting_then
    → waiting_then ++ sent_later ≡ taken_later ++ rest → waiting ++ (sent_now ++ sent_later) ≡ (taken_now ++ taken_later) ++ rest
in_parts waiting sent_now taken_now waiting_then sent_later taken_later rest now later =
    sym (append_assoc waiting sent_now sent_later) ∙ ap (λ l. l ++ sent_later) now ∙ append_assoc taken_now waiting_then sent_later
    ∙ ap (λ l. taken_now ++ l) later ∙ sym (append_assoc taken_now taken_later rest)

-- what waited and what calls send is what they take and what waits then
run_sends : (space : Space) (calls : List Call) (number : ℕ) → loses calls number ≡ false
    → pending_of space.links number ++ sent_from space calls number ≡ taken_from space calls number ++ pending_of (run_from space calls).links number
run_sends space [] number h = append-nil (pending_of space.links number)
run_sends space (one ∷ calls) number h =
    let after = (step space one).space in
    in_parts (pending_of space.links number) (sent_by space one number) (taken_by space one number) (pending_of after.links number)
    (sent_from after calls number) (taken_from after calls number) (pending_of (run_from after calls).links number)
    (step_sends space one number (loses_here one calls number h)) (run_sends after calls number (loses_rest one calls number h))

-- where no link opened nothing waits
none_waits : (number : ℕ) → pending_of [] number ≡ []
none_waits zero = refl
none_waits (suc place) = ap pending_or_none (link_at-place [] place)

pub sent_taken_waiting : SentTakenWaiting
sent_taken_waiting name history number h =
    ap (λ l. l ++ sent_from (empty_space name) history number) (sym (none_waits number)) ∙ run_sends (empty_space name) history number h

-- a link that is gone
abbrev gone_link : Link
gone_link = record { state = Gone; pending = [] }

-- the link of this number is gone
abbrev IsGone : List Link → ℕ → Type 0
IsGone links number = link_at links number ≡ Some gone_link

gone_at : (change : Link → Link) → change gone_link ≡ gone_link → (links : List Link) (number other : ℕ) → IsGone links other → (other ≡ number) ⊎ (other ≢ number)
    → IsGone (changed change links number) other
gone_at change stays links number other h (inl e) =
    subst (IsGone (changed change links number)) (sym e) (changed-there change links number gone_link (subst (IsGone links) e h) ∙ ap Some stays)
gone_at change stays links number other h (inr n) = changed-apart change links number other n ∙ h

-- it stays so where a link changes, by what leaves a link that is gone as it is
gone_changed : (change : Link → Link) → change gone_link ≡ gone_link → (links : List Link) (number other : ℕ) → IsGone links other → IsGone (changed change links number) other
gone_changed change stays links number other h = gone_at change stays links number other h (cases_eq other number)

-- and where a link opens
gone_opened : (links : List Link) (number : ℕ) → IsGone links number → IsGone (links ++ new_link ∷ []) number
gone_opened links zero h = cc
gone_opened links (suc place) h =
    link_at-place (links ++ new_link ∷ []) place ∙ push_old links place new_link gone_link (sym (link_at-place links place) ∙ h)

gone_queued : (old new : Space) (link : ℕ) (due : Option (List ℕ)) (number : ℕ) → new.links ≡ old.links → IsGone old.links number → IsGone (queue new link due).links number
gone_queued old new link None number e h = subst (λ links. IsGone links number) (sym e) h
gone_queued old new link (Some message) number e h =
    gone_changed (sent message) refl new.links link number (subst (λ links. IsGone links number) (sym e) h)

-- and whatever follows from a request
gone_holds : (number : ℕ) → HoldsOfTelling (λ old new. IsGone old.links number → IsGone new.links number)
gone_holds number = record {
  sending = record {
    same = λ space h. h;
    chain = λ a b c p q h. q (p h);
    sends = λ space link message h. gone_changed (sent message) refl space.links link number h;
  };
  drops = λ space dropped h. h;
  counts = λ space told h. h;
}

gone_delivered : (space : Space) (link : ℕ) (arrived : Arrived) (number : ℕ) → IsGone space.links number → IsGone (delivered space link arrived).links number
gone_delivered space link NotRequest number h = gone_changed ended refl space.links link number h
gone_delivered space link (Wrong heads status) number h = gone_queued space space link (Some (confirm heads (wrong_status space heads status))) number refl h
gone_delivered space link (Request request) number h =
    let status = verdict space request in
    let queued = queue (done_with space link request status) link (due_with space request status) in
    follow_holds (λ old new. IsGone old.links number → IsGone new.links number) (gone_holds number) space request status queued
    (gone_queued space (done_with space link request status) link (due_with space request status) number (done_links space link request status) h)

gone_on_open : (state : LinkState) (old new : Space) (number : ℕ) → IsGone old.links number → IsGone new.links number → IsGone (on_open state old new).space.links number
gone_on_open Never old new number h k = h
gone_on_open Open old new number h k = k
gone_on_open Ended old new number h k = h
gone_on_open Overrun old new number h k = h
gone_on_open Gone old new number h k = h

gone_on_opened : (state : LinkState) (old new : Space) (number : ℕ) → IsGone old.links number → IsGone new.links number → IsGone (on_opened state old new).space.links number
gone_on_opened Never old new number h k = h
gone_on_opened Open old new number h k = k
gone_on_opened Ended old new number h k = k
gone_on_opened Overrun old new number h k = k
gone_on_opened Gone old new number h k = k

gone_either : (full : Bool) (refused opened : Step) (number : ℕ) → IsGone refused.space.links number → IsGone opened.space.links number
    → IsGone (if full then refused else opened).space.links number
gone_either true refused opened number h k = h
gone_either false refused opened number h k = k

gone_taken : (space : Space) (link : ℕ) (found : Option Link) (number : ℕ) → IsGone space.links number → IsGone (take_step space link found).space.links number
gone_taken space link None number h = h
gone_taken space link (Some one) number h = by_pending one.pending
  where
    by_pending : (pending : List (List ℕ)) → IsGone (step_from space link one.state pending).space.links number
    by_pending [] = h
    by_pending (message ∷ pending) = gone_changed taken refl space.links link number h

-- a link that is gone stays so
step_gone : (space : Space) (one : Call) (number : ℕ) → IsGone space.links number → IsGone (step space one).space.links number
step_gone space call.NewLink number h = gone_either (is_full space.links) _ _ number h (gone_opened space.links number h)
step_gone space (call.Deliver link arrived) number h =
    gone_on_open (state_of space.links link) space (delivered space link arrived) number h (gone_delivered space link arrived number h)
step_gone space (call.End link) number h =
    gone_on_open (state_of space.links link) space (with_links space (changed ended space.links link)) number h (gone_changed ended refl space.links link number h)
step_gone space (call.Lost link) number h =
    gone_on_opened (state_of space.links link) space (with_links space (changed lost space.links link)) number h (gone_changed lost refl space.links link number h)
step_gone space (call.Take link) number h = gone_taken space link (link_at space.links link) number h

gone_takes_one : (space : Space) (one : Call) (number : ℕ) → IsGone space.links number → taken_by space one number ≡ []
gone_takes_one space call.NewLink number h = refl
gone_takes_one space (call.Deliver link arrived) number h = refl
gone_takes_one space (call.End link) number h = refl
gone_takes_one space (call.Lost link) number h = refl
gone_takes_one space (call.Take link) number h = ⊎_elim
    (λ (e : link ≡ number).
    ap (λ b. if b then message_in (step space (call.Take link)).reply else []) (eq-eqb link number e)
    ∙ ap (λ found. message_in (take_step space link found).reply) (subst (IsGone space.links) (sym e) h))
    (λ n. ap (λ b. if b then message_in (step space (call.Take link)).reply else []) (ne_eqb link number n))
    (cases_eq link number)

-- and nothing is taken from it
gone_takes : (space : Space) (calls : List Call) (number : ℕ) → IsGone space.links number → taken_from space calls number ≡ []
gone_takes space [] number h = refl
gone_takes space (one ∷ calls) number h =
    ap (λ l. l ++ taken_from (step space one).space calls number) (gone_takes_one space one number h)
    ∙ gone_takes (step space one).space calls number (step_gone space one number h)

-- a link that is to be lost is gone then, or nothing changes
lost_gone : (space : Space) (number : ℕ) (found : Option Link) → link_at space.links number ≡ found
    → ((step space (call.Lost number)).space ≡ space) ⊎ IsGone (step space (call.Lost number)).space.links number
lost_gone space number None h = inl (ap (λ o. (on_opened (state_or_never o) space (with_links space (changed lost space.links number))).space) h)
lost_gone space number (Some link) h = by_state link.state (ap state_or_never h)
  where
    new : Space
    new = with_links space (changed lost space.links number)

    gone : (state : LinkState) → (on_opened state space new).space ≡ new → state_of space.links number ≡ state
        → ((step space (call.Lost number)).space ≡ space) ⊎ IsGone (step space (call.Lost number)).space.links number
    gone state is e = inr (ap (λ (s : Space). link_at s.links number) (ap (λ s. (on_opened s space new).space) e ∙ is) ∙ changed-there lost space.links number link h)

    by_state : (state : LinkState) → state_of space.links number ≡ state → ((step space (call.Lost number)).space ≡ space) ⊎ IsGone (step space (call.Lost number)).space.links number
    by_state Never e = inl (ap (λ s. (on_opened s space new).space) e)
    by_state Open e = gone Open refl e
    by_state Ended e = gone Ended refl e
    by_state Overrun e = gone Overrun refl e
    by_state Gone e = gone Gone refl e

-- what is taken is a prefix of what waited and is sent
abbrev TakesPrefix : Space → List Call → ℕ → Type 0
TakesPrefix space calls number = (rest : List (List ℕ)) × (pending_of space.links number ++ sent_from space calls number ≡ taken_from space calls number ++ rest)

takes_more : (space : Space) (one : Call) (calls : List Call) (number : ℕ)
    → pending_of space.links number ++ sent_by space one number ≡ taken_by space one number ++ pending_of (step space one).space.links number
    → TakesPrefix (step space one).space calls number → TakesPrefix space (one ∷ calls) number
takes_more space one calls number now later = (
  later.0,
  in_parts (pending_of space.links number) (sent_by space one number) (taken_by space one number) (pending_of (step space one).space.links number)
      (sent_from (step space one).space calls number) (taken_from (step space one).space calls number) later.0 now later.1,
)

lost_takes : (space : Space) (calls : List Call) (number : ℕ)
    → ((step space (call.Lost number)).space ≡ space) ⊎ IsGone (step space (call.Lost number)).space.links number
    → TakesPrefix (step space (call.Lost number)).space calls number → TakesPrefix space (call.Lost number ∷ calls) number
lost_takes space calls number (inl same) later =
    takes_more space (call.Lost number) calls number
    (append-nil (pending_of space.links number) ∙ sym (ap (λ (s : Space). pending_of s.links number) same)) later
lost_takes space calls number (inr gone) later =
    let all = pending_of space.links number ++ sent_from (step space (call.Lost number)).space calls number in
    (all, sym (ap (λ l. l ++ all) (gone_takes (step space (call.Lost number)).space calls number gone)))

one_takes : (space : Space) (one : Call) (calls : List Call) (number : ℕ) → TakesPrefix (step space one).space calls number → TakesPrefix space (one ∷ calls) number
one_takes space call.NewLink calls number later = takes_more space call.NewLink calls number (step_sends space call.NewLink number refl) later
one_takes space (call.Deliver link arrived) calls number later =
    takes_more space (call.Deliver link arrived) calls number (step_sends space (call.Deliver link arrived) number refl) later
one_takes space (call.End link) calls number later = takes_more space (call.End link) calls number (step_sends space (call.End link) number refl) later
one_takes space (call.Lost link) calls number later = by_link (cases_eq link number)
  where
    by_link : (link ≡ number) ⊎ (link ≢ number) → TakesPrefix space (call.Lost link ∷ calls) number
    by_link (inl e) =
        subst (λ k. TakesPrefix space (call.Lost k ∷ calls) number) (sym e)
        (lost_takes space calls number (lost_gone space number (link_at space.links number) refl)
        (subst (λ k. TakesPrefix (step space (call.Lost k)).space calls number) e later))
    by_link (inr n) =
        takes_more space (call.Lost link) calls number (step_sends space (call.Lost link) number (ap (λ b. if b then true else false) (ne_eqb link number n))) later
one_takes space (call.Take link) calls number later = takes_more space (call.Take link) calls number (step_sends space (call.Take link) number refl) later

run_takes : (space : Space) (calls : List Call) (number : ℕ) → TakesPrefix space calls number
run_takes space [] number = (pending_of space.links number, append-nil (pending_of space.links number))
run_takes space (one ∷ calls) number = one_takes space one calls number (run_takes (step space one).space calls number)

pub taken_of_sent : TakenOfSent
taken_of_sent name history number =
    let all = run_takes (empty_space name) history number in
    (all.0, ap (λ l. l ++ sent_from (empty_space name) history number) (sym (none_waits number)) ∙ all.1)
