-- What a subscription is told at its turn is sent on its link.
use Rattle.std.proofs.Common.{◌≡◌, ◌≢◌, ℕ, ◌+◌, nat_lt, Bool, true, false, ◌&&◌, List, [], ◌∷◌, ◌++◌, length, map, Contains, Option, Some, None, option_map, refl, sym, ap, subst, ◌∙◌, inl, inr, if◌then◌else◌, append-nil, append_assoc}
use Rattle.std.proofs.lemmas.Bool.{cases_eq}
use mathlib.Core.Bool.{true≢false}
use mathlib.Core.Logic.{⊎_elim}
use Rattle.m3_terms.specs.declared.triple.Triple.{Triple}
use Rattle.link_table.specs.Links.{Link, is_open, link_at, sent as sent_on, changed, state_or_never, pending_of, pending_or_none, closed_link, fits}
use Rattle.link_table.specs.declared.state.LinkState.TheVariants.{Overrun}
use Rattle.link_table.proofs.OtherLinksStay.{link_at-changed}
use Rattle.answer_bodies.specs.Differences.{is_empty_difference}
use Rattle.session_core.specs.Space.{Space}
use Rattle.session_core.specs.Subscriptions.{Subscription, width_over, subscription_at}
use Rattle.session_core.specs.Queues.{queue}
use Rattle.session_core.specs.Following.{Change, takes, with_next, end_over, difference_over, change_bytes, tell_living, tell_changes, change_at, change_among}
use Rattle.session_core.specs.Indicated.{StandAmong, told_bytes}
use Rattle.session_core.proofs.NumbersDiffer.{AreOthers, HaveOwn, DoDiffer, found_there}
use Rattle.session_core.proofs.WhatFollowsHolds.{living_holds, changes_hold}
use Rattle.session_core.proofs.Growing.{IsAlike, alike_holds}
use Rattle.session_core.proofs.Sending.{Extends, extends_same, extends_holds}
use Rattle.session_core.proofs.ChangesLeadOn.{turn_cases, none_over, told_is, others_stay, own_told, other_told, own_holds}

-- messages stand among others with more before them
among_behind : (messages first others : List (List ℕ)) → StandAmong messages others → StandAmong messages (first ++ others)
among_behind [] first others a = tt
among_behind (m ∷ messages) [] others a = a
among_behind (m ∷ messages) (o ∷ first) others a = inr (among_behind (m ∷ messages) first others a)

-- where two lists stand among two others, both stand among both
pub among_both : (messages others more further : List (List ℕ)) → StandAmong messages others → StandAmong more further → StandAmong (messages ++ more) (others ++ further)
among_both [] others more further a b = among_behind more others further b
among_both (m ∷ messages) [] more further a b = absurd a
among_both (m ∷ messages) (o ∷ others) more further (inl h) b = inl (h.0, among_both messages others more further h.1 b)
among_both (m ∷ messages) (o ∷ others) more further (inr h) b = inr (among_both (m ∷ messages) others more further h b)

-- and with more behind them
among_before : (messages others later : List (List ℕ)) → StandAmong messages others → StandAmong messages (others ++ later)
among_before messages others later a = subst (λ m. StandAmong m (others ++ later)) (append-nil messages) (among_both messages others [] later a tt)

-- on a link messages were sent from one space to another, and among them these
abbrev pub SendsMore : Space → Space → ℕ → List (List ℕ) → Type 0
SendsMore old new link messages = (more : List (List ℕ)) × (pending_of new.links link ≡ pending_of old.links link ++ more) × StandAmong messages more

-- on a link there are messages behind those that waited
abbrev pub ExtendsOn : ℕ → Space → Space → Type 0
ExtendsOn link old new = Extends (pending_of old.links link) (pending_of new.links link)

pub none_sent : (old new : Space) (link : ℕ) → ExtendsOn link old new → SendsMore old new link []
none_sent old new link x = (x.0, x.1, tt)

sent_then : (a b c : Space) (link : ℕ) (messages : List (List ℕ)) → SendsMore a b link messages → ExtendsOn link b c → SendsMore a c link messages
sent_then a b c link messages m x = (
  m.0 ++ x.0,
  x.1 ∙ ap (λ l. l ++ x.0) m.1 ∙ append_assoc (pending_of a.links link) m.0 x.0,
  among_before messages m.0 x.0 m.2,
)

pub then_sent : (a b c : Space) (link : ℕ) (messages : List (List ℕ)) → ExtendsOn link a b → SendsMore b c link messages → SendsMore a c link messages
then_sent a b c link messages x m = (
  x.0 ++ m.0,
  m.1 ∙ ap (λ l. l ++ m.0) x.1 ∙ append_assoc (pending_of a.links link) x.0 m.0,
  among_behind messages x.0 m.0 m.2,
)

-- a link that takes a message has it behind those that wait
taken_waits : (links : List Link) (link : ℕ) (bytes : List ℕ) → takes links link bytes ≡ true
    → pending_of (changed (sent_on bytes) links link) link ≡ pending_of links link ++ bytes ∷ []
taken_waits links link bytes h = ap pending_or_none (link_at-changed (sent_on bytes) links link) ∙ found_waits (link_at links link) h
  where
    link_waits : (one : Link) (now fit : Bool) → (now && fit) ≡ true
        → (if now then if fit then record one { pending = one.pending ++ bytes ∷ [] } else closed_link Overrun one.pending else one).pending ≡ one.pending ++ bytes ∷ []
    link_waits one true true e = refl
    link_waits one true false e = absurd (true≢false (sym e))
    link_waits one false fit e = absurd (true≢false (sym e))

    found_waits : (found : Option Link) → (is_open (state_or_never found) && fits (pending_or_none found ++ bytes ∷ [])) ≡ true
        → pending_or_none (option_map (sent_on bytes) found) ≡ pending_or_none found ++ bytes ∷ []
    found_waits None e = absurd (true≢false (sym e))
    found_waits (Some one) e = link_waits one (is_open one.state) (fits (one.pending ++ bytes ∷ [])) e

-- at its turn a subscription is sent what it is told
turn_sends : (before : List Triple) (space : Space) (t s : Subscription) → Contains space.subscriptions t → HaveOwn space.subscriptions
    → Contains (tell_living before space (Some t)).subscriptions s → s.number ≡ t.number
    → SendsMore space (tell_living before space (Some t)) s.link (map (told_bytes space.name s) (change_at before space (Some t)))
turn_sends before space t s there own =
    let difference = difference_over before space.graph t.wanted in
    let bytes = change_bytes space t difference in
    let next = queue (with_next space t.number) t.link (Some bytes) in
    let told : Change = record { sequence = t.sequence + 1; difference = difference } in
    turn_cases (λ after more. Contains after.subscriptions s → s.number ≡ t.number → SendsMore space after s.link (map (told_bytes space.name s) more))
    (nat_lt 65536 (width_over space.graph t.wanted)) (is_empty_difference difference) (nat_lt 4194304 (length bytes)) (takes space.links t.link bytes)
    (end_over space t) space next told
    (λ c same. absurd (none_over space t t.number s refl c same))
    (λ empty c same. none_sent space space s.link (extends_same (pending_of space.links s.link)))
    (λ full took c same.
    subst (λ s. SendsMore space next s.link (map (told_bytes space.name s) (told ∷ []))) (told_is space t bytes s own there c same)
    (bytes ∷ [], taken_waits space.links t.link bytes took, inl (refl, tt)))
    (λ lost c same. none_sent space next s.link ((extends_holds s.link).sending.sends (with_next space t.number) t.link bytes))

-- or what there is, if there is one
found_sends : (before : List Triple) (space : Space) (found : Option Subscription) (number : ℕ) (s : Subscription) → subscription_at space.subscriptions number ≡ found
    → HaveOwn space.subscriptions → Contains (tell_living before space found).subscriptions s → s.number ≡ number
    → SendsMore space (tell_living before space found) s.link (map (told_bytes space.name s) (change_at before space found))
found_sends before space None number s h own c same = none_sent space space s.link (extends_same (pending_of space.links s.link))
found_sends before space (Some t) number s h own c same =
    let there = found_there space.subscriptions number t h in
    turn_sends before space t s there.0 own c (same ∙ sym there.1)

-- among turns it is sent what it is told
pub turns_send : (before : List Triple) (number : ℕ) (numbers : List ℕ) (space : Space) → DoDiffer numbers → HaveOwn space.subscriptions
    → (s : Subscription) → Contains (tell_changes before space numbers).subscriptions s → s.number ≡ number
    → SendsMore space (tell_changes before space numbers) s.link (map (told_bytes space.name s) (change_among before space numbers number))
turns_send before number [] space d own s c same = none_sent space space s.link (extends_same (pending_of space.links s.link))
turns_send before number (one ∷ numbers) space d own s c same = ⊎_elim here
    (λ n. later n (turns_send before number numbers after d.1 own_after s c same))
    (cases_eq one number)
  where
    found : Option Subscription
    found = subscription_at space.subscriptions one

    after : Space
    after = tell_living before space found

    own_after : HaveOwn after.subscriptions
    own_after = living_holds (λ old new. HaveOwn old.subscriptions → HaveOwn new.subscriptions) own_holds before space found own

    here : one ≡ number → SendsMore space (tell_changes before after numbers) s.link (map (told_bytes space.name s) (change_among before space (one ∷ numbers) number))
    here e =
        let others = subst (AreOthers numbers) e d.0 in
        subst (λ told. SendsMore space (tell_changes before after numbers) s.link (map (told_bytes space.name s) told)) (sym (own_told before space one numbers number e others))
        (sent_then space after (tell_changes before after numbers) s.link _
        (found_sends before space found number s (ap (subscription_at space.subscriptions) (sym e)) own (others_stay before after numbers number s others c same) same)
        (changes_hold (ExtendsOn s.link) (extends_holds s.link) before after numbers))

    later : one ≢ number → SendsMore after (tell_changes before after numbers) s.link (map (told_bytes after.name s) (change_among before after numbers number))
        → SendsMore space (tell_changes before after numbers) s.link (map (told_bytes space.name s) (change_among before space (one ∷ numbers) number))
    later n m =
        subst (λ told. SendsMore space (tell_changes before after numbers) s.link (map (told_bytes space.name s) told)) (sym (other_told before space one numbers number n))
        (then_sent space after (tell_changes before after numbers) s.link _ (living_holds (ExtendsOn s.link) (extends_holds s.link) before space found)
        (subst (λ name. SendsMore after (tell_changes before after numbers) s.link (map (told_bytes name s) (change_among before after numbers number)))
        (living_holds IsAlike alike_holds before space found).name m))
