-- The links that a step is told of.
use Rattle.std.proofs.Common.{◌≡◌, ◌≢◌, ℕ, zero, suc, ◌+◌, Bool, true, false, ◌&&◌, ◌||◌, not, nat_lt, List, [], ◌∷◌, ◌++◌, length, set, Option, Some, None, slice_get, refl, sym, ap, subst, ◌∙◌, arith, append-nil, if◌then◌else◌}
use Rattle.std.proofs.lemmas.Bool.{le-ltb}
use Rattle.std.proofs.lemmas.Option.{same_Some}
use Rattle.link_table.specs.Links.{Link, is_open, sent, lost, link_at, changed, state_of, pending_of, state_or_never, pending_or_none}
use Rattle.link_table.specs.declared.state.LinkState.{LinkState}
use Rattle.link_table.specs.declared.state.LinkState.TheVariants.{Never, Open, Ended, Overrun, Gone}
use Rattle.ssap_items.specs.declared.heads.Heads.{Heads}
use Rattle.ssap_shape.specs.declared.request.Ask.{Ask}
use Rattle.ssap_shape.specs.declared.request.Ask.TheVariants.{Join, Leave, Update, Query, Subscribe, Unsubscribe}
use Rattle.ssap_shape.specs.declared.request.Request as asked
use Rattle.ssap_shape.specs.declared.status.Status.{Status}
use Rattle.session_core.specs.declared.call.Call.TheVariants.{Lost}
use Rattle.session_core.specs.declared.call.Reply.{Reply}
use Rattle.session_core.specs.declared.call.Reply.TheVariants.{Done}
use Rattle.session_core.specs.Space.{Space}
use Rattle.session_core.specs.Subscriptions.{Wanted, wanted_by}
use Rattle.session_core.specs.Requests.{is_success, granted, subscribed, done_with}
use Rattle.session_core.specs.Rings.{is_rung, ring_from, ring}
use Rattle.session_core.specs.Queues.{with_links, queue}
use Rattle.session_core.specs.Steps.{told, on_opened, step}
use Rattle.session_core.specs.Ranks.{is_rung_since, ring_of}
use Rattle.session_core.proofs.Changes.{link_at-place, changed-place, changed-none, changed-there}

not_less : (n : ℕ) → nat_lt n n ≡ false
not_less n = le-ltb n n (omega arith)

never_both : (b : Bool) (n : ℕ) → (b && (not b || nat_lt n n)) ≡ false
never_both true n = not_less n
never_both false n = refl

-- a link that stays is not told of
pub stays_quiet : (link : Link) → is_rung link link ≡ false
stays_quiet link = never_both (is_open link.state) (length link.pending)

from_same : (number : ℕ) (links : List Link) → ring_from number links links ≡ []
from_same number [] = refl
from_same number (link ∷ links) = rw (stays_quiet link) (from_same (number + 1) links)

-- links that stay are not told of
pub ring_same : (links : List Link) → ring links links ≡ []
ring_same links = from_same 1 links

from_set : (number : ℕ) (links : List Link) (place : ℕ) (old new : Link) → slice_get links place ≡ Some old
    → ring_from number links (set links place new) ≡ ring_of (is_rung old new) (number + place)
from_set number [] place old new h = cc
from_set number (link ∷ links) zero old new h =
    let e = same_Some link old h in
    ap (λ l. ring_of (is_rung link new) number ++ l) (from_same (number + 1) links) ∙ append-nil (ring_of (is_rung link new) number)
    ∙ ap (λ l. ring_of (is_rung l new) number) e ∙ ap (ring_of (is_rung old new)) (omega arith)
from_set number (link ∷ links) (suc place) old new h =
    rw (stays_quiet link) (from_set (number + 1) links place old new h ∙ ap (ring_of (is_rung old new)) (omega arith))

-- of links of which one changes, only that one is told of
pub ring_changed : (change : Link → Link) (links : List Link) (number : ℕ) (link : Link) → link_at links number ≡ Some link
    → ring links (changed change links number) ≡ ring_of (is_rung link (change link)) number
ring_changed change links zero link h = cc
ring_changed change links (suc place) link h =
    let there = sym (link_at-place links place) ∙ h in
    ap (ring links) (changed-place change links place link there) ∙ from_set 1 links place link (change link) there
    ∙ ap (ring_of (is_rung link (change link))) (omega arith)

closed_at : (links : List Link) (number : ℕ) (found : Option Link) → link_at links number ≡ found → is_open (state_or_never found) ≡ false
    → ring links (changed lost links number) ≡ []
closed_at links number None h c = ap (ring links) (changed-none lost links number h) ∙ ring_same links
closed_at links number (Some link) h c =
    let quiet : is_rung link (lost link) ≡ false = rw c refl in
    ring_changed lost links number link h ∙ ap (λ b. ring_of b number) quiet

-- an open link is told of by what it is after it changed
rung_is : (link after : Link) (was now : Option Link) → was ≡ Some link → now ≡ Some after → link.state ≡ Open
    → is_rung link after ≡ (not (is_open (state_or_never now)) || nat_lt (length (pending_or_none was)) (length (pending_or_none now)))
rung_is link after was now e f g = rw (e, f, g) refl

-- the link of a number that is open is there
open_there : (found : Option Link) → state_or_never found ≡ Open → (link : Link) × (found ≡ Some link) × (link.state ≡ Open)
open_there None h = cc
open_there (Some link) h = (link, refl, h)

-- what is told where an open link changed
pub told_changed : (change : Link → Link) (links new : List Link) (number : ℕ) → state_of links number ≡ Open → new ≡ changed change links number
    → ring links new ≡ ring_of (is_rung_since new number (length (pending_of links number))) number
told_changed change links new number h e =
    let o = open_there (link_at links number) h in
    let there = ap (λ l. link_at l number) e ∙ changed-there change links number o.0 o.1 in
    ap (ring links) e ∙ ring_changed change links number o.0 o.1
    ∙ ap (λ b. ring_of b number) (rung_is o.0 (change o.0) (link_at links number) (link_at new number) o.1 there o.2)

-- and where nothing changed
pub told_same : (links : List Link) (number : ℕ) → state_of links number ≡ Open
    → ring links links ≡ ring_of (is_rung_since links number (length (pending_of links number))) number
told_same links number h =
    let quiet : is_rung_since links number (length (pending_of links number)) ≡ false = rw h (not_less (length (pending_of links number))) in
    ring_same links ∙ sym (ap (λ b. ring_of b number) quiet)

-- a lost link that was not open is not told of
pub told_closed : (links : List Link) (number : ℕ) → is_open (state_of links number) ≡ false → ring links (changed lost links number) ≡ []
told_closed links number h = closed_at links number (link_at links number) refl h

subscribed_links : (space : Space) (link : ℕ) (heads : Heads) (wanted : Option Wanted) → (subscribed space link heads wanted).links ≡ space.links
subscribed_links space link heads None = refl
subscribed_links space link heads (Some wanted) = refl

-- a request that is granted leaves the links
granted_links : (space : Space) (link : ℕ) (heads : Heads) (ask : Ask) → (granted space link heads ask).links ≡ space.links
granted_links space link heads Join = refl
granted_links space link heads Leave = refl
granted_links space link heads (Update remove insert confirm) = refl
granted_links space link heads (Query wish) = refl
granted_links space link heads (Subscribe wish) = subscribed_links space link heads (wanted_by wish)
granted_links space link heads (Unsubscribe text) = refl

either_links : (success : Bool) (space : Space) (link : ℕ) (heads : Heads) (ask : Ask) → (if success then granted space link heads ask else space).links ≡ space.links
either_links true space link heads ask = granted_links space link heads ask
either_links false space link heads ask = refl

-- a request that is done leaves the links, before anything is sent
pub done_links : (space : Space) (link : ℕ) (request : asked.Request) (status : Status) → (done_with space link request status).links ≡ space.links
done_links space link request status = either_links (is_success status) space link request.heads request.ask

-- what is told where there may be a message to send on an open link
pub told_queued : (space new : Space) (link : ℕ) (due : Option (List ℕ)) → new.links ≡ space.links → state_of space.links link ≡ Open
    → ring space.links (queue new link due).links ≡ ring_of (is_rung_since (queue new link due).links link (length (pending_of space.links link))) link
told_queued space new link None e h =
    subst (λ links. ring space.links links ≡ ring_of (is_rung_since links link (length (pending_of space.links link))) link) (sym e) (told_same space.links link h)
told_queued space new link (Some message) e h =
    told_changed (sent message) space.links (changed (sent message) new.links link) link h (ap (λ links. changed (sent message) links link) e)

-- what is answered where an open link changed
pub told_reply : (old new : Space) (link waited : ℕ) (reply : Reply) → state_of old.links link ≡ Open
    → ring old.links new.links ≡ ring_of (is_rung_since new.links link (length (pending_of old.links link))) link
    → waited ≡ length (pending_of old.links link) → reply ≡ Done (ring_of (is_rung_since new.links link waited) link)
    → reply ≡ Done (ring old.links new.links)
told_reply old new link waited reply h rung e f = f ∙ ap Done (ap (λ w. ring_of (is_rung_since new.links link w) link) e ∙ sym rung)

closed_reply : (space : Space) (link : ℕ) (state : LinkState) → state_of space.links link ≡ state → is_open state ≡ false
    → ((new : Space) → on_opened state space new ≡ told space new)
    → step space (Lost link) ≡ record { space = with_links space (changed lost space.links link); reply = Done [] }
closed_reply space link state h c opened =
    let new = with_links space (changed lost space.links link) in
    let quiet = told_closed space.links link (ap is_open h ∙ c) in
    ap (λ s. on_opened s space new) h ∙ opened new ∙ ap (λ l. record { space = new; reply = Done l }) quiet

-- what is answered where a link that was not open is lost
pub lost_closed : (space : Space) (link : ℕ) (state : LinkState) → state_of space.links link ≡ state → is_open state ≡ false → state ≢ Never
    → step space (Lost link) ≡ record { space = with_links space (changed lost space.links link); reply = Done [] }
lost_closed space link Never h c n = absurd (n refl)
lost_closed space link Open h c n = cc
lost_closed space link Ended h c n = closed_reply space link Ended h refl (λ new. refl)
lost_closed space link Overrun h c n = closed_reply space link Overrun h refl (λ new. refl)
lost_closed space link Gone h c n = closed_reply space link Gone h refl (λ new. refl)
