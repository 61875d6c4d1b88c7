-- What a call of an event does to a space in which no message waits.
use Rattle.std.proofs.Common.{◌≡◌, ◌∙◌, ap, sym, refl, subst, ℕ, ◌+◌, Bool, true, false, cond, List, [], ◌∷◌, ◌++◌, length, Option, Some, None}
use Rattle.std.proofs.lemmas.Bool.{false≢true}
use Rattle.link_table.specs.Links.{Link, new_link, is_open, is_full, counted, ended, lost, link_at, changed, state_of, state_or_never}
use Rattle.link_table.specs.declared.state.LinkState.{LinkState}
use Rattle.link_table.specs.declared.state.LinkState as state
use Rattle.ssap_shape.specs.declared.request.Arrived.{Arrived}
use Rattle.session_core.specs.Space.{Space}
use Rattle.session_core.specs.Queues.{with_links}
use Rattle.session_core.specs.Rings.{ring}
use Rattle.session_core.specs.Steps.{Step, step, delivered, on_open, on_opened, idle, take_step, taken_from, told, unchanged}
use Rattle.session_core.specs.Runs.{run_from}
use Rattle.session_core.specs.declared.call.Call.{Call}
use Rattle.session_core.specs.declared.call.Call.TheVariants.{NewLink, Deliver, End, Lost, Take}
use Rattle.session_core.specs.declared.call.Reply.{Reply}
use Rattle.session_core.specs.declared.call.Reply.TheVariants.{Opened, TooManyLinks, Done, Closed, NoLink, Message}
use Rattle.sib_replay.specs.Output.{takes, calls_with, ring_of}
use Rattle.sib_replay.specs.Session.{AreRising, IsDrained, opened_in}
use Rattle.sib_replay.proofs.LinkLemmas.{at_changed, ring_rises}
use Rattle.sib_replay.proofs.LinksStayClosed.{Closes, Spares, closes_same, closes_both, spares_closes, ended_spares, delivered_spares, ended_shut, takes_close}
use Rattle.sib_replay.proofs.RingsDrain.{open_some, waits_on_ring, ring_drains}

-- a ring that is told rises
told_rises : (before after : List Link) (links : List ℕ) → Done (ring before after) ≡ Done links → AreRising 1 links
told_rises before after links e = subst (AreRising 1) (same (ring before after) e) (ring_rises 1 before after)
  where
    same : (r : List ℕ) → Done r ≡ Done links → r ≡ links
    same r e = cc

-- no ring
no_ring : (reply : Reply) (links : List ℕ) → ring_of reply ≡ [] → reply ≡ Done links → AreRising 1 links
no_ring reply links none e = subst (AreRising 1) (sym none ∙ ap ring_of e) tt

on_open_rises : (kind : LinkState) (old new : Space) (links : List ℕ) → (on_open kind old new).reply ≡ Done links → AreRising 1 links
on_open_rises state.TheVariants.Never old new links e = no_ring NoLink links refl e
on_open_rises state.TheVariants.Open old new links e = told_rises old.links new.links links e
on_open_rises state.TheVariants.Ended old new links e = no_ring Closed links refl e
on_open_rises state.TheVariants.Overrun old new links e = no_ring Closed links refl e
on_open_rises state.TheVariants.Gone old new links e = no_ring Closed links refl e

on_opened_rises : (kind : LinkState) (old new : Space) (links : List ℕ) → (on_opened kind old new).reply ≡ Done links → AreRising 1 links
on_opened_rises state.TheVariants.Never old new links e = no_ring NoLink links refl e
on_opened_rises state.TheVariants.Open old new links e = told_rises old.links new.links links e
on_opened_rises state.TheVariants.Ended old new links e = told_rises old.links new.links links e
on_opened_rises state.TheVariants.Overrun old new links e = told_rises old.links new.links links e
on_opened_rises state.TheVariants.Gone old new links e = told_rises old.links new.links links e

idle_no_ring : (kind : LinkState) → ring_of (idle kind) ≡ []
idle_no_ring state.TheVariants.Never = refl
idle_no_ring state.TheVariants.Open = refl
idle_no_ring state.TheVariants.Ended = refl
idle_no_ring state.TheVariants.Overrun = refl
idle_no_ring state.TheVariants.Gone = refl

take_rises : (space : Space) (n : ℕ) (o : Option Link) (links : List ℕ) → (take_step space n o).reply ≡ Done links → AreRising 1 links
take_rises space n None links e = no_ring NoLink links refl e
take_rises space n (Some l) links e = by_pending l.pending e
  where
    by_pending : (p : List (List ℕ)) → (taken_from space n l.state p).reply ≡ Done links → AreRising 1 links
    by_pending [] e = no_ring (idle l.state) links (idle_no_ring l.state) e
    by_pending (m ∷ p) e = no_ring (Message m) links refl e

-- the links of every reply rise
pub reply_rises : (space : Space) (call : Call) (links : List ℕ) → (step space call).reply ≡ Done links → AreRising 1 links
reply_rises space NewLink links e = opens (is_full space.links) e
  where
    opens : (full : Bool) → (cond full (unchanged space (TooManyLinks (counted space.links))) (record { space = with_links space (space.links ++ new_link ∷ []); reply = Opened (length space.links + 1) })).reply ≡ Done links → AreRising 1 links
    opens true h = no_ring (TooManyLinks (counted space.links)) links refl h
    opens false h = no_ring (Opened (length space.links + 1)) links refl h
reply_rises space (Deliver link arrived) links e = on_open_rises (state_of space.links link) space (delivered space link arrived) links e
reply_rises space (End link) links e = on_open_rises (state_of space.links link) space (with_links space (changed ended space.links link)) links e
reply_rises space (Lost link) links e = on_opened_rises (state_of space.links link) space (with_links space (changed lost space.links link)) links e
reply_rises space (Take link) links e = take_rises space link (link_at space.links link) links e

-- what the calls of an event leave: no message waits, and no link is open that was not
pub record Leaves (old new : Space) : Type 0 where
  pub drained : IsDrained new
  pub closes : Closes old new

pub leaves_same : (space : Space) → IsDrained space → Leaves space space
leaves_same space drained = record { drained = drained; closes = closes_same space }

pub leaves_both : (a b c : Space) → Leaves a b → Leaves b c → Leaves a c
leaves_both a b c l m = record { drained = m.drained; closes = closes_both a b c l.closes m.closes }

module _ (old new : Space) (call : Call) (is : step old call ≡ told old new) where
  -- what the call and those that follow it do
  told_runs : run_from old (calls_with old (Some call)) ≡ run_from new (takes new (ring old.links new.links))
  told_runs = ap (λ (s : Step). run_from s.space (takes s.space (ring_of s.reply))) is

  -- all that waits is taken
  told_leaves : IsDrained old → Spares old new → Leaves old (run_from old (calls_with old (Some call)))
  told_leaves drained spares =
      let links : List ℕ = ring old.links new.links in
      subst (Leaves old) (sym told_runs) (record {
        drained = ring_drains new links (ring_rises 1 old.links new.links) (waits_on_ring old new drained spares);
        closes = closes_both old new (run_from new (takes new links)) (spares_closes old new spares) (takes_close new new links);
      })

-- a call that changes nothing
same_leaves : (space : Space) (call : Call) (reply : Reply) → IsDrained space → step space call ≡ unchanged space reply → ring_of reply ≡ []
    → Leaves space (run_from space (calls_with space (Some call)))
same_leaves space call reply drained is none =
    let runs : run_from space (calls_with space (Some call)) ≡ space =
    ap (λ (s : Step). run_from s.space (takes s.space (ring_of s.reply))) is ∙ ap (λ l. run_from space (takes space l)) none
    in
    subst (Leaves space) (sym runs) (leaves_same space drained)

-- a call for an open link
on_open_leaves : (space new : Space) (kind : LinkState) (call : Call) → IsDrained space → Spares space new → step space call ≡ on_open kind space new
    → Leaves space (run_from space (calls_with space (Some call)))
on_open_leaves space new state.TheVariants.Never call drained spares is = same_leaves space call NoLink drained is refl
on_open_leaves space new state.TheVariants.Open call drained spares is = told_leaves space new call is drained spares
on_open_leaves space new state.TheVariants.Ended call drained spares is = same_leaves space call Closed drained is refl
on_open_leaves space new state.TheVariants.Overrun call drained spares is = same_leaves space call Closed drained is refl
on_open_leaves space new state.TheVariants.Gone call drained spares is = same_leaves space call Closed drained is refl

pub deliver_leaves : (space : Space) (link : ℕ) (arrived : Arrived) → IsDrained space → Leaves space (run_from space (calls_with space (Some (Deliver link arrived))))
deliver_leaves space link arrived drained =
    on_open_leaves space (delivered space link arrived) (state_of space.links link) (Deliver link arrived) drained (delivered_spares space link arrived) refl

pub end_leaves : (space : Space) (link : ℕ) → IsDrained space → Leaves space (run_from space (calls_with space (Some (End link))))
end_leaves space link drained =
    on_open_leaves space (with_links space (changed ended space.links link)) (state_of space.links link) (End link) drained (ended_spares space link) refl

-- a link whose input ended is open no more
pub end_closes : (space : Space) (link : ℕ) → is_open (state_of space.links link) ≡ true
    → is_open (state_of (run_from space (calls_with space (Some (End link)))).links link) ≡ false
end_closes space link on =
    let l = open_some space.links link on in
    let off : is_open (state_of new.links link) ≡ false = ap (λ o. is_open (state_or_never o)) (at_changed ended space.links link l.0 l.1) ∙ ended_shut l.0 l.2 in
    ap (λ (s : Space). is_open (state_of s.links link)) (told_runs space new (End link) (opened (state_of space.links link) on))
    ∙ (takes_close new new (ring space.links new.links)).closed link off
  where
    new : Space
    new = with_links space (changed ended space.links link)

    opened : (kind : LinkState) → is_open kind ≡ true → on_open kind space new ≡ told space new
    opened state.TheVariants.Open e = refl
    opened state.TheVariants.Never e = absurd (false≢true e)
    opened state.TheVariants.Ended e = absurd (false≢true e)
    opened state.TheVariants.Overrun e = absurd (false≢true e)
    opened state.TheVariants.Gone e = absurd (false≢true e)

-- a link that opens, or not
module _ (space : Space) where
  pub opens_not : is_full space.links ≡ true → (run_from space (calls_with space (Some NewLink)) ≡ space) × (opened_in (step space NewLink).reply ≡ None)
  opens_not full =
      let is : step space NewLink ≡ unchanged space (TooManyLinks (counted space.links)) =
      ap (λ b. cond b (unchanged space (TooManyLinks (counted space.links))) (record { space = with_links space (space.links ++ new_link ∷ []); reply = Opened (length space.links + 1) })) full
      in (
        ap (λ (s : Step). run_from s.space (takes s.space (ring_of s.reply))) is,
        ap (λ (s : Step). opened_in s.reply) is,
      )

  pub opens : is_full space.links ≡ false
      → (run_from space (calls_with space (Some NewLink)) ≡ with_links space (space.links ++ new_link ∷ [])) × (opened_in (step space NewLink).reply ≡ Some (length space.links + 1))
  opens free =
      let is : step space NewLink ≡ record { space = with_links space (space.links ++ new_link ∷ []); reply = Opened (length space.links + 1) } =
      ap (λ b. cond b (unchanged space (TooManyLinks (counted space.links))) (record { space = with_links space (space.links ++ new_link ∷ []); reply = Opened (length space.links + 1) })) free
      in (
        ap (λ (s : Step). run_from s.space (takes s.space (ring_of s.reply))) is,
        ap (λ (s : Step). opened_in s.reply) is,
      )
