-- A link that is not open stays so, whatever is sent and taken, and no call of an entry but one for a link opens one.
use Rattle.std.proofs.Common.{◌≡◌, ◌≢◌, ◌⊎◌, ◌∙◌, ap, sym, refl, subst, inl, inr, ℕ, zero, suc, Bool, true, false, cond, List, [], ◌∷◌, length, drop, replicate, Option, Some, None, option_map}
use Rattle.std.proofs.lemmas.Bool.{false≢true, cases_eq}
use Rattle.link_table.specs.Links.{Link, is_open, closed_link, with_message, sent, ended, taken, link_at, changed, state_of, state_or_never, pending_of}
use Rattle.link_table.specs.declared.state.LinkState.{LinkState}
use Rattle.link_table.specs.declared.state.LinkState.TheVariants.{Ended}
use Rattle.link_table.proofs.OtherLinksStay.{link_at-changed, link_at-others, state_of-others, length-changed}
use Rattle.ssap_shape.specs.declared.request.Arrived.{Arrived}
use Rattle.ssap_shape.specs.declared.request.Arrived.TheVariants.{Request, Wrong, NotRequest}
use Rattle.session_core.specs.Space.{Space}
use Rattle.session_core.specs.Requests.{done_with, due_with, verdict, confirm, wrong_status}
use Rattle.session_core.specs.Queues.{with_links, queue}
use Rattle.session_core.specs.Following.{follow_with}
use Rattle.session_core.specs.Steps.{step, delivered, take_step, taken_from}
use Rattle.session_core.specs.Runs.{run_from}
use Rattle.session_core.specs.declared.call.Call.TheVariants.{Take}
use Rattle.session_core.proofs.Told.{done_links}
use Rattle.session_core.proofs.WhatFollowsHolds.{HoldsOfTelling, queue_holds, follow_holds}
use Rattle.sib_replay.specs.Output.{takes}
use Rattle.sib_replay.proofs.TakeLemmas.{run_from-append, all_of}

-- there are as many links as before, and those that were not open are not
pub record Closes (old new : Space) : Type 0 where
  pub as_many : length new.links ≡ length old.links
  pub closed : (n : ℕ) → is_open (state_of old.links n) ≡ false → is_open (state_of new.links n) ≡ false

-- there are as many links as before, and those that were not open are as they were
pub record Spares (old new : Space) : Type 0 where
  pub as_many : length new.links ≡ length old.links
  pub closed : (n : ℕ) → is_open (state_of old.links n) ≡ false → link_at new.links n ≡ link_at old.links n

pub closes_same : (space : Space) → Closes space space
closes_same space = record { as_many = refl; closed = λ n off. off }

pub closes_both : (a b c : Space) → Closes a b → Closes b c → Closes a c
closes_both a b c p q = record { as_many = q.as_many ∙ p.as_many; closed = λ n off. q.closed n (p.closed n off) }

-- links that are as they were are not open where they were not
pub spares_closes : (old new : Space) → Spares old new → Closes old new
spares_closes old new s = record { as_many = s.as_many; closed = λ n off. ap (λ o. is_open (state_or_never o)) (s.closed n off) ∙ off }

-- what is open then was open before
pub open_before : (old new : Space) → Closes old new → (n : ℕ) → is_open (state_of new.links n) ≡ true → is_open (state_of old.links n) ≡ true
open_before old new c n now = by_open (is_open (state_of old.links n)) refl
  where
    by_open : (b : Bool) → is_open (state_of old.links n) ≡ b → is_open (state_of old.links n) ≡ true
    by_open true on = on
    by_open false off = absurd (false≢true (sym (c.closed n off) ∙ now))

module _ (old new : Space) (change : Link → Link) (link : ℕ) (links : new.links ≡ changed change old.links link) where
  -- one link changes, and stays as it is where it is not open
  spares_changed : ((l : Link) → is_open l.state ≡ false → change l ≡ l) → Spares old new
  spares_changed stays = record {
    as_many = ap length links ∙ length-changed change old.links link;
    closed = λ n off. ap (λ ls. link_at ls n) links ∙ at n off (cases_eq n link);
  }
    where
      still : (found : Option Link) → is_open (state_or_never found) ≡ false → option_map change found ≡ found
      still None off = refl
      still (Some l) off = ap Some (stays l off)

      at : (n : ℕ) → is_open (state_of old.links n) ≡ false → (n ≡ link) ⊎ (n ≢ link) → link_at (changed change old.links link) n ≡ link_at old.links n
      at n off (inl same) =
          ap (link_at (changed change old.links link)) same ∙ link_at-changed change old.links link
          ∙ still (link_at old.links link) (ap (λ m. is_open (state_of old.links m)) (sym same) ∙ off) ∙ ap (link_at old.links) (sym same)
      at n off (inr apart) = link_at-others change old.links link n apart

  -- one link changes, and does not open
  closes_changed : ((l : Link) → is_open l.state ≡ false → is_open (change l).state ≡ false) → Closes old new
  closes_changed shuts = record {
    as_many = ap length links ∙ length-changed change old.links link;
    closed = λ n off. ap (λ ls. is_open (state_of ls n)) links ∙ at n off (cases_eq n link);
  }
    where
      shut : (found : Option Link) → is_open (state_or_never found) ≡ false → is_open (state_or_never (option_map change found)) ≡ false
      shut None off = refl
      shut (Some l) off = shuts l off

      at : (n : ℕ) → is_open (state_of old.links n) ≡ false → (n ≡ link) ⊎ (n ≢ link) → is_open (state_of (changed change old.links link) n) ≡ false
      at n off (inl same) =
          ap (λ m. is_open (state_of (changed change old.links link) m)) same ∙ ap (λ o. is_open (state_or_never o)) (link_at-changed change old.links link)
          ∙ shut (link_at old.links link) (ap (λ m. is_open (state_of old.links m)) (sym same) ∙ off)
      at n off (inr apart) = ap is_open (state_of-others change old.links link n apart) ∙ off

-- what is sent on a link that is not open is dropped
sent_stays : (message : List ℕ) (l : Link) → is_open l.state ≡ false → sent message l ≡ l
sent_stays message l off = ap (λ b. cond b (with_message message l) l) off

-- the input of such a link does not end again
ended_stays : (l : Link) → is_open l.state ≡ false → ended l ≡ l
ended_stays l off = ap (λ b. cond b (closed_link Ended l.pending) l) off

-- whatever follows from a request, links that are not open stay as they are
spares_holds : HoldsOfTelling Spares
spares_holds = record {
  sending = record {
    same = λ space. record { as_many = refl; closed = λ n off. refl };
    chain = λ a b c (p : Spares a b) (q : Spares b c). record {
      as_many = q.as_many ∙ p.as_many;
      closed = λ n off. q.closed n (ap (λ o. is_open (state_or_never o)) (p.closed n off) ∙ off) ∙ p.closed n off;
    };
    sends = λ space link message. spares_changed space (queue space link (Some message)) (sent message) link refl (sent_stays message);
  };
  drops = λ space number. record { as_many = refl; closed = λ n off. refl };
  counts = λ space number. record { as_many = refl; closed = λ n off. refl };
}

-- and where the input of a link ends
pub ended_spares : (space : Space) (link : ℕ) → Spares space (with_links space (changed ended space.links link))
ended_spares space link = spares_changed space (with_links space (changed ended space.links link)) ended link refl ended_stays

-- and where a message comes
pub delivered_spares : (space : Space) (link : ℕ) (arrived : Arrived) → Spares space (delivered space link arrived)
delivered_spares space link NotRequest = ended_spares space link
delivered_spares space link (Wrong heads status) = spares_holds.sending.sends space link (confirm heads (wrong_status space heads status))
delivered_spares space link (Request request) =
    let status = verdict space request in
    let done = done_with space link request status in
    let queued = queue done link (due_with space request status) in
    let links = done_links space link request status in
    spares_holds.sending.chain space done (follow_with space request status queued)
    (record { as_many = ap length links; closed = λ n off. ap (λ ls. link_at ls n) links })
    (spares_holds.sending.chain done queued (follow_with space request status queued)
    (queue_holds Spares spares_holds.sending done link (due_with space request status)) (follow_holds Spares spares_holds space request status queued))

-- a link that closes is not open
closed_shut : (kind : LinkState) (pending : List (List ℕ)) → is_open kind ≡ false → is_open (closed_link kind pending).state ≡ false
closed_shut kind [] off = refl
closed_shut kind (m ∷ pending) off = off

-- a link whose input ended is not open
pub ended_shut : (l : Link) → is_open l.state ≡ true → is_open (ended l).state ≡ false
ended_shut l on = ap (λ b. is_open (cond b (closed_link Ended l.pending) l).state) on ∙ closed_shut Ended l.pending refl

-- nor does a link open of which a message is taken
taken_shut : (l : Link) → is_open l.state ≡ false → is_open (taken l).state ≡ false
taken_shut l off =
    ap (λ b. is_open (cond b (record { state = l.state; pending = drop 1 l.pending }) (closed_link l.state (drop 1 l.pending))).state) off
    ∙ closed_shut l.state (drop 1 l.pending) off

take_closes : (space : Space) (link : ℕ) → Closes space (step space (Take link)).space
take_closes space link = by_found (link_at space.links link)
  where
    by_pending : (kind : LinkState) (p : List (List ℕ)) → Closes space (taken_from space link kind p).space
    by_pending kind [] = closes_same space
    by_pending kind (m ∷ p) = closes_changed space (with_links space (changed taken space.links link)) taken link refl taken_shut

    by_found : (o : Option Link) → Closes space (take_step space link o).space
    by_found None = closes_same space
    by_found (Some l) = by_pending l.state l.pending

count_closes : (count : ℕ) (space : Space) (link : ℕ) → Closes space (run_from space (replicate count (Take link)))
count_closes zero space link = closes_same space
count_closes (suc count) space link =
    let next = (step space (Take link)).space in
    closes_both space next (run_from next (replicate count (Take link))) (take_closes space link) (count_closes count next link)

-- nor while all that waits on some links is taken
pub takes_close : (space from : Space) (ring : List ℕ) → Closes from (run_from from (takes space ring))
takes_close space from [] = closes_same from
takes_close space from (link ∷ ring) =
    let mid = run_from from (all_of space link) in
    subst (Closes from) (sym (run_from-append from (all_of space link) (takes space ring)))
    (closes_both from mid (run_from mid (takes space ring)) (count_closes (length (pending_of space.links link)) from link) (takes_close space mid ring))
