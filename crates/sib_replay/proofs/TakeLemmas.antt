-- What it does to take all that waits on a link, and on the links of a ring.
use Rattle.std.proofs.Common.{◌≡◌, ◌≢◌, ◌∙◌, ap, sym, refl, arith, ℕ, ◌+◌, ◌<◌, ◌≤◌, List, [], ◌∷◌, ◌++◌, length, take, drop, replicate, append-nil, Option, Some, None}
use Rattle.std.specs.List.{flat_map}
use Rattle.link_table.specs.Links.{Link, taken, link_with, link_at, changed, state_or_never, pending_of, pending_or_none}
use Rattle.link_table.specs.declared.state.LinkState.{LinkState}
use Rattle.link_table.specs.declared.state.LinkState as state
use Rattle.session_core.specs.Space.{Space}
use Rattle.session_core.specs.Queues.{with_links}
use Rattle.session_core.specs.Steps.{step, take_step, taken_from}
use Rattle.session_core.specs.Runs.{run_from}
use Rattle.session_core.specs.declared.call.Call.{Call}
use Rattle.session_core.specs.declared.call.Call.TheVariants.{Take}
use Rattle.session_core.specs.declared.call.Reply.TheVariants.{Message}
use Rattle.session_core.specs.Reads.{cost, costs}
use Rattle.sib_replay.specs.Output.{takes, message_lines, link_lines, stop_lines, stop_at}
use Rattle.sib_replay.specs.Session.{AreRising}
use Rattle.sib_replay.specs.declared.why.Why.{Why}
use Rattle.sib_replay.proofs.LinkLemmas.{at_changed, at_unchanged, length_changed}

-- some calls and then others
pub run_from-append : (space : Space) (calls others : List Call) → run_from space (calls ++ others) ≡ run_from (run_from space calls) others
run_from-append space [] others = refl
run_from-append space (call ∷ calls) others = run_from-append (step space call).space calls others

-- the rows of some calls and then of others
pub costs-append : (space : Space) (calls others : List Call) → costs space (calls ++ others) ≡ costs space calls + costs (run_from space calls) others
costs-append space [] others = omega arith
costs-append space (call ∷ calls) others = let rest = costs-append (step space call).space calls others in omega (arith, rest)

-- what is left of a link of which a message was taken
taken_pending : (l : Link) → (taken l).pending ≡ drop 1 l.pending
taken_pending l = by_state l.state (drop 1 l.pending)
  where
    by_state : (kind : LinkState) (pending : List (List ℕ)) → (link_with kind pending).pending ≡ pending
    by_state state.TheVariants.Open pending = refl
    by_state state.TheVariants.Never [] = refl
    by_state state.TheVariants.Never (m ∷ pending) = refl
    by_state state.TheVariants.Ended [] = refl
    by_state state.TheVariants.Ended (m ∷ pending) = refl
    by_state state.TheVariants.Overrun [] = refl
    by_state state.TheVariants.Overrun (m ∷ pending) = refl
    by_state state.TheVariants.Gone [] = refl
    by_state state.TheVariants.Gone (m ∷ pending) = refl

-- a link on which a message waits is there
waits_some : (links : List Link) (n m : ℕ) (message : List ℕ) (pending : List (List ℕ)) → pending_of links n ≡ message ∷ pending → (l : Link) × (link_at links n ≡ Some l) × (l.pending ≡ message ∷ pending)
waits_some links n m message pending h = go (link_at links n) refl
  where
    go : (o : Option Link) → link_at links n ≡ o → (l : Link) × (link_at links n ≡ Some l) × (l.pending ≡ message ∷ pending)
    go None e = absurd (empty (sym (ap pending_or_none e) ∙ h))
      where
        empty : ◌≡◌ {A = List (List ℕ)} [] (message ∷ pending) → ⊥
        empty e = cc
    go (Some l) e = (l, e, sym (ap pending_or_none e) ∙ h)

module _ (space : Space) (link : ℕ) (message : List ℕ) (pending : List (List ℕ)) (h : pending_of space.links link ≡ message ∷ pending) where
  -- the space where the oldest message is taken
  pub take_links : (step space (Take link)).space ≡ with_links space (changed taken space.links link)
  take_links =
      let (l, at, waits) = waits_some space.links link 0 message pending h in
      ap (λ o. (take_step space link o).space) at ∙ ap (λ p. (taken_from space link l.state p).space) waits

  -- the message is told
  pub take_reply : (step space (Take link)).reply ≡ Message message
  take_reply =
      let (l, at, waits) = waits_some space.links link 0 message pending h in
      ap (λ o. (take_step space link o).reply) at ∙ ap (λ p. (taken_from space link l.state p).reply) waits

  -- the others wait on
  pub take_pending : pending_of (step space (Take link)).space.links link ≡ pending
  take_pending =
      let (l, at, waits) = waits_some space.links link 0 message pending h in
      ap (λ (s : Space). pending_of s.links link) take_links ∙ ap pending_or_none (at_changed taken space.links link l at) ∙ taken_pending l ∙ ap (drop 1) waits

  -- the other links stay
  pub take_other : (other : ℕ) → link ≢ other → link_at (step space (Take link)).space.links other ≡ link_at space.links other
  take_other other apart = ap (λ (s : Space). link_at s.links other) take_links ∙ at_unchanged taken space.links link other apart

-- one call for each message that waits
abbrev pub all_of : Space → ℕ → List Call
all_of space link = replicate (length (pending_of space.links link)) (Take link)

-- all that waits is taken where the first is, and then the others
pub take_first : (space : Space) (link : ℕ) → 0 < length (pending_of space.links link)
    → (run_from space (all_of space link) ≡ run_from (step space (Take link)).space (all_of (step space (Take link)).space link))
    × (pending_of (step space (Take link)).space.links link ≡ drop 1 (pending_of space.links link))
    × (length (pending_of (step space (Take link)).space.links link) + 1 ≡ length (pending_of space.links link))
take_first space link some = go (pending_of space.links link) refl
  where
    next : Space
    next = (step space (Take link)).space

    go : (p : List (List ℕ)) → pending_of space.links link ≡ p → (run_from space (all_of space link) ≡ run_from next (all_of next link)) × (pending_of next.links link ≡ drop 1 (pending_of space.links link))
        × (length (pending_of next.links link) + 1 ≡ length (pending_of space.links link))
    go [] e = absurd (omega (arith, some, ap length e))
    go (m ∷ p) e =
        let left = take_pending space link m p e in (
          ap (λ l. run_from space (replicate (length l) (Take link))) e ∙ ap (λ l. run_from next (replicate (length l) (Take link))) (sym left),
          left ∙ sym (ap (drop 1) e),
          omega (arith, ap length left, ap length e),
        )

-- the rows of the first call and of the others
pub take_costs : (space : Space) (link : ℕ) → 0 < length (pending_of space.links link)
    → cost space (Take link) + costs (step space (Take link)).space (all_of (step space (Take link)).space link) ≡ costs space (all_of space link)
take_costs space link some = go (pending_of space.links link) refl
  where
    next : Space
    next = (step space (Take link)).space

    go : (p : List (List ℕ)) → pending_of space.links link ≡ p → cost space (Take link) + costs next (all_of next link) ≡ costs space (all_of space link)
    go [] e = absurd (omega (arith, some, ap length e))
    go (m ∷ p) e =
        ap (λ l. cost space (Take link) + costs next (replicate (length l) (Take link))) (take_pending space link m p e)
        ∙ sym (ap (λ l. costs space (replicate (length l) (Take link))) e)

-- what is written of the first message and of the others
pub first_lines : (link : ℕ) (p : List (List ℕ)) → flat_map (message_lines link) (take 1 p) ++ flat_map (message_lines link) (drop 1 p) ≡ flat_map (message_lines link) p
first_lines link [] = refl
first_lines link (m ∷ p) = ap (λ l. l ++ flat_map (message_lines link) p) (append-nil (message_lines link m))

-- the message that is taken is the first
pub first_taken : (space : Space) (link : ℕ) (message : List ℕ) → 0 < length (pending_of space.links link) → (step space (Take link)).reply ≡ Message message
    → flat_map (message_lines link) (take 1 (pending_of space.links link)) ≡ message_lines link message
first_taken space link message some h = go (pending_of space.links link) refl
  where
    same : (x : List ℕ) → Message x ≡ Message message → x ≡ message
    same x e = cc

    go : (p : List (List ℕ)) → pending_of space.links link ≡ p → flat_map (message_lines link) (take 1 (pending_of space.links link)) ≡ message_lines link message
    go [] e = absurd (omega (arith, some, ap length e))
    go (x ∷ p) e =
        ap (λ q. flat_map (message_lines link) (take 1 q)) e ∙ append-nil (message_lines link x)
        ∙ ap (message_lines link) (same x (sym (take_reply space link x p e) ∙ h))

-- while all that waits on a link is taken, the other links stay
pub all_others : (space : Space) (link other : ℕ) → link ≢ other → link_at (run_from space (all_of space link)).links other ≡ link_at space.links other
all_others space link other apart = go (pending_of space.links link) space refl
  where
    go : (p : List (List ℕ)) (s : Space) → pending_of s.links link ≡ p → link_at (run_from s (all_of s link)).links other ≡ link_at s.links other
    go [] s e = ap (λ l. link_at (run_from s (replicate (length l) (Take link))).links other) e
    go (m ∷ p) s e =
        let next = (step s (Take link)).space in
        let left = take_pending s link m p e in
        ap (λ l. link_at (run_from s (replicate (length l) (Take link))).links other) e
        ∙ ap (λ l. link_at (run_from next (replicate (length l) (Take link))).links other) (sym left)
        ∙ go p next left ∙ take_other s link m p e other apart

-- and there are as many
pub all_length : (space : Space) (link : ℕ) → length (run_from space (all_of space link)).links ≡ length space.links
all_length space link = go (pending_of space.links link) space refl
  where
    go : (p : List (List ℕ)) (s : Space) → pending_of s.links link ≡ p → length (run_from s (all_of s link)).links ≡ length s.links
    go [] s e = ap (λ l. length (run_from s (replicate (length l) (Take link))).links) e
    go (m ∷ p) s e =
        let next = (step s (Take link)).space in
        let left = take_pending s link m p e in
        ap (λ l. length (run_from s (replicate (length l) (Take link))).links) e
        ∙ ap (λ l. length (run_from next (replicate (length l) (Take link))).links) (sym left)
        ∙ go p next left ∙ ap (λ (x : Space). length x.links) (take_links s link m p e) ∙ length_changed taken s.links link

-- nothing waits then
pub all_gone : (space : Space) (link : ℕ) → pending_of (run_from space (all_of space link)).links link ≡ []
all_gone space link = go (pending_of space.links link) space refl
  where
    go : (p : List (List ℕ)) (s : Space) → pending_of s.links link ≡ p → pending_of (run_from s (all_of s link)).links link ≡ []
    go [] s e = ap (λ l. pending_of (run_from s (replicate (length l) (Take link))).links link) e ∙ e
    go (m ∷ p) s e =
        let next = (step s (Take link)).space in
        let left = take_pending s link m p e in
        ap (λ l. pending_of (run_from s (replicate (length l) (Take link))).links link) e
        ∙ ap (λ l. pending_of (run_from next (replicate (length l) (Take link))).links link) (sym left) ∙ go p next left

-- what is seen of links above one, after all that waits on it was taken
module _ (space : Space) (link : ℕ) where
  pub takes_still : (ring : List ℕ) → AreRising (link + 1) ring → takes (run_from space (all_of space link)) ring ≡ takes space ring
  takes_still ring r = go link (omega arith) ring r
    where
      go : (least : ℕ) → link ≤ least → (ring : List ℕ) → AreRising (least + 1) ring → takes (run_from space (all_of space link)) ring ≡ takes space ring
      go least h [] r = refl
      go least h (other ∷ ring) r =
          let same = all_others space link other (λ e. omega (arith, h, r.0, e)) in
          ap (λ o. replicate (length (pending_or_none o)) (Take other) ++ takes (run_from space (all_of space link)) ring) same
          ∙ ap (λ l. all_of space other ++ l) (go other (omega (arith, h, r.0)) ring r.1)

  pub all_still : {A : Type 0} (F : ℕ → Option Link → List A) (ring : List ℕ) → AreRising (link + 1) ring
      → flat_map (λ n. F n (link_at (run_from space (all_of space link)).links n)) ring ≡ flat_map (λ n. F n (link_at space.links n)) ring
  all_still F ring r = go link (omega arith) ring r
    where
      go : (least : ℕ) → link ≤ least → (ring : List ℕ) → AreRising (least + 1) ring
          → flat_map (λ n. F n (link_at (run_from space (all_of space link)).links n)) ring ≡ flat_map (λ n. F n (link_at space.links n)) ring
      go least h [] r = refl
      go least h (other ∷ ring) r =
          let same = all_others space link other (λ e. omega (arith, h, r.0, e)) in
          ap (λ o. F other o ++ flat_map (λ n. F n (link_at (run_from space (all_of space link)).links n)) ring) same
          ∙ ap (λ l. F other (link_at space.links other) ++ l) (go other (omega (arith, h, r.0)) ring r.1)

  pub lines_still : (reason : ℕ → Option Why) (ring : List ℕ) → AreRising (link + 1) ring
      → flat_map (link_lines (run_from space (all_of space link)) reason) ring ≡ flat_map (link_lines space reason) ring
  lines_still reason ring r = all_still (λ n o. flat_map (message_lines n) (pending_or_none o) ++ stop_lines n (stop_at (state_or_never o) (reason n))) ring r
