-- What a call sends waits on the links that its reply tells, and nowhere else, so no message waits once these are taken.
use Rattle.std.proofs.Common.{◌≡◌, ◌≢◌, ◌⊎◌, ◌∙◌, ap, sym, refl, subst, arith, inl, inr, ⊎_elim, ℕ, zero, suc, ◌+◌, ◌-◌, ◌<◌, Bool, true, false, cond, ◌&&◌, ◌||◌, not, nat_lt, List, [], ◌∷◌, ◌++◌, length, Option, Some, None, Contains}
use Rattle.std.specs.List.{slice_get}
use Rattle.std.proofs.lemmas.Bool.{false≢true, cases_eq, lt-ltb}
use Rattle.std.proofs.lemmas.List.Elements.{Contains-append_right}
use Rattle.m3_terms.specs.InsertedLaws.{cons_cases, head_in}
use Rattle.link_table.specs.Links.{Link, is_open, link_at, state_of, state_or_never, pending_of, pending_or_none}
use Rattle.session_core.specs.Space.{Space}
use Rattle.session_core.specs.Rings.{is_rung, ring_from, ring}
use Rattle.session_core.specs.Runs.{run_from}
use Rattle.sib_replay.specs.Output.{takes}
use Rattle.sib_replay.specs.Session.{AreRising, IsDrained}
use Rattle.sib_replay.proofs.LinkLemmas.{none_some, some_same, some_at, link_or_none}
use Rattle.sib_replay.proofs.TakeLemmas.{all_of, all_others, all_gone}
use Rattle.sib_replay.proofs.RingLemmas.{ring_others, ring_runs}
use Rattle.sib_replay.proofs.LinksStayClosed.{Spares}

-- nothing is in an empty list
none_in : (n : ℕ) → Contains [] n → ⊥
none_in n c = let below : c.0 < 0 = c.1 in omega arith

-- an open link is there
pub open_some : (links : List Link) (link : ℕ) → is_open (state_of links link) ≡ true → (l : Link) × (link_at links link ≡ Some l) × (is_open l.state ≡ true)
open_some links link h = link_or_none ((l : Link) × (link_at links link ≡ Some l) × (is_open l.state ≡ true)) links link
    (λ none. absurd (false≢true (sym (ap (λ o. is_open (state_or_never o)) none) ∙ h)))
    (λ l some. (l, some, sym (ap (λ o. is_open (state_or_never o)) some) ∙ h))

-- a link that isn't told, though it is open, has no message more
unrung : (l x : Link) → is_open l.state ≡ true → l.pending ≡ [] → is_rung l x ≡ false → x.pending ≡ []
unrung l x on none e = by_pending x.pending (is_open x.state)
    (sym (ap (λ b. b && (not (is_open x.state) || nat_lt (length l.pending) (length x.pending))) on ∙ ap (λ q. not (is_open x.state) || nat_lt (length q) (length x.pending)) none) ∙ e)
  where
    by_pending : (p : List (List ℕ)) (b : Bool) → (not b || nat_lt 0 (length p)) ≡ false → p ≡ []
    by_pending [] b h = refl
    by_pending (m ∷ p) true h = absurd (false≢true (sym h ∙ lt-ltb 0 (length (m ∷ p)) (omega arith)))
    by_pending (m ∷ p) false h = absurd (false≢true (sym h))

-- a link that is told of is in the ring
ring_has : (first : ℕ) (before after : List Link) (place : ℕ) (l x : Link) → slice_get before place ≡ Some l → slice_get after place ≡ Some x → is_rung l x ≡ true
    → Contains (ring_from first before after) (first + place)
ring_has first [] after place l x at now rung = absurd (none_some l at)
ring_has first (one ∷ before) [] place l x at now rung = absurd (none_some x now)
ring_has first (one ∷ before) (other ∷ after) zero l x at now rung =
    let told : is_rung one other ≡ true = ap (λ q. is_rung q other) (some_same one l at) ∙ ap (is_rung l) (some_same other x now) ∙ rung in
    let rest = ring_from (first + 1) before after in
    let here : first ≡ first + 0 = omega arith in
    subst (λ b. Contains (cond b (first ∷ []) [] ++ rest) (first + 0)) (sym told) (subst (Contains (first ∷ rest)) here (head_in first rest))
ring_has first (one ∷ before) (other ∷ after) (suc place) l x at now rung =
    let rest = ring_from (first + 1) before after in
    let there : first + 1 + place ≡ first + suc place = omega arith in
    Contains-append_right (cond (is_rung one other) (first ∷ []) []) rest (first + suc place)
    (subst (Contains rest) there (ring_has (first + 1) before after place l x at now rung))

module _ (old new : Space) (drained : IsDrained old) (spares : Spares old new) (n : ℕ) where
  open_waits : (l : Link) → link_at old.links n ≡ Some l → is_open l.state ≡ true → (o : Option Link) → link_at new.links n ≡ o
      → Contains (ring old.links new.links) n ⊎ (pending_of new.links n ≡ [])
  open_waits l at on None now = inr (ap pending_or_none now)
  open_waits l at on (Some x) now = by_rung (is_rung l x) refl
    where
      by_rung : (b : Bool) → is_rung l x ≡ b → Contains (ring old.links new.links) n ⊎ (pending_of new.links n ≡ [])
      by_rung true told =
          let was = some_at old.links n l at in
          let same : 1 + (n - 1) ≡ n = omega (arith, was.0) in
          inl (subst (Contains (ring old.links new.links)) same (ring_has 1 old.links new.links (n - 1) l x was.1 (some_at new.links n x now).1 told))
      by_rung false quiet = inr (ap pending_or_none now ∙ unrung l x on (sym (ap pending_or_none at) ∙ drained n) quiet)

  -- a link is in the ring, or no message waits on it
  pub waits_on_ring : Contains (ring old.links new.links) n ⊎ (pending_of new.links n ≡ [])
  waits_on_ring = by_open (is_open (state_of old.links n)) refl
    where
      by_open : (b : Bool) → is_open (state_of old.links n) ≡ b → Contains (ring old.links new.links) n ⊎ (pending_of new.links n ≡ [])
      by_open false off = inr (ap pending_or_none (spares.closed n off) ∙ drained n)
      by_open true on = let o = open_some old.links n on in open_waits o.0 o.1 o.2 (link_at new.links n) refl

-- where no message waits but on the links of a ring, none does once these are taken
pub ring_drains : (space : Space) (links : List ℕ) → AreRising 1 links → ((n : ℕ) → Contains links n ⊎ (pending_of space.links n ≡ [])) → IsDrained (run_from space (takes space links))
ring_drains space [] rises waits = λ n. ⊎_elim (λ c. absurd (none_in n c)) (λ e. e) (waits n)
ring_drains space (link ∷ links) rises waits =
    subst IsDrained (ring_runs space next link links rises refl)
    (ring_drains next links (ring_others space next link links rises refl) (λ n. later n (waits n) (cases_eq link n)))
  where
    next : Space
    next = run_from space (all_of space link)

    gone : (n : ℕ) → link ≡ n → pending_of next.links n ≡ []
    gone n same = subst (λ m. pending_of next.links m ≡ []) same (all_gone space link)

    later : (n : ℕ) → Contains (link ∷ links) n ⊎ (pending_of space.links n ≡ []) → (link ≡ n) ⊎ (link ≢ n) → Contains links n ⊎ (pending_of next.links n ≡ [])
    later n w (inl same) = inr (gone n same)
    later n (inr none) (inr apart) = inr (ap pending_or_none (all_others space link n apart) ∙ none)
    later n (inl c) (inr apart) = ⊎_elim (λ same. inr (gone n same)) inl (cons_cases link links n c)
