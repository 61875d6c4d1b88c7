-- Links of which one changes.
use Rattle.std.proofs.Common.{◌≡◌, ◌≢◌, ◌⊎◌, ℕ, zero, suc, ◌-◌, Bool, true, false, List, [], ◌∷◌, ◌++◌, set, Option, Some, None, slice_get, drop, refl, sym, ap, ◌∙◌, inl, inr, arith, if◌then◌else◌, nat_le}
use Rattle.std.proofs.lemmas.Bool.{cases_eq, le-leb}
use Rattle.std.proofs.lemmas.Option.{same_Some}
use Rattle.link_table.specs.Links.{Link, is_open, new_link, closed_link, with_message, sent, ended, lost, taken, link_at, changed}
use Rattle.link_table.specs.declared.state.LinkState.{LinkState}
use Rattle.link_table.specs.declared.state.LinkState.TheVariants.{Never, Ended, Overrun}
use mathlib.Core.Logic.{⊎_elim}
use Rattle.session_core.specs.Kept.{AllOpened}

module _ {A : Type 0} where
  -- an element that is set is there
  set_there : (xs : List A) (i : ℕ) (x y : A) → slice_get xs i ≡ Some y → slice_get (set xs i x) i ≡ Some x
  set_there [] i x y h = cc
  set_there (z ∷ zs) zero x y h = refl
  set_there (z ∷ zs) (suc i) x y h = set_there zs i x y h

  -- and the others stay
  set_apart : (xs : List A) (i j : ℕ) (x : A) → j ≢ i → slice_get (set xs i x) j ≡ slice_get xs j
  set_apart [] i j x n = refl
  set_apart (z ∷ zs) zero zero x n = absurd (n refl)
  set_apart (z ∷ zs) zero (suc j) x n = refl
  set_apart (z ∷ zs) (suc i) zero x n = refl
  set_apart (z ∷ zs) (suc i) (suc j) x n = set_apart zs i j x (λ e. n (ap suc e))

  -- what is pushed is the only new element
  pub push_there : (xs : List A) (i : ℕ) (x y : A) → slice_get (xs ++ x ∷ []) i ≡ Some y → (slice_get xs i ≡ Some y) ⊎ (y ≡ x)
  push_there [] zero x y h = inr (sym (same_Some x y h))
  push_there [] (suc i) x y h = cc
  push_there (z ∷ zs) zero x y h = inl h
  push_there (z ∷ zs) (suc i) x y h = push_there zs i x y h

  -- and the old ones stay
  pub push_old : (xs : List A) (i : ℕ) (x y : A) → slice_get xs i ≡ Some y → slice_get (xs ++ x ∷ []) i ≡ Some y
  push_old [] i x y h = cc
  push_old (z ∷ zs) zero x y h = h
  push_old (z ∷ zs) (suc i) x y h = push_old zs i x y h

-- the link of a number above 0 stands one place before it
pub link_at-place : (links : List Link) (place : ℕ) → link_at links (suc place) ≡ slice_get links place
link_at-place links place =
    let e : suc place - 1 ≡ place = omega arith in
    let f : nat_le 1 (suc place) ≡ true = le-leb 1 (suc place) (omega arith) in
    rw (e, f) refl

-- the links after the link of a number changed
pub changed-place : (change : Link → Link) (links : List Link) (place : ℕ) (link : Link) → slice_get links place ≡ Some link
    → changed change links (suc place) ≡ set links place (change link)
changed-place change links place link h =
    let e : suc place - 1 ≡ place = omega arith in
    let f : link_at links (suc place) ≡ Some link = link_at-place links place ∙ h in
    rw (f, e) refl

-- where there is no link nothing changes
pub changed-none : (change : Link → Link) (links : List Link) (number : ℕ) → link_at links number ≡ None → changed change links number ≡ links
changed-none change links number h = rw h refl

-- a link that changed is there
pub changed-there : (change : Link → Link) (links : List Link) (number : ℕ) (link : Link) → link_at links number ≡ Some link
    → link_at (changed change links number) number ≡ Some (change link)
changed-there change links zero link h = cc
changed-there change links (suc place) link h =
    let there = sym (link_at-place links place) ∙ h in
    ap (λ l. link_at l (suc place)) (changed-place change links place link there)
    ∙ link_at-place (set links place (change link)) place ∙ set_there links place (change link) link there

-- the other links stay, where there is one that changes
apart-at : (change : Link → Link) (links : List Link) (place other : ℕ) (found : Option Link) → slice_get links place ≡ found → other ≢ suc place
    → link_at (changed change links (suc place)) other ≡ link_at links other
apart-at change links place other None h n = ap (λ l. link_at l other) (changed-none change links (suc place) (link_at-place links place ∙ h))
apart-at change links place zero (Some link) h n = refl
apart-at change links place (suc other) (Some link) h n =
    ap (λ l. link_at l (suc other)) (changed-place change links place link h)
    ∙ link_at-place (set links place (change link)) other ∙ set_apart links place other (change link) (λ e. n (ap suc e)) ∙ sym (link_at-place links other)

-- the other links stay
pub changed-apart : (change : Link → Link) (links : List Link) (number other : ℕ) → other ≢ number
    → link_at (changed change links number) other ≡ link_at links other
changed-apart change links zero other n = refl
changed-apart change links (suc place) other n = apart-at change links place other (slice_get links place) refl n

-- a change leaves opened links opened
abbrev pub KeepsOpened : (Link → Link) → Type 0
KeepsOpened change = (link : Link) → link.state ≢ Never → (change link).state ≢ Never

opened-at : (change : Link → Link) → KeepsOpened change → (links : List Link) (number other : ℕ) (link : Link) → AllOpened links
    → link_at (changed change links number) other ≡ Some link → (found : Option Link) → link_at links number ≡ found
    → (other ≡ number) ⊎ (other ≢ number) → link.state ≢ Never
opened-at change keeps links number other link all h None f s = all other link (sym (ap (λ l. link_at l other) (changed-none change links number f)) ∙ h)
opened-at change keeps links number other link all h (Some old) f (inl e) =
    let same = same_Some _ _ (sym (changed-there change links number old f) ∙ ap (link_at (changed change links number)) (sym e) ∙ h) in
    λ never. keeps old (all number old f) (ap (λ (l : Link). l.state) same ∙ never)
opened-at change keeps links number other link all h (Some old) f (inr n) = all other link (sym (changed-apart change links number other n) ∙ h)

-- links of which one changes so stay opened
pub changed-opened : (change : Link → Link) → KeepsOpened change → (links : List Link) (number : ℕ) → AllOpened links → AllOpened (changed change links number)
changed-opened change keeps links number all other link h =
    opened-at change keeps links number other link all h (link_at links number) refl (cases_eq other number)

closed-opened : (state : LinkState) (pending : List (List ℕ)) → state ≢ Never → (closed_link state pending).state ≢ Never
closed-opened state [] n = λ e. cc
closed-opened state (message ∷ pending) n = n

either-opened : (b : Bool) (one other : Link) → one.state ≢ Never → other.state ≢ Never → (if b then one else other).state ≢ Never
either-opened true one other m n = m
either-opened false one other m n = n

pub sent-opened : (message : List ℕ) → KeepsOpened (sent message)
sent-opened message link n =
    either-opened (is_open link.state) (with_message message link) link
    (either-opened _ (record link { pending = link.pending ++ message ∷ [] }) (closed_link Overrun link.pending) n (closed-opened Overrun link.pending (λ e. cc))) n

pub ended-opened : KeepsOpened ended
ended-opened link n = either-opened (is_open link.state) (closed_link Ended link.pending) link (closed-opened Ended link.pending (λ e. cc)) n

pub lost-opened : KeepsOpened lost
lost-opened link n = λ e. cc

pub taken-opened : KeepsOpened taken
taken-opened link n =
    either-opened (is_open link.state) (record { state = link.state; pending = drop 1 link.pending }) (closed_link link.state (drop 1 link.pending)) n
    (closed-opened link.state (drop 1 link.pending) n)

-- links of which the next one opened stay opened
pub opens-opened : (links : List Link) → AllOpened links → AllOpened (links ++ new_link ∷ [])
opens-opened links all zero link h = cc
opens-opened links all (suc place) link h =
    ⊎_elim (λ old. all (suc place) link (link_at-place links place ∙ old)) (λ (e : link ≡ new_link) never. cc)
    (push_there links place new_link link (sym (link_at-place (links ++ new_link ∷ []) place) ∙ h))
