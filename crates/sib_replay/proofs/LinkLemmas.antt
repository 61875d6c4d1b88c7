-- What a change of one link does to the links of a space.
use Rattle.std.proofs.Common.{◌≡◌, ◌≢◌, ◌∙◌, ap, sym, refl, arith, ℕ, zero, suc, ◌+◌, ◌-◌, ◌<◌, ◌≤◌, true, false, cond, List, [], ◌∷◌, ◌++◌, length, set, Option, Some, None, inl, inr}
use Rattle.std.specs.List.{slice_get}
use Rattle.std.proofs.lemmas.Bool.{le-leb}
use Rattle.std.proofs.lemmas.Bool.Decides.{leb_tells}
use Rattle.std.proofs.lemmas.List.{length-set}
use Rattle.std.proofs.lemmas.Option.{slice_get_within}
use Rattle.link_table.specs.Links.{Link, new_link, link_at, changed, changed_at}
use Rattle.session_core.specs.Rings.{is_rung, ring_from}
use Rattle.sib_replay.specs.Session.{AreRising}

-- nothing is something
pub none_some : {A : Type 0} (a : A) → ◌≡◌ {A = Option A} None (Some a) → ⊥
none_some a e = cc

-- what is some is one thing
pub some_same : {A : Type 0} (a b : A) → ◌≡◌ {A = Option A} (Some a) (Some b) → a ≡ b
some_same a b e = cc

-- the item that was set
get_set_same : {A : Type 0} (xs : List A) (i : ℕ) (x y : A) → slice_get xs i ≡ Some y → slice_get (set xs i x) i ≡ Some x
get_set_same [] i x y h = absurd (none_some y h)
get_set_same (z ∷ xs) zero x y h = refl
get_set_same (z ∷ xs) (suc i) x y h = get_set_same xs i x y h

-- and the others
get_set_other : {A : Type 0} (xs : List A) (i j : ℕ) (x : A) → i ≢ j → slice_get (set xs i x) j ≡ slice_get xs j
get_set_other [] i j x h = refl
get_set_other (z ∷ xs) zero zero x h = absurd (h refl)
get_set_other (z ∷ xs) zero (suc j) x h = refl
get_set_other (z ∷ xs) (suc i) zero x h = refl
get_set_other (z ∷ xs) (suc i) (suc j) x h = get_set_other xs i j x (λ e. h (ap suc e))

-- the last of some items, and those before it
get_push_last : {A : Type 0} (xs : List A) (x : A) → slice_get (xs ++ x ∷ []) (length xs) ≡ Some x
get_push_last [] x = refl
get_push_last (z ∷ xs) x = get_push_last xs x

get_push_other : {A : Type 0} (xs : List A) (x : A) (i : ℕ) → i ≢ length xs → slice_get (xs ++ x ∷ []) i ≡ slice_get xs i
get_push_other [] x zero h = absurd (h refl)
get_push_other [] x (suc i) h = refl
get_push_other (z ∷ xs) x zero h = refl
get_push_other (z ∷ xs) x (suc i) h = get_push_other xs x i (λ e. h (ap suc e))

-- links are counted from 1
pub at_some : (links : List Link) (n : ℕ) → 1 ≤ n → link_at links n ≡ slice_get links (n - 1)
at_some links n h = ap (λ b. cond b (slice_get links (n - 1)) None) (le-leb 1 n h)

pub at_none : (links : List Link) (n : ℕ) → n < 1 → link_at links n ≡ None
at_none links n h = elim (leb_tells 1 n) as (λ _. link_at links n ≡ None) [
  | inl told ↦ absurd (omega (arith, told.1, h))
  | inr off ↦ ap (λ b. cond b (slice_get links (n - 1)) None) off.0
]

-- a number that is counted or not
numbered : (P : Type 0) (n : ℕ) → (1 ≤ n → P) → (n < 1 → P) → P
numbered P n f g = elim (leb_tells 1 n) as (λ _. P) [ inl told ↦ f told.1 | inr off ↦ g (omega (arith, off.1)) ]

-- a link that there is has a number
pub some_at : (links : List Link) (n : ℕ) (l : Link) → link_at links n ≡ Some l → (1 ≤ n) × (slice_get links (n - 1) ≡ Some l)
some_at links n l h = numbered ((1 ≤ n) × (slice_get links (n - 1) ≡ Some l)) n
    (λ one. (one, sym (at_some links n one) ∙ h)) (λ low. absurd (none_some l (sym (at_none links n low) ∙ h)))

-- a link that there is isn't above the last
pub some_within : (links : List Link) (n : ℕ) (l : Link) → link_at links n ≡ Some l → n ≤ length links
some_within links n l h = let (one, get) = some_at links n l h in let below = slice_get_within links (n - 1) l get in omega (arith, one, below)

-- a link is there or not
pub link_or_none : (P : Type 0) (links : List Link) (n : ℕ) → (link_at links n ≡ None → P) → ((l : Link) → link_at links n ≡ Some l → P) → P
link_or_none P links n f g = elim (link_at links n) as (λ o. (o ≡ None → P) → ((l : Link) → o ≡ Some l → P) → P) [ None ↦ λ x y. x refl | Some l ↦ λ x y. y l refl ] f g

module _ (f : Link → Link) (links : List Link) (n : ℕ) where
  pub changed_is : (l : Link) → link_at links n ≡ Some l → changed f links n ≡ set links (n - 1) (f l)
  changed_is l h = ap (changed_at f links n) h

  pub changed_none : link_at links n ≡ None → changed f links n ≡ links
  changed_none h = ap (changed_at f links n) h

  -- the link that changed
  pub at_changed : (l : Link) → link_at links n ≡ Some l → link_at (changed f links n) n ≡ Some (f l)
  at_changed l h =
      let (one, get) = some_at links n l h in
      ap (λ ls. link_at ls n) (changed_is l h) ∙ at_some (set links (n - 1) (f l)) n one ∙ get_set_same links (n - 1) (f l) l get

  -- the others
  pub at_unchanged : (m : ℕ) → n ≢ m → link_at (changed f links n) m ≡ link_at links m
  at_unchanged m h = link_or_none (link_at (changed f links n) m ≡ link_at links m) links n
      (λ none. ap (λ ls. link_at ls m) (changed_none none))
      (λ l some.
      let (one, get) = some_at links n l some in
      ap (λ ls. link_at ls m) (changed_is l some)
      ∙ numbered (link_at (set links (n - 1) (f l)) m ≡ link_at links m) m
      (λ also. at_some (set links (n - 1) (f l)) m also ∙ get_set_other links (n - 1) (m - 1) (f l) (λ e. h (omega (arith, e, one, also))) ∙ sym (at_some links m also))
      (λ low. at_none (set links (n - 1) (f l)) m low ∙ sym (at_none links m low)))

  -- as many as there were
  pub length_changed : length (changed f links n) ≡ length links
  length_changed = link_or_none (length (changed f links n) ≡ length links) links n (λ none. ap length (changed_none none))
      (λ l some. ap length (changed_is l some) ∙ length-set links (n - 1) (f l))

-- a link more
pub at_opened : (links : List Link) → link_at (links ++ new_link ∷ []) (length links + 1) ≡ Some new_link
at_opened links =
    at_some (links ++ new_link ∷ []) (length links + 1) (omega arith)
    ∙ ap (slice_get (links ++ new_link ∷ [])) (omega arith) ∙ get_push_last links new_link

pub at_before : (links : List Link) (n : ℕ) → n ≢ length links + 1 → link_at (links ++ new_link ∷ []) n ≡ link_at links n
at_before links n h = numbered (link_at (links ++ new_link ∷ []) n ≡ link_at links n) n
    (λ one. at_some (links ++ new_link ∷ []) n one ∙ get_push_other links new_link (n - 1) (λ e. h (omega (arith, e, one))) ∙ sym (at_some links n one))
    (λ low. at_none (links ++ new_link ∷ []) n low ∙ sym (at_none links n low))

-- numbers that rise from one on rise from a lower one
pub rising_from : (m n : ℕ) (numbers : List ℕ) → m ≤ n → AreRising n numbers → AreRising m numbers
rising_from m n [] h r = tt
rising_from m n (x ∷ numbers) h r = (omega (arith, h, r.0), r.1)

-- the links that are told rise
pub ring_rises : (n : ℕ) (before after : List Link) → AreRising n (ring_from n before after)
ring_rises n [] after = tt
ring_rises n (one ∷ before) [] = tt
ring_rises n (one ∷ before) (other ∷ after) =
    elim (is_rung one other) as (λ b. AreRising n (cond b (n ∷ []) [] ++ ring_from (n + 1) before after)) [
      | true ↦ (omega arith, ring_rises (n + 1) before after)
      | false ↦ rising_from n (n + 1) (ring_from (n + 1) before after) (omega arith) (ring_rises (n + 1) before after)
    ]
