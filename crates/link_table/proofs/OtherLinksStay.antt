-- A change of one link leaves the others, and how many there are.
use Rattle.std.proofs.Common.{◌≡◌, ◌≢◌, ℕ, zero, suc, ◌-◌, List, [], ◌∷◌, length, set, Option, Some, None, option_map, slice_get, nat_le, true, refl, sym, ap, ◌∙◌, arith}
use Rattle.std.proofs.lemmas.Bool.{le-leb}
use Rattle.std.proofs.lemmas.List.{length-set}
use Rattle.link_table.specs.Links.{Link, link_at, changed, changed_at, state_of, state_or_never, pending_of, pending_or_none}

module _ {A : Type 0} where
  -- an element that is set is there
  slice_get-set_same : (xs : List A) (place : ℕ) (x y : A) → slice_get xs place ≡ Some y → slice_get (set xs place x) place ≡ Some x
  slice_get-set_same [] place x y there = absurd (cc)
  slice_get-set_same (z ∷ zs) zero x y there = refl
  slice_get-set_same (z ∷ zs) (suc place) x y there = slice_get-set_same zs place x y there

  -- and the others stay
  slice_get-set_other : (xs : List A) (place other : ℕ) (x : A) → other ≢ place → slice_get (set xs place x) other ≡ slice_get xs other
  slice_get-set_other [] place other x differs = refl
  slice_get-set_other (z ∷ zs) zero zero x differs = absurd (differs refl)
  slice_get-set_other (z ∷ zs) zero (suc other) x differs = refl
  slice_get-set_other (z ∷ zs) (suc place) zero x differs = refl
  slice_get-set_other (z ∷ zs) (suc place) (suc other) x differs = slice_get-set_other zs place other x (λ same. differs (ap suc same))

-- links are counted from 1
pub link_at-suc : (links : List Link) (place : ℕ) → link_at links (suc place) ≡ slice_get links place
link_at-suc links place =
    let back : suc place - 1 ≡ place = omega arith in
    let positive : nat_le 1 (suc place) ≡ true = le-leb 1 (suc place) (omega arith) in
    rw (back, positive) refl

set-suc : (links : List Link) (place : ℕ) (link : Link) → set links (suc place - 1) link ≡ set links place link
set-suc links place link = ap (λ at. set links at link) (omega arith)

module _ (change : Link → Link) (links : List Link) where
  here : (number : ℕ) (found : Option Link) → link_at links number ≡ found → link_at (changed_at change links number found) number ≡ option_map change found
  here number None is = is
  here zero (Some link) is = absurd (cc)
  here (suc place) (Some link) is =
      let there = slice_get-set_same links place (change link) link (sym (link_at-suc links place) ∙ is) in
      ap (λ l. link_at l (suc place)) (set-suc links place (change link)) ∙ link_at-suc (set links place (change link)) place ∙ there

  -- the link of the number is the one that the change makes of it
  pub link_at-changed : (number : ℕ) → link_at (changed change links number) number ≡ option_map change (link_at links number)
  link_at-changed number = here number (link_at links number) refl

  elsewhere : (number other : ℕ) (found : Option Link) → link_at links number ≡ found → other ≢ number → link_at (changed_at change links number found) other ≡ link_at links other
  elsewhere number other None is differs = refl
  elsewhere zero other (Some link) is differs = absurd (cc)
  elsewhere (suc place) zero (Some link) is differs = refl
  elsewhere (suc place) (suc other) (Some link) is differs =
      let stays = slice_get-set_other links place other (change link) (λ same. differs (ap suc same)) in
      ap (λ l. link_at l (suc other)) (set-suc links place (change link))
      ∙ link_at-suc (set links place (change link)) other ∙ stays ∙ sym (link_at-suc links other)

  -- the other links stay
  pub link_at-others : (number other : ℕ) → other ≢ number → link_at (changed change links number) other ≡ link_at links other
  link_at-others number other differs = elsewhere number other (link_at links number) refl differs

  -- and so do their states
  pub state_of-others : (number other : ℕ) → other ≢ number → state_of (changed change links number) other ≡ state_of links other
  state_of-others number other differs = ap state_or_never (link_at-others number other differs)

  -- and what waits on them
  pub pending_of-others : (number other : ℕ) → other ≢ number → pending_of (changed change links number) other ≡ pending_of links other
  pending_of-others number other differs = ap pending_or_none (link_at-others number other differs)

  as_many : (number : ℕ) (found : Option Link) → length (changed_at change links number found) ≡ length links
  as_many number None = refl
  as_many number (Some link) = length-set links (number - 1) (change link)

  -- there are as many links as before
  pub length-changed : (number : ℕ) → length (changed change links number) ≡ length links
  length-changed number = as_many number (link_at links number)
