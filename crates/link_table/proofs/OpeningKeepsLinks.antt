-- The links with one more at the end: those that were there stay.
use Rattle.std.proofs.Common.{◌≡◌, ℕ, zero, suc, ◌+◌, ◌<◌, ◌≤◌, List, [], ◌∷◌, ◌++◌, length, Some, slice_get, refl, sym, ap, ◌∙◌, arith, add-one}
use Rattle.link_table.specs.Links.{Link, new_link, link_at, state_of, state_or_never, pending_of, pending_or_none}
use Rattle.link_table.specs.declared.state.LinkState.TheVariants.{Open}
use Rattle.link_table.proofs.OtherLinksStay.{link_at-suc}

module _ {A : Type 0} where
  slice_get-push : (xs : List A) (place : ℕ) (x : A) → place < length xs → slice_get (xs ++ x ∷ []) place ≡ slice_get xs place
  slice_get-push [] place x within = absurd (omega arith)
  slice_get-push (z ∷ zs) zero x within = refl
  slice_get-push (z ∷ zs) (suc place) x within = slice_get-push zs place x (omega arith)

  slice_get-last : (xs : List A) (x : A) → slice_get (xs ++ x ∷ []) (length xs) ≡ Some x
  slice_get-last [] x = refl
  slice_get-last (z ∷ zs) x = slice_get-last zs x

module _ (links : List Link) where
  -- the links that were there stay
  pub link_at-opened : (number : ℕ) → number ≤ length links → link_at (links ++ new_link ∷ []) number ≡ link_at links number
  link_at-opened zero within = refl
  link_at-opened (suc place) within = link_at-suc (links ++ new_link ∷ []) place ∙ slice_get-push links place new_link (omega arith) ∙ sym (link_at-suc links place)

  -- and so do their states
  pub state_of-opened : (number : ℕ) → number ≤ length links → state_of (links ++ new_link ∷ []) number ≡ state_of links number
  state_of-opened number within = ap state_or_never (link_at-opened number within)

  -- and what waits on them
  pub pending_of-opened : (number : ℕ) → number ≤ length links → pending_of (links ++ new_link ∷ []) number ≡ pending_of links number
  pending_of-opened number within = ap pending_or_none (link_at-opened number within)

  -- the next number is that of the link that opened
  pub link_at-newest : link_at (links ++ new_link ∷ []) (length links + 1) ≡ Some new_link
  link_at-newest = rw add-one (link_at-suc (links ++ new_link ∷ []) (length links) ∙ slice_get-last links new_link)

  pub state_of-newest : state_of (links ++ new_link ∷ []) (length links + 1) ≡ Open
  state_of-newest = ap state_or_never link_at-newest
