-- What is in the values that a function gives of items.
use Rattle.std.proofs.Common.{◌≡◌, ◌∙◌, inl, inr, List, [], ◌∷◌, Contains, filter_map, Option, None, Some, refl, ap, subst}
use Rattle.std.proofs.lemmas.Option.{none-some, same_Some}
use Rattle.std.specs.List.{cons_option}
use Rattle.m3_terms.specs.InsertedLaws.{cons_cases, head_in, tail_in}
use Rattle.triple_index.specs.GraphLaws.{none_in}

module _ {X Y : Type 0} (give : X → Option Y) where
  given_by_at : (x : X) (xs : List X) (y : Y) (o : Option Y) → give x ≡ o → (Contains (filter_map give xs) y → (z : X) × Contains xs z × (give z ≡ Some y))
      → Contains (cons_option o (filter_map give xs)) y → (z : X) × Contains (x ∷ xs) z × (give z ≡ Some y)
  given_by_at x xs y None e later c = let found = later c in (found.0, tail_in x xs found.0 found.1, found.2)
  given_by_at x xs y (Some first) e later c = elim (cons_cases first (filter_map give xs) y c) [
    | inl same ↦ (x, head_in x xs, e ∙ ap Some same)
    | inr rest ↦ let found = later rest in (found.0, tail_in x xs found.0 found.1, found.2)
  ]

  -- each value is given by some item
  pub given_by : (xs : List X) (y : Y) → Contains (filter_map give xs) y → (z : X) × Contains xs z × (give z ≡ Some y)
  given_by [] y c = absurd (none_in y c)
  given_by (x ∷ xs) y c = given_by_at x xs y (give x) refl (given_by xs y) c

  behind_option : (o : Option Y) (ys : List Y) (y : Y) → Contains ys y → Contains (cons_option o ys) y
  behind_option None ys y c = c
  behind_option (Some first) ys y c = tail_in first ys y c

  first_option : (o : Option Y) (ys : List Y) (y : Y) → o ≡ Some y → Contains (cons_option o ys) y
  first_option None ys y e = absurd (none-some y e)
  first_option (Some first) ys y e = subst (λ z. Contains (first ∷ ys) z) (same_Some first y e) (head_in first ys)

  -- what an item gives is among the values
  pub given_in : (xs : List X) (z : X) (y : Y) → Contains xs z → give z ≡ Some y → Contains (filter_map give xs) y
  given_in [] z y c e = absurd (none_in z c)
  given_in (x ∷ xs) z y c e = elim (cons_cases x xs z c) [
    | inl same ↦ first_option (give x) (filter_map give xs) y (ap give same ∙ e)
    | inr rest ↦ behind_option (give x) (filter_map give xs) y (given_in xs z y rest e)
  ]
