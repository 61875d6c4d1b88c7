-- Lists in order, and what is among them.
use Rattle.std.specs.Prelude.{◌≡◌, Bool, true, not, List, [], ◌∷◌, filter, refl}
use Rattle.std.specs.List.{list_any}
use Rattle.std.specs.List.Sorted.{IsPermutation, IsStrictlySortedBy}
use Rattle.std.specs.Ordering.{eq_by_cmp, nat_cmp}
use Rattle.std.specs.declared.cmp.Ordering.{Ordering}
use Rattle.m3_terms.specs.Inserted.{inserted}

-- the second list has the items of the first in their order, and no item twice
pub record IsOrdered {X : Type 0} (cmp : X → X → Ordering) (given ordered : List X) : Type 0 where
  pub same : IsPermutation given ordered
  pub rises : IsStrictlySortedBy cmp ordered

-- whether an item is among others
abbrev pub is_among : {X : Type 0} → (X → X → Ordering) → List X → X → Bool
is_among cmp others item = list_any (eq_by_cmp cmp item) others

-- the items that are not among others
abbrev pub without : {X : Type 0} → (X → X → Ordering) → List X → List X → List X
without cmp items others = filter (λ item. not (is_among cmp others item)) items

-- items in order with more of them put in their places, one after another
abbrev pub with_all : {X : Type 0} → (X → X → Ordering) → List X → List X → List X
with_all cmp items [] = items
with_all cmp items (item ∷ more) = with_all cmp (inserted cmp item items) more

-- 2 is among 1 and 2
example_among : is_among nat_cmp (1 ∷ 2 ∷ []) 2 ≡ true
example_among = refl

-- of 1, 2 and 3, those that are not among 2 and 4 are 1 and 3
example_without : without nat_cmp (1 ∷ 2 ∷ 3 ∷ []) (2 ∷ 4 ∷ []) ≡ 1 ∷ 3 ∷ []
example_without = refl

-- 1 and 3 with 3 and 2 put in their places are 1, 2 and 3, since 3 is there already
example_with_all : with_all nat_cmp (1 ∷ 3 ∷ []) (3 ∷ 2 ∷ []) ≡ 1 ∷ 2 ∷ 3 ∷ []
example_with_all = refl
