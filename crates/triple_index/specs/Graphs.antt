-- Graphs: items in an order, each once, and what an update makes of them. The items, their order and what a pattern
-- fits are left open, so that graphs of terms and graphs of numbers share these words.
use Rattle.std.specs.Prelude.{◌≡◌, ℕ, Bool, not, List, [], ◌∷◌, length, filter, nat_eq, sum_by, refl}
use Rattle.std.specs.List.{list_any}
use Rattle.std.specs.Ordering.{nat_cmp}
use Rattle.std.specs.declared.cmp.Ordering.{Ordering}
use Rattle.m3_terms.specs.Inserted.{inserted}

-- an item fits one of these patterns
abbrev pub fits_one : {P K : Type 0} → (P → K → Bool) → List P → K → Bool
fits_one fits patterns item = list_any (λ pattern. fits pattern item) patterns

-- the items that fit no pattern
abbrev pub without : {P K : Type 0} → (P → K → Bool) → List K → List P → List K
without fits graph patterns = filter (λ item. not (fits_one fits patterns item)) graph

-- a graph with items put in their places, one after another
abbrev pub with_all : {K : Type 0} → (K → K → Ordering) → List K → List K → List K
with_all cmp graph [] = graph
with_all cmp graph (item ∷ items) = with_all cmp (inserted cmp item graph) items

-- the graph after an update: what fits a pattern of `remove` is gone, and then what is in `insert` is there
abbrev pub after : {P K : Type 0} → (K → K → Ordering) → (P → K → Bool) → List K → List P → List K → List K
after cmp fits graph remove insert = with_all cmp (without fits graph remove) insert

-- how many items fit, summed over patterns
abbrev pub count_fitting : {P K : Type 0} → (P → K → Bool) → List K → List P → ℕ
count_fitting fits graph patterns = sum_by (λ pattern. length (filter (fits pattern) graph)) patterns

-- 2 is removed, and 0 and 4 are inserted, of which 4 is there
example_after : after nat_cmp nat_eq (1 ∷ 2 ∷ 4 ∷ []) (2 ∷ []) (4 ∷ 0 ∷ []) ≡ 0 ∷ 1 ∷ 4 ∷ []
example_after = refl

-- what is both removed and inserted is there
example_both : after nat_cmp nat_eq (1 ∷ 2 ∷ []) (2 ∷ []) (2 ∷ []) ≡ 1 ∷ 2 ∷ []
example_both = refl
