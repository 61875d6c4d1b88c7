-- Changes of lists of distinct rows: the rows that are added, and those that are obsolete.
use Rattle.std.specs.Prelude.{◌≡◌, ◌⊎◌, ◌+◌, ◌≤◌, List, [], ◌∷◌, length, Contains, refl}
use Rattle.std.proofs.Common.{inl, lit<, lit≤}
use Rattle.sparql_algebra.specs.declared.mapping.Binding.{Binding}
use Rattle.sparql_algebra.specs.RowSets.{AreExactly}
use Rattle.sparql_algebra.specs.Solutions.{RowList}
use Rattle.delta_eval.specs.declared.changed.Changed.{Changed}

-- items of three lists are related place by place, and the lists are as long
abbrev pub AllInThrees : {X Y Z : Type 0} → (X → Y → Z → Type 0) → List X → List Y → List Z → Type 0
AllInThrees R [] ys zs = (ys ≡ []) × (zs ≡ [])
AllInThrees R (x ∷ xs) [] zs = ⊥
AllInThrees R (x ∷ xs) (y ∷ ys) [] = ⊥
AllInThrees R (x ∷ xs) (y ∷ ys) (z ∷ zs) = R x y z × AllInThrees R xs ys zs

-- a row is of the one list and not of the other
abbrev pub IsOfOnly : List (List Binding) → List (List Binding) → List Binding → Type 0
IsOfOnly rows others row = Contains rows row × (Contains others row → ⊥)

-- a row is there after a change: it is added, or it was there and is not obsolete
abbrev pub IsThereAfter : List (List Binding) → Changed → List Binding → Type 0
IsThereAfter old change row = Contains change.added.rows row ⊎ IsOfOnly old change.obsolete.rows row

-- a change leads from some rows to others: these are exactly those that are there after it
abbrev pub LeadsTo : RowList → Changed → RowList → Type 0
LeadsTo old change new = AreExactly (IsThereAfter old.rows change) new.rows

-- a change is one of some rows: what is obsolete is there, and what is added is not
pub record IsChangeOf (old : RowList) (change : Changed) : Type 0 where
  pub obsolete_there : (row : List Binding) → Contains change.obsolete.rows row → Contains old.rows row
  pub added_new : (row : List Binding) → Contains change.added.rows row → Contains old.rows row → ⊥

-- a change is the difference of two lists: it adds what is of the new one only, and what is of the old one only is obsolete
pub record IsDifference (old : RowList) (change : Changed) (new : RowList) : Type 0 where
  pub added : AreExactly (IsOfOnly new.rows old.rows) change.added.rows
  pub obsolete : AreExactly (IsOfOnly old.rows new.rows) change.obsolete.rows

-- a list has room for a change: what is added takes no memory
abbrev pub HasRoomFor : RowList → Changed → Type 0
HasRoomFor list change = length change.added.rows ≤ list.room

-- a list has the same rows as before
abbrev pub HasSameRows : RowList → RowList → Type 0
HasSameRows old new = new.rows ≡ old.rows

-- 1 and 3 make 4, and 2 and 4 make 6
example_threes : AllInThrees (λ x y z. x + y ≡ z) (1 ∷ 2 ∷ []) (3 ∷ 4 ∷ []) (4 ∷ 6 ∷ [])
example_threes = (refl, (refl, (refl, refl)))

-- the empty row is added to a list that has room for one row
abbrev one_added : Changed
one_added = record { added = record { rows = [] ∷ []; room = 0 }; obsolete = record { rows = []; room = 0 } }

example_room : HasRoomFor (record { rows = []; room = 1 }) one_added
example_room = lit≤ tt

-- it is there after the change
example_added : IsThereAfter [] one_added []
example_added = inl (0, lit< tt, refl)
