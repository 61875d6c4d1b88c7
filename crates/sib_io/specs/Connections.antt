-- Items that are taken from the front of a list, or added to its end, where the list is told.
use Rattle.std.specs.Prelude.{◌≡◌, ℕ, List, [], ◌∷◌, ◌++◌, ⊤, Option, Some, None, Result, Ok, Err, refl}

-- a told list begins with these items, and loses them
abbrev pub Took : {A : Type 0} → Option (List A) → Option (List A) → List A → Type 0
Took None new items = ⊤
Took (Some xs) None items = ⊥
Took (Some xs) (Some ys) items = xs ≡ items ++ ys

-- a told list grows by these items, at its end
abbrev pub Added : {A : Type 0} → Option (List A) → Option (List A) → List A → Type 0
Added None new items = ⊤
Added (Some xs) None items = ⊥
Added (Some xs) (Some ys) items = ys ≡ xs ++ items

-- a told list is empty
abbrev pub NoneWaits : {A : Type 0} → Option (List A) → Type 0
NoneWaits None = ⊤
NoneWaits (Some xs) = xs ≡ []

-- a call takes the first item and gives it, or gives none where the list is empty before and after; where it fails, it takes none
abbrev pub GivesNext : {A E : Type 0} → Option (List A) → Option (List A) → Result (Option A) E → Type 0
GivesNext old new (Ok (Some item)) = Took old new (item ∷ [])
GivesNext old new (Ok None) = NoneWaits old × Took old new []
GivesNext old new (Err fault) = Took old new []

-- a call adds the job to those that were begun, or none where it fails
abbrev pub Begins : {J T E : Type 0} → Option (List J) → Option (List J) → J → Result T E → Type 0
Begins old new job (Ok done) = Added old new (job ∷ [])
Begins old new job (Err fault) = Added old new []

-- two of three items were taken
two_taken : Took {A = ℕ} (Some (1 ∷ 2 ∷ 3 ∷ [])) (Some (3 ∷ [])) (1 ∷ 2 ∷ [])
two_taken = refl

-- two items were added behind one
two_added : Added {A = ℕ} (Some (1 ∷ [])) (Some (1 ∷ 2 ∷ 3 ∷ [])) (2 ∷ 3 ∷ [])
two_added = refl

-- of two items the first is given
first_given : GivesNext {A = ℕ} {E = ℕ} (Some (1 ∷ 2 ∷ [])) (Some (2 ∷ [])) (Ok (Some 1))
first_given = refl

-- a job is begun behind another
one_begun : Begins {J = ℕ} {T = ℕ} {E = ℕ} (Some (1 ∷ [])) (Some (1 ∷ 2 ∷ [])) 2 (Ok 0)
one_begun = refl
