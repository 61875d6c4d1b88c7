-- The rule of a turn: what holds between any two steps. Word 0 is twice the length of the history, and one more while a seat holds the turn. Slot 0 has the machine.
use Rattle.std.specs.Prelude.{◌≡◌, ◌≢◌, ◌⊎◌, ℕ, suc, ◌+◌, ◌*◌, ◌<◌, ◌≤◌, true, false, List, [], ◌∷◌, length, Option, Some}
use mathlib.Core.Option.{some}
use mathlib.Core.List.{IsPrefix}
use lib.ListN.{get_elem?}
use Rattle.atomic_table.specs.Table.{State}
use Rattle.space_turn.specs.declared.view.Entry.{Entry}
use Rattle.space_turn.specs.declared.view.View.{View}
use Rattle.space_turn.specs.Histories.{calls_of, calls_by}

module _ {C X : Type 0} where
  -- the numbers that a seat owns: its own is the first, and it gives the others to the seats that are split from it
  abbrev pub owned : View C X → ℕ → ℕ
  owned v k = v.number + k * v.stride

  -- a seat's own calls are those of its number in what it has seen, and a number that it has not given yet has none there
  abbrev pub KnowsItsCalls : View C X → Type 0
  KnowsItsCalls v =
      (v.mine ≡ calls_by v.number v.seen)
      × ((k : ℕ) → calls_by (owned v (suc k)) v.seen ≡ [])
      × (0 < v.stride)

  -- What a seat knows is true of the history: what it has seen is a beginning of it, its own calls are all that its number has there, and a number that it has not given yet has none.
  pub record Fits (root : X) (history : List (Entry C)) (v : View C X) : Type 0 where
    pub of_root : v.root ≡ root
    pub begins : IsPrefix v.seen history
    pub told_begins : IsPrefix v.told history
    pub found_within : v.found ≤ 2 * length history + 1
    pub own_seen : v.mine ≡ calls_by v.number v.seen
    pub own_all : v.mine ≡ calls_by v.number history
    pub not_given : (k : ℕ) → calls_by (owned v (suc k)) history ≡ []
    pub strides : 0 < v.stride
    pub met_another : v.met ≢ v.number

  -- the seat at this place has this view
  abbrev pub At : List (View C X) → ℕ → View C X → Type 0
  At views place v = get_elem? views place ≡ some v

  -- each seat that is not spent fits the history
  abbrev pub EachFits : X → List (Entry C) → List (View C X) → Type 0
  EachFits root history views = (place : ℕ) (v : View C X) → At views place v → v.live ≡ true → Fits root history v

  -- no two seats own the same number
  abbrev pub AreApart : List (View C X) → Type 0
  AreApart views =
      (i j : ℕ) (v w : View C X) → i ≢ j → At views i v → At views j w → v.live ≡ true → w.live ≡ true → (a b : ℕ) → owned v a ≢ owned w b

  -- no seat holds the turn
  abbrev pub NoneHolds : List (View C X) → Type 0
  NoneHolds views = (place : ℕ) (v : View C X) → At views place v → v.holds ≡ false

  -- one seat holds the turn, and keeps the history
  abbrev pub OneHolds : List (Entry C) → List (View C X) → Type 0
  OneHolds history views =
      (holder : ℕ) × (v : View C X)
      × At views holder v
      × (v.holds ≡ true)
      × (v.kept ≡ history)
      × ((place : ℕ) (w : View C X) → At views place w → w.holds ≡ true → place ≡ holder)

module _ {M C X : Type 0} (stands : M → List C → Type 0) (root_of : M → X) (root : X) where
  -- the machine lies in the slot and stands for the history, and the word is even
  abbrev pub IsHome : List (Entry C) → State (Option M) (View C X) → Type 0
  IsHome history s =
      (s.words ≡ (2 * length history) ∷ [])
      × NoneHolds s.views
      × (machine : M)
      × (get_elem? s.homes 0 ≡ some (some (Some machine)))
      × stands machine (calls_of history)
      × (root_of machine ≡ root)

  -- the machine is out with the seat that holds the turn, and the word is odd
  abbrev pub IsOut : List (Entry C) → State (Option M) (View C X) → Type 0
  IsOut history s = (s.words ≡ (2 * length history + 1) ∷ []) × OneHolds history s.views

  pub record Kept (s : State (Option M) (View C X)) : Type 0 where
    pub history : List (Entry C)
    pub fits : EachFits root history s.views
    pub apart : AreApart s.views
    pub within : length history ≤ 4611686018427387904
    pub turn : IsHome history s ⊎ IsOut history s
