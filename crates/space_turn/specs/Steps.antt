-- What each step makes of the seat that takes it, and what it tells.
use Rattle.std.specs.Prelude.{◌≡◌, ◌≢◌, ℕ, ◌+◌, ◌*◌, ◌%◌, ◌<◌, ◌≤◌, true, false, List, [], ◌∷◌, ◌++◌, length, Option, Some, IfSome, Result, MatchResult}
use mathlib.Core.List.{IsPrefix}
use Rattle.atomic_table.specs.Table.{Me}
use Rattle.space_turn.specs.declared.view.Entry.{Entry}
use Rattle.space_turn.specs.declared.view.View.{View}
use Rattle.space_turn.specs.Histories.{entry, calls_of, longer}
use Rattle.space_turn.specs.Rule.{KnowsItsCalls}

module _ {C X : Type 0} where
  -- the first seat of a turn has number 0 and owns all numbers
  abbrev pub newcomer : X → View C X
  newcomer root = record { live = true; root = root; number = 0; stride = 1; seen = []; mine = []; found = 0; looks = 0; holds = false; kept = []; told = []; met = 1 }

  -- a seat that was joined to another
  abbrev pub spent_seat : X → View C X
  spent_seat root = record { live = false; root = root; number = 0; stride = 1; seen = []; mine = []; found = 0; looks = 0; holds = false; kept = []; told = []; met = 1 }

  -- a look found this word
  abbrev pub looked : View C X → ℕ → View C X
  looked v word = record v { found = word; looks = v.looks + 1 }

  -- the seat holds the turn, and keeps the history
  abbrev pub holding : View C X → List (Entry C) → View C X
  holding v history = record v { holds = true; kept = history }

  -- the call stands in the history, and the seat has seen it
  abbrev pub added : View C X → C → View C X
  added v call = record v { seen = v.kept ++ entry v.number call ∷ []; mine = v.mine ++ call ∷ []; holds = false }

  -- the turn was given back, and no call was added
  abbrev pub released : View C X → View C X
  released v = record v { holds = false }

  -- a seat after a split: it owns every other number of those that it owned
  abbrev pub parted : View C X → View C X
  parted v = record v { stride = v.stride + v.stride }

  -- the new seat of a split: it has seen as much, made no call, and owns the numbers between
  abbrev pub split_from : View C X → ℕ → View C X
  split_from v number = record v { number = number; stride = v.stride + v.stride; mine = []; found = 0; looks = 0; told = []; met = v.number }

  -- the seat is told what another has seen, and its number
  abbrev pub meeting : View C X → List (Entry C) → ℕ → View C X
  meeting v told met = record v { told = told; met = met }

  -- the seat has seen the longer of the two histories
  abbrev pub joined : View C X → View C X
  joined v = record v { seen = longer v.seen v.told }

  -- the seat is as it was, but for so many looks, and holds the turn
  abbrev pub HasWaited : View C X → View C X → Type 0
  HasWaited v w = (w ≡ record v { found = w.found; looks = w.looks; holds = true; kept = w.kept }) × (v.looks < w.looks)

module _ {M C X : Type 0} where
  -- the seat holds nothing
  abbrev pub IsIdle : Me (Option M) (View C X) → Type 0
  IsIdle me = (me.1 ≡ []) × (me.0.live ≡ true) × (me.0.holds ≡ false)

  -- a load: the word is known, and the history is at least as long as what was seen
  abbrev pub Looks : Me (Option M) (View C X) → ℕ → Me (Option M) (View C X) → Type 0
  Looks me word after = (after ≡ (looked me.0 word, me.1)) × (2 * length me.0.seen ≤ word)

  -- the seat holds the turn and the machine, which stands for the history that the seat keeps
  abbrev pub IsHolding : (M → List C → Type 0) → (M → X) → Me (Option M) (View C X) → Type 0
  IsHolding stands root_of me =
      (machine : M)
      × (me.1 ≡ (0, Some machine) ∷ [])
      × (me.0.live ≡ true)
      × (me.0.holds ≡ true)
      × (me.0.found ≡ 2 * length me.0.kept)
      × IsPrefix me.0.seen me.0.kept
      × stands machine (calls_of me.0.kept)
      × (root_of machine ≡ me.0.root)
      × (length me.0.kept ≤ 4611686018427387904)

  -- the turn is asked for. Where the word was odd another seat holds it. Where it was even this seat does
  abbrev pub Asks : (M → List C → Type 0) → (M → X) → Me (Option M) (View C X) → ℕ → Me (Option M) (View C X) → Type 0
  Asks stands root_of me word after =
      (word % 2 ≡ 1 → after ≡ (looked me.0 word, me.1))
      × (word % 2 ≡ 0 → IsHolding stands root_of after × (after.0 ≡ holding (looked me.0 word) after.0.kept))

  -- the turn is given back with one call more
  abbrev pub Adds : Option C → Me (Option M) (View C X) → ℕ → Me (Option M) (View C X) → Type 0
  Adds asked me word after = IfSome asked (λ call. (after ≡ (added me.0 call, [])) × KnowsItsCalls (added me.0 call))

  -- the turn is given back, and no call was added
  abbrev pub Releases : Me (Option M) (View C X) → ℕ → Me (Option M) (View C X) → Type 0
  Releases me word after = after ≡ (released me.0, [])

  -- what two seats have seen are beginnings of one history, and their numbers differ
  abbrev pub Meets : Me (Option M) (View C X) → ℕ → Me (Option M) (View C X) → Type 0
  Meets me word after =
      (after ≡ (joined me.0, me.1))
      × IsPrefix me.0.seen (joined me.0).seen
      × IsPrefix me.0.told (joined me.0).seen
      × KnowsItsCalls (joined me.0)
      × (me.0.met ≢ me.0.number)

  -- a seat that held the turn gave it back. With a reply, the call stands behind the history that the seat kept, and the reply is the one that is due there
  abbrev pub IsServed : {R F : Type 0} → (X → List C → C → R) → View C X → C → Result R F → Me (Option M) (View C X) → Type 0
  IsServed replies v call result after =
      MatchResult result
      (λ reply. (after ≡ (added v call, [])) × KnowsItsCalls (added v call) × (reply ≡ replies v.root (calls_of v.kept) call))
      (λ _. after ≡ (released v, []))

  -- a seat that held nothing made a call, or did not
  abbrev pub IsAnswered : {R F : Type 0} → (X → List C → C → R) → View C X → C → Result R F → Me (Option M) (View C X) → Type 0
  IsAnswered replies v call result after =
      IsIdle after
      × (after.0.root ≡ v.root)
      × (after.0.number ≡ v.number)
      × KnowsItsCalls after.0
      × MatchResult result
      (λ reply. (before : List (Entry C))
      × IsPrefix v.seen before
      × (after.0.seen ≡ before ++ entry v.number call ∷ [])
      × (after.0.mine ≡ v.mine ++ call ∷ [])
      × (reply ≡ replies v.root (calls_of before) call)
      × (after.0.found ≡ 2 * length before))
      (λ _. (after.0.seen ≡ v.seen) × (after.0.mine ≡ v.mine))
