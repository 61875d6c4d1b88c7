-- What contracts see of a seat, and what a call makes of it.
use Rattle.std.specs.Prelude.{◌≡◌, ℕ, ◌*◌, ◌%◌, ◌++◌, List, [], ◌∷◌, length}
use mathlib.Core.List.{IsPrefix}
use Rattle.atomic_table.specs.Seated.{TableId}
use Rattle.space_turn.specs.declared.view.Entry.{Entry}
use Rattle.space_turn.specs.declared.faults.Closed.{Closed}
use Rattle.space_turn.specs.declared.faults.Closed.TheVariants as closed
use Rattle.space_turn.specs.Histories.{entry, calls_of, calls_by}

-- Of which turn the seat is, the machine's root, the seat's number, the history that it has seen, its own calls in it, the word that its last look found (0 before the first), and how often it looked.
pub record Sight (C X : Type 0) : Type 0 where
  pub turn : TableId
  pub root : X
  pub number : ℕ
  pub seen : List (Entry C)
  pub mine : List C
  pub found : ℕ
  pub looks : ℕ

module _ {C X : Type 0} where
  -- it is the same seat of the same turn
  abbrev pub IsSameSeat : Sight C X → Sight C X → Type 0
  IsSameSeat v w = (w.turn ≡ v.turn) × (w.root ≡ v.root) × (w.number ≡ v.number)

  -- the seat has seen no more, and made no call
  abbrev pub HasSameHistory : Sight C X → Sight C X → Type 0
  HasSameHistory v w = (w.seen ≡ v.seen) × (w.mine ≡ v.mine)

  -- The call has one place in the history: behind a history that begins with all that the seat had seen. The seat has seen the history up to the call and with it, and its own calls are one more. The reply is the one that is due there.
  abbrev pub HasCalled : {R : Type 0} → (X → List C → C → R) → Sight C X → C → R → Sight C X → Type 0
  HasCalled replies v call reply w =
      (before : List (Entry C))
      × IsPrefix v.seen before
      × (w.seen ≡ before ++ entry v.number call ∷ [])
      × (w.mine ≡ v.mine ++ call ∷ [])
      × (reply ≡ replies v.root (calls_of before) call)
      × (w.found ≡ 2 * length before)

  -- A machine that a turn leaves stands for a history that begins with all that the seat has seen, and has of the seat's number its own calls. Where a seat holds the turn the word is odd.
  abbrev pub IsLeft : {M : Type 0} → (M → List C → Type 0) → (M → X) → Sight C X → Closed M → Type 0
  IsLeft stands root_of v (closed.Machine machine) =
      (history : List (Entry C))
      × IsPrefix v.seen history
      × stands machine (calls_of history)
      × (root_of machine ≡ v.root)
      × (v.mine ≡ calls_by v.number history)
  IsLeft stands root_of v (closed.Held word) = word % 2 ≡ 1
