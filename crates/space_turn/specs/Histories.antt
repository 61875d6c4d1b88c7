-- Histories of calls. An entry has the number of the seat that called, and the call.
use Rattle.std.specs.Prelude.{ℕ, ◌==◌, if◌then◌else◌, nat_lt, length, List, [], ◌∷◌, map}
use Rattle.space_turn.specs.declared.view.Entry.{Entry}

module _ {C : Type 0} where
  abbrev pub entry : ℕ → C → Entry C
  entry seat call = record { seat = seat; call = call }

  -- the calls of a history, in their order
  abbrev pub calls_of : List (Entry C) → List C
  calls_of history = map (λ e. e.call) history

  -- the calls of the seat with this number, in their order
  abbrev pub calls_by : ℕ → List (Entry C) → List C
  calls_by number [] = []
  calls_by number (e ∷ es) = if e.seat == number then e.call ∷ calls_by number es else calls_by number es

  -- the second history where it is longer, and else the first
  abbrev pub longer : List (Entry C) → List (Entry C) → List (Entry C)
  longer xs ys = if nat_lt (length xs) (length ys) then ys else xs
