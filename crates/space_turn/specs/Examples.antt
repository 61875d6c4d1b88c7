-- Histories of a few calls, and what is said of them.
use Rattle.std.specs.Prelude.{◌≡◌, ℕ, List, [], ◌∷◌, Err}
use Rattle.space_turn.specs.declared.view.Entry.{Entry}
use Rattle.space_turn.specs.declared.faults.TryFault.TheVariants as try_fault
use Rattle.space_turn.specs.Histories.{entry, calls_of, calls_by, longer}
use Rattle.space_turn.specs.Causes.{TryCause}

-- seat 0 called with 5 and 2, and seat 1 with 7 between
abbrev pub three_calls : List (Entry ℕ)
three_calls = entry 0 5 ∷ entry 1 7 ∷ entry 0 2 ∷ []

pub all_calls : calls_of three_calls ≡ 5 ∷ 7 ∷ 2 ∷ []
all_calls k = 5 ∷ 7 ∷ 2 ∷ []

pub calls_of_seat_0 : calls_by 0 three_calls ≡ 5 ∷ 2 ∷ []
calls_of_seat_0 k = 5 ∷ 2 ∷ []

pub longer_of_both : longer (entry 0 5 ∷ []) three_calls ≡ three_calls
longer_of_both k = three_calls

-- the word 7 is that of a turn that is held after three calls
pub held_after_three : TryCause {R = ℕ} (Err (try_fault.Busy 3)) 7
held_after_three k = 7
