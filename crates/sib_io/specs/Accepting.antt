-- What a failed call on a listener, or on a connection that it gave, asks of the listener.
use Rattle.std.specs.Prelude.{◌≡◌, ℤ, pos, Bool, List, [], ◌∷◌, Option, Some, None, if◌then◌else◌, refl}
use Rattle.std.specs.List.{list_any}
use Rattle.std.specs.Ordering.{int_eq}
use Rattle.sib_io.specs.declared.errors.Trouble.{Trouble}
use Rattle.sib_io.specs.declared.errors.Trouble.TheVariants.{Again, Shortage, Fault}

-- whether a number is in a list of error numbers
abbrev pub is_among : List ℤ → ℤ → Bool
is_among numbers code = list_any (λ number. int_eq number code) numbers

-- the error numbers of Linux that concern one connection alone: an interrupted call, an aborted or reset connection, and the errors of the
-- network that accept(2) lists
unfoldable pub is_of_one_connection : ℤ → Bool
is_of_one_connection code =
    is_among (pos 4 ∷ pos 64 ∷ pos 71 ∷ pos 92 ∷ pos 95 ∷ pos 100 ∷ pos 101 ∷ pos 103 ∷ pos 104 ∷ pos 112 ∷ pos 113 ∷ []) code

-- those that say that the kernel is short of memory or of file descriptors
unfoldable pub is_of_shortage : ℤ → Bool
is_of_shortage code = is_among (pos 12 ∷ pos 23 ∷ pos 24 ∷ pos 105 ∷ []) code

-- an error of one connection is passed over, a shortage is waited out, and any other error is a fault
abbrev pub code_trouble : ℤ → Trouble
code_trouble code = if is_of_one_connection code then Again else if is_of_shortage code then Shortage else Fault

-- an error without a number is a fault
abbrev pub trouble : Option ℤ → Trouble
trouble None = Fault
trouble (Some code) = code_trouble code

-- a connection that was aborted is passed over
aborted : trouble (Some (pos 103)) ≡ Again
unfolding is_of_one_connection
aborted = refl

-- too many open files are waited out
too_many_files : trouble (Some (pos 24)) ≡ Shortage
unfolding is_of_one_connection is_of_shortage
too_many_files = refl

-- a bad descriptor is a fault
bad_descriptor : trouble (Some (pos 9)) ≡ Fault
unfolding is_of_one_connection is_of_shortage
bad_descriptor = refl
