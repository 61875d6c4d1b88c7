-- The test by which two solutions by numbers are found compatible.
use Rattle.std.specs.Prelude.{◌≡◌, Bool, true, false, List, [], ◌∷◌, Option, None, Some, nat_eq, refl}
use Rattle.std.specs.List.{list_all}
use Rattle.m3_terms.specs.declared.table.TermId.{TermId}
use Rattle.sparql_algebra.specs.declared.mapping.Binding.{Binding}
use Rattle.sparql_algebra.specs.Solutions.{binding, bound}

-- a number that there may be is that of a binding
abbrev pub agrees_with : Binding → Option TermId → Bool
agrees_with own None = true
agrees_with own (Some term) = nat_eq term.0 own.term.0

-- no binding of the left solution has another number in the right one
abbrev pub agree : List Binding → List Binding → Bool
agree left right = list_all (λ own. agrees_with own (bound right own.var)) left

-- variable 0 is bound alike, and variable 2 on the left alone
example_agree : agree (binding 0 7 ∷ binding 2 9 ∷ []) (binding 0 7 ∷ binding 1 9 ∷ []) ≡ true
example_agree = refl

-- variable 2 is bound to two numbers
example_differ : agree (binding 0 7 ∷ binding 2 9 ∷ []) (binding 2 8 ∷ []) ≡ false
example_differ = refl
