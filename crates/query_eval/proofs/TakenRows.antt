-- Rows whose number was taken off the room stand before those of the sides.
use Rattle.std.proofs.Common.{◌≡◌, ◌∙◌, ℕ, ◌+◌, List, ◌∷◌, length, ap}
use Rattle.std.specs.List.{IsDistinct}
use Rattle.sparql_algebra.specs.declared.mapping.Binding.{Binding}
use Rattle.sparql_algebra.specs.RowSets.{AreExactly}
use Rattle.sparql_algebra.specs.Solutions.{RowList, solution_eq, AreRising}
use Rattle.query_eval.specs.Parts.{AreTaken}

pub taken_rows : (Holds : List Binding → Type 0) (before after : ℕ) (rows given : RowList) (others lists : List RowList) → AreExactly Holds rows.rows → given ≡ rows
    → lists ≡ given ∷ others → IsDistinct solution_eq rows.rows → AreRising rows.rows → after + length rows.rows ≡ before → AreTaken before after Holds others lists
taken_rows Holds before after rows given others lists e same first d r room =
    record { own = rows; first = first ∙ ap (λ l. l ∷ others) same; exactly = e; distinct = d; rising = r; room = room }
