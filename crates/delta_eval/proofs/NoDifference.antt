-- Lists of the same rows differ by nothing.
use Rattle.std.proofs.Common.{◌≡◌, List, [], Contains, sym, subst}
use Rattle.sparql_algebra.specs.declared.mapping.Binding.{Binding}
use Rattle.sparql_algebra.specs.RowSets.{AreExactly}
use Rattle.sparql_algebra.specs.Solutions.{RowList}
use Rattle.sparql_algebra.proofs.Gathered.{none_in}
use Rattle.delta_eval.specs.declared.changed.Changed.{Changed}
use Rattle.delta_eval.specs.Changed.{IsOfOnly, IsDifference}

-- no row is of some rows and not of the same rows
none_only : (rows none : List (List Binding)) → none ≡ [] → AreExactly (IsOfOnly rows rows) none
none_only rows none e row = (
  λ there. absurd (none_in row (subst (λ (l : List (List Binding)). Contains l row) e there)),
  λ only. absurd (only.1 only.0),
)

pub no_difference : (old new : RowList) (change : Changed) → old.rows ≡ new.rows → change.added.rows ≡ [] → change.obsolete.rows ≡ []
    → IsDifference old change new
no_difference old new change same added obsolete = record {
  added = subst (λ (l : List (List Binding)). AreExactly (IsOfOnly l old.rows) change.added.rows) same (none_only old.rows change.added.rows added);
  obsolete = subst (λ (l : List (List Binding)). AreExactly (IsOfOnly old.rows l) change.obsolete.rows) same (none_only old.rows change.obsolete.rows obsolete);
}
