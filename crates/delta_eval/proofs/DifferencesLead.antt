-- The difference of two lists of rows is a change of the one, and leads to the other alone.
use Rattle.std.proofs.Common.{◌↔◌, ◌⊎◌, inl, inr, Bool, true, false, List, Contains, refl, sym, subst, true≢false}
use Rattle.std.proofs.lemmas.Map.Made.{is_member-Decides}
use Rattle.std.specs.Bool.{Decides}
use Rattle.std.specs.Set.{is_member}
use Rattle.sparql_algebra.specs.declared.mapping.Binding.{Binding}
use Rattle.sparql_algebra.specs.RowSets.{AreExactly}
use Rattle.sparql_algebra.specs.Solutions.{RowList, solution_eq}
use Rattle.sparql_algebra.specs.SolutionLaws.{solution_exact}
use Rattle.delta_eval.specs.declared.changed.Changed.{Changed}
use Rattle.delta_eval.specs.Changed.{IsOfOnly, IsThereAfter, LeadsTo, IsChangeOf, IsDifference, HasSameRows}

holds_or_not : {P : Type 0} (b : Bool) → Decides b P → P ⊎ (P → ⊥)
holds_or_not true d = inl (d.0 refl)
holds_or_not false d = inr (λ p. true≢false (sym (d.1 p)))

-- a row is of a list or is not
pub in_or_not : (rows : List (List Binding)) (row : List Binding) → Contains rows row ⊎ (Contains rows row → ⊥)
in_or_not rows row = holds_or_not (is_member solution_eq rows row) (is_member-Decides solution_exact rows row)

module _ (old : RowList) (change : Changed) (new : RowList) (d : IsDifference old change new) where
  -- the difference is a change of the old list
  pub difference_of : IsChangeOf old change
  difference_of = record {
    obsolete_there = λ row gone. ((d.obsolete row).0 gone).0;
    added_new = λ row come there. ((d.added row).0 come).1 there;
  }

  stays : (row : List Binding) → Contains old.rows row → (Contains change.obsolete.rows row → ⊥) → Contains new.rows row ⊎ (Contains new.rows row → ⊥) → Contains new.rows row
  stays row there kept (inl c) = c
  stays row there kept (inr n) = absurd (kept ((d.obsolete row).1 (there, n)))

  -- and leads to the new one
  pub difference_leads : LeadsTo old change new
  difference_leads row = (
    λ c. elim (in_or_not old.rows row) [ inl there ↦ inr (there, λ gone. ((d.obsolete row).0 gone).1 c) | inr absent ↦ inl ((d.added row).1 (c, absent)) ],
    λ s. elim s [ inl come ↦ ((d.added row).0 come).0 | inr kept ↦ stays row kept.0 kept.1 (in_or_not new.rows row) ],
  )

-- a change leads to one set of rows
pub leads_once : (old : RowList) (change : Changed) (one other : RowList) → LeadsTo old change one → LeadsTo old change other
    → (row : List Binding) → Contains one.rows row ↔ Contains other.rows row
leads_once old change one other l k row = (λ c. (k row).1 ((l row).0 c), λ c. (l row).1 ((k row).0 c))

-- where two lists have exactly what holds, the rows of the one only are those of which one holds and the other does not
pub only_holds : (Holds Held : List Binding → Type 0) (rows others only : List (List Binding)) → AreExactly Holds rows → AreExactly Held others
    → AreExactly (IsOfOnly rows others) only → AreExactly (λ row. Holds row × (Held row → ⊥)) only
only_holds Holds Held rows others only p q e row = (
  λ c. (let h = (e row).0 c in ((p row).0 h.0, λ held. h.1 ((q row).1 held))),
  λ h. (e row).1 ((p row).1 h.0, λ c. h.1 ((q row).0 c)),
)

-- a change of a list is one of each list with the same rows
pub change_kept : (old : RowList) (change : Changed) (new : RowList) → IsChangeOf old change → HasSameRows old new → IsChangeOf new change
change_kept old change new h e = record {
  obsolete_there = λ row gone. subst (λ l. Contains l row) (sym e) (h.obsolete_there row gone);
  added_new = λ row come there. h.added_new row come (subst (λ l. Contains l row) e there);
}

-- a row that a change adds is not obsolete
pub added_or_obsolete : (old : RowList) (change : Changed) → IsChangeOf old change → (row : List Binding) → Contains change.added.rows row → Contains change.obsolete.rows row → ⊥
added_or_obsolete old change h row come gone = h.added_new row come (h.obsolete_there row gone)

-- a change leads from a list to where it leads from one with the same rows
pub leads_before : (old kept : RowList) (change : Changed) (new : RowList) → HasSameRows old kept → LeadsTo kept change new → LeadsTo old change new
leads_before old kept change new e l = subst (λ rows. AreExactly (IsThereAfter rows change) new.rows) e l
