-- A step of a standing query makes something of it.
use Rattle.std.proofs.Common.{◌≡◌, Bool, true, false, not, ap, subst, List, [], ◌∷◌, ◌++◌, filter, Contains, refl, sym, ◌∙◌, inl, inr}
use Rattle.std.proofs.lemmas.List.Elements.{Contains-append_left, Contains-append_right, Contains-append_cases}
use Rattle.std.specs.List.{AllZip, list_any}
use Rattle.std.specs.Prelude.{◌⊎◌}
use mathlib.Core.Bool.{true≢false}
use Rattle.sparql_algebra.specs.declared.mapping.Binding.{Binding}
use Rattle.sparql_algebra.specs.SolutionLaws.{solution_exact}
use Rattle.sparql_algebra.specs.Solutions.{RowList, solution_eq}
use Rattle.sparql_algebra.proofs.ListMembers.{kept, any_from, any_to}
use Rattle.delta_eval.specs.declared.changed.Changed.{Changed}
use Rattle.delta_eval.specs.Changed.{AllInThrees, IsChangeOf, IsThereAfter, LeadsTo}
use Rattle.delta_eval.specs.Standing.{Kept, Changes, IsStepOf, IsAfter}

-- a row is one of some rows
abbrev is_row_of : List (List Binding) → List Binding → Bool
is_row_of rows row = list_any (solution_eq row) rows

not_row : (rows : List (List Binding)) (row : List Binding) (b : Bool) → is_row_of rows row ≡ b → (Contains rows row → ⊥) → not b ≡ true
not_row rows row true h none =
    let found = any_from (solution_eq row) rows h in
    absurd (none (subst (Contains rows) (sym ((solution_exact row found.0).0 found.2)) found.1))
not_row rows row false h none = refl

no_row : (rows : List (List Binding)) (row : List Binding) → not (is_row_of rows row) ≡ true → Contains rows row → ⊥
no_row rows row h c = true≢false (sym (h) ∙ ap not (any_to (solution_eq row) rows row c ((solution_exact row row).1 refl)))

-- the rows that stay
abbrev stay : RowList → Changed → List (List Binding)
stay old change = filter (λ row. not (is_row_of change.obsolete.rows row)) old.rows

-- the rows after a change: those that are added, and those that stay
abbrev rows_after : RowList → Changed → List (List Binding)
rows_after old change = change.added.rows ++ stay old change

change_leads : (old : RowList) (change : Changed) → LeadsTo old change (record { rows = rows_after old change; room = 0 })
change_leads old change row = (
  λ c. from (Contains-append_cases change.added.rows (stay old change) row c),
  λ there. to there,
)
  where
    from : Contains change.added.rows row ⊎ Contains (stay old change) row → IsThereAfter old.rows change row
    from (inl added) = inl added
    from (inr kept_row) =
        let k = (kept (λ row. not (is_row_of change.obsolete.rows row)) old.rows row).0 kept_row in
        inr (k.0, no_row change.obsolete.rows row k.1)

    to : IsThereAfter old.rows change row → Contains (rows_after old change) row
    to (inl added) = Contains-append_left change.added.rows (stay old change) row added
    to (inr it) = Contains-append_right change.added.rows (stay old change) row
        ((kept (λ row. not (is_row_of change.obsolete.rows row)) old.rows row).1 (it.0, not_row change.obsolete.rows row (is_row_of change.obsolete.rows row) refl it.1))

changes_lead : (olds : List RowList) (changes : List Changed) → AllZip IsChangeOf olds changes → (news : List RowList) × AllInThrees LeadsTo olds changes news
changes_lead [] [] z = ([], (refl, refl))
changes_lead [] (change ∷ changes) z = absurd z
changes_lead (old ∷ olds) [] z = absurd z
changes_lead (old ∷ olds) (change ∷ changes) z =
    let rest = changes_lead olds changes z.1 in
    (record { rows = rows_after old change; room = 0 } ∷ rest.0, (change_leads old change, rest.1))

-- what a step makes of a standing query
pub step_ends : (standing : Kept) (step : Changes) → IsStepOf standing step → (after : Kept) × IsAfter standing step after
step_ends standing step is =
    let parts = changes_lead standing.parts step.parts is.parts in (
      record { wanted = standing.wanted; parts = parts.0; answer = record { rows = rows_after standing.answer step.answer; room = 0 } },
      record { wanted = refl; parts = parts.1; answer = change_leads standing.answer step.answer },
    )
