-- A solution that is not among the rows goes last.
use Rattle.std.proofs.Common.{◌≡◌, ◌∙◌, ap, Bool, true, false, List, [], ◌∷◌, ◌++◌, Contains, refl, if◌then◌else◌, subst, sym}
use Rattle.std.proofs.lemmas.Map.Views.{Contains-from_any}
use Rattle.std.specs.List.{list_any}
use Rattle.sparql_algebra.specs.declared.mapping.Binding.{Binding}
use Rattle.sparql_algebra.specs.Solutions.{RowList, solution_eq}
use Rattle.sparql_algebra.specs.SolutionLaws.{solution_exact}
use Rattle.sparql_algebra.proofs.rows.IdRows.add.Goals as goal

last_at : (rows : List (List Binding)) (row : List Binding) (there : Bool) → list_any (solution_eq row) rows ≡ there → (Contains rows row → ⊥)
    → (if there then rows else rows ++ row ∷ []) ≡ rows ++ row ∷ []
last_at rows row true h n = absurd (n (Contains-from_any (λ a b. (solution_exact a b).0) row rows h))
last_at rows row false h n = refl

pub returns-clause-ok : goal.returns-clause-ok
returns-clause-ok c =
    let rows = c.self.inside.rows.keys in
    let row = c.args.row in
    let shown = ap (λ (l : RowList). l.rows) c.self.view_is in
    let absent : Contains rows row → ⊥ = subst (λ (l : List (List Binding)). Contains l row → ⊥) (sym shown) c.requires in
    c.in_ok-insert.ensures.keys ∙ last_at rows row (list_any (solution_eq row) rows) refl absent ∙ ap (λ l. l ++ row ∷ []) shown
