-- A solution is found exactly where it is among the rows.
use Rattle.std.proofs.Common.{List, Contains, ◌∙◌, ap, sym, subst, true, ◌≡◌}
use Rattle.std.proofs.lemmas.Map.Views.{Contains-from_any, list_any-from_Contains}
use Rattle.sparql_algebra.specs.declared.mapping.Binding.{Binding}
use Rattle.sparql_algebra.specs.Solutions.{RowList}
use Rattle.sparql_algebra.specs.SolutionLaws.{solution_eq_equiv, solution_exact}
use Rattle.sparql_algebra.proofs.rows.IdRows.contains.Goals as goal

pub returns : goal.returns
returns c =
    let row = c.args.row.now in
    let shown = ap (λ (l : RowList). l.rows) c.self.view_is in
    subst (λ (rows : List (List Binding)). (c.contains.result ≡ true → Contains rows row) × (Contains rows row → c.contains.result ≡ true)) shown (
      λ h. Contains-from_any (λ a b. (solution_exact a b).0) row c.self.inside.rows.keys (sym c.contains.ensures ∙ h),
      λ h. c.contains.ensures ∙ list_any-from_Contains solution_eq_equiv row c.self.inside.rows.keys h,
    )
