use Rattle.std.proofs.Common.{◌∙◌, Contains, length, sym, ap, subst}
use Rattle.std.proofs.lemmas.Map.Views.{list_any-from_Contains}
use Rattle.sparql_algebra.specs.Solutions.{RowList, IsWithoutRow}
use Rattle.sparql_algebra.specs.SolutionLaws.{solution_eq_equiv}
use Rattle.sparql_algebra.proofs.Removed.{without, one_less}
use Rattle.sparql_algebra.proofs.rows.IdRows.remove.Goals as goal

pub returns-clause-rows : goal.returns-clause-rows
returns-clause-rows c = subst (λ (l : RowList). IsWithoutRow l.rows c.args.row.now c.swap_remove.new.self.keys) c.self.view_is
    (without c.self.inside.rows.keys c.swap_remove.new.self.keys c.args.row.now c.swap_remove.ensures.updates.0)

pub returns-clause-fewer : goal.returns-clause-fewer
returns-clause-fewer c =
    let there = subst (λ (l : RowList). Contains l.rows c.args.row.now) (sym c.self.view_is) c.requires in
    one_less (length c.swap_remove.new.self.keys) (length c.args.self.now.rows) c.swap_remove.result
    (c.swap_remove.ensures.found ∙ list_any-from_Contains solution_eq_equiv c.args.row.now c.self.inside.rows.keys there)
    (c.swap_remove.ensures.len ∙ ap (λ (l : RowList). length l.rows) c.self.view_is)
