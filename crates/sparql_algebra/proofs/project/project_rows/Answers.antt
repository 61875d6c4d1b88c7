use Rattle.std.proofs.Common.{◌∙◌, List, Contains, refl, subst}
use Rattle.std.proofs.lemmas.List.{take_all}
use Rattle.sparql_algebra.specs.declared.mapping.Binding.{Binding}
use Rattle.sparql_algebra.specs.RowSets.{AreExactly, IsProjectedRow}
use Rattle.sparql_algebra.proofs.Gathered.{projected_gained}
use Rattle.sparql_algebra.proofs.project.project_rows.Goals as goal

pub loop-row-preserved : goal.loop-row-preserved
loop-row-preserved c = projected_gained c.as_slice-row-items.result.now c.loop-row.row-index c.row-item.result c.row-item.result c.loop-row-test.true c.row-item.is refl
    c.args.columns.now c.loop-row.projections.rows c.gather.new.self.rows c.in_ok-project.field-0 c.in_ok-project.ensures c.loop-row.invariant c.in_ok-gather.ensures

pub returns : goal.returns
returns c =
    subst (λ (l : List (List Binding)). AreExactly (IsProjectedRow c.args.columns.now (Contains l)) c.loop-row.projections.rows)
    (take_all c.loop-row.row-index c.as_slice-row-items.result.now c.loop-row-test.false ∙ c.as_slice-row-items.ensures.rows) c.loop-row.invariant
