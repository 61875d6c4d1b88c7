use Rattle.sparql_algebra.specs.TermSolutions.{solution_in}
use Rattle.sparql_algebra.proofs.Forms.{not_value, or_value, and_value}
use Rattle.sparql_algebra.proofs.expr.Expr.+truth.Goals as goal

pub returns-in-Or : goal.returns-in-Or
returns-in-Or g t c =
    let s = solution_in (g.T.TermTable.terms c.args.table.now) c.args.mapping.now in
    or_value s c.args.self.now c.in-Or.left c.in-Or.right c.get.result.now c.get-in-Or.result.now c.truth-left.result c.truth.result c.or.result
    c.in-Or.is c.get.ensures c.get-in-Or.ensures c.truth-left.ensures c.truth.ensures c.or.ensures

pub returns-in-And : goal.returns-in-And
returns-in-And g t c =
    let s = solution_in (g.T.TermTable.terms c.args.table.now) c.args.mapping.now in
    and_value s c.args.self.now c.in-And.left c.in-And.right c.get-in-And.result.now c.get-in-And-2.result.now c.truth-left-in-And.result c.truth-in-And.result c.and.result
    c.in-And.is c.get-in-And.ensures c.get-in-And-2.ensures c.truth-left-in-And.ensures c.truth-in-And.ensures c.and.ensures

pub returns-in-Not : goal.returns-in-Not
returns-in-Not g t c =
    let s = solution_in (g.T.TermTable.terms c.args.table.now) c.args.mapping.now in
    not_value s c.args.self.now c.in-Not.inner c.get-in-Not.result.now c.truth-in-Not.result c.not.result c.in-Not.is c.get-in-Not.ensures c.truth-in-Not.ensures c.not.ensures
