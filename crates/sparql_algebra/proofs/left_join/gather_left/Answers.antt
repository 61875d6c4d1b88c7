use Rattle.std.proofs.Common.{Contains, Bool, subst}
use Rattle.std.specs.Option.{option_copied}
use Rattle.std.proofs.lemmas.Result.{err_from_is_err_and}
use Rattle.sparql_algebra.specs.RowSets.{IsOfOr, IsOfOrLeft, TellsPassing, RowPasses}
use Rattle.sparql_algebra.proofs.Gathered.{result_why_none}
use Rattle.sparql_algebra.proofs.Merges.{left_merged, left_alone, left_of}
use Rattle.sparql_algebra.proofs.left_join.gather_left.Goals as goal

pub returns-in_err-gather_within-clause-fault : goal.returns-in_err-gather_within-clause-fault
returns-in_err-gather_within-clause-fault g c =
    let passing = RowPasses (g.T.TermTable.terms c.args.table.now) (option_copied c.args.condition) in
    let Right = Contains c.args.others.now in
    let told = subst (λ (b : Bool). TellsPassing b c.args.left.now Right passing) c.if-not-found.true c.in_ok-found.ensures.found in
    let p = err_from_is_err_and c.from_residual-in_err-gather_within.result c.from_residual-in_err-gather_within.ensures.1 in
    result_why_none c.args.most (IsOfOr c.gather_passing.new.rows.rows c.in_ok-copy.field-0) (IsOfOrLeft c.args.rows.now.rows c.args.left.now Right passing) _
    c.in_err-gather_within.field-0.0 p.0 p.1 p.2
    (left_of Right passing c.args.left.now c.args.rows.now.rows c.gather_passing.new.rows.rows c.in_ok-found.ensures.ok c.in_ok-copy.field-0 c.in_ok-copy.ensures.equal told)
    c.in_err-gather_within.ensures.fault

pub returns-in_ok-gather_within-clause-ok : goal.returns-in_ok-gather_within-clause-ok
returns-in_ok-gather_within-clause-ok g c =
    let passing = RowPasses (g.T.TermTable.terms c.args.table.now) (option_copied c.args.condition) in
    let Right = Contains c.args.others.now in
    let told = subst (λ (b : Bool). TellsPassing b c.args.left.now Right passing) c.if-not-found.true c.in_ok-found.ensures.found in
    left_alone Right passing c.args.left.now c.args.rows.now.rows c.gather_passing.new.rows.rows c.in_ok-found.ensures.ok c.gather_within.new.self.rows c.in_ok-copy.field-0
    c.in_ok-copy.ensures.equal told c.in_ok-gather_within.ensures.ok

pub returns-else-not-found-clause-ok : goal.returns-else-not-found-clause-ok
returns-else-not-found-clause-ok g c =
    let passing = RowPasses (g.T.TermTable.terms c.args.table.now) (option_copied c.args.condition) in
    let Right = Contains c.args.others.now in
    let told = subst (λ (b : Bool). TellsPassing b c.args.left.now Right passing) c.if-not-found.false c.in_ok-found.ensures.found in
    left_merged Right passing c.args.left.now c.args.rows.now.rows c.gather_passing.new.rows.rows c.in_ok-found.ensures.ok told
