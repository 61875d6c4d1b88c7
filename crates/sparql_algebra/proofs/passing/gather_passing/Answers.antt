use Rattle.std.proofs.Common.{◌+◌, List, Contains, Bool, true, take, ap, subst}
use Rattle.std.specs.Option.{option_copied}
use Rattle.std.proofs.lemmas.List.{take_all}
use Rattle.std.proofs.lemmas.Result.{err_from_is_err_and}
use Rattle.sparql_algebra.specs.declared.mapping.Binding.{Binding}
use Rattle.sparql_algebra.specs.RowSets.{AreExactly, IsOfOr, IsOfOrPassing, TellsPassing, RowPasses}
use Rattle.sparql_algebra.proofs.Gathered.{result_why_none}
use Rattle.sparql_algebra.proofs.Merges.{merge_some, merge_none, as_told, passing_gained, passing_told, passing_of, passing_kept, telling_kept}
use Rattle.sparql_algebra.proofs.passing.gather_passing.Goals as goal
use Rattle.sparql_algebra.proofs.passing.gather_passing.Goals.{in-None, in-Some+in_ok-gather_within-in-Some}

pub returns-in_err-gather_within-in-Some-clause-fault : goal.returns-in_err-gather_within-in-Some-clause-fault
returns-in_err-gather_within-in-Some-clause-fault g c =
    let passing = RowPasses (g.T.TermTable.terms c.args.table.now) (option_copied c.args.condition) in
    let m = merge_some c.args.left.now c.right-item.result passing c.in_ok-passing_merge.field-0 c.in-Some.merged c.in_ok-passing_merge.ensures c.in-Some.is in
    let p = err_from_is_err_and c.from_residual-in_err-gather_within-in-Some.result c.from_residual-in_err-gather_within-in-Some.ensures.1 in
    result_why_none c.args.most (IsOfOr c.loop-right.rows.rows c.in-Some.merged) (IsOfOrPassing c.args.rows.now.rows c.args.left.now (Contains c.args.others.now) passing) _
    c.in_err-gather_within-in-Some.field-0.0 p.0 p.1 p.2
    (passing_of c.args.left.now passing c.args.others.now c.loop-right.right-index c.right-item.result c.loop-right-test.true c.right-item.is
    c.args.rows.now.rows c.loop-right.rows.rows c.in-Some.merged m.0 m.1 m.2 c.loop-right.invariant.0)
    c.in_err-gather_within-in-Some.ensures.fault

pub loop-right-preserved : goal.loop-right-preserved
loop-right-preserved g c =
    let passing = RowPasses (g.T.TermTable.terms c.args.table.now) (option_copied c.args.condition) in
    let left = c.args.left.now in
    let others = c.args.others.now in
    let i = c.loop-right.right-index in
    let x = c.right-item.result in
    let next = IsOfOrPassing c.args.rows.now.rows left (Contains (take (i + 1) others)) passing in
    let told : Bool → Type 0 = λ b. TellsPassing b left (Contains (take (i + 1) others)) passing in
    elim c.match-branch-2.branch [
      | in-None w ↦
          let none = merge_none left x passing c.in_ok-passing_merge.field-0 c.in_ok-passing_merge.ensures w.in-None.is in
          as_told next c.args.most told c.match-branch-2.rows.rows c.loop-right.rows.rows c.match-branch-2.found c.loop-right.found (ap (λ l. l.rows) w.rows-is) w.found-is
          (passing_kept left passing others i x c.loop-right-test.true c.right-item.is c.args.rows.now.rows c.loop-right.rows.rows none c.loop-right.invariant.0)
          c.loop-right.invariant.1
          (telling_kept left passing others i x c.loop-right-test.true c.right-item.is c.loop-right.found none c.loop-right.invariant.2)
      | in-Some+in_ok-gather_within-in-Some w ↦
          let m = merge_some left x passing c.in_ok-passing_merge.field-0 w.in-Some.merged c.in_ok-passing_merge.ensures w.in-Some.is in
          as_told next c.args.most told c.match-branch-2.rows.rows w.gather_within.new.self.rows c.match-branch-2.found true (ap (λ l. l.rows) w.rows-is) w.found-is
          (passing_gained left passing others i x c.loop-right-test.true c.right-item.is c.args.rows.now.rows c.loop-right.rows.rows w.gather_within.new.self.rows w.in-Some.merged
          m.0 m.1 m.2 c.loop-right.invariant.0 w.in_ok-gather_within-in-Some.ensures.ok)
          w.in_ok-gather_within-in-Some.ensures.few
          (passing_told left passing others i x c.loop-right-test.true c.right-item.is w.in-Some.merged m.0 m.1 m.2)
    ]

pub returns-clause-ok : goal.returns-clause-ok
returns-clause-ok g c =
    let passing = RowPasses (g.T.TermTable.terms c.args.table.now) (option_copied c.args.condition) in
    subst (λ (l : List (List Binding)). AreExactly (IsOfOrPassing c.args.rows.now.rows c.args.left.now (Contains l) passing) c.loop-right.rows.rows)
    (take_all c.loop-right.right-index c.args.others.now c.loop-right-test.false) c.loop-right.invariant.0

pub returns-clause-found : goal.returns-clause-found
returns-clause-found g c =
    let passing = RowPasses (g.T.TermTable.terms c.args.table.now) (option_copied c.args.condition) in
    subst (λ (l : List (List Binding)). TellsPassing c.loop-right.found c.args.left.now (Contains l) passing)
    (take_all c.loop-right.right-index c.args.others.now c.loop-right-test.false) c.loop-right.invariant.2
