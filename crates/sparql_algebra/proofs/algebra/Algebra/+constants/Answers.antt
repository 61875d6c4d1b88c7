use Rattle.std.proofs.Common.{◌≡◌, ◌++◌, OnOk, subst}
use Rattle.sparql_algebra.specs.Constants.{of_option}
use Rattle.sparql_algebra.proofs.ConstantsAppended.{join_appended, union_appended, left_join_appended, filter_appended}
use Rattle.sparql_algebra.proofs.algebra.Algebra.+constants.Goals as goal

pub returns-in_ok-constants-in-Join : goal.returns-in_ok-constants-in-Join
returns-in_ok-constants-in-Join t c = subst (λ l. OnOk c.constants-in-Join.result (c.constants-in-Join.new.into ≡ l))
    (join_appended c.args.into.now c.constants.new.into c.args.self.now c.in-Join.left c.in-Join.right c.get.result.now c.get-in-Join.result.now
    c.in-Join.is c.get.ensures c.get-in-Join.ensures c.in_ok-constants-in-Join.ensures) c.constants-in-Join.ensures

pub returns-in_ok-constants-in-Union : goal.returns-in_ok-constants-in-Union
returns-in_ok-constants-in-Union t c = subst (λ l. OnOk c.constants-in-Union-2.result (c.constants-in-Union-2.new.into ≡ l))
    (union_appended c.args.into.now c.constants-in-Union.new.into c.args.self.now c.in-Union.left c.in-Union.right c.get-in-Union.result.now c.get-in-Union-2.result.now
    c.in-Union.is c.get-in-Union.ensures c.get-in-Union-2.ensures c.in_ok-constants-in-Union.ensures) c.constants-in-Union-2.ensures

pub returns-in_ok-constants-in-LeftJoin-2 : goal.returns-in_ok-constants-in-LeftJoin-2
returns-in_ok-constants-in-LeftJoin-2 t c =
    let appended = left_join_appended c.args.into.now c.constants-in-LeftJoin.new.into c.args.self.now c.in-LeftJoin.left c.in-LeftJoin.right c.get-in-LeftJoin.result.now c.get-in-LeftJoin-2.result.now
    c.in-LeftJoin.condition c.constants-in-LeftJoin-2.new.into c.in-LeftJoin.is c.get-in-LeftJoin.ensures c.get-in-LeftJoin-2.ensures
    c.in_ok-constants-in-LeftJoin.ensures c.in_ok-constants-in-LeftJoin-2.ensures in
    subst (λ l. OnOk c.of_option.result (c.of_option.new.into ≡ l)) appended
    (subst (λ o. OnOk c.of_option.result (c.of_option.new.into ≡ c.constants-in-LeftJoin-2.new.into ++ of_option o)) c.as_ref.ensures.value c.of_option.ensures)

pub returns-in_ok-constants-in-Filter : goal.returns-in_ok-constants-in-Filter
returns-in_ok-constants-in-Filter t c = subst (λ l. OnOk c.of_condition.result (c.of_condition.new.into ≡ l))
    (filter_appended c.args.into.now c.constants-in-Filter.new.into c.args.self.now c.in-Filter.inner c.get-in-Filter.result.now c.in-Filter.condition
    c.in-Filter.is c.get-in-Filter.ensures c.in_ok-constants-in-Filter.ensures) c.of_condition.ensures
