use Rattle.std.proofs.Common.{◌≡◌, ◌++◌, OnOk, subst}
use Rattle.sparql_algebra.proofs.ConstantsAppended.{or_appended, and_appended, not_named}
use Rattle.sparql_algebra.proofs.constants.+of_condition.Goals as goal

pub returns-in-Not : goal.returns-in-Not
returns-in-Not t c = subst (λ l. OnOk c.of_condition-in-Not.result (c.of_condition-in-Not.new.into ≡ c.args.into.now ++ l))
    (not_named c.args.condition.now c.in-Not.inner c.get-in-Not.result.now c.in-Not.is c.get-in-Not.ensures) c.of_condition-in-Not.ensures

pub returns-in_ok-of_condition-in-Or : goal.returns-in_ok-of_condition-in-Or
returns-in_ok-of_condition-in-Or t c = subst (λ l. OnOk c.of_condition-in-Or.result (c.of_condition-in-Or.new.into ≡ l))
    (or_appended c.args.into.now c.of_condition.new.into c.args.condition.now c.in-Or.left c.in-Or.right c.get.result.now c.get-in-Or.result.now
    c.in-Or.is c.get.ensures c.get-in-Or.ensures c.in_ok-of_condition-in-Or.ensures) c.of_condition-in-Or.ensures

pub returns-in_ok-of_condition-in-And : goal.returns-in_ok-of_condition-in-And
returns-in_ok-of_condition-in-And t c = subst (λ l. OnOk c.of_condition-in-And-2.result (c.of_condition-in-And-2.new.into ≡ l))
    (and_appended c.args.into.now c.of_condition-in-And.new.into c.args.condition.now c.in-And.left c.in-And.right c.get-in-And.result.now c.get-in-And-2.result.now
    c.in-And.is c.get-in-And.ensures c.get-in-And-2.ensures c.in_ok-of_condition-in-And.ensures) c.of_condition-in-And-2.ensures
