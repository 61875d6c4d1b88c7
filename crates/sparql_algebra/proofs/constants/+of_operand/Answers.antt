use Rattle.std.proofs.Common.{◌≡◌, ◌++◌, OnOk, subst}
use Rattle.sparql_algebra.proofs.ConstantsAppended.{str_named}
use Rattle.sparql_algebra.proofs.constants.+of_operand.Goals as goal

pub returns-in-Str : goal.returns-in-Str
returns-in-Str t c = subst (λ l. OnOk c.of_operand.result (c.of_operand.new.into ≡ c.args.into.now ++ l)) (str_named c.args.operand.now c.in-Str.inner c.get.result.now c.in-Str.is c.get.ensures) c.of_operand.ensures
