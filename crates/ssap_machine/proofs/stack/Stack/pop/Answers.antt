-- What is left fits as well.
use Rattle.std.proofs.Common.{◌-◌, length-set, reverse, sym, ap, ◌∙◌, subst, arith}
use Rattle.ssap_machine.proofs.Heights.{height_told, upward_fits}
use Rattle.ssap_machine.specs.declared.symbol.Symbol.TheVariants.{Message}
use Rattle.ssap_machine.specs.Heights.{Fits}
use Rattle.ssap_machine.proofs.Spare.{spare_popped}
use Rattle.std.proofs.lemmas.List.{take-set}
use Rattle.ssap_machine.proofs.stack.Stack.pop.Goals as goal

pub invariant_of-self : goal.invariant_of-self
invariant_of-self c =
    let h = c.self.inside.height in
    let xs = c.self.inside.symbols in
    let s = height_told h xs c.args.self.now c.self.invariant.0 c.self.invariant.1 c.self.view_is in
    let fits = upward_fits h xs Message (omega arith) (omega arith) c.self.invariant.2 in (
      length-set xs (h - 1) Message ∙ c.self.invariant.0,
      omega arith,
      subst Fits (sym (ap reverse (take-set xs (h - 1) Message))) fits,
      spare_popped h xs Message (omega arith) c.self.invariant.1 c.self.invariant.0 c.self.invariant.3,
    )
