-- There is room for the symbol.
use Rattle.std.proofs.Common.{◌+◌, ◌<◌, ◌≤◌, ◌∷◌, length, length-set, ap, ◌∙◌, arith}
use Rattle.ssap_machine.specs.Heights.{need}
use Rattle.ssap_machine.proofs.Heights.{upward, height_told, upward_pushed, pushed_fits, some_need}
use Rattle.ssap_machine.specs.declared.symbol.Symbol.TheVariants.{Message}
use Rattle.ssap_machine.proofs.Spare.{spare_pushed}
use Rattle.ssap_machine.proofs.stack.Stack.push.Goals as goal

pub bounds-self-inside-self-inside : goal.bounds-self-inside-self-inside
bounds-self-inside-self-inside c =
    let s = height_told c.self.inside.height c.self.inside.symbols c.args.self.now c.self.invariant.0 c.self.invariant.1 c.self.view_is in
    omega (arith, some_need c.args.symbol)

pub invariant_of-self : goal.invariant_of-self
invariant_of-self c =
    let s = height_told c.self.inside.height c.self.inside.symbols c.args.self.now c.self.invariant.0 c.self.invariant.1 c.self.view_is in
    let low : c.self.inside.height < 16 = omega (arith, some_need c.args.symbol) in
    let room : need c.args.symbol + length (upward c.self.inside.height c.self.inside.symbols) ≤ 16 = omega (arith, ap length c.self.view_is) in (
      length-set c.self.inside.symbols c.self.inside.height c.args.symbol ∙ c.self.invariant.0,
      omega arith,
      pushed_fits c.self.inside.height c.self.inside.symbols c.args.symbol (omega (arith, c.self.invariant.0)) room c.self.invariant.2,
      spare_pushed c.self.inside.height c.self.inside.symbols Message c.args.symbol c.self.invariant.3,
    )

pub returns : goal.returns
returns c =
    let s = height_told c.self.inside.height c.self.inside.symbols c.args.self.now c.self.invariant.0 c.self.invariant.1 c.self.view_is in
    upward_pushed c.self.inside.height c.self.inside.symbols c.args.symbol (omega (arith, some_need c.args.symbol, c.self.invariant.0)) ∙ ap (λ xs. c.args.symbol ∷ xs) c.self.view_is
