-- The list is empty at height 0 alone.
use Rattle.std.proofs.Common.{◌≡◌, length, ap, ◌∙◌, sym, arith, eq-eqb}
use Rattle.std.proofs.lemmas.Bool.Decides.{nat_tests}
use Rattle.ssap_machine.proofs.Heights.{upward, height_told}
use Rattle.ssap_machine.specs.declared.symbol.Symbol.{Symbol}
use Rattle.ssap_machine.proofs.stack.Stack.is_empty.Goals as goal

pub returns : goal.returns
returns c =
    let s = height_told c.self.inside.height c.self.inside.symbols c.args.self.now c.self.invariant.0 c.self.invariant.1 c.self.view_is in (
      λ is. let zero : c.self.inside.height ≡ 0 = grind (arith, nat_tests) in
          sym c.self.view_is ∙ ap (λ n. upward {A = Symbol} n c.self.inside.symbols) zero,
      λ none. eq-eqb c.self.inside.height 0 (omega (arith, ap length none)),
    )
