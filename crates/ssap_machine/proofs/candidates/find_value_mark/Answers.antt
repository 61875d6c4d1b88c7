-- The quote, or a reference.
use Rattle.std.proofs.Common.{true, false, [], ◌∷◌, refl, ap}
use Rattle.ssap_grammar.specs.Text.{references}
use Rattle.ssap_items.specs.Tags.{tag_name}
use Rattle.ssap_machine.specs.Words.{Except, starting, finishing}
use Rattle.ssap_machine.specs.Options.{options}
use Rattle.ssap_machine.specs.declared.symbol.Symbol.TheVariants.{Value}
use Rattle.ssap_machine.specs.Choosing.{pushed}
use Rattle.ssap_machine.proofs.Choosing.{told_at}
use Rattle.ssap_machine.proofs.candidates.find_value_mark.Goals as goal

pub returns-then-single : goal.returns-then-single
unfolding options pushed starting finishing tag_name references
returns-then-single c = told_at (Value c.args.single) (Value true) (Except (60 ∷ 38 ∷ 39 ∷ [])) (Value true ∷ []) tt (ap (λ b. Value b) c.if-single.true) c.find.ensures (rw c.if-single.true refl)

pub returns-else-single : goal.returns-else-single
unfolding options pushed starting finishing tag_name references
returns-else-single c = told_at (Value c.args.single) (Value false) (Except (60 ∷ 38 ∷ 34 ∷ [])) (Value false ∷ []) tt (ap (λ b. Value b) c.if-single.false) c.find-else-single.ensures (rw c.if-single.false refl)
