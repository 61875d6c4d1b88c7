-- A bracket, or the end behind two.
use Rattle.std.proofs.Common.{[], ◌∷◌, refl, sym, subst}
use Rattle.ssap_items.specs.Tags.{tag_name}
use Rattle.ssap_machine.specs.Words.{Except, starting, finishing}
use Rattle.ssap_machine.specs.Options.{options}
use Rattle.ssap_machine.specs.declared.symbol.Brackets.TheVariants as bracket
use Rattle.ssap_machine.specs.declared.symbol.Symbol.TheVariants.{Cdata}
use Rattle.ssap_machine.specs.Choosing.{pushed, Tells}
use Rattle.ssap_machine.proofs.Choosing.{told_behind}
use Rattle.ssap_machine.proofs.candidates.find_in_section.Goals as goal

pub returns-in-None : goal.returns-in-None
unfolding options pushed starting finishing tag_name
returns-in-None c = subst (λ b. Tells (options (Cdata b)) c.args.bytes.now c.find.result) (sym c.in-None.is)
    (told_behind (Except (93 ∷ [])) (Cdata bracket.None ∷ []) tt c.find.ensures refl)

pub returns-in-One : goal.returns-in-One
unfolding options pushed starting finishing tag_name
returns-in-One c = subst (λ b. Tells (options (Cdata b)) c.args.bytes.now c.find-in-One.result) (sym c.in-One.is)
    (told_behind (Except (93 ∷ [])) (Cdata bracket.None ∷ []) tt c.find-in-One.ensures refl)

pub returns-in-Some : goal.returns-in-Some
unfolding options pushed starting finishing tag_name
returns-in-Some c = subst (λ b. Tells (options (Cdata b)) c.args.bytes.now c.find-in-Some.result) (sym c.in-Some.is)
    (told_behind (Except (93 ∷ 62 ∷ [])) (Cdata bracket.None ∷ []) tt c.find-in-Some.ensures refl)
