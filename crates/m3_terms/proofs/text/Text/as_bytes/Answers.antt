use Rattle.std.proofs.Common.{subst, sym}
use Rattle.m3_terms.specs.Text.{IsText}
use Rattle.m3_terms.proofs.TextHad.{IsText-had}
use Rattle.m3_terms.proofs.text.Text.as_bytes.Goals as goal

pub returns-clause-text : goal.returns-clause-text
returns-clause-text c =
    IsText-had _ (subst (λ bytes. ∥ IsText bytes ∥₁) (sym c.as_slice.ensures.value) c.self.invariant)
