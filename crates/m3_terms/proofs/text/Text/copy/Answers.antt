-- A copy has the same bytes, so it is a text too.
use Rattle.std.proofs.Common.{◌≡◌, ◌∙◌, subst, sym, List, ℕ}
use Rattle.m3_terms.specs.Text.{IsText}
use Rattle.m3_terms.proofs.text.Text.copy.Goals as goal

pub invariant_of-result : goal.invariant_of-result
invariant_of-result c =
    let same : c.in_ok-from_slice.field-0.items ≡ c.self.inside.bytes.items =
    c.in_ok-from_slice.ensures.items ∙ c.as_slice.ensures.value
    in
    subst (λ (bytes : List ℕ). ∥ IsText bytes ∥₁) (sym same) c.self.invariant
