-- The place of a name among those that are pointed to.
use Rattle.std.proofs.Common.{◌≡◌, ℕ, ◌+◌, not, cond, List, [], ◌∷◌, refl, ap}
use Rattle.std.specs.List.{position_or_len}
use Rattle.std.specs.Borrow.{Bor}
use Rattle.m3_terms.specs.Order.{text_eq}
use Rattle.sparql_text.specs.Naming.{texts}

pub place_in_texts : (name : List ℕ) (variables : List (Bor (List ℕ)))
    → position_or_len (λ (known : Bor (List ℕ)). text_eq name known.now) variables ≡ position_or_len (text_eq name) (texts variables)
place_in_texts name [] = refl
place_in_texts name (known ∷ variables) = ap (λ n. cond (not (text_eq name known.now)) (1 + n) 0) (place_in_texts name variables)
