-- Declarations are added one at a time.
use Rattle.std.proofs.Common.{[], ◌∷◌, ◌++◌, sym, ◌∙◌, ap, append_assoc}
use Rattle.std.proofs.lemmas.List.{append-nil}
use Rattle.sparql_text.specs.Scope.{declaration_of, declarations_of}
use Rattle.sparql_text.specs.Naming.{DeclarationsGrow}

pub declarations_grow : DeclarationsGrow
declarations_grow [] first second third = append-nil (declaration_of first second third)
declarations_grow (a ∷ []) first second third =
    ap (λ l. declaration_of a first second ++ l) (append-nil (declaration_of first second third))
    ∙ ap (λ l. l ++ declaration_of first second third) (sym (append-nil (declaration_of a first second)))
declarations_grow (a ∷ b ∷ []) first second third =
    ap (λ l. declaration_of a b first ++ l) (declarations_grow (b ∷ []) first second third)
    ∙ sym (append_assoc (declaration_of a b first) (declarations_of (b ∷ first ∷ second ∷ [])) (declaration_of first second third))
declarations_grow (a ∷ b ∷ c ∷ tokens) first second third =
    ap (λ l. declaration_of a b c ++ l) (declarations_grow (b ∷ c ∷ tokens) first second third)
    ∙ sym (append_assoc (declaration_of a b c) (declarations_of ((b ∷ c ∷ tokens) ++ first ∷ second ∷ [])) (declaration_of first second third))
