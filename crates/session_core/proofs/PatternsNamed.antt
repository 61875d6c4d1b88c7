-- Patterns of which those before an index were gone through.
use Rattle.std.proofs.Common.{◌≡◌, ℕ, ◌+◌, ◌<◌, ◌≤◌, List, [], ◌∷◌, ◌++◌, length, get_or, take, filter_map, Option, refl, sym, ap, ◌∙◌, append_assoc}
use Rattle.std.proofs.lemmas.List.{take_more, take_all, append-nil}
use Rattle.m3_terms.specs.declared.term.Term.{Term}
use Rattle.m3_terms.specs.declared.pattern.Pattern.{Pattern}
use Rattle.session_core.specs.Graph.{terms_of_pattern, terms_of}

terms_of-append : (xs ys : List Pattern) → terms_of (xs ++ ys) ≡ terms_of xs ++ terms_of ys
terms_of-append [] ys = refl
terms_of-append (x ∷ xs) ys = ap (λ l. terms_of_pattern x ++ l) (terms_of-append xs ys) ∙ sym (append_assoc (terms_of_pattern x) (terms_of xs) (terms_of ys))

pub named_more : (xs : List Pattern) (at : ℕ) (d : Pattern) (old new : List Term) → at < length xs → old ≡ terms_of (take at xs)
    → new ≡ old ++ terms_of_pattern (get_or xs at d) → new ≡ terms_of (take (at + 1) xs)
named_more xs at d old new h e f =
    f ∙ ap (λ l. l ++ terms_of_pattern (get_or xs at d)) e
    ∙ ap (λ l. terms_of (take at xs) ++ l) (sym (append-nil (terms_of_pattern (get_or xs at d))))
    ∙ sym (terms_of-append (take at xs) (get_or xs at d ∷ []))
    ∙ ap terms_of (sym (take_more xs at d h))

pub named_all : (xs : List Pattern) (at : ℕ) (terms : List Term) → length xs ≤ at → terms ≡ terms_of (take at xs) → terms ≡ terms_of xs
named_all xs at terms h e = e ∙ ap terms_of (take_all at xs h)

module _ {X Y : Type 0} (f : X → Option Y) where
  pub mapped_all : (xs : List X) (at : ℕ) (ys : List Y) → length xs ≤ at → ys ≡ filter_map f (take at xs) → ys ≡ filter_map f xs
  mapped_all xs at ys h e = e ∙ ap (filter_map f) (take_all at xs h)
