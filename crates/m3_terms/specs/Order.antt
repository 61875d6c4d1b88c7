-- The order of texts, terms, triples and rows.
use Rattle.std.specs.Prelude.{◌≡◌, ℕ, Bool, List, [], ◌∷◌, Option, None, Some, nat_eq, refl}
use Rattle.std.specs.Option.{option_eq, option_cmp}
use Rattle.std.specs.Cmp.Lexicographic.{slice_cmp, pointwise}
use Rattle.std.specs.declared.cmp.Ordering.{Ordering}
use Rattle.std.specs.declared.cmp.Ordering.TheVariants.{Less, Greater}
use Rattle.std.specs.Ordering.{nat_cmp, on, then_cmp, eq_of_both}
use Rattle.m3_terms.specs.declared.term.Term.{Term}
use Rattle.m3_terms.specs.declared.term.Term.TheVariants.{Uri, Literal}
use Rattle.m3_terms.specs.declared.triple.Triple.{Triple}

-- two texts are ordered by their bytes
abbrev pub text_cmp : List ℕ → List ℕ → Ordering
text_cmp = slice_cmp nat_cmp

-- whether two texts have the same bytes
abbrev pub text_eq : List ℕ → List ℕ → Bool
text_eq = pointwise nat_eq

-- where a term's kind stands: a uri before a literal
abbrev pub kind : Term → ℕ
kind (Uri text) = 0
kind (Literal text) = 1

-- the bytes of a term's text
abbrev pub text_of : Term → List ℕ
text_of (Uri text) = text
text_of (Literal text) = text

-- a uri comes before a literal, and terms of one kind are ordered by their texts
abbrev pub term_cmp : Term → Term → Ordering
term_cmp = then_cmp (on kind nat_cmp) (on text_of text_cmp)

-- whether two terms have the same kind and the same text
abbrev pub term_eq : Term → Term → Bool
term_eq = eq_of_both (on kind nat_eq) (on text_of text_eq)

-- triples are ordered by subject, then by predicate, then by object
abbrev pub triple_cmp : Triple → Triple → Ordering
triple_cmp = then_cmp (on (λ t. t.subject) term_cmp) (then_cmp (on (λ t. t.predicate) term_cmp) (on (λ t. t.object) term_cmp))

-- whether two triples have the same subject, predicate and object
abbrev pub triple_eq : Triple → Triple → Bool
triple_eq = eq_of_both (on (λ t. t.subject) term_eq) (eq_of_both (on (λ t. t.predicate) term_eq) (on (λ t. t.object) term_eq))

-- an unbound cell comes before a bound one, and bound cells are ordered by their terms
abbrev pub cell_cmp : Option Term → Option Term → Ordering
cell_cmp = option_cmp term_cmp

-- whether two cells are both unbound, or have the same term
abbrev pub cell_eq : Option Term → Option Term → Bool
cell_eq = option_eq term_eq

-- rows are ordered by their cells in the order of columns
abbrev pub row_cmp : List (Option Term) → List (Option Term) → Ordering
row_cmp = slice_cmp cell_cmp

-- whether two rows have the same cells
abbrev pub row_eq : List (Option Term) → List (Option Term) → Bool
row_eq = pointwise cell_eq

-- the uri `b` comes before the literal `a`
uri_first : term_cmp (Uri (98 ∷ [])) (Literal (97 ∷ [])) ≡ Less
uri_first = refl

-- a text comes after each of its prefixes
prefix_first : term_cmp (Literal (97 ∷ 98 ∷ [])) (Literal (97 ∷ [])) ≡ Greater
prefix_first = refl

-- a row with an unbound cell comes before one with a term there
unbound_first : row_cmp (Some (Uri (97 ∷ [])) ∷ None ∷ []) (Some (Uri (97 ∷ [])) ∷ Some (Uri (97 ∷ [])) ∷ []) ≡ Less
unbound_first = refl
