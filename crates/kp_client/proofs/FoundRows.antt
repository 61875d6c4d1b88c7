-- What is found among triples is found among their rows.
use Rattle.std.proofs.Common.{◌≡◌, Bool, true, false, ◌&&◌, ◌||◌, not, cond, List, [], ◌∷◌, map, Option, Some, refl, sym, ap, ◌∙◌}
use Rattle.std.specs.List.{find}
use Rattle.std.specs.Option.{option_map}
use Rattle.std.specs.Ordering.{eq_by_cmp}
use Rattle.m3_terms.specs.Order.{term_eq, triple_eq, row_eq, triple_cmp, row_cmp}
use Rattle.m3_terms.specs.OrderLaws.{triple_ties, row_ties}
use Rattle.m3_terms.specs.declared.term.Term.{Term}
use Rattle.m3_terms.specs.declared.triple.Triple.{Triple}
use Rattle.answer_bodies.specs.Lists.{is_among}
use Rattle.kp_client.specs.Mirroring.{triple_row}

-- three tests and nothing more
three_tests : (a b c : Bool) → (a && (b && (c && true))) ≡ (a && (b && c))
three_tests true true true = refl
three_tests true true false = refl
three_tests true false c = refl
three_tests false b c = refl

-- two triples are equal where their rows are
equal_rows : (a b : Triple) → row_eq (triple_row a) (triple_row b) ≡ triple_eq a b
equal_rows a b = three_tests (term_eq a.subject b.subject) (term_eq a.predicate b.predicate) (term_eq a.object b.object)

-- two triples are tied where their rows are
tied_rows : (a b : Triple) → eq_by_cmp row_cmp (triple_row a) (triple_row b) ≡ eq_by_cmp triple_cmp a b
tied_rows a b = sym (row_ties (triple_row a) (triple_row b)) ∙ equal_rows a b ∙ triple_ties a b

-- a triple is among others where its row is among theirs
pub among_rows : (triples : List Triple) (triple : Triple) → is_among row_cmp (map triple_row triples) (triple_row triple) ≡ is_among triple_cmp triples triple
among_rows [] triple = refl
among_rows (other ∷ triples) triple = λ i. tied_rows triple other i || among_rows triples triple i

-- the first of a triple and what comes behind it
found_step : (a b : Bool) (triple : Triple) (row : Option (List (Option Term))) (rest : Option Triple) → a ≡ b → row ≡ option_map triple_row rest
    → cond a (Some (triple_row triple)) row ≡ option_map triple_row (cond b (Some triple) rest)
found_step a true triple row rest same e = ap (λ t. cond t (Some (triple_row triple)) row) same
found_step a false triple row rest same e = ap (λ t. cond t (Some (triple_row triple)) row) same ∙ e

-- the first row that passes a test is that of the first triple that passes it
pub found_rows : (p : List (Option Term) → Bool) (q : Triple → Bool) → ((t : Triple) → p (triple_row t) ≡ q t) → (triples : List Triple)
    → find p (map triple_row triples) ≡ option_map triple_row (find q triples)
found_rows p q same [] = refl
found_rows p q same (triple ∷ triples) = found_step (p (triple_row triple)) (q triple) triple _ _ (same triple) (found_rows p q same triples)

-- the first of some triples that others lack
pub missing_rows : (triples others : List Triple) → find (λ row. not (is_among row_cmp (map triple_row triples) row)) (map triple_row others)
    ≡ option_map triple_row (find (λ t. not (is_among triple_cmp triples t)) others)
missing_rows triples others = found_rows _ _ (λ t. ap not (among_rows triples t)) others

-- the first of some triples that others have
pub present_rows : (triples others : List Triple) → find (λ row. is_among row_cmp (map triple_row triples) row) (map triple_row others)
    ≡ option_map triple_row (find (λ t. is_among triple_cmp triples t) others)
present_rows triples others = found_rows _ _ (λ t. among_rows triples t) others
