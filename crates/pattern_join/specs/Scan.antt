-- How many triples are read for a basic graph pattern that is met one triple pattern after another.
use Rattle.std.specs.Prelude.{◌≡◌, ℕ, ◌+◌, Bool, true, ◌&&◌, List, [], ◌∷◌, length, filter, filter_map, sum_by, Option, None, Some, if◌then◌else◌, refl}
use Rattle.std.specs.Option.{option_and_then}
use Rattle.m3_terms.specs.Inserted.{inserted}
use Rattle.m3_terms.specs.Order.{term_eq}
use Rattle.m3_terms.specs.declared.term.Term.{Term}
use Rattle.m3_terms.specs.declared.term.Term.TheVariants.{Uri}
use Rattle.m3_terms.specs.declared.triple.Triple.{Triple}
use Rattle.sparql_algebra.specs.declared.pattern.Place.{Place}
use Rattle.sparql_algebra.specs.declared.pattern.Place.TheVariants.{Var, Is}
use Rattle.sparql_algebra.specs.declared.pattern.PatternTriple.{PatternTriple}
use Rattle.sparql_algebra.specs.Merged.{by_var}
use Rattle.sparql_algebra.specs.TermSolutions.{Solution, term_var, term_at, bind}

-- what a solution puts into a position: the term of its variable, or none where that is free; a term stays
abbrev pub put_in : Solution → Place → Option Term
put_in solution (Var var) = term_at solution var
put_in solution (Is own) = Some own

-- a free position admits each term, and any other its own term alone
abbrev pub admits_term : Option Term → Term → Bool
admits_term None term = true
admits_term (Some own) term = term_eq own term

-- a triple fits a triple pattern into which a solution is put
abbrev pub fits_under : Solution → PatternTriple → Triple → Bool
fits_under solution pattern triple = admits_term (put_in solution pattern.subject) triple.subject
    && admits_term (put_in solution pattern.predicate) triple.predicate && admits_term (put_in solution pattern.object) triple.object

-- a solution in which the variable in a position, if there is one, is bound to this term
abbrev pub with_place : Place → Term → Solution → Solution
with_place (Var var) term solution = inserted (by_var term_var) (record { var = var; term = term }) solution
with_place (Is own) term solution = solution

-- a solution extended by the term in a position, if the position admits it
abbrev pub extended_at : Place → Term → Solution → Option Solution
extended_at place term solution = if admits_term (put_in solution place) term then Some (with_place place term solution) else None

-- a solution extended by a triple, position by position; it is not where a variable would have two terms
abbrev pub extended_by : PatternTriple → Triple → Solution → Option Solution
extended_by pattern triple solution = option_and_then (extended_at pattern.object triple.object)
    (option_and_then (extended_at pattern.predicate triple.predicate) (extended_at pattern.subject triple.subject solution))

-- how many triples are read: those that fit the first pattern, and for each that extends the solution those that are read
-- for the patterns behind it with the extended solution
abbrev pub scan : List PatternTriple → Solution → List Triple → ℕ
scan [] solution graph = 0
scan (pattern ∷ rest) solution graph = length (filter (fits_under solution pattern) graph)
    + sum_by (λ extended. scan rest extended graph) (filter_map (λ triple. extended_by pattern triple solution) graph)

-- the uri of this letter
abbrev letter : ℕ → Term
letter byte = Uri (byte ∷ [])

-- the triple of these letters
abbrev spelled : ℕ → ℕ → ℕ → Triple
spelled subject predicate object = record { subject = letter subject; predicate = letter predicate; object = letter object }

-- the pattern `?x p ?y`, by the numbers of its variables
abbrev linked : ℕ → ℕ → PatternTriple
linked x y = record { subject = Var (record { 0 = x }); predicate = Is (letter 112); object = Var (record { 0 = y }) }

-- the graph of `a p b`, `b p a` and `a p a`
abbrev ring : List Triple
ring = spelled 97 112 98 ∷ spelled 98 112 97 ∷ spelled 97 112 97 ∷ []

-- each triple is read for the first pattern; behind `a p b` one is read for the second, and two behind each other triple
example_scan : scan (linked 0 1 ∷ linked 1 2 ∷ []) [] ring ≡ 3 + (1 + 2 + 2)
example_scan = refl

-- a variable that stands twice in a pattern is free until it is bound, so each triple is read, and only `a p a` extends the solution
example_twice : scan (linked 0 0 ∷ linked 0 1 ∷ []) [] ring ≡ 3 + 2
example_twice = refl

-- a bound variable is put in
example_bound : scan (linked 0 1 ∷ []) (bind 0 (letter 98) ∷ []) ring ≡ 1
example_bound = refl

-- nothing is read for no patterns
example_no_patterns : scan [] [] ring ≡ 0
example_no_patterns = refl
