-- The solutions of a graph pattern, its width and the answer to a query as functions that compute, slow and plain. ListedLaws states that they
-- are exactly what IsSolution, HasWidth and IsAnswer say.
use Rattle.std.specs.Prelude.{◌≡◌, ℕ, Bool, true, false, not, List, [], ◌∷◌, ◌++◌, map, filter, filter_map, flat_map, fold, length, sum, Option, Some, None, if◌then◌else◌, refl}
use Rattle.std.specs.List.{list_any, list_all}
use Rattle.std.specs.Set.{unique_keys}
use Rattle.m3_terms.specs.Inserted.{inserted}
use Rattle.m3_terms.specs.Order.{term_eq, row_cmp}
use Rattle.m3_terms.specs.declared.term.Term.{Term}
use Rattle.m3_terms.specs.declared.term.Term.TheVariants.{Uri}
use Rattle.m3_terms.specs.declared.triple.Triple.{Triple}
use Rattle.sparql_algebra.specs.declared.pattern.Place.{Place}
use Rattle.sparql_algebra.specs.declared.pattern.Place.TheVariants.{Var, Is}
use Rattle.sparql_algebra.specs.declared.pattern.PatternTriple.{PatternTriple}
use Rattle.sparql_algebra.specs.declared.expr.Expr.{Expr}
use Rattle.sparql_algebra.specs.declared.expr.Truth.{Truth}
use Rattle.sparql_algebra.specs.declared.expr.Truth.TheVariants.{True, False, Error}
use Rattle.sparql_algebra.specs.declared.algebra.Algebra.{Algebra, more_of-Algebra, end_of-Algebra, Bgp, Join', Union', LeftJoin', Filter'}
use Rattle.sparql_algebra.specs.declared.algebra.Query.{Query}
use Rattle.sparql_algebra.specs.TermSolutions.{TermBinding, Solution, term_at, merge, same_solution, bind}
use Rattle.sparql_algebra.specs.Truth.{truth}
use Rattle.sparql_algebra.specs.Width.{parts}
use Rattle.sparql_algebra.specs.Answers.{cells}

-- a binding is to the term that there may be
abbrev pub agrees_on : TermBinding → Option Term → Bool
agrees_on own None = true
agrees_on own (Some term) = term_eq own.term term

-- no binding of the left solution has another term in the right one
abbrev pub are_compatible : Solution → Solution → Bool
are_compatible left right = list_all (λ own. agrees_on own (term_at right own.var)) left

-- the merge of two solutions, if they are compatible
abbrev pub merge_if : Solution → Solution → Option Solution
merge_if left right = if are_compatible left right then Some (merge left right) else None

-- the merges of one left solution with the right ones
abbrev pub merges_of : List Solution → Solution → List Solution
merges_of right one = filter_map (merge_if one) right

-- the merges of all compatible pairs, one from each side
abbrev pub merges : List Solution → List Solution → List Solution
merges left right = flat_map (merges_of right) left

-- a position is a term under the one solution that binds its variable so, or under that which binds nothing where it is the term, or under none
abbrev pub of_place : Place → Term → List Solution
of_place (Var var) term = (record { var = var; term = term } ∷ []) ∷ []
of_place (Is own) term = if term_eq own term then [] ∷ [] else []

-- a triple pattern is a triple where each of its positions is the triple's
abbrev pub of_triple : PatternTriple → Triple → List Solution
of_triple pattern triple =
    merges (of_place pattern.subject triple.subject) (merges (of_place pattern.predicate triple.predicate) (of_place pattern.object triple.object))

-- the solutions of a triple pattern: it is tried with each triple of the graph
abbrev pub of_pattern : List Triple → PatternTriple → List Solution
of_pattern graph pattern = flat_map (of_triple pattern) graph

-- the solutions of a basic graph pattern: those of each of its patterns merged, and without patterns the one that binds nothing
abbrev pub of_patterns : List PatternTriple → List Triple → List Solution
of_patterns [] graph = [] ∷ []
of_patterns (pattern ∷ patterns) graph = merges (of_pattern graph pattern) (of_patterns patterns graph)

-- a value is `True`
abbrev pub is_true : Truth → Bool
is_true True = true
is_true False = false
is_true Error = false

-- a condition that there may be is true for a solution
abbrev pub is_passed : Option Expr → Solution → Bool
is_passed None solution = true
is_passed (Some condition) solution = is_true (truth condition solution)

-- none of the merges of a left solution with the right ones passes the condition
abbrev pub is_alone : Option Expr → List Solution → Solution → Bool
is_alone condition right one = not (list_any (is_passed condition) (merges_of right one))

-- the merges that pass the condition, and the left solutions that stay alone
abbrev pub left_joins : Option Expr → List Solution → List Solution → List Solution
left_joins condition left right = filter (is_passed condition) (merges left right) ++ filter (is_alone condition right) left

-- the solutions of a graph pattern by its form, of which some may be there twice (a boxed pattern p is spelled `_ (more_of-Algebra p _)`)
abbrev pub found : Algebra → List Triple → List Solution
found (Bgp patterns) graph = of_patterns patterns graph
found (Join' _ (more_of-Algebra left _) _ (more_of-Algebra right _)) graph = merges (found left graph) (found right graph)
found (Union' _ (more_of-Algebra left _) _ (more_of-Algebra right _)) graph = found left graph ++ found right graph
found (LeftJoin' _ (more_of-Algebra left _) _ (more_of-Algebra right _) condition) graph = left_joins condition (found left graph) (found right graph)
found (Filter' condition _ (more_of-Algebra inner _)) graph = filter (is_passed (Some condition)) (found inner graph)

-- the solutions of a graph pattern, each once
abbrev pub solutions : Algebra → List Triple → List Solution
solutions pattern graph = unique_keys same_solution (found pattern graph)

-- how many solutions a graph pattern has
abbrev pub count_of : List Triple → Algebra → ℕ
count_of graph pattern = length (solutions pattern graph)

-- the width of a graph pattern: the sum over its parts of the number of their solutions
abbrev pub width_of : Algebra → List Triple → ℕ
width_of pattern graph = sum (map (count_of graph) (parts pattern))

-- the answer to a query: the cells of each solution put among the rows before, in their order and each once
abbrev pub rows_of : Query → List Triple → List (List (Option Term))
rows_of query graph = fold (λ rows one. inserted row_cmp (cells query.columns one) rows) [] (solutions query.pattern graph)

-- the uri of one letter, and the pattern `?s letter ?o`
abbrev uri : ℕ → Term
uri letter = Uri (letter ∷ [])

abbrev pattern_of : ℕ → ℕ → ℕ → PatternTriple
pattern_of subject letter object = record { subject = Var (record { 0 = subject }); predicate = Is (uri letter); object = Var (record { 0 = object }) }

-- the graph: `a` knows (107) `b`, `b` knows `c`, and `b` has the name (110) `d`
abbrev three_triples : List Triple
three_triples =
    record { subject = uri 97; predicate = uri 107; object = uri 98 }
    ∷ record { subject = uri 98; predicate = uri 107; object = uri 99 }
    ∷ record { subject = uri 98; predicate = uri 110; object = uri 100 }
    ∷ []

-- without patterns there is one solution, over the empty graph too
example_empty : solutions (Bgp []) [] ≡ [] ∷ []
example_empty = refl

-- two patterns in a row: whom `a` knows knows `c`
example_join : solutions (Bgp (pattern_of 0 107 1 ∷ pattern_of 1 107 2 ∷ [])) three_triples ≡ (bind 0 (uri 97) ∷ bind 1 (uri 98) ∷ bind 2 (uri 99) ∷ []) ∷ []
example_join = refl

-- who is known, and the name if there is one
abbrev known_named : Algebra
known_named = LeftJoin' tt (more_of-Algebra (Bgp (pattern_of 0 107 1 ∷ [])) end_of-Algebra) tt (more_of-Algebra (Bgp (pattern_of 1 110 2 ∷ [])) end_of-Algebra) None

-- `b` has a name; for `c` the OPTIONAL finds nothing, and its solution stays alone
example_optional : solutions known_named three_triples ≡ (bind 0 (uri 97) ∷ bind 1 (uri 98) ∷ bind 2 (uri 100) ∷ []) ∷ (bind 0 (uri 98) ∷ bind 1 (uri 99) ∷ []) ∷ []
example_optional = refl

-- both sides have the same two solutions, which stand once
example_union : solutions (Union' tt (more_of-Algebra (Bgp (pattern_of 0 107 1 ∷ [])) end_of-Algebra) tt (more_of-Algebra (Bgp (pattern_of 0 107 1 ∷ [])) end_of-Algebra)) three_triples
    ≡ (bind 0 (uri 97) ∷ bind 1 (uri 98) ∷ []) ∷ (bind 0 (uri 98) ∷ bind 1 (uri 99) ∷ []) ∷ []
example_union = refl

-- the OPTIONAL has 2 solutions, its left side 2 and its right side 1
example_width : width_of known_named three_triples ≡ 5
example_width = refl

-- the row with the unbound name comes first
example_rows : rows_of (record { names = []; columns = record { 0 = 2 } ∷ record { 0 = 0 } ∷ []; pattern = known_named }) three_triples
    ≡ (None ∷ Some (uri 98) ∷ []) ∷ (Some (uri 100) ∷ Some (uri 97) ∷ []) ∷ []
example_rows = refl

-- a triple that stands twice in the graph counts once
example_double : count_of (record { subject = uri 97; predicate = uri 107; object = uri 98 } ∷ three_triples) (Bgp (pattern_of 0 107 1 ∷ [])) ≡ 2
example_double = refl
