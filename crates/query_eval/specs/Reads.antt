-- How many triples are read for a graph pattern.
use Rattle.std.specs.Prelude.{◌≡◌, ℕ, ◌+◌, List, [], ◌∷◌, ◌++◌, sum_by, refl}
use Rattle.m3_terms.specs.declared.triple.Triple.{Triple}
use Rattle.sparql_algebra.specs.declared.expr.Expr.{Bound}
use Rattle.m3_terms.specs.declared.term.Term.{Term}
use Rattle.m3_terms.specs.declared.term.Term.TheVariants.{Uri}
use Rattle.sparql_algebra.specs.declared.pattern.Place.TheVariants.{Var, Is}
use Rattle.sparql_algebra.specs.declared.pattern.PatternTriple.{PatternTriple}
use Rattle.sparql_algebra.specs.declared.algebra.Algebra.{Algebra, more_of-Algebra, end_of-Algebra, Bgp, Join', Union', LeftJoin', Filter'}
use Rattle.pattern_join.specs.Scan.{scan}

-- the basic graph patterns of a graph pattern, as they are written
abbrev pub bgps : Algebra → List (List PatternTriple)
bgps (Bgp patterns) = patterns ∷ []
bgps (Join' _ (more_of-Algebra left _) _ (more_of-Algebra right _)) = bgps left ++ bgps right
bgps (Union' _ (more_of-Algebra left _) _ (more_of-Algebra right _)) = bgps left ++ bgps right
bgps (LeftJoin' _ (more_of-Algebra left _) _ (more_of-Algebra right _) condition) = bgps left ++ bgps right
bgps (Filter' condition _ (more_of-Algebra inner _)) = bgps inner

-- the triples that are read for a graph pattern: the sum over its basic graph patterns
abbrev pub reads : Algebra → List Triple → ℕ
reads pattern graph = sum_by (λ patterns. scan patterns [] graph) (bgps pattern)

-- the uri of this letter, and the pattern `?x p ?y` by the numbers of its variables
abbrev letter : ℕ → Term
letter byte = Uri (byte ∷ [])

abbrev linked : ℕ → ℕ → PatternTriple
linked x y = record { subject = Var (record { 0 = x }); predicate = Is (letter 112); object = Var (record { 0 = y }) }

-- the graph of `a p b`, `b p a` and `a p a`
abbrev ring : List Triple
ring =
    record { subject = letter 97; predicate = letter 112; object = letter 98 }
    ∷ record { subject = letter 98; predicate = letter 112; object = letter 97 }
    ∷ record { subject = letter 97; predicate = letter 112; object = letter 97 }
    ∷ []

-- the patterns `?x p ?y`, and `?x p ?y . ?y p ?z`
abbrev one : Algebra
one = Bgp (linked 0 1 ∷ [])

abbrev two : Algebra
two = Bgp (linked 0 1 ∷ linked 1 2 ∷ [])

-- both sides of a UNION are read, whatever they share
example_union : reads (Union' tt (more_of-Algebra one end_of-Algebra) tt (more_of-Algebra two end_of-Algebra)) ring ≡ 3 + 8
example_union = refl

-- nothing more is read for the condition of a FILTER
example_filter : bgps (Filter' (Bound (record { 0 = 1 })) tt (more_of-Algebra two end_of-Algebra)) ≡ (linked 0 1 ∷ linked 1 2 ∷ []) ∷ []
example_filter = refl

-- the empty pattern reads nothing
example_empty : reads (Bgp []) ring ≡ 0
example_empty = refl
