-- The solutions of a graph pattern over a graph (SPARQL 1.1, section 18.5), as sets: without multiplicities.
use Rattle.std.specs.Prelude.{◌≡◌, ◌⊎◌, List, Option, Some, None, ⊤}
use Rattle.m3_terms.specs.declared.triple.Triple.{Triple}
use Rattle.sparql_algebra.specs.declared.expr.Expr.{Expr}
use Rattle.sparql_algebra.specs.declared.expr.Truth.TheVariants.{True}
use Rattle.sparql_algebra.specs.declared.algebra.Algebra.{Algebra, more_of-Algebra, Bgp, Join', Union', LeftJoin', Filter'}
use Rattle.sparql_algebra.specs.Merged.{IsJoined, IsLeftJoined}
use Rattle.sparql_algebra.specs.TermSolutions.{Solution, term_var}
use Rattle.sparql_algebra.specs.Truth.{truth}
use Rattle.sparql_algebra.specs.Patterns.{IsBgpSolution}

-- a condition is true for a solution; where there is none it counts as true
abbrev pub Passes : Option Expr → Solution → Type 0
Passes None solution = ⊤
Passes (Some condition) solution = truth condition solution ≡ True

-- a solution of a graph pattern over a graph, by the pattern's form (a boxed pattern p is spelled `_ (more_of-Algebra p _)`)
abbrev pub IsSolution : Algebra → List Triple → Solution → Type 0
IsSolution (Bgp patterns) graph solution = IsBgpSolution patterns graph solution
IsSolution (Join' _ (more_of-Algebra left _) _ (more_of-Algebra right _)) graph solution = IsJoined term_var (IsSolution left graph) (IsSolution right graph) solution
IsSolution (Union' _ (more_of-Algebra left _) _ (more_of-Algebra right _)) graph solution = IsSolution left graph solution ⊎ IsSolution right graph solution
IsSolution (LeftJoin' _ (more_of-Algebra left _) _ (more_of-Algebra right _) condition) graph solution =
    IsLeftJoined term_var (IsSolution left graph) (IsSolution right graph) (Passes condition) solution
IsSolution (Filter' condition _ (more_of-Algebra inner _)) graph solution = IsSolution inner graph solution × (truth condition solution ≡ True)
