-- What is computed of a graph pattern and of a query is exactly what the relations say.
use Rattle.std.specs.Prelude.{◌≡◌, ◌↔◌, ℕ, List, Option, Contains}
use Rattle.m3_terms.specs.declared.term.Term.{Term}
use Rattle.m3_terms.specs.declared.triple.Triple.{Triple}
use Rattle.sparql_algebra.specs.declared.pattern.PatternTriple.{PatternTriple}
use Rattle.sparql_algebra.specs.declared.algebra.Algebra.{Algebra}
use Rattle.sparql_algebra.specs.declared.algebra.Query.{Query}
use Rattle.sparql_algebra.specs.TermSolutions.{Solution}
use Rattle.sparql_algebra.specs.Patterns.{IsBgpSolution}
use Rattle.sparql_algebra.specs.Evaluation.{IsSolution}
use Rattle.sparql_algebra.specs.Width.{AreAll, HasCount, HasWidth}
use Rattle.sparql_algebra.specs.Answers.{IsAnswer}
use Rattle.sparql_algebra.specs.Listed.{of_patterns, solutions, count_of, width_of, rows_of}

-- the solutions that are computed of a basic graph pattern are its solutions
abbrev pub PatternsAreListed : Type 0
PatternsAreListed = (patterns : List PatternTriple) (graph : List Triple) (solution : Solution)
    → Contains (of_patterns patterns graph) solution ↔ IsBgpSolution patterns graph solution

-- the solutions that are computed of a graph pattern are its solutions, each once
abbrev pub SolutionsAreListed : Type 0
SolutionsAreListed = (pattern : Algebra) (graph : List Triple) → AreAll (IsSolution pattern graph) (solutions pattern graph)

-- a graph pattern has as many distinct solutions as are computed, and no other number
abbrev pub CountIsComputed : Type 0
CountIsComputed = (pattern : Algebra) (graph : List Triple) (count : ℕ) → HasCount pattern graph count ↔ (count ≡ count_of graph pattern)

-- a graph pattern has the width that is computed, and no other
abbrev pub WidthIsComputed : Type 0
WidthIsComputed = (pattern : Algebra) (graph : List Triple) (width : ℕ) → HasWidth pattern graph width ↔ (width ≡ width_of pattern graph)

-- a query has the answer that is computed, and no other
abbrev pub AnswerIsComputed : Type 0
AnswerIsComputed = (query : Query) (graph : List Triple) (rows : List (List (Option Term))) → IsAnswer query graph rows ↔ (rows ≡ rows_of query graph)
