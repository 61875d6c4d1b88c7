-- The width that is computed of a graph pattern is its one width.
use Rattle.std.proofs.Common.{◌≡◌, ◌∙◌, ◌↔◌, ℕ, List, [], ◌∷◌, map, sum, refl, ap}
use Rattle.m3_terms.specs.declared.triple.Triple.{Triple}
use Rattle.sparql_algebra.specs.declared.algebra.Algebra.{Algebra}
use Rattle.sparql_algebra.specs.Width.{parts, HaveCounts, HasWidth}
use Rattle.sparql_algebra.specs.Listed.{count_of, width_of}
use Rattle.sparql_algebra.proofs.ListedSolutions.{count_exact}

-- the counts of some patterns are those that are computed
counts_are : (graph : List Triple) (patterns : List Algebra) (counts : List ℕ) → HaveCounts graph patterns counts → counts ≡ map (count_of graph) patterns
counts_are graph [] [] h = refl
counts_are graph [] (count ∷ counts) h = absurd h
counts_are graph (pattern ∷ patterns) [] h = absurd h
counts_are graph (pattern ∷ patterns) (count ∷ counts) h =
    let first : count ≡ count_of graph pattern = (count_exact pattern graph count).0 h.0 in
    let rest : counts ≡ map (count_of graph) patterns = counts_are graph patterns counts h.1 in
    λ i. first i ∷ rest i

have_counts : (graph : List Triple) (patterns : List Algebra) → HaveCounts graph patterns (map (count_of graph) patterns)
have_counts graph [] = tt
have_counts graph (pattern ∷ patterns) = ((count_exact pattern graph (count_of graph pattern)).1 refl, have_counts graph patterns)

pub width_exact : (pattern : Algebra) (graph : List Triple) (width : ℕ) → HasWidth pattern graph width ↔ (width ≡ width_of pattern graph)
width_exact pattern graph width = (
  λ h. h.2 ∙ ap sum (counts_are graph (parts pattern) h.0 h.1),
  λ e. (map (count_of graph) (parts pattern), have_counts graph (parts pattern), e),
)
