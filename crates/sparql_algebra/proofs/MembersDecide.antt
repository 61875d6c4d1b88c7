-- What solves a pattern depends on the members of the graph alone, and so do the pattern's width and the rows of a query.
use Rattle.std.proofs.Common.{◌≡◌, ◌↔◌, inl, inr, List, [], ◌∷◌, Contains, map, sum, refl, ap}
use Rattle.std.specs.List.{AllByRecursion}
use Rattle.m3_terms.specs.declared.triple.Triple.{Triple}
use Rattle.sparql_algebra.specs.declared.pattern.PatternTriple.{PatternTriple}
use Rattle.sparql_algebra.specs.declared.algebra.Algebra.{Algebra, more_of-Algebra, Bgp, Join', Union', LeftJoin', Filter'}
use Rattle.sparql_algebra.specs.declared.algebra.Query.{Query}
use Rattle.sparql_algebra.specs.Merged.{IsJoined}
use Rattle.sparql_algebra.specs.Patterns.{Meets}
use Rattle.sparql_algebra.specs.TermSolutions.{Solution, term_var}
use Rattle.sparql_algebra.specs.Evaluation.{IsSolution}
use Rattle.sparql_algebra.specs.Width.{AreAll, parts}
use Rattle.sparql_algebra.specs.Listed.{solutions, count_of, width_of, rows_of}
use Rattle.sparql_algebra.proofs.ListedSolutions.{solutions_exact, count_exact}
use Rattle.sparql_algebra.proofs.ListedAnswers.{answer_exact}

-- two graphs have the same triples
abbrev pub HaveSame : List Triple → List Triple → Type 0
HaveSame one other = (triple : Triple) → Contains one triple ↔ Contains other triple

pub have_same_back : (one other : List Triple) → HaveSame one other → HaveSame other one
have_same_back one other same triple = ((same triple).1, (same triple).0)

-- what makes a triple of the one graph makes it of the other
all_meet : (one other : List Triple) → HaveSame one other → (solution : Solution) (patterns : List PatternTriple)
    → AllByRecursion (Meets one solution) patterns → AllByRecursion (Meets other solution) patterns
all_meet one other same solution [] met = tt
all_meet one other same solution (pattern ∷ patterns) met =
    ((met.0.0, (same met.0.0).0 met.0.1, met.0.2), all_meet one other same solution patterns met.1)

-- merges of what the sides have are merges of what other sides have
joined : (Left Other Right Another : Solution → Type 0) → ((s : Solution) → Left s → Other s) → ((s : Solution) → Right s → Another s)
    → (s : Solution) → IsJoined term_var Left Right s → IsJoined term_var Other Another s
joined Left Other Right Another f g s j = record {
  left = j.left;
  right = j.right;
  in_left = f j.left j.in_left;
  in_right = g j.right j.in_right;
  compatible = j.compatible;
  merges = j.merges;
}

-- what solves a pattern over the one graph solves it over the other
pub solves : (pattern : Algebra) (one other : List Triple) → HaveSame one other → (s : Solution) → IsSolution pattern one s → IsSolution pattern other s
solves (Bgp patterns) one other same s h = record { ordered = h.ordered; exactly = h.exactly; triples = all_meet one other same s patterns h.triples }
solves (Join' a (more_of-Algebra left p) b (more_of-Algebra right q)) one other same s h =
    joined (IsSolution left one) (IsSolution left other) (IsSolution right one) (IsSolution right other) (solves left one other same) (solves right one other same) s h
solves (Union' a (more_of-Algebra left p) b (more_of-Algebra right q)) one other same s (inl h) = inl (solves left one other same s h)
solves (Union' a (more_of-Algebra left p) b (more_of-Algebra right q)) one other same s (inr h) = inr (solves right one other same s h)
solves (LeftJoin' a (more_of-Algebra left p) b (more_of-Algebra right q) condition) one other same s (inl h) = inl (
  joined (IsSolution left one) (IsSolution left other) (IsSolution right one) (IsSolution right other) (solves left one other same) (solves right one other same) s h.0,
  h.1,
)
solves (LeftJoin' a (more_of-Algebra left p) b (more_of-Algebra right q) condition) one other same s (inr h) = inr (
  solves left one other same s h.0,
  λ solution there fits passes. h.1 solution (solves right other one (have_same_back one other same) solution there) fits passes,
)
solves (Filter' condition a (more_of-Algebra inner p)) one other same s h = (solves inner one other same s h.0, h.1)

module _ (one other : List Triple) (same : HaveSame one other) where
  -- so a pattern has as many solutions over both
  same_count : (pattern : Algebra) → count_of one pattern ≡ count_of other pattern
  same_count pattern =
      let all = solutions_exact pattern one in
      let carried : AreAll (IsSolution pattern other) (solutions pattern one) = record {
        distinct = all.distinct;
        exactly = λ s. (
          λ c. solves pattern one other same s ((all.exactly s).0 c),
          λ h. (all.exactly s).1 (solves pattern other one (have_same_back one other same) s h),
        );
      } in
      (count_exact pattern other (count_of one pattern)).0 (solutions pattern one, carried, refl)

  same_counts : (patterns : List Algebra) → map (count_of one) patterns ≡ map (count_of other) patterns
  same_counts [] = refl
  same_counts (pattern ∷ patterns) = λ i. same_count pattern i ∷ same_counts patterns i

  -- and the same width
  pub same_width : (pattern : Algebra) → width_of pattern one ≡ width_of pattern other
  same_width pattern = ap sum (same_counts (parts pattern))

  -- what answers a query over the one graph answers it over the other
  pub same_rows : (query : Query) → rows_of query one ≡ rows_of query other
  same_rows query =
      let answer = (answer_exact query one (rows_of query one)).1 refl in
      (answer_exact query other (rows_of query one)).0 (record {
        ordered = answer.ordered;
        exactly = λ row. (
          λ c. (let from = (answer.exactly row).0 c in (from.0, solves query.pattern one other same from.0 from.1, from.2)),
          λ h. (answer.exactly row).1 (h.0, solves query.pattern other one (have_same_back one other same) h.0 h.1, h.2),
        );
      })
