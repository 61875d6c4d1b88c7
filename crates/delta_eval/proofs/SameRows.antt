-- What lists of rows are depends on their rows alone.
use Rattle.std.proofs.Common.{◌≡◌, ◌∙◌, ◌↔◌, ℕ, List, Contains, Option, sym, ap, subst}
use Rattle.std.specs.List.Sorted.{IsStrictlySortedBy}
use Rattle.m3_terms.specs.TermTable.{NamesOnce}
use Rattle.m3_terms.specs.declared.term.Term.{Term}
use Rattle.m3_terms.specs.declared.triple.Triple.{Triple}
use Rattle.sparql_algebra.specs.declared.algebra.Algebra.{Algebra}
use Rattle.sparql_algebra.specs.declared.algebra.Query.{Query}
use Rattle.sparql_algebra.specs.declared.mapping.Binding.{Binding}
use Rattle.sparql_algebra.specs.Evaluation.{IsSolution}
use Rattle.sparql_algebra.specs.Projected.{projected}
use Rattle.sparql_algebra.specs.RowSets.{AreExactly, IsProjectedRow}
use Rattle.sparql_algebra.specs.Solutions.{RowList, var_cmp}
use Rattle.sparql_algebra.specs.TermSolutions.{solution_in}
use Rattle.sparql_algebra.proofs.ListMembers.{all_in, in_all_of}
use Rattle.pattern_join.specs.Bgp.{StandsFor}
use Rattle.query_eval.specs.Answered.{AreAnswer}
use Rattle.query_eval.specs.PartRows.{AreRowsOf}
use Rattle.query_eval.proofs.Counts.{stands_once}

-- two lists have the same rows, in any order
abbrev pub HaveSame : List (List Binding) → List (List Binding) → Type 0
HaveSame one other = (row : List Binding) → Contains one row ↔ Contains other row

-- rows that are equal are the same
pub equal_same : (one other : List (List Binding)) → one ≡ other → HaveSame one other
equal_same one other e row = (λ c. subst (λ l. Contains l row) e c, λ c. subst (λ l. Contains l row) (sym e) c)

pub exactly_same : (Holds : List Binding → Type 0) (one other : List (List Binding)) → HaveSame one other → AreExactly Holds one → AreExactly Holds other
exactly_same Holds one other same p row = (λ c. (p row).0 ((same row).1 c), λ h. (same row).0 ((p row).1 h))

module _ (terms : ℕ → Option Term) (graph : List Triple) where
  -- rows of a pattern
  pub rows_same : (pattern : Algebra) (one other : RowList) → HaveSame one.rows other.rows → AreRowsOf terms graph pattern one → AreRowsOf terms graph pattern other
  rows_same pattern one other same r = record {
    solutions = record {
      each = λ row c. r.solutions.each row ((same row).1 c);
      all = λ s h. (let p = r.solutions.all s h in (p.0, (same p.0).0 p.1, p.2));
    };
    rising = all_in (IsStrictlySortedBy var_cmp) other.rows (λ row c. in_all_of (IsStrictlySortedBy var_cmp) one.rows row r.rising ((same row).1 c));
  }

  -- answers to a query
  pub answer_same : (query : Query) (one other : List (List Binding)) → HaveSame one other → AreAnswer terms query graph one → AreAnswer terms query graph other
  answer_same query one other same a = record {
    each = λ row c. a.each row ((same row).1 c);
    all = λ s h. (let p = a.all s h in record { full = p.full; has_terms = p.has_terms; stands = p.stands; there = (same (projected query.columns p.full)).0 p.there });
  }

  -- where no two numbers have one term, an answer has exactly the projections of the rows that stand for solutions
  pub answer_exact : NamesOnce terms → (query : Query) (rows : List (List Binding)) → AreAnswer terms query graph rows
      → AreExactly (IsProjectedRow query.columns (StandsFor terms (IsSolution query.pattern graph))) rows
  answer_exact once query rows a row = (
    a.each row,
    λ h.
        let p = a.all (solution_in terms h.0) h.1.1 in
        let one : p.full ≡ h.0 = stands_once terms once p.full h.0 p.has_terms h.1.0 p.stands in
        subst (Contains rows) (ap (projected query.columns) one ∙ sym h.2) p.there,
  )
