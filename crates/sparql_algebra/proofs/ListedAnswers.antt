-- The rows that are computed of a query are its one answer.
use Rattle.std.proofs.Common.{◌≡◌, ◌↔◌, inl, inr, List, [], Option, sym, subst}
use Rattle.std.proofs.lemmas.Map.Lookups.{CmpEqualImpliesEq}
use Rattle.std.specs.List.Sorted.{IsStrictlySortedBy}
use Rattle.m3_terms.specs.Order.{row_cmp}
use Rattle.m3_terms.specs.OrderLaws.{row_cmp_total, row_cmp_exact}
use Rattle.m3_terms.specs.declared.term.Term.{Term}
use Rattle.m3_terms.specs.declared.triple.Triple.{Triple}
use Rattle.sparql_algebra.specs.declared.algebra.Query.{Query}
use Rattle.sparql_algebra.specs.Answers.{cells, IsAnswer}
use Rattle.sparql_algebra.specs.Listed.{solutions, rows_of}
use Rattle.sparql_algebra.proofs.Gathered.{none_in}
use Rattle.sparql_algebra.proofs.ListMembers.{sorted_one, put_all_sorted, put_all_from, put_all_to}
use Rattle.sparql_algebra.proofs.ListedSolutions.{solutions_exact}

nil_ordered : IsStrictlySortedBy row_cmp []
unfolding IsStrictlySortedBy
nil_ordered = tt

rows_one : CmpEqualImpliesEq row_cmp
rows_one a b = (row_cmp_exact a b).0

-- the rows that are computed are the projections of the solutions
rows_answer : (query : Query) (graph : List Triple) → IsAnswer query graph (rows_of query graph)
rows_answer query graph =
    let all = solutions_exact query.pattern graph in
    let listed = solutions query.pattern graph in
    record {
      ordered = put_all_sorted row_cmp_total rows_one (cells query.columns) [] listed nil_ordered;
      exactly = λ row. (
        λ c. elim (put_all_from row_cmp_total rows_one (cells query.columns) [] listed row c) [
          | inl none ↦ absurd (none_in row none)
          | inr from ↦ (from.0, (all.exactly from.0).0 from.1, from.2)
        ],
        λ h. put_all_to row_cmp_total rows_one (cells query.columns) [] listed h.0 row ((all.exactly h.0).1 h.1) h.2,
      );
    }

one_answer : (query : Query) (graph : List Triple) (xs ys : List (List (Option Term))) → IsAnswer query graph xs → IsAnswer query graph ys → xs ≡ ys
one_answer query graph xs ys a b = sorted_one row_cmp_total xs ys a.ordered b.ordered (λ row. (
  λ c. (b.exactly row).1 ((a.exactly row).0 c),
  λ c. (a.exactly row).1 ((b.exactly row).0 c),
))

pub answer_exact : (query : Query) (graph : List Triple) (rows : List (List (Option Term))) → IsAnswer query graph rows ↔ (rows ≡ rows_of query graph)
answer_exact query graph rows = (
  λ a. one_answer query graph rows (rows_of query graph) a (rows_answer query graph),
  λ e. subst (IsAnswer query graph) (sym e) (rows_answer query graph),
)
