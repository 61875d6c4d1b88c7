-- The solutions that are computed of a graph pattern are exactly its solutions, operator by operator.
use Rattle.std.proofs.Common.{◌≡◌, ◌∙◌, ◌↔◌, ◌⊎◌, inl, inr, ℕ, Bool, true, false, not, List, ◌++◌, filter, length, Option, None, Some, Contains, refl, sym, subst}
use Rattle.std.proofs.lemmas.List.Elements.{Contains-append_left, Contains-append_right, Contains-append_cases}
use Rattle.std.specs.Bool.{Decides}
use Rattle.std.specs.Cmp.{IsEquivalence, and_equiv, on_equiv, nat_eq_equiv, first_so, second_so}
use Rattle.std.specs.Cmp.Lexicographic.{lists_equiv, pointwise_decides}
use Rattle.std.proofs.lemmas.Bool.{eqb-true, not-true}
use Rattle.std.specs.List.{list_any}
use Rattle.std.specs.Ordering.{on, eq_of_both}
use Rattle.std.specs.Prelude.{nat_eq}
use Rattle.m3_terms.specs.Order.{term_eq}
use Rattle.m3_terms.specs.OrderLaws.{term_eq_equiv, term_exact}
use Rattle.m3_terms.specs.declared.triple.Triple.{Triple}
use Rattle.sparql_algebra.specs.declared.expr.Expr.{Expr}
use Rattle.sparql_algebra.specs.declared.expr.Truth.{Truth}
use Rattle.sparql_algebra.specs.declared.expr.Truth.TheVariants.{True, False, Error}
use Rattle.sparql_algebra.specs.declared.algebra.Algebra.{Algebra, more_of-Algebra, Bgp, Join', Union', LeftJoin', Filter'}
use Rattle.sparql_algebra.specs.Merged.{IsJoined, IsAlone, IsLeftJoined}
use Rattle.sparql_algebra.specs.TermSolutions.{TermBinding, Solution, IsOrdered, term_var, merge, same_solution}
use Rattle.sparql_algebra.specs.Truth.{truth}
use Rattle.sparql_algebra.specs.Evaluation.{IsSolution, Passes}
use Rattle.sparql_algebra.specs.Width.{AreAll, HasCount}
use Rattle.sparql_algebra.specs.Listed.{merges_of, merges, is_true, is_passed, is_alone, left_joins, found, solutions, count_of}
use Rattle.sparql_algebra.proofs.Lookups.{rising_merged}
use Rattle.sparql_algebra.proofs.ListMembers.{kept, any_from, any_to, once_has, once_distinct, same_length}
use Rattle.sparql_algebra.proofs.ExtendedSolutions.{one_binding, merged_from, merged_to, merges_exact}
use Rattle.sparql_algebra.proofs.ListedPatterns.{patterns_exact}

-- two bindings are equal exactly where they are one
binding_exact : (a b : TermBinding) → Decides (eq_of_both (on term_var nat_eq) (on (λ x. x.term) term_eq) a b) (a ≡ b)
binding_exact a b = (
  λ same. one_binding a b (eqb-true a.var.0 b.var.0 (first_so (nat_eq a.var.0 b.var.0) (term_eq a.term b.term) same))
      ((term_exact a.term b.term).0 (second_so (nat_eq a.var.0 b.var.0) (term_eq a.term b.term) same)),
  λ one. subst (λ c. eq_of_both (on term_var nat_eq) (on (λ x. x.term) term_eq) a c ≡ true) one
      ((and_equiv (on_equiv term_var nat_eq_equiv) (on_equiv (λ x. x.term) term_eq_equiv)).refl a),
)

-- two solutions are equal exactly where they are one
pub same_exact : (a b : Solution) → Decides (same_solution a b) (a ≡ b)
same_exact = pointwise_decides binding_exact

pub same_equiv : IsEquivalence same_solution
same_equiv = lists_equiv (and_equiv (on_equiv term_var nat_eq_equiv) (on_equiv (λ x. x.term) term_eq_equiv))

-- a list has exactly the solutions that have a property, and each is ordered
record Lists (Holds : Solution → Type 0) (list : List Solution) : Type 0 where
  ordered : (s : Solution) → Contains list s → IsOrdered s
  exactly : (s : Solution) → Contains list s ↔ Holds s

truth_is : (t : Truth) → Decides (is_true t) (t ≡ True)
truth_is True = (λ e. refl, λ e. refl)
truth_is False = (λ e. cc, λ e. cc)
truth_is Error = (λ e. cc, λ e. cc)

-- a condition passes exactly where the test says so
passed_is : (condition : Option Expr) (s : Solution) → Decides (is_passed condition s) (Passes condition s)
passed_is None s = (λ e. tt, λ e. refl)
passed_is (Some condition) s = truth_is (truth condition s)

module _ (Left Right : Solution → Type 0) (left right : List Solution) (l : Lists Left left) (r : Lists Right right) where
  -- the merges of the solutions of two sides are those of their Join
  joined : (s : Solution) → Contains (merges left right) s ↔ IsJoined term_var Left Right s
  joined s = (
    λ c.
        let j = (merges_exact left right l.ordered s).0 c in
        record {
          left = j.left;
          right = j.right;
          in_left = (l.exactly j.left).0 j.in_left;
          in_right = (r.exactly j.right).0 j.in_right;
          compatible = j.compatible;
          merges = j.merges;
        },
    λ j. (merges_exact left right l.ordered s).1 (record {
      left = j.left;
      right = j.right;
      in_left = (l.exactly j.left).1 j.in_left;
      in_right = (r.exactly j.right).1 j.in_right;
      compatible = j.compatible;
      merges = j.merges;
    }),
  )

  joined_ordered : (s : Solution) → Contains (merges left right) s → IsOrdered s
  joined_ordered s c =
      let j = (merges_exact left right l.ordered s).0 c in
      subst IsOrdered (sym j.merges) (rising_merged term_var j.left j.right (r.ordered j.right j.in_right))

  join_lists : Lists (IsJoined term_var Left Right) (merges left right)
  join_lists = record { ordered = joined_ordered; exactly = joined }

  union_lists : Lists (λ s. Left s ⊎ Right s) (left ++ right)
  union_lists = record {
    ordered = λ s c. elim (Contains-append_cases left right s c) [ inl k ↦ l.ordered s k | inr k ↦ r.ordered s k ];
    exactly = λ s. (
      λ c. elim (Contains-append_cases left right s c) [ inl k ↦ inl ((l.exactly s).0 k) | inr k ↦ inr ((r.exactly s).0 k) ],
      λ h. elim h [
        | inl k ↦ Contains-append_left left right s ((l.exactly s).1 k)
        | inr k ↦ Contains-append_right left right s ((r.exactly s).1 k)
      ],
    );
  }

  module _ (condition : Option Expr) where
    none_passes : (s : Solution) → IsOrdered s → list_any (is_passed condition) (merges_of right s) ≡ false → IsAlone term_var Right (Passes condition) s
    none_passes s rises none other is same passes =
        let there : list_any (is_passed condition) (merges_of right s) ≡ true =
        any_to (is_passed condition) (merges_of right s) (merge s other) (merged_to right s other (merge s other) rises ((r.exactly other).1 is) same refl)
        ((passed_is condition (merge s other)).1 passes)
        in cc

    passes_none : (s : Solution) → IsOrdered s → IsAlone term_var Right (Passes condition) s → (b : Bool) → list_any (is_passed condition) (merges_of right s) ≡ b → not b ≡ true
    passes_none s rises alone true h =
        let one = any_from (is_passed condition) (merges_of right s) h in
        let pair = merged_from right s one.0 rises one.1 in
        absurd (alone pair.0 ((r.exactly pair.0).0 pair.1) pair.2 (subst (Passes condition) pair.3 ((passed_is condition one.0).0 one.2)))
    passes_none s rises alone false h = refl

    left_from : (s : Solution) → Contains (left_joins condition left right) s → IsLeftJoined term_var Left Right (Passes condition) s
    left_from s c = elim (Contains-append_cases (filter (is_passed condition) (merges left right)) (filter (is_alone condition right) left) s c) [
      | inl k ↦ (let both = (kept (is_passed condition) (merges left right) s).0 k in inl ((joined s).0 both.0, (passed_is condition s).0 both.1))
      | inr k ↦ (let both = (kept (is_alone condition right) left s).0 k in
          inr ((l.exactly s).0 both.0, none_passes s (l.ordered s both.0) (not-true (list_any (is_passed condition) (merges_of right s)) both.1)))
    ]

    left_to : (s : Solution) → IsLeftJoined term_var Left Right (Passes condition) s → Contains (left_joins condition left right) s
    left_to s (inl h) = Contains-append_left (filter (is_passed condition) (merges left right)) (filter (is_alone condition right) left) s
        ((kept (is_passed condition) (merges left right) s).1 ((joined s).1 h.0, (passed_is condition s).1 h.1))
    left_to s (inr h) =
        let there = (l.exactly s).1 h.0 in
        Contains-append_right (filter (is_passed condition) (merges left right)) (filter (is_alone condition right) left) s
        ((kept (is_alone condition right) left s).1 (there, passes_none s (l.ordered s there) h.1 (list_any (is_passed condition) (merges_of right s)) refl))

    left_lists : Lists (IsLeftJoined term_var Left Right (Passes condition)) (left_joins condition left right)
    left_lists = record {
      ordered = λ s c. elim (Contains-append_cases (filter (is_passed condition) (merges left right)) (filter (is_alone condition right) left) s c) [
        | inl k ↦ joined_ordered s ((kept (is_passed condition) (merges left right) s).0 k).0
        | inr k ↦ l.ordered s ((kept (is_alone condition right) left s).0 k).0
      ];
      exactly = λ s. (left_from s, left_to s);
    }

filter_lists : (Inner : Solution → Type 0) (inner : List Solution) → Lists Inner inner → (condition : Expr)
    → Lists (λ s. Inner s × (truth condition s ≡ True)) (filter (is_passed (Some condition)) inner)
filter_lists Inner inner p condition = record {
  ordered = λ s c. p.ordered s ((kept (is_passed (Some condition)) inner s).0 c).0;
  exactly = λ s. (
    λ c. (let both = (kept (is_passed (Some condition)) inner s).0 c in ((p.exactly s).0 both.0, (truth_is (truth condition s)).0 both.1)),
    λ h. (kept (is_passed (Some condition)) inner s).1 ((p.exactly s).1 h.0, (truth_is (truth condition s)).1 h.1),
  );
}

found_lists : (pattern : Algebra) (graph : List Triple) → Lists (IsSolution pattern graph) (found pattern graph)
found_lists (Bgp patterns) graph = record {
  ordered = λ s c. ((patterns_exact patterns graph s).0 c).ordered;
  exactly = patterns_exact patterns graph;
}
found_lists (Join' a (more_of-Algebra left p) b (more_of-Algebra right q)) graph =
    join_lists (IsSolution left graph) (IsSolution right graph) (found left graph) (found right graph) (found_lists left graph) (found_lists right graph)
found_lists (Union' a (more_of-Algebra left p) b (more_of-Algebra right q)) graph =
    union_lists (IsSolution left graph) (IsSolution right graph) (found left graph) (found right graph) (found_lists left graph) (found_lists right graph)
found_lists (LeftJoin' a (more_of-Algebra left p) b (more_of-Algebra right q) condition) graph =
    left_lists (IsSolution left graph) (IsSolution right graph) (found left graph) (found right graph) (found_lists left graph) (found_lists right graph) condition
found_lists (Filter' condition a (more_of-Algebra inner p)) graph = filter_lists (IsSolution inner graph) (found inner graph) (found_lists inner graph) condition

-- the solutions that are computed of a graph pattern are its solutions, each once
pub solutions_exact : (pattern : Algebra) (graph : List Triple) → AreAll (IsSolution pattern graph) (solutions pattern graph)
solutions_exact pattern graph =
    let lists = found_lists pattern graph in
    record {
      distinct = once_distinct same_equiv same_exact (found pattern graph);
      exactly = λ s. (
        λ c. (lists.exactly s).0 ((once_has same_equiv same_exact (found pattern graph) s).0 c),
        λ h. (once_has same_equiv same_exact (found pattern graph) s).1 ((lists.exactly s).1 h),
      );
    }

-- all solutions with a property are as many in every list
pub same_count : (Holds : Solution → Type 0) (xs ys : List Solution) → AreAll Holds xs → AreAll Holds ys → length xs ≡ length ys
same_count Holds xs ys a b = same_length same_equiv same_exact xs ys a.distinct b.distinct (λ s. (
  λ c. (b.exactly s).1 ((a.exactly s).0 c),
  λ c. (a.exactly s).1 ((b.exactly s).0 c),
))

-- a graph pattern has as many distinct solutions as are computed, and no other number
pub count_exact : (pattern : Algebra) (graph : List Triple) (count : ℕ) → HasCount pattern graph count ↔ (count ≡ count_of graph pattern)
count_exact pattern graph count = (
  λ h. sym h.2 ∙ same_count (IsSolution pattern graph) h.0 (solutions pattern graph) h.1 (solutions_exact pattern graph),
  λ e. (solutions pattern graph, solutions_exact pattern graph, sym e),
)
