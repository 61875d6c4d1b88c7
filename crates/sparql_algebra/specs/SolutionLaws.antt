-- Equality of bindings and of solutions: an equivalence, exact, and kept by what is hashed. The order of bindings is total.
use Rattle.std.specs.Prelude.{◌≡◌, true, List, ◌++◌, IsTrue, nat_eq}
use Rattle.std.proofs.Common.{subst}
use Rattle.std.proofs.lemmas.Bool.{eqb-true}
use Rattle.std.specs.Bool.{Decides}
use Rattle.std.specs.Hash.{items_Alike, same_Alike}
use Rattle.std.specs.Hash as fed
use Rattle.std.specs.Cmp.{IsEquivalence, IsTotalOrder, on_total, on_equiv, and_equiv, nat_cmp_total, nat_eq_equiv, first_so, second_so}
use Rattle.std.specs.Cmp.Lexicographic.{lists_equiv, pointwise_decides}
use Rattle.sparql_algebra.specs.declared.mapping.Binding.{Binding}
use Rattle.sparql_algebra.specs.Solutions.{var_cmp, binding_eq, solution_eq}

-- bindings are ordered in total by their variables
pub var_cmp_total : IsTotalOrder var_cmp
var_cmp_total = on_total (λ b. b.var.0) nat_cmp_total

-- equality of bindings is an equivalence
pub binding_eq_equiv : IsEquivalence binding_eq
binding_eq_equiv = and_equiv (on_equiv (λ b. b.var.0) nat_eq_equiv) (on_equiv (λ b. b.term.0) nat_eq_equiv)

-- equality of solutions is an equivalence
pub solution_eq_equiv : IsEquivalence solution_eq
solution_eq_equiv = lists_equiv binding_eq_equiv

-- two bindings are equal exactly where they are one
pub binding_exact : (a b : Binding) → Decides (binding_eq a b) (a ≡ b)
binding_exact a b = (
  λ same.
      let var = eqb-true a.var.0 b.var.0 (first_so (nat_eq a.var.0 b.var.0) (nat_eq a.term.0 b.term.0) same) in
      let term = eqb-true a.term.0 b.term.0 (second_so (nat_eq a.var.0 b.var.0) (nat_eq a.term.0 b.term.0) same) in
      λ i. record { var = record { 0 = var i }; term = record { 0 = term i } },
  λ one. subst (λ c. binding_eq a c ≡ true) one (binding_eq_equiv.refl a),
)

-- two solutions are equal exactly where they are one
pub solution_exact : (a b : List Binding) → Decides (solution_eq a b) (a ≡ b)
solution_exact = pointwise_decides binding_exact

-- equal solutions are hashed alike
pub solution_input : (a b : List Binding) → IsTrue (solution_eq a b)
    → fed.slice (λ b. fed.u8 b.var.0 ++ fed.u32 b.term.0) a ≡ fed.slice (λ b. fed.u8 b.var.0 ++ fed.u32 b.term.0) b
solution_input = (items_Alike (same_Alike (λ b. fed.u8 b.var.0 ++ fed.u32 b.term.0) binding_exact)).fed
