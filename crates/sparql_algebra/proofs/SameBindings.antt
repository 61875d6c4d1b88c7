-- Solutions in which each variable is bound to the same are one.
use Rattle.std.proofs.Common.{◌≡◌, ◌∙◌, ℕ, ◌≤◌, ◌<◌, Bool, true, false, List, [], ◌∷◌, nat_eq, None, Some, ◌⊎◌, inl, inr, refl, sym, ap, subst, arith}
use Rattle.std.proofs.lemmas.Bool.{eqb-true, ne_eqb, cases_lt}
use Rattle.std.proofs.lemmas.Option.{same_Some}
use Rattle.std.specs.Cmp.{nat_cmp_is, nat_eq_equiv}
use Rattle.std.specs.List.{AllByRecursion}
use Rattle.std.specs.List.Sorted.{IsStrictlySortedBy}
use Rattle.std.specs.Ordering.{nat_cmp}
use Rattle.std.specs.declared.cmp.Ordering.TheVariants.{Less, Equal}
use Rattle.m3_terms.specs.InsertedLaws.{all_above}
use Rattle.sparql_algebra.specs.declared.var.Var.{Var}
use Rattle.sparql_algebra.specs.declared.mapping.Binding.{Binding}
use Rattle.sparql_algebra.specs.Solutions.{var_cmp, bound}
use Rattle.sparql_algebra.specs.SolutionLaws.{var_cmp_total}

-- a number that is less than another is not it
not_less : (m n : ℕ) → nat_cmp m n ≡ Less → n ≡ m → ⊥
not_less m n less same = let e = nat_cmp_is m n Equal (sym same) ∙ less in absurd (cc)

-- the variable of a binding that comes before all is unbound in them
below_unbound : (a : Binding) (bs : List Binding) → AllByRecursion (λ b. var_cmp a b ≡ Less) bs → bound bs a.var ≡ None
below_unbound a [] less = refl
below_unbound a (b ∷ bs) less =
    let apart : nat_eq b.var.0 a.var.0 ≡ false = ne_eqb b.var.0 a.var.0 (not_less a.var.0 b.var.0 less.0) in
    rw apart (below_unbound a bs less.1)

-- the first binding binds its variable
own_bound : (b : Binding) (bs : List Binding) → bound (b ∷ bs) b.var ≡ Some b.term
own_bound b bs = rw (nat_eq_equiv.refl b.var.0) refl

-- and no other
other_bound : (b : Binding) (bs : List Binding) (var : Var) → nat_eq b.var.0 var.0 ≡ false → bound (b ∷ bs) var ≡ bound bs var
other_bound b bs var apart = rw apart refl

-- where the first variable comes before that of other bindings, it is not bound to the same
not_same : (a b : Binding) (xs ys : List Binding) → a.var.0 < b.var.0 → AllByRecursion (λ y. var_cmp b y ≡ Less) ys
    → bound (a ∷ xs) a.var ≡ bound (b ∷ ys) a.var → ⊥
not_same a b xs ys low above same =
    let less : var_cmp a b ≡ Less = sym (nat_cmp_is a.var.0 b.var.0 Less low) in
    let none = below_unbound a (b ∷ ys) (less, all_above var_cmp_total a b ys less above) in
    let e = sym (own_bound a xs) ∙ same ∙ none in
    absurd (cc)

-- what is bound to the same behind a first binding of one variable is so without it
rest_at : (a b : Binding) (xs ys : List Binding) → a.var ≡ b.var → AllByRecursion (λ x. var_cmp a x ≡ Less) xs → AllByRecursion (λ y. var_cmp b y ≡ Less) ys
    → (var : Var) (there : Bool) → nat_eq a.var.0 var.0 ≡ there → bound (a ∷ xs) var ≡ bound (b ∷ ys) var → bound xs var ≡ bound ys var
rest_at a b xs ys one r s var true h same =
    let e = eqb-true a.var.0 var.0 h in
    let here : a.var ≡ var = λ i. record { 0 = e i } in
    subst (λ v. bound xs v ≡ None) here (below_unbound a xs r) ∙ sym (subst (λ v. bound ys v ≡ None) (sym one ∙ here) (below_unbound b ys s))
rest_at a b xs ys one r s var false h same =
    let other : nat_eq b.var.0 var.0 ≡ false = subst (λ (v : Var). nat_eq v.0 var.0 ≡ false) one h in
    sym (other_bound a xs var h) ∙ same ∙ other_bound b ys var other

-- bindings that bind each variable to the same have one first binding
first_at : (a b : Binding) (xs ys : List Binding) → AllByRecursion (λ x. var_cmp a x ≡ Less) xs → AllByRecursion (λ y. var_cmp b y ≡ Less) ys
    → ((var : Var) → bound (a ∷ xs) var ≡ bound (b ∷ ys) var) → (a.var.0 < b.var.0) ⊎ (b.var.0 ≤ a.var.0) → (b.var.0 < a.var.0) ⊎ (a.var.0 ≤ b.var.0)
    → (a.var ≡ b.var) × (a.term ≡ b.term)
first_at a b xs ys r s same (inl low) q = absurd (not_same a b xs ys low s (same a.var))
first_at a b xs ys r s same (inr p) (inl low) = absurd (not_same b a ys xs low r (sym (same b.var)))
first_at a b xs ys r s same (inr p) (inr q) =
    let e : a.var.0 ≡ b.var.0 = omega (arith, p, q) in
    let one : a.var ≡ b.var = λ i. record { 0 = e i } in
    (one, same_Some a.term b.term (sym (own_bound a xs) ∙ ap (bound (a ∷ xs)) one ∙ same b.var ∙ own_bound b ys))

-- two solutions in which each variable is bound to the same are one
pub one_where_bound : (xs ys : List Binding) → IsStrictlySortedBy var_cmp xs → IsStrictlySortedBy var_cmp ys → ((var : Var) → bound xs var ≡ bound ys var)
    → xs ≡ ys
unfolding IsStrictlySortedBy
one_where_bound [] [] r s same = refl
one_where_bound [] (b ∷ ys) r s same = let e = same b.var ∙ own_bound b ys in absurd (cc)
one_where_bound (a ∷ xs) [] r s same = let e = sym (own_bound a xs) ∙ same a.var in absurd (cc)
one_where_bound (a ∷ xs) (b ∷ ys) r s same =
    let first = first_at a b xs ys r.0 s.0 same (cases_lt a.var.0 b.var.0) (cases_lt b.var.0 a.var.0) in
    let rest = one_where_bound xs ys r.1 s.1 (λ var. rest_at a b xs ys first.0 r.0 s.0 var (nat_eq a.var.0 var.0) refl (same var)) in
    λ i. record { var = first.0 i; term = first.1 i } ∷ rest i
