-- Bindings by rising variable, and one that is put among them.
use Rattle.std.proofs.Common.{◌≡◌, ◌∙◌, ℕ, suc, ◌+◌, Bool, true, false, cond, List, [], ◌∷◌, filter, find, nat_eq, nat_lt, None, Some, refl, sym, ap, subst, arith, ◌≤◌, ◌<◌, length, ◌⊎◌, inl, inr, ◌++◌}
use Rattle.std.proofs.lemmas.Bool.{eqb-false, cases_lt, lt-ltb, le-ltb}
use Rattle.std.specs.Cmp.{nat_cmp_is}
use Rattle.m3_terms.specs.Inserted.{inserted}
use Rattle.std.proofs.lemmas.List.Sums.{prefix_len-le-length}
use Rattle.std.specs.List.{insert, prefix_len, AllByRecursion}
use Rattle.std.specs.List.Sorted.{IsStrictlySortedBy}
use Rattle.std.specs.Option.{option_map}
use Rattle.std.specs.Ordering.{is_lt, is_gt, nat_cmp}
use Rattle.std.specs.declared.cmp.Ordering.TheVariants.{Less}
use Rattle.m3_terms.specs.InsertedLaws.{all_above, none_below, each_above}
use Rattle.m3_terms.specs.declared.table.TermId.{TermId}
use Rattle.sparql_algebra.specs.declared.var.Var.{Var}
use Rattle.sparql_algebra.specs.declared.mapping.Binding.{Binding}
use Rattle.sparql_algebra.specs.Solutions.{var_cmp, bound, with_binding, three}
use Rattle.sparql_algebra.specs.SolutionLaws.{var_cmp_total}
use Rattle.sparql_algebra.specs.TermSolutions.{id_var}
use Rattle.sparql_algebra.proofs.Lookups.{rising_inserted}

pub nil_rising : IsStrictlySortedBy var_cmp []
unfolding IsStrictlySortedBy
nil_rising = tt

-- no binding is of this variable
abbrev pub Lacks : List Binding → ℕ → Type 0
Lacks solution var = AllByRecursion (λ b. b.var.0 ≡ var → ⊥) solution

-- a variable to which the first binding does not belong is unbound where the others leave it so
lacks_at : (b : Binding) (bs : List Binding) (var : ℕ) (same : Bool) → nat_eq b.var.0 var ≡ same
    → option_map (λ x. x.term) (cond same (Some b) (find (λ x. nat_eq x.var.0 var) bs)) ≡ None
    → (b.var.0 ≡ var → ⊥) × (option_map (λ x. x.term) (find (λ x. nat_eq x.var.0 var) bs) ≡ None)
lacks_at b bs var true h e = absurd (cc)
lacks_at b bs var false h e = (eqb-false b.var.0 var h, e)

-- a variable that is unbound has no binding
pub unbound_lacks : (bs : List Binding) (var : Var) → bound bs var ≡ None → Lacks bs var.0
unbound_lacks [] var e = tt
unbound_lacks (b ∷ bs) var e =
    let both = lacks_at b bs var.0 (nat_eq b.var.0 var.0) refl e in
    (both.0, unbound_lacks bs var both.1)

-- how many bindings come before a variable
abbrev before : ℕ → List Binding → ℕ
before var bs = prefix_len (λ b. nat_lt b.var.0 var) bs

-- a binding belongs behind those before it: one step
put_at : (b new : Binding) (bs : List Binding) → AllByRecursion (λ y. var_cmp b y ≡ Less) bs → (b.var.0 ≡ new.var.0 → ⊥)
    → insert bs (before new.var.0 bs) new ≡ inserted var_cmp new bs → (b.var.0 < new.var.0) ⊎ (new.var.0 ≤ b.var.0)
    → insert (b ∷ bs) (before new.var.0 (b ∷ bs)) new ≡ inserted var_cmp new (b ∷ bs)
put_at b new bs s n e (inl low) =
    let less : nat_cmp b.var.0 new.var.0 ≡ Less = sym (nat_cmp_is b.var.0 new.var.0 Less low) in
    let counted : nat_lt b.var.0 new.var.0 ≡ true = lt-ltb b.var.0 new.var.0 low in
    let next : 1 + before new.var.0 bs ≡ suc (before new.var.0 bs) = omega arith in
    rw (less, counted, next) (ap (λ l. b ∷ l) e)
put_at b new bs s n e (inr high) =
    let over : new.var.0 < b.var.0 = omega (arith, n) in
    let less : var_cmp new b ≡ Less = sym (nat_cmp_is new.var.0 b.var.0 Less over) in
    let counted : nat_lt b.var.0 new.var.0 ≡ false = le-ltb b.var.0 new.var.0 high in
    let all : AllByRecursion (λ y. var_cmp new y ≡ Less) (b ∷ bs) = (less, all_above var_cmp_total new b bs less s) in
    let none : filter (λ y. is_lt (var_cmp y new)) (b ∷ bs) ≡ [] = none_below var_cmp_total new (b ∷ bs) all in
    let each : filter (λ y. is_gt (var_cmp y new)) (b ∷ bs) ≡ b ∷ bs = each_above var_cmp_total new (b ∷ bs) all in
    rw (none, each, counted) refl

-- a binding of a variable that is unbound belongs behind those before it
pub put_there : (bs : List Binding) (var : Var) (term : TermId) → IsStrictlySortedBy var_cmp bs → bound bs var ≡ None
    → insert bs (before var.0 bs) (record { var = var; term = term }) ≡ with_binding bs var term
unfolding IsStrictlySortedBy
put_there [] var term s e = refl
put_there (b ∷ bs) var term s e =
    let lacked = unbound_lacks (b ∷ bs) var e in
    let rest = lacks_at b bs var.0 (nat_eq b.var.0 var.0) refl e in
    put_at b (record { var = var; term = term }) bs s.0 lacked.0 (put_there bs var term s.1 rest.1) (cases_lt b.var.0 var.0)

-- what holds of each of some bindings holds of each that a test keeps: one step
all_kept_at : (P : Binding → Type 0) (b : Binding) (bs : List Binding) (kept : Bool) → P b → AllByRecursion P bs → AllByRecursion P (cond kept (b ∷ bs) bs)
all_kept_at P b bs true h a = (h, a)
all_kept_at P b bs false h a = a

-- what holds of each of some bindings holds of each that a test keeps
all_kept : (P : Binding → Type 0) (test : Binding → Bool) (bs : List Binding) → AllByRecursion P bs → AllByRecursion P (filter test bs)
all_kept P test [] a = tt
all_kept P test (b ∷ bs) a = all_kept_at P b (filter test bs) (test b) a.0 (all_kept P test bs a.1)

-- what holds of each of two lists holds of each of both
all_both : (P : Binding → Type 0) (xs ys : List Binding) → AllByRecursion P xs → AllByRecursion P ys → AllByRecursion P (xs ++ ys)
all_both P [] ys a b = b
all_both P (x ∷ xs) ys a b = (a.0, all_both P xs ys a.1 b)

-- what holds of a binding and of each of some holds of each once it is put among them
pub all_put : (P : Binding → Type 0) (new : Binding) (bs : List Binding) → P new → AllByRecursion P bs → AllByRecursion P (inserted var_cmp new bs)
all_put P new bs h a = all_both P (filter (λ y. is_lt (var_cmp y new)) bs) (new ∷ filter (λ y. is_gt (var_cmp y new)) bs)
    (all_kept P (λ y. is_lt (var_cmp y new)) bs a) (h, all_kept P (λ y. is_gt (var_cmp y new)) bs a)

-- the bindings of three variables stand by rising variable
pub three_rising : (subject predicate object : TermId) → IsStrictlySortedBy var_cmp (three subject predicate object)
unfolding IsStrictlySortedBy
three_rising subject predicate object = ((refl, (refl, tt)), ((refl, tt), (tt, tt)))

-- fewer bindings come before a variable than there are
pub before_within : (var : ℕ) (bs : List Binding) → before var bs ≤ length bs
before_within var bs = prefix_len-le-length (λ b. nat_lt b.var.0 var) bs

-- a binding that was put behind those before it is where it belongs, and the bindings stand by rising variable
pub bound_there : (items value slice new : List Binding) (var : Var) (term : TermId) (at : ℕ) → items ≡ value → slice ≡ items → at ≡ before var.0 slice
    → IsStrictlySortedBy var_cmp items → bound value var ≡ None → new ≡ insert items at (record { var = var; term = term })
    → (new ≡ with_binding value var term) × IsStrictlySortedBy var_cmp new
bound_there items value slice new var term at i l a s e n =
    let none : bound items var ≡ None = subst (λ (bs : List Binding). bound bs var ≡ None) (sym i) e in
    let place : at ≡ before var.0 items = a ∙ ap (before var.0) l in
    let same : new ≡ with_binding items var term =
    n ∙ ap (λ k. insert items k (record { var = var; term = term })) place ∙ put_there items var term s none
    in (
      same ∙ ap (λ bs. with_binding bs var term) i,
      subst (IsStrictlySortedBy var_cmp) (sym same) (rising_inserted id_var (record { var = var; term = term }) items s),
    )
