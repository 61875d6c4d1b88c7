-- One solution extends another where it has its bindings; merges of solutions that one extends.
use Rattle.std.proofs.Common.{◌≡◌, ◌∙◌, ◌↔◌, ◌⊎◌, inl, inr, ℕ, Bool, true, false, cond, List, Option, None, Some, IsSome, Contains, refl, sym, ap, subst}
use Rattle.std.proofs.lemmas.Option.{none-some, same_Some}
use Rattle.std.specs.Option.{option_map, option_or, is_some}
use Rattle.m3_terms.specs.OrderLaws.{term_exact}
use Rattle.sparql_algebra.specs.declared.var.Var.{Var}
use Rattle.sparql_algebra.specs.Merged.{lookup, IsJoined}
use Rattle.sparql_algebra.specs.TermSolutions.{TermBinding, Solution, IsOrdered, term_var, term_at, Compatible, merge}
use Rattle.sparql_algebra.specs.Listed.{agrees_on, are_compatible, merge_if, merges_of, merges}
use Rattle.sparql_algebra.proofs.Lookups.{found_passes, found_var, all_found, lookup_merged, rising_exact}
use Rattle.sparql_algebra.proofs.ListMembers.{mapped_from, mapped_to, spread_from, spread_to}

-- two bindings of one variable to one term are one
pub one_binding : (b c : TermBinding) → b.var.0 ≡ c.var.0 → b.term ≡ c.term → b ≡ c
one_binding b c var term = λ i. record { var = record { 0 = var i }; term = term i }

agrees_is : (b c : TermBinding) (o : Option TermBinding) → o ≡ Some c → b.var.0 ≡ c.var.0 → agrees_on b (option_map (λ x. x.term) o) ≡ true → b ≡ c
agrees_is b c o e var test =
    let same : agrees_on b (option_map (λ x. x.term) (Some c)) ≡ true = subst (λ p. agrees_on b (option_map (λ x. x.term) p) ≡ true) e test in
    one_binding b c var ((term_exact b.term c.term).0 same)

is_agrees : (b : TermBinding) (o : Option TermBinding) → ((c : TermBinding) → o ≡ Some c → b ≡ c) → agrees_on b (option_map (λ x. x.term) o) ≡ true
is_agrees b None same = refl
is_agrees b (Some c) same = (term_exact b.term c.term).1 (ap (λ x. x.term) (same c refl))

-- solutions are compatible exactly where the test says so
pub compatible_exact : (left right : Solution) → IsOrdered left → (are_compatible left right ≡ true) ↔ Compatible left right
compatible_exact left right r = (
  λ all var b c l e.
      let own = found_var term_var left var b l in
      let there : lookup term_var right (term_var b) ≡ Some c = subst (λ n. lookup term_var right n ≡ Some c) (sym own) e in
      agrees_is b c (lookup term_var right (term_var b)) there (own ∙ sym (found_var term_var right var c e))
      (found_passes term_var (λ x. agrees_on x (term_at right x.var)) left var b all l),
  λ same. all_found term_var (λ x. agrees_on x (term_at right x.var)) left r
      (λ v x e. let own = found_var term_var left v x e in
      is_agrees x (lookup term_var right (term_var x)) (λ c f. same v x c e (subst (λ n. lookup term_var right n ≡ Some c) own f))),
)

some_if : (b : Bool) (x s : Solution) → cond b (Some x) None ≡ Some s → (b ≡ true) × (s ≡ x)
some_if true x s e = (refl, same_Some s x (sym e))
some_if false x s e = absurd (none-some s e)

if_some : (b : Bool) (x s : Solution) → b ≡ true → s ≡ x → cond b (Some x) None ≡ Some s
if_some true x s h e = ap Some (sym e)
if_some false x s h e = absurd (cc)

-- a solution is among the merges of a left one exactly where it is the merge with a compatible right one
pub merged_from : (right : List Solution) (left s : Solution) → IsOrdered left → Contains (merges_of right left) s
    → (other : Solution) × Contains right other × Compatible left other × (s ≡ merge left other)
merged_from right left s r c =
    let from = mapped_from (merge_if left) right s c in
    let told = some_if (are_compatible left from.0) (merge left from.0) s from.2 in
    (from.0, from.1, (compatible_exact left from.0 r).0 told.0, told.1)

pub merged_to : (right : List Solution) (left other s : Solution) → IsOrdered left → Contains right other → Compatible left other → s ≡ merge left other
    → Contains (merges_of right left) s
merged_to right left other s r c same e =
    mapped_to (merge_if left) right other s c (if_some (are_compatible left other) (merge left other) s ((compatible_exact left other r).1 same) e)

-- the merges of two lists are the merges of compatible pairs
pub merges_exact : (left right : List Solution) → ((s : Solution) → Contains left s → IsOrdered s) → (s : Solution)
    → Contains (merges left right) s ↔ IsJoined term_var (Contains left) (Contains right) s
merges_exact left right ordered s = (
  λ c.
      let one = spread_from (merges_of right) left s c in
      let pair = merged_from right one.0 s (ordered one.0 one.1) one.2 in
      record { left = one.0; right = pair.0; in_left = one.1; in_right = pair.1; compatible = pair.2; merges = pair.3 },
  λ j. spread_to (merges_of right) left j.left s j.in_left (merged_to right j.left j.right s (ordered j.left j.in_left) j.in_right j.compatible j.merges),
)

-- a solution has the bindings of another
abbrev pub Extends : Solution → Solution → Type 0
Extends larger solution = (var : ℕ) (b : TermBinding) → lookup term_var solution var ≡ Some b → lookup term_var larger var ≡ Some b

or_first : (o p : Option TermBinding) (b : TermBinding) → o ≡ Some b → option_or o p ≡ Some b
or_first o p b e = ap (λ q. option_or q p) e

or_from : (o p r : Option TermBinding) (b : TermBinding) → (o ≡ Some b → r ≡ Some b) → (p ≡ Some b → r ≡ Some b) → option_or o p ≡ Some b → r ≡ Some b
or_from None p r b f g e = g e
or_from (Some x) p r b f g e = f e

or_second : (o p : Option TermBinding) (b : TermBinding) → ((x : TermBinding) → o ≡ Some x → x ≡ b) → p ≡ Some b → option_or o p ≡ Some b
or_second None p b same e = e
or_second (Some x) p b same e = ap Some (same x refl)

-- what one solution extends is compatible
pub below_compatible : (larger left right : Solution) → Extends larger left → Extends larger right → Compatible left right
below_compatible larger left right f g var b c l r = same_Some b c (sym (f var b l) ∙ g var c r)

-- and it extends the merge
pub below_merge : (larger left right : Solution) → IsOrdered left → IsOrdered right → Extends larger left → Extends larger right → Extends larger (merge left right)
below_merge larger left right r s f g var b e =
    or_from (lookup term_var left var) (lookup term_var right var) (lookup term_var larger var) b (f var b) (g var b) (sym (lookup_merged term_var left right var r s) ∙ e)

-- a merge extends its sides
pub extends_left : (left right : Solution) → IsOrdered left → IsOrdered right → Extends (merge left right) left
extends_left left right r s var b e =
    lookup_merged term_var left right var r s ∙ or_first (lookup term_var left var) (lookup term_var right var) b e

pub extends_right : (left right : Solution) → IsOrdered left → IsOrdered right → Compatible left right → Extends (merge left right) right
extends_right left right r s same var b e =
    lookup_merged term_var left right var r s ∙ or_second (lookup term_var left var) (lookup term_var right var) b (λ x l. same var x b l e) e

pub extends_through : (larger middle solution : Solution) → Extends larger middle → Extends middle solution → Extends larger solution
extends_through larger middle solution f g var b e = f var b (g var b e)

pub extends_itself : (solution : Solution) → Extends solution solution
extends_itself solution var b e = e

or_bound : (o p : Option TermBinding) → IsSome (option_map (λ b. b.term) (option_or o p)) → IsSome (option_map (λ b. b.term) o) ⊎ IsSome (option_map (λ b. b.term) p)
or_bound None p e = inr e
or_bound (Some x) p e = inl refl

-- what a merge binds is bound on one side
pub merge_bound : (left right : Solution) (var : Var) → IsOrdered left → IsOrdered right → IsSome (term_at (merge left right) var)
    → IsSome (term_at left var) ⊎ IsSome (term_at right var)
merge_bound left right var r s e = or_bound (lookup term_var left var.0) (lookup term_var right var.0)
    (subst (λ o. IsSome (option_map (λ b. b.term) o)) (lookup_merged term_var left right var.0 r s) e)

no_more : (o p : Option TermBinding) → ((b : TermBinding) → o ≡ Some b → p ≡ Some b) → (IsSome (option_map (λ b. b.term) p) → IsSome (option_map (λ b. b.term) o)) → o ≡ p
no_more None None f g = refl
no_more None (Some c) f g = let none : is_some (option_map {T = TermBinding} (λ b. b.term) None) ≡ true = g refl in absurd (cc)
no_more (Some b) p f g = sym (f b refl)

-- a solution that extends another and binds no more is it
pub extends_one : (larger solution : Solution) → IsOrdered larger → IsOrdered solution → Extends larger solution
    → ((var : Var) → IsSome (term_at larger var) → IsSome (term_at solution var)) → solution ≡ larger
extends_one larger solution r s f g = rising_exact term_var solution larger s r
    (λ v. no_more (lookup term_var solution v) (lookup term_var larger v) (f v) (g (record { 0 = v })))
