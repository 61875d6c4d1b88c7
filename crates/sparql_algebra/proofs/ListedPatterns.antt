-- The solutions of a basic graph pattern, from those of its positions by merging: each solution of the pattern extends one of them.
use Rattle.std.proofs.Common.{◌≡◌, ◌∙◌, ◌↔◌, ◌⊎◌, inl, inr, ℕ, Bool, true, false, cond, List, [], ◌∷◌, flat_map, nat_eq, Option, None, Some, IsSome, Contains, refl, sym, ap, subst}
use Rattle.std.proofs.lemmas.Bool.{eqb-true, eq-eqb}
use Rattle.std.proofs.lemmas.Option.{none-some, same_Some}
use Rattle.std.specs.List.{AllByRecursion}
use Rattle.std.specs.List.Sorted.{IsStrictlySortedBy}
use Rattle.std.specs.Option.{option_map, is_some}
use Rattle.m3_terms.specs.InsertedLaws.{cons_cases, head_in, tail_in}
use Rattle.m3_terms.specs.Order.{term_eq}
use Rattle.m3_terms.specs.OrderLaws.{term_exact}
use Rattle.m3_terms.specs.declared.term.Term.{Term}
use Rattle.m3_terms.specs.declared.triple.Triple.{Triple}
use Rattle.sparql_algebra.specs.declared.var.Var.{Var as Variable}
use Rattle.sparql_algebra.specs.declared.pattern.Place.{Place}
use Rattle.sparql_algebra.specs.declared.pattern.Place.TheVariants.{Var, Is}
use Rattle.sparql_algebra.specs.declared.pattern.PatternTriple.{PatternTriple}
use Rattle.sparql_algebra.specs.Merged.{lookup}
use Rattle.sparql_algebra.specs.TermSolutions.{TermBinding, Solution, IsOrdered, term_var, term_at, merge}
use Rattle.sparql_algebra.specs.Patterns.{IsVariable, Mentions, MakesTerm, MakesTriple, Meets, IsBgpSolution}
use Rattle.sparql_algebra.specs.Listed.{merges, of_place, of_triple, of_pattern, of_patterns}
use Rattle.sparql_algebra.proofs.Gathered.{none_in}
use Rattle.sparql_algebra.proofs.Lookups.{found_so, found_var, rising_merged}
use Rattle.sparql_algebra.proofs.ListMembers.{spread_from, spread_to, in_all_of}
use Rattle.sparql_algebra.proofs.ExtendedSolutions.{Extends, one_binding, merges_exact, below_compatible, below_merge, extends_left, extends_right, extends_through, extends_itself, merge_bound, extends_one}

-- some solutions bind only certain variables, whatever extends one of them has a property, and what has the property extends one of them
pub record Covers (list : List Solution) (Has : Solution → Type 0) (Binds : Variable → Type 0) : Type 0 where
  pub ordered : (solution : Solution) → Contains list solution → IsOrdered solution
  pub holds : (solution larger : Solution) → Contains list solution → Extends larger solution → Has larger
  pub only : (solution : Solution) (var : Variable) → Contains list solution → IsSome (term_at solution var) → Binds var
  pub covers : (larger : Solution) → Has larger → (solution : Solution) × Contains list solution × Extends larger solution

-- the same for a property that holds together with the first, and for variables that are these
covers_as : (list : List Solution) (Has Other : Solution → Type 0) (Binds More : Variable → Type 0) → ((s : Solution) → Has s ↔ Other s)
    → ((var : Variable) → Binds var → More var) → Covers list Has Binds → Covers list Other More
covers_as list Has Other Binds More same more p = record {
  ordered = p.ordered;
  holds = λ s u c e. (same u).0 (p.holds s u c e);
  only = λ s var c b. more var (p.only s var c b);
  covers = λ u h. p.covers u ((same u).1 h);
}

-- merges have both properties, and bind the variables of both
merges_cover : (left right : List Solution) (Has Other : Solution → Type 0) (Binds More : Variable → Type 0) → Covers left Has Binds → Covers right Other More
    → Covers (merges left right) (λ s. Has s × Other s) (λ var. Binds var ⊎ More var)
merges_cover left right Has Other Binds More p q = record {
  ordered = λ s c.
      let j = (merges_exact left right p.ordered s).0 c in
      subst IsOrdered (sym j.merges) (rising_merged term_var j.left j.right (q.ordered j.right j.in_right));
  holds = λ s u c e.
      let j = (merges_exact left right p.ordered s).0 c in
      let whole : Extends u (merge j.left j.right) = subst (Extends u) j.merges e in
      let r = p.ordered j.left j.in_left in
      let t = q.ordered j.right j.in_right in (
        p.holds j.left u j.in_left (extends_through u (merge j.left j.right) j.left whole (extends_left j.left j.right r t)),
        q.holds j.right u j.in_right (extends_through u (merge j.left j.right) j.right whole (extends_right j.left j.right r t j.compatible)),
      );
  only = λ s var c b.
      let j = (merges_exact left right p.ordered s).0 c in
      let there : IsSome (term_at (merge j.left j.right) var) = subst (λ l. IsSome (term_at l var)) j.merges b in
      elim (merge_bound j.left j.right var (p.ordered j.left j.in_left) (q.ordered j.right j.in_right) there) [
        | inl k ↦ inl (p.only j.left var j.in_left k)
        | inr k ↦ inr (q.only j.right var j.in_right k)
      ];
  covers = λ u h.
      let one = p.covers u h.0 in
      let other = q.covers u h.1 in
      let r = p.ordered one.0 one.1 in
      let t = q.ordered other.0 other.1 in (
        merge one.0 other.0,
        (merges_exact left right p.ordered (merge one.0 other.0)).1 (record {
          left = one.0;
          right = other.0;
          in_left = one.1;
          in_right = other.1;
          compatible = below_compatible u one.0 other.0 one.2 other.2;
          merges = refl;
        }),
        below_merge u one.0 other.0 r t one.2 other.2,
      );
}

-- the lists of all items have the property of some item
spread_covers : {X : Type 0} (f : X → List Solution) (xs : List X) (Has : X → Solution → Type 0) (Binds : Variable → Type 0)
    → ((x : X) → Covers (f x) (Has x) Binds) → Covers (flat_map f xs) (λ s. (x : X) × Contains xs x × Has x s) Binds
spread_covers f xs Has Binds each = record {
  ordered = λ s c. let from = spread_from f xs s c in (each from.0).ordered s from.2;
  holds = λ s u c e. let from = spread_from f xs s c in (from.0, from.1, (each from.0).holds s u from.2 e);
  only = λ s var c b. let from = spread_from f xs s c in (each from.0).only s var from.2 b;
  covers = λ u h. let one = (each h.0).covers u h.2 in (one.0, spread_to f xs h.0 one.0 h.1 one.1, one.2);
}

-- the only item of a list
only_one : (x q : Solution) → Contains (x ∷ []) q → x ≡ q
only_one x q c = elim (cons_cases x [] q c) [ inl e ↦ e | inr none ↦ absurd (none_in q none) ]

nil_ordered : IsOrdered []
unfolding IsStrictlySortedBy
nil_ordered = tt

one_ordered : (b : TermBinding) → IsOrdered (b ∷ [])
unfolding IsStrictlySortedBy
one_ordered b = (tt, tt)

-- the one binding is found
own_found : (b : TermBinding) → lookup term_var (b ∷ []) b.var.0 ≡ Some b
own_found b = found_so (nat_eq b.var.0 b.var.0) b None (eq-eqb b.var.0 b.var.0 refl)

own_bound_at : (b : TermBinding) (var : Variable) (own : Bool) → nat_eq b.var.0 var.0 ≡ own → IsSome (option_map (λ x. x.term) (cond own (Some b) None)) → b.var ≡ var
own_bound_at b var true h e = let same = eqb-true b.var.0 var.0 h in λ i. record { 0 = same i }
own_bound_at b var false h e = absurd (let none : is_some (option_map {T = TermBinding} (λ x. x.term) None) ≡ true = e in cc)

-- a solution under which a variable is a term extends the one binding
found_extends_at : (b c : TermBinding) (u : Solution) (v : ℕ) → lookup term_var u b.var.0 ≡ Some c → c.term ≡ b.term → (own : Bool) → nat_eq b.var.0 v ≡ own → (x : TermBinding)
    → cond own (Some b) None ≡ Some x → lookup term_var u v ≡ Some x
found_extends_at b c u v l t true h x e =
    let one : c ≡ b = one_binding c b (found_var term_var u b.var.0 c l) t in
    subst (λ n. lookup term_var u n ≡ Some x) (eqb-true b.var.0 v h) (l ∙ ap Some one ∙ e)
found_extends_at b c u v l t false h x e = absurd (none-some x e)

bound_extends : (b : TermBinding) (u : Solution) (o : Option TermBinding) → lookup term_var u b.var.0 ≡ o → option_map (λ x. x.term) o ≡ Some b.term → Extends u (b ∷ [])
bound_extends b u None l e = absurd (none-some b.term e)
bound_extends b u (Some c) l e = λ v x f. found_extends_at b c u v l (same_Some c.term b.term e) (nat_eq b.var.0 v) refl x f

-- the solutions under which a variable is a term extend that which binds it so
variable_covers : (var : Variable) (term : Term) → Covers (of_place (Var var) term) (λ s. MakesTerm s (Var var) term) (IsVariable (Var var))
variable_covers var term =
    let b : TermBinding = record { var = var; term = term } in
    record {
      ordered = λ s c. subst IsOrdered (only_one (b ∷ []) s c) (one_ordered b);
      holds = λ s u c e. ap (option_map (λ x. x.term)) (e var.0 b (subst (λ l. lookup term_var l var.0 ≡ Some b) (only_one (b ∷ []) s c) (own_found b)));
      only = λ s v c e. own_bound_at b v (nat_eq var.0 v.0) refl (subst (λ l. IsSome (term_at l v)) (sym (only_one (b ∷ []) s c)) e);
      covers = λ u h. (b ∷ [], head_in (b ∷ []) [], bound_extends b u (lookup term_var u var.0) refl h);
    }

nil_below : (u : Solution) → Extends u []
nil_below u var b e = absurd (none-some b e)

nil_binds : (var : Variable) → IsSome (term_at [] var) → ⊥
nil_binds var e = let none : is_some (option_map {T = TermBinding} (λ x. x.term) None) ≡ true = e in cc

-- every solution extends that which binds nothing, where a test holds
term_covers_at : (own term : Term) (b : Bool) → term_eq own term ≡ b → Covers (cond b ([] ∷ []) []) (λ s. own ≡ term) (λ var. ⊥)
term_covers_at own term true h = record {
  ordered = λ s c. subst IsOrdered (only_one [] s c) nil_ordered;
  holds = λ s u c e. (term_exact own term).0 h;
  only = λ s var c e. nil_binds var (subst (λ l. IsSome (term_at l var)) (sym (only_one [] s c)) e);
  covers = λ u e. ([], head_in [] [], nil_below u);
}
term_covers_at own term false h = record {
  ordered = λ s c. absurd (none_in s c);
  holds = λ s u c e. absurd (none_in s c);
  only = λ s var c e. none_in s c;
  covers = λ u e. absurd (let same : term_eq own term ≡ true = (term_exact own term).1 e in cc);
}

place_covers : (place : Place) (term : Term) → Covers (of_place place term) (λ s. MakesTerm s place term) (IsVariable place)
place_covers (Var var) term = variable_covers var term
place_covers (Is own) term = term_covers_at own term (term_eq own term) refl

triple_covers : (pattern : PatternTriple) (triple : Triple) → Covers (of_triple pattern triple) (λ s. MakesTriple s pattern triple) (Mentions pattern)
triple_covers pattern triple =
    let At : Place → Term → Solution → Type 0 = λ place term s. MakesTerm s place term in
    let first = of_place pattern.subject triple.subject in
    let second = of_place pattern.predicate triple.predicate in
    let third = of_place pattern.object triple.object in
    covers_as (merges first (merges second third))
    (λ s. At pattern.subject triple.subject s × (At pattern.predicate triple.predicate s × At pattern.object triple.object s)) (λ s. MakesTriple s pattern triple)
    (Mentions pattern) (Mentions pattern)
    (λ s. (λ h. record { subject = h.0; predicate = h.1.0; object = h.1.1 }, λ m. (m.subject, (m.predicate, m.object))))
    (λ var m. m)
    (merges_cover first (merges second third) (At pattern.subject triple.subject)
    (λ s. At pattern.predicate triple.predicate s × At pattern.object triple.object s)
    (IsVariable pattern.subject) (λ var. IsVariable pattern.predicate var ⊎ IsVariable pattern.object var)
    (place_covers pattern.subject triple.subject)
    (merges_cover second third (At pattern.predicate triple.predicate) (At pattern.object triple.object) (IsVariable pattern.predicate) (IsVariable pattern.object)
    (place_covers pattern.predicate triple.predicate) (place_covers pattern.object triple.object)))

pattern_covers : (graph : List Triple) (pattern : PatternTriple) → Covers (of_pattern graph pattern) (λ s. Meets graph s pattern) (Mentions pattern)
pattern_covers graph pattern = spread_covers (of_triple pattern) graph (λ triple s. MakesTriple s pattern triple) (Mentions pattern) (triple_covers pattern)

-- a variable occurs in some of the patterns
abbrev pub IsMentioned : List PatternTriple → Variable → Type 0
IsMentioned patterns var = (pattern : PatternTriple) × Contains patterns pattern × Mentions pattern var

-- the first pattern has it, or one behind it
pub mentioned : (pattern : PatternTriple) (patterns : List PatternTriple) (var : Variable) → Mentions pattern var ⊎ IsMentioned patterns var → IsMentioned (pattern ∷ patterns) var
mentioned pattern patterns var (inl m) = (pattern, head_in pattern patterns, m)
mentioned pattern patterns var (inr m) = (m.0, tail_in pattern patterns m.0 m.1, m.2)

patterns_cover : (patterns : List PatternTriple) (graph : List Triple) → Covers (of_patterns patterns graph) (λ s. AllByRecursion (Meets graph s) patterns) (IsMentioned patterns)
patterns_cover [] graph = record {
  ordered = λ s c. subst IsOrdered (only_one [] s c) nil_ordered;
  holds = λ s u c e. tt;
  only = λ s var c e. absurd (nil_binds var (subst (λ l. IsSome (term_at l var)) (sym (only_one [] s c)) e));
  covers = λ u e. ([], head_in [] [], nil_below u);
}
patterns_cover (pattern ∷ patterns) graph = covers_as (merges (of_pattern graph pattern) (of_patterns patterns graph))
    (λ s. Meets graph s pattern × AllByRecursion (Meets graph s) patterns) (λ s. AllByRecursion (Meets graph s) (pattern ∷ patterns))
    (λ var. Mentions pattern var ⊎ IsMentioned patterns var) (IsMentioned (pattern ∷ patterns))
    (λ s. (λ h. h, λ h. h)) (mentioned pattern patterns)
    (merges_cover (of_pattern graph pattern) (of_patterns patterns graph) (λ s. Meets graph s pattern) (λ s. AllByRecursion (Meets graph s) patterns)
    (Mentions pattern) (IsMentioned patterns) (pattern_covers graph pattern) (patterns_cover patterns graph))

-- a position that is made a term has its variable bound
place_bound : (s : Solution) (place : Place) (term : Term) (var : Variable) → MakesTerm s place term → IsVariable place var → IsSome (term_at s var)
place_bound s (Var own) term var makes e = subst (λ v. IsSome (term_at s v)) e (ap is_some makes)
place_bound s (Is own) term var makes e = absurd e

pub triple_bound : (s : Solution) (pattern : PatternTriple) (triple : Triple) (var : Variable) → MakesTriple s pattern triple → Mentions pattern var → IsSome (term_at s var)
triple_bound s pattern triple var makes (inl m) = place_bound s pattern.subject triple.subject var makes.subject m
triple_bound s pattern triple var makes (inr (inl m)) = place_bound s pattern.predicate triple.predicate var makes.predicate m
triple_bound s pattern triple var makes (inr (inr m)) = place_bound s pattern.object triple.object var makes.object m

-- what meets some patterns has their variables bound
pub mentioned_bound : (s : Solution) (graph : List Triple) (patterns : List PatternTriple) → AllByRecursion (Meets graph s) patterns → (var : Variable)
    → IsMentioned patterns var → IsSome (term_at s var)
mentioned_bound s graph patterns all var m =
    let meets = in_all_of (Meets graph s) patterns m.0 all m.1 in triple_bound s m.0 meets.0 var meets.2 m.2

-- the solutions that are computed of a basic graph pattern are exactly its solutions
pub patterns_exact : (patterns : List PatternTriple) (graph : List Triple) (s : Solution) → Contains (of_patterns patterns graph) s ↔ IsBgpSolution patterns graph s
patterns_exact patterns graph s =
    let p = patterns_cover patterns graph in (
      λ c.
          let all = p.holds s s c (extends_itself s) in
          record {
            ordered = p.ordered s c;
            exactly = λ var. (λ b. p.only s var c b, λ m. mentioned_bound s graph patterns all var m);
            triples = all;
          },
      λ is.
          let one = p.covers s is.triples in
          let all = p.holds one.0 one.0 one.1 (extends_itself one.0) in
          let same : one.0 ≡ s = extends_one s one.0 is.ordered (p.ordered one.0 one.1) one.2 (λ var b. mentioned_bound one.0 graph patterns all var ((is.exactly var).0 b)) in
          subst (Contains (of_patterns patterns graph)) same one.1,
    )
