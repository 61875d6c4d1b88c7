-- Examples that tell the readings of conditions, joins and patterns apart.
use Rattle.std.specs.Prelude.{◌≡◌, ℕ, zero, suc, List, Contains, [], ◌∷◌, Option, None, Some, IsSome, true, false, nat_eq, ◌<◌, refl}
use Rattle.std.proofs.Common.{inl, inr, ap, sym, ◌∙◌, subst, arith}
use Rattle.std.proofs.lemmas.Bool.{ne_eqb, eq-eqb}
use Rattle.std.proofs.lemmas.Option.{none-some}
use Rattle.std.specs.List.{IsDistinct}
use Rattle.std.specs.List.Sorted.{IsStrictlySortedBy}
use Rattle.m3_terms.specs.InsertedLaws.{cons_cases, head_in}
use Rattle.std.specs.Option.{unwrap_or}
use Rattle.m3_terms.specs.declared.term.Term.{Term}
use Rattle.m3_terms.specs.declared.term.Term.TheVariants.{Uri, Literal}
use Rattle.m3_terms.specs.declared.triple.Triple.{Triple}
use Rattle.sparql_algebra.specs.declared.var.Var.{Var as Variable}
use Rattle.sparql_algebra.specs.declared.pattern.Place.TheVariants.{Var as VarAt, Is as TermAt}
use Rattle.sparql_algebra.specs.declared.expr.Operand.{Operand, more_of-Operand, end_of-Operand, Var, Is, Str'}
use Rattle.sparql_algebra.specs.declared.expr.Compare.TheVariants.{Equal, NotEqual, Less, LessEqual, GreaterEqual}
use Rattle.sparql_algebra.specs.declared.expr.Truth.TheVariants.{True, False, Error}
use Rattle.sparql_algebra.specs.declared.expr.Expr.{Expr, more_of-Expr, end_of-Expr, Or', And', Not', Value, Compare as Compares, Bound, Contains as Has}
use Rattle.sparql_algebra.specs.declared.algebra.Algebra.{Algebra, more_of-Algebra, end_of-Algebra, Bgp, Union'}
use Rattle.sparql_algebra.specs.Merged.{lookup, IsLeftJoined}
use Rattle.sparql_algebra.specs.TermSolutions.{Solution, term_var, Compatible, merge, bind, term_at}
use Rattle.sparql_algebra.specs.Truth.{truth}
use Rattle.sparql_algebra.specs.Patterns.{MakesTriple}
use Rattle.sparql_algebra.specs.Width.{HasCount, HasWidth}
use Rattle.sparql_algebra.specs.Evaluation.{IsSolution, Passes}

-- the variable of a number
abbrev variable : ℕ → Variable
variable n = record { 0 = n }

-- the uri and the literal of one letter `a`, and the literal `b`
abbrev uri_a : Term
uri_a = Uri (97 ∷ [])

abbrev text_a : Term
text_a = Literal (97 ∷ [])

abbrev text_b : Term
text_b = Literal (98 ∷ [])

-- the conditions `!e`, `e || f`, `e && f` and the operand STR(o)
abbrev no : Expr → Expr
no e = Not' tt (more_of-Expr e end_of-Expr)

abbrev either : Expr → Expr → Expr
either e f = Or' tt (more_of-Expr e end_of-Expr) tt (more_of-Expr f end_of-Expr)

abbrev both : Expr → Expr → Expr
both e f = And' tt (more_of-Expr e end_of-Expr) tt (more_of-Expr f end_of-Expr)

abbrev str : Operand → Operand
str o = Str' tt (more_of-Operand o end_of-Operand)

-- a uri alone has no boolean value, and `!` keeps that error
error_stays : truth (no (Value (Is uri_a))) [] ≡ Error
error_stays = refl

-- an error or a true side is true, whichever comes first
error_or_true : truth (either (Value (Is uri_a)) (Value (Is text_a))) [] ≡ True
error_or_true = refl

true_or_error : truth (either (Value (Is text_a)) (Value (Is uri_a))) [] ≡ True
true_or_error = refl

-- an error or a false side is an error
error_or_false : truth (either (Value (Is uri_a)) (Value (Is (Literal [])))) [] ≡ Error
error_or_false = refl

-- an error and a false side is false, and an error and a true side an error
error_and_false : truth (both (Value (Is uri_a)) (Value (Is (Literal [])))) [] ≡ False
error_and_false = refl

error_and_true : truth (both (Value (Is uri_a)) (Value (Is text_a))) [] ≡ Error
error_and_true = refl

-- a uri and a literal of one text are not equal, and that is no error
uri_is_no_literal : truth (Compares Equal (Is uri_a) (Is text_a)) [] ≡ False
uri_is_no_literal = refl

uri_differs : truth (Compares NotEqual (Is uri_a) (Is text_a)) [] ≡ True
uri_differs = refl

-- but they can't be ordered, nor can two uris
uri_has_no_order : truth (Compares Less (Is uri_a) (Is text_b)) [] ≡ Error
uri_has_no_order = refl

uris_have_no_order : truth (Compares Less (Is uri_a) (Is uri_a)) [] ≡ Error
uris_have_no_order = refl

-- of two equal literals neither comes before the other, and both signs with `=` hold
equal_is_not_less : truth (Compares Less (Is text_a) (Is text_a)) [] ≡ False
equal_is_not_less = refl

equal_is_less_equal : truth (Compares LessEqual (Is text_a) (Is text_a)) [] ≡ True
equal_is_less_equal = refl

less_is_not_greater_equal : truth (Compares GreaterEqual (Is text_a) (Is text_b)) [] ≡ False
less_is_not_greater_equal = refl

-- STR of a uri is the literal of its text
str_is_literal : truth (Compares Equal (str (Is uri_a)) (Is text_a)) [] ≡ True
str_is_literal = refl

-- an unbound variable is an error in a comparison, unequal too, and none in BOUND
unbound_differs : truth (Compares NotEqual (Var (variable 0)) (Is text_a)) [] ≡ Error
unbound_differs = refl

unbound_is_not_bound : truth (no (Bound (variable 0))) [] ≡ True
unbound_is_not_bound = refl

-- a literal has in it what stands in its middle
middle_is_within : truth (Has (Is (Literal (97 ∷ 98 ∷ 97 ∷ []))) (Is text_b)) [] ≡ True
middle_is_within = refl

-- a left solution that binds variables 0 and 1, and a right one that binds 0 and 2
abbrev left_two : Solution
left_two = bind 0 uri_a ∷ bind 1 text_a ∷ []

abbrev right_two : Solution
right_two = bind 0 uri_a ∷ bind 2 text_b ∷ []

-- they are compatible: a variable that one side leaves unbound stands in the way of no merge
unbound_is_compatible : Compatible left_two right_two
unbound_is_compatible zero b c l r = ap (λ o. unwrap_or o b) (sym l ∙ r)
unbound_is_compatible (suc zero) b c l r = cc
unbound_is_compatible (suc (suc var)) b c l r =
    let first : nat_eq 0 (suc (suc var)) ≡ false = ne_eqb 0 (suc (suc var)) (λ e. omega (arith, e)) in
    let second : nat_eq 1 (suc (suc var)) ≡ false = ne_eqb 1 (suc (suc var)) (λ e. omega (arith, e)) in
    let none : lookup term_var left_two (suc (suc var)) ≡ None = rw (first, second) refl in
    absurd (none-some b (sym none ∙ l))

-- the merge binds what either binds
merge_of_two : merge left_two right_two ≡ bind 0 uri_a ∷ bind 1 text_a ∷ bind 2 text_b ∷ []
merge_of_two = refl

-- the condition of an OPTIONAL is tried on the merge, so it may speak of a variable of the left side alone
abbrev left_condition : Option Expr
left_condition = Some (Compares Equal (Var (variable 1)) (Is text_a))

left_variable_counts : IsLeftJoined term_var (λ s. s ≡ left_two) (λ s. s ≡ right_two) (Passes left_condition) (merge left_two right_two)
left_variable_counts = inl (
  record { left = left_two; right = right_two; in_left = refl; in_right = refl; compatible = unbound_is_compatible; merges = refl },
  refl,
)

-- where the condition fails on the one merge, the left solution stays alone
left_stays_alone : IsLeftJoined term_var (λ s. s ≡ left_two) (λ s. s ≡ right_two) (Passes (Some (Compares Equal (Var (variable 1)) (Is text_b)))) left_two
left_stays_alone = inr (
  refl,
  λ right is compatible passes.
      let fails : False ≡ True = subst (λ s. truth (Compares Equal (Var (variable 1)) (Is text_b)) (merge left_two s) ≡ True) is passes in cc,
)

-- a variable twice in one pattern makes only triples with one term in both positions
repeated_variable : (s : Solution) (t : Triple) → MakesTriple s (record { subject = VarAt (variable 0); predicate = TermAt uri_a; object = VarAt (variable 0) }) t → t.subject ≡ t.object
repeated_variable s t makes = ap (λ o. unwrap_or o t.subject) (sym makes.subject ∙ makes.object)

-- the basic graph pattern without patterns has the solution that binds nothing
empty_pattern_has : (graph : List Triple) → IsSolution (Bgp []) graph []
unfolding IsStrictlySortedBy
empty_pattern_has graph = record {
  ordered = tt;
  exactly = λ var. (λ found. cc, λ from. (let below : from.1.0 < 0 = from.1.1 in absurd (omega arith)));
  triples = tt;
}

-- and no other
empty_pattern : (graph : List Triple) (s : Solution) → IsSolution (Bgp []) graph s → s ≡ []
empty_pattern graph [] is = refl
empty_pattern graph (b ∷ s) is =
    let own : nat_eq b.var.0 b.var.0 ≡ true = eq-eqb b.var.0 b.var.0 refl in
    let found : IsSome (term_at (b ∷ s) b.var) = rw own refl in
    let from = (is.exactly b.var).0 found in
    let below : from.1.0 < 0 = from.1.1 in absurd (omega arith)

-- in the list of the empty solution alone there is no other
only_empty : (s : Solution) → Contains ([] ∷ []) s → s ≡ []
only_empty s c = elim (cons_cases [] [] s c) [ inl e ↦ sym e | inr k ↦ (let below : k.0 < 0 = k.1 in absurd (omega arith)) ]

empty_there : (s : Solution) → s ≡ [] → Contains ([] ∷ []) s
empty_there s e = subst (Contains ([] ∷ [])) (sym e) (head_in [] [])

-- the empty basic graph pattern has one solution, and so has the union of two of them
empty_count : (graph : List Triple) → HasCount (Bgp []) graph 1
unfolding IsDistinct
empty_count graph = (
  [] ∷ [],
  record {
    distinct = (tt, tt);
    exactly = λ s. (λ c. subst (IsSolution (Bgp []) graph) (sym (only_empty s c)) (empty_pattern_has graph), λ is. empty_there s (empty_pattern graph s is));
  },
  refl,
)

abbrev two_empties : Algebra
two_empties = Union' tt (more_of-Algebra (Bgp []) end_of-Algebra) tt (more_of-Algebra (Bgp []) end_of-Algebra)

union_count : (graph : List Triple) → HasCount two_empties graph 1
unfolding IsDistinct
union_count graph = (
  [] ∷ [],
  record {
    distinct = (tt, tt);
    exactly = λ s. (
      λ c. inl (subst (IsSolution (Bgp []) graph) (sym (only_empty s c)) (empty_pattern_has graph)),
      λ is. elim is [ inl l ↦ empty_there s (empty_pattern graph s l) | inr r ↦ empty_there s (empty_pattern graph s r) ],
    );
  },
  refl,
)

-- but its width is 3: each of its parts counts, and a solution of two sides counts once in the union
union_width : (graph : List Triple) → HasWidth two_empties graph 3
union_width graph = (1 ∷ 1 ∷ 1 ∷ [], (union_count graph, (empty_count graph, (empty_count graph, tt))), refl)
