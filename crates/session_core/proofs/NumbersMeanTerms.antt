-- Numbers and the terms that they mean in a list.
use Rattle.std.proofs.Common.{◌≡◌, ◌≢◌, ℕ, zero, suc, ◌+◌, Bool, true, false, List, [], ◌∷◌, ◌++◌, Contains, Option, Some, None, slice_get, if◌then◌else◌, refl, sym, ap, subst, ◌∙◌, arith}
use Rattle.std.proofs.lemmas.Option.{same_Some}
use mathlib.Core.Bool.{true≢false}
use Rattle.m3_terms.specs.Order.{term_eq}
use Rattle.m3_terms.specs.OrderLaws.{term_exact}
use Rattle.m3_terms.specs.Pattern.{triple_with}
use Rattle.m3_terms.specs.TermTable.{NamesOnce, IsIdOf}
use Rattle.m3_terms.specs.declared.term.Term.{Term}
use Rattle.m3_terms.specs.declared.table.TermId.{TermId}
use Rattle.m3_terms.specs.declared.triple.Triple.{Triple}
use Rattle.m3_intern.proofs.Positions.{get_contained, longer_extends}
use Rattle.triple_index.specs.declared.triple.IdTriple.{IdTriple}
use Rattle.answer_bodies.proofs.RowTriples.{triple_terms}
use Rattle.session_core.specs.Numbers.{triple_in, number_from, number_in}

-- the number that is found has the term, by whether the first term is the one
found_at : (first : ℕ) (other : Term) (terms : List Term) (term : Term) (id : TermId) (same : Bool) → term_eq term other ≡ same
    → (number_from (first + 1) terms term ≡ Some id → (n : ℕ) × (id.0 ≡ (first + 1) + n) × (slice_get terms n ≡ Some term))
    → (if same then Some (record { 0 = first }) else number_from (first + 1) terms term) ≡ Some id
    → (n : ℕ) × (id.0 ≡ first + n) × (slice_get (other ∷ terms) n ≡ Some term)
found_at first other terms term id true e later h = (
  0,
  sym (ap (λ (i : TermId). i.0) (same_Some (record { 0 = first }) id h)) ∙ omega arith,
  ap Some (sym ((term_exact term other).0 e)),
)
found_at first other terms term id false e later h = let found = later h in (suc found.0, found.1 ∙ omega arith, found.2)

found_from : (first : ℕ) (terms : List Term) (term : Term) (id : TermId) → number_from first terms term ≡ Some id
    → (n : ℕ) × (id.0 ≡ first + n) × (slice_get terms n ≡ Some term)
found_from first [] term id h = cc
found_from first (other ∷ terms) term id h = found_at first other terms term id (term_eq term other) refl (found_from (first + 1) terms term id) h

-- and where none is found no number has it, by whether the first term is the one
none_at : (first : ℕ) (other : Term) (terms : List Term) (term : Term) (same : Bool) → term_eq term other ≡ same
    → (number_from (first + 1) terms term ≡ None → (n : ℕ) → slice_get terms n ≢ Some term)
    → (if same then Some (record { 0 = first }) else number_from (first + 1) terms term) ≡ None
    → (n : ℕ) → slice_get (other ∷ terms) n ≢ Some term
none_at first other terms term true d later h n e = cc
none_at first other terms term false d later h zero e = true≢false (sym ((term_exact term other).1 (sym (same_Some other term e))) ∙ d)
none_at first other terms term false d later h (suc n) e = later h n e

none_from : (first : ℕ) (terms : List Term) (term : Term) → number_from first terms term ≡ None → (n : ℕ) → slice_get terms n ≢ Some term
none_from first [] term h n e = cc
none_from first (other ∷ terms) term h n e = none_at first other terms term (term_eq term other) refl (none_from (first + 1) terms term) h n e

pub number_found : (terms : List Term) (term : Term) (id : TermId) → number_in terms term ≡ Some id → slice_get terms id.0 ≡ Some term
number_found terms term id h =
    let found = found_from 0 terms term id h in
    ap (slice_get terms) (found.1 ∙ omega arith) ∙ found.2

pub number_none : (terms : List Term) (term : Term) → number_in terms term ≡ None → (n : ℕ) → slice_get terms n ≢ Some term
number_none terms term h = none_from 0 terms term h

-- a table of these terms answers with the number
pub number_is : (terms : List Term) (term : Term) (answer : Option TermId) → NamesOnce (slice_get terms) → IsIdOf (slice_get terms) term answer
    → answer ≡ number_in terms term
number_is terms term answer once is = at answer (number_in terms term) refl is
  where
    at : (answer found : Option TermId) → number_in terms term ≡ found → IsIdOf (slice_get terms) term answer → answer ≡ found
    at None None h is = refl
    at None (Some id) h is = absurd (is id.0 (number_found terms term id h))
    at (Some id) None h is = absurd (number_none terms term h id.0 is)
    at (Some id) (Some other) h is = ap (λ n. Some (record { 0 = n })) (once id.0 other.0 term is (number_found terms term other h))

-- the same of a table whose terms stand in the list
pub number_listed : (table : ℕ → Option Term) (terms : List Term) (term : Term) (answer : Option TermId) → ((n : ℕ) → table n ≡ slice_get terms n)
    → NamesOnce table → IsIdOf table term answer → answer ≡ number_in terms term
number_listed table terms term answer same once is =
    let e : table ≡ slice_get terms = λ i n. same n i in
    number_is terms term answer (subst NamesOnce e once) (subst (λ t. IsIdOf t term answer) e is)

-- a term of the list has a number
pub number_some : (terms : List Term) (term : Term) → Contains terms term → (id : TermId) × (number_in terms term ≡ Some id)
number_some terms term c = at (number_in terms term) refl
  where
    at : (found : Option TermId) → number_in terms term ≡ found → (id : TermId) × (found ≡ Some id)
    at None h = absurd (number_none terms term h (get_contained terms term c).0 (get_contained terms term c).1)
    at (Some id) h = (id, refl)

-- no two triples of numbers mean one triple, where no term stands twice
pub means_one : (terms : List Term) → NamesOnce (slice_get terms) → (s t : IdTriple) (q : Triple) → triple_in terms s ≡ Some q → triple_in terms t ≡ Some q → s ≡ t
means_one terms once s t q h k =
    let a = triple_terms _ _ _ q h in
    let b = triple_terms _ _ _ q k in
    let subject = once s.subject.0 t.subject.0 q.subject a.0 b.0 in
    let predicate = once s.predicate.0 t.predicate.0 q.predicate a.1 b.1 in
    let object = once s.object.0 t.object.0 q.object a.2 b.2 in
    λ i. record { subject = record { 0 = subject i }; predicate = record { 0 = predicate i }; object = record { 0 = object i } }

-- what means a triple means the same where more terms stand behind
pub means_still : (terms more : List Term) (t : IdTriple) (q : Triple) → triple_in terms t ≡ Some q → triple_in (terms ++ more) t ≡ Some q
means_still terms more t q h =
    let a = triple_terms _ _ _ q h in
    let longer : (n : ℕ) (term : Term) → slice_get terms n ≡ Some term → slice_get (terms ++ more) n ≡ slice_get terms n =
    λ n term e. longer_extends terms more n term e ∙ sym e in
    ap (λ x. triple_with x (slice_get (terms ++ more) t.predicate.0) (slice_get (terms ++ more) t.object.0)) (longer t.subject.0 q.subject a.0)
    ∙ ap (λ x. triple_with (slice_get terms t.subject.0) x (slice_get (terms ++ more) t.object.0)) (longer t.predicate.0 q.predicate a.1)
    ∙ ap (λ x. triple_with (slice_get terms t.subject.0) (slice_get terms t.predicate.0) x) (longer t.object.0 q.object a.2)
    ∙ h
