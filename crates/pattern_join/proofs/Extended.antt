-- A solution that is extended by a triple: it makes the triple of the pattern, and binds no more than that needs.
use Rattle.std.proofs.Common.{◌≡◌, ◌∙◌, ◌⊎◌, inl, inr, Bool, true, false, ◌&&◌, cond, nat_eq, Option, None, Some, refl, sym, ap, subst}
use Rattle.std.proofs.lemmas.Bool.{eqb-true, eq-eqb}
use Rattle.std.proofs.lemmas.Option.{same_Some, none-some}
use Rattle.std.specs.Option.{IsSome, option_map, option_and_then}
use Rattle.m3_terms.specs.Inserted.{inserted}
use Rattle.m3_terms.specs.Order.{term_eq}
use Rattle.m3_terms.specs.OrderLaws.{term_exact}
use Rattle.m3_terms.specs.declared.term.Term.{Term}
use Rattle.m3_terms.specs.declared.triple.Triple.{Triple}
use Rattle.sparql_algebra.specs.declared.pattern.Place.{Place}
use Rattle.sparql_algebra.specs.declared.pattern.Place.TheVariants.{Var, Is}
use Rattle.sparql_algebra.specs.declared.pattern.PatternTriple.{PatternTriple}
use Rattle.sparql_algebra.specs.declared.var.Var.{Var as Variable}
use Rattle.sparql_algebra.specs.Merged.{by_var, lookup}
use Rattle.sparql_algebra.specs.Patterns.{IsVariable, Mentions, MakesTerm, MakesTriple}
use Rattle.sparql_algebra.specs.TermSolutions.{Solution, IsOrdered, term_var, term_at}
use Rattle.sparql_algebra.proofs.Lookups.{lookup_inserted, rising_inserted}
use Rattle.pattern_join.specs.Scan.{put_in, admits_term, fits_under, with_place, extended_at, extended_by}

-- what one solution binds, another binds to the same
abbrev pub IsWithin : Solution → Solution → Type 0
IsWithin s q = (v : Variable) (x : Term) → term_at s v ≡ Some x → term_at q v ≡ Some x

pub within_trans : (s q r : Solution) → IsWithin s q → IsWithin q r → IsWithin s r
within_trans s q r f g v x e = g v x (f v x e)

-- a larger solution makes the same of a position
pub makes_within : (s q : Solution) (place : Place) (term : Term) → IsWithin s q → MakesTerm s place term → MakesTerm q place term
makes_within s q (Var var) term within makes = within var term makes
makes_within s q (Is own) term within makes = makes

-- a value that is there is some value
pub some_is : {X : Type 0} (o : Option X) (x : X) → o ≡ Some x → IsSome o
some_is o x e = rw e refl

-- some value is a value that is there
pub is_value : {X : Type 0} (o : Option X) → IsSome o → (x : X) × (o ≡ Some x)
is_value None some = absurd (cc)
is_value (Some x) some = (x, refl)

-- what a larger solution makes of a position, the position admits
made_admits_at : (own : Option Term) (term : Term) → ((x : Term) → own ≡ Some x → x ≡ term) → admits_term own term ≡ true
made_admits_at None term h = refl
made_admits_at (Some x) term h = (term_exact x term).1 (h x refl)

pub made_admits : (s q : Solution) (place : Place) (term : Term) → IsWithin s q → MakesTerm q place term → admits_term (put_in s place) term ≡ true
made_admits s q (Var var) term within makes = made_admits_at (term_at s var) term (λ x e. same_Some x term (sym (within var x e) ∙ makes))
made_admits s q (Is own) term within makes = (term_exact own term).1 makes

-- a solution is extended by the term in a position
pub record IsExtendedAt (place : Place) (term : Term) (s q : Solution) : Type 0 where
  pub ordered : IsOrdered q
  pub within : IsWithin s q
  pub makes : MakesTerm q place term
  pub only : (v : Variable) → IsSome (term_at q v) → IsSome (term_at s v) ⊎ IsVariable place v

-- what a variable is bound to after an insertion
put_at : (s : Solution) (var : Variable) (term : Term) (v : Variable) → IsOrdered s
    → term_at (inserted (by_var term_var) (record { var = var; term = term }) s) v
    ≡ option_map (λ b. b.term) (cond (nat_eq var.0 v.0) (Some (record { var = var; term = term })) (lookup term_var s v.0))
put_at s var term v r = ap (option_map (λ b. b.term)) (lookup_inserted term_var (record { var = var; term = term }) s v.0 r)

one_variable : (a b : Variable) → a.0 ≡ b.0 → a ≡ b
one_variable a b e = λ i. record { 0 = e i }

own_at : (s : Solution) (var : Variable) (term : Term) (v : Variable) (own : Bool) → nat_eq var.0 v.0 ≡ own → own ≡ true
    → option_map (λ b. b.term) (cond own (Some (record { var = var; term = term })) (lookup term_var s v.0)) ≡ Some term
own_at s var term v true e h = refl
own_at s var term v false e h = absurd (cc)

-- the binding that is put in is there
own_put : (s : Solution) (var : Variable) (term : Term) → IsOrdered s → term_at (inserted (by_var term_var) (record { var = var; term = term }) s) var ≡ Some term
own_put s var term r = put_at s var term var r ∙ own_at s var term var (nat_eq var.0 var.0) refl (eq-eqb var.0 var.0 refl)

-- where the variable had no other term, each binding stays
kept_at : (s : Solution) (var : Variable) (term : Term) (v : Variable) (x : Term) (own : Bool) → nat_eq var.0 v.0 ≡ own → admits_term (term_at s var) term ≡ true
    → term_at s v ≡ Some x → option_map (λ b. b.term) (cond own (Some (record { var = var; term = term })) (lookup term_var s v.0)) ≡ Some x
kept_at s var term v x true e h k =
    let here : term_at s var ≡ Some x = ap (term_at s) (one_variable var v (eqb-true var.0 v.0 e)) ∙ k in
    let same : term_eq x term ≡ true = subst (λ o. admits_term o term ≡ true) here h in
    ap Some (sym ((term_exact x term).0 same))
kept_at s var term v x false e h k = k

-- no other variable is bound
only_at : (s : Solution) (var : Variable) (term : Term) (v : Variable) (own : Bool) → nat_eq var.0 v.0 ≡ own
    → IsSome (option_map (λ b. b.term) (cond own (Some (record { var = var; term = term })) (lookup term_var s v.0))) → IsSome (term_at s v) ⊎ (var ≡ v)
only_at s var term v true e some = inr (one_variable var v (eqb-true var.0 v.0 e))
only_at s var term v false e some = inl some

-- a position that admits a term extends a solution by it
placed : (place : Place) (term : Term) (s : Solution) → IsOrdered s → admits_term (put_in s place) term ≡ true → IsExtendedAt place term s (with_place place term s)
placed (Var var) term s r h = record {
  ordered = rising_inserted term_var (record { var = var; term = term }) s r;
  within = λ v x e. put_at s var term v r ∙ kept_at s var term v x _ refl h e;
  makes = own_put s var term r;
  only = λ v some. only_at s var term v _ refl (subst IsSome (put_at s var term v r) some);
}
placed (Is own) term s r h = record {
  ordered = r;
  within = λ v x e. e;
  makes = (term_exact own term).0 h;
  only = λ v some. inl some;
}

extended_is_at : (place : Place) (term : Term) (s q : Solution) → IsOrdered s → (admitted : Bool) → admits_term (put_in s place) term ≡ admitted
    → cond admitted (Some (with_place place term s)) None ≡ Some q → IsExtendedAt place term s q
extended_is_at place term s q r true h e = subst (IsExtendedAt place term s) (same_Some _ q e) (placed place term s r h)
extended_is_at place term s q r false h e = absurd (none-some q e)

-- what a solution is extended to by the term in a position
pub extended_is : (place : Place) (term : Term) (s q : Solution) → IsOrdered s → extended_at place term s ≡ Some q → IsExtendedAt place term s q
extended_is place term s q r e = extended_is_at place term s q r _ refl e

within_at : (s q : Solution) (var : Variable) (term : Term) (v : Variable) (x : Term) (own : Bool) → nat_eq var.0 v.0 ≡ own → IsWithin s q → term_at q var ≡ Some term
    → option_map (λ b. b.term) (cond own (Some (record { var = var; term = term })) (lookup term_var s v.0)) ≡ Some x → term_at q v ≡ Some x
within_at s q var term v x true e within makes k = ap (term_at q) (sym (one_variable var v (eqb-true var.0 v.0 e))) ∙ makes ∙ k
within_at s q var term v x false e within makes k = within v x k

-- an extension is within each larger solution that makes the term
placed_within : (place : Place) (term : Term) (s q : Solution) → IsOrdered s → IsWithin s q → MakesTerm q place term → IsWithin (with_place place term s) q
placed_within (Var var) term s q r within makes v x e = within_at s q var term v x _ refl within makes (sym (put_at s var term v r) ∙ e)
placed_within (Is own) term s q r within makes v x e = within v x e

-- so a solution is extended towards each larger one that makes the term
towards_at : (place : Place) (term : Term) (s q : Solution) → IsOrdered s → IsWithin s q → MakesTerm q place term
    → (n : Solution) × (extended_at place term s ≡ Some n) × IsOrdered n × IsWithin n q
towards_at place term s q r within makes =
    let h = made_admits s q place term within makes in
    (with_place place term s, ap (λ b. cond b (Some (with_place place term s)) None) h, (placed place term s r h).ordered, placed_within place term s q r within makes)

-- a solution is extended by a triple
pub record IsExtendedBy (pattern : PatternTriple) (triple : Triple) (s q : Solution) : Type 0 where
  pub ordered : IsOrdered q
  pub within : IsWithin s q
  pub makes : MakesTriple q pattern triple
  pub only : (v : Variable) → IsSome (term_at q v) → IsSome (term_at s v) ⊎ Mentions pattern v

-- a value that comes of another comes of some value
and_then_is : {X Y : Type 0} (f : X → Option Y) (o : Option X) (y : Y) → option_and_then f o ≡ Some y → (x : X) × (o ≡ Some x) × (f x ≡ Some y)
and_then_is f None y e = absurd (none-some y e)
and_then_is f (Some x) y e = (x, refl, e)

-- what a solution is extended to by a triple
pub extended_by_is : (pattern : PatternTriple) (triple : Triple) (s q : Solution) → IsOrdered s → extended_by pattern triple s ≡ Some q → IsExtendedBy pattern triple s q
extended_by_is pattern triple s q r e =
    let third = and_then_is (extended_at pattern.object triple.object) (option_and_then (extended_at pattern.predicate triple.predicate) (extended_at pattern.subject triple.subject s)) q e in
    let second = and_then_is (extended_at pattern.predicate triple.predicate) (extended_at pattern.subject triple.subject s) third.0 third.1 in
    let a = extended_is pattern.subject triple.subject s second.0 r second.1 in
    let b = extended_is pattern.predicate triple.predicate second.0 third.0 a.ordered second.2 in
    let c = extended_is pattern.object triple.object third.0 q b.ordered third.2 in
    record {
      ordered = c.ordered;
      within = within_trans s second.0 q a.within (within_trans second.0 third.0 q b.within c.within);
      makes = record {
        subject = makes_within second.0 q pattern.subject triple.subject (within_trans second.0 third.0 q b.within c.within) a.makes;
        predicate = makes_within third.0 q pattern.predicate triple.predicate c.within b.makes;
        object = c.makes;
      };
      only = λ v some. elim (c.only v some) [
        | inl two ↦ elim (b.only v two) [
          | inl one ↦ elim (a.only v one) [ inl none ↦ inl none | inr is ↦ inr (inl is) ]
          | inr is ↦ inr (inr (inl is))
        ]
        | inr is ↦ inr (inr (inr is))
      ];
    }

both_three : (a b c : Bool) → a ≡ true → b ≡ true → c ≡ true → (a && b && c) ≡ true
both_three a b c f g h = rw (f, g, h) refl

-- a triple that a larger solution makes fits the pattern into which a solution is put
pub made_fits : (pattern : PatternTriple) (triple : Triple) (s q : Solution) → IsWithin s q → MakesTriple q pattern triple → fits_under s pattern triple ≡ true
made_fits pattern triple s q within makes = both_three _ _ _
    (made_admits s q pattern.subject triple.subject within makes.subject)
    (made_admits s q pattern.predicate triple.predicate within makes.predicate)
    (made_admits s q pattern.object triple.object within makes.object)

unfit_at : (pattern : PatternTriple) (triple : Triple) (s : Solution) → IsOrdered s → (o : Option Solution) → extended_by pattern triple s ≡ o
    → fits_under s pattern triple ≡ false → o ≡ None
unfit_at pattern triple s r None e h = refl
unfit_at pattern triple s r (Some q) e h =
    let is = extended_by_is pattern triple s q r e in
    let fit = made_fits pattern triple s q is.within is.makes in
    absurd (let g : true ≡ false = sym fit ∙ h in cc)

-- a triple that does not fit extends nothing
pub unfit : (pattern : PatternTriple) (triple : Triple) (s : Solution) → IsOrdered s → fits_under s pattern triple ≡ false → extended_by pattern triple s ≡ None
unfit pattern triple s r h = unfit_at pattern triple s r (extended_by pattern triple s) refl h

-- a solution is extended towards each larger one that makes the triple
pub towards : (pattern : PatternTriple) (triple : Triple) (s q : Solution) → IsOrdered s → IsWithin s q → MakesTriple q pattern triple
    → (n : Solution) × (extended_by pattern triple s ≡ Some n) × IsWithin n q
towards pattern triple s q r within makes =
    let a = towards_at pattern.subject triple.subject s q r within makes.subject in
    let b = towards_at pattern.predicate triple.predicate a.0 q a.2 a.3 makes.predicate in
    let c = towards_at pattern.object triple.object b.0 q b.2 b.3 makes.object in (
      c.0,
      ap (λ o. option_and_then (extended_at pattern.object triple.object) (option_and_then (extended_at pattern.predicate triple.predicate) o)) a.1
          ∙ ap (option_and_then (extended_at pattern.object triple.object)) b.1 ∙ c.1,
      c.3,
    )
