-- A row that is extended by numbers stands for the solution that is extended by their terms.
use Rattle.std.proofs.Common.{◌≡◌, ◌∙◌, ℕ, Bool, true, false, ◌&&◌, cond, List, [], ◌∷◌, nat_eq, Option, None, Some, refl, sym, ap, subst}
use Rattle.std.proofs.lemmas.Option.{same_Some, none-some}
use Rattle.std.specs.Bool.{⊤}
use Rattle.std.specs.Cmp.{first_so, second_so}
use Rattle.std.specs.List.{cons_option}
use Rattle.std.specs.List.Sorted.{IsStrictlySortedBy}
use Rattle.std.specs.Option.{IsSome, option_map, option_and_then}
use Rattle.std.specs.Ordering.{nat_cmp}
use Rattle.std.specs.declared.cmp.Ordering.TheVariants.{Less}
use Rattle.m3_terms.specs.Inserted.{inserted}
use Rattle.m3_terms.specs.Order.{term_eq}
use Rattle.m3_terms.specs.OrderLaws.{term_exact}
use Rattle.m3_terms.specs.TermTable.{NamesOnce}
use Rattle.m3_terms.specs.declared.term.Term.{Term}
use Rattle.m3_terms.specs.declared.table.TermId.{TermId}
use Rattle.m3_terms.specs.declared.triple.Triple.{Triple}
use Rattle.sparql_algebra.specs.declared.mapping.Binding.{Binding}
use Rattle.sparql_algebra.specs.declared.pattern.Place.{Place}
use Rattle.sparql_algebra.specs.declared.pattern.Place.TheVariants.{Var, Is}
use Rattle.sparql_algebra.specs.declared.pattern.PatternTriple.{PatternTriple}
use Rattle.sparql_algebra.specs.declared.var.Var.{Var as Variable}
use Rattle.sparql_algebra.specs.Merged.{IsRising, by_var, lookup}
use Rattle.sparql_algebra.specs.Solutions.{bound, with_binding}
use Rattle.sparql_algebra.specs.TermSolutions.{Solution, TermBinding, id_var, term_var, term_at, named, solution_in, HasTerms}
use Rattle.sparql_algebra.proofs.Bindings.{all_put}
use Rattle.sparql_algebra.proofs.Lookups.{Above, lookup_inserted, rising_inserted, rising_exact, inserted_there, found_var}
use Rattle.sparql_algebra.proofs.Naming.{lookup_named, term_at_named}
use Rattle.triple_index.specs.declared.triple.IdTriple.{IdTriple}
use Rattle.pattern_join.specs.Scan.{put_in, admits_term, fits_under, extended_at, extended_by}
use Rattle.pattern_join.specs.Search.{id_bound_at, id_extended_at, id_extended_by}
use Rattle.pattern_join.proofs.Masks.{bound_has}
use Rattle.pattern_join.proofs.Meanings.{Means, same_number}

-- a row stands for a solution: its variables rise, and its numbers have terms
pub record IsKnown (terms : ℕ → Option Term) (row : List Binding) : Type 0 where
  pub rising : IsRising id_var row
  pub named : HasTerms terms row

-- a row that may be stands for a solution that may be: neither is, or both are
abbrev pub Alike : (ℕ → Option Term) → Option (List Binding) → Option Solution → Type 0
Alike terms None None = ⊤
Alike terms None (Some s) = ⊥
Alike terms (Some row) None = ⊥
Alike terms (Some row) (Some s) = IsKnown terms row × (solution_in terms row ≡ s)

-- a term in a position of a pattern is this
abbrev pub IsFit : Place → Term → Type 0
IsFit (Var var) term = ⊤
IsFit (Is own) term = own ≡ term

-- what a position admits is the term in it, if there is one
pub fit_of : (s : Solution) (place : Place) (term : Term) → admits_term (put_in s place) term ≡ true → IsFit place term
fit_of s (Var var) term h = tt
fit_of s (Is own) term h = (term_exact own term).0 h

module _ (terms : ℕ → Option Term) where
  above_option : (n : ℕ) (var : Variable) (o : Option Term) (rest : Solution) → nat_cmp n var.0 ≡ Less → Above term_var n rest
      → Above term_var n (cons_option (option_map (λ term. record { var = var; term = term }) o) rest)
  above_option n var None rest h a = a
  above_option n var (Some term) rest h a = (h, a)

  above_named : (n : ℕ) (bs : List Binding) → Above id_var n bs → Above term_var n (solution_in terms bs)
  above_named n [] a = tt
  above_named n (b ∷ bs) a = above_option n b.var (terms b.term.0) (solution_in terms bs) a.0 (above_named n bs a.1)

  rising_option : (var : Variable) (o : Option Term) (rest : Solution) → Above term_var var.0 rest → IsRising term_var rest
      → IsRising term_var (cons_option (option_map (λ term. record { var = var; term = term }) o) rest)
  unfolding IsStrictlySortedBy
  rising_option var None rest a r = r
  rising_option var (Some term) rest a r = (a, r)

  -- the variables of a solution rise where those of the row do
  pub rising_named : (bs : List Binding) → IsRising id_var bs → IsRising term_var (solution_in terms bs)
  unfolding IsStrictlySortedBy
  rising_named [] r = tt
  rising_named (b ∷ bs) r = rising_option b.var (terms b.term.0) (solution_in terms bs) (above_named b.var.0 bs r.0) (rising_named bs r.1)

  named_or : (b : Binding) (new : TermBinding) (o : Option Binding) (own : Bool) → named terms b ≡ Some new
      → option_and_then (named terms) (cond own (Some b) o) ≡ cond own (Some new) (option_and_then (named terms) o)
  named_or b new o true e = e
  named_or b new o false e = refl

  -- a row in which a variable is bound too stands for the solution in which it is bound too
  with_named : (row : List Binding) (var : Variable) (id : TermId) (term : Term) → terms id.0 ≡ Some term → IsRising id_var row
      → solution_in terms (with_binding row var id) ≡ inserted (by_var term_var) (record { var = var; term = term }) (solution_in terms row)
  with_named row var id term h r =
      let b : Binding = record { var = var; term = id } in
      let new : TermBinding = record { var = var; term = term } in
      let s = solution_in terms row in
      let t = rising_named row r in
      rising_exact term_var (solution_in terms (with_binding row var id)) (inserted (by_var term_var) new s)
      (rising_named (with_binding row var id) (rising_inserted id_var b row r)) (rising_inserted term_var new s t)
      (λ v. lookup_named terms (with_binding row var id) v (rising_inserted id_var b row r)
      ∙ ap (option_and_then (named terms)) (lookup_inserted id_var b row v r)
      ∙ named_or b new (lookup id_var row v) (nat_eq var.0 v) (ap (option_map (λ term. record { var = var; term = term })) h)
      ∙ ap (cond (nat_eq var.0 v) (Some new)) (sym (lookup_named terms row v r))
      ∙ sym (lookup_inserted term_var new s v t))

  -- it is one that stands for a solution
  with_known : (row : List Binding) (var : Variable) (id : TermId) (term : Term) → terms id.0 ≡ Some term → IsKnown terms row → IsKnown terms (with_binding row var id)
  with_known row var id term h known = record {
    rising = rising_inserted id_var (record { var = var; term = id }) row known.rising;
    named = all_put (λ b. IsSome (terms b.term.0)) (record { var = var; term = id }) row (rw h refl) known.named;
  }

  found_at : (s : Solution) (var : Variable) (term : Term) (o : Option TermBinding) → lookup term_var s var.0 ≡ o → option_map (λ b. b.term) o ≡ Some term
      → lookup term_var s var.0 ≡ Some (record { var = var; term = term })
  found_at s var term None e h = absurd (none-some term h)
  found_at s var term (Some b) e h =
      let own = found_var term_var s var.0 b e in
      let same = same_Some b.term term h in
      e ∙ ap Some (λ i. record { var = record { 0 = own i }; term = same i })

  -- what is bound to a term is not changed where it is bound to it once more
  stays : (s : Solution) (var : Variable) (term : Term) → IsRising term_var s → term_at s var ≡ Some term
      → inserted (by_var term_var) (record { var = var; term = term }) s ≡ s
  stays s var term r h = inserted_there term_var (record { var = var; term = term }) s r (found_at s var term (lookup term_var s var.0) refl h)

  module _ (once : NamesOnce terms) where
    there_alike : (row : List Binding) (var : Variable) (term : Term) → IsKnown terms row → (e f : Bool) → e ≡ f
        → (f ≡ true → term_at (solution_in terms row) var ≡ Some term)
        → Alike terms (cond e (Some row) None) (cond f (Some (inserted (by_var term_var) (record { var = var; term = term }) (solution_in terms row))) None)
    there_alike row var term known true true e h = (known, sym (stays (solution_in terms row) var term (rising_named row known.rising) (h refl)))
    there_alike row var term known true false e h = absurd (cc)
    there_alike row var term known false true e h = absurd (cc)
    there_alike row var term known false false e h = tt

    own_alike : (row : List Binding) (var : Variable) (id k : TermId) (term : Term) (own : Option Term) → terms id.0 ≡ Some term → IsKnown terms row
        → terms k.0 ≡ own → IsSome own → term_at (solution_in terms row) var ≡ own
        → Alike terms (cond (nat_eq k.0 id.0) (Some row) None) (cond (admits_term own term) (Some (inserted (by_var term_var) (record { var = var; term = term }) (solution_in terms row))) None)
    own_alike row var id k term None h known e some at = absurd (cc)
    own_alike row var id k term (Some own) h known e some at =
        there_alike row var term known (nat_eq k.0 id.0) (term_eq own term) (same_number terms once k.0 id.0 own term e h) (λ same. at ∙ ap Some ((term_exact own term).0 same))

    bound_alike : (row : List Binding) (var : Variable) (id : TermId) (term : Term) → terms id.0 ≡ Some term → IsKnown terms row
        → (o : Option TermId) → bound row var ≡ o → term_at (solution_in terms row) var ≡ option_and_then (λ k. terms k.0) o
        → Alike terms (id_bound_at var id row o) (cond (admits_term (option_and_then (λ k. terms k.0) o) term) (Some (inserted (by_var term_var) (record { var = var; term = term }) (solution_in terms row))) None)
    bound_alike row var id term h known None e at = (with_known row var id term h known, with_named row var id term h known.rising)
    bound_alike row var id term h known (Some k) e at = own_alike row var id k term (terms k.0) h known refl (bound_has terms row var k known.named e) at

    place_alike : (place : Place) (row : List Binding) (id : TermId) (term : Term) → terms id.0 ≡ Some term → IsKnown terms row → IsFit place term
        → Alike terms (id_extended_at place id row) (extended_at place term (solution_in terms row))
    place_alike (Var var) row id term h known fit =
        let s = solution_in terms row in
        let at = term_at_named terms row var known.rising in
        subst (λ o. Alike terms (id_bound_at var id row (bound row var)) (cond (admits_term o term) (Some (inserted (by_var term_var) (record { var = var; term = term }) s)) None)) (sym at)
        (bound_alike row var id term h known (bound row var) refl at)
    place_alike (Is own) row id term h known fit =
        subst (λ b. Alike terms (Some row) (cond b (Some (solution_in terms row)) None)) (sym ((term_exact own term).1 fit)) (known, refl)

    then_alike : (place : Place) (id : TermId) (term : Term) → terms id.0 ≡ Some term → IsFit place term → (o : Option (List Binding)) (e : Option Solution) → Alike terms o e
        → Alike terms (option_and_then (id_extended_at place id) o) (option_and_then (extended_at place term) e)
    then_alike place id term h fit None None alike = tt
    then_alike place id term h fit None (Some s) alike = absurd alike
    then_alike place id term h fit (Some row) None alike = absurd alike
    then_alike place id term h fit (Some row) (Some s) alike =
        subst (λ z. Alike terms (id_extended_at place id row) (extended_at place term z)) alike.1 (place_alike place row id term h alike.0 fit)

    -- what fits extends a row as its meaning extends the solution
    pub triple_alike : (pattern : PatternTriple) (t : IdTriple) (triple : Triple) (row : List Binding) → Means terms t triple → IsKnown terms row
        → fits_under (solution_in terms row) pattern triple ≡ true → Alike terms (id_extended_by pattern t row) (extended_by pattern triple (solution_in terms row))
    triple_alike pattern t triple row m known fit =
        let s = solution_in terms row in
        let a = admits_term (put_in s pattern.subject) triple.subject in
        let b = admits_term (put_in s pattern.predicate) triple.predicate in
        let c = admits_term (put_in s pattern.object) triple.object in
        let two = first_so (a && b) c fit in
        then_alike pattern.object t.object triple.object m.object (fit_of s pattern.object triple.object (second_so (a && b) c fit)) _ _
        (then_alike pattern.predicate t.predicate triple.predicate m.predicate (fit_of s pattern.predicate triple.predicate (second_so a b two)) _ _
        (place_alike pattern.subject row t.subject triple.subject m.subject known (fit_of s pattern.subject triple.subject (first_so a b two))))
