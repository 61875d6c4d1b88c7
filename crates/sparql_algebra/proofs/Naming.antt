-- What a solution by numbers stands for in a table of terms: lookups, compatibility and merge go over.
use Rattle.std.proofs.Common.{◌≡◌, ◌∙◌, ℕ, Bool, true, false, cond, List, [], ◌∷◌, nat_eq, Option, None, Some, refl, sym, ap, subst}
use Rattle.std.proofs.lemmas.Bool.{eqb-true}
use Rattle.std.specs.List.{filter_map, cons_option}
use Rattle.std.specs.List.Sorted.{IsStrictlySortedBy}
use Rattle.std.specs.Option.{IsSome, unwrap_or, option_map, option_and_then, option_or}
use Rattle.std.proofs.lemmas.Option.{none-some}
use Rattle.std.specs.Ordering.{nat_cmp}
use Rattle.std.specs.declared.cmp.Ordering.TheVariants.{Less}
use Rattle.m3_terms.specs.TermTable.{NamesOnce}
use Rattle.m3_terms.specs.declared.term.Term.{Term}
use Rattle.sparql_algebra.specs.declared.var.Var.{Var}
use Rattle.sparql_algebra.specs.declared.mapping.Binding.{Binding}
use Rattle.sparql_algebra.specs.Solutions.{bound}
use Rattle.sparql_algebra.specs.Merged.{IsRising, lookup}
use Rattle.sparql_algebra.specs.TermSolutions.{TermBinding, id_var, term_var, term_at, named, solution_in, HasTerms, IdCompatible, Compatible, id_merge, merge}
use Rattle.sparql_algebra.proofs.Lookups.{Above, unbound_below, rising_exact, rising_merged, lookup_merged}
use Rattle.sparql_algebra.proofs.Agreeing.{one_binding}

module _ (terms : ℕ → Option Term) where
  -- the lookup in the named bindings: one step
  named_at : (b : Binding) (bs : List Binding) (v : ℕ) → Above id_var b.var.0 bs
      → lookup term_var (filter_map (named terms) bs) v ≡ option_and_then (named terms) (lookup id_var bs v)
      → (t : Option Term) → terms b.term.0 ≡ t → (own : Bool) → nat_eq b.var.0 v ≡ own
      → lookup term_var (cons_option (option_map (λ term. record { var = b.var; term = term }) t) (filter_map (named terms) bs)) v
      ≡ option_and_then (named terms) (cond own (Some b) (lookup id_var bs v))
  named_at b bs v a e None h true k =
      let none : lookup id_var bs v ≡ None = subst (λ n. lookup id_var bs n ≡ None) (eqb-true b.var.0 v k) (unbound_below id_var b.var.0 bs a) in
      e ∙ ap (option_and_then (named terms)) none ∙ ap (option_map (λ term. record { var = b.var; term = term })) (sym h)
  named_at b bs v a e None h false k = e
  named_at b bs v a e (Some t) h true k = rw k (ap (option_map (λ term. record { var = b.var; term = term })) (sym h))
  named_at b bs v a e (Some t) h false k = rw k e

  -- a variable is bound to the binding that its number names
  pub lookup_named : (bs : List Binding) (v : ℕ) → IsRising id_var bs
      → lookup term_var (solution_in terms bs) v ≡ option_and_then (named terms) (lookup id_var bs v)
  unfolding IsStrictlySortedBy
  lookup_named [] v r = refl
  lookup_named (b ∷ bs) v r = named_at b bs v r.0 (lookup_named bs v r.1) _ refl _ refl

  -- the term of a named binding
  term_of_named : (t : Option Term) (var : Var) → option_map {T = TermBinding} (λ b. b.term) (option_map (λ term. record { var = var; term = term }) t) ≡ t
  term_of_named None var = refl
  term_of_named (Some term) var = refl

  term_of_found : (o : Option Binding) → option_map (λ b. b.term) (option_and_then (named terms) o) ≡ option_and_then (λ id. terms id.0) (option_map (λ b. b.term) o)
  term_of_found None = refl
  term_of_found (Some b) = term_of_named (terms b.term.0) b.var

  -- a variable has the term of the number that it is bound to
  pub term_at_named : (bs : List Binding) (var : Var) → IsRising id_var bs → term_at (solution_in terms bs) var ≡ option_and_then (λ id. terms id.0) (bound bs var)
  term_at_named bs var r = ap (option_map (λ b. b.term)) (lookup_named bs var.0 r) ∙ term_of_found (lookup id_var bs var.0)

  -- the same where each number has a term, whether the variables rise or not: one step
  met_at : (b : Binding) (bs : List Binding) (v : ℕ) → lookup term_var (filter_map (named terms) bs) v ≡ option_and_then (named terms) (lookup id_var bs v)
      → (t : Option Term) → terms b.term.0 ≡ t → IsSome t → (own : Bool) → nat_eq b.var.0 v ≡ own
      → lookup term_var (cons_option (option_map (λ term. record { var = b.var; term = term }) t) (filter_map (named terms) bs)) v
      ≡ option_and_then (named terms) (cond own (Some b) (lookup id_var bs v))
  met_at b bs v e None h some own k = absurd (cc)
  met_at b bs v e (Some t) h some true k = rw k (ap (option_map (λ term. record { var = b.var; term = term })) (sym h))
  met_at b bs v e (Some t) h some false k = rw k e

  lookup_has : (bs : List Binding) (v : ℕ) → HasTerms terms bs → lookup term_var (solution_in terms bs) v ≡ option_and_then (named terms) (lookup id_var bs v)
  lookup_has [] v has = refl
  lookup_has (b ∷ bs) v has = met_at b bs v (lookup_has bs v has.1) _ refl has.0 _ refl

  pub term_at_has : (bs : List Binding) (var : Var) → HasTerms terms bs → term_at (solution_in terms bs) var ≡ option_and_then (λ id. terms id.0) (bound bs var)
  term_at_has bs var has = ap (option_map (λ b. b.term)) (lookup_has bs var.0 has) ∙ term_of_found (lookup id_var bs var.0)

  -- what is below some bindings is below what they name
  above_cons : (n : ℕ) (b : Binding) (rest : List TermBinding) → nat_cmp n b.var.0 ≡ Less → Above term_var n rest → (t : Option Term)
      → Above term_var n (cons_option (option_map (λ term. record { var = b.var; term = term }) t) rest)
  above_cons n b rest low a None = a
  above_cons n b rest low a (Some term) = (low, a)

  above_named : (n : ℕ) (bs : List Binding) → Above id_var n bs → Above term_var n (solution_in terms bs)
  above_named n [] a = tt
  above_named n (b ∷ bs) a = above_cons n b (solution_in terms bs) a.0 (above_named n bs a.1) (terms b.term.0)

  rising_cons : (b : Binding) (rest : List TermBinding) → Above term_var b.var.0 rest → IsRising term_var rest → (t : Option Term)
      → IsRising term_var (cons_option (option_map (λ term. record { var = b.var; term = term }) t) rest)
  unfolding IsStrictlySortedBy
  rising_cons b rest a r None = r
  rising_cons b rest a r (Some term) = (a, r)

  -- a solution by numbers in order stands for a solution in order
  pub rising_named : (bs : List Binding) → IsRising id_var bs → IsRising term_var (solution_in terms bs)
  unfolding IsStrictlySortedBy
  rising_named [] r = tt
  rising_named (b ∷ bs) r = rising_cons b (solution_in terms bs) (above_named b.var.0 bs r.0) (rising_named bs r.1) (terms b.term.0)

  -- a binding that is found has a term where all have
  has_at : (b x : Binding) (bs : List Binding) (own : Bool) (o : Option Binding) → IsSome (terms b.term.0) → (o ≡ Some x → IsSome (terms x.term.0))
      → cond own (Some b) o ≡ Some x → IsSome (terms x.term.0)
  has_at b x bs true o h later e = subst (λ y. IsSome (terms y.term.0)) (ap (λ p. unwrap_or p b) e) h
  has_at b x bs false o h later e = later e

  pub found_has_term : (bs : List Binding) (v : ℕ) (x : Binding) → HasTerms terms bs → lookup id_var bs v ≡ Some x → IsSome (terms x.term.0)
  found_has_term [] v x h e = absurd (none-some x e)
  found_has_term (b ∷ bs) v x h e = has_at b x bs (nat_eq b.var.0 v) (lookup id_var bs v) h.0 (found_has_term bs v x h.1) e

  -- what is named is the name of something
  named_from : (o : Option Binding) (t : TermBinding) → option_and_then (named terms) o ≡ Some t → (b : Binding) × (o ≡ Some b) × (named terms b ≡ Some t)
  named_from None t e = absurd (none-some t e)
  named_from (Some b) t e = (b, refl, e)

  -- compatible solutions by numbers stand for compatible solutions
  pub compatible_named : (left right : List Binding) → IsRising id_var left → IsRising id_var right → IdCompatible left right
      → Compatible (solution_in terms left) (solution_in terms right)
  compatible_named left right r s agree var b c l e =
      let one = named_from (lookup id_var left var) b (sym (lookup_named left var r) ∙ l) in
      let two = named_from (lookup id_var right var) c (sym (lookup_named right var s) ∙ e) in
      let same : one.0 ≡ two.0 = agree var one.0 two.0 one.1 two.1 in
      ap (λ o. unwrap_or o b) (sym one.2 ∙ ap (named terms) same ∙ two.2)

  term_there : (b : Binding) (t : Option Term) → terms b.term.0 ≡ t → IsSome t → (term : Term) × (terms b.term.0 ≡ Some term) × (named terms b ≡ Some (record { var = b.var; term = term }))
  term_there b None e h = absurd (cc)
  term_there b (Some term) e h = (term, e, ap (option_map (λ x. record { var = b.var; term = x })) e)

  -- and only those, where each number has a term and no two numbers have one term
  pub named_compatible : NamesOnce terms → (left right : List Binding) → IsRising id_var left → IsRising id_var right → HasTerms terms left → HasTerms terms right
      → Compatible (solution_in terms left) (solution_in terms right) → IdCompatible left right
  named_compatible once left right r s has have agree var b c l e =
      let one = term_there b (terms b.term.0) refl (found_has_term left var b has l) in
      let two = term_there c (terms c.term.0) refl (found_has_term right var c have e) in
      let first : lookup term_var (solution_in terms left) var ≡ Some (record { var = b.var; term = one.0 }) =
      lookup_named left var r ∙ ap (option_and_then (named terms)) l ∙ one.2 in
      let second : lookup term_var (solution_in terms right) var ≡ Some (record { var = c.var; term = two.0 }) =
      lookup_named right var s ∙ ap (option_and_then (named terms)) e ∙ two.2 in
      let same = agree var (record { var = b.var; term = one.0 }) (record { var = c.var; term = two.0 }) first second in
      let number : b.term.0 ≡ c.term.0 = once b.term.0 c.term.0 two.0 (one.1 ∙ ap (λ x. Some x.term) same) two.1 in
      one_binding b c (ap (λ x. x.var.0) same) number

  or_named : (o p : Option Binding) → ((b : Binding) → o ≡ Some b → IsSome (terms b.term.0))
      → option_and_then (named terms) (option_or o p) ≡ option_or (option_and_then (named terms) o) (option_and_then (named terms) p)
  or_named None p has = refl
  or_named (Some b) p has =
      let t = term_there b (terms b.term.0) refl (has b refl) in
      t.2 ∙ ap (λ q. option_or q (option_and_then (named terms) p)) (sym t.2)

  -- a merge by numbers stands for the merge
  pub merge_named : (left right : List Binding) → IsRising id_var left → IsRising id_var right → HasTerms terms left
      → solution_in terms (id_merge left right) ≡ merge (solution_in terms left) (solution_in terms right)
  merge_named left right r s has =
      rising_exact term_var _ _ (rising_named (id_merge left right) (rising_merged id_var left right s)) (rising_merged term_var (solution_in terms left) (solution_in terms right) (rising_named right s))
      (λ v. lookup_named (id_merge left right) v (rising_merged id_var left right s)
      ∙ ap (option_and_then (named terms)) (lookup_merged id_var left right v r s)
      ∙ or_named (lookup id_var left v) (lookup id_var right v) (λ b e. found_has_term left v b has e)
      ∙ ap (λ q. option_or q (option_and_then (named terms) (lookup id_var right v))) (sym (lookup_named left v r))
      ∙ ap (option_or (lookup term_var (solution_in terms left) v)) (sym (lookup_named right v s))
      ∙ sym (lookup_merged term_var (solution_in terms left) (solution_in terms right) v (rising_named left r) (rising_named right s)))

  alike : NamesOnce terms → (left right : List Binding) (o p : Option Binding) → ((b : Binding) → HasTerms terms left → o ≡ Some b → IsSome (terms b.term.0))
      → ((b : Binding) → HasTerms terms right → p ≡ Some b → IsSome (terms b.term.0)) → HasTerms terms left → HasTerms terms right
      → option_and_then (named terms) o ≡ option_and_then (named terms) p → o ≡ p
  alike once left right None None f g has have e = refl
  alike once left right None (Some c) f g has have e = let t = term_there c (terms c.term.0) refl (g c have refl) in absurd (none-some _ (e ∙ t.2))
  alike once left right (Some b) None f g has have e = let t = term_there b (terms b.term.0) refl (f b has refl) in absurd (none-some _ (sym e ∙ t.2))
  alike once left right (Some b) (Some c) f g has have e =
      let t = term_there b (terms b.term.0) refl (f b has refl) in
      let u = term_there c (terms c.term.0) refl (g c have refl) in
      let same : record { var = b.var; term = t.0 } ≡ record { var = c.var; term = u.0 } = ap (λ o. unwrap_or o (record { var = b.var; term = t.0 })) (sym t.2 ∙ e ∙ u.2) in
      ap Some (one_binding b c (ap (λ x. x.var.0) same) (once b.term.0 c.term.0 u.0 (t.1 ∙ ap (λ x. Some x.term) same) u.1))

  -- solutions by numbers that stand for one solution are one, where each number has a term and no two numbers have one term
  pub named_once : NamesOnce terms → (left right : List Binding) → IsRising id_var left → IsRising id_var right → HasTerms terms left → HasTerms terms right
      → solution_in terms left ≡ solution_in terms right → left ≡ right
  named_once once left right r s has have same =
      rising_exact id_var left right r s (λ v. alike once left right (lookup id_var left v) (lookup id_var right v) (found_has_term left v) (found_has_term right v) has have
      (sym (lookup_named left v r) ∙ ap (λ l. lookup term_var l v) same ∙ lookup_named right v s))
