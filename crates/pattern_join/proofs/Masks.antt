-- What fits a mask is what means a triple that fits.
use Rattle.std.proofs.Common.{◌≡◌, ◌∙◌, ℕ, Bool, true, false, ◌&&◌, cond, List, [], ◌∷◌, find, nat_eq, Option, None, Some, refl, sym, ap, subst}
use Rattle.std.proofs.lemmas.Option.{same_Some, none-some}
use Rattle.std.specs.Option.{IsSome, option_map, option_and_then, option_map_or}
use Rattle.m3_terms.specs.TermTable.{NamesOnce}
use Rattle.m3_terms.specs.declared.term.Term.{Term}
use Rattle.m3_terms.specs.declared.table.TermId.{TermId}
use Rattle.m3_terms.specs.declared.triple.Triple.{Triple}
use Rattle.sparql_algebra.specs.declared.mapping.Binding.{Binding}
use Rattle.sparql_algebra.specs.declared.pattern.Place.{Place}
use Rattle.sparql_algebra.specs.declared.pattern.Place.TheVariants.{Var}
use Rattle.sparql_algebra.specs.declared.pattern.PatternTriple.{PatternTriple}
use Rattle.sparql_algebra.specs.declared.var.Var.{Var as Variable}
use Rattle.sparql_algebra.specs.Merged.{IsRising}
use Rattle.sparql_algebra.specs.Solutions.{bound}
use Rattle.sparql_algebra.specs.TermSolutions.{id_var, solution_in, HasTerms}
use Rattle.sparql_algebra.proofs.Naming.{term_at_named}
use Rattle.triple_index.specs.Fits.{admits, fits}
use Rattle.triple_index.specs.declared.triple.IdTriple.{IdTriple}
use Rattle.pattern_join.specs.Meaning.{triple_in}
use Rattle.pattern_join.specs.Scan.{put_in, admits_term, fits_under}
use Rattle.pattern_join.specs.Search.{IsMaskPlace, id_fits}
use Rattle.pattern_join.proofs.Meanings.{Means, meaning_of, same_number}

-- what a triple of numbers fits, where it means this triple
pub fits_of_meaning : (terms : ℕ → Option Term) (row : List Binding) (pattern : PatternTriple) (t : IdTriple) (triple : Triple) → Means terms t triple
    → id_fits terms row pattern t ≡ fits_under (solution_in terms row) pattern triple
fits_of_meaning terms row pattern t triple m = ap (λ o. option_map_or (fits_under (solution_in terms row) pattern) o false) m.is

module _ (terms : ℕ → Option Term) where
  -- what a variable is bound to in a row whose numbers have terms has a term: one step
  bound_has_at : (b : Binding) (id : TermId) (o : Option Binding) (own : Bool) → IsSome (terms b.term.0)
      → (option_map (λ x. x.term) o ≡ Some id → IsSome (terms id.0)) → option_map (λ x. x.term) (cond own (Some b) o) ≡ Some id → IsSome (terms id.0)
  bound_has_at b id o true has later e = subst (λ (k : TermId). IsSome (terms k.0)) (same_Some b.term id e) has
  bound_has_at b id o false has later e = later e

  -- what a variable is bound to in a row whose numbers have terms has a term
  pub bound_has : (row : List Binding) (var : Variable) (id : TermId) → HasTerms terms row → bound row var ≡ Some id → IsSome (terms id.0)
  bound_has [] var id has e = absurd (none-some id e)
  bound_has (b ∷ row) var id has e =
      bound_has_at b id (find (λ x. nat_eq x.var.0 var.0) row) (nat_eq b.var.0 var.0) has.0 (bound_has row var id has.1) e

  module _ (once : NamesOnce terms) where
    -- a number admits another exactly where its term admits that of the other
    known_admits : (k : TermId) (own : Option Term) → terms k.0 ≡ own → IsSome own → (id : TermId) (term : Term) → terms id.0 ≡ Some term
        → nat_eq k.0 id.0 ≡ admits_term own term
    known_admits k None h some id term e = absurd (cc)
    known_admits k (Some own) h some id term e = same_number terms once k.0 id.0 own term h e

    option_admits : (o : Option TermId) → ((k : TermId) → o ≡ Some k → IsSome (terms k.0)) → (id : TermId) (term : Term) → terms id.0 ≡ Some term
        → admits o id ≡ admits_term (option_and_then (λ k. terms k.0) o) term
    option_admits None has id term e = refl
    option_admits (Some k) has id term e = known_admits k (terms k.0) refl (has k refl) id term e

    -- what a mask has in the position of a variable
    pub variable_place : (row : List Binding) (var : Variable) (place : Place) (got : Option TermId) → place ≡ Var var → got ≡ bound row var → IsRising id_var row
        → HasTerms terms row → IsMaskPlace terms row place (Some got)
    variable_place row var place got is same r has id term e =
        let own : put_in (solution_in terms row) place ≡ option_and_then (λ k. terms k.0) (bound row var) =
        ap (put_in (solution_in terms row)) is ∙ term_at_named terms row var r in
        ap (λ o. admits o id) same ∙ option_admits (bound row var) (λ k. bound_has row var k has) id term e ∙ ap (λ o. admits_term o term) (sym own)

  both_same : (a b c d e f : Bool) → a ≡ d → b ≡ e → c ≡ f → (a && b && c) ≡ (d && e && f)
  both_same a b c d e f g h k = rw (g, h, k) refl

  -- the mask of three positions
  pub mask_is : (row : List Binding) (pattern : PatternTriple) (subject predicate object : Option TermId)
      → IsMaskPlace terms row pattern.subject (Some subject) → IsMaskPlace terms row pattern.predicate (Some predicate) → IsMaskPlace terms row pattern.object (Some object)
      → (t : IdTriple) → IsSome (triple_in terms t)
      → fits (record { subject = subject; predicate = predicate; object = object }) t ≡ id_fits terms row pattern t
  mask_is row pattern subject predicate object s p o t some =
      let m = meaning_of terms t some in
      both_same _ _ _ _ _ _ (s t.subject m.0.subject m.1.subject) (p t.predicate m.0.predicate m.1.predicate) (o t.object m.0.object m.1.object)
      ∙ sym (fits_of_meaning terms row pattern t m.0 m.1)
