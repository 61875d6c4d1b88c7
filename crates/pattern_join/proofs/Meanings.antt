-- A triple of numbers that means a triple: each of its numbers has a term.
use Rattle.std.proofs.Common.{◌≡◌, ◌∙◌, ℕ, Bool, true, false, Option, None, Some, nat_eq, refl, sym, ap}
use Rattle.std.proofs.lemmas.Bool.{eqb-true, eq-eqb}
use Rattle.std.proofs.lemmas.Option.{same_Some}
use Rattle.std.specs.Option.{IsSome}
use Rattle.m3_terms.specs.Order.{term_eq}
use Rattle.m3_terms.specs.OrderLaws.{term_exact}
use Rattle.m3_terms.specs.Pattern.{triple_with}
use Rattle.m3_terms.specs.TermTable.{NamesOnce}
use Rattle.m3_terms.specs.declared.term.Term.{Term}
use Rattle.m3_terms.specs.declared.term.Term.TheVariants.{Uri, Literal}
use Rattle.m3_terms.specs.declared.triple.Triple.{Triple}
use Rattle.triple_index.specs.declared.triple.IdTriple.{IdTriple}
use Rattle.pattern_join.specs.Meaning.{triple_in}

-- three terms that there may be are those of a triple
pub record AreTermsOf (a b c : Option Term) (triple : Triple) : Type 0 where
  pub is : triple_with a b c ≡ Some triple
  pub subject : a ≡ Some triple.subject
  pub predicate : b ≡ Some triple.predicate
  pub object : c ≡ Some triple.object

-- where three terms are a triple, they are its terms
pub terms_of : (subject predicate object : Option Term) → IsSome (triple_with subject predicate object) → (triple : Triple) × AreTermsOf subject predicate object triple
terms_of None predicate object some = absurd (cc)
terms_of (Some (Literal s)) predicate object some = absurd (cc)
terms_of (Some (Uri s)) None object some = absurd (cc)
terms_of (Some (Uri s)) (Some (Literal p)) object some = absurd (cc)
terms_of (Some (Uri s)) (Some (Uri p)) None some = absurd (cc)
terms_of (Some (Uri s)) (Some (Uri p)) (Some o) some =
    (record { subject = Uri s; predicate = Uri p; object = o }, record { is = refl; subject = refl; predicate = refl; object = refl })

-- a triple of numbers means this triple
abbrev pub Means : (ℕ → Option Term) → IdTriple → Triple → Type 0
Means terms t triple = AreTermsOf (terms t.subject.0) (terms t.predicate.0) (terms t.object.0) triple

-- a triple of numbers that means some triple
pub meaning_of : (terms : ℕ → Option Term) (t : IdTriple) → IsSome (triple_in terms t) → (triple : Triple) × Means terms t triple
meaning_of terms t some = terms_of (terms t.subject.0) (terms t.predicate.0) (terms t.object.0) some

-- two numbers of a table are one exactly where their terms are
module _ (terms : ℕ → Option Term) (once : NamesOnce terms) where
  same_at : (a b : ℕ) (s t : Term) → terms a ≡ Some s → terms b ≡ Some t → (e f : Bool) → nat_eq a b ≡ e → term_eq s t ≡ f → e ≡ f
  same_at a b s t m n true true e f = refl
  same_at a b s t m n false false e f = refl
  same_at a b s t m n true false e f =
      let one = eqb-true a b e in
      let same : term_eq s t ≡ true = (term_exact s t).1 (same_Some s t (sym m ∙ ap terms one ∙ n)) in
      absurd (let g : true ≡ false = sym same ∙ f in cc)
  same_at a b s t m n false true e f =
      let one : a ≡ b = once a b s m (n ∙ ap Some (sym ((term_exact s t).0 f))) in
      absurd (let g : true ≡ false = sym (eq-eqb a b one) ∙ e in cc)

  pub same_number : (a b : ℕ) (s t : Term) → terms a ≡ Some s → terms b ≡ Some t → nat_eq a b ≡ term_eq s t
  same_number a b s t m n = same_at a b s t m n _ _ refl refl
