-- Patterns, and the triples that fit them.
use Rattle.std.specs.Prelude.{◌≡◌, Option, None, Some, [], ◌∷◌, refl, ⊤}
use Rattle.m3_terms.specs.declared.term.Term.{Term}
use Rattle.m3_terms.specs.declared.term.Term.TheVariants.{Uri, Literal}
use Rattle.m3_terms.specs.declared.triple.Triple.{Triple}
use Rattle.m3_terms.specs.declared.pattern.Slot.{Slot}
use Rattle.m3_terms.specs.declared.pattern.Slot.TheVariants.{Any, Is}
use Rattle.m3_terms.specs.declared.pattern.Pattern.{Pattern}

-- a slot admits each term where it is the wildcard, and else its own term alone
abbrev pub Admits : Slot → Term → Type 0
Admits Any term = ⊤
Admits (Is wanted) term = wanted ≡ term

-- a triple fits a pattern where each slot admits the term in its position
pub record Fits (pattern : Pattern) (triple : Triple) : Type 0 where
  pub subject : Admits pattern.subject triple.subject
  pub predicate : Admits pattern.predicate triple.predicate
  pub object : Admits pattern.object triple.object

-- a wildcard admits a literal
any_literal : Admits Any (Literal (97 ∷ []))
any_literal = tt

-- a triple fits the pattern of its own subject
own_subject : (t : Triple) → Fits (record { subject = Is t.subject; predicate = Any; object = Any }) t
own_subject t = record { subject = refl; predicate = tt; object = tt }

-- the term of a slot: none where it is the wildcard
abbrev pub term_of : Slot → Option Term
term_of Any = None
term_of (Is term) = Some term

-- three terms are a triple where all are there and the first two are uris
abbrev pub triple_with : Option Term → Option Term → Option Term → Option Triple
triple_with (Some (Uri subject)) (Some (Uri predicate)) (Some object) = Some (record { subject = Uri subject; predicate = Uri predicate; object = object })
triple_with subject predicate object = None

-- the triple that a pattern is: the triple of its terms
abbrev pub triple_of : Pattern → Option Triple
triple_of pattern = triple_with (term_of pattern.subject) (term_of pattern.predicate) (term_of pattern.object)

-- a pattern of two uris and a literal is a triple
triple_is : triple_of (record { subject = Is (Uri (97 ∷ [])); predicate = Is (Uri (98 ∷ [])); object = Is (Literal []) })
    ≡ Some (record { subject = Uri (97 ∷ []); predicate = Uri (98 ∷ []); object = Literal [] })
triple_is = refl

-- a pattern with a wildcard is none
wildcard_is_none : triple_of (record { subject = Is (Uri (97 ∷ [])); predicate = Is (Uri (98 ∷ [])); object = Any }) ≡ None
wildcard_is_none = refl

-- a pattern with a literal as its subject is none
literal_is_none : triple_of (record { subject = Is (Literal (97 ∷ [])); predicate = Is (Uri (98 ∷ [])); object = Is (Literal []) }) ≡ None
literal_is_none = refl
