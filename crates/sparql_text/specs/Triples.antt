-- Triple patterns, with `;` and `,` for those of one subject and of one verb.
use Rattle.std.specs.Prelude.{◌≡◌, List, ◌∷◌, ◌++◌, Option, map, flat_map, option_to_list}
use Rattle.sparql_algebra.specs.declared.pattern.Place.{Place}
use Rattle.sparql_algebra.specs.declared.pattern.PatternTriple.{PatternTriple}
use Rattle.sparql_text.specs.declared.word.Word.TheVariants as word
use Rattle.sparql_text.specs.Tokens.{Token, Fixed}
use Rattle.sparql_text.specs.Front.{Front, The, One, ◌then◌, Many, Given}
use Rattle.sparql_text.specs.Scope.{Scope, as_subject, as_verb, as_object}

-- what is said of a subject: a verb with its objects
pub record Saying : Type 0 where
  pub verb : Place
  pub first : Place
  pub others : List Place

-- the triple patterns that a saying makes of a subject
abbrev pub said_of : Place → Saying → List PatternTriple
said_of subject saying = map (λ object. record { subject = subject; predicate = saying.verb; object = object }) (saying.first ∷ saying.others)

-- Objects = Object ( "," Object )*, behind a Verb
abbrev pub ReadsSaying : Scope → Saying → Front
ReadsSaying scope saying = One (as_verb scope) saying.verb then One (as_object scope) saying.first
    then Many (λ object. The word.Comma then One (as_object scope) object) saying.others

-- Same = ( Var or Iri ) Verb Objects ( ";" [ Verb Objects ] )*
pub record ReadsSame (scope : Scope) (value : List PatternTriple) (tokens rest : List Token) : Type 0 where
  pub subject : Place
  pub first : Saying
  pub others : List (Option Saying)
  pub is : value ≡ flat_map (said_of subject) (first ∷ flat_map option_to_list others)
  pub reads : (One (as_subject scope) subject then ReadsSaying scope first
      then Many (λ saying. The word.Semicolon then Given (ReadsSaying scope) saying) others) tokens rest

-- Triples = Same [ "." [ Triples ] ]
pub data ReadsTriples (scope : Scope) : List PatternTriple → List Token → List Token → Type 0 where
  Last : (value : List PatternTriple) (tokens rest : List Token) → ReadsSame scope value tokens rest → ReadsTriples scope value tokens rest
  Dotted : (value : List PatternTriple) (tokens rest : List Token) → ReadsSame scope value tokens (Fixed word.Dot ∷ rest)
      → ReadsTriples scope value tokens rest
  More : (value values : List PatternTriple) (tokens middle rest : List Token) → ReadsSame scope value tokens (Fixed word.Dot ∷ middle)
      → ReadsTriples scope values middle rest → ReadsTriples scope (value ++ values) tokens rest
