-- The parts of an attribute, and elements of a text with an attribute of their kind.
use Rattle.std.specs.Prelude.{ℕ, List, [], ◌∷◌, Option}
use Rattle.ssap_items.specs.declared.body.Kind.{Kind}
use Rattle.ssap_items.specs.declared.body.Kind.TheVariants.{Uri, Literal, Bnode}
use Rattle.ssap_items.specs.declared.body.RawTriple.{RawTriple}
use Rattle.ssap_grammar.specs.Front.{Front, Word, ◌then◌, Given}
use Rattle.ssap_grammar.specs.Characters.{Spaces, SomeSpaces}
use Rattle.ssap_grammar.specs.Text.{ReadsText}
use Rattle.ssap_grammar.specs.Attribute.{Equals}
use Rattle.ssap_grammar.specs.Parameter.{ReadsParameterAttributes}
use Rattle.ssap_grammar.specs.Element.{ReadsElement}
use Rattle.ssap_grammar.specs.Triples.{ReadsType, ReadsSubject, ReadsPredicate, ReadsObject}

-- an attribute up to its value
abbrev pub ReadsAttributeName : List ℕ → Front
ReadsAttributeName name = SomeSpaces then Word name then Equals

-- the three kinds
abbrev pub all_kinds : List Kind
all_kinds = Uri ∷ Literal ∷ Bnode ∷ []

-- an element of a text that may have the attribute `type`
abbrev pub ReadsTyped : List ℕ → Option Kind × List ℕ → Front
ReadsTyped tag typed = ReadsElement tag (Given (ReadsType all_kinds) typed.0) (ReadsText typed.1)

-- the content of a triple
abbrev pub ReadsParts : RawTriple → Front
ReadsParts value = Spaces then ReadsSubject value.subject then Spaces then ReadsPredicate value.predicate then Spaces
    then ReadsObject value.object then Spaces

-- the name of a parameter, and perhaps its encoding
abbrev pub ReadsBoth : List ℕ × Option (List ℕ) → Front
ReadsBoth both = ReadsParameterAttributes both.0 both.1
