-- Triple lists, the profile of RDF-M3.
use Rattle.std.specs.Prelude.{◌≡◌, ℕ, List, [], ◌∷◌, Option, flat_map, unwrap_or, codes}
use Rattle.ssap_items.specs.declared.body.Kind.{Kind}
use Rattle.ssap_items.specs.declared.body.Kind.TheVariants.{Uri, Literal, Bnode}
use Rattle.ssap_items.specs.declared.body.RawTerm.{RawTerm}
use Rattle.ssap_items.specs.declared.body.RawTriple.{RawTriple}
use Rattle.ssap_grammar.specs.Front.{Front, Nothing, ◌then◌, Many, Given}
use Rattle.ssap_grammar.specs.Characters.{Spaces}
use Rattle.ssap_grammar.specs.Text.{ReadsText}
use Rattle.ssap_grammar.specs.Attribute.{ReadsAttribute, QuotedWord}
use Rattle.ssap_grammar.specs.Element.{ReadsElement}

-- the words of a kind in the attribute `type`: all small letters, or all capitals
unfoldable pub kind_words : Kind → List (List ℕ × Kind)
kind_words Uri = (codes "uri", Uri) ∷ (codes "URI", Uri) ∷ []
kind_words Literal = (codes "literal", Literal) ∷ (codes "LITERAL", Literal) ∷ []
kind_words Bnode = (codes "bnode", Bnode) ∷ (codes "BNODE", Bnode) ∷ []

-- the attribute `type` of an element that may have these kinds
abbrev pub ReadsType : List Kind → Kind → Front
ReadsType kinds value = ReadsAttribute (codes "type") (QuotedWord (flat_map kind_words kinds) value)

-- subject: a text, with the type uri or bnode; a missing type means uri
pub record ReadsSubject (value : RawTerm) (bytes rest : List ℕ) : Type 0 where
  pub type : Option Kind
  pub kind : value.kind ≡ unwrap_or type Uri
  pub reads : ReadsElement (codes "subject") (Given (ReadsType (Uri ∷ Bnode ∷ [])) type) (ReadsText value.text) bytes rest

-- predicate: a text, with the type uri or none
pub record ReadsPredicate (value : List ℕ) (bytes rest : List ℕ) : Type 0 where
  pub type : Option Kind
  pub reads : ReadsElement (codes "predicate") (Given (ReadsType (Uri ∷ [])) type) (ReadsText value) bytes rest

-- object: a text, with the type uri, literal or bnode, which is required
abbrev pub ReadsObject : RawTerm → Front
ReadsObject value = ReadsElement (codes "object") (ReadsType (Uri ∷ Literal ∷ Bnode ∷ []) value.kind) (ReadsText value.text)

-- triple: a subject, a predicate and an object
abbrev pub ReadsTriple : RawTriple → Front
ReadsTriple value = ReadsElement (codes "triple") Nothing
    (Spaces then ReadsSubject value.subject then Spaces then ReadsPredicate value.predicate then Spaces
    then ReadsObject value.object then Spaces)

-- triple_list: any number of triples
abbrev pub ReadsTripleList : List RawTriple → Front
ReadsTripleList values = ReadsElement (codes "triple_list") Nothing
    (Spaces then Many (λ value. ReadsTriple value then Spaces) values)
