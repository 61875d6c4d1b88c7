-- Templates as triples spell them, and what is wrong with the terms of a triple.
use Rattle.std.specs.Prelude.{◌≡◌, ℕ, Bool, true, false, ◌||◌, ◌&&◌, ◌==◌, not, nat_lt, List, [], if◌then◌else◌, length, codes}
use Rattle.std.specs.List.{list_any}
use Rattle.std.specs.Str.{bytes_eq}
use Rattle.m3_terms.specs.declared.term.TheConstants.{TERM_LIMIT}
use Rattle.m3_terms.specs.declared.term.Term as term
use Rattle.m3_terms.specs.declared.pattern.Slot.{Slot}
use Rattle.m3_terms.specs.declared.pattern.Slot.TheVariants.{Any, Is}
use Rattle.m3_terms.specs.declared.pattern.Pattern.{Pattern}
use Rattle.ssap_items.specs.declared.body.Kind.{Kind}
use Rattle.ssap_items.specs.declared.body.Kind.TheVariants.{Uri, Literal, Bnode}
use Rattle.ssap_items.specs.declared.body.RawTerm.{RawTerm}
use Rattle.ssap_items.specs.declared.body.RawTriple.{RawTriple}
use Rattle.ssap_items.specs.declared.body.Body.{Body}
use Rattle.ssap_items.specs.declared.body.Body.TheVariants.{Text, Triples, Table}

-- a uri with this text is the wildcard
unfoldable pub is_wildcard : List ℕ → Bool
is_wildcard text = bytes_eq text (codes "sib:any") || bytes_eq text (codes "http://www.nokia.com/NRC/M3/sib#any")

-- the slot that a uri's text spells: the wildcard, or the uri
abbrev pub uri_slot : List ℕ → Slot
uri_slot text = if is_wildcard text then Any else Is (term.TheVariants.Uri text)

-- a term of this kind, with this text, spells the slot: a blank node spells none
abbrev pub IsSlotOf : Kind → List ℕ → Slot → Type 0
IsSlotOf Uri text slot = slot ≡ uri_slot text
IsSlotOf Literal text slot = slot ≡ Is (term.TheVariants.Literal text)
IsSlotOf Bnode text slot = ⊥

-- a triple spells the template
pub record IsTemplateOf (triple : RawTriple) (template : Pattern) : Type 0 where
  pub subject : IsSlotOf triple.subject.kind triple.subject.text template.subject
  pub predicate : template.predicate ≡ uri_slot triple.predicate
  pub object : IsSlotOf triple.object.kind triple.object.text template.object

-- the term is a uri
abbrev pub is_uri : Kind → Bool
is_uri Uri = true
is_uri Literal = false
is_uri Bnode = false

-- the term is a blank node
abbrev pub is_bnode : Kind → Bool
is_bnode Uri = false
is_bnode Literal = false
is_bnode Bnode = true

-- the text has no byte
abbrev pub is_empty : List ℕ → Bool
is_empty text = length text == 0

-- the text has more bytes than a term's may have
abbrev pub is_long : List ℕ → Bool
is_long text = nat_lt TERM_LIMIT (length text)

-- the term is a uri with an empty text
abbrev pub is_empty_uri : RawTerm → Bool
is_empty_uri term = is_uri term.kind && is_empty term.text

-- a uri of the triple has an empty text
abbrev pub has_empty_uri : RawTriple → Bool
has_empty_uri triple = is_empty_uri triple.subject || is_empty triple.predicate || is_empty_uri triple.object

-- a term of the triple is a blank node
abbrev pub has_bnode : RawTriple → Bool
has_bnode triple = is_bnode triple.subject.kind || is_bnode triple.object.kind

-- a term of the triple is too long
abbrev pub has_long_term : RawTriple → Bool
has_long_term triple = is_long triple.subject.text || is_long triple.predicate || is_long triple.object.text

-- the triples of a body
abbrev pub triples_in : Body → List RawTriple
triples_in (Text text) = []
triples_in (Triples triples) = triples
triples_in (Table table) = []

-- the body is a text
abbrev pub is_text : Body → Bool
is_text (Text text) = true
is_text (Triples triples) = false
is_text (Table table) = false

-- the body is a list of triples without an empty uri
abbrev pub is_graph : Body → Bool
is_graph (Text text) = false
is_graph (Triples triples) = not (list_any has_empty_uri triples)
is_graph (Table table) = false
