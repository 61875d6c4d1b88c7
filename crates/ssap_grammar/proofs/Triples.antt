-- Triple lists are told from the bytes.
use Rattle.std.proofs.Common.{◌≡◌, ℕ, true, List, [], ◌∷◌, Some, None, refl, sym, ◌∙◌, ap, lit≤}
use Rattle.std.specs.Prelude.{codes, flat_map, Option, unwrap_or}
use Rattle.ssap_items.specs.declared.body.Kind.{Kind}
use Rattle.ssap_items.specs.declared.body.Kind.TheVariants.{Uri, Literal, Bnode}
use Rattle.ssap_items.specs.declared.body.RawTerm.{RawTerm}
use Rattle.ssap_items.specs.declared.body.RawTriple.{RawTriple}
use Rattle.ssap_grammar.specs.Front.{Front, Then, Given}
use Rattle.ssap_grammar.specs.Characters.{Spaces}
use Rattle.ssap_grammar.specs.Text.{ReadsText}
use Rattle.ssap_grammar.specs.Attribute.{IsLettered, QuotedWord}
use Rattle.ssap_grammar.specs.Element.{ReadsElement}
use Rattle.ssap_grammar.specs.Triples.{kind_words, ReadsType, ReadsSubject, ReadsPredicate, ReadsObject, ReadsTriple, ReadsTripleList}
use Rattle.ssap_grammar.proofs.Fronts.{Any, Meet, Alone, meet_any, meet_map, nothing_meet, nothing_alone, then_alone, given_meet, given_alone, are_apart, word_map}
use Rattle.ssap_grammar.proofs.Characters.{spaces_alone}
use Rattle.ssap_grammar.proofs.Texts.{Closes, text_meet, text_alone}
use Rattle.ssap_grammar.proofs.Attributes.{TagEnds, attribute_meet, attribute_apart, attribute_stops, attribute_alone, quoted_word_meet, quoted_word_alone}
use Rattle.ssap_grammar.proofs.Elements.{element_meet, element_alone}
use Rattle.ssap_grammar.proofs.Contents.{Opens, NoName, nothing_no_name, element_opens, around_meet, last_spaces_meet, list_element_meet, listed_alone}

-- the attribute `type`
pub type_lettered : IsLettered (codes "type")
type_lettered = record { byte = 116; more = codes "ype"; is = refl; high = lit≤ tt }

type_meet : (kinds : List Kind) → are_apart (flat_map kind_words kinds) ≡ true → (v w : Kind) → Meet (ReadsType kinds v) (ReadsType kinds w) (v ≡ w) Any
type_meet kinds apart v w = attribute_meet (codes "type") type_lettered (quoted_word_meet (flat_map kind_words kinds) apart v w)

type_alone : (kinds : List Kind) (value : Kind) → Alone (ReadsType kinds value)
type_alone kinds value =
    attribute_alone (codes "type") (QuotedWord (flat_map kind_words kinds) value) (quoted_word_alone (flat_map kind_words kinds) value)

-- the attribute `type` where it may be left out
given_type_meet : (kinds : List Kind) → are_apart (flat_map kind_words kinds) ≡ true → (v w : Option Kind)
    → Meet (Given (ReadsType kinds) v) (Given (ReadsType kinds) w) (v ≡ w) TagEnds
given_type_meet kinds apart =
    given_meet (ReadsType kinds) TagEnds (type_meet kinds apart)
    (λ v bytes rest x. attribute_apart (codes "type") (QuotedWord (flat_map kind_words kinds) v) bytes rest type_lettered x)

given_type_no_name : (kinds : List Kind) (value : Option Kind) → NoName (Given (ReadsType kinds) value)
given_type_no_name kinds None bytes rest x s = nothing_no_name bytes rest x s
given_type_no_name kinds (Some value) bytes rest x s =
    attribute_stops (codes "type") (QuotedWord (flat_map kind_words kinds) value) bytes rest x tt

-- the kinds of a subject, of a predicate and of an object have words that are apart
subject_apart : are_apart (flat_map kind_words (Uri ∷ Bnode ∷ [])) ≡ true
unfolding kind_words
subject_apart = refl

predicate_apart : are_apart (flat_map kind_words (Uri ∷ [])) ≡ true
unfolding kind_words
predicate_apart = refl

object_apart : are_apart (flat_map kind_words (Uri ∷ Literal ∷ Bnode ∷ [])) ≡ true
unfolding kind_words
object_apart = refl

-- terms with one kind and one text are one
pub term_same : (v w : RawTerm) → v.kind ≡ w.kind → v.text ≡ w.text → v ≡ w
term_same v w p q = λ i. record { kind = p i; text = q i }

-- an element of a kind and a text
typed_meet : (tag : List ℕ) (kinds : List Kind) → are_apart (flat_map kind_words kinds) ≡ true → (j k : Option Kind) (s t : List ℕ)
    → Meet (ReadsElement tag (Given (ReadsType kinds) j) (ReadsText s)) (ReadsElement tag (Given (ReadsType kinds) k) (ReadsText t)) ((j ≡ k) × (s ≡ t)) Any
typed_meet tag kinds apart j k s t =
    meet_map (λ h. (h.0, h.1)) (element_meet tag (given_type_meet kinds apart j k) (text_meet s t) (text_alone s) (text_alone t))

pub subject_meet : (v w : RawTerm) → Meet (ReadsSubject v) (ReadsSubject w) (v ≡ w) Any
subject_meet v w = record {
  both = λ bytes rest left x y _ _.
      let one = (typed_meet (codes "subject") (Uri ∷ Bnode ∷ []) subject_apart x.type y.type v.text w.text).both bytes rest left x.reads y.reads tt tt in
      (term_same v w (x.kind ∙ (ap (λ type. unwrap_or type Uri) one.0.0 ∙ sym y.kind)) one.0.1, one.1);
}

pub predicate_meet : (v w : List ℕ) → Meet (ReadsPredicate v) (ReadsPredicate w) (v ≡ w) Any
predicate_meet v w = record {
  both = λ bytes rest left x y _ _.
      let one = (typed_meet (codes "predicate") (Uri ∷ []) predicate_apart x.type y.type v w).both bytes rest left x.reads y.reads tt tt in
      (one.0.1, one.1);
}

pub object_meet : (v w : RawTerm) → Meet (ReadsObject v) (ReadsObject w) (v ≡ w) Any
object_meet v w =
    meet_map (λ h. term_same v w h.0 h.1) (element_meet (codes "object") (meet_any TagEnds (type_meet (Uri ∷ Literal ∷ Bnode ∷ []) object_apart v.kind w.kind))
    (text_meet v.text w.text) (text_alone v.text) (text_alone w.text))

pub subject_alone : (v : RawTerm) → Alone (ReadsSubject v)
subject_alone v = record {
  own = λ bytes rest x. word_map (λ b r y. record { type = x.type; kind = x.kind; reads = y })
      ((element_alone (codes "subject") (given_alone (ReadsType (Uri ∷ Bnode ∷ [])) (type_alone (Uri ∷ Bnode ∷ [])) x.type) (text_alone v.text)).own bytes rest x.reads);
}

pub predicate_alone : (v : List ℕ) → Alone (ReadsPredicate v)
predicate_alone v = record {
  own = λ bytes rest x. word_map (λ b r y. record { type = x.type; reads = y })
      ((element_alone (codes "predicate") (given_alone (ReadsType (Uri ∷ [])) (type_alone (Uri ∷ [])) x.type) (text_alone v)).own bytes rest x.reads);
}

pub object_alone : (v : RawTerm) → Alone (ReadsObject v)
object_alone v = element_alone (codes "object") (type_alone (Uri ∷ Literal ∷ Bnode ∷ []) v.kind) (text_alone v.text)

-- each begins with a starting tag
pub subject_opens : (v : RawTerm) (bytes rest : List ℕ) → ReadsSubject v bytes rest → Opens bytes
subject_opens v bytes rest x =
    element_opens (codes "subject") (record { byte = 115; more = codes "ubject"; is = refl; high = lit≤ tt }) (given_type_no_name (Uri ∷ Bnode ∷ []) x.type) bytes rest x.reads

pub predicate_opens : (v bytes rest : List ℕ) → ReadsPredicate v bytes rest → Opens bytes
predicate_opens v bytes rest x =
    element_opens (codes "predicate") (record { byte = 112; more = codes "redicate"; is = refl; high = lit≤ tt }) (given_type_no_name (Uri ∷ []) x.type) bytes rest x.reads

pub object_opens : (v : RawTerm) (bytes rest : List ℕ) → ReadsObject v bytes rest → Opens bytes
object_opens v bytes rest x =
    element_opens (codes "object") (record { byte = 111; more = codes "bject"; is = refl; high = lit≤ tt })
    (λ b r y _. attribute_stops (codes "type") (QuotedWord (flat_map kind_words (Uri ∷ Literal ∷ Bnode ∷ [])) v.kind) b r y tt) bytes rest x

-- triples with the same parts are one
triple_same : (v w : RawTriple) → v.subject ≡ w.subject → v.predicate ≡ w.predicate → v.object ≡ w.object → v ≡ w
triple_same v w p q r = λ i. record { subject = p i; predicate = q i; object = r i }

-- the parts of a triple
abbrev pub Parts : RawTriple → Front
Parts v = Then Spaces (Then (ReadsSubject v.subject) (Then Spaces (Then (ReadsPredicate v.predicate) (Then Spaces (Then (ReadsObject v.object) Spaces)))))

parts_meet : (v w : RawTriple) → Meet (Parts v) (Parts w) (v ≡ w) Closes
parts_meet v w =
    meet_map (λ h. triple_same v w h.0 h.1.0 h.1.1.0) (around_meet (subject_opens v.subject) (subject_opens w.subject) (subject_meet v.subject w.subject)
    (around_meet (predicate_opens v.predicate) (predicate_opens w.predicate) (predicate_meet v.predicate w.predicate)
    (around_meet (object_opens v.object) (object_opens w.object) (object_meet v.object w.object) last_spaces_meet)))

parts_alone : (v : RawTriple) → Alone (Parts v)
parts_alone v =
    then_alone spaces_alone (then_alone (subject_alone v.subject) (then_alone spaces_alone (then_alone (predicate_alone v.predicate)
    (then_alone spaces_alone (then_alone (object_alone v.object) spaces_alone)))))

pub triple_meet : (v w : RawTriple) → Meet (ReadsTriple v) (ReadsTriple w) (v ≡ w) Any
triple_meet v w =
    meet_map (λ h. h.1) (element_meet (codes "triple") (nothing_meet TagEnds) (parts_meet v w) (parts_alone v) (parts_alone w))

pub triple_alone : (v : RawTriple) → Alone (ReadsTriple v)
triple_alone v = element_alone (codes "triple") nothing_alone (parts_alone v)

pub triple_opens : (v : RawTriple) (bytes rest : List ℕ) → ReadsTriple v bytes rest → Opens bytes
triple_opens v bytes rest x =
    element_opens (codes "triple") (record { byte = 116; more = codes "riple"; is = refl; high = lit≤ tt }) nothing_no_name bytes rest x

pub triple_list_meet : (vs ws : List RawTriple) → Meet (ReadsTripleList vs) (ReadsTripleList ws) (vs ≡ ws) Any
triple_list_meet = list_element_meet (codes "triple_list") ReadsTriple triple_meet triple_opens triple_alone

pub triple_list_alone : (vs : List RawTriple) → Alone (ReadsTripleList vs)
triple_list_alone vs = element_alone (codes "triple_list") nothing_alone (listed_alone ReadsTriple triple_alone vs)

pub triple_list_opens : (vs : List RawTriple) (bytes rest : List ℕ) → ReadsTripleList vs bytes rest → Opens bytes
triple_list_opens vs bytes rest x =
    element_opens (codes "triple_list") (record { byte = 116; more = codes "riple_list"; is = refl; high = lit≤ tt }) nothing_no_name bytes rest x
