-- Triple lists.
use Rattle.std.proofs.Common.{inl, inr, ℕ, List, [], ◌∷◌, Some, None, refl}
use Rattle.std.specs.Prelude.{codes, flat_map, unwrap_or, Option}
use Rattle.ssap_items.specs.declared.body.Kind.{Kind}
use Rattle.ssap_items.specs.declared.body.Kind.TheVariants.{Uri, Literal, Bnode}
use Rattle.ssap_items.specs.declared.body.RawTriple.{RawTriple}
use Rattle.ssap_items.specs.declared.tags.TagName.TheVariants as tag
use Rattle.ssap_items.specs.Tags.{tag_name}
use Rattle.ssap_grammar.specs.Front.{Front, Word, Nothing, Then, Optional, Given, OneOf}
use Rattle.ssap_grammar.specs.Characters.{Spaces, Quoted}
use Rattle.ssap_grammar.specs.Text.{ReadsText}
use Rattle.ssap_grammar.specs.Attribute.{ReadsAttribute, QuotedWord}
use Rattle.ssap_grammar.specs.Element.{ReadsElement}
use Rattle.ssap_grammar.specs.Triples.{kind_words, ReadsType, ReadsSubject, ReadsPredicate, ReadsObject, ReadsTriple, ReadsTripleList}
use Rattle.ssap_machine.specs.Words.{words, words_of, starting, attribute_name, attribute_values}
use Rattle.ssap_machine.specs.Options.{content, may_be_empty, item}
use Rattle.ssap_machine.specs.declared.symbol.Words.TheVariants as word
use Rattle.ssap_machine.specs.declared.symbol.Symbol.TheVariants as symbol
use Rattle.ssap_accepts.proofs.Means.{AnyOf, OneWord, Into, Means, means_then, means_map}
use Rattle.ssap_accepts.proofs.Choices.{into_same, into_then, into_left, into_right, into_join}
use Rattle.ssap_accepts.proofs.Words.{Finish, next_word, finishes_mean, table_words, words_table}
use Rattle.ssap_accepts.proofs.Attributes.{attribute_means, words_value, into_attribute, attribute_any, into_quoted, quoted_any}
use Rattle.ssap_accepts.proofs.Elements.{Fills, Tail, open_means, open_plain, rest_element, element_rest, into_element, element_any, element_content}
use Rattle.ssap_accepts.proofs.Optionals.{optional_element_means}
use Rattle.ssap_accepts.proofs.Contents.{many_means, fills_text, fills_list, fills_needing, spaced_needs, element_needs}
use Rattle.ssap_grammar.proofs.Contents.{Listed}

-- the attribute `type` by its words
abbrev pub TypeWords : List Kind → Front
TypeWords kinds = ReadsAttribute (codes "type") (Quoted (λ _. OneWord (words_of (flat_map kind_words kinds))))

pub type_value : (kinds : List Kind) → Into (TypeWords kinds) (AnyOf (ReadsType kinds))
type_value kinds bytes rest x =
    attribute_any (codes "type") (QuotedWord (flat_map kind_words kinds)) bytes rest
    (into_attribute (codes "type") (into_join (into_quoted (words_table (flat_map kind_words kinds))) (quoted_any {P = OneOf (flat_map kind_words kinds)})) bytes rest x)

pub value_type : (kinds : List Kind) (kind : Kind) → Into (ReadsType kinds kind) (TypeWords kinds)
value_type kinds kind bytes rest x =
    into_attribute (codes "type") (into_quoted (λ b r y. table_words (flat_map kind_words kinds) b r (kind, y))) bytes rest x

-- the same where it may be left out
pub given_type : (kinds : List Kind) → Into (Optional (TypeWords kinds)) (AnyOf (Given (ReadsType kinds)))
given_type kinds bytes rest (inl x) = let y = type_value kinds bytes rest x in (Some y.0, y.1)
given_type kinds bytes rest (inr e) = (None, e)

pub type_given : (kinds : List Kind) (type : Option Kind) → Into (Given (ReadsType kinds) type) (Optional (TypeWords kinds))
type_given kinds None bytes rest x = inr x
type_given kinds (Some kind) bytes rest x = inl (value_type kinds kind bytes rest x)

-- subject
subject_means : Means (symbol.Next (word.Start tag.Subject) ∷ symbol.Optional tag.Subject ∷ []) (Then Spaces (AnyOf ReadsSubject))
unfolding content may_be_empty attribute_values attribute_name tag_name
subject_means =
    means_map (into_then (into_same Spaces) to) (into_then (into_same Spaces) from)
    (optional_element_means tag.Subject (words_of (flat_map kind_words (Uri ∷ Bnode ∷ []))) refl (fills_text tag.Subject refl refl))
  where
    to : Into (ReadsElement (codes "subject") (Optional (TypeWords (Uri ∷ Bnode ∷ []))) (AnyOf ReadsText)) (AnyOf ReadsSubject)
    to bytes rest x =
        let e = element_any (codes "subject") {A = Given (ReadsType (Uri ∷ Bnode ∷ []))} {C = ReadsText} bytes rest
        (into_element (codes "subject") (given_type (Uri ∷ Bnode ∷ [])) (into_same (AnyOf ReadsText)) bytes rest x) in
        (record { kind = unwrap_or e.0 Uri; text = e.1 }, record { type = e.0; kind = refl; reads = e.2 })

    from : Into (AnyOf ReadsSubject) (ReadsElement (codes "subject") (Optional (TypeWords (Uri ∷ Bnode ∷ []))) (AnyOf ReadsText))
    from bytes rest x =
        into_element (codes "subject") (type_given (Uri ∷ Bnode ∷ []) x.1.type) (λ b r y. (x.0.text, y)) bytes rest x.1.reads

-- predicate
predicate_means : Means (symbol.Next (word.Start tag.Predicate) ∷ symbol.Optional tag.Predicate ∷ []) (Then Spaces (AnyOf ReadsPredicate))
unfolding content may_be_empty attribute_values attribute_name tag_name
predicate_means =
    means_map (into_then (into_same Spaces) to) (into_then (into_same Spaces) from)
    (optional_element_means tag.Predicate (words_of (flat_map kind_words (Uri ∷ []))) refl (fills_text tag.Predicate refl refl))
  where
    to : Into (ReadsElement (codes "predicate") (Optional (TypeWords (Uri ∷ []))) (AnyOf ReadsText)) (AnyOf ReadsPredicate)
    to bytes rest x =
        let e = element_any (codes "predicate") {A = Given (ReadsType (Uri ∷ []))} {C = ReadsText} bytes rest
        (into_element (codes "predicate") (given_type (Uri ∷ [])) (into_same (AnyOf ReadsText)) bytes rest x) in
        (e.1, record { type = e.0; reads = e.2 })

    from : Into (AnyOf ReadsPredicate) (ReadsElement (codes "predicate") (Optional (TypeWords (Uri ∷ []))) (AnyOf ReadsText))
    from bytes rest x =
        into_element (codes "predicate") (type_given (Uri ∷ []) x.1.type) (λ b r y. (x.0, y)) bytes rest x.1.reads

-- object
object_means : Means (symbol.Next (word.Start tag.Object) ∷ symbol.Spaced word.Kind ∷ symbol.Next word.Equals ∷ symbol.Next word.ObjectKinds ∷ symbol.Open tag.Object ∷ [])
    (Then Spaces (AnyOf ReadsObject))
unfolding content may_be_empty words tag_name
object_means =
    means_map (λ bytes rest x. into_then (into_same Spaces) to bytes rest (into_right bytes rest x))
    (λ bytes rest x. into_left bytes rest (into_then (into_same Spaces) from bytes rest x))
    (means_then (next_word (word.Start tag.Object) (starting tag.Object) refl)
    (means_then (attribute_means word.Kind (codes "type") refl (words_value word.ObjectKinds (words_of (flat_map kind_words (Uri ∷ Literal ∷ Bnode ∷ []))) refl))
    (open_means tag.Object (fills_text tag.Object refl refl))))
  where
    to : Into (Then (Word (starting tag.Object)) (Then (TypeWords (Uri ∷ Literal ∷ Bnode ∷ [])) (Then Spaces (Tail tag.Object (AnyOf ReadsText))))) (AnyOf ReadsObject)
    to bytes rest x =
        let e = element_any (codes "object") {A = ReadsType (Uri ∷ Literal ∷ Bnode ∷ [])} {C = ReadsText} bytes rest
        (into_element (codes "object") (type_value (Uri ∷ Literal ∷ Bnode ∷ [])) (into_same (AnyOf ReadsText)) bytes rest (rest_element tag.Object bytes rest x)) in
        (record { kind = e.0; text = e.1 }, e.2)

    from : Into (AnyOf ReadsObject) (Then (Word (starting tag.Object)) (Then (TypeWords (Uri ∷ Literal ∷ Bnode ∷ [])) (Then Spaces (Tail tag.Object (AnyOf ReadsText)))))
    from bytes rest x =
        element_rest tag.Object bytes rest
        (into_element (codes "object") (value_type (Uri ∷ Literal ∷ Bnode ∷ []) x.0.kind) (λ b r y. (x.0.text, y)) bytes rest x.1)

-- triple
abbrev Parts : Front
Parts = Then Spaces (Then (AnyOf ReadsSubject) (Then Spaces (Then (AnyOf ReadsPredicate) (Then Spaces (Then (AnyOf ReadsObject) Spaces)))))

triple_content : Means (content tag.Triple) (Then Parts (Finish tag.Triple))
unfolding content
triple_content =
    means_map to from (means_then subject_means (means_then predicate_means (means_then object_means (finishes_mean tag.Triple))))
  where
    to : Into (Then (Then Spaces (AnyOf ReadsSubject)) (Then (Then Spaces (AnyOf ReadsPredicate)) (Then (Then Spaces (AnyOf ReadsObject)) (Then Spaces (Finish tag.Triple)))))
        (Then Parts (Finish tag.Triple))
    to bytes rest x = record {
      middle = x.second.second.second.middle;
      first = record {
        middle = x.first.middle;
        first = x.first.first;
        second = record {
          middle = x.middle;
          first = x.first.second;
          second = record {
            middle = x.second.first.middle;
            first = x.second.first.first;
            second = record {
              middle = x.second.middle;
              first = x.second.first.second;
              second = record {
                middle = x.second.second.first.middle;
                first = x.second.second.first.first;
                second = record { middle = x.second.second.middle; first = x.second.second.first.second; second = x.second.second.second.first };
              };
            };
          };
        };
      };
      second = x.second.second.second.second;
    }

    from : Into (Then Parts (Finish tag.Triple))
        (Then (Then Spaces (AnyOf ReadsSubject)) (Then (Then Spaces (AnyOf ReadsPredicate)) (Then (Then Spaces (AnyOf ReadsObject)) (Then Spaces (Finish tag.Triple)))))
    from bytes rest x =
        let s = x.first in
        let p = s.second.second in
        let o = p.second.second in
        record {
          middle = s.second.middle;
          first = record { middle = s.middle; first = s.first; second = s.second.first };
          second = record {
            middle = p.second.middle;
            first = record { middle = p.middle; first = p.first; second = p.second.first };
            second = record {
              middle = o.second.middle;
              first = record { middle = o.middle; first = o.first; second = o.second.first };
              second = record { middle = x.middle; first = o.second.second; second = x.second };
            };
          };
        }

subject_needs : (rest : List ℕ) → ¬ (AnyOf ReadsSubject [] rest)
subject_needs rest x = element_needs (codes "subject") rest x.1.reads

fills_triple : Fills tag.Triple Parts
unfolding may_be_empty
fills_triple = fills_needing tag.Triple refl triple_content (spaced_needs subject_needs)

-- the content of a triple
abbrev Inside : RawTriple → Front
Inside value = Then Spaces (Then (ReadsSubject value.subject) (Then Spaces (Then (ReadsPredicate value.predicate) (Then Spaces (Then (ReadsObject value.object) Spaces)))))

parts_inside : Into Parts (AnyOf Inside)
parts_inside bytes rest x =
    let p = x.second.second in
    let o = p.second.second in (
      record { subject = x.second.first.0; predicate = p.second.first.0; object = o.second.first.0 },
      record {
        middle = x.middle;
        first = x.first;
        second = record {
          middle = x.second.middle;
          first = x.second.first.1;
          second = record {
            middle = p.middle;
            first = p.first;
            second = record {
              middle = p.second.middle;
              first = p.second.first.1;
              second = record { middle = o.middle; first = o.first; second = record { middle = o.second.middle; first = o.second.first.1; second = o.second.second } };
            };
          };
        };
      },
    )

inside_parts : (value : RawTriple) → Into (Inside value) Parts
inside_parts value bytes rest x =
    let p = x.second.second in
    let o = p.second.second in
    record {
      middle = x.middle;
      first = x.first;
      second = record {
        middle = x.second.middle;
        first = (value.subject, x.second.first);
        second = record {
          middle = p.middle;
          first = p.first;
          second = record {
            middle = p.second.middle;
            first = (value.predicate, p.second.first);
            second = record { middle = o.middle; first = o.first; second = record { middle = o.second.middle; first = (value.object, o.second.first); second = o.second.second } };
          };
        };
      };
    }

triple_value : Into (ReadsElement (codes "triple") Nothing Parts) (AnyOf ReadsTriple)
triple_value bytes rest x =
    element_content (codes "triple") {C = Inside} bytes rest (into_element (codes "triple") (into_same Nothing) parts_inside bytes rest x)

value_triple : Into (AnyOf ReadsTriple) (ReadsElement (codes "triple") Nothing Parts)
value_triple bytes rest x = into_element (codes "triple") (into_same Nothing) (inside_parts x.0) bytes rest x.1

-- the triples of a list, and the list's finishing tag
triples_mean : Means (symbol.Many tag.TripleList ∷ []) (Then (AnyOf (Listed ReadsTriple)) (Finish tag.TripleList))
unfolding item tag_name
triples_mean =
    many_means tag.TripleList tag.Triple (symbol.Open tag.Triple ∷ []) {Attributes = Nothing} {Content = Parts} ReadsTriple refl
    (open_plain tag.Triple fills_triple) triple_value value_triple

pub fills_triple_list : Fills tag.TripleList (AnyOf (Listed ReadsTriple))
unfolding content may_be_empty
fills_triple_list = fills_list tag.TripleList ReadsTriple refl refl triples_mean

-- triple_list
pub triple_list_value : Into (ReadsElement (codes "triple_list") Nothing (AnyOf (Listed ReadsTriple))) (AnyOf ReadsTripleList)
triple_list_value = element_content (codes "triple_list") {C = Listed ReadsTriple}

pub value_triple_list : Into (AnyOf ReadsTripleList) (ReadsElement (codes "triple_list") Nothing (AnyOf (Listed ReadsTriple)))
value_triple_list bytes rest x = into_element (codes "triple_list") (into_same Nothing) (λ b r y. (x.0, y)) bytes rest x.1
