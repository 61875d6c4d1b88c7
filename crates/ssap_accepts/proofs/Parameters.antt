-- Parameters.
use Rattle.std.proofs.Common.{◌≡◌, ◌≢◌, inl, inr, ℕ, true, false, List, [], ◌∷◌, Some, None, refl, sym, subst}
use Rattle.std.specs.Prelude.{codes, flat_map, Option, option_to_list}
use Rattle.ssap_items.specs.declared.tags.TagName.TheVariants as tag
use Rattle.ssap_items.specs.Tags.{tag_name}
use Rattle.ssap_grammar.specs.Front.{Front, Word, Then, Many, Optional}
use Rattle.ssap_grammar.specs.Characters.{Spaces, SomeSpaces}
use Rattle.ssap_grammar.specs.Attribute.{ReadsAttribute, ReadsAttvalue, Equals}
use Rattle.ssap_grammar.specs.Parameter.{ParameterAttribute, name_of, encoding_of, ReadsParameterAttribute, ReadsParameterAttributes, ReadsBody, ReadsParameter}
use Rattle.ssap_grammar.specs.Parameter.ParameterAttribute.{Name, Encoding}
use Rattle.ssap_machine.specs.Words.{starting}
use Rattle.ssap_machine.specs.Options.{options, content, may_be_empty}
use Rattle.ssap_machine.specs.declared.symbol.Words.TheVariants as word
use Rattle.ssap_machine.specs.declared.symbol.Symbol.{Symbol}
use Rattle.ssap_machine.specs.declared.symbol.Symbol.TheVariants as symbol
use Rattle.ssap_accepts.proofs.Means.{Either, Never, AnyOf, Into, Means, means_then, means_map, offers_none, offers_map}
use Rattle.ssap_accepts.proofs.Choices.{into_same, into_left, into_right, either_first, first_either, exit_word, spaces_mean}
use Rattle.ssap_accepts.proofs.Texts.{quote_means}
use Rattle.ssap_accepts.proofs.Attributes.{equals_means, attribute_any, any_attribute}
use Rattle.ssap_accepts.proofs.Elements.{Tail, offers_opened, rest_element, element_rest, into_element, element_any}
use Rattle.ssap_accepts.proofs.Optionals.{Named, named_attribute, attribute_named, spaced_symbol, spaces_apart, apart_spaces, perhaps_optional, optional_perhaps}
use Rattle.ssap_accepts.proofs.Bodies.{fills_parameter}

-- the end of a starting tag, and the rest of the parameter
abbrev End : Front
End = Tail tag.Parameter (AnyOf ReadsBody)

abbrev Value : Front
Value = AnyOf ReadsAttvalue

-- the attributes with some value
abbrev NameGiven : Front
NameGiven = ReadsAttribute (codes "name") Value

abbrev EncodingGiven : Front
EncodingGiven = ReadsAttribute (codes "encoding") Value

-- an attribute's value, and what follows it
value_means : {next : Symbol} {Reads : Front} → Means (next ∷ []) Reads → Means (symbol.Next word.Equals ∷ symbol.Quote ∷ next ∷ []) (Then Equals (Then Value Reads))
value_means means = equals_means (means_map into_right into_left (means_then quote_means means))

-- behind both attributes
both_mean : Means (symbol.Parameter true true ∷ []) (Then Spaces End)
unfolding options content may_be_empty
both_mean =
    means_map (apart_spaces End) (spaces_apart End)
    (spaced_symbol (symbol.Parameter true true) (symbol.ParameterSpaced true true) refl
    (spaces_mean (symbol.ParameterSpaced true true) refl (offers_opened (symbol.ParameterSpaced true true) tag.Parameter fills_parameter))
    (offers_opened (symbol.Parameter true true) tag.Parameter fills_parameter))

-- behind the name
named_means : Means (symbol.Parameter true false ∷ []) (Then (Optional EncodingGiven) (Then Spaces End))
unfolding options content may_be_empty
named_means =
    means_map (perhaps_optional (codes "encoding") Value End) (optional_perhaps (codes "encoding") Value End)
    (spaced_symbol (symbol.Parameter true false) (symbol.ParameterSpaced true false) refl
    (spaces_mean (symbol.ParameterSpaced true false) refl
    (exit_word (codes "encoding") (value_means both_mean) (offers_opened (symbol.ParameterSpaced true false) tag.Parameter fills_parameter)))
    (offers_opened (symbol.Parameter true false) tag.Parameter fills_parameter))

-- behind the encoding
encoded_means : Means (symbol.Parameter false true ∷ []) (Then NameGiven (Then Spaces End))
unfolding options
encoded_means =
    means_map (λ bytes rest x. named_attribute (codes "name") Value (Then Spaces End) bytes rest (either_first (Then SomeSpaces (Named (codes "name") Value (Then Spaces End))) bytes rest x))
    (λ bytes rest x. inl (attribute_named (codes "name") Value (Then Spaces End) bytes rest x))
    (spaced_symbol (symbol.Parameter false true) (symbol.ParameterSpaced false true) refl
    (spaces_mean (symbol.ParameterSpaced false true) refl
    (offers_map (into_same Never) (into_same Never) (either_first (Named (codes "name") Value (Then Spaces End))) (first_either (Named (codes "name") Value (Then Spaces End)))
    (exit_word (codes "name") (value_means both_mean) (offers_none (symbol.ParameterSpaced false true)))))
    (offers_none (symbol.Parameter false true)))

-- the attributes in either order
abbrev EitherOrder : Front
EitherOrder = Either (Then NameGiven (Then (Optional EncodingGiven) (Then Spaces End))) (Then EncodingGiven (Then NameGiven (Then Spaces End)))

parameter_means : Means (symbol.Parameter false false ∷ []) EitherOrder
unfolding options
parameter_means =
    means_map to from
    (spaced_symbol (symbol.Parameter false false) (symbol.ParameterSpaced false false) refl
    (spaces_mean (symbol.ParameterSpaced false false) refl
    (exit_word (codes "name") (value_means named_means) (exit_word (codes "encoding") (value_means encoded_means) (offers_none (symbol.ParameterSpaced false false)))))
    (offers_none (symbol.Parameter false false)))
  where
    to : Into (Either (Then SomeSpaces (Either (Named (codes "name") Value (Then (Optional EncodingGiven) (Then Spaces End)))
        (Either (Named (codes "encoding") Value (Then NameGiven (Then Spaces End))) Never))) Never) EitherOrder
    to bytes rest (inl x) = elim x.second [
      | inl y ↦ inl (named_attribute (codes "name") Value (Then (Optional EncodingGiven) (Then Spaces End)) bytes rest (record { middle = x.middle; first = x.first; second = y }))
      | inr (inl y) ↦ inr (named_attribute (codes "encoding") Value (Then NameGiven (Then Spaces End)) bytes rest (record { middle = x.middle; first = x.first; second = y }))
      | inr (inr y) ↦ absurd y
    ]
    to bytes rest (inr x) = absurd x

    from : Into EitherOrder (Either (Then SomeSpaces (Either (Named (codes "name") Value (Then (Optional EncodingGiven) (Then Spaces End)))
        (Either (Named (codes "encoding") Value (Then NameGiven (Then Spaces End))) Never))) Never)
    from bytes rest (inl x) =
        let y = attribute_named (codes "name") Value (Then (Optional EncodingGiven) (Then Spaces End)) bytes rest x in
        inl (record { middle = y.middle; first = y.first; second = inl y.second })
    from bytes rest (inr x) =
        let y = attribute_named (codes "encoding") Value (Then NameGiven (Then Spaces End)) bytes rest x in
        inl (record { middle = y.middle; first = y.first; second = inr (inl y.second) })

-- the attributes of a parameter with some values
abbrev Attributes : (List ℕ × Option (List ℕ)) → Front
Attributes values = ReadsParameterAttributes values.0 values.1

order_attributes : Into EitherOrder (Then (AnyOf Attributes) (Then Spaces End))
order_attributes bytes rest (inl x) =
    let n = attribute_any (codes "name") ReadsAttvalue bytes x.middle x.first in
    elim x.second.first [
      | inl y ↦
          let e = attribute_any (codes "encoding") ReadsAttvalue x.middle x.second.middle y in
          record {
            middle = x.second.middle;
            first = (
              (n.0, Some e.0),
              record {
                attributes = Name n.0 ∷ Encoding e.0 ∷ [];
                names = refl;
                encodings = refl;
                reads = record { middle = x.middle; first = n.1; second = record { middle = x.second.middle; first = e.1; second = refl } };
              },
            );
            second = x.second.second;
          }
      | inr same ↦ record {
        middle = x.middle;
        first = ((n.0, None), record { attributes = Name n.0 ∷ []; names = refl; encodings = refl; reads = record { middle = x.middle; first = n.1; second = refl } });
        second = subst (λ b. Then Spaces End b rest) (sym same) x.second.second;
      }
    ]
order_attributes bytes rest (inr x) =
    let e = attribute_any (codes "encoding") ReadsAttvalue bytes x.middle x.first in
    let n = attribute_any (codes "name") ReadsAttvalue x.middle x.second.middle x.second.first in
    record {
      middle = x.second.middle;
      first = (
        (n.0, Some e.0),
        record {
          attributes = Encoding e.0 ∷ Name n.0 ∷ [];
          names = refl;
          encodings = refl;
          reads = record { middle = x.middle; first = e.1; second = record { middle = x.second.middle; first = n.1; second = refl } };
        },
      );
      second = x.second.second;
    }

-- no second name, and no second encoding
no_name : (name : List ℕ) → [] ≢ name ∷ []
no_name name e = cc

no_two_names : (v w name : List ℕ) (more : List (List ℕ)) → v ∷ w ∷ more ≢ name ∷ []
no_two_names v w name more e = cc

no_two_encodings : (v w : List ℕ) (more : List (List ℕ)) (encoding : Option (List ℕ)) → v ∷ w ∷ more ≢ option_to_list encoding
no_two_encodings v w more None e = cc
no_two_encodings v w more (Some encoding) e = no_two_names v w encoding more e

attributes_order : (attributes : List ParameterAttribute) (name : List ℕ) (encoding : Option (List ℕ)) (bytes middle rest : List ℕ)
    → flat_map name_of attributes ≡ name ∷ [] → flat_map encoding_of attributes ≡ option_to_list encoding → Many ReadsParameterAttribute attributes bytes middle
    → Then Spaces End middle rest → EitherOrder bytes rest
attributes_order [] name encoding bytes middle rest n e x y = absurd (no_name name n)
attributes_order (Name v ∷ []) name encoding bytes middle rest n e x y = inl (record {
  middle = x.middle;
  first = any_attribute (codes "name") ReadsAttvalue bytes x.middle (v, x.first);
  second = record { middle = x.middle; first = inr refl; second = subst (λ b. Then Spaces End b rest) (sym x.second) y };
})
attributes_order (Name v ∷ Name w ∷ more) name encoding bytes middle rest n e x y = absurd (no_two_names v w name _ n)
attributes_order (Name v ∷ Encoding w ∷ []) name encoding bytes middle rest n e x y = inl (record {
  middle = x.middle;
  first = any_attribute (codes "name") ReadsAttvalue bytes x.middle (v, x.first);
  second = record {
    middle = x.second.middle;
    first = inl (any_attribute (codes "encoding") ReadsAttvalue x.middle x.second.middle (w, x.second.first));
    second = subst (λ b. Then Spaces End b rest) (sym x.second.second) y;
  };
})
attributes_order (Name v ∷ Encoding w ∷ Name u ∷ more) name encoding bytes middle rest n e x y = absurd (no_two_names v u name _ n)
attributes_order (Name v ∷ Encoding w ∷ Encoding u ∷ more) name encoding bytes middle rest n e x y = absurd (no_two_encodings w u _ encoding e)
attributes_order (Encoding v ∷ []) name encoding bytes middle rest n e x y = absurd (no_name name n)
attributes_order (Encoding v ∷ Encoding w ∷ more) name encoding bytes middle rest n e x y = absurd (no_two_encodings v w _ encoding e)
attributes_order (Encoding v ∷ Name w ∷ []) name encoding bytes middle rest n e x y = inr (record {
  middle = x.middle;
  first = any_attribute (codes "encoding") ReadsAttvalue bytes x.middle (v, x.first);
  second = record {
    middle = x.second.middle;
    first = any_attribute (codes "name") ReadsAttvalue x.middle x.second.middle (w, x.second.first);
    second = subst (λ b. Then Spaces End b rest) (sym x.second.second) y;
  };
})
attributes_order (Encoding v ∷ Name w ∷ Name u ∷ more) name encoding bytes middle rest n e x y = absurd (no_two_names w u name _ n)
attributes_order (Encoding v ∷ Name w ∷ Encoding u ∷ more) name encoding bytes middle rest n e x y = absurd (no_two_encodings v u _ encoding e)

-- a parameter behind its name
abbrev pub ParameterRest : Front
ParameterRest = Then (AnyOf Attributes) (Then Spaces End)

pub rest_means : Means (symbol.Parameter false false ∷ []) ParameterRest
rest_means =
    means_map order_attributes
    (λ bytes rest x. attributes_order x.first.1.attributes x.first.0.0 x.first.0.1 bytes x.middle rest x.first.1.names x.first.1.encodings x.first.1.reads x.second)
    parameter_means

-- a parameter
pub parameter_value : Into (Then (Word (starting tag.Parameter)) ParameterRest) (AnyOf ReadsParameter)
unfolding tag_name
parameter_value bytes rest x =
    let e = element_any (codes "parameter") {A = Attributes} {C = ReadsBody} bytes rest (rest_element tag.Parameter bytes rest x) in
    (record { name = e.0.0; encoding = e.0.1; body = e.1 }, e.2)

pub value_parameter : Into (AnyOf ReadsParameter) (Then (Word (starting tag.Parameter)) ParameterRest)
unfolding tag_name
value_parameter bytes rest x =
    element_rest tag.Parameter bytes rest
    (into_element (codes "parameter") {A = Attributes (x.0.name, x.0.encoding)} {B = AnyOf Attributes} {C = ReadsBody x.0.body} {D = AnyOf ReadsBody}
    (λ b r y. ((x.0.name, x.0.encoding), y)) (λ b r y. (x.0.body, y)) bytes rest x.1)
