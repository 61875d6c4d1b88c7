-- Elements that may have one attribute.
use Rattle.std.proofs.Common.{◌≡◌, inl, inr, ℕ, List, [], ◌∷◌, refl, sym, subst}
use Rattle.ssap_items.specs.declared.tags.TagName.{TagName}
use Rattle.ssap_items.specs.Tags.{tag_name}
use Rattle.ssap_grammar.specs.Front.{Front, Word, Then, Optional}
use Rattle.ssap_grammar.specs.Characters.{Spaces, SomeSpaces, Quoted}
use Rattle.ssap_grammar.specs.Attribute.{Equals, ReadsAttribute}
use Rattle.ssap_grammar.specs.Element.{ReadsElement}
use Rattle.ssap_machine.specs.Words.{White, words, starting, quoted, attribute_name, attribute_values}
use Rattle.ssap_machine.specs.Options.{Choice, options}
use Rattle.ssap_machine.specs.declared.symbol.Words.TheVariants as word
use Rattle.ssap_machine.specs.declared.symbol.Symbol.{Symbol}
use Rattle.ssap_machine.specs.declared.symbol.Symbol.TheVariants as symbol
use Rattle.ssap_accepts.proofs.Goes.{Lex}
use Rattle.ssap_accepts.proofs.Means.{Either, Never, OneWord, Into, Means, Offers, means_then, means_map, offers_exit}
use Rattle.ssap_accepts.proofs.Choices.{into_same, into_then, into_left, into_right, exit_word, exits_mean, spaces_mean}
use Rattle.ssap_accepts.proofs.Words.{white_some, some_white, next_word}
use Rattle.ssap_accepts.proofs.Attributes.{some_spaces, spaces_cases, equals_means, words_value}
use Rattle.ssap_accepts.proofs.Elements.{Fills, Tail, offers_opened, open_means, rest_element, element_rest}

-- an attribute behind the white space before it, and the end after it
abbrev pub Named : List ℕ → Front → Front → Front
Named name Value End = Then (Word name) (Then Equals (Then Value End))

-- the white space before an attribute belongs to it
pub named_attribute : (name : List ℕ) (Value End : Front) → Into (Then SomeSpaces (Named name Value End)) (Then (ReadsAttribute name Value) End)
unfolding ReadsAttribute
named_attribute name Value End bytes rest x =
    let y = x.second.second.second in
    record {
      middle = y.middle;
      first = record {
        middle = x.middle;
        first = x.first;
        second = record { middle = x.second.middle; first = x.second.first; second = record { middle = x.second.second.middle; first = x.second.second.first; second = y.first } };
      };
      second = y.second;
    }

pub attribute_named : (name : List ℕ) (Value End : Front) → Into (Then (ReadsAttribute name Value) End) (Then SomeSpaces (Named name Value End))
unfolding ReadsAttribute
attribute_named name Value End bytes rest x =
    let y = x.first in
    record {
      middle = y.middle;
      first = y.first;
      second = record {
        middle = y.second.middle;
        first = y.second.first;
        second = record { middle = y.second.second.middle; first = y.second.second.first; second = record { middle = x.middle; first = y.second.second.second; second = x.second } };
      };
    }

-- a symbol that is another behind a byte of white space
pub spaced_symbol : (one spaced : Symbol) {choices : List Choice} {Reads Exit : Front} → options one ≡ (White, spaced ∷ []) ∷ choices
    → Means (spaced ∷ []) (Then Spaces Reads) → Offers one choices Never Exit → Means (one ∷ []) (Either (Then SomeSpaces Reads) Exit)
spaced_symbol one spaced {Reads = Reads} {Exit = Exit} e means offers =
    means_map to from (exits_mean one e (offers_exit White means offers))
  where
    to : Into (Either (Then (Lex White) (Then Spaces Reads)) Exit) (Either (Then SomeSpaces Reads) Exit)
    to bytes rest (inl x) = inl (record {
      middle = x.second.middle;
      first = white_some bytes x.second.middle (record { middle = x.middle; first = x.first; second = x.second.first });
      second = x.second.second;
    })
    to bytes rest (inr x) = inr x

    from : Into (Either (Then SomeSpaces Reads) Exit) (Either (Then (Lex White) (Then Spaces Reads)) Exit)
    from bytes rest (inl x) =
        let w = some_white bytes x.middle x.first in
        inl (record { middle = w.middle; first = w.first; second = record { middle = x.middle; first = w.second; second = x.second } })
    from bytes rest (inr x) = inr x

-- white space and an end, apart where there is none
pub spaces_apart : (End : Front) → Into (Then Spaces End) (Either (Then SomeSpaces End) End)
spaces_apart End bytes rest x = elim (spaces_cases bytes x.middle x.first) [
  | inl some ↦ inl (record { middle = x.middle; first = some; second = x.second })
  | inr none ↦ inr (subst (λ b. End b rest) (sym none) x.second)
]

pub apart_spaces : (End : Front) → Into (Either (Then SomeSpaces End) End) (Then Spaces End)
apart_spaces End bytes rest (inl x) = record { middle = x.middle; first = some_spaces bytes x.middle x.first; second = x.second }
apart_spaces End bytes rest (inr x) = record { middle = bytes; first = record { white = []; each = tt; reads = refl }; second = x }

-- perhaps an attribute, and then white space and an end
abbrev pub Perhaps : List ℕ → Front → Front → Front
Perhaps name Value End = Either (Then SomeSpaces (Either (Named name Value (Then Spaces End)) End)) End

pub perhaps_optional : (name : List ℕ) (Value End : Front) → Into (Perhaps name Value End) (Then (Optional (ReadsAttribute name Value)) (Then Spaces End))
perhaps_optional name Value End bytes rest (inl x) = elim x.second [
  | inl y ↦
      let a = named_attribute name Value (Then Spaces End) bytes rest (record { middle = x.middle; first = x.first; second = y }) in
      record { middle = a.middle; first = inl a.first; second = a.second }
  | inr y ↦ record { middle = bytes; first = inr refl; second = record { middle = x.middle; first = some_spaces bytes x.middle x.first; second = y } }
]
perhaps_optional name Value End bytes rest (inr x) =
    record { middle = bytes; first = inr refl; second = record { middle = bytes; first = record { white = []; each = tt; reads = refl }; second = x } }

pub optional_perhaps : (name : List ℕ) (Value End : Front) → Into (Then (Optional (ReadsAttribute name Value)) (Then Spaces End)) (Perhaps name Value End)
optional_perhaps name Value End bytes rest x = elim x.first [
  | inl y ↦
      let n = attribute_named name Value (Then Spaces End) bytes rest (record { middle = x.middle; first = y; second = x.second }) in
      inl (record { middle = n.middle; first = n.first; second = inl n.second })
  | inr e ↦ elim (spaces_apart End bytes rest (subst (λ b. Then Spaces End b rest) (sym e) x.second)) [
    | inl y ↦ inl (record { middle = y.middle; first = y.first; second = inr y.second })
    | inr y ↦ inr y
  ]
]

-- the one attribute of the element
abbrev pub TheAttribute : TagName → List (List ℕ) → Front
TheAttribute name values = ReadsAttribute (attribute_name name) (Quoted (λ _. OneWord values))

optional_spaced_means : (name : TagName) (values : List (List ℕ)) {Content : Front} → attribute_values name ≡ quoted values → Fills name Content
    → Means (symbol.OptionalSpaced name ∷ [])
    (Then Spaces (Either (Named (attribute_name name) (Quoted (λ _. OneWord values)) (Then Spaces (Tail name Content))) (Tail name Content)))
unfolding options words
optional_spaced_means name values e fills =
    spaces_mean (symbol.OptionalSpaced name) refl
    (exit_word (attribute_name name)
    (equals_means (means_map into_right into_left (means_then (words_value (word.Values name) values e) (open_means name fills))))
    (offers_opened (symbol.OptionalSpaced name) name fills))

-- perhaps the attribute, and then the rest of the element
pub optional_means : (name : TagName) (values : List (List ℕ)) {Content : Front} → attribute_values name ≡ quoted values → Fills name Content
    → Means (symbol.Optional name ∷ []) (Then (Optional (TheAttribute name values)) (Then Spaces (Tail name Content)))
unfolding options
optional_means name values {Content} e fills =
    means_map (perhaps_optional (attribute_name name) (Quoted (λ _. OneWord values)) (Tail name Content))
    (optional_perhaps (attribute_name name) (Quoted (λ _. OneWord values)) (Tail name Content))
    (spaced_symbol (symbol.Optional name) (symbol.OptionalSpaced name) refl (optional_spaced_means name values e fills)
    (offers_opened (symbol.Optional name) name fills))

-- an element that begins with its name and may have the attribute
pub optional_element_means : (name : TagName) (values : List (List ℕ)) {Content : Front} → attribute_values name ≡ quoted values → Fills name Content
    → Means (symbol.Next (word.Start name) ∷ symbol.Optional name ∷ [])
    (Then Spaces (ReadsElement (tag_name name) (Optional (TheAttribute name values)) Content))
unfolding words
optional_element_means name values e fills =
    means_map (λ bytes rest x. into_then (into_same Spaces) (rest_element name) bytes rest (into_right bytes rest x))
    (λ bytes rest x. into_left bytes rest (into_then (into_same Spaces) (element_rest name) bytes rest x))
    (means_then (next_word (word.Start name) (starting name) refl) (optional_means name values e fills))
