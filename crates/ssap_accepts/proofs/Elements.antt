-- Elements behind their names.
use Rattle.std.proofs.Common.{inl, inr, ◌⊎◌, ℕ, List, [], ◌∷◌, refl, sym, subst}
use Rattle.std.specs.Prelude.{codes, IsTrue}
use Rattle.ssap_items.specs.declared.tags.TagName.{TagName}
use Rattle.ssap_items.specs.Tags.{tag_name}
use Rattle.ssap_grammar.specs.Front.{Front, Word, Nothing, Then}
use Rattle.ssap_grammar.specs.Characters.{Spaces}
use Rattle.ssap_grammar.specs.Element.{WithBothTags, SelfClosing, ReadsElement}
use Rattle.ssap_grammar.specs.Element.ReadsElement.{Whole, Empty}
use Rattle.ssap_machine.specs.Words.{words, starting}
use Rattle.ssap_machine.specs.Options.{options, content, may_be_empty, opened}
use Rattle.ssap_machine.specs.declared.symbol.Words.TheVariants as word
use Rattle.ssap_machine.specs.declared.symbol.Symbol.{Symbol}
use Rattle.ssap_machine.specs.declared.symbol.Symbol.TheVariants as symbol
use Rattle.ssap_accepts.proofs.Means.{Either, Never, AnyOf, Where, Into, Means, Offers, means_nothing, means_then, means_map, offers_none, offers_map}
use Rattle.ssap_accepts.proofs.Choices.{into_same, into_then, into_left, into_right, drop_nothing, nothing_behind, exit_word, offers_where, spaces_mean}
use Rattle.ssap_accepts.proofs.Words.{Finish, next_word, word_parts, parts_word}

-- the content of the element is read so, and may be empty just where the element may be self-closing
pub record Fills (name : TagName) (Content : Front) : Type 0 where
  pub means : Means (content name) (Then Content (Finish name))
  pub may : IsTrue (may_be_empty name) → Content [] []
  pub must : Content [] [] → IsTrue (may_be_empty name)

-- the rest of an element behind its attributes
abbrev pub Tail : TagName → Front → Front
Tail name Content bytes rest = Then (Word (codes ">")) (Then Content (Finish name)) bytes rest ⊎ (Content [] [] × Word (codes "/>") bytes rest)

-- the ends of a starting tag
pub offers_opened : (symbol : Symbol) (name : TagName) {Content : Front} → Fills name Content → Offers symbol (opened name) Never (Tail name Content)
offers_opened symbol name {Content} fills =
    offers_map (λ bytes rest x. x.1) (λ bytes rest x. absurd x) to from
    (exit_word (codes ">") fills.means (offers_where (may_be_empty name) (exit_word (codes "/>") means_nothing (offers_none symbol))))
  where
    to : Into (Either (Then (Word (codes ">")) (Then Content (Finish name))) (Where (may_be_empty name) (Either (Then (Word (codes "/>")) Nothing) Never))) (Tail name Content)
    to bytes rest (inl x) = inl x
    to bytes rest (inr x) = elim x.1 [
      | inl y ↦ inr (fills.may x.0, drop_nothing {P = Word (codes "/>")} bytes rest y)
      | inr y ↦ absurd y
    ]

    from : Into (Tail name Content) (Either (Then (Word (codes ">")) (Then Content (Finish name))) (Where (may_be_empty name) (Either (Then (Word (codes "/>")) Nothing) Never)))
    from bytes rest (inl x) = inl x
    from bytes rest (inr x) = inr (fills.must x.0, inl (nothing_behind {P = Word (codes "/>")} bytes rest x.1))

-- the rest of an element behind its attributes, with white space before it
pub open_means : (name : TagName) {Content : Front} → Fills name Content → Means (symbol.Open name ∷ []) (Then Spaces (Tail name Content))
unfolding options
open_means name fills = spaces_mean (symbol.Open name) refl (offers_opened (symbol.Open name) name fills)

-- an element behind its name is the rest of it
pub rest_element : (name : TagName) {Attributes Content : Front}
    → Into (Then (Word (starting name)) (Then Attributes (Then Spaces (Tail name Content)))) (ReadsElement (tag_name name) Attributes Content)
unfolding starting WithBothTags SelfClosing
rest_element name bytes rest x =
    let s = word_parts (codes "<") (tag_name name) bytes x.middle x.first in
    let a = x.second in
    elim a.second.second [
      | inl y ↦ Whole (record {
        middle = s.middle;
        first = s.first;
        second = record { middle = x.middle; first = s.second; second = record { middle = a.middle; first = a.first; second = record { middle = a.second.middle; first = a.second.first; second = y } } };
      })
      | inr y ↦ Empty y.0 (record {
        middle = s.middle;
        first = s.first;
        second = record { middle = x.middle; first = s.second; second = record { middle = a.middle; first = a.first; second = record { middle = a.second.middle; first = a.second.first; second = y.1 } } };
      })
    ]

pub element_rest : (name : TagName) {Attributes Content : Front}
    → Into (ReadsElement (tag_name name) Attributes Content) (Then (Word (starting name)) (Then Attributes (Then Spaces (Tail name Content))))
unfolding starting WithBothTags SelfClosing
element_rest name bytes rest (Whole x) = record {
  middle = x.second.middle;
  first = parts_word (codes "<") (tag_name name) bytes x.second.middle (record { middle = x.middle; first = x.first; second = x.second.first });
  second = record {
    middle = x.second.second.middle;
    first = x.second.second.first;
    second = record { middle = x.second.second.second.middle; first = x.second.second.second.first; second = inl x.second.second.second.second };
  };
}
element_rest name bytes rest (Empty e x) = record {
  middle = x.second.middle;
  first = parts_word (codes "<") (tag_name name) bytes x.second.middle (record { middle = x.middle; first = x.first; second = x.second.first });
  second = record {
    middle = x.second.second.middle;
    first = x.second.second.first;
    second = record { middle = x.second.second.second.middle; first = x.second.second.second.first; second = inr (e, x.second.second.second.second) };
  };
}

-- elements whose parts are read alike
pub into_element : (tag : List ℕ) {A B C D : Front} → Into A B → Into C D → Into (ReadsElement tag A C) (ReadsElement tag B D)
unfolding WithBothTags SelfClosing
into_element tag {A} {B} {C} {D} f g bytes rest (Whole x) =
    Whole (into_then (into_same (Word (codes "<"))) (into_then (into_same (Word tag)) (into_then f (into_then (into_same Spaces)
    (into_then (into_same (Word (codes ">"))) (into_then g (into_same (Then (Word (codes "</")) (Then (Word tag) (Then Spaces (Word (codes ">")))))))))))
    bytes rest x)
into_element tag {A} {B} {C} {D} f g bytes rest (Empty e x) =
    Empty (g [] [] e) (into_then (into_same (Word (codes "<"))) (into_then (into_same (Word tag)) (into_then f (into_same (Then Spaces (Word (codes "/>")))))) bytes rest x)

-- an element with some values
pub element_any : (tag : List ℕ) {U V : Type 0} {A : U → Front} {C : V → Front} (bytes rest : List ℕ) → ReadsElement tag (AnyOf A) (AnyOf C) bytes rest
    → (u : U) × (v : V) × ReadsElement tag (A u) (C v) bytes rest
unfolding WithBothTags SelfClosing
element_any tag bytes rest (Whole x) =
    let a = x.second.second in
    let c = a.second.second.second in (
      a.first.0,
      c.first.0,
      Whole (record {
        middle = x.middle;
        first = x.first;
        second = record {
          middle = x.second.middle;
          first = x.second.first;
          second = record {
            middle = a.middle;
            first = a.first.1;
            second = record {
              middle = a.second.middle;
              first = a.second.first;
              second = record { middle = a.second.second.middle; first = a.second.second.first; second = record { middle = c.middle; first = c.first.1; second = c.second } };
            };
          };
        };
      }),
    )
element_any tag bytes rest (Empty e x) =
    let a = x.second.second in (
      a.first.0,
      e.0,
      Empty e.1 (record {
        middle = x.middle;
        first = x.first;
        second = record { middle = x.second.middle; first = x.second.first; second = record { middle = a.middle; first = a.first.1; second = a.second } };
      }),
    )

-- the same without attributes
pub element_content : (tag : List ℕ) {V : Type 0} {C : V → Front} → Into (ReadsElement tag Nothing (AnyOf C)) (AnyOf (λ v. ReadsElement tag Nothing (C v)))
element_content tag {C = C} bytes rest x =
    let e = element_any tag {U = Unit {0}} {A = λ _. Nothing} {C = C} bytes rest (into_element tag {A = Nothing} {B = AnyOf (λ (_ : Unit {0}). Nothing)} (λ b r y. (tt, y)) (into_same (AnyOf C)) bytes rest x) in
    (e.1, e.2)

-- an element without attributes behind its name
pub rest_plain : (name : TagName) {Content : Front} → Into (Then (Word (starting name)) (Then Spaces (Tail name Content))) (ReadsElement (tag_name name) Nothing Content)
rest_plain name bytes rest x =
    rest_element name bytes rest (record { middle = x.middle; first = x.first; second = record { middle = x.middle; first = refl; second = x.second } })

pub plain_rest : (name : TagName) {Content : Front} → Into (ReadsElement (tag_name name) Nothing Content) (Then (Word (starting name)) (Then Spaces (Tail name Content)))
plain_rest name {Content} bytes rest x =
    let y = element_rest name {Attributes = Nothing} {Content = Content} bytes rest x in
    record { middle = y.middle; first = y.first; second = subst (λ b. Then Spaces (Tail name Content) b rest) (sym y.second.first) y.second.second }

-- behind no attributes
pub open_plain : (name : TagName) {Content : Front} → Fills name Content → Means (symbol.Open name ∷ []) (Then Nothing (Then Spaces (Tail name Content)))
open_plain name {Content} fills =
    means_map (λ bytes rest x. record { middle = bytes; first = refl; second = x })
    (λ bytes rest x. subst (λ b. Then Spaces (Tail name Content) b rest) (sym x.first) x.second) (open_means name fills)

-- an element that begins with its name, without attributes
pub element_means : (name : TagName) {Content : Front} → Fills name Content
    → Means (symbol.Next (word.Start name) ∷ symbol.Open name ∷ []) (Then Spaces (ReadsElement (tag_name name) Nothing Content))
unfolding words
element_means name {Content} fills =
    means_map (λ bytes rest x. into_then (into_same Spaces) (rest_plain name) bytes rest (into_right bytes rest x))
    (λ bytes rest x. into_left bytes rest (into_then (into_same Spaces) (plain_rest name) bytes rest x))
    (means_then (next_word (word.Start name) (starting name) refl) (open_means name fills))
