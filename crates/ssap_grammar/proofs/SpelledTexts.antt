-- What is read as a text is a text, and the values of many readings have what each reading's value has.
use Rattle.std.proofs.Common.{◌≡◌, ℕ, inl, inr, List, [], ◌∷◌, ◌++◌, refl, sym, ◌∙◌, ap, subst}
use Rattle.std.specs.Prelude.{encode_utf8_all, flat_map}
use Rattle.std.specs.Char.{encode_utf8}
use Rattle.std.specs.List.{AllByRecursion}
use Rattle.std.proofs.lemmas.List.{append-nil}
use Rattle.std.proofs.lemmas.Str.{encodes-append}
use Rattle.m3_terms.specs.Text.{IsAllowed, IsText}
use Rattle.ssap_grammar.specs.Front.{Front, Many, OneOf}
use Rattle.ssap_grammar.specs.Characters.{Quoted}
use Rattle.ssap_grammar.specs.Text.{references, ReadsPiece, ReadsText}
use Rattle.ssap_grammar.specs.Text.ReadsPiece.{Plain, Reference, Cdata}
use Rattle.ssap_grammar.specs.Attribute.{ReadsAttribute, ReadsValuePiece, ReadsValueText, ReadsAttvalue}
use Rattle.ssap_grammar.specs.Attribute.ReadsValuePiece.{Plain as PlainValue, Reference as ReferenceValue}
use Rattle.ssap_grammar.specs.Element.{WithBothTags, SelfClosing, ReadsElement}
use Rattle.ssap_grammar.specs.Element.ReadsElement.{Whole, Empty}
use Rattle.ssap_grammar.proofs.Contents.{Spaced, Listed}

-- of whatever is read so, Has holds
abbrev pub Says : Front → Type 0 → Type 0
Says Reads Has = (bytes rest : List ℕ) → Reads bytes rest → Has

-- what holds of each item of two lists holds of each item of both together
pub all_append : {A : Type 0} (P : A → Type 0) (xs ys : List A) → AllByRecursion P xs → AllByRecursion P ys → AllByRecursion P (xs ++ ys)
all_append P [] ys p q = q
all_append P (x ∷ xs) ys p q = (p.0, all_append P xs ys p.1 q)

-- where each item's list has P throughout, so have all these lists together
pub all_flat_map : {A B : Type 0} (f : A → List B) (Q : A → Type 0) (P : B → Type 0) → ((v : A) → Q v → AllByRecursion P (f v)) → (vs : List A)
    → AllByRecursion Q vs → AllByRecursion P (flat_map f vs)
all_flat_map f Q P one [] h = tt
all_flat_map f Q P one (v ∷ vs) h = all_append P (f v) (flat_map f vs) (one v h.0) (all_flat_map f Q P one vs h.1)

-- nothing is a text
pub text_nil : IsText []
text_nil = ([], tt, refl)

-- a text behind a text is one
pub text_append : (xs ys : List ℕ) → IsText xs → IsText ys → IsText (xs ++ ys)
text_append xs ys x y =
    let same : encode_utf8_all (x.0 ++ y.0) ≡ xs ++ ys = encodes-append x.0 y.0 ∙ (ap (λ l. l ++ encode_utf8_all y.0) x.2 ∙ ap (λ l. xs ++ l) y.2) in
    (x.0 ++ y.0, all_append IsAllowed x.0 y.0 x.1 y.1, same)

-- texts one behind the other are one
pub text_joined : (texts : List (List ℕ)) → AllByRecursion IsText texts → IsText (flat_map (λ piece. piece) texts)
text_joined [] h = text_nil
text_joined (text ∷ texts) h = text_append text (flat_map (λ piece. piece) texts) h.0 (text_joined texts h.1)

-- an allowed character is a text
pub char_text : (c : ℕ) → IsAllowed c → IsText (encode_utf8 c)
char_text c allowed = (c ∷ [], (allowed, tt), append-nil (encode_utf8 c))

-- each word of the table stands for a value that has P
abbrev pub AllValues : {A : Type 0} → (A → Type 0) → List (List ℕ × A) → Type 0
AllValues P [] = Unit {0}
AllValues P (entry ∷ table) = P entry.1 × AllValues P table

-- so has what a word of the table is read as
pub oneof_says : {A : Type 0} (P : A → Type 0) (table : List (List ℕ × A)) → AllValues P table → (value : A) → Says (OneOf table value) (P value)
oneof_says P [] all value bytes rest x = absurd x
oneof_says P (entry ∷ table) all value bytes rest (inl x) = subst P (sym x.0) all.0
oneof_says P (entry ∷ table) all value bytes rest (inr x) = oneof_says P table all.1 value bytes rest x

-- a reference stands for a text
pub reference_says : (value : List ℕ) → Says (OneOf references value) (IsText value)
unfolding references encode_utf8
reference_says = oneof_says IsText references (
  (60 ∷ [], (refl, tt), refl),
  (
    (62 ∷ [], (refl, tt), refl),
    (
      (38 ∷ [], (refl, tt), refl),
      (
        (34 ∷ [], (refl, tt), refl),
        ((39 ∷ [], (refl, tt), refl), ((9 ∷ [], (refl, tt), refl), ((10 ∷ [], (refl, tt), refl), ((13 ∷ [], (refl, tt), refl), tt)))),
      ),
    ),
  ),
)

-- of many things of one kind each value has what one value has
pub many_says : {A : Type 0} (Reads : A → Front) (P : A → Type 0) → ((v : A) → Says (Reads v) (P v)) → (vs : List A)
    → Says (Many Reads vs) (AllByRecursion P vs)
many_says Reads P one [] bytes rest x = tt
many_says Reads P one (v ∷ vs) bytes rest x = (one v bytes x.middle x.first, many_says Reads P one vs x.middle rest x.second)

-- also where white space stands around them
pub spaced_says : {A : Type 0} (Reads : A → Front) (P : A → Type 0) → ((v : A) → Says (Reads v) (P v)) → (vs : List A)
    → Says (Many (Spaced Reads) vs) (AllByRecursion P vs)
spaced_says Reads P one = many_says (Spaced Reads) P (λ v bytes rest x. one v bytes x.middle x.first)

pub listed_says : {A : Type 0} (Reads : A → Front) (P : A → Type 0) → ((v : A) → Says (Reads v) (P v)) → (vs : List A)
    → Says (Listed Reads vs) (AllByRecursion P vs)
listed_says Reads P one vs bytes rest x = spaced_says Reads P one vs x.middle rest x.second

-- a text
piece_says : (value : List ℕ) → Says (ReadsPiece value) (IsText value)
piece_says value bytes rest (Plain c p is x) = subst IsText (sym is) (char_text c p.0)
piece_says value bytes rest (Reference x) = reference_says value bytes rest x
piece_says value bytes rest (Cdata cs p is x) = (cs, p.allowed, sym is)

pub text_says : (value : List ℕ) → Says (ReadsText value) (IsText value)
text_says value bytes rest x =
    subst IsText (sym x.is) (text_joined x.pieces (many_says ReadsPiece IsText piece_says x.pieces bytes rest x.reads))

-- an attribute's value
value_piece_says : (quote : ℕ) (value : List ℕ) → Says (ReadsValuePiece quote value) (IsText value)
value_piece_says quote value bytes rest (PlainValue c p other is x) = subst IsText (sym is) (char_text c p.0)
value_piece_says quote value bytes rest (ReferenceValue x) = reference_says value bytes rest x

value_says : (quote : ℕ) (value : List ℕ) → Says (ReadsValueText value quote) (IsText value)
value_says quote value bytes rest x =
    subst IsText (sym x.is) (text_joined x.pieces (many_says (ReadsValuePiece quote) IsText (value_piece_says quote) x.pieces bytes rest x.reads))

-- what stands in quotes
pub quoted_says : {Inner : ℕ → Front} {E : Type 0} → ((quote : ℕ) → Says (Inner quote) E) → Says (Quoted Inner) E
quoted_says inner bytes rest x = inner x.quote x.reads.middle x.reads.second.middle x.reads.second.first

-- an attribute
pub attribute_says : (name : List ℕ) {Value : Front} {E : Type 0} → Says Value E → Says (ReadsAttribute name Value) E
unfolding ReadsAttribute
attribute_says name value bytes rest x = value x.second.second.middle rest x.second.second.second

pub attvalue_says : (name value : List ℕ) → Says (ReadsAttribute name (ReadsAttvalue value)) (IsText value)
attvalue_says name value = attribute_says name (quoted_says (λ quote. value_says quote value))

-- an element, with its attributes and its content
pub element_says : (tag : List ℕ) {A C : Front} {D E : Type 0} → Says A D → Says C E → Says (ReadsElement tag A C) (D × E)
unfolding WithBothTags SelfClosing
element_says tag a c bytes rest (Whole x) = (a _ _ x.second.second.first, c _ _ x.second.second.second.second.second.first)
element_says tag a c bytes rest (Empty content x) = (a _ _ x.second.second.first, c [] [] content)
