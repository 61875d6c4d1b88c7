-- Attributes are told from the bytes.
use Rattle.std.proofs.Common.{◌≡◌, ◌≢◌, inl, inr, ℕ, ◌<◌, ◌≤◌, true, List, ◌∷◌, ◌++◌, sym, ◌∙◌, ap, subst, arith, lit<, lit≤}
use Rattle.std.specs.Prelude.{encode_utf8, codes, flat_map}
use Rattle.std.proofs.lemmas.Str.{encode_same}
use Rattle.ssap_grammar.specs.Front.{Front}
use Rattle.ssap_grammar.specs.Characters.{Spaces, SomeSpaces, IsQuote, Quoted}
use Rattle.ssap_grammar.specs.Text.{references}
use Rattle.ssap_grammar.specs.Attribute.{IsLettered, Equals, ReadsAttribute, ReadsValuePiece, ReadsValueText, ReadsAttvalue, QuotedWord}
use Rattle.ssap_grammar.specs.Attribute.ReadsValuePiece.{Plain, Reference}
use Rattle.m3_terms.proofs.Lists.{heads_same}
use Rattle.ssap_grammar.proofs.Fronts.{Any, Head, Meet, Leads, Alone, meet_any, meet_map, word_meet, then_meet, then_alone, word_alone, many_meet, many_alone, are_apart, oneof_meet, oneof_alone, ReadsWord, word_map}
use Rattle.ssap_grammar.proofs.Characters.{Stops, NoSpace, white_small, high_no_space, spaces_meet, some_spaces_meet, some_are_spaces, some_begin, spaces_alone, some_spaces_alone, char_byte, quote_small, quoted_meet, quoted_alone}
use Rattle.ssap_grammar.proofs.Texts.{references_meet, reference_head}

-- a byte of a name
abbrev pub IsName : ℕ → Type 0
IsName byte = 65 ≤ byte

-- after white space a byte stands that ends a tag
pub record TagEnds (bytes : List ℕ) : Type 0 where
  pub after : List ℕ
  pub byte : ℕ
  pub more : List ℕ
  pub spaces : Spaces bytes after
  pub is : after ≡ byte ∷ more
  pub small : byte < 65
  pub solid : 33 ≤ byte

-- what begins with a name does not begin with white space
pub name_no_space : (name bytes rest : List ℕ) → IsLettered name → bytes ≡ name ++ rest → NoSpace bytes
name_no_space name bytes rest l e =
    high_no_space l.byte (l.more ++ rest) bytes (let h = l.high in omega arith) (e ∙ ap (λ n. n ++ rest) l.is)

-- what stands in quotes does not begin with white space
quoted_no_space : {I : ℕ → Front} (bytes rest : List ℕ) → Quoted I bytes rest → NoSpace bytes
quoted_no_space bytes rest x = high_no_space x.quote x.reads.middle bytes (quote_small x.quote x.is).1 x.reads.first

-- `=` with white space around it, up to what is none
pub equals_meet : Meet Equals Equals (Unit {0}) NoSpace
equals_meet =
    meet_map (λ _. tt) (then_meet spaces_meet (λ bytes rest x _. high_no_space 61 x.middle bytes (lit≤ tt) x.first)
    (λ bytes rest x _. high_no_space 61 x.middle bytes (lit≤ tt) x.first)
    (then_meet (word_meet (codes "=")) (λ _ _ _ _. tt) (λ _ _ _ _. tt) spaces_meet))

-- an attribute with a value in quotes
pub attribute_meet : (name : List ℕ) → IsLettered name → {I J : ℕ → Front} → {E : Type 0} → Meet (Quoted I) (Quoted J) E Any
    → Meet (ReadsAttribute name (Quoted I)) (ReadsAttribute name (Quoted J)) E Any
unfolding ReadsAttribute
attribute_meet name l value =
    meet_map (λ h. h.1.1.1) (then_meet some_spaces_meet (λ bytes rest x _. name_no_space name bytes x.middle l x.first)
    (λ bytes rest x _. name_no_space name bytes x.middle l x.first)
    (then_meet (word_meet name) (λ _ _ _ _. tt) (λ _ _ _ _. tt)
    (then_meet equals_meet (λ bytes rest x _. quoted_no_space bytes rest x) (λ bytes rest x _. quoted_no_space bytes rest x) value)))

-- the white space before an attribute and its name
pub attribute_name : (name : List ℕ) (V : Front) (bytes rest : List ℕ) → ReadsAttribute name V bytes rest
    → (middle : List ℕ) × (after : List ℕ) × SomeSpaces bytes middle × (middle ≡ name ++ after)
unfolding ReadsAttribute
attribute_name name V bytes rest x = (x.middle, x.second.middle, x.first, x.second.first)

-- where a tag ends no attribute begins
pub attribute_apart : (name : List ℕ) (V : Front) (bytes rest : List ℕ) → IsLettered name → ReadsAttribute name V bytes rest → ¬ (TagEnds bytes)
attribute_apart name V bytes rest l x t =
    let a = attribute_name name V bytes rest x in
    let high = l.high in
    let small = t.small in
    let solid = t.solid in
    let same : a.0 ≡ t.after =
    (spaces_meet.both bytes a.0 t.after (some_are_spaces bytes a.0 a.2) t.spaces (name_no_space name a.0 a.1 l a.3) (high_no_space t.byte t.more t.after solid t.is)).1 in
    let heads : l.byte ≡ t.byte = heads_same l.byte t.byte (l.more ++ a.1) t.more (sym (a.3 ∙ ap (λ n. n ++ a.1) l.is) ∙ (same ∙ t.is)) in
    absurd (omega (arith, heads, high, small))

-- attributes whose names begin with different letters
pub attributes_apart : (name other : List ℕ) (V W : Front) (bytes rest left : List ℕ) → (l : IsLettered name) → (k : IsLettered other)
    → l.byte ≢ k.byte → ReadsAttribute name V bytes rest → ¬ (ReadsAttribute other W bytes left)
attributes_apart name other V W bytes rest left l k apart x y =
    let a = attribute_name name V bytes rest x in
    let b = attribute_name other W bytes left y in
    let same : a.0 ≡ b.0 =
    (some_spaces_meet.both bytes a.0 b.0 a.2 b.2 (name_no_space name a.0 a.1 l a.3) (name_no_space other b.0 b.1 k b.3)).1 in
    apart (heads_same l.byte k.byte (l.more ++ a.1) (k.more ++ b.1) (sym (a.3 ∙ ap (λ n. n ++ a.1) l.is) ∙ (same ∙ (b.3 ∙ ap (λ n. n ++ b.1) k.is))))

-- an attribute begins with no byte of a name
pub attribute_stops : (name : List ℕ) (V : Front) → Leads (ReadsAttribute name V) Any (Stops IsName)
attribute_stops name V bytes rest x _ =
    let s = some_begin bytes _ (attribute_name name V bytes rest x).2 in
    let small = white_small s.0 s.2 in
    subst (Stops IsName) (sym s.3) (λ high. omega (arith, high, small))

pub attribute_alone : (name : List ℕ) (V : Front) → Alone V → Alone (ReadsAttribute name V)
unfolding ReadsAttribute
attribute_alone name V v =
    then_alone some_spaces_alone (then_alone (word_alone name) (then_alone (then_alone spaces_alone (then_alone (word_alone (codes "=")) spaces_alone)) v))

-- a piece of an attribute's value
value_piece_both : (quote : ℕ) (v w bytes rest left : List ℕ) → ReadsValuePiece quote v bytes rest → ReadsValuePiece quote w bytes left → (v ≡ w) × (rest ≡ left)
value_piece_both quote v w bytes rest left (Plain c p _ vis x) (Plain d q _ wis y) =
    let one = encode_same c d rest left (sym x ∙ y) in
    (vis ∙ (ap encode_utf8 one.0 ∙ sym wis), one.1)
value_piece_both quote v w bytes rest left (Plain c p _ vis x) (Reference y) =
    let h = reference_head w bytes left y in
    absurd (p.2 (char_byte c 38 rest h.0 (lit< tt) (sym x ∙ h.1)).0)
value_piece_both quote v w bytes rest left (Reference x) (Plain d q _ wis y) =
    let h = reference_head v bytes rest x in
    absurd (q.2 (char_byte d 38 left h.0 (lit< tt) (sym y ∙ h.1)).0)
value_piece_both quote v w bytes rest left (Reference x) (Reference y) = (references_meet v w).both bytes rest left x y tt tt

-- no piece begins with the quote
value_piece_apart : (quote : ℕ) → IsQuote quote → (value bytes rest : List ℕ) → ReadsValuePiece quote value bytes rest → ¬ (Head quote bytes)
value_piece_apart quote q value bytes rest (Plain c p other is x) h =
    let small = (quote_small quote q).0 in
    other (char_byte c quote rest h.0 (omega (arith, small)) (sym x ∙ h.1)).0
value_piece_apart quote q value bytes rest (Reference x) h =
    let r = reference_head value bytes rest x in
    quote_no_reference quote q (heads_same quote 38 h.0 r.0 (sym h.1 ∙ r.1))
  where
    quote_no_reference : (quote : ℕ) → IsQuote quote → quote ≡ 38 → ⊥
    quote_no_reference quote (inl e) k = omega arith
    quote_no_reference quote (inr e) k = omega arith

value_piece_alone : (quote : ℕ) (value : List ℕ) → Alone (ReadsValuePiece quote value)
value_piece_alone quote value = record { own = go }
  where
    go : (bytes rest : List ℕ) → ReadsValuePiece quote value bytes rest → ReadsWord (ReadsValuePiece quote value) bytes rest
    go bytes rest (Plain c p o is x) = word_map (λ b r y. Plain c p o is y) ((word_alone (encode_utf8 c)).own bytes rest x)
    go bytes rest (Reference x) = word_map (λ b r y. Reference y) ((oneof_alone references value).own bytes rest x)

-- what stands between the quotes, up to the quote
value_text_meet : (v w : List ℕ) (quote : ℕ) → IsQuote quote → Meet (ReadsValueText v quote) (ReadsValueText w quote) (v ≡ w) (Head quote)
value_text_meet v w quote q = record {
  both = λ bytes rest left x y a b.
      let one = (many_meet (ReadsValuePiece quote) (Head quote) Any
      (λ v w. record { both = λ b r l x y _ _. value_piece_both quote v w b r l x y }) (λ _ _. tt) (λ _ _ _ _. tt) (value_piece_apart quote q) x.pieces y.pieces).both bytes rest left x.reads y.reads a b in
      (x.is ∙ (ap (flat_map (λ piece. piece)) one.0 ∙ sym y.is), one.1);
}

value_text_alone : (value : List ℕ) (quote : ℕ) → Alone (ReadsValueText value quote)
value_text_alone value quote = record {
  own = λ bytes rest x. word_map (λ b r y. record { pieces = x.pieces; is = x.is; reads = y })
      ((many_alone (ReadsValuePiece quote) (value_piece_alone quote) x.pieces).own bytes rest x.reads);
}

-- an attribute's value
pub attvalue_meet : (v w : List ℕ) → Meet (ReadsAttvalue v) (ReadsAttvalue w) (v ≡ w) Any
attvalue_meet v w = quoted_meet (value_text_meet v w)

pub attvalue_alone : (value : List ℕ) → Alone (ReadsAttvalue value)
attvalue_alone value = quoted_alone (value_text_alone value)

-- a word of a table in quotes
pub quoted_word_meet : {A : Type 0} (table : List (List ℕ × A)) → are_apart table ≡ true → (v w : A) → Meet (QuotedWord table v) (QuotedWord table w) (v ≡ w) Any
quoted_word_meet table apart v w = quoted_meet (λ quote _. meet_any (Head quote) (oneof_meet table apart v w))

pub quoted_word_alone : {A : Type 0} (table : List (List ℕ × A)) (value : A) → Alone (QuotedWord table value)
quoted_word_alone table value = quoted_alone (λ _. oneof_alone table value)
