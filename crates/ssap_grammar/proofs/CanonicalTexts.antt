-- What is written canonically in texts and attributes is read as such.
use Rattle.std.proofs.Common.{◌≡◌, ◌≢◌, ◌⊎◌, inl, inr, ℕ, suc, ◌<◌, ◌≤◌, List, [], ◌∷◌, ◌++◌, map, length, get_or, refl, sym, ◌∙◌, ap, subst, arith, lit<, append_assoc}
use Rattle.std.specs.Prelude.{codes, flat_map, encode_utf8, encode_utf8_all}
use Rattle.std.specs.List.{AllByRecursion}
use Rattle.std.proofs.lemmas.List.{append-nil}
use Rattle.std.proofs.lemmas.Grind.{flat_map-append}
use Rattle.std.proofs.lemmas.Bool.{ne_eqb, cases_lt}
use Rattle.std.proofs.lemmas.Str.{encode_ascii, inside_one}
use native.Mathlib.Decide.{ℕ_discrete}
use Rattle.m3_terms.specs.Text.{IsAllowed, IsText}
use Rattle.ssap_items.specs.Canon.{escaped_byte, escaped, attribute, element_with}
use Rattle.ssap_grammar.specs.Front.{Front, Word, Nothing, Then, Many, OneOf}
use Rattle.ssap_grammar.specs.Characters.{Spaces, SomeSpaces, Quoted}
use Rattle.ssap_grammar.specs.Text.{IsPlain, references, ReadsPiece, ReadsText}
use Rattle.ssap_grammar.specs.Attribute.{ReadsAttribute, ReadsValuePiece, ReadsValueText, ReadsAttvalue}
use Rattle.ssap_grammar.specs.Element.{WithBothTags, ReadsElement}
use Rattle.ssap_grammar.specs.Element.ReadsElement.{Whole}
use Rattle.ssap_grammar.proofs.Characters.{no_spaces}

-- the word is read so, whatever follows
pub record Writes (Reads : Front) (word : List ℕ) : Type 0 where
  pub writes : (rest : List ℕ) → Reads (word ++ rest) rest

pub writes_word : (word : List ℕ) → Writes (Word word) word
writes_word word = record { writes = λ rest. refl }

pub writes_nothing : Writes Nothing []
writes_nothing = record { writes = λ rest. refl }

pub writes_no_spaces : Writes Spaces []
writes_no_spaces = record { writes = no_spaces }

pub writes_then : {P Q : Front} {u w : List ℕ} → Writes P u → Writes Q w → Writes (Then P Q) (u ++ w)
writes_then {P} {Q} {u} {w} p q = record {
  writes = λ rest. record {
    middle = w ++ rest;
    first = subst (λ b. P b (w ++ rest)) (sym (append_assoc u w rest)) (p.writes (w ++ rest));
    second = q.writes rest;
  };
}

pub writes_as : {P : Front} (u w : List ℕ) → u ≡ w → Writes P u → Writes P w
writes_as {P} u w e p = subst (λ x. Writes P x) e p

-- how an allowed character is written: as a reference, or for itself where it is plain and no quote
abbrev pub Escapes : ℕ → List ℕ → Type 0
Escapes c word = ((rest : List ℕ) → OneOf references (encode_utf8 c) (word ++ rest) rest)
    ⊎ (IsPlain c × (c ≢ 34) × (word ≡ encode_utf8 c))

-- a character that has a reference
known : (c : ℕ) (word : List ℕ) → c < 128 → escaped_byte c ≡ word → ((rest : List ℕ) → OneOf references (c ∷ []) (word ++ rest) rest)
    → Escapes c (escaped_byte c ++ [])
known c word small e one = inl (λ rest.
    subst (λ v. OneOf references v ((escaped_byte c ++ []) ++ rest) rest) (sym (encode_ascii c small))
    (subst (λ w. OneOf references (c ∷ []) (w ++ rest) rest) (sym (append-nil (escaped_byte c) ∙ e)) (one rest)))

-- a byte that has no reference is written for itself
other_byte : (c : ℕ) → c ≢ 38 → c ≢ 60 → c ≢ 62 → c ≢ 34 → c ≢ 9 → c ≢ 10 → c ≢ 13 → escaped_byte c ≡ c ∷ []
other_byte c a b d e f g h =
    rw (ne_eqb c 38 a, ne_eqb c 60 b, ne_eqb c 62 d, ne_eqb c 34 e, ne_eqb c 9 f, ne_eqb c 10 g, ne_eqb c 13 h) refl

-- a character of one byte
ascii_escapes : (c : ℕ) → c < 128 → IsAllowed c → Escapes c (escaped_byte c ++ [])
unfolding references
ascii_escapes c small allowed = elim (ℕ_discrete c 38) [
  | yes e ↦ subst (λ x. Escapes x (escaped_byte x ++ [])) (sym e) (known 38 (codes "&amp;") (lit< tt) refl (λ rest. inr (inr (inl (refl, refl)))))
  | no a ↦ elim (ℕ_discrete c 60) [
    | yes e ↦ subst (λ x. Escapes x (escaped_byte x ++ [])) (sym e) (known 60 (codes "&lt;") (lit< tt) refl (λ rest. inl (refl, refl)))
    | no b ↦ elim (ℕ_discrete c 62) [
      | yes e ↦ subst (λ x. Escapes x (escaped_byte x ++ [])) (sym e) (known 62 (codes "&gt;") (lit< tt) refl (λ rest. inr (inl (refl, refl))))
      | no d ↦ elim (ℕ_discrete c 34) [
        | yes e ↦ subst (λ x. Escapes x (escaped_byte x ++ [])) (sym e) (known 34 (codes "&quot;") (lit< tt) refl (λ rest. inr (inr (inr (inl (refl, refl))))))
        | no q ↦ elim (ℕ_discrete c 9) [
          | yes e ↦ subst (λ x. Escapes x (escaped_byte x ++ [])) (sym e) (known 9 (codes "&#9;") (lit< tt) refl (λ rest. inr (inr (inr (inr (inr (inl (refl, refl))))))))
          | no f ↦ elim (ℕ_discrete c 10) [
            | yes e ↦ subst (λ x. Escapes x (escaped_byte x ++ [])) (sym e) (known 10 (codes "&#10;") (lit< tt) refl (λ rest. inr (inr (inr (inr (inr (inr (inl (refl, refl)))))))))
            | no g ↦ elim (ℕ_discrete c 13) [
              | yes e ↦ subst (λ x. Escapes x (escaped_byte x ++ [])) (sym e) (known 13 (codes "&#13;") (lit< tt) refl (λ rest. inr (inr (inr (inr (inr (inr (inr (inl (refl, refl))))))))))
              | no h ↦ inr ((allowed, b, a), q, append-nil (escaped_byte c) ∙ (other_byte c a b d q f g h ∙ sym (encode_ascii c small)))
            ]
          ]
        ]
      ]
    ]
  ]
]

-- bytes from 128 on are written for themselves
high_bytes : (bytes : List ℕ) → ((k : ℕ) → k < length bytes → 128 ≤ get_or bytes k 0) → flat_map escaped_byte bytes ≡ bytes
high_bytes [] h = refl
high_bytes (b ∷ bytes) h =
    let first : 128 ≤ b = h 0 (omega arith) in
    let one = other_byte b (λ e. absurd (omega arith)) (λ e. absurd (omega arith)) (λ e. absurd (omega arith)) (λ e. absurd (omega arith))
    (λ e. absurd (omega arith)) (λ e. absurd (omega arith)) (λ e. absurd (omega arith)) in
    ap (λ l. l ++ flat_map escaped_byte bytes) one ∙ ap (λ l. b ∷ l) (high_bytes bytes (λ k p. h (suc k) (omega arith)))

-- any allowed character
char_escapes : (c : ℕ) → IsAllowed c → Escapes c (flat_map escaped_byte (encode_utf8 c))
char_escapes c allowed = elim (cases_lt c 128) [
  | inl small ↦ subst (λ w. Escapes c (flat_map escaped_byte w)) (sym (encode_ascii c small)) (ascii_escapes c small allowed)
  | inr high ↦ inr (
    (allowed, (λ e. absurd (omega arith)), (λ e. absurd (omega arith))),
    (λ e. absurd (omega arith)),
    high_bytes (encode_utf8 c) (λ k p. elim (cases_lt (get_or (encode_utf8 c) k 0) 128) [
      | inl below ↦
          let same = inside_one c [] (encode_utf8 c) k (sym (append-nil (encode_utf8 c))) p below in
          absurd (omega (arith, same))
      | inr above ↦ omega arith
    ]),
  )
]

-- the characters of a text, one after another
escaped_all : (c : ℕ) (cs : List ℕ) → flat_map escaped_byte (encode_utf8_all (c ∷ cs)) ≡ flat_map escaped_byte (encode_utf8 c) ++ flat_map escaped_byte (encode_utf8_all cs)
escaped_all c cs = flat_map-append escaped_byte (encode_utf8 c) (encode_utf8_all cs)

-- a character as a piece of a text, and of an attribute's value
piece_written : (c : ℕ) (word : List ℕ) → Escapes c word → Writes (ReadsPiece (encode_utf8 c)) word
piece_written c word (inl one) = record { writes = λ rest. ReadsPiece.Reference (one rest) }
piece_written c word (inr p) = record { writes = λ rest. ReadsPiece.Plain c p.0 refl (ap (λ w. w ++ rest) p.2) }

value_piece_written : (c : ℕ) (word : List ℕ) → Escapes c word → Writes (ReadsValuePiece 34 (encode_utf8 c)) word
value_piece_written c word (inl one) = record { writes = λ rest. ReadsValuePiece.Reference (one rest) }
value_piece_written c word (inr p) = record { writes = λ rest. ReadsValuePiece.Plain c p.0 p.1 refl (ap (λ w. w ++ rest) p.2) }

pieces_written : (One : List ℕ → Front) → ((c : ℕ) (word : List ℕ) → Escapes c word → Writes (One (encode_utf8 c)) word) → (cs : List ℕ)
    → AllByRecursion IsAllowed cs → Writes (Many One (map encode_utf8 cs)) (flat_map escaped_byte (encode_utf8_all cs))
pieces_written One one [] h = record { writes = λ rest. refl }
pieces_written One one (c ∷ cs) h =
    writes_as (flat_map escaped_byte (encode_utf8 c) ++ flat_map escaped_byte (encode_utf8_all cs)) (flat_map escaped_byte (encode_utf8_all (c ∷ cs)))
    (sym (escaped_all c cs)) (writes_then (one c (flat_map escaped_byte (encode_utf8 c)) (char_escapes c h.0)) (pieces_written One one cs h.1))

pieces_value : (cs : List ℕ) → encode_utf8_all cs ≡ flat_map (λ piece. piece) (map encode_utf8 cs)
pieces_value [] = refl
pieces_value (c ∷ cs) = ap (λ l. encode_utf8 c ++ l) (pieces_value cs)

-- a text
pub text_written : (text : List ℕ) → IsText text → Writes (ReadsText text) (escaped text)
unfolding escaped
text_written text h =
    subst (λ t. Writes (ReadsText t) (flat_map escaped_byte t)) h.2 (record {
      writes = λ rest. record {
        pieces = map encode_utf8 h.0;
        reads = (pieces_written ReadsPiece piece_written h.0 h.1).writes rest;
        is = pieces_value h.0;
      };
    })

-- an attribute's value
value_written : (text : List ℕ) → IsText text → Writes (ReadsValueText text 34) (escaped text)
unfolding escaped
value_written text h =
    subst (λ t. Writes (ReadsValueText t 34) (flat_map escaped_byte t)) h.2 (record {
      writes = λ rest. record {
        pieces = map encode_utf8 h.0;
        reads = (pieces_written (ReadsValuePiece 34) value_piece_written h.0 h.1).writes rest;
        is = pieces_value h.0;
      };
    })

-- what stands in double quotes
quoted_written : {I : ℕ → Front} {word : List ℕ} → Writes (I 34) word → Writes (Quoted I) (codes "\"" ++ (word ++ codes "\""))
quoted_written {I} w = record {
  writes = λ rest. record {
    quote = 34;
    is = inl refl;
    reads = (writes_then (writes_word (codes "\"")) (writes_then w (writes_word (codes "\"")))).writes rest;
  };
}

-- an attribute
some_space : Writes SomeSpaces (codes " ")
some_space = record { writes = λ rest. record { white = codes " "; some = lit< tt; each = (refl, tt); reads = refl } }

pub attribute_written : (name value : List ℕ) (I : ℕ → Front) → Writes (I 34) (escaped value) → Writes (ReadsAttribute name (Quoted I)) (attribute name value)
unfolding ReadsAttribute attribute
attribute_written name value I w =
    writes_as (codes " " ++ (name ++ ((codes "=" ++ []) ++ (codes "\"" ++ (escaped value ++ codes "\""))))) _ (simp append_assoc)
    (writes_then some_space (writes_then (writes_word name) (writes_then (writes_then writes_no_spaces (writes_then (writes_word (codes "=")) writes_no_spaces)) (quoted_written w))))

pub attvalue_written : (name value : List ℕ) → IsText value → Writes (ReadsAttribute name (ReadsAttvalue value)) (attribute name value)
attvalue_written name value h = attribute_written name value (ReadsValueText value) (value_written value h)

-- an element with both tags
pub element_written : (tag attributes content : List ℕ) {A C : Front} → Writes A attributes → Writes C content
    → Writes (ReadsElement tag A C) (element_with tag attributes content)
unfolding WithBothTags element_with
element_written tag attributes content a c =
    let all = writes_as (codes "<" ++ (tag ++ (attributes ++ ([] ++ (codes ">" ++ (content ++ (codes "</" ++ (tag ++ ([] ++ codes ">"))))))))) (element_with tag attributes content)
    (simp append_assoc)
    (writes_then (writes_word (codes "<")) (writes_then (writes_word tag) (writes_then a (writes_then writes_no_spaces (writes_then (writes_word (codes ">"))
    (writes_then c (writes_then (writes_word (codes "</")) (writes_then (writes_word tag) (writes_then writes_no_spaces (writes_word (codes ">"))))))))))) in
    record { writes = λ rest. Whole (all.writes rest) }
