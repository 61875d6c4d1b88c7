-- The pieces of texts and of attributes' values are such kinds.
use Rattle.std.proofs.Common.{◌≡◌, ◌≢◌, inl, inr, ◌⊎◌, ℕ, true, false, ◌==◌, List, [], ◌∷◌, refl, sym, ◌∙◌, subst, arith, append-nil}
use Rattle.std.specs.Char.{encode_utf8}
use Rattle.std.proofs.lemmas.Bool.{or_cases, or_parts, eqb-false, eqb-true, ne_eqb, or_from, or_right, eq-eqb}
use Rattle.memchr.specs.Find.{is_byte2, is_byte3}
use Rattle.m3_terms.specs.Text.{IsAllowed, IsText}
use Rattle.m3_terms.proofs.Lists.{heads_same}
use Rattle.ssap_grammar.specs.Front.{OneOf}
use Rattle.ssap_grammar.specs.Characters.{IsQuote}
use Rattle.ssap_grammar.specs.Text.{references, ReadsPiece}
use Rattle.ssap_grammar.specs.Text.ReadsPiece.{Plain, Reference, Cdata}
use Rattle.ssap_grammar.specs.Attribute.{ReadsValuePiece}
use Rattle.ssap_grammar.specs.Attribute.ReadsValuePiece.{Plain as ValuePlain, Reference as ValueReference}
use Rattle.ssap_grammar.proofs.Characters.{char_byte, quote_small}
use Rattle.ssap_grammar.proofs.Texts.{reference_head, piece_meet, piece_no_tag, section_is}
use Rattle.ssap_text.specs.Ends.{BeginsFinish}
use Rattle.ssap_text.proofs.PieceKinds.{Begins, IsKind}
use Rattle.ssap_text.proofs.PieceKinds.Begins.{PlainFirst, MarkFirst}

-- each word of a table stands for a text
abbrev AllText : List (List ℕ × List ℕ) → Type 0
AllText [] = Unit {0}
AllText (entry ∷ table) = IsText entry.1 × AllText table

table_text : (table : List (List ℕ × List ℕ)) (value bytes rest : List ℕ) → AllText table → OneOf table value bytes rest → IsText value
table_text [] value bytes rest all x = absurd x
table_text (entry ∷ table) value bytes rest all (inl x) = subst IsText (sym x.0) all.0
table_text (entry ∷ table) value bytes rest all (inr x) = table_text table value bytes rest all.1 x

-- a reference stands for a text
reference_text : (value bytes rest : List ℕ) → OneOf references value bytes rest → IsText value
unfolding references encode_utf8
reference_text value bytes rest = table_text references value bytes rest (
  (60 ∷ [], (refl, tt), refl),
  (
    (62 ∷ [], (refl, tt), refl),
    (
      (38 ∷ [], (refl, tt), refl),
      (
        (34 ∷ [], (refl, tt), refl),
        ((39 ∷ [], (refl, tt), refl), ((9 ∷ [], (refl, tt), refl), ((10 ∷ [], (refl, tt), refl), ((13 ∷ [], (refl, tt), refl), tt)))),
      ),
    ),
  ),
)

-- an allowed character is a text
char_text : (c : ℕ) → IsAllowed c → IsText (encode_utf8 c)
char_text c allowed = (c ∷ [], (allowed, tt), append-nil (encode_utf8 c))

-- a byte that is one of two, or not
two_is : (a b byte : ℕ) → is_byte2 a b byte ≡ true → (byte ≡ a) ⊎ (byte ≡ b)
two_is a b byte h = elim (or_cases (byte == a) (byte == b) h) [ inl e ↦ inl (eqb-true byte a e) | inr e ↦ inr (eqb-true byte b e) ]

two_not : (a b byte : ℕ) → is_byte2 a b byte ≡ false → (byte ≢ a) × (byte ≢ b)
two_not a b byte h = let p = or_parts (byte == a) (byte == b) h in (eqb-false byte a p.0, eqb-false byte b p.1)

pub two_other : (a b byte : ℕ) → byte ≢ a → byte ≢ b → is_byte2 a b byte ≡ false
two_other a b byte p q = or_from (byte == a) (byte == b) (ne_eqb byte a p) (ne_eqb byte b q)

-- nor is it one of three
pub three_other : (quote byte : ℕ) → byte ≢ 60 → byte ≢ 38 → byte ≢ quote → is_byte3 60 38 quote byte ≡ false
three_other quote byte p q r = or_from (is_byte2 60 38 byte) (byte == quote) (two_other 60 38 byte p q) (ne_eqb byte quote r)

-- the pieces of a text
pub text_kind : IsKind ReadsPiece (is_byte2 60 38) BeginsFinish
text_kind = record {
  both = λ v w bytes rest left x y. (piece_meet v w).both bytes rest left x y tt tt;
  apart = λ v bytes rest x end. piece_no_tag v bytes rest end.0 47 (λ n. absurd (omega arith)) end.1 x;
  plain = λ c rest allowed h. let n = two_not 60 38 c h in Plain c (allowed, n.0, n.1) refl refl;
  begins = begins;
  text = text;
  small = λ byte h. elim (two_is 60 38 byte h) [ inl e ↦ omega arith | inr e ↦ omega arith ];
  follows = λ bytes end. (60, 47 ∷ end.0, refl, end.1);
}
  where
    begins : (v bytes rest : List ℕ) → ReadsPiece v bytes rest → Begins (is_byte2 60 38) bytes rest
    begins v bytes rest (Plain c p is x) = PlainFirst c (two_other 60 38 c p.1 p.2) p.0 x
    begins v bytes rest (Reference x) = let h = reference_head v bytes rest x in MarkFirst (38, h.0, refl, h.1)
    begins v bytes rest (Cdata cs p is x) = MarkFirst (60, _, refl, section_is cs bytes rest x)

    text : (v bytes rest : List ℕ) → ReadsPiece v bytes rest → IsText v
    text v bytes rest (Plain c p is x) = subst IsText (sym is) (char_text c p.0)
    text v bytes rest (Reference x) = reference_text v bytes rest x
    text v bytes rest (Cdata cs p is x) = (cs, p.allowed, sym is)

-- a piece of a value is one of a text
value_piece : (quote : ℕ) (v bytes rest : List ℕ) → ReadsValuePiece quote v bytes rest → ReadsPiece v bytes rest
value_piece quote v bytes rest (ValuePlain c p other is x) = Plain c p is x
value_piece quote v bytes rest (ValueReference x) = Reference x

-- the pieces of an attribute's value
pub value_kind : (quote : ℕ) → IsQuote quote → IsKind (ReadsValuePiece quote) (is_byte3 60 38 quote) (λ bytes. (more : List ℕ) × (bytes ≡ quote ∷ more))
value_kind quote q = record {
  both = λ v w bytes rest left x y. (piece_meet v w).both bytes rest left (value_piece quote v bytes rest x) (value_piece quote w bytes left y) tt tt;
  apart = apart;
  plain = λ c rest allowed h.
      let o = or_parts (is_byte2 60 38 c) (c == quote) h in
      let n = two_not 60 38 c o.0 in
      ValuePlain c (allowed, n.0, n.1) (eqb-false c quote o.1) refl refl;
  begins = begins;
  text = λ v bytes rest x. text_kind.text v bytes rest (value_piece quote v bytes rest x);
  small = λ byte h. elim (or_cases (is_byte2 60 38 byte) (byte == quote) h) [
    | inl e ↦ text_kind.small byte e
    | inr e ↦ let same = eqb-true byte quote e in let small = (quote_small quote q).0 in omega arith
  ];
  follows = λ bytes end. (quote, end.0, mark, end.1);
}
  where
    mark : is_byte3 60 38 quote quote ≡ true
    mark = or_right (is_byte2 60 38 quote) (quote == quote) (eq-eqb quote quote refl)

    not_reference : (quote : ℕ) → IsQuote quote → quote ≢ 38
    not_reference quote (inl e) k = omega arith
    not_reference quote (inr e) k = omega arith

    apart : (v bytes rest : List ℕ) → ReadsValuePiece quote v bytes rest → ¬ ((more : List ℕ) × (bytes ≡ quote ∷ more))
    apart v bytes rest (ValuePlain c p other is x) end =
        let small = (quote_small quote q).0 in
        other (char_byte c quote rest end.0 (omega (arith, small)) (sym x ∙ end.1)).0
    apart v bytes rest (ValueReference x) end =
        let h = reference_head v bytes rest x in
        not_reference quote q (heads_same quote 38 end.0 h.0 (sym end.1 ∙ h.1))

    begins : (v bytes rest : List ℕ) → ReadsValuePiece quote v bytes rest → Begins (is_byte3 60 38 quote) bytes rest
    begins v bytes rest (ValuePlain c p other is x) =
        PlainFirst c (three_other quote c p.1 p.2 other) p.0 x
    begins v bytes rest (ValueReference x) = let h = reference_head v bytes rest x in MarkFirst (38, h.0, refl, h.1)
