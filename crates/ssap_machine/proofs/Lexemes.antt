-- Lexemes are told from the bytes: no lexeme of a list begins another, by a test over their words.
use Rattle.std.proofs.Common.{◌≡◌, ◌⊎◌, inl, inr, ℕ, ◌<◌, Bool, true, false, not, ◌&&◌, ◌||◌, List, [], ◌∷◌, ◌++◌, length, sym, ◌∙◌, ap, subst, arith, nat_eq, ltb}
use Rattle.std.specs.Prelude.{◌≢◌, encode_utf8}
use Rattle.std.specs.List.{AllByRecursion}
use Rattle.std.proofs.lemmas.Str.{encode_same, length-encode, len_utf8_bounds}
use Rattle.std.proofs.lemmas.Bool.{or_cases, and_parts, not-true, eqb-true, ltb-true, both_ways}
use Rattle.m3_terms.proofs.Lists.{heads_same}
use Rattle.ssap_grammar.specs.Characters.{is_white, IsWhite}
use Rattle.ssap_grammar.proofs.Characters.{char_byte, white_small}
use Rattle.ssap_grammar.proofs.Fronts.{differ, differ_apart}
use Rattle.ssap_machine.specs.Words.{Lexeme, Word, White, Except, IsLexeme}

-- the code is among these
abbrev pub is_among : ℕ → List ℕ → Bool
is_among code [] = false
is_among code (other ∷ others) = nat_eq code other || is_among code others

-- no lexeme of the first kind begins one of the second, nor the other way round
unfoldable pub apart : Lexeme → Lexeme → Bool
apart (Word word) (Word other) = differ word other
apart (Word []) White = false
apart (Word (byte ∷ word)) White = not (is_white byte)
apart (Word []) (Except refused) = false
apart (Word (byte ∷ word)) (Except refused) = ltb byte 128 && is_among byte refused
apart White (Word []) = false
apart White (Word (byte ∷ word)) = not (is_white byte)
apart White White = false
apart White (Except refused) = is_among 0x20 refused && (is_among 9 refused && (is_among 13 refused && is_among 10 refused))
apart (Except refused) (Word []) = false
apart (Except refused) (Word (byte ∷ word)) = ltb byte 128 && is_among byte refused
apart (Except refused) White = is_among 0x20 refused && (is_among 9 refused && (is_among 13 refused && is_among 10 refused))
apart (Except refused) (Except others) = false

-- the lexeme has at least one byte
unfoldable pub filled : Lexeme → Bool
filled (Word []) = false
filled (Word (byte ∷ word)) = true
filled White = true
filled (Except refused) = true

-- a code that is among the refused is refused
refused_none : (code : ℕ) (refused : List ℕ) → is_among code refused ≡ true → AllByRecursion (λ other. code ≢ other) refused → ⊥
refused_none code [] h none = absurd (cc)
refused_none code (other ∷ others) h none = elim (or_cases (nat_eq code other) (is_among code others) h) [
  | inl here ↦ none.0 (eqb-true code other here)
  | inr there ↦ refused_none code others there none.1
]

-- the four bytes of white space
white_cases : (byte : ℕ) → IsWhite byte → (byte ≡ 0x20) ⊎ ((byte ≡ 9) ⊎ ((byte ≡ 13) ⊎ (byte ≡ 10)))
white_cases byte h = elim (or_cases (nat_eq byte 0x20 || nat_eq byte 9 || nat_eq byte 13) (nat_eq byte 10) h) [
  | inr e ↦ inr (inr (inr (eqb-true byte 10 e)))
  | inl h ↦ elim (or_cases (nat_eq byte 0x20 || nat_eq byte 9) (nat_eq byte 13) h) [
    | inr e ↦ inr (inr (inl (eqb-true byte 13 e)))
    | inl h ↦ elim (or_cases (nat_eq byte 0x20) (nat_eq byte 9) h) [
      | inr e ↦ inr (inl (eqb-true byte 9 e))
      | inl e ↦ inl (eqb-true byte 0x20 e)
    ]
  ]
]

-- white space among the refused is refused
white_refused : (byte : ℕ) (refused : List ℕ) → apart White (Except refused) ≡ true → IsWhite byte → is_among byte refused ≡ true
unfolding apart
white_refused byte refused h white =
    let one = and_parts (is_among 0x20 refused) (is_among 9 refused && (is_among 13 refused && is_among 10 refused)) h in
    let two = and_parts (is_among 9 refused) (is_among 13 refused && is_among 10 refused) one.1 in
    let three = and_parts (is_among 13 refused) (is_among 10 refused) two.1 in
    let there = λ (code : ℕ) (same : byte ≡ code) (h : is_among code refused ≡ true). subst (λ c. is_among c refused ≡ true) (sym same) h in
    elim (white_cases byte white) [
      | inl e ↦ there 0x20 e one.0
      | inr (inl e) ↦ there 9 e two.0
      | inr (inr (inl e)) ↦ there 13 e three.0
      | inr (inr (inr e)) ↦ there 10 e three.1
    ]

-- a character that begins with a byte below 128 is this byte
except_byte : (byte : ℕ) (refused more rest word : List ℕ) → byte < 128 → is_among byte refused ≡ true → IsLexeme (Except refused) word
    → word ++ rest ≡ byte ∷ more → ⊥
except_byte byte refused more rest word small h (character, allowed, none, is) e =
    let same : character ≡ byte = (char_byte character byte rest more small (ap (λ l. l ++ rest) (sym is) ∙ e)).0 in
    refused_none byte refused h (subst (λ c. AllByRecursion (λ other. c ≢ other) refused) same none)

-- so where the test passes bytes do not begin with both
pub apart_never : (one two : Lexeme) (word other x y : List ℕ) → apart one two ≡ true → IsLexeme one word → IsLexeme two other
    → word ++ x ≡ other ++ y → ⊥
unfolding apart
apart_never (Word w) (Word v) word other x y h a b e =
    differ_apart w v x y h (ap (λ l. l ++ x) (sym a) ∙ (e ∙ ap (λ l. l ++ y) b))
apart_never (Word []) White word other x y h a b e = absurd (cc)
apart_never (Word (c ∷ w)) White word other x y h a (byte, white, is) e =
    let same : c ≡ byte = heads_same c byte (w ++ x) y (ap (λ l. l ++ x) (sym a) ∙ (e ∙ ap (λ l. l ++ y) is)) in
    both_ways (is_white c) (not-true (is_white c) h) (subst IsWhite (sym same) white)
apart_never (Word []) (Except refused) word other x y h a b e = absurd (cc)
apart_never (Word (c ∷ w)) (Except refused) word other x y h a b e =
    let parts = and_parts (ltb c 128) (is_among c refused) h in
    except_byte c refused (w ++ x) y other (ltb-true c 128 parts.0) parts.1 b (sym e ∙ ap (λ l. l ++ x) a)
apart_never White (Word []) word other x y h a b e = absurd (cc)
apart_never White (Word (c ∷ w)) word other x y h (byte, white, is) b e =
    let same : byte ≡ c = heads_same byte c x (w ++ y) (ap (λ l. l ++ x) (sym is) ∙ (e ∙ ap (λ l. l ++ y) b)) in
    both_ways (is_white c) (not-true (is_white c) h) (subst IsWhite same white)
apart_never White White word other x y h a b e = absurd (cc)
apart_never White (Except refused) word other x y h (byte, white, is) b e =
    except_byte byte refused x y other (small byte white) (white_refused byte refused h white) b (sym e ∙ ap (λ l. l ++ x) is)
  where
    small : (byte : ℕ) → IsWhite byte → byte < 128
    small byte white =
        let below = white_small byte white in
        omega arith
apart_never (Except refused) (Word []) word other x y h a b e = absurd (cc)
apart_never (Except refused) (Word (c ∷ w)) word other x y h a b e =
    let parts = and_parts (ltb c 128) (is_among c refused) h in
    except_byte c refused (w ++ y) x word (ltb-true c 128 parts.0) parts.1 a (e ∙ ap (λ l. l ++ y) b)
apart_never (Except refused) White word other x y h a (byte, white, is) e =
    except_byte byte refused y x word (small byte white) (white_refused byte refused h white) a (e ∙ ap (λ l. l ++ y) is)
  where
    small : (byte : ℕ) → IsWhite byte → byte < 128
    small byte white =
        let below = white_small byte white in
        omega arith
apart_never (Except refused) (Except others) word other x y h a b e = absurd (cc)

-- bytes begin with one kind of lexeme in one way
pub same_once : (lexeme : Lexeme) (word other x y : List ℕ) → IsLexeme lexeme word → IsLexeme lexeme other → word ++ x ≡ other ++ y → word ≡ other
same_once (Word w) word other x y a b e = a ∙ sym b
same_once White word other x y (byte, white, is) (byte', white', is') e =
    let same : byte ≡ byte' = heads_same byte byte' x y (ap (λ l. l ++ x) (sym is) ∙ (e ∙ ap (λ l. l ++ y) is')) in
    is ∙ (ap (λ b. b ∷ []) same ∙ sym is')
same_once (Except refused) word other x y (character, allowed, none, is) (character', allowed', none', is') e =
    let same : character ≡ character' = (encode_same character character' x y (ap (λ l. l ++ x) (sym is) ∙ (e ∙ ap (λ l. l ++ y) is'))).0 in
    is ∙ (ap encode_utf8 same ∙ sym is')

-- a lexeme that passes the test is not empty
pub filled_some : (lexeme : Lexeme) (word : List ℕ) → filled lexeme ≡ true → IsLexeme lexeme word → 0 < length word
unfolding filled
filled_some (Word []) word h is = absurd (cc)
filled_some (Word (byte ∷ w)) word h is = rw is (omega arith)
filled_some White word h (byte, white, is) = rw is (omega arith)
filled_some (Except refused) word h (character, allowed, none, is) =
    let some = (len_utf8_bounds character).0 in
    rw (is, length-encode) some
