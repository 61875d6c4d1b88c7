-- A prefix of ASCII takes nothing away from what follows it.
use Rattle.std.proofs.Common.{◌≡◌, ℕ, ◌+◌, ◌-◌, ◌<◌, ◌≤◌, true, List, [], ◌∷◌, ◌++◌, length, take, drop, refl, sym, ◌∙◌, ap, subst, arith, inl, inr}
use Rattle.std.proofs.Math.Seq.{take-add}
use Rattle.std.proofs.lemmas.Bool.{cases_lt, and_parts}
use Rattle.std.proofs.lemmas.List.{length-drop}
use Rattle.std.proofs.lemmas.List.Folds.{list_all-append}
use Rattle.std.proofs.lemmas.Str.{encode_ascii, encode_same}
use Rattle.std.specs.Char.{encode_utf8}
use Rattle.std.specs.List.{list_all}
use Rattle.std.specs.Str.{encode_utf8_all}
use Rattle.m3_terms.specs.Text.{is_plain, IsAllowed, IsText}

-- plain bytes and then more of them are plain
pub plain_more : (bytes : List ℕ) (at n : ℕ) → list_all is_plain (take at bytes) ≡ true → list_all is_plain (take n (drop at bytes)) ≡ true
    → list_all is_plain (take (at + n) bytes) ≡ true
plain_more bytes at n before more =
    ap (list_all is_plain) (take-add at n bytes) ∙ list_all-append is_plain (take at bytes) (take n (drop at bytes)) ∙ (rw (before, more) refl)

-- a plain byte is an allowed character
plain_allowed : (b : ℕ) → is_plain b ≡ true → IsAllowed b
plain_allowed b h = grind arith

-- a plain byte is one of ASCII
plain_ascii : (b : ℕ) → is_plain b ≡ true → b < 128
plain_ascii b h = grind arith

-- a plain byte is spelled by itself
plain_spelled : (b : ℕ) → is_plain b ≡ true → encode_utf8 b ≡ b ∷ []
plain_spelled b h = encode_ascii b (plain_ascii b h)

-- plain bytes and then a text are a text
pub text_behind : (plain bytes : List ℕ) → list_all is_plain plain ≡ true → IsText bytes → IsText (plain ++ bytes)
text_behind [] bytes h text = text
text_behind (b ∷ plain) bytes h text =
    let each = and_parts (is_plain b) (list_all is_plain plain) h in
    let rest = text_behind plain bytes each.1 text in
    (b ∷ rest.0, (plain_allowed b each.0, rest.1), ap (λ front. front ++ encode_utf8_all rest.0) (plain_spelled b each.0) ∙ ap (λ back. b ∷ back) rest.2)

-- what follows plain bytes in a text is a text
pub text_after : (plain bytes : List ℕ) → list_all is_plain plain ≡ true → IsText (plain ++ bytes) → IsText bytes
text_after [] bytes h text = text
text_after (b ∷ plain) bytes h ([], allowed, same) = absurd (cc)
text_after (b ∷ plain) bytes h (c ∷ cs, allowed, same) =
    let each = and_parts (is_plain b) (list_all is_plain plain) h in
    let step = encode_same c b (encode_utf8_all cs) (plain ++ bytes) (same ∙ sym (ap (λ front. front ++ (plain ++ bytes)) (plain_spelled b each.0))) in
    text_after plain bytes each.1 (cs, allowed.1, step.1)

-- the longest text after plain bytes ends the longest text
pub longest_behind : (bytes : List ℕ) (at most : ℕ) → at ≤ length bytes → list_all is_plain (take at bytes) ≡ true
    → ((n : ℕ) → n ≤ length (drop at bytes) → IsText (take n (drop at bytes)) → n ≤ most)
    → (n : ℕ) → n ≤ length bytes → IsText (take n bytes) → n ≤ at + most
longest_behind bytes at most within plain longest n short text = elim (cases_lt n at) [
  | inl less ↦ omega (arith, less)
  | inr over ↦
      let whole : at + (n - at) ≡ n = omega (arith, over) in
      let split : take n bytes ≡ take at bytes ++ take (n - at) (drop at bytes) = sym (ap (λ k. take k bytes) whole) ∙ take-add at (n - at) bytes in
      let left = length-drop at bytes in
      let most_left = longest (n - at) (omega (arith, left, short, over, within)) (text_after (take at bytes) _ plain (subst IsText split text)) in
      omega (arith, most_left, whole)
]
