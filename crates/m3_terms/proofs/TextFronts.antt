-- Fronts of bytes that are texts.
use Rattle.std.proofs.Common.{◌≡◌, ℕ, zero, suc, ◌<◌, ◌≤◌, Bool, true, not, List, [], ◌∷◌, ◌++◌, length, take, drop, refl, sym, ◌∙◌, ap, subst, arith, inl, inr, append_assoc, Some}
use Rattle.std.specs.List.{AllByRecursion}
use Rattle.std.specs.Char.{encode_utf8, IsScalar}
use Rattle.std.specs.Str.{encode_utf8_all, all_scalars, NonePass, NoCharPasses, IsUtf8, is_utf8}
use Rattle.std.specs.Str.Lossy.{utf8_valid_len, valid_len_up_to}
use Rattle.std.specs.Str.Pattern.{FindsBy}
use Rattle.std.proofs.lemmas.Str.{encode_same, is_utf8-from_IsUtf8}
use Rattle.std.proofs.lemmas.Bool.{not-true, not-false, cases_lt, both_ways, cond_both}
use Rattle.std.proofs.lemmas.List.{length-append, length-take-le, take-append-drop, take-append-le}
use Rattle.m3_terms.specs.Text.{is_allowed, IsAllowed, IsText}

-- a character is not allowed
abbrev pub is_refused : ℕ → Bool
is_refused c = not (is_allowed c)

-- an allowed character has a scalar value
allowed_scalar : (c : ℕ) → IsAllowed c → IsScalar c
allowed_scalar c h = grind arith

-- characters of which none is refused are allowed
all_allowed : (cs : List ℕ) → NonePass is_refused cs → AllByRecursion IsAllowed cs
all_allowed [] h = tt
all_allowed (c ∷ cs) h = (not-false (is_allowed c) h.0, all_allowed cs h.1)

-- allowed characters have scalar values
all_scalar : (cs : List ℕ) → AllByRecursion IsAllowed cs → all_scalars cs ≡ true
all_scalar [] h = refl
all_scalar (c ∷ cs) h = rw (allowed_scalar c h.0) (all_scalar cs h.1)

-- bytes in which no character is refused are a text
pub text_of_none : (bytes : List ℕ) → NoCharPasses is_refused bytes → IsText bytes
text_of_none bytes h = (h.0, all_allowed h.0 h.2, h.1)

-- a text is UTF-8
pub utf8_of_text : (bytes : List ℕ) → IsText bytes → IsUtf8 bytes
utf8_of_text bytes h = (h.0, (all_scalar h.0 h.1, h.2))

-- where characters ds that have P reach past others and the character c after them, c is among ds
reached : (P : ℕ → Type 0) (ds cs rest more : List ℕ) (c : ℕ) → AllByRecursion P ds
    → encode_utf8_all ds ++ rest ≡ encode_utf8_all cs ++ (encode_utf8 c ++ more)
    → length (encode_utf8_all cs) < length (encode_utf8_all ds) → P c
reached P [] cs rest more c all same past = absurd (omega arith)
reached P (d ∷ ds) [] rest more c all same past =
    subst P (encode_same d c _ _ (sym (append_assoc (encode_utf8 d) (encode_utf8_all ds) rest) ∙ same)).0 all.0
reached P (d ∷ ds) (e ∷ cs) rest more c all same past =
    let step = encode_same d e (encode_utf8_all ds ++ rest) (encode_utf8_all cs ++ (encode_utf8 c ++ more))
    (sym (append_assoc (encode_utf8 d) (encode_utf8_all ds) rest) ∙ same
    ∙ append_assoc (encode_utf8 e) (encode_utf8_all cs) (encode_utf8 c ++ more)) in
    let wide : length (encode_utf8 d) ≡ length (encode_utf8 e) = ap (λ x. length (encode_utf8 x)) step.0 in
    let first = length-append (encode_utf8 d) (encode_utf8_all ds) in
    let second = length-append (encode_utf8 e) (encode_utf8_all cs) in
    reached P ds cs rest more c all.1 step.1 (omega (arith, wide, first, second, past))

-- no front that is a text reaches past a refused character
pub before_refused : (bytes cs rest : List ℕ) (c : ℕ) → bytes ≡ encode_utf8_all cs ++ (encode_utf8 c ++ rest) → is_refused c ≡ true
    → (n : ℕ) → n ≤ length bytes → IsText (take n bytes) → n ≤ length (encode_utf8_all cs)
before_refused bytes cs rest c split refused n short text = elim (cases_lt (length (encode_utf8_all cs)) n) [
  | inl past ↦
      let same : encode_utf8_all text.0 ++ drop n bytes ≡ encode_utf8_all cs ++ (encode_utf8 c ++ rest) =
      ap (λ front. front ++ drop n bytes) text.2 ∙ take-append-drop n bytes ∙ split in
      let through : length (encode_utf8_all text.0) ≡ n = ap length text.2 ∙ length-take-le n bytes short in
      absurd (both_ways (is_allowed c) (not-true (is_allowed c) refused)
      (reached IsAllowed text.0 cs (drop n bytes) rest c text.1 same (omega (arith, through, past))))
  | inr done ↦ done
]

-- the front of the bytes before the first refused character is the longest that is a text
pub longest_before : (bytes : List ℕ) (place end : ℕ) → FindsBy is_refused bytes (Some (place, end)) → place ≤ length bytes
    → (n : ℕ) → n ≤ length bytes → IsText (take n bytes) → n ≤ place
longest_before bytes place end found within =
    let split : bytes ≡ encode_utf8_all found.0.0 ++ (encode_utf8 found.1.0 ++ drop end bytes) =
    sym (take-append-drop place bytes) ∙ ap (λ front. front ++ drop place bytes) (sym found.0.1)
    ∙ ap (λ back. encode_utf8_all found.0.0 ++ back) found.1.2.split in
    let before : length (encode_utf8_all found.0.0) ≡ place = ap length found.0.1 ∙ length-take-le place bytes within in
    subst (λ k. (n : ℕ) → n ≤ length bytes → IsText (take n bytes) → n ≤ k) before
    (before_refused bytes found.0.0 (drop end bytes) found.1.0 split found.1.1)

-- a front that is UTF-8 and no longer than most is within the greatest such length
within_greatest : (bytes : List ℕ) (n most : ℕ) → IsUtf8 (take n bytes) → n ≤ most → n ≤ valid_len_up_to bytes most
within_greatest bytes n zero utf8 short = omega arith
within_greatest bytes n (suc most) utf8 short =
    cond_both (is_utf8 (take (suc most) bytes)) (suc most) (valid_len_up_to bytes most) (λ k. n ≤ k) (λ _. short)
    (λ unfit. elim (cases_lt n (suc most)) [
      | inl below ↦ within_greatest bytes n most utf8 (omega arith)
      | inr least ↦
          let whole : n ≡ suc most = omega arith in
          absurd (both_ways (is_utf8 (take (suc most) bytes)) unfit
          (is_utf8-from_IsUtf8 (take (suc most) bytes) (subst (λ k. IsUtf8 (take k bytes)) whole utf8)))
    ])

-- a front that is UTF-8 is no longer than the longest
within_valid : (bytes : List ℕ) (n : ℕ) → n ≤ length bytes → IsUtf8 (take n bytes) → n ≤ utf8_valid_len bytes
unfolding utf8_valid_len
within_valid bytes n short utf8 = within_greatest bytes n (length bytes) utf8 short

-- a longest text in the longest front that is UTF-8 is one in the bytes
pub longest_in_valid : (bytes valid rest : List ℕ) (place : ℕ) → bytes ≡ valid ++ rest → length valid ≡ utf8_valid_len bytes
    → ((n : ℕ) → n ≤ length valid → IsText (take n valid) → n ≤ place)
    → (n : ℕ) → n ≤ length bytes → IsText (take n bytes) → n ≤ place
longest_in_valid bytes valid rest place split valid_len longest n short text =
    let small : n ≤ length valid =
    subst (λ k. n ≤ k) (sym valid_len) (within_valid bytes n short (utf8_of_text (take n bytes) text)) in
    longest n small (subst IsText (ap (λ b. take n b) split ∙ take-append-le n valid rest small) text)
