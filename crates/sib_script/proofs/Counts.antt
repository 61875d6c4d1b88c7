-- How the text of a number goes on.
use Rattle.std.proofs.Common.{◌≡◌, ◌≢◌, ℕ, zero, suc, ◌+◌, ◌-◌, ◌*◌, ◌/◌, ◌%◌, ◌<◌, ◌≤◌, ◌^◌, List, [], ◌∷◌, ◌++◌, length, refl, sym, ◌∙◌, ap, subst, append_assoc, arith, lit<, get_or, map}
use Rattle.std.proofs.lemmas.List.{map-append}
use Rattle.std.proofs.lemmas.Fmt.{decimal_digit, decimal_step, decimal_nonempty, first_decimal, digits_value-decimal}
use Rattle.std.proofs.lemmas.Int.Digits.{digits_value_is, digits_value_push, number_after_append, number_after_ge}
use Rattle.std.proofs.lemmas.Str.{digit_value_digit}
use Rattle.std.proofs.lemmas.Str.Parse.{digit_from_value, numerals_by_value, tells_digits}
use Rattle.std.specs.Fmt.{decimal}
use Rattle.std.specs.Int.Digits.{number_from_digits_after}
use Rattle.std.specs.Str.Parse.{AllDigits, digits_value}
use Rattle.std.specs.Char.{digit_value}
use Rattle.sib_script.specs.Steps.{Begins, Lengthens}
use Rattle.m3_terms.proofs.Lists.{heads_same, tails_same}
use Rattle.sib_script.proofs.ScriptLaws.{no_digit, decimal_digits}

-- a digit is 48 to 57
pub record IsDigit (byte : ℕ) : Type 0 where
  pub low : 48 ≤ byte
  pub high : byte ≤ 57

pub digit_is : (byte : ℕ) → digit_value byte < 10 → IsDigit byte
digit_is byte h = let r = digit_from_value byte h in record { low = r.0; high = r.1 }

-- digits up to a byte that is none, where others go on with another byte, go on with a digit
pub digits_on : (c : ℕ) (es ds : List ℕ) (b : ℕ) (m x : List ℕ) → c < 48 → AllDigits 10 es → AllDigits 10 ds → b ≢ c → es ++ b ∷ m ≡ ds ++ c ∷ x → (t : List ℕ) × (ds ≡ es ++ b ∷ t)
digits_on c [] [] b m x k p q n e = absurd (n (heads_same b c m x e))
digits_on c [] (d ∷ ds) b m x k p q n e =
    let same = heads_same b d m (ds ++ c ∷ x) e in
    (ds, (cc))
digits_on c (f ∷ es) [] b m x k p q n e = absurd (no_digit c f k p.0 (heads_same f c (es ++ b ∷ m) x e))
digits_on c (f ∷ es) (d ∷ ds) b m x k p q n e =
    let same = heads_same f d (es ++ b ∷ m) (ds ++ c ∷ x) e in
    let h = digits_on c es ds b m x k p.1 q.1 n (tails_same f d (es ++ b ∷ m) (ds ++ c ∷ x) e) in
    let tail : ds ≡ es ++ b ∷ h.0 = h.1 in
    (h.0, (cc))

-- each byte of digits is one
pub digit_within : (es : List ℕ) (b : ℕ) (t : List ℕ) → AllDigits 10 (es ++ b ∷ t) → IsDigit b
digit_within [] b t p = digit_is b p.0
digit_within (e ∷ es) b t p = digit_within es b t p.1

-- more digits give no smaller number
pub digits_value_grows : (ds t : List ℕ) → digits_value 10 ds ≤ digits_value 10 (ds ++ t)
digits_value_grows ds t =
    let short = digits_value_is 10 ds in
    let long : digits_value 10 (ds ++ t) ≡ number_from_digits_after 10 0 (map digit_value ds ++ map digit_value t) =
    digits_value_is 10 (ds ++ t) ∙ ap (number_from_digits_after 10 0) (map-append digit_value ds t)
    in
    let apart = number_after_append 10 0 (map digit_value ds) (map digit_value t) in
    let more = number_after_ge 10 (number_from_digits_after 10 0 (map digit_value ds)) (map digit_value t) (omega arith) in
    omega (arith, short, long, apart, more)

-- the number that a number's text writes
pub value_of_decimal : (n : ℕ) → n < 2 ^ 64 → digits_value 10 (decimal n) ≡ n
value_of_decimal n h = digits_value-decimal (numerals_by_value (AllDigits 10) tells_digits) n h

-- one digit more
pub value_on : (v b : ℕ) → v < 2 ^ 64 → IsDigit b → digits_value 10 (decimal v ++ b ∷ []) ≡ v * 10 + (b - 48)
value_on v b h d =
    let push = digits_value_push 10 (decimal v) b in
    let value = value_of_decimal v h in
    let low = d.low in
    let high = d.high in
    let digit = digit_value_digit b (low, high) in
    rw (push, value) (omega (arith, digit))

-- only `0` begins with that digit
pub no_zero_first : (n : ℕ) (t : List ℕ) → 0 < n → n < 2 ^ 64 → decimal n ≡ 48 ∷ t → ⊥
no_zero_first n t p h e =
    let first = first_decimal n p h in
    let read : get_or (decimal n) 0 0 ≡ 48 = ap (λ l. get_or l 0 0) e in
    omega (arith, first, read)

-- `0` has no other digit
pub filled_on : (v n b : ℕ) (t : List ℕ) → n < 2 ^ 64 → decimal n ≡ decimal v ++ b ∷ t → 0 < v
filled_on zero zero b t h e =
    let zero_is : decimal 0 ≡ 48 ∷ [] = decimal_digit 0 (lit< tt) in
    let short : length (decimal 0) ≡ 1 = ap length zero_is in
    let long : length (decimal 0) ≡ length (48 ∷ b ∷ t) = ap length (e ∙ ap (λ l. l ++ b ∷ t) zero_is) in
    omega (arith, short, long)
filled_on zero (suc n) b t h e =
    absurd (no_zero_first (suc n) (b ∷ t) (omega arith) h (e ∙ ap (λ l. l ++ b ∷ t) (decimal_digit 0 (lit< tt))))
filled_on (suc v) n b t h e = omega arith

-- a number's text that goes on with a byte other than the one that ends it goes on with a digit, to a number that is no
-- smaller
pub number_on : (c v n b limit : ℕ) (m x : List ℕ) → c < 48 → v ≤ limit → n ≤ limit → limit < 2 ^ 32 → b ≢ c → decimal v ++ b ∷ m ≡ decimal n ++ c ∷ x → Lengthens v b limit
number_on c v n b limit m x z p q w k e =
    let n_small : n < 2 ^ 64 = omega arith in
    let v_small : v < 2 ^ 64 = omega arith in
    let on = digits_on c (decimal v) (decimal n) b m x z (decimal_digits v v_small) (decimal_digits n n_small) k e in
    let text : decimal n ≡ decimal v ++ b ∷ on.0 = on.1 in
    let digits = subst (AllDigits 10) text (decimal_digits n n_small) in
    let digit = digit_within (decimal v) b on.0 digits in
    let whole : digits_value 10 (decimal n) ≡ n = value_of_decimal n n_small in
    let part = value_on v b v_small digit in
    let apart : decimal n ≡ (decimal v ++ b ∷ []) ++ on.0 = text ∙ sym (append_assoc (decimal v) (b ∷ []) on.0) in
    let wide : digits_value 10 (decimal n) ≡ digits_value 10 ((decimal v ++ b ∷ []) ++ on.0) = ap (digits_value 10) apart in
    let grows = digits_value_grows (decimal v ++ b ∷ []) on.0 in
    record {
      filled = filled_on v n b on.0 n_small text;
      low = digit.low;
      high = digit.high;
      within = omega (arith, q, whole, part, wide, grows);
    }

least_first : (b n least : ℕ) → 48 ≤ b → least ≤ n → least ≤ 1 → (0 < n → b ≢ 48) → 48 + least ≤ b
least_first b n zero l p k f = omega (arith, l)
least_first b n (suc least) l p k f =
    let other : b ≢ 48 = f (omega (arith, p)) in
    omega (arith, l, k, other)

-- a number's text begins with a digit, which is not `0` where the number is not
pub number_first : (c n b least : ℕ) (m x : List ℕ) → least ≤ n → least ≤ 1 → n < 2 ^ 64 → b ∷ m ≡ decimal n ++ c ∷ x → Begins b least
number_first c n b least m x p k h e = first_of (decimal n) refl (decimal_digits n h) (decimal_nonempty n h)
  where
    first_of : (ds : List ℕ) → decimal n ≡ ds → AllDigits 10 ds → 0 < length ds → Begins b least
    first_of [] s q l = absurd (omega arith)
    first_of (d ∷ ds) s q l =
        let same : b ≡ d = heads_same b d m (ds ++ c ∷ x) (e ∙ ap (λ t. t ++ c ∷ x) s) in
        let digit = subst IsDigit (sym same) (digit_is d q.0) in
        record {
          low = least_first b n least digit.low p k (λ w z. no_zero_first n ds w h (s ∙ ap (λ k. k ∷ ds) (sym same ∙ z)));
          high = digit.high;
        }

-- the text of a number with one digit more
pub decimal_on : (v b limit : ℕ) → limit < 2 ^ 32 → Lengthens v b limit → decimal (v * 10 + (b - 48)) ≡ decimal v ++ b ∷ []
decimal_on v b limit w h =
    let low = h.low in
    let high = h.high in
    let filled = h.filled in
    let within = h.within in
    let step = decimal_step (v * 10 + (b - 48)) (omega arith) (omega arith) in
    let front : (v * 10 + (b - 48)) / 10 ≡ v = omega arith in
    let last : 48 + (v * 10 + (b - 48)) % 10 ≡ b = omega arith in
    step ∙ (ap (λ k. decimal k ++ (48 + (v * 10 + (b - 48)) % 10) ∷ []) front ∙ ap (λ k. decimal v ++ k ∷ []) last)

-- the text of one digit
pub decimal_one : (b least : ℕ) → Begins b least → decimal (b - 48) ≡ b ∷ []
decimal_one b least d =
    let low = d.low in
    let high = d.high in
    let same : 48 + (b - 48) ≡ b = omega arith in
    decimal_digit (b - 48) (omega arith) ∙ ap (λ k. k ∷ []) same
