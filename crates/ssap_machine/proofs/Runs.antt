-- Runs of plain characters, and what is read of them.
use Rattle.std.proofs.Common.{inl, inr, ℕ, zero, suc, ◌<◌, ◌≤◌, List, [], ◌∷◌, ◌++◌, length, take, get_or, sym, ◌∙◌, subst, arith}
use Rattle.std.specs.Prelude.{encode_utf8, encode_utf8_all}
use Rattle.std.specs.List.{AllByRecursion}
use Rattle.std.proofs.lemmas.Str.{encode_ascii}
use Rattle.std.proofs.lemmas.List.{append-nil}
use Rattle.m3_terms.specs.Text.{IsAllowed, IsText}
use Rattle.ssap_machine.specs.Plain.{IsOneOf, IsPlain, IsRun, Stops}

-- what holds at each place of a front holds of each element
pub all_front : (P : ℕ → Type 0) (n : ℕ) (bytes : List ℕ) → n ≤ length bytes → ((k : ℕ) → k < n → P (get_or bytes k 0)) → AllByRecursion P (take n bytes)
all_front P zero bytes h each = tt
all_front P (suc n) [] h each = absurd (omega arith)
all_front P (suc n) (x ∷ bytes) h each = (each 0 (omega arith), all_front P n bytes (omega arith) (λ k l. each (suc k) (omega arith)))

all_right : (P : ℕ → Type 0) (xs ys : List ℕ) → AllByRecursion P (xs ++ ys) → AllByRecursion P ys
all_right P [] ys all = all
all_right P (x ∷ xs) ys all = all_right P xs ys all.1

-- the first byte of a character of ASCII is it
first_of : (P : ℕ → Type 0) (c : ℕ) (rest : List ℕ) → c < 128 → AllByRecursion P (encode_utf8 c ++ rest) → P c
first_of P c rest low all = let all' = subst (λ xs. AllByRecursion P (xs ++ rest)) (encode_ascii c low) all in all'.0

-- characters are none of three of ASCII where none of their bytes is
plain_all : (first second third : ℕ) → first < 128 → second < 128 → third < 128 → (cs : List ℕ) → AllByRecursion IsAllowed cs
    → AllByRecursion (λ byte. ¬ (IsOneOf first second third byte)) (encode_utf8_all cs) → AllByRecursion (IsPlain first second third) cs
plain_all first second third h k l [] allowed none = tt
plain_all first second third h k l (c ∷ cs) allowed none = (
  (
    allowed.0,
    λ one. let low : c < 128 = elim one [ inl e ↦ omega arith | inr (inl e) ↦ omega arith | inr (inr e) ↦ omega arith ] in
        first_of (λ byte. ¬ (IsOneOf first second third byte)) c (encode_utf8_all cs) low none one,
  ),
  plain_all first second third h k l cs allowed.1 (all_right (λ byte. ¬ (IsOneOf first second third byte)) (encode_utf8 c) (encode_utf8_all cs) none),
)

-- a text with none of three bytes is a run
pub run_of_text : (first second third : ℕ) (bytes : List ℕ) → first < 128 → second < 128 → third < 128 → IsText bytes
    → AllByRecursion (λ byte. ¬ (IsOneOf first second third byte)) bytes → IsRun first second third bytes
run_of_text first second third bytes h k l text none = record {
  characters = text.0;
  plain = plain_all first second third h k l text.0 text.1 (subst (AllByRecursion (λ byte. ¬ (IsOneOf first second third byte))) (sym text.2) none);
  is = text.2;
}

-- one allowed character of ASCII is a text
pub ascii_text : (byte : ℕ) → byte < 128 → IsAllowed byte → IsText (byte ∷ [])
ascii_text byte low allowed = (byte ∷ [], (allowed, tt), append-nil (encode_utf8 byte) ∙ encode_ascii byte low)

-- where the longest text is empty, no plain character of ASCII is at the front
pub stops_of : (first second third end : ℕ) (bytes : List ℕ) → (end < length bytes → IsOneOf first second third (get_or bytes end 0)) → end ≤ length bytes
    → ((n : ℕ) → n ≤ length (take end bytes) → IsText (take n (take end bytes)) → n ≤ 0) → Stops first second third bytes
stops_of first second third end [] at within longest = tt
stops_of first second third zero (byte ∷ bytes) at within longest = λ low allowed. at (omega arith)
stops_of first second third (suc end) (byte ∷ bytes) at within longest = λ low allowed.
    absurd (let one = longest 1 (omega arith) (ascii_text byte low allowed) in omega arith)
