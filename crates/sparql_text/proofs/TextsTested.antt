-- Bytes are a text exactly where the test says so.
use Rattle.std.proofs.Common.{◌≡◌, ℕ, true, List, [], ◌∷◌, refl, sym, ◌∙◌, ap, subst}
use Rattle.std.specs.List.{AllByRecursion, list_all}
use Rattle.std.specs.Str.{chars, encode_utf8_all}
use Rattle.std.specs.Cmp.Lexicographic.{bytes_decides}
use Rattle.std.proofs.lemmas.Str.{chars_from_encodes}
use Rattle.std.proofs.lemmas.Bool.{and_parts, and_from}
use Rattle.m3_terms.specs.Text.{IsText, IsAllowed, is_allowed}
use Rattle.m3_terms.specs.Order.{text_eq}
use Rattle.m3_terms.proofs.TextFronts.{utf8_of_text}
use Rattle.sparql_text.specs.FirstTokens.{is_text}

-- characters that are allowed pass the test
all_pass : (characters : List ℕ) → AllByRecursion IsAllowed characters → list_all is_allowed characters ≡ true
all_pass [] h = refl
all_pass (c ∷ characters) h = and_from (is_allowed c) (list_all is_allowed characters) h.0 (all_pass characters h.1)

-- and those that pass it are
all_allowed : (characters : List ℕ) → list_all is_allowed characters ≡ true → AllByRecursion IsAllowed characters
all_allowed [] h = tt
all_allowed (c ∷ characters) h =
    ((and_parts (is_allowed c) (list_all is_allowed characters) h).0, all_allowed characters (and_parts (is_allowed c) (list_all is_allowed characters) h).1)

-- a text passes the test
pub text_passes : (bytes : List ℕ) → IsText bytes → is_text bytes ≡ true
text_passes bytes text =
    let same : text.0 ≡ chars bytes = chars_from_encodes text.0 bytes (utf8_of_text bytes text) text.2 in
    and_from (list_all is_allowed (chars bytes)) (text_eq (encode_utf8_all (chars bytes)) bytes)
    (subst (λ l. list_all is_allowed l ≡ true) same (all_pass text.0 text.1))
    ((bytes_decides (encode_utf8_all (chars bytes)) bytes).1 (ap encode_utf8_all (sym same) ∙ text.2))

-- and what passes it is a text
pub passes_text : (bytes : List ℕ) → is_text bytes ≡ true → IsText bytes
passes_text bytes h = (
  chars bytes,
  all_allowed (chars bytes) (and_parts (list_all is_allowed (chars bytes)) (text_eq (encode_utf8_all (chars bytes)) bytes) h).0,
  (bytes_decides (encode_utf8_all (chars bytes)) bytes).0 (and_parts (list_all is_allowed (chars bytes)) (text_eq (encode_utf8_all (chars bytes)) bytes) h).1,
)
