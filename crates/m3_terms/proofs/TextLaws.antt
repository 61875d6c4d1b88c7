-- Bytes are a text, or fail at one place.
use Rattle.std.proofs.Common.{◌≡◌, ℕ, false, List, [], ◌∷◌, ◌++◌, length, refl, sym, subst, arith}
use Rattle.std.specs.List.{AllByRecursion}
use Rattle.std.specs.Char.{encode_utf8}
use Rattle.std.specs.Str.{encode_utf8_all}
use Rattle.std.proofs.lemmas.List.{take_all, length-append}
use Rattle.std.proofs.lemmas.Str.{length-encode, len_utf8_bounds}
use Rattle.std.proofs.lemmas.Bool.{not_from_false}
use Rattle.std.proofs.Math.Seq.{take-append_seam}
use Rattle.m3_terms.specs.Text.{is_allowed, IsAllowed, IsText, FailsAt}
use Rattle.m3_terms.proofs.TextFronts.{before_refused}

-- bytes that fail are no text
pub fails_no_text : (bytes : List ℕ) (place : ℕ) → FailsAt bytes place → ¬ (IsText bytes)
fails_no_text bytes place fails text =
    let whole = fails.longest (length bytes) (omega arith) (subst IsText (sym (take_all (length bytes) bytes (omega arith))) text) in
    let within = fails.within in
    absurd (omega (arith, whole, within))

-- bytes fail at one place
pub fails_once : (bytes : List ℕ) (m n : ℕ) → FailsAt bytes m → FailsAt bytes n → m ≡ n
fails_once bytes m n first second =
    let within = first.within in
    let inside = second.within in
    let least = second.longest m (omega (arith, within)) first.text in
    let most = first.longest n (omega (arith, inside)) second.text in
    omega (arith, least, most)

-- allowed characters and then one that is not fail where that one begins
pub fails_at_refused : (cs rest : List ℕ) (c : ℕ) → AllByRecursion IsAllowed cs → is_allowed c ≡ false
    → FailsAt (encode_utf8_all cs ++ (encode_utf8 c ++ rest)) (length (encode_utf8_all cs))
fails_at_refused cs rest c allowed refused =
    let front = encode_utf8_all cs in
    let whole = length-append front (encode_utf8 c ++ rest) in
    let back = length-append (encode_utf8 c) rest in
    let wide = length-encode c in
    let some = (len_utf8_bounds c).0 in
    record {
      within = omega (arith, whole, back, wide, some);
      text = subst IsText (sym (take-append_seam front (encode_utf8 c ++ rest))) (cs, allowed, refl);
      longest = before_refused (front ++ (encode_utf8 c ++ rest)) cs rest c refl (not_from_false (is_allowed c) refused);
    }

-- an `a` and a NUL fail at 1
nul_fails : FailsAt (97 ∷ 0 ∷ []) 1
unfolding encode_utf8
nul_fails = fails_at_refused (97 ∷ []) [] 0 (refl, tt) refl
