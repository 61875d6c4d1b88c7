-- A plain word is a text.
use Rattle.std.proofs.Common.{◌≡◌, ℕ, ◌≤◌, ◌<◌, ◌&&◌, nat_le, IsTrue, List, [], ◌∷◌, length, take, refl, subst, sym, encode_utf8_all, arith}
use Rattle.std.specs.List.{AllByRecursion}
use Rattle.std.proofs.Math.Seq.{take-length}
use Rattle.std.proofs.lemmas.Str.{encode_ascii}
use Rattle.std.proofs.lemmas.Bool.{leb-true}
use Rattle.std.specs.Cmp.{first_so, second_so}
use Rattle.m3_terms.specs.Text.{IsText, IsAllowed, FailsAt, TextFault}
use Rattle.m3_terms.specs.declared.term.TermFault.{TermFault}
use Rattle.m3_terms.specs.declared.term.TermFault.TheVariants.{NotText}
use Rattle.ssap_shape.specs.Plain.{is_plain}

-- a printable ASCII character is allowed
plain_allowed : (b : ℕ) → 0x20 ≤ b → b ≤ 0x7E → IsAllowed b
plain_allowed b low high = grind arith

-- the bytes of a plain word are its characters
all_allowed : (bytes : List ℕ) → IsTrue (is_plain bytes) → AllByRecursion IsAllowed bytes
all_allowed [] h = tt
all_allowed (b ∷ bytes) h =
    let here = first_so (nat_le 0x20 b && nat_le b 0x7E) (is_plain bytes) h in (
      plain_allowed b (leb-true 0x20 b (first_so (nat_le 0x20 b) (nat_le b 0x7E) here)) (leb-true b 0x7E (second_so (nat_le 0x20 b) (nat_le b 0x7E) here)),
      all_allowed bytes (second_so (nat_le 0x20 b && nat_le b 0x7E) (is_plain bytes) h),
    )

-- and are spelled by a byte each
spelled : (bytes : List ℕ) → IsTrue (is_plain bytes) → encode_utf8_all bytes ≡ bytes
spelled [] h = refl
spelled (b ∷ bytes) h =
    let here = first_so (nat_le 0x20 b && nat_le b 0x7E) (is_plain bytes) h in
    let low : b ≤ 0x7E = leb-true b 0x7E (second_so (nat_le 0x20 b) (nat_le b 0x7E) here) in
    let small : b < 128 = omega arith in
    rw (encode_ascii b small, spelled bytes (second_so (nat_le 0x20 b && nat_le b 0x7E) (is_plain bytes) h)) refl

-- a plain word is a text
pub plain_text : (bytes : List ℕ) → IsTrue (is_plain bytes) → IsText bytes
plain_text bytes h = (bytes, all_allowed bytes h, spelled bytes h)

-- a text fails nowhere
no_failure : (bytes : List ℕ) (place : ℕ) → IsText bytes → FailsAt bytes place → ⊥
no_failure bytes place t f =
    let whole : IsText (take (length bytes) bytes) = subst IsText (sym (take-length bytes)) t in
    let far : length bytes ≤ place = f.longest (length bytes) (omega arith) whole in
    let within = f.within in
    omega arith

-- so a plain word is never refused as no text
pub no_fault : (bytes : List ℕ) (fault : TermFault) (place : ℕ) → IsTrue (is_plain bytes) → fault ≡ NotText place → TextFault bytes fault → ⊥
no_fault bytes fault place h e f = no_failure bytes place (plain_text bytes h) (subst (TextFault bytes) e f)
