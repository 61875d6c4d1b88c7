-- What the texts of requests are made of is plain.
use Rattle.std.proofs.Common.{◌≡◌, ℕ, ◌+◌, ◌%◌, ◌<◌, ◌^◌, ◌&&◌, nat_le, IsTrue, List, [], ◌∷◌, ◌++◌, codes, refl, arith, append_assoc}
use Rattle.std.specs.Cmp.{first_so, second_so}
use Rattle.std.specs.Fmt.{decimal}
use Rattle.ssap_shape.specs.Plain.{is_plain}
use Rattle.std.proofs.lemmas.Fmt.{decimal_by_steps}
use Rattle.made_script.specs.Made.{optional_text}

-- two plain words, one behind the other, are one
pub plain_append : (xs ys : List ℕ) → IsTrue (is_plain xs) → IsTrue (is_plain ys) → IsTrue (is_plain (xs ++ ys))
plain_append [] ys p q = q
plain_append (x ∷ xs) ys p q =
    let here = first_so (nat_le 0x20 x && nat_le x 0x7E) (is_plain xs) p in
    let rest = plain_append xs ys (second_so (nat_le 0x20 x && nat_le x 0x7E) (is_plain xs) p) q in
    rw (here, rest) refl

-- a digit is plain
digit_plain : (n : ℕ) → n < 10 → IsTrue (is_plain ((48 + n) ∷ []))
digit_plain n small = grind arith

-- a number is plain
decimal_plain : (n : ℕ) → n < 2 ^ 64 → IsTrue (is_plain (decimal n))
decimal_plain = decimal_by_steps (λ n ds. IsTrue (is_plain ds)) digit_plain
    (λ n ds big h. plain_append ds ((48 + n % 10) ∷ []) h (digit_plain (n % 10) (omega arith)))

-- the query's text is plain
pub optional_plain : (number : ℕ) → number < 2 ^ 63 → IsTrue (is_plain (optional_text number))
unfolding optional_text
optional_plain number small =
    plain_append (codes "SELECT DISTINCT ?s ?o ?z { ?s <p" ++ decimal (number % 5) ++ codes "> ?o OPTIONAL { ?s <p" ++ decimal ((number + 1) % 5)) (codes "> ?z } }")
    (plain_append (codes "SELECT DISTINCT ?s ?o ?z { ?s <p" ++ decimal (number % 5) ++ codes "> ?o OPTIONAL { ?s <p") (decimal ((number + 1) % 5))
    (plain_append (codes "SELECT DISTINCT ?s ?o ?z { ?s <p" ++ decimal (number % 5)) (codes "> ?o OPTIONAL { ?s <p")
    (plain_append (codes "SELECT DISTINCT ?s ?o ?z { ?s <p") (decimal (number % 5)) refl (decimal_plain (number % 5) (omega arith))) refl)
    (decimal_plain ((number + 1) % 5) (omega arith))) refl

-- a letter and a number are plain
pub numbered_plain : (letter : List ℕ) (number : ℕ) → IsTrue (is_plain letter) → number < 2 ^ 64 → IsTrue (is_plain (letter ++ decimal number))
numbered_plain letter number p small = plain_append letter (decimal number) p (decimal_plain number small)

regroup : (x a y b z : List ℕ) → x ++ (a ++ (y ++ (b ++ z))) ≡ x ++ a ++ y ++ b ++ z
regroup x a y b z = simp append_assoc

-- the parts of the query's text, put together from the right
pub optional_parts : (number : ℕ) → codes "SELECT DISTINCT ?s ?o ?z { ?s <p" ++ (decimal (number % 5)
    ++ (codes "> ?o OPTIONAL { ?s <p" ++ (decimal ((number + 1) % 5) ++ codes "> ?z } }"))) ≡ optional_text number
unfolding optional_text
optional_parts number =
    regroup (codes "SELECT DISTINCT ?s ?o ?z { ?s <p") (decimal (number % 5)) (codes "> ?o OPTIONAL { ?s <p") (decimal ((number + 1) % 5)) (codes "> ?z } }")
