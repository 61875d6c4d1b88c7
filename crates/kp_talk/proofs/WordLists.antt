-- Lists of a known length, and the bytes of their words.
use Rattle.std.proofs.Common.{◌≡◌, ◌∙◌, ap, sym, refl, arith, ℕ, ◌<◌, ◌≤◌, List, [], ◌∷◌, length, get_or, String, Global}
use Rattle.std.specs.String.{string_bytes}
use Rattle.kp_talk.specs.Words.{texts}

none : {A : Type 0} (xs : List A) → length xs < 1 → xs ≡ []
none [] l = refl
none (x ∷ xs) l = absurd (omega arith)

-- a list of one is its item
pub one : {A : Type 0} (xs : List A) (a : A) → 1 ≤ length xs → length xs < 2 → a ≡ get_or xs 0 a → xs ≡ a ∷ []
one [] a m l e = absurd (omega arith)
one (x ∷ xs) a m l e = ap (λ w. w ∷ xs) (sym e) ∙ ap (λ w. a ∷ w) (none xs (omega arith))

-- a list of two is its items
pub two : {A : Type 0} (xs : List A) (a b : A) → 2 ≤ length xs → length xs < 3 → a ≡ get_or xs 0 a → b ≡ get_or xs 1 b → xs ≡ a ∷ b ∷ []
two [] a b m l e f = absurd (omega arith)
two (x ∷ xs) a b m l e f = ap (λ w. w ∷ xs) (sym e) ∙ ap (λ w. a ∷ w) (one xs b (omega arith) (omega arith) f)

three : {A : Type 0} (xs : List A) (a b c : A) → 3 ≤ length xs → length xs < 4 → a ≡ get_or xs 0 a → b ≡ get_or xs 1 b → c ≡ get_or xs 2 c → xs ≡ a ∷ b ∷ c ∷ []
three [] a b c m l e f g = absurd (omega arith)
three (x ∷ xs) a b c m l e f g = ap (λ w. w ∷ xs) (sym e) ∙ ap (λ w. a ∷ w) (two xs b c (omega arith) (omega arith) f g)

-- a list of four is its items
pub four : {A : Type 0} (xs : List A) (a b c d : A) → 4 ≤ length xs → length xs < 5 → a ≡ get_or xs 0 a → b ≡ get_or xs 1 b → c ≡ get_or xs 2 c → d ≡ get_or xs 3 d
    → xs ≡ a ∷ b ∷ c ∷ d ∷ []
four [] a b c d m l e f g h = absurd (omega arith)
four (x ∷ xs) a b c d m l e f g h = ap (λ w. w ∷ xs) (sym e) ∙ ap (λ w. a ∷ w) (three xs b c d (omega arith) (omega arith) f g h)

-- and so are one of five
pub five : {A : Type 0} (xs : List A) (a b c d p : A) → 5 ≤ length xs → length xs < 6 → a ≡ get_or xs 0 a → b ≡ get_or xs 1 b → c ≡ get_or xs 2 c → d ≡ get_or xs 3 d → p ≡ get_or xs 4 p
    → xs ≡ a ∷ b ∷ c ∷ d ∷ p ∷ []
five [] a b c d p m l e f g h i = absurd (omega arith)
five (x ∷ xs) a b c d p m l e f g h i = ap (λ w. w ∷ xs) (sym e) ∙ ap (λ w. a ∷ w) (four xs b c d p (omega arith) (omega arith) f g h i)

six : {A : Type 0} (xs : List A) (a b c d p q : A) → 6 ≤ length xs → length xs < 7 → a ≡ get_or xs 0 a → b ≡ get_or xs 1 b → c ≡ get_or xs 2 c → d ≡ get_or xs 3 d → p ≡ get_or xs 4 p
    → q ≡ get_or xs 5 q → xs ≡ a ∷ b ∷ c ∷ d ∷ p ∷ q ∷ []
six [] a b c d p q m l e f g h i j = absurd (omega arith)
six (x ∷ xs) a b c d p q m l e f g h i j = ap (λ w. w ∷ xs) (sym e) ∙ ap (λ w. a ∷ w) (five xs b c d p q (omega arith) (omega arith) f g h i j)

-- and one of seven
pub seven : {A : Type 0} (xs : List A) (a b c d p q r : A) → 7 ≤ length xs → length xs < 8 → a ≡ get_or xs 0 a → b ≡ get_or xs 1 b → c ≡ get_or xs 2 c → d ≡ get_or xs 3 d → p ≡ get_or xs 4 p
    → q ≡ get_or xs 5 q → r ≡ get_or xs 6 r → xs ≡ a ∷ b ∷ c ∷ d ∷ p ∷ q ∷ r ∷ []
seven [] a b c d p q r m l e f g h i j k = absurd (omega arith)
seven (x ∷ xs) a b c d p q r m l e f g h i j k = ap (λ w. w ∷ xs) (sym e) ∙ ap (λ w. a ∷ w) (six xs b c d p q r (omega arith) (omega arith) f g h i j k)

-- the bytes of one word
pub one_text : (words : List (String Global)) (a : String Global) (s : List ℕ) → words ≡ a ∷ [] → s ≡ string_bytes a → texts words ≡ s ∷ []
one_text words a s is e = ap texts is ∙ ap (λ (l : List ℕ). l ∷ []) (sym e)

-- of two
pub two_texts : (words : List (String Global)) (a b : String Global) (s t : List ℕ) → words ≡ a ∷ b ∷ [] → s ≡ string_bytes a → t ≡ string_bytes b
    → texts words ≡ s ∷ t ∷ []
two_texts words a b s t is e f =
    ap texts is ∙ ap (λ (l : List ℕ). l ∷ string_bytes b ∷ []) (sym e) ∙ ap (λ (l : List ℕ). s ∷ l ∷ []) (sym f)

-- of four
pub four_texts : (words : List (String Global)) (a b c d : String Global) (s t u v : List ℕ) → words ≡ a ∷ b ∷ c ∷ d ∷ [] → s ≡ string_bytes a → t ≡ string_bytes b → u ≡ string_bytes c
    → v ≡ string_bytes d → texts words ≡ s ∷ t ∷ u ∷ v ∷ []
four_texts words a b c d s t u v is e f g h =
    let spelled : texts words ≡ string_bytes a ∷ string_bytes b ∷ string_bytes c ∷ string_bytes d ∷ [] = ap texts is in
    cc

-- of five
pub five_texts : (words : List (String Global)) (a b c d p : String Global) (s t u v w : List ℕ) → words ≡ a ∷ b ∷ c ∷ d ∷ p ∷ [] → s ≡ string_bytes a → t ≡ string_bytes b → u ≡ string_bytes c
    → v ≡ string_bytes d → w ≡ string_bytes p → texts words ≡ s ∷ t ∷ u ∷ v ∷ w ∷ []
five_texts words a b c d p s t u v w is e f g h i =
    let spelled : texts words ≡ string_bytes a ∷ string_bytes b ∷ string_bytes c ∷ string_bytes d ∷ string_bytes p ∷ [] = ap texts is in
    cc

-- of seven
pub seven_texts : (words : List (String Global)) (a b c d p q r : String Global) (s t u v w x y : List ℕ) → words ≡ a ∷ b ∷ c ∷ d ∷ p ∷ q ∷ r ∷ [] → s ≡ string_bytes a → t ≡ string_bytes b
    → u ≡ string_bytes c → v ≡ string_bytes d → w ≡ string_bytes p → x ≡ string_bytes q → y ≡ string_bytes r → texts words ≡ s ∷ t ∷ u ∷ v ∷ w ∷ x ∷ y ∷ []
seven_texts words a b c d p q r s t u v w x y is e f g h i j k =
    let spelled : texts words ≡ string_bytes a ∷ string_bytes b ∷ string_bytes c ∷ string_bytes d ∷ string_bytes p ∷ string_bytes q ∷ string_bytes r ∷ [] = ap texts is in
    cc

-- equal lists of seven have the same sixth item
pub sixth_same : (a b c d p q r s t u v w x y : List ℕ) → a ∷ b ∷ c ∷ d ∷ p ∷ q ∷ r ∷ [] ≡ s ∷ t ∷ u ∷ v ∷ w ∷ x ∷ y ∷ [] → q ≡ x
sixth_same a b c d p q r s t u v w x y e = cc
