-- Whether bytes begin with a word of some set, or some word begins with them, or neither.
use Rattle.std.proofs.Common.{◌≡◌, ◌⊎◌, inl, inr, ℕ, zero, suc, ◌<◌, List, [], ◌∷◌, ◌++◌, length, refl, sym, ◌∙◌, ap, subst, arith}
use Rattle.std.specs.Prelude.{◌≢◌}
use Rattle.std.proofs.lemmas.Bool.{cases_lt}
use Rattle.std.proofs.lemmas.List.{append-nil}
use Rattle.m3_terms.proofs.Lists.{heads_same, tails_same}

-- the bytes begin with a word, or are the front of one and not the whole of it, or go on to none
pub data Start (W : List ℕ → Type 0) (bytes : List ℕ) : Type 0 where
  Found : (word rest : List ℕ) → W word → bytes ≡ word ++ rest → Start W bytes
  Half : (more : List ℕ) → 0 < length more → W (bytes ++ more) → Start W bytes
  Stuck : ((word more rest : List ℕ) → W word → ¬ (bytes ++ more ≡ word ++ rest)) → Start W bytes

-- the same of words that are the same
pub start_map : (V W : List ℕ → Type 0) (bytes : List ℕ) → ((word : List ℕ) → V word → W word) → ((word : List ℕ) → W word → V word)
    → Start V bytes → Start W bytes
start_map V W bytes to from (Found word rest x is) = Found word rest (to word x) is
start_map V W bytes to from (Half more some x) = Half more some (to (bytes ++ more) x)
start_map V W bytes to from (Stuck none) = Stuck (λ word more rest x. none word more rest (from word x))

-- no word
pub start_never : (W : List ℕ → Type 0) (bytes : List ℕ) → ((word : List ℕ) → ¬ (W word)) → Start W bytes
start_never W bytes none = Stuck (λ word more rest x is. none word x)

-- words of either set
pub start_either : (V W : List ℕ → Type 0) (bytes : List ℕ) → Start V bytes → Start W bytes → Start (λ word. V word ⊎ W word) bytes
start_either V W bytes (Found word rest x is) s = Found word rest (inl x) is
start_either V W bytes (Half more some x) (Found word rest y is) = Found word rest (inr y) is
start_either V W bytes (Half more some x) (Half others any y) = Half more some (inl x)
start_either V W bytes (Half more some x) (Stuck none) = Half more some (inl x)
start_either V W bytes (Stuck none) (Found word rest y is) = Found word rest (inr y) is
start_either V W bytes (Stuck none) (Half more some y) = Half more some (inr y)
start_either V W bytes (Stuck none) (Stuck never) =
    Stuck (λ word more rest x. elim x [ inl v ↦ none word more rest v | inr w ↦ never word more rest w ])

-- two numbers are one or not
pub number_same : (x y : ℕ) → (x ≡ y) ⊎ (x ≢ y)
number_same x y = elim (cases_lt x y) [
  | inl less ↦ inr (λ e. omega arith)
  | inr more ↦ elim (cases_lt y x) [
    | inl less ↦ inr (λ e. omega arith)
    | inr same ↦ inl (omega arith)
  ]
]

-- one word
pub start_word : (word bytes : List ℕ) → Start (λ other. other ≡ word) bytes
start_word [] bytes = Found [] bytes refl refl
start_word (x ∷ word) [] = Half (x ∷ word) (omega arith) refl
start_word (x ∷ word) (y ∷ bytes) = elim (number_same y x) [
  | inl same ↦ go same (start_word word bytes)
  | inr other ↦ Stuck (λ w more rest e is. other (heads_same y x (bytes ++ more) (word ++ rest) (is ∙ ap (λ l. l ++ rest) e)))
]
  where
    go : y ≡ x → Start (λ other. other ≡ word) bytes → Start (λ other. other ≡ x ∷ word) (y ∷ bytes)
    go same (Found w rest e is) =
        let all : bytes ≡ word ++ rest = is ∙ ap (λ l. l ++ rest) e in
        Found (x ∷ word) rest refl (cc)
    go same (Half more some e) = Half more some (cc)
    go same (Stuck none) =
        Stuck (λ w more rest e is. none word more rest refl (tails_same y x (bytes ++ more) (word ++ rest) (is ∙ ap (λ l. l ++ rest) e)))

-- the words of each number below another
pub start_below : (W : ℕ → List ℕ → Type 0) (bytes : List ℕ) → ((c : ℕ) → Start (W c) bytes) → (n : ℕ)
    → Start (λ word. (c : ℕ) × (c < n) × W c word) bytes
start_below W bytes each zero = start_never _ bytes (λ word x. let low = x.1 in omega (arith, low))
start_below W bytes each (suc n) =
    start_map _ _ bytes to from (start_either (W n) (λ word. (c : ℕ) × (c < n) × W c word) bytes (each n) (start_below W bytes each n))
  where
    to : (word : List ℕ) → W n word ⊎ ((c : ℕ) × (c < n) × W c word) → (c : ℕ) × (c < suc n) × W c word
    to word (inl x) = (n, omega arith, x)
    to word (inr x) = let low = x.1 in (x.0, omega (arith, low), x.2)

    from : (word : List ℕ) → ((c : ℕ) × (c < suc n) × W c word) → W n word ⊎ ((c : ℕ) × (c < n) × W c word)
    from word x = elim (cases_lt x.0 n) [
      | inl less ↦ inr (x.0, less, x.2)
      | inr most ↦
          let low = x.1 in
          let same : x.0 ≡ n = omega (arith, low) in
          inl (subst (λ c. W c word) same x.2)
    ]

-- some bytes, and then a word
pub start_then : (front : List ℕ) (W : List ℕ → Type 0) → ((bytes : List ℕ) → Start W bytes) → (bytes : List ℕ)
    → Start (λ word. (back : List ℕ) × W back × (word ≡ front ++ back)) bytes
start_then [] W each bytes = start_map W _ bytes (λ word x. (word, x, refl)) (λ word x. subst W (sym x.2) x.1) (each bytes)
start_then (x ∷ front) W each [] = elim (each []) [
  | Found back rest w is ↦ Half (x ∷ (front ++ back)) (omega arith) (back, w, refl)
  | Half back some w ↦ Half (x ∷ (front ++ back)) (omega arith) (back, w, refl)
  | Stuck none ↦ start_never _ [] (λ word y. none y.0 y.0 [] y.1 (sym (append-nil y.0)))
]
start_then (x ∷ front) W each (y ∷ bytes) = elim (number_same y x) [
  | inl same ↦ go same (start_then front W each bytes)
  | inr other ↦ Stuck (λ word more rest w is. other (heads_same y x (bytes ++ more) ((front ++ w.0) ++ rest) (is ∙ ap (λ l. l ++ rest) w.2)))
]
  where
    go : y ≡ x → Start (λ word. (back : List ℕ) × W back × (word ≡ front ++ back)) bytes
        → Start (λ word. (back : List ℕ) × W back × (word ≡ x ∷ (front ++ back))) (y ∷ bytes)
    go same (Found word rest w is) =
        let all : bytes ≡ (front ++ w.0) ++ rest = is ∙ ap (λ l. l ++ rest) w.2 in
        Found (x ∷ (front ++ w.0)) rest (w.0, w.1, refl) (cc)
    go same (Half more some w) = let all = w.2 in Half more some (w.0, w.1, (cc))
    go same (Stuck none) = Stuck (λ word more rest w is.
        none (front ++ w.0) more rest (w.0, w.1, refl) (tails_same y x (bytes ++ more) ((front ++ w.0) ++ rest) (is ∙ ap (λ l. l ++ rest) w.2)))
