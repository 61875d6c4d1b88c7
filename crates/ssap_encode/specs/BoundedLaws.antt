-- Pieces that are taken as long as they fit: what two of them take together, and when they no longer fit.
use Rattle.std.proofs.Common.{◌≡◌, ◌∙◌, refl, sym, ap, ℕ, ◌+◌, ◌<◌, List, [], ◌++◌, length, Bool, true, false, append_assoc, append-nil, length-append, arith}

-- no bytes
abbrev none : List ℕ
none = []

pub puts_nothing : (items : List ℕ) (left : ℕ) (full : Bool) → (items ≡ items ++ none) × (left ≡ left + length none) × (full ≡ full)
puts_nothing items left full = (sym (append-nil items), Prim.omega arith, refl)

pub puts_further : (a b c : List ℕ) (i j k : ℕ) (f g h : Bool) (xs ys : List ℕ)
    → ((b ≡ a ++ xs) × (i ≡ j + length xs) × (g ≡ f)) → ((c ≡ b ++ ys) × (j ≡ k + length ys) × (h ≡ g))
    → (c ≡ a ++ (xs ++ ys)) × (i ≡ k + length (xs ++ ys)) × (h ≡ f)
puts_further a b c i j k f g h xs ys p q = (
  q.0 ∙ ap (λ l. l ++ ys) p.0 ∙ append_assoc a xs ys,
  Prim.omega (arith, p.1, q.1, length-append xs ys),
  q.2 ∙ p.2,
)

pub refused_behind : (i j : ℕ) (f g h : Bool) (xs ys : List ℕ) → i ≡ j + length xs → g ≡ f → (g ≡ false → h ≡ true → j < length ys)
    → f ≡ false → h ≡ true → i < length (xs ++ ys)
refused_behind i j f g h xs ys taken same refused before after = let less = refused (same ∙ before) after in Prim.omega (arith, less, taken, length-append xs ys)

pub refused_before : (i : ℕ) (f h : Bool) (xs ys : List ℕ) → (f ≡ false → h ≡ true → i < length xs)
    → f ≡ false → h ≡ true → i < length (xs ++ ys)
refused_before i f h xs ys refused before after = let less = refused before after in Prim.omega (arith, less, length-append xs ys)
