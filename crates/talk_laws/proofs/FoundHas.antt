-- What holds of an item that is found, and of tests that fail together.
use Rattle.std.proofs.Common.{◌≡◌, Bool, true, false, ◌||◌, ◌&&◌, List, [], ◌∷◌, Some, refl, sym, ap, subst}
use Rattle.std.specs.Prelude.{unwrap_or}
use Rattle.std.specs.List.{AllByRecursion, list_any, find}
use mathlib.Core.Bool.{true≢false}

-- of two that don't hold the first doesn't
pub no_first : (a b : Bool) → (a || b) ≡ false → a ≡ false
no_first true b h = absurd (true≢false h)
no_first false b h = refl

-- nor does the second
pub no_second : (a b : Bool) → (a || b) ≡ false → b ≡ false
no_second true b h = absurd (true≢false h)
no_second false b h = h

-- of three tests that fail together each fails
pub three : (a b c : Bool) → (a || b || c) ≡ false → (a ≡ false) × (b ≡ false) × (c ≡ false)
three true b c h = absurd (true≢false h)
three false true c h = absurd (true≢false h)
three false false c h = (refl, refl, h)

-- of five the first does
pub first_of_five : (a b c d e : Bool) → (a || b || c || d || e) ≡ false → a ≡ false
first_of_five true b c d e h = absurd (true≢false h)
first_of_five false b c d e h = refl

-- of two that don't both hold one doesn't where the other does
pub no_both : (a b : Bool) → a ≡ true → (a && b) ≡ false → b ≡ false
no_both true b e h = h
no_both false b e h = absurd (true≢false (sym e))

-- where the first of two holds one does
pub holds_left : (a b : Bool) → a ≡ true → (a || b) ≡ true
holds_left true b h = refl
holds_left false b h = absurd (true≢false (sym h))

-- what there is in two options is one
pub some_same : {A : Type 0} (x y : A) → Some x ≡ Some y → x ≡ y
some_same x y h = ap (λ o. unwrap_or o x) h

-- what each item has that passes, the one that is found has
found_at : {X : Type 0} (p : X → Bool) (P : X → Type 0) (x y : X) (xs : List X) (b : Bool) → p x ≡ b → find p (x ∷ xs) ≡ Some y → (p x ≡ true → P x)
    → (find p xs ≡ Some y → P y) → P y
found_at p P x y xs true e h here more =
    let same : Some x ≡ Some y = rw e at h in
    subst P (some_same x y same) (here e)
found_at p P x y xs false e h here more =
    let rest : find p xs ≡ Some y = rw e at h in
    more rest

pub found_has : {X : Type 0} (p : X → Bool) (P : X → Type 0) (xs : List X) (y : X) → find p xs ≡ Some y → AllByRecursion P xs → P y
found_has p P [] y h all = absurd (cc)
found_has p P (x ∷ xs) y h all = found_at p P x y xs (p x) refl h (λ _. all.0) (λ rest. found_has p P xs y rest all.1)

-- what is found passes the test by which it is found
pub passes : {X : Type 0} (p : X → Bool) (xs : List X) (y : X) → find p xs ≡ Some y → p y ≡ true
passes p [] y h = absurd (cc)
passes p (x ∷ xs) y h = found_at p (λ z. p z ≡ true) x y xs (p x) refl h (λ e. e) (passes p xs y)

-- a test that fails for all fails for it
pub clear : {X : Type 0} (p test : X → Bool) (xs : List X) (y : X) → find p xs ≡ Some y → list_any test xs ≡ false → test y ≡ false
clear p test [] y h none = absurd (cc)
clear p test (x ∷ xs) y h none =
    found_at p (λ z. test z ≡ false) x y xs (p x) refl h (λ _. no_first (test x) (list_any test xs) none)
    (λ rest. clear p test xs y rest (no_second (test x) (list_any test xs) none))
