-- An array whose places above a height all have one value is told by the list below it.
use Rattle.std.specs.Prelude.{◌≡◌, ℕ, ◌-◌, ◌≤◌, List, ◌++◌, length, take, drop, reverse}
use Rattle.std.specs.Prelude.{replicate}
use Rattle.std.proofs.Common.{sym, ap, ◌∙◌, subst}
use Rattle.std.proofs.lemmas.List.{reverse-reverse, length-reverse, length-take-le, take-append-drop}

-- the height is that of the list
pub restored_height : {A : Type 0} (height : ℕ) (xs : List A) → length xs ≡ 16 → height ≤ 16 → length (reverse (take height xs)) ≡ height
restored_height height xs len h =
    length-reverse (take height xs) ∙ length-take-le height xs (let P : ℕ → Type 0 = λ n. height ≤ n in subst P (sym len) h)

-- the array is given back by the list
pub restored : {A : Type 0} (height : ℕ) (xs : List A) (x : A) → length xs ≡ 16 → height ≤ 16 → drop height xs ≡ replicate (16 - height) x
    → reverse (reverse (take height xs)) ++ replicate (16 - length (reverse (take height xs))) x ≡ xs
restored height xs x len h e =
    ap (λ (n : ℕ). reverse (reverse (take height xs)) ++ replicate (16 - n) x) (restored_height height xs len h)
    ∙ ap (λ ys. ys ++ replicate (16 - height) x) (reverse-reverse (take height xs)) ∙ ap (λ ys. take height xs ++ ys) (sym e)
    ∙ take-append-drop height xs
