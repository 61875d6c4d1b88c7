-- The places of an array above its height, which all have one value.
use Rattle.std.proofs.Common.{◌≡◌, ℕ, suc, ◌+◌, ◌-◌, ◌<◌, ◌≤◌, List, ◌∷◌, length, drop, slice_set, sym, ap, ◌∙◌, arith}
use Rattle.std.specs.Prelude.{replicate}
use Rattle.std.proofs.lemmas.List.{drop-set-lt, drop-set, drop-drop, drop-replicate}

-- they stay so where one more is taken
pub spare_pushed : {A : Type 0} (height : ℕ) (xs : List A) (x y : A) → drop height xs ≡ replicate (16 - height) x
    → drop (height + 1) (slice_set xs height y) ≡ replicate (16 - (height + 1)) x
spare_pushed height xs x y e =
    let less : 16 - height - 1 ≡ 16 - (height + 1) = omega arith in
    drop-set-lt (height + 1) xs height y (omega arith) ∙ sym (drop-drop 1 height xs) ∙ ap (drop 1) e ∙ drop-replicate 1 (16 - height) x
    ∙ ap (λ (n : ℕ). replicate n x) less

-- and where one is given back
pub spare_popped : {A : Type 0} (height : ℕ) (xs : List A) (x : A) → 0 < height → height ≤ 16 → length xs ≡ 16 → drop height xs ≡ replicate (16 - height) x
    → drop (height - 1) (slice_set xs (height - 1) x) ≡ replicate (16 - (height - 1)) x
spare_popped height xs x some h len e =
    let back : height - 1 + 1 ≡ height = omega arith in
    let more : suc (16 - height) ≡ 16 - (height - 1) = omega arith in
    drop-set xs (height - 1) x (omega arith) ∙ ap (λ (n : ℕ). x ∷ drop n xs) back ∙ ap (λ ys. x ∷ ys) e ∙ ap (λ (n : ℕ). replicate n x) more
