-- Distinct items that a function takes to distinct ones.
use Rattle.std.proofs.Common.{◌≡◌, Bool, true, false, List, [], ◌∷◌, filter_map, Option, Some, None, refl, sym, ap, ◌∙◌}
use Rattle.std.specs.Bool.{Decides}
use Rattle.std.specs.List.{AllByRecursion, IsDistinct, cons_option}
use mathlib.Core.Bool.{true≢false}

-- two values that are one only where two items are one differ where the items do
apart_at : {A B : Type 0} (x y : A) (b c : B) (e f : Bool) → Decides e (x ≡ y) → Decides f (b ≡ c) → (b ≡ c → x ≡ y) → e ≡ false → f ≡ false
apart_at x y b c e false items values one apart = refl
apart_at x y b c e true items values one apart = absurd (true≢false (sym (items.1 (one (values.0 refl))) ∙ apart))

module _ {A B : Type 0} (EA : A → A → Bool) (EB : B → B → Bool) (P : A → Type 0) (f : A → Option B)
    (items : (x y : A) → Decides (EA x y) (x ≡ y)) (values : (b c : B) → Decides (EB b c) (b ≡ c))
    (one : (x y : A) (b : B) → P x → P y → f x ≡ Some b → f y ≡ Some b → x ≡ y) where
  -- the value of one more item differs from a value, or there is none
  others_at : (x y : A) (b : B) (found : Option B) (cs : List B) → P x → P y → f x ≡ Some b → f y ≡ found → EA x y ≡ false
      → AllByRecursion (λ c. EB b c ≡ false) cs → AllByRecursion (λ c. EB b c ≡ false) (cons_option found cs)
  others_at x y b None cs p q e h apart all = all
  others_at x y b (Some c) cs p q e h apart all =
      (apart_at x y b c (EA x y) (EB b c) (items x y) (values b c) (λ same. one x y b p q e (h ∙ ap Some (sym same))) apart, all)

  -- the values of other items differ from that of an item
  others : (x : A) (b : B) (ys : List A) → P x → AllByRecursion P ys → f x ≡ Some b → AllByRecursion (λ y. EA x y ≡ false) ys
      → AllByRecursion (λ c. EB b c ≡ false) (filter_map f ys)
  others x b [] p all e apart = tt
  others x b (y ∷ ys) p all e apart = others_at x y b (f y) (filter_map f ys) p all.0 e refl apart.0 (others x b ys p all.1 e apart.1)

  -- one more item
  distinct_at : (x : A) (xs : List A) (found : Option B) → f x ≡ found → P x → AllByRecursion P xs → AllByRecursion (λ y. EA x y ≡ false) xs
      → IsDistinct EB (filter_map f xs) → IsDistinct EB (cons_option found (filter_map f xs))
  unfolding IsDistinct
  distinct_at x xs None e p all apart rest = rest
  distinct_at x xs (Some b) e p all apart rest = (others x b xs p all e apart, rest)

  -- where no two items have one value, the values of distinct items are distinct
  pub distinct_values : (xs : List A) → AllByRecursion P xs → IsDistinct EA xs → IsDistinct EB (filter_map f xs)
  unfolding IsDistinct
  distinct_values [] all distinct = tt
  distinct_values (x ∷ xs) all distinct = distinct_at x xs (f x) refl all.0 all.1 distinct.0 (distinct_values xs all.1 distinct.1)
