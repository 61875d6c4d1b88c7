-- Lists that are related item by item.
use Rattle.std.proofs.Common.{◌≡◌, ◌<◌, ◌+◌, ℕ, zero, suc, List, [], ◌∷◌, ◌++◌, length, get_or, take, subst, sym, arith}
use Rattle.std.proofs.lemmas.List.{take_more}
use Rattle.std.specs.List.{AllByRecursion, AllZip, Any}

module _ {A B : Type 0} (R : A → B → Type 0) where
  -- one more item on each side
  pub zip_push : (xs : List A) (ys : List B) (x : A) (y : B) → AllZip R xs ys → R x y → AllZip R (xs ++ x ∷ []) (ys ++ y ∷ [])
  zip_push [] [] x y h r = (r, tt)
  zip_push [] (b ∷ ys) x y h r = absurd h
  zip_push (a ∷ xs) [] x y h r = absurd h
  zip_push (a ∷ xs) (b ∷ ys) x y h r = (h.0, zip_push xs ys x y h.1 r)

  -- a loop's step
  pub zip_more : (xs : List A) (ys : List B) (i : ℕ) (x : A) (y : B) → i < length xs → x ≡ get_or xs i x → AllZip R (take i xs) ys → R x y
      → AllZip R (take (i + 1) xs) (ys ++ y ∷ [])
  zip_more xs ys i x y within is h r =
      subst (λ l. AllZip R l (ys ++ y ∷ [])) (sym (take_more xs i x within))
      (subst (λ z. AllZip R (take i xs ++ z ∷ []) (ys ++ y ∷ [])) is (zip_push (take i xs) ys x y h r))

  -- each item of the first list is related to one
  pub zip_at : (xs : List A) (ys : List B) (k : ℕ) (x : A) → AllZip R xs ys → k < length xs → get_or xs k x ≡ x → (y : B) × R x y
  zip_at [] ys k x h within is = absurd (omega (arith, within))
  zip_at (a ∷ xs) [] k x h within is = absurd h
  zip_at (a ∷ xs) (b ∷ ys) zero x h within is = (b, subst (λ z. R z b) is h.0)
  zip_at (a ∷ xs) (b ∷ ys) (suc k) x h within is = zip_at xs ys k x h.1 (omega (arith, within)) is

  -- where an item has none, the lists are not related
  pub zip_none : (No : A → Type 0) → ((x : A) (y : B) → No x → ¬ (R x y)) → (xs : List A) (ys : List B) → Any No xs → ¬ (AllZip R xs ys)
  zip_none No none xs ys any h =
      let found = zip_at xs ys any.0 any.1 h any.2 any.3 in
      none any.1 found.0 any.4 found.1

  -- where an item has at most one, a list has
  pub zip_once : ((x : A) (y z : B) → R x y → R x z → y ≡ z) → (xs : List A) (ys zs : List B) → AllZip R xs ys → AllZip R xs zs → ys ≡ zs
  zip_once once [] [] [] g h = λ i. []
  zip_once once [] [] (c ∷ zs) g h = absurd h
  zip_once once [] (b ∷ ys) zs g h = absurd g
  zip_once once (a ∷ xs) [] zs g h = absurd g
  zip_once once (a ∷ xs) (b ∷ ys) [] g h = absurd h
  zip_once once (a ∷ xs) (b ∷ ys) (c ∷ zs) g h = λ i. once a b c g.0 h.0 i ∷ zip_once once xs ys zs g.1 h.1 i

  -- what follows for each item of the second list holds of them all
  pub zip_all : (P : B → Type 0) → ((x : A) (y : B) → R x y → P y) → (xs : List A) (ys : List B) → AllZip R xs ys → AllByRecursion P ys
  zip_all P gives [] [] h = tt
  zip_all P gives [] (b ∷ ys) h = absurd h
  zip_all P gives (a ∷ xs) [] h = absurd h
  zip_all P gives (a ∷ xs) (b ∷ ys) h = (gives a b h.0, zip_all P gives xs ys h.1)

module _ {A : Type 0} (P : A → Type 0) where
  all_push : (xs : List A) (x : A) → AllByRecursion P xs → P x → AllByRecursion P (xs ++ x ∷ [])
  all_push [] x h p = (p, tt)
  all_push (a ∷ xs) x h p = (h.0, all_push xs x h.1 p)

  -- a loop's step
  pub all_more : (xs : List A) (i : ℕ) (x : A) → i < length xs → x ≡ get_or xs i x → AllByRecursion P (take i xs) → P x → AllByRecursion P (take (i + 1) xs)
  all_more xs i x within is h p =
      subst (AllByRecursion P) (sym (take_more xs i x within)) (subst (λ z. AllByRecursion P (take i xs ++ z ∷ [])) is (all_push (take i xs) x h p))
