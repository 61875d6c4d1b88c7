-- Lists that are related place by place.
use Rattle.std.proofs.Common.{◌≡◌, ◌∙◌, ℕ, zero, suc, ◌+◌, ◌<◌, List, [], ◌∷◌, ◌++◌, length, drop, get_or, set, refl, sym, ap, subst, arith}
use Rattle.std.specs.List.{AllZip}
use Rattle.delta_eval.specs.Changed.{AllInThrees}

-- no list with an item is empty
not_nil : {X : Type 0} (x : X) (xs : List X) → x ∷ xs ≡ [] → ⊥
not_nil x xs e = let l = ap length e in omega (arith, l)

module _ {X Y : Type 0} where
  -- related lists are as long
  pub zip_long : (R : X → Y → Type 0) (xs : List X) (ys : List Y) → AllZip R xs ys → length xs ≡ length ys
  zip_long R [] [] h = refl
  zip_long R [] (y ∷ ys) h = absurd h
  zip_long R (x ∷ xs) [] h = absurd h
  zip_long R (x ∷ xs) (y ∷ ys) h = ap suc (zip_long R xs ys h.1)

  pub zip_weaker : (R Q : X → Y → Type 0) → ((x : X) (y : Y) → R x y → Q x y) → (xs : List X) (ys : List Y) → AllZip R xs ys → AllZip Q xs ys
  zip_weaker R Q f [] [] h = tt
  zip_weaker R Q f [] (y ∷ ys) h = absurd h
  zip_weaker R Q f (x ∷ xs) [] h = absurd h
  zip_weaker R Q f (x ∷ xs) (y ∷ ys) h = (f x y h.0, zip_weaker R Q f xs ys h.1)

  -- what is related to nothing is nothing
  pub zip_none : (R : X → Y → Type 0) (xs : List X) (ys : List Y) → AllZip R xs ys → xs ≡ [] → ys ≡ []
  zip_none R [] [] h e = refl
  zip_none R [] (y ∷ ys) h e = absurd h
  zip_none R (x ∷ xs) ys h e = absurd (not_nil x xs e)

  pub zip_empty : (R : X → Y → Type 0) (xs : List X) (ys : List Y) → AllZip R xs ys → ys ≡ [] → xs ≡ []
  zip_empty R [] ys h e = refl
  zip_empty R (x ∷ xs) [] h e = absurd h
  zip_empty R (x ∷ xs) (y ∷ ys) h e = absurd (not_nil y ys e)

-- what each item has to itself
pub zip_itself : {X : Type 0} (R : X → X → Type 0) → ((x : X) → R x x) → (xs : List X) → AllZip R xs xs
zip_itself R f [] = tt
zip_itself R f (x ∷ xs) = (f x, zip_itself R f xs)

-- two relations in a row
pub zip_through : {X Y Z : Type 0} (R : X → Y → Type 0) (Q : Y → Z → Type 0) (S : X → Z → Type 0) → ((x : X) (y : Y) (z : Z) → R x y → Q y z → S x z)
    → (xs : List X) (ys : List Y) (zs : List Z) → AllZip R xs ys → AllZip Q ys zs → AllZip S xs zs
zip_through R Q S f [] [] [] h k = tt
zip_through R Q S f [] [] (z ∷ zs) h k = absurd k
zip_through R Q S f [] (y ∷ ys) zs h k = absurd h
zip_through R Q S f (x ∷ xs) [] zs h k = absurd h
zip_through R Q S f (x ∷ xs) (y ∷ ys) [] h k = absurd k
zip_through R Q S f (x ∷ xs) (y ∷ ys) (z ∷ zs) h k = (f x y z h.0 k.0, zip_through R Q S f xs ys zs h.1 k.1)

-- the same, where the middle list stands first in both
pub zip_across : {X Y Z : Type 0} (R : X → Y → Type 0) (Q : X → Z → Type 0) (S : Z → Y → Type 0) → ((x : X) (y : Y) (z : Z) → R x y → Q x z → S z y)
    → (xs : List X) (ys : List Y) (zs : List Z) → AllZip R xs ys → AllZip Q xs zs → AllZip S zs ys
zip_across R Q S f [] [] [] h k = tt
zip_across R Q S f [] [] (z ∷ zs) h k = absurd k
zip_across R Q S f [] (y ∷ ys) zs h k = absurd h
zip_across R Q S f (x ∷ xs) [] zs h k = absurd h
zip_across R Q S f (x ∷ xs) (y ∷ ys) [] h k = absurd k
zip_across R Q S f (x ∷ xs) (y ∷ ys) (z ∷ zs) h k = (f x y z h.0 k.0, zip_across R Q S f xs ys zs h.1 k.1)

module _ {X Y Z : Type 0} where
  pub threes_zip : (R : X → Y → Z → Type 0) (Q : X → Y → Type 0) → ((x : X) (y : Y) (z : Z) → R x y z → Q x y)
      → (xs : List X) (ys : List Y) (zs : List Z) → AllInThrees R xs ys zs → AllZip Q xs ys
  threes_zip R Q f [] [] zs h = tt
  threes_zip R Q f [] (y ∷ ys) zs h = absurd (not_nil y ys h.0)
  threes_zip R Q f (x ∷ xs) [] zs h = absurd h
  threes_zip R Q f (x ∷ xs) (y ∷ ys) [] h = absurd h
  threes_zip R Q f (x ∷ xs) (y ∷ ys) (z ∷ zs) h = (f x y z h.0, threes_zip R Q f xs ys zs h.1)

  -- the last places
  pub threes_push : (R : X → Y → Z → Type 0) (xs : List X) (ys : List Y) (zs : List Z) (x : X) (y : Y) (z : Z) → AllInThrees R xs ys zs → R x y z
      → AllInThrees R (xs ++ x ∷ []) (ys ++ y ∷ []) (zs ++ z ∷ [])
  threes_push R [] [] [] x y z h r = (r, (refl, refl))
  threes_push R [] [] (c ∷ zs) x y z h r = absurd (not_nil c zs h.1)
  threes_push R [] (b ∷ ys) zs x y z h r = absurd (not_nil b ys h.0)
  threes_push R (a ∷ xs) [] zs x y z h r = absurd h
  threes_push R (a ∷ xs) (b ∷ ys) [] x y z h r = absurd h
  threes_push R (a ∷ xs) (b ∷ ys) (c ∷ zs) x y z h r = (h.0, threes_push R xs ys zs x y z h.1 r)

  -- what holds of the third list of one relation holds of that of another
  module _ {P V : Type 0} (R : X → Y → Z → Type 0) (Q : X → Y → V → Type 0) (S : P → Z → Type 0) (T : P → V → Type 0)
      (f : (x : X) (y : Y) (z : Z) (v : V) (p : P) → R x y z → Q x y v → S p z → T p v) where
    pub threes_carry : (xs : List X) (ys : List Y) (zs : List Z) (vs : List V) (ps : List P)
        → AllInThrees R xs ys zs → AllInThrees Q xs ys vs → AllZip S ps zs → AllZip T ps vs
    threes_carry [] ys zs vs [] h k s = subst (AllZip T []) (sym k.1) tt
    threes_carry [] ys zs vs (p ∷ ps) h k s = absurd (subst (AllZip S (p ∷ ps)) h.1 s)
    threes_carry (x ∷ xs) [] zs vs ps h k s = absurd h
    threes_carry (x ∷ xs) (y ∷ ys) [] vs ps h k s = absurd h
    threes_carry (x ∷ xs) (y ∷ ys) (z ∷ zs) [] ps h k s = absurd k
    threes_carry (x ∷ xs) (y ∷ ys) (z ∷ zs) (v ∷ vs) [] h k s = absurd s
    threes_carry (x ∷ xs) (y ∷ ys) (z ∷ zs) (v ∷ vs) (p ∷ ps) h k s = (f x y z v p h.0 k.0 s.0, threes_carry xs ys zs vs ps h.1 k.1 s.1)

  -- another first list that is related to the first one
  pub threes_before : {V : Type 0} (S : V → X → Type 0) (R : X → Y → Z → Type 0) (Q : V → Y → Z → Type 0) → ((v : V) (x : X) (y : Y) (z : Z) → S v x → R x y z → Q v y z)
      → (vs : List V) (xs : List X) (ys : List Y) (zs : List Z) → AllZip S vs xs → AllInThrees R xs ys zs → AllInThrees Q vs ys zs
  threes_before S R Q f [] [] ys zs s h = h
  threes_before S R Q f [] (x ∷ xs) ys zs s h = absurd s
  threes_before S R Q f (v ∷ vs) [] ys zs s h = absurd s
  threes_before S R Q f (v ∷ vs) (x ∷ xs) [] zs s h = absurd h
  threes_before S R Q f (v ∷ vs) (x ∷ xs) (y ∷ ys) [] s h = absurd h
  threes_before S R Q f (v ∷ vs) (x ∷ xs) (y ∷ ys) (z ∷ zs) s h = (f v x y z s.0 h.0, threes_before S R Q f vs xs ys zs s.1 h.1)

  -- where there is nothing in the one, there is nothing in the other
  pub threes_none : {V : Type 0} (R : X → Y → Z → Type 0) (Q : X → Y → V → Type 0) (xs : List X) (ys : List Y) (zs : List Z) (vs : List V)
      → AllInThrees R xs ys zs → AllInThrees Q xs ys vs → zs ≡ [] → vs ≡ []
  threes_none R Q [] ys zs vs h k e = k.1
  threes_none R Q (x ∷ xs) [] zs vs h k e = absurd h
  threes_none R Q (x ∷ xs) (y ∷ ys) [] vs h k e = absurd h
  threes_none R Q (x ∷ xs) (y ∷ ys) (z ∷ zs) vs h k e = absurd (not_nil z zs e)

-- an item is changed, and what related it to another relates the new one
pub zip_set : {X Y : Type 0} (R : X → Y → Type 0) (xs : List X) (ys : List Y) (at : ℕ) (y new : Y) → y ≡ get_or ys at y → ((x : X) → R x y → R x new)
    → AllZip R xs ys → AllZip R xs (set ys at new)
zip_set R [] [] at y new is f h = tt
zip_set R [] (b ∷ ys) at y new is f h = absurd h
zip_set R (a ∷ xs) [] at y new is f h = absurd h
zip_set R (a ∷ xs) (b ∷ ys) zero y new is f h = (f a (subst (R a) (sym is) h.0), h.1)
zip_set R (a ∷ xs) (b ∷ ys) (suc at) y new is f h = (h.0, zip_set R xs ys at y new is f h.1)

-- two relations of the same lists are one
pub zip_and : {X Y : Type 0} (R Q : X → Y → Type 0) (xs : List X) (ys : List Y) → AllZip R xs ys → AllZip Q xs ys → AllZip (λ x y. R x y × Q x y) xs ys
zip_and R Q [] [] h k = tt
zip_and R Q [] (y ∷ ys) h k = absurd h
zip_and R Q (x ∷ xs) [] h k = absurd h
zip_and R Q (x ∷ xs) (y ∷ ys) h k = ((h.0, k.0), zip_and R Q xs ys h.1 k.1)

-- a list that is related to one with a last item has a last item
pub record HasLast {X Y : Type 0} (R : X → Y → Type 0) (xs : List X) (ys : List Y) (y : Y) : Type 0 where
  pub before : List X
  pub last : X
  pub is : xs ≡ before ++ last ∷ []
  pub each : AllZip R before ys
  pub related : R last y

pub zip_last : {X Y : Type 0} (R : X → Y → Type 0) (xs : List X) (ys : List Y) (y : Y) → AllZip R xs (ys ++ y ∷ []) → HasLast R xs ys y
zip_last R [] [] y h = absurd h
zip_last R [] (b ∷ ys) y h = absurd h
zip_last R (x ∷ []) [] y h = record { before = []; last = x; is = refl; each = tt; related = h.0 }
zip_last R (x ∷ a ∷ xs) [] y h = absurd h.1
zip_last R (x ∷ xs) (b ∷ ys) y h =
    let p = zip_last R xs ys y h.1 in
    record { before = x ∷ p.before; last = p.last; is = ap (λ l. x ∷ l) p.is; each = (h.0, p.each); related = p.related }

module _ {X : Type 0} where
  -- the item between two lists
  pub get_between : (low : List X) (x : X) (high : List X) (n : ℕ) (d : X) → n ≡ length low → get_or (low ++ x ∷ high) n d ≡ x
  get_between [] x high zero d e = refl
  get_between [] x high (suc n) d e = absurd (omega (arith, e))
  get_between (a ∷ low) x high zero d e = absurd (omega (arith, e))
  get_between (a ∷ low) x high (suc n) d e = get_between low x high n d (omega (arith, e))

  pub set_between : (low : List X) (x : X) (high : List X) (n : ℕ) (new : X) → n ≡ length low → set (low ++ x ∷ high) n new ≡ low ++ new ∷ high
  set_between [] x high zero new e = refl
  set_between [] x high (suc n) new e = absurd (omega (arith, e))
  set_between (a ∷ low) x high zero new e = absurd (omega (arith, e))
  set_between (a ∷ low) x high (suc n) new e = ap (λ l. a ∷ l) (set_between low x high n new (omega (arith, e)))

  -- a list of length 0 has nothing
  pub nothing : (xs : List X) → length xs ≡ 0 → xs ≡ []
  nothing [] e = refl
  nothing (x ∷ xs) e = absurd (omega (arith, e))

  -- the items behind one that is changed
  drop_set : (xs : List X) (n : ℕ) (new : X) → drop (suc n) (set xs n new) ≡ drop (suc n) xs
  drop_set [] n new = refl
  drop_set (x ∷ xs) zero new = refl
  drop_set (x ∷ xs) (suc n) new = drop_set xs n new

  drop_more : (xs : List X) (n : ℕ) → drop (suc n) xs ≡ drop 1 (drop n xs)
  drop_more [] zero = refl
  drop_more [] (suc n) = refl
  drop_more (x ∷ xs) zero = refl
  drop_more (x ∷ xs) (suc n) = drop_more xs n

  -- a list that is another from some item on still is from the next one on, where that item is changed
  pub rest_set : (xs ys : List X) (n : ℕ) (new : X) → drop n xs ≡ drop n ys → drop (n + 1) (set xs n new) ≡ drop (n + 1) ys
  rest_set xs ys n new e =
      let next : n + 1 ≡ suc n = omega arith in
      ap (λ m. drop m (set xs n new)) next ∙ drop_set xs n new ∙ drop_more xs n ∙ ap (drop 1) e ∙ sym (drop_more ys n) ∙ sym (ap (λ m. drop m ys) next)

  get_first : (xs : List X) (n : ℕ) (d : X) → get_or xs n d ≡ get_or (drop n xs) 0 d
  get_first [] zero d = refl
  get_first [] (suc n) d = refl
  get_first (x ∷ xs) zero d = refl
  get_first (x ∷ xs) (suc n) d = get_first xs n d

  -- and has the same item there
  pub rest_get : (xs ys : List X) (n : ℕ) (d : X) → drop n xs ≡ drop n ys → get_or xs n d ≡ get_or ys n d
  rest_get xs ys n d e = get_first xs n d ∙ ap (λ l. get_or l 0 d) e ∙ sym (get_first ys n d)

-- the items in one place are related
pub zip_at : {X Y : Type 0} (R : X → Y → Type 0) (xs : List X) (ys : List Y) (n : ℕ) (x : X) (y : Y) → n < length ys → x ≡ get_or xs n x → y ≡ get_or ys n y → AllZip R xs ys → R x y
zip_at R [] [] n x y within e f h = absurd (omega (arith, within))
zip_at R [] (b ∷ ys) n x y within e f h = absurd h
zip_at R (a ∷ xs) [] n x y within e f h = absurd h
zip_at R (a ∷ xs) (b ∷ ys) zero x y within e f h = subst (λ p. R p y) (sym e) (subst (R a) (sym f) h.0)
zip_at R (a ∷ xs) (b ∷ ys) (suc n) x y within e f h = zip_at R xs ys n x y (omega (arith, within)) e f h.1
