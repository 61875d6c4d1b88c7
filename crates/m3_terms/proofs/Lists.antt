-- What equal lists have in common.
use Rattle.std.specs.Prelude.{◌≡◌, List, [], ◌∷◌, ◌++◌, refl}

-- equal lists begin with the same item
pub heads_same : {A : Type 0} (x y : A) (xs ys : List A) → x ∷ xs ≡ y ∷ ys → x ≡ y
heads_same x y xs ys e = cc

-- and go on the same
pub tails_same : {A : Type 0} (x y : A) (xs ys : List A) → x ∷ xs ≡ y ∷ ys → xs ≡ ys
tails_same x y xs ys e = cc

-- of two lists that begin a common list one begins the other
pub data Fronts {A : Type 0} (a x b y : List A) : Type 0 where
  Shorter : (m : List A) → a ++ m ≡ b → x ≡ m ++ y → Fronts a x b y
  Longer : (m : List A) → b ++ m ≡ a → m ++ x ≡ y → Fronts a x b y

pub fronts : {A : Type 0} (a x b y : List A) → a ++ x ≡ b ++ y → Fronts a x b y
fronts [] x b y h = Shorter b refl h
fronts (a ∷ s) x [] y h = Longer (a ∷ s) refl h
fronts (a ∷ s) x (b ∷ t) y h =
    let same = heads_same a b (s ++ x) (t ++ y) h in
    elim (fronts s x t y (tails_same a b (s ++ x) (t ++ y) h)) [
      | Shorter m p q ↦ Shorter m (cc) q
      | Longer m p q ↦ Longer m (cc) q
    ]
