-- The bytes of characters in UTF-8, from their numbers and back.
use Rattle.std.proofs.Common.{◌≡◌, ◌≢◌, ◌⊎◌, inl, inr, ℕ, ◌+◌, ◌-◌, ◌*◌, ◌/◌, ◌%◌, ◌<◌, ◌≤◌, Bool, true, false, List, [], ◌∷◌, ◌++◌, length, take, get_or, refl, sym, ap, ◌∙◌, subst, arith}
use Rattle.std.specs.Char.{encode_utf8}
use Rattle.std.proofs.lemmas.Bool.Decides.{eqb_tells}
use Rattle.std.proofs.lemmas.Bool.{le-ltb, lt-ltb}
use Rattle.std.proofs.lemmas.Str.{encode_ascii}
use Rattle.m3_terms.proofs.Lists.{heads_same, tails_same}
use Rattle.m3_terms.specs.Text.{IsAllowed}
use Rattle.ssap_machine.specs.CharacterFronts.{IsBegun, IsWholeCharacter, IsNoCharacter, IsSecondOfThree, IsThirdOfThree, IsSecondOfFour, IsLater}

-- which characters are allowed
pub allowed_low : (c : ℕ) → 0x20 ≤ c → c ≤ 0xD7FF → IsAllowed c
allowed_low c h k = grind arith

pub allowed_middle : (c : ℕ) → 0xE000 ≤ c → c ≤ 0xFFFD → IsAllowed c
allowed_middle c h k = grind arith

pub allowed_high : (c : ℕ) → 0x10000 ≤ c → c ≤ 0x10FFFF → IsAllowed c
allowed_high c h k = grind arith

pub allowed_ranges : (c : ℕ) → IsAllowed c → (c ≤ 0xD7FF) ⊎ ((0xE000 ≤ c) × (c ≤ 0xFFFD)) ⊎ ((0x10000 ≤ c) × (c ≤ 0x10FFFF))
allowed_ranges c h = grind arith

encode_two : (c : ℕ) → 0x80 ≤ c → c < 0x800 → encode_utf8 c ≡ (192 + c / 64) ∷ (128 + c % 64) ∷ []
unfolding encode_utf8
encode_two c h k = rw (le-ltb c 0x80 h, lt-ltb c 0x800 k) refl

encode_three : (c : ℕ) → 0x800 ≤ c → c < 0x10000 → encode_utf8 c ≡ (224 + c / 4096) ∷ (128 + (c / 64) % 64) ∷ (128 + c % 64) ∷ []
unfolding encode_utf8
encode_three c h k = let low : 0x80 ≤ c = omega arith in rw (le-ltb c 0x80 low, le-ltb c 0x800 h, lt-ltb c 0x10000 k) refl

encode_four : (c : ℕ) → 0x10000 ≤ c → encode_utf8 c ≡ (240 + c / 262144) ∷ (128 + (c / 4096) % 64) ∷ (128 + (c / 64) % 64) ∷ (128 + c % 64) ∷ []
unfolding encode_utf8
encode_four c h = let low : 0x80 ≤ c = omega arith in let middle : 0x800 ≤ c = omega arith in
    rw (le-ltb c 0x80 low, le-ltb c 0x800 middle, le-ltb c 0x10000 h) refl

-- a character of these bytes
record Spells (c : ℕ) (bytes : List ℕ) : Type 0 where
  is : encode_utf8 c ≡ bytes
  high : 128 ≤ c
  allowed : IsAllowed c

spells_two : (c x y : ℕ) → 0xC2 ≤ x → x ≤ 0xDF → IsLater y → c ≡ (x - 192) * 64 + (y - 128) → Spells c (x ∷ y ∷ [])
spells_two c x y h k l e =
    let p : 192 + c / 64 ≡ x = omega (arith, l) in
    let q : 128 + c % 64 ≡ y = omega (arith, l) in
    let low : 128 ≤ c = omega (arith, l) in
    record { is = encode_two c low (omega (arith, l)) ∙ (cc); high = low; allowed = allowed_low c (omega arith) (omega (arith, l)) }

three_low : (x y : ℕ) → 0xE0 ≤ x → IsSecondOfThree x y → 0x20 ≤ (x - 224) * 64 + (y - 128)
three_low x y h l = grind arith

three_top : (x y : ℕ) → 0xE0 ≤ x → x ≤ 0xED → IsSecondOfThree x y → (x - 224) * 64 + (y - 128) ≤ 0x35F
three_top x y h k l = grind arith

three_end : (x y z : ℕ) → 0xE0 ≤ x → x ≤ 0xEF → IsSecondOfThree x y → IsThirdOfThree x y z → (x - 224) * 4096 + (y - 128) * 64 + (z - 128) ≤ 0xFFFD
three_end x y z h k l m = grind arith

four_low : (x y : ℕ) → 0xF0 ≤ x → IsSecondOfFour x y → 0x10 ≤ (x - 240) * 64 + (y - 128)
four_low x y h l = grind arith

four_top : (x y : ℕ) → x ≤ 0xF4 → IsSecondOfFour x y → (x - 240) * 64 + (y - 128) ≤ 0x10F
four_top x y h l = grind arith

sides : (x : ℕ) → (x ≤ 0xED) ⊎ (0xEE ≤ x)
sides x = grind arith

three_allowed : (c x y z : ℕ) → 0xE0 ≤ x → x ≤ 0xEF → IsSecondOfThree x y → IsThirdOfThree x y z → c ≡ (x - 224) * 4096 + (y - 128) * 64 + (z - 128)
    → (x ≤ 0xED) ⊎ (0xEE ≤ x) → IsAllowed c
three_allowed c x y z h k l m e (inl low) = allowed_low c (omega (arith, three_low x y h l, m.0, m.1)) (omega (arith, three_top x y h low l, l.0, m.0, m.1))
three_allowed c x y z h k l m e (inr high) = allowed_middle c (omega (arith, l.0, m.0)) (omega (arith, three_end x y z h k l m))

spells_three : (c x y z : ℕ) → 0xE0 ≤ x → x ≤ 0xEF → IsSecondOfThree x y → IsThirdOfThree x y z → c ≡ (x - 224) * 4096 + (y - 128) * 64 + (z - 128)
    → Spells c (x ∷ y ∷ z ∷ [])
spells_three c x y z h k l m e =
    let low : 0x800 ≤ c = omega (arith, three_low x y h l) in
    let top : c ≤ 0xFFFD = omega (arith, three_end x y z h k l m) in
    let o : 224 + c / 4096 ≡ x = omega (arith, l.0, l.1, m.0, m.1) in
    let p : 128 + (c / 64) % 64 ≡ y = omega (arith, l.0, l.1, m.0, m.1) in
    let q : 128 + c % 64 ≡ z = omega (arith, l.0, l.1, m.0, m.1) in
    record { is = encode_three c low (omega arith) ∙ (cc); high = omega arith; allowed = three_allowed c x y z h k l m e (sides x) }

spells_four : (c x y z w : ℕ) → 0xF0 ≤ x → x ≤ 0xF4 → IsSecondOfFour x y → IsLater z → IsLater w
    → c ≡ (x - 240) * 262144 + (y - 128) * 4096 + (z - 128) * 64 + (w - 128) → Spells c (x ∷ y ∷ z ∷ w ∷ [])
spells_four c x y z w h k l m n e =
    let low : 0x10000 ≤ c = omega (arith, four_low x y h l) in
    let top : c ≤ 0x10FFFF = omega (arith, four_top x y k l, l.0, m, n) in
    let o : 240 + c / 262144 ≡ x = omega (arith, l.0, l.1, m, n) in
    let p : 128 + (c / 4096) % 64 ≡ y = omega (arith, l.0, l.1, m, n) in
    let q : 128 + (c / 64) % 64 ≡ z = omega (arith, l.0, l.1, m, n) in
    let r : 128 + c % 64 ≡ w = omega (arith, l.0, l.1, m, n) in
    record { is = encode_four c low ∙ (cc); high = omega arith; allowed = allowed_high c low top }

-- how the bytes of a character beyond ASCII begin
data Told (c x : ℕ) (tail : List ℕ) : Type 0 where
  OfTwo : 0x80 ≤ c → c < 0x800 → x ≡ 192 + c / 64 → tail ≡ (128 + c % 64) ∷ [] → Told c x tail
  OfThree : 0x800 ≤ c → c < 0x10000 → x ≡ 224 + c / 4096 → tail ≡ (128 + (c / 64) % 64) ∷ (128 + c % 64) ∷ [] → Told c x tail
  OfFour : 0x10000 ≤ c → c ≤ 0x10FFFF → x ≡ 240 + c / 262144
      → tail ≡ (128 + (c / 4096) % 64) ∷ (128 + (c / 64) % 64) ∷ (128 + c % 64) ∷ [] → Told c x tail

told_by : (c x : ℕ) (tail : List ℕ) → IsAllowed c → 128 ≤ x → encode_utf8 c ≡ x ∷ tail
    → (c < 0x80) ⊎ ((0x80 ≤ c) × (c < 0x800)) ⊎ ((0x800 ≤ c) × (c < 0x10000)) ⊎ (0x10000 ≤ c) → Told c x tail
told_by c x tail a h e (inl k) = absurd (let f = sym (encode_ascii c k) ∙ e in let same : c ≡ x = heads_same c x [] tail f in omega arith)
told_by c x tail a h e (inr (inl k)) = let f = sym (encode_two c k.0 k.1) ∙ e in
    OfTwo k.0 k.1 (sym (heads_same _ x _ tail f)) (sym (tails_same _ x _ tail f))
told_by c x tail a h e (inr (inr (inl k))) = let f = sym (encode_three c k.0 k.1) ∙ e in
    OfThree k.0 k.1 (sym (heads_same _ x _ tail f)) (sym (tails_same _ x _ tail f))
told_by c x tail a h e (inr (inr (inr k))) = let f = sym (encode_four c k) ∙ e in
    let top : c ≤ 0x10FFFF = elim (allowed_ranges c a) [ inl l ↦ omega arith | inr (inl l) ↦ omega (arith, l) | inr (inr l) ↦ l.1 ] in
    OfFour k top (sym (heads_same _ x _ tail f)) (sym (tails_same _ x _ tail f))

told_of : (c x : ℕ) (tail : List ℕ) → IsAllowed c → 128 ≤ x → encode_utf8 c ≡ x ∷ tail → Told c x tail
told_of c x tail a h e = told_by c x tail a h e (grind arith)

-- a list from its first elements
pub front_one : (bytes : List ℕ) → 1 ≤ length bytes → take 1 bytes ≡ get_or bytes 0 0 ∷ []
front_one [] h = absurd (omega arith)
front_one (x ∷ bytes) h = refl

pub front_two : (bytes : List ℕ) → 2 ≤ length bytes → take 2 bytes ≡ get_or bytes 0 0 ∷ get_or bytes 1 0 ∷ []
front_two [] h = absurd (omega arith)
front_two (x ∷ []) h = absurd (omega arith)
front_two (x ∷ y ∷ bytes) h = refl

pub front_three : (bytes : List ℕ) → 3 ≤ length bytes → take 3 bytes ≡ get_or bytes 0 0 ∷ get_or bytes 1 0 ∷ get_or bytes 2 0 ∷ []
front_three [] h = absurd (omega arith)
front_three (x ∷ []) h = absurd (omega arith)
front_three (x ∷ y ∷ []) h = absurd (omega arith)
front_three (x ∷ y ∷ z ∷ bytes) h = refl

pub front_four : (bytes : List ℕ) → 4 ≤ length bytes → take 4 bytes ≡ get_or bytes 0 0 ∷ get_or bytes 1 0 ∷ get_or bytes 2 0 ∷ get_or bytes 3 0 ∷ []
front_four [] h = absurd (omega arith)
front_four (x ∷ []) h = absurd (omega arith)
front_four (x ∷ y ∷ []) h = absurd (omega arith)
front_four (x ∷ y ∷ z ∷ []) h = absurd (omega arith)
front_four (x ∷ y ∷ z ∷ w ∷ bytes) h = refl

begun_by : (c : ℕ) (bytes more : List ℕ) → 0 < length more → Spells c (bytes ++ more) → IsBegun bytes
begun_by c bytes more h s = record { character = c; more = more; some = h; high = s.high; allowed = s.allowed; is = s.is }

-- fronts of characters
pub begun_two : (x : ℕ) → 0xC2 ≤ x → x ≤ 0xDF → IsBegun (x ∷ [])
begun_two x h k = begun_by _ (x ∷ []) (128 ∷ []) (omega arith) (spells_two _ x 128 h k (omega arith, omega arith) refl)

pub begun_three_two : (x y : ℕ) → 0xE0 ≤ x → x ≤ 0xEF → IsSecondOfThree x y → IsBegun (x ∷ y ∷ [])
begun_three_two x y h k l = begun_by _ (x ∷ y ∷ []) (128 ∷ []) (omega arith) (spells_three _ x y 128 h k l (omega arith, omega arith, λ a b. omega arith) refl)

begun_three_by : (x : ℕ) → 0xE0 ≤ x → x ≤ 0xEF → (x ≡ 0xE0) ⊎ (x ≢ 0xE0) → (y : ℕ) × IsSecondOfThree x y
begun_three_by x h k (inl e) = (0xA0, (omega arith, omega arith, λ a. omega arith, λ a. absurd (omega arith)))
begun_three_by x h k (inr n) = (0x80, (omega arith, omega arith, λ a. absurd (n a), λ a. omega arith))

pub begun_three : (x : ℕ) → 0xE0 ≤ x → x ≤ 0xEF → IsBegun (x ∷ [])
begun_three x h k =
    let second = begun_three_by x h k (elim (eqb_tells x 0xE0) [ inl t ↦ inl t.1 | inr f ↦ inr f.1 ]) in
    begun_by _ (x ∷ []) (second.0 ∷ 128 ∷ []) (omega arith) (spells_three _ x second.0 128 h k second.1 (omega arith, omega arith, λ a b. omega arith) refl)

pub begun_four_three : (x y z : ℕ) → 0xF0 ≤ x → x ≤ 0xF4 → IsSecondOfFour x y → IsLater z → IsBegun (x ∷ y ∷ z ∷ [])
begun_four_three x y z h k l m = begun_by _ (x ∷ y ∷ z ∷ []) (128 ∷ []) (omega arith) (spells_four _ x y z 128 h k l m (omega arith, omega arith) refl)

pub begun_four_two : (x y : ℕ) → 0xF0 ≤ x → x ≤ 0xF4 → IsSecondOfFour x y → IsBegun (x ∷ y ∷ [])
begun_four_two x y h k l = begun_by _ (x ∷ y ∷ []) (128 ∷ 128 ∷ []) (omega arith) (spells_four _ x y 128 128 h k l (omega arith, omega arith) (omega arith, omega arith) refl)

begun_four_by : (x : ℕ) → 0xF0 ≤ x → x ≤ 0xF4 → (x ≡ 0xF0) ⊎ (x ≢ 0xF0) → (y : ℕ) × IsSecondOfFour x y
begun_four_by x h k (inl e) = (0x90, (omega arith, omega arith, λ a. omega arith, λ a. absurd (omega arith)))
begun_four_by x h k (inr n) = (0x80, (omega arith, omega arith, λ a. absurd (n a), λ a. omega arith))

pub begun_four : (x : ℕ) → 0xF0 ≤ x → x ≤ 0xF4 → IsBegun (x ∷ [])
begun_four x h k =
    let second = begun_four_by x h k (elim (eqb_tells x 0xF0) [ inl t ↦ inl t.1 | inr f ↦ inr f.1 ]) in
    begun_by _ (x ∷ []) (second.0 ∷ 128 ∷ 128 ∷ []) (omega arith) (spells_four _ x second.0 128 128 h k second.1 (omega arith, omega arith) (omega arith, omega arith) refl)

whole_by : (c count : ℕ) (bytes front : List ℕ) → count ≤ length bytes → 0 < count → take count bytes ≡ front → Spells c front → IsWholeCharacter bytes count
whole_by c count bytes front h k e s = record { within = h; some = k; character = c; high = s.high; allowed = s.allowed; is = s.is ∙ sym e }

-- whole characters
pub whole_two : (bytes : List ℕ) → 2 ≤ length bytes → 0xC2 ≤ get_or bytes 0 0 → get_or bytes 0 0 ≤ 0xDF → IsLater (get_or bytes 1 0) → IsWholeCharacter bytes 2
whole_two bytes n h k l = whole_by _ 2 bytes _ n (omega arith) (front_two bytes n) (spells_two _ (get_or bytes 0 0) (get_or bytes 1 0) h k l refl)

pub whole_three : (bytes : List ℕ) → 3 ≤ length bytes → 0xE0 ≤ get_or bytes 0 0 → get_or bytes 0 0 ≤ 0xEF → IsSecondOfThree (get_or bytes 0 0) (get_or bytes 1 0)
    → IsThirdOfThree (get_or bytes 0 0) (get_or bytes 1 0) (get_or bytes 2 0) → IsWholeCharacter bytes 3
whole_three bytes n h k l m = whole_by _ 3 bytes _ n (omega arith) (front_three bytes n)
    (spells_three _ (get_or bytes 0 0) (get_or bytes 1 0) (get_or bytes 2 0) h k l m refl)

pub whole_four : (bytes : List ℕ) → 4 ≤ length bytes → 0xF0 ≤ get_or bytes 0 0 → get_or bytes 0 0 ≤ 0xF4 → IsSecondOfFour (get_or bytes 0 0) (get_or bytes 1 0)
    → IsLater (get_or bytes 2 0) → IsLater (get_or bytes 3 0) → IsWholeCharacter bytes 4
whole_four bytes n h k l m o = whole_by _ 4 bytes _ n (omega arith) (front_four bytes n)
    (spells_four _ (get_or bytes 0 0) (get_or bytes 1 0) (get_or bytes 2 0) (get_or bytes 3 0) h k l m o refl)

none_first : (c x : ℕ) (tail : List ℕ) → 128 ≤ x → ((0xC2 ≤ x) → (x ≤ 0xF4) → ⊥) → Told c x tail → ⊥
none_first c x tail h n (OfTwo k l e f) = n (omega arith) (omega arith)
none_first c x tail h n (OfThree k l e f) = n (omega arith) (omega arith)
none_first c x tail h n (OfFour k l e f) = n (omega arith) (omega arith)

none_two : (c x y : ℕ) (tail : List ℕ) → 0xC2 ≤ x → x ≤ 0xDF → ¬ (IsLater y) → Told c x (y ∷ tail) → ⊥
none_two c x y tail h k n (OfTwo l m e f) = let g : y ≡ 128 + c % 64 = heads_same y _ tail _ f in n (omega arith, omega arith)
none_two c x y tail h k n (OfThree l m e f) = omega arith
none_two c x y tail h k n (OfFour l m e f) = omega arith

none_three : (c x y : ℕ) (tail : List ℕ) → IsAllowed c → 0xE0 ≤ x → x ≤ 0xEF → ¬ (IsSecondOfThree x y) → Told c x (y ∷ tail) → ⊥
none_three c x y tail a h k n (OfTwo l m e f) = omega arith
none_three c x y tail a h k n (OfThree l m e f) =
    let g : y ≡ 128 + (c / 64) % 64 = heads_same y _ tail _ f in
    n (omega arith, omega arith, λ p. omega arith, λ p. elim (allowed_ranges c a) [ inl r ↦ omega arith | inr (inl r) ↦ omega (arith, r.0) | inr (inr r) ↦ omega (arith, r.0) ])
none_three c x y tail a h k n (OfFour l m e f) = omega arith

none_third : (c x y z : ℕ) (tail : List ℕ) → IsAllowed c → 0xE0 ≤ x → x ≤ 0xEF → ¬ (IsThirdOfThree x y z) → Told c x (y ∷ z ∷ tail) → ⊥
none_third c x y z tail a h k n (OfTwo l m e f) = omega arith
none_third c x y z tail a h k n (OfThree l m e f) =
    let g : y ≡ 128 + (c / 64) % 64 = heads_same y _ (z ∷ tail) _ f in
    let i : z ≡ 128 + c % 64 = heads_same z _ tail _ (tails_same y _ (z ∷ tail) _ f) in
    n (omega arith, omega arith, λ p q. elim (allowed_ranges c a) [ inl r ↦ omega arith | inr (inl r) ↦ omega (arith, r.1) | inr (inr r) ↦ omega (arith, r.0) ])
none_third c x y z tail a h k n (OfFour l m e f) = omega arith

none_four : (c x y : ℕ) (tail : List ℕ) → 0xF0 ≤ x → ¬ (IsSecondOfFour x y) → Told c x (y ∷ tail) → ⊥
none_four c x y tail h n (OfTwo l m e f) = omega arith
none_four c x y tail h n (OfThree l m e f) = omega arith
none_four c x y tail h n (OfFour l m e f) =
    let g : y ≡ 128 + (c / 4096) % 64 = heads_same y _ tail _ f in n (omega arith, omega arith, λ p. omega arith, λ p. omega arith)

none_four_third : (c x y z : ℕ) (tail : List ℕ) → 0xF0 ≤ x → ¬ (IsLater z) → Told c x (y ∷ z ∷ tail) → ⊥
none_four_third c x y z tail h n (OfTwo l m e f) = omega arith
none_four_third c x y z tail h n (OfThree l m e f) = omega arith
none_four_third c x y z tail h n (OfFour l m e f) =
    let i : z ≡ 128 + (c / 64) % 64 = heads_same z _ tail _ (tails_same y _ (z ∷ tail) _ f) in n (omega arith, omega arith)

none_four_fourth : (c x y z w : ℕ) (tail : List ℕ) → 0xF0 ≤ x → ¬ (IsLater w) → Told c x (y ∷ z ∷ w ∷ tail) → ⊥
none_four_fourth c x y z w tail h n (OfTwo l m e f) = omega arith
none_four_fourth c x y z w tail h n (OfThree l m e f) = omega arith
none_four_fourth c x y z w tail h n (OfFour l m e f) =
    let i : w ≡ 128 + c % 64 = heads_same w _ tail _ (tails_same z _ (w ∷ tail) _ (tails_same y _ (z ∷ w ∷ tail) _ f)) in n (omega arith, omega arith)

-- bytes that no character goes on with
pub stuck_first : (bytes : List ℕ) → 0 < length bytes → 128 ≤ get_or bytes 0 0 → ((0xC2 ≤ get_or bytes 0 0) → (get_or bytes 0 0 ≤ 0xF4) → ⊥) → IsNoCharacter bytes 0
stuck_first bytes n h k = record {
  within = n;
  begun = inl refl;
  none = λ c more a e. none_first c (get_or bytes 0 0) more h k (told_of c (get_or bytes 0 0) more a h (e ∙ ap (λ xs. xs ++ more) (front_one bytes n)));
}

pub stuck_two : (bytes : List ℕ) → 2 ≤ length bytes → 0xC2 ≤ get_or bytes 0 0 → get_or bytes 0 0 ≤ 0xDF → ¬ (IsLater (get_or bytes 1 0)) → IsNoCharacter bytes 1
stuck_two bytes n h k l = record {
  within = n;
  begun = inr (subst IsBegun (sym (front_one bytes (omega arith))) (begun_two (get_or bytes 0 0) h k));
  none = λ c more a e. none_two c (get_or bytes 0 0) (get_or bytes 1 0) more h k l
      (told_of c (get_or bytes 0 0) (get_or bytes 1 0 ∷ more) a (omega arith) (e ∙ ap (λ xs. xs ++ more) (front_two bytes n)));
}

pub stuck_three : (bytes : List ℕ) → 2 ≤ length bytes → 0xE0 ≤ get_or bytes 0 0 → get_or bytes 0 0 ≤ 0xEF → ¬ (IsSecondOfThree (get_or bytes 0 0) (get_or bytes 1 0))
    → IsNoCharacter bytes 1
stuck_three bytes n h k l = record {
  within = n;
  begun = inr (subst IsBegun (sym (front_one bytes (omega arith))) (begun_three (get_or bytes 0 0) h k));
  none = λ c more a e. none_three c (get_or bytes 0 0) (get_or bytes 1 0) more a h k l
      (told_of c (get_or bytes 0 0) (get_or bytes 1 0 ∷ more) a (omega arith) (e ∙ ap (λ xs. xs ++ more) (front_two bytes n)));
}

pub stuck_third : (bytes : List ℕ) → 3 ≤ length bytes → 0xE0 ≤ get_or bytes 0 0 → get_or bytes 0 0 ≤ 0xEF → IsSecondOfThree (get_or bytes 0 0) (get_or bytes 1 0)
    → ¬ (IsThirdOfThree (get_or bytes 0 0) (get_or bytes 1 0) (get_or bytes 2 0)) → IsNoCharacter bytes 2
stuck_third bytes n h k l m = record {
  within = n;
  begun = inr (subst IsBegun (sym (front_two bytes (omega arith))) (begun_three_two (get_or bytes 0 0) (get_or bytes 1 0) h k l));
  none = λ c more a e. none_third c (get_or bytes 0 0) (get_or bytes 1 0) (get_or bytes 2 0) more a h k m
      (told_of c (get_or bytes 0 0) (get_or bytes 1 0 ∷ get_or bytes 2 0 ∷ more) a (omega arith) (e ∙ ap (λ xs. xs ++ more) (front_three bytes n)));
}

pub stuck_four : (bytes : List ℕ) → 2 ≤ length bytes → 0xF0 ≤ get_or bytes 0 0 → get_or bytes 0 0 ≤ 0xF4 → ¬ (IsSecondOfFour (get_or bytes 0 0) (get_or bytes 1 0))
    → IsNoCharacter bytes 1
stuck_four bytes n h k l = record {
  within = n;
  begun = inr (subst IsBegun (sym (front_one bytes (omega arith))) (begun_four (get_or bytes 0 0) h k));
  none = λ c more a e. none_four c (get_or bytes 0 0) (get_or bytes 1 0) more h l
      (told_of c (get_or bytes 0 0) (get_or bytes 1 0 ∷ more) a (omega arith) (e ∙ ap (λ xs. xs ++ more) (front_two bytes n)));
}

pub stuck_four_third : (bytes : List ℕ) → 3 ≤ length bytes → 0xF0 ≤ get_or bytes 0 0 → get_or bytes 0 0 ≤ 0xF4 → IsSecondOfFour (get_or bytes 0 0) (get_or bytes 1 0)
    → ¬ (IsLater (get_or bytes 2 0)) → IsNoCharacter bytes 2
stuck_four_third bytes n h k l m = record {
  within = n;
  begun = inr (subst IsBegun (sym (front_two bytes (omega arith))) (begun_four_two (get_or bytes 0 0) (get_or bytes 1 0) h k l));
  none = λ c more a e. none_four_third c (get_or bytes 0 0) (get_or bytes 1 0) (get_or bytes 2 0) more h m
      (told_of c (get_or bytes 0 0) (get_or bytes 1 0 ∷ get_or bytes 2 0 ∷ more) a (omega arith) (e ∙ ap (λ xs. xs ++ more) (front_three bytes n)));
}

pub stuck_four_fourth : (bytes : List ℕ) → 4 ≤ length bytes → 0xF0 ≤ get_or bytes 0 0 → get_or bytes 0 0 ≤ 0xF4 → IsSecondOfFour (get_or bytes 0 0) (get_or bytes 1 0)
    → IsLater (get_or bytes 2 0) → ¬ (IsLater (get_or bytes 3 0)) → IsNoCharacter bytes 3
stuck_four_fourth bytes n h k l m o = record {
  within = n;
  begun = inr (subst IsBegun (sym (front_three bytes (omega arith))) (begun_four_three (get_or bytes 0 0) (get_or bytes 1 0) (get_or bytes 2 0) h k l m));
  none = λ c more a e. none_four_fourth c (get_or bytes 0 0) (get_or bytes 1 0) (get_or bytes 2 0) (get_or bytes 3 0) more h o
      (told_of c (get_or bytes 0 0) (get_or bytes 1 0 ∷ get_or bytes 2 0 ∷ get_or bytes 3 0 ∷ more) a (omega arith) (e ∙ ap (λ xs. xs ++ more) (front_four bytes n)));
}

-- what a test denies
pub denied : (b : Bool) (P : Type 0) → (P → b ≡ true) → b ≡ false → ¬ P
denied b P f e p = let t : b ≡ true = f p in absurd (cc)
