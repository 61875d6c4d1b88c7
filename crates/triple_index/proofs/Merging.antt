-- Items in order merged into items in order, from the end on.
use Rattle.std.proofs.Common.{◌≡◌, ℕ, zero, suc, ◌+◌, ◌-◌, ◌<◌, ◌≤◌, List, [], ◌∷◌, ◌++◌, length, get_or, set, take, drop, filter, Contains, refl, sym, ap, subst, ◌∙◌, arith}
use Rattle.std.proofs.lemmas.Bool.{cases_lt}
use Rattle.std.proofs.lemmas.List.{append-nil, append_assoc, length-take-le, length-set, take_all, drop_all, take_more, drop-set, take-take, take-set-le, get_or-take, take-append-drop, take_at, length-append, get_or_default}
use Rattle.std.proofs.lemmas.List.Elements.{All-contains, All-contains_itself, All-weaker, All-head, All-tail, filter-append, Contains-get_or}
use Rattle.std.proofs.lemmas.Map.Keys.{Less-from_sorted}
use Rattle.std.proofs.lemmas.Map.Lookups.{CmpEqualImpliesEq}
use Rattle.std.specs.Cmp.{IsTotalOrder}
use Rattle.std.specs.List.{All}
use Rattle.std.specs.List.Sorted.{IsStrictlySortedBy}
use Rattle.std.specs.Ordering.{is_lt, is_gt}
use Rattle.std.specs.declared.cmp.Ordering.{Ordering}
use Rattle.std.specs.declared.cmp.Ordering.TheVariants.{Less, Equal, Greater}
use mathlib.Core.Logic.{⊎_elim}
use Rattle.m3_terms.specs.Inserted.{inserted}
use Rattle.m3_terms.specs.InsertedLaws.{above, below}
use Rattle.triple_index.specs.Graphs.{with_all}
use Rattle.triple_index.specs.GraphLaws.{with_all_has}
use Rattle.triple_index.proofs.Ranges.{none_kept, All-before}
use Rattle.triple_index.proofs.Closing.{all_kept}

-- what holds of all that a list contains holds of its items
pub All-from_contains : {X : Type 0} (P : X → Type 0) (xs : List X) → ((q : X) → Contains xs q → P q) → All P xs
All-from_contains P xs h = All-weaker (Contains xs) P h xs (All-contains_itself xs)

module _ {K : Type 0} {R : K → K → Ordering} (o : IsTotalOrder R) (exact : CmpEqualImpliesEq R) where
  -- an item above all is put at the end
  inserted_last : (x : K) (xs : List K) → All (λ y. R y x ≡ Less) xs → inserted R x xs ≡ xs ++ x ∷ []
  inserted_last x xs h =
      let low : filter (λ y. is_lt (R y x)) xs ≡ xs = all_kept (λ y. is_lt (R y x)) xs (λ k d b. ap is_lt (h k d b)) in
      let high : filter (λ y. is_gt (R y x)) xs ≡ [] = none_kept (λ y. is_gt (R y x)) xs (λ k d b. ap is_gt (h k d b)) in
      ap (λ l. l ++ x ∷ filter (λ y. is_gt (R y x)) xs) low ∙ ap (λ l. xs ++ x ∷ l) high

  -- an item below the last is put before it
  inserted_before_last : (x y : K) (xs : List K) → R y x ≡ Less → inserted R y (xs ++ x ∷ []) ≡ inserted R y xs ++ x ∷ []
  inserted_before_last x y xs h =
      let over : R x y ≡ Greater = above o y x h in
      let last_low : filter (λ k. is_lt (R k y)) (x ∷ []) ≡ [] = rw over refl in
      let last_high : filter (λ k. is_gt (R k y)) (x ∷ []) ≡ x ∷ [] = rw over refl in
      let low : filter (λ k. is_lt (R k y)) (xs ++ x ∷ []) ≡ filter (λ k. is_lt (R k y)) xs =
      filter-append (λ k. is_lt (R k y)) xs (x ∷ []) ∙ ap (λ l. filter (λ k. is_lt (R k y)) xs ++ l) last_low ∙ append-nil (filter (λ k. is_lt (R k y)) xs) in
      let high : filter (λ k. is_gt (R k y)) (xs ++ x ∷ []) ≡ filter (λ k. is_gt (R k y)) xs ++ x ∷ [] =
      filter-append (λ k. is_gt (R k y)) xs (x ∷ []) ∙ ap (λ l. filter (λ k. is_gt (R k y)) xs ++ l) last_high in
      ap (λ l. l ++ y ∷ filter (λ k. is_gt (R k y)) (xs ++ x ∷ [])) low
      ∙ ap (λ l. filter (λ k. is_lt (R k y)) xs ++ y ∷ l) high
      ∙ sym (append_assoc (filter (λ k. is_lt (R k y)) xs) (y ∷ filter (λ k. is_gt (R k y)) xs) (x ∷ []))

  -- items below the last are put before it
  with_all_before_last : (x : K) (xs ys : List K) → All (λ y. R y x ≡ Less) ys → with_all R (xs ++ x ∷ []) ys ≡ with_all R xs ys ++ x ∷ []
  with_all_before_last x xs [] h = refl
  with_all_before_last x xs (y ∷ ys) h =
      ap (λ l. with_all R l ys) (inserted_before_last x y xs (All-head (λ z. R z x ≡ Less) y ys h))
      ∙ with_all_before_last x (inserted R y xs) ys (All-tail (λ z. R z x ≡ Less) y ys h)

  -- items are put in their places one after another
  pub with_all_more : (xs ys zs : List K) → with_all R xs (ys ++ zs) ≡ with_all R (with_all R xs ys) zs
  with_all_more xs [] zs = refl
  with_all_more xs (y ∷ ys) zs = with_all_more (inserted R y xs) ys zs

  -- an item above all comes last
  with_all_last : (x : K) (xs ys : List K) → All (λ y. R y x ≡ Less) xs → All (λ y. R y x ≡ Less) ys
      → with_all R xs (ys ++ x ∷ []) ≡ with_all R xs ys ++ x ∷ []
  with_all_last x xs ys low high =
      let all : All (λ y. R y x ≡ Less) (with_all R xs ys) = All-from_contains (λ y. R y x ≡ Less) (with_all R xs ys)
      (λ q c. ⊎_elim
      (λ old. All-contains (λ y. R y x ≡ Less) xs q low old)
      (λ new. All-contains (λ y. R y x ≡ Less) ys q high new)
      ((with_all_has o exact xs ys q).0 c)) in
      with_all_more xs ys (x ∷ []) ∙ inserted_last x (with_all R xs ys) all

  -- items in order up to one that is below another are all below it
  up_to : (xs : List K) (n : ℕ) (d y : K) → IsStrictlySortedBy R xs → n < length xs → R (get_or xs n d) y ≡ Less → All (λ z. R z y ≡ Less) (take (n + 1) xs)
  up_to xs n d y s within h = All-before (λ z. R z y ≡ Less) xs (n + 1) (omega arith) (λ k e a b. ⊎_elim
      (λ (early : k < n). o.trans (get_or xs k e) (get_or xs n e) y (Less-from_sorted R xs k n e s early within)
      (subst (λ z. R z y ≡ Less) (get_or_default xs n d e within) h))
      (λ (late : n ≤ k).
      let same : n ≡ k = omega arith in
      subst (λ i. R (get_or xs i e) y ≡ Less) same (subst (λ z. R z y ≡ Less) (get_or_default xs n d e within) h))
      (cases_lt k n))

  -- items in order before a place are below the one there
  before_place : (xs : List K) (n : ℕ) (d : K) → IsStrictlySortedBy R xs → n < length xs → All (λ z. R z (get_or xs n d) ≡ Less) (take n xs)
  before_place xs n d s within = All-before (λ z. R z (get_or xs n d) ≡ Less) xs n (omega arith) (λ k e a b.
      subst (λ z. R (get_or xs k e) z ≡ Less) (get_or_default xs n e d within) (Less-from_sorted R xs k n e s b within))

  -- `now` began as `xs` with places behind it: what is left of `xs` and `ys` is still to be merged before what stands behind
  pub record IsMerging (xs ys now : List K) (left right : ℕ) : Type 0 where
    pub front : take left now ≡ take left xs
    pub merged : with_all R (take left xs) (take right ys) ++ drop (left + right) now ≡ with_all R xs ys
    pub long : length now ≡ length xs + length ys
    pub left_within : left ≤ length xs
    pub right_within : right ≤ length ys

  pub merging_start : (ys now : List K) (left : ℕ) → left + length ys ≡ length now → IsMerging (take left now) ys now left (length ys)
  merging_start ys now left e =
      let wide : length (take left now) ≡ left = length-take-le left now (omega arith) in
      let whole : take left (take left now) ≡ take left now = take_all left (take left now) (omega (arith, wide)) in
      let every : take (length ys) ys ≡ ys = take_all (length ys) ys (omega arith) in
      let none : drop (left + length ys) now ≡ [] = drop_all (left + length ys) now (omega arith) in
      record {
        front = sym whole;
        merged = ap (λ l. with_all R l (take (length ys) ys) ++ drop (left + length ys) now) whole
            ∙ ap (λ l. with_all R (take left now) l ++ drop (left + length ys) now) every
            ∙ ap (λ l. with_all R (take left now) ys ++ l) none ∙ append-nil (with_all R (take left now) ys);
        long = omega (arith, wide);
        left_within = omega (arith, wide);
        right_within = omega arith;
      }

  -- what stands in the front is of the first list
  front_read : (xs ys now : List K) (left right : ℕ) (d : K) → IsMerging xs ys now (left + 1) right → get_or now left d ≡ get_or xs left d
  front_read xs ys now left right d m =
      sym (get_or-take (left + 1) now left d (omega arith)) ∙ ap (λ l. get_or l left d) m.front ∙ get_or-take (left + 1) xs left d (omega arith)

  -- the last of the first list moves behind
  merging_moves : (xs ys now : List K) (left right : ℕ) (x y : K) → IsStrictlySortedBy R ys → IsMerging xs ys now (left + 1) (right + 1)
      → x ≡ get_or now left x → y ≡ get_or ys right y → R y x ≡ Less → IsMerging xs ys (set now (left + right + 1) x) left (right + 1)
  merging_moves xs ys now left right x y s m is_x is_y h =
      let long = m.long in
      let left_within = m.left_within in
      let right_within = m.right_within in
      let last : x ≡ get_or xs left x = is_x ∙ front_read xs ys now left (right + 1) x m in
      let split : take (left + 1) xs ≡ take left xs ++ x ∷ [] =
      take_more xs left x (omega arith) ∙ ap (λ z. take left xs ++ z ∷ []) (sym last) in
      let low : All (λ z. R z x ≡ Less) (take (right + 1) ys) =
      up_to ys right y x s (omega arith) (subst (λ z. R z x ≡ Less) is_y h) in
      let moved : drop (left + right + 1) (set now (left + right + 1) x) ≡ x ∷ drop (left + right + 1 + 1) now =
      drop-set now (left + right + 1) x (omega arith) in
      let place : left + (right + 1) ≡ left + right + 1 = omega arith in
      let next : left + right + 1 + 1 ≡ left + 1 + (right + 1) = omega arith in
      let a = take left xs in
      let b = take (right + 1) ys in
      record {
        front = take-set-le left now (left + right + 1) x (omega arith) ∙ sym (take-take left (left + 1) now (omega arith))
            ∙ ap (take left) m.front ∙ take-take left (left + 1) xs (omega arith);
        merged = ap (λ p. with_all R a b ++ drop p (set now (left + right + 1) x)) place
            ∙ ap (λ l. with_all R a b ++ l) (moved ∙ ap (λ p. x ∷ drop p now) next)
            ∙ sym (append_assoc (with_all R a b) (x ∷ []) (drop (left + 1 + (right + 1)) now))
            ∙ ap (λ l. l ++ drop (left + 1 + (right + 1)) now) (sym (with_all_before_last x a b low))
            ∙ ap (λ l. with_all R l b ++ drop (left + 1 + (right + 1)) now) (sym split)
            ∙ m.merged;
        long = length-set now (left + right + 1) x ∙ long;
        left_within = omega arith;
        right_within = omega arith;
      }

  -- an item that is no item of a list, and not below it at a place, is above it there
  above_by : (xs : List K) (x y : K) (r : Ordering) → R y x ≡ r → (R y x ≡ Less → ⊥) → Contains xs x → (Contains xs y → ⊥) → R x y ≡ Less
  above_by xs x y Less e unless there fresh = absurd (unless e)
  above_by xs x y Equal e unless there fresh = absurd (fresh (subst (Contains xs) (sym (exact y x e)) there))
  above_by xs x y Greater e unless there fresh = below o y x e

  -- what is left of the first list is below an item that does not come before its last
  left_below : (xs ys now : List K) (left right : ℕ) (y : K) → IsStrictlySortedBy R xs → IsMerging xs ys now left right
      → ((0 < left) × (R y (get_or now (left - 1) y) ≡ Less) → ⊥) → (Contains xs y → ⊥) → All (λ z. R z y ≡ Less) (take left xs)
  left_below xs ys now zero right y s m unless fresh = λ k d b. absurd (omega arith)
  left_below xs ys now (suc left) right y s m unless fresh =
      let left_within = m.left_within in
      let step : suc left ≡ left + 1 = omega arith in
      let back : suc left - 1 ≡ left = omega arith in
      let m_next : IsMerging xs ys now (left + 1) right = subst (λ n. IsMerging xs ys now n right) step m in
      let read : get_or now (suc left - 1) y ≡ get_or xs left y = ap (λ n. get_or now n y) back ∙ front_read xs ys now left right y m_next in
      let not_less : R y (get_or xs left y) ≡ Less → ⊥ = λ h. unless (omega arith, subst (λ z. R y z ≡ Less) (sym read) h) in
      let last : R (get_or xs left y) y ≡ Less = above_by xs (get_or xs left y) y _ refl not_less (Contains-get_or xs left y (omega arith)) fresh in
      subst (λ n. All (λ z. R z y ≡ Less) (take n xs)) (sym step) (up_to xs left y y s (omega arith) last)

  -- the last of the second list goes behind
  merging_puts : (xs ys now : List K) (left right : ℕ) (y : K) → IsStrictlySortedBy R xs → IsStrictlySortedBy R ys
      → IsMerging xs ys now left (right + 1) → y ≡ get_or ys right y
      → ((0 < left) × (R y (get_or now (left - 1) y) ≡ Less) → ⊥) → (Contains xs y → ⊥)
      → IsMerging xs ys (set now (left + right) y) left right
  merging_puts xs ys now left right y s t m is_y unless fresh =
      let long = m.long in
      let left_within = m.left_within in
      let right_within = m.right_within in
      let split : take (right + 1) ys ≡ take right ys ++ y ∷ [] =
      take_more ys right y (omega arith) ∙ ap (λ z. take right ys ++ z ∷ []) (sym is_y) in
      let low : All (λ z. R z y ≡ Less) (take left xs) = left_below xs ys now left (right + 1) y s m unless fresh in
      let high : All (λ z. R z y ≡ Less) (take right ys) =
      subst (λ w. All (λ z. R z w ≡ Less) (take right ys)) (sym is_y) (before_place ys right y t (omega arith)) in
      let put : drop (left + right) (set now (left + right) y) ≡ y ∷ drop (left + right + 1) now = drop-set now (left + right) y (omega arith) in
      let next : left + right + 1 ≡ left + (right + 1) = omega arith in
      let a = take left xs in
      let b = take right ys in
      record {
        front = take-set-le left now (left + right) y (omega arith) ∙ m.front;
        merged = ap (λ l. with_all R a b ++ l) (put ∙ ap (λ p. y ∷ drop p now) next)
            ∙ sym (append_assoc (with_all R a b) (y ∷ []) (drop (left + (right + 1)) now))
            ∙ ap (λ l. l ++ drop (left + (right + 1)) now) (sym (with_all_last y a b low high))
            ∙ ap (λ l. with_all R a l ++ drop (left + (right + 1)) now) (sym split)
            ∙ m.merged;
        long = length-set now (left + right) y ∙ long;
        left_within = omega arith;
        right_within = omega arith;
      }

  -- one step of the merge that moves the last of the first list, as the code counts
  pub merging_left : (xs ys now : List K) (left right : ℕ) (d : K) → IsStrictlySortedBy R ys → IsMerging xs ys now left right
      → 0 < left → 0 < right → R (get_or ys (right - 1) d) (get_or now (left - 1) (get_or ys (right - 1) d)) ≡ Less
      → IsMerging xs ys (set now (left + right - 1) (get_or now (left - 1) d)) (left - 1) right
  merging_left xs ys now left right d s m some more h =
      let long = m.long in
      let left_within = m.left_within in
      let right_within = m.right_within in
      let l = left - 1 in
      let r = right - 1 in
      let x = get_or now l d in
      let y = get_or ys r d in
      let left_is : left ≡ l + 1 = omega arith in
      let right_is : right ≡ r + 1 = omega arith in
      let place : l + r + 1 ≡ left + right - 1 = omega arith in
      let here : IsMerging xs ys now (l + 1) (r + 1) =
      subst (λ n. IsMerging xs ys now (l + 1) n) right_is (subst (λ n. IsMerging xs ys now n right) left_is m) in
      let within : l < length now = omega arith in
      let moved = merging_moves xs ys now l r x y s here (get_or_default now l d x within) (get_or_default ys r d y (omega arith))
      (subst (λ z. R y z ≡ Less) (get_or_default now l y d within) h) in
      subst (λ n. IsMerging xs ys (set now n x) l right) place (subst (λ n. IsMerging xs ys (set now (l + r + 1) x) l n) (sym right_is) moved)

  -- one that puts the last of the second list
  pub merging_right : (xs ys now : List K) (left right : ℕ) (d : K) → IsStrictlySortedBy R xs → IsStrictlySortedBy R ys
      → ((q : K) → Contains ys q → Contains xs q → ⊥) → IsMerging xs ys now left right → 0 < right
      → ((0 < left) × (R (get_or ys (right - 1) d) (get_or now (left - 1) (get_or ys (right - 1) d)) ≡ Less) → ⊥)
      → IsMerging xs ys (set now (left + right - 1) (get_or ys (right - 1) d)) left (right - 1)
  merging_right xs ys now left right d s t fresh m more unless =
      let right_within = m.right_within in
      let r = right - 1 in
      let y = get_or ys r d in
      let right_is : right ≡ r + 1 = omega arith in
      let place : left + r ≡ left + right - 1 = omega arith in
      let here : IsMerging xs ys now left (r + 1) = subst (λ n. IsMerging xs ys now left n) right_is m in
      let put = merging_puts xs ys now left r y s t here (get_or_default ys r d y (omega arith)) unless
      (fresh y (Contains-get_or ys r d (omega arith))) in
      subst (λ n. IsMerging xs ys (set now n y) left r) place put

  -- once the second list is empty, all is merged
  pub merging_all : (xs ys now : List K) (left right : ℕ) → IsMerging xs ys now left right → right ≤ 0 → now ≡ with_all R xs ys
  merging_all xs ys now left right m none =
      let zero_right : right ≡ 0 = omega arith in
      let end : left + right ≡ left = omega arith in
      sym (take-append-drop left now) ∙ ap (λ l. l ++ drop left now) m.front
      ∙ ap (λ n. with_all R (take left xs) (take n ys) ++ drop left now) (sym zero_right)
      ∙ ap (λ n. with_all R (take left xs) (take right ys) ++ drop n now) (sym end) ∙ m.merged

-- what stands before a list at the end
pub before_end : {X : Type 0} (now xs ys : List X) → now ≡ xs ++ ys → take (length now - length ys) now ≡ xs
before_end now xs ys e =
    let wide : length now ≡ length xs + length ys = ap length e ∙ length-append xs ys in
    ap (take (length now - length ys)) e ∙ take_at xs ys (length now - length ys) (omega arith)
