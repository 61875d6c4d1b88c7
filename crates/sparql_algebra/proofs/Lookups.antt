-- Bindings by rising variable are told by their lookups; lookups of an insertion and of a merge.
use Rattle.std.proofs.Common.{◌≡◌, ◌∙◌, ℕ, suc, ◌+◌, ◌<◌, ◌≤◌, Bool, true, false, cond, List, [], ◌∷◌, filter, nat_eq, zero, length, take, get_or, Option, None, Some, refl, sym, ap, subst, arith, ◌⊎◌, inl, inr}
use Rattle.std.proofs.lemmas.Bool.{eqb-true, eqb-false, eq-eqb, ne_eqb, cases_lt, and_from}
use Rattle.std.proofs.lemmas.Option.{none-some}
use Rattle.std.specs.Cmp.{first_so, second_so, IsTotalOrder, on_total, nat_cmp_total, nat_cmp_is}
use Rattle.std.specs.List.{AllByRecursion, list_all}
use Rattle.std.proofs.lemmas.List.Sums.{fold_more}
use Rattle.std.specs.List.Sorted.{IsStrictlySortedBy}
use Rattle.std.specs.Option.{unwrap_or, option_or}
use Rattle.std.specs.Ordering.{nat_cmp, is_lt, is_gt}
use Rattle.std.specs.declared.cmp.Ordering.TheVariants.{Less, Equal, Greater}
use Rattle.m3_terms.specs.Inserted.{inserted}
use Rattle.m3_terms.specs.InsertedLaws.{none_below, each_above}
use Rattle.sparql_algebra.specs.Merged.{by_var, IsRising, lookup, AreCompatible, merged}

-- one number is below another, is the other, or is above it
data Ranked (a b : ℕ) : Type 0 where
  low : a < b → Ranked a b
  same : a ≡ b → Ranked a b
  high : b < a → Ranked a b

ranked_as : (a b : ℕ) (e : Bool) → nat_eq a b ≡ e → (a < b) ⊎ (b ≤ a) → Ranked a b
ranked_as a b true h place = same (eqb-true a b h)
ranked_as a b false h (inl below) = low below
ranked_as a b false h (inr above) = high (omega (arith, eqb-false a b h))

ranked : (a b : ℕ) → Ranked a b
ranked a b = ranked_as a b (nat_eq a b) refl (cases_lt a b)

-- what is found under a test that holds, and under one that does not
pub found_so : {X : Type 0} (b : Bool) (x : X) (o : Option X) → b ≡ true → cond b (Some x) o ≡ Some x
found_so b x o h = rw h refl

pub found_not : {X : Type 0} (b : Bool) (x : X) (o : Option X) → b ≡ false → cond b (Some x) o ≡ o
found_not b x o h = rw h refl

module _ {B : Type 0} (var_of : B → ℕ) where
  -- the variables of some bindings are above a number
  abbrev pub Above : ℕ → List B → Type 0
  Above n bs = AllByRecursion (λ y. nat_cmp n (var_of y) ≡ Less) bs

  total : IsTotalOrder (by_var var_of)
  total = on_total var_of nat_cmp_total

  less : (a b : ℕ) → a < b → nat_cmp a b ≡ Less
  less a b h = sym (nat_cmp_is a b Less h)

  below_is : (a b : ℕ) → nat_cmp a b ≡ Less → Ranked a b → a < b
  below_is a b h (low l) = l
  below_is a b h (same e) = let tie : nat_cmp a b ≡ Equal = sym (nat_cmp_is a b Equal e) in absurd (cc)
  below_is a b h (high g) = let over : nat_cmp a b ≡ Greater = sym (nat_cmp_is a b Greater g) in absurd (cc)

  pub is_below : (a b : ℕ) → nat_cmp a b ≡ Less → a < b
  is_below a b h = below_is a b h (ranked a b)

  -- a variable below all that are bound is unbound
  pub unbound_below : (n : ℕ) (bs : List B) → Above n bs → lookup var_of bs n ≡ None
  unbound_below n [] a = refl
  unbound_below n (b ∷ bs) a =
      let under = is_below n (var_of b) a.0 in
      let no_match : nat_eq (var_of b) n ≡ false = ne_eqb (var_of b) n (λ e. omega (arith, e, under)) in
      rw no_match (unbound_below n bs a.1)

  -- what is above a number is above each smaller one
  above_less : (m n : ℕ) (bs : List B) → m < n → Above n bs → Above m bs
  above_less m n [] h a = tt
  above_less m n (b ∷ bs) h a =
      let under = is_below n (var_of b) a.0 in (less m (var_of b) (omega (arith, h, under)), above_less m n bs h a.1)

  -- an insertion passes over a binding of a lesser variable
  insert_low : (b new : B) (bs : List B) → var_of b < var_of new → inserted (by_var var_of) new (b ∷ bs) ≡ b ∷ inserted (by_var var_of) new bs
  insert_low b new bs h = let lt : nat_cmp (var_of b) (var_of new) ≡ Less = less _ _ h in rw lt refl

  -- it takes the position of a binding of its own variable
  insert_same : (b new : B) (bs : List B) → var_of b ≡ var_of new → Above (var_of b) bs → inserted (by_var var_of) new (b ∷ bs) ≡ new ∷ bs
  insert_same b new bs e a =
      let tie : nat_cmp (var_of b) (var_of new) ≡ Equal = sym (nat_cmp_is _ _ Equal e) in
      let all : Above (var_of new) bs = subst (λ n. Above n bs) e a in
      let none : filter (λ y. is_lt (by_var var_of y new)) bs ≡ [] = none_below total new bs all in
      let each : filter (λ y. is_gt (by_var var_of y new)) bs ≡ bs = each_above total new bs all in
      rw (tie, none, each) refl

  -- it comes before bindings of greater variables
  insert_high : (b new : B) (bs : List B) → var_of new < var_of b → Above (var_of b) bs → inserted (by_var var_of) new (b ∷ bs) ≡ new ∷ b ∷ bs
  insert_high b new bs h a =
      let all : Above (var_of new) (b ∷ bs) = (less _ _ h, above_less (var_of new) (var_of b) bs h a) in
      let none : filter (λ y. is_lt (by_var var_of y new)) (b ∷ bs) ≡ [] = none_below total new (b ∷ bs) all in
      let each : filter (λ y. is_gt (by_var var_of y new)) (b ∷ bs) ≡ b ∷ bs = each_above total new (b ∷ bs) all in
      rw (none, each) refl

  -- after an insertion the new variable is bound, and the others as before: one step
  lookup_put : (b new : B) (bs : List B) (v : ℕ) → Above (var_of b) bs → Ranked (var_of b) (var_of new)
      → (own old : Bool) → nat_eq (var_of new) v ≡ own → nat_eq (var_of b) v ≡ old
      → lookup var_of (inserted (by_var var_of) new bs) v ≡ cond own (Some new) (lookup var_of bs v)
      → lookup var_of (inserted (by_var var_of) new (b ∷ bs)) v ≡ cond own (Some new) (cond old (Some b) (lookup var_of bs v))
  lookup_put b new bs v a (low h) true true x y e = absurd (omega (arith, h, eqb-true _ _ x, eqb-true _ _ y))
  lookup_put b new bs v a (low h) true false x y e = rw (insert_low b new bs h, y) e
  lookup_put b new bs v a (low h) false true x y e = rw (insert_low b new bs h, y) refl
  lookup_put b new bs v a (low h) false false x y e = rw (insert_low b new bs h, y) e
  lookup_put b new bs v a (same h) true old x y e = rw (insert_same b new bs h a, x) refl
  lookup_put b new bs v a (same h) false true x y e = absurd (eqb-false _ _ x (sym h ∙ eqb-true _ _ y))
  lookup_put b new bs v a (same h) false false x y e = rw (insert_same b new bs h a, x) refl
  lookup_put b new bs v a (high h) true old x y e = rw (insert_high b new bs h a, x) refl
  lookup_put b new bs v a (high h) false true x y e = rw (insert_high b new bs h a, x, y) refl
  lookup_put b new bs v a (high h) false false x y e = rw (insert_high b new bs h a, x, y) refl

  -- after an insertion the new variable is bound, and the others as before
  pub lookup_inserted : (new : B) (bs : List B) (v : ℕ) → IsRising var_of bs
      → lookup var_of (inserted (by_var var_of) new bs) v ≡ cond (nat_eq (var_of new) v) (Some new) (lookup var_of bs v)
  unfolding IsStrictlySortedBy
  lookup_inserted new [] v r = refl
  lookup_inserted new (b ∷ bs) v r = lookup_put b new bs v r.0 (ranked (var_of b) (var_of new)) _ _ refl refl (lookup_inserted new bs v r.1)

  -- what a binding and others are above, the others are with that binding put among them: one step
  above_put : (n : ℕ) (b new : B) (bs : List B) → Above (var_of b) bs → nat_cmp n (var_of b) ≡ Less → nat_cmp n (var_of new) ≡ Less → Above n bs
      → Above n (inserted (by_var var_of) new bs) → Ranked (var_of b) (var_of new) → Above n (inserted (by_var var_of) new (b ∷ bs))
  above_put n b new bs a old own all e (low h) = subst (Above n) (sym (insert_low b new bs h)) (old, e)
  above_put n b new bs a old own all e (same h) = subst (Above n) (sym (insert_same b new bs h a)) (own, all)
  above_put n b new bs a old own all e (high h) = subst (Above n) (sym (insert_high b new bs h a)) (own, (old, all))

  above_inserted : (n : ℕ) (new : B) (bs : List B) → IsRising var_of bs → nat_cmp n (var_of new) ≡ Less → Above n bs → Above n (inserted (by_var var_of) new bs)
  unfolding IsStrictlySortedBy
  above_inserted n new [] r own a = (own, tt)
  above_inserted n new (b ∷ bs) r own a =
      above_put n b new bs r.0 a.0 own a.1 (above_inserted n new bs r.1 own a.1) (ranked (var_of b) (var_of new))

  rising_put : (b new : B) (bs : List B) → Above (var_of b) bs → IsRising var_of bs → IsRising var_of (inserted (by_var var_of) new bs)
      → Ranked (var_of b) (var_of new) → IsRising var_of (inserted (by_var var_of) new (b ∷ bs))
  unfolding IsStrictlySortedBy
  rising_put b new bs a r e (low h) = subst (IsRising var_of) (sym (insert_low b new bs h)) (above_inserted (var_of b) new bs r (less _ _ h) a, e)
  rising_put b new bs a r e (same h) = subst (IsRising var_of) (sym (insert_same b new bs h a)) (subst (λ n. Above n bs) h a, r)
  rising_put b new bs a r e (high h) =
      subst (IsRising var_of) (sym (insert_high b new bs h a)) ((less _ _ h, above_less (var_of new) (var_of b) bs h a), (a, r))

  -- bindings by rising variable stay so when one is put among them
  pub rising_inserted : (new : B) (bs : List B) → IsRising var_of bs → IsRising var_of (inserted (by_var var_of) new bs)
  unfolding IsStrictlySortedBy
  rising_inserted new [] r = (tt, tt)
  rising_inserted new (b ∷ bs) r = rising_put b new bs r.0 r.1 (rising_inserted new bs r.1) (ranked (var_of b) (var_of new))

  -- where a binding is of a variable, it is what the variable is bound to
  first_found : (b : B) (bs : List B) → lookup var_of (b ∷ bs) (var_of b) ≡ Some b
  first_found b bs = found_so _ b _ (eq-eqb (var_of b) (var_of b) refl)

  -- below the first of some bindings by rising variable nothing is bound
  unbound_before : (n : ℕ) (b : B) (bs : List B) → n < var_of b → Above (var_of b) bs → lookup var_of (b ∷ bs) n ≡ None
  unbound_before n b bs h a = unbound_below n (b ∷ bs) (less n (var_of b) h, above_less n (var_of b) bs h a)

  -- two first bindings under which one variable is looked up alike are one
  heads_at : (b c : B) (bs cs : List B) → Above (var_of b) bs → Above (var_of c) cs → ((v : ℕ) → lookup var_of (b ∷ bs) v ≡ lookup var_of (c ∷ cs) v)
      → Ranked (var_of b) (var_of c) → b ≡ c
  heads_at b c bs cs p q e (low h) = absurd (none-some b (sym (unbound_before (var_of b) c cs h q) ∙ sym (e (var_of b)) ∙ first_found b bs))
  heads_at b c bs cs p q e (same h) =
      let there : lookup var_of (c ∷ cs) (var_of b) ≡ Some c = subst (λ n. lookup var_of (c ∷ cs) n ≡ Some c) (sym h) (first_found c cs) in
      ap (λ o. unwrap_or o b) (sym (first_found b bs) ∙ e (var_of b) ∙ there)
  heads_at b c bs cs p q e (high h) = absurd (none-some c (sym (unbound_before (var_of c) b bs h p) ∙ e (var_of c) ∙ first_found c cs))

  -- behind one first binding the others are looked up alike
  tails_at : (b : B) (bs cs : List B) → Above (var_of b) bs → Above (var_of b) cs → (v : ℕ) (own : Bool) → nat_eq (var_of b) v ≡ own
      → cond own (Some b) (lookup var_of bs v) ≡ cond own (Some b) (lookup var_of cs v) → lookup var_of bs v ≡ lookup var_of cs v
  tails_at b bs cs p q v true h e =
      let at : var_of b ≡ v = eqb-true _ _ h in
      subst (λ n. lookup var_of bs n ≡ lookup var_of cs n) at (unbound_below (var_of b) bs p ∙ sym (unbound_below (var_of b) cs q))
  tails_at b bs cs p q v false h e = e

  cons_alike : (b c : B) (bs cs : List B) → b ≡ c → bs ≡ cs → b ∷ bs ≡ c ∷ cs
  cons_alike b c bs cs e f = ap (λ x. x ∷ bs) e ∙ ap (λ l. c ∷ l) f

  -- bindings by rising variable under which each variable is looked up alike are one list
  pub rising_exact : (bs cs : List B) → IsRising var_of bs → IsRising var_of cs → ((v : ℕ) → lookup var_of bs v ≡ lookup var_of cs v) → bs ≡ cs
  unfolding IsStrictlySortedBy
  rising_exact [] [] r s e = refl
  rising_exact [] (c ∷ cs) r s e = absurd (none-some c (e (var_of c) ∙ first_found c cs))
  rising_exact (b ∷ bs) [] r s e = absurd (none-some b (sym (e (var_of b)) ∙ first_found b bs))
  rising_exact (b ∷ bs) (c ∷ cs) r s e =
      let one : b ≡ c = heads_at b c bs cs r.0 s.0 e (ranked (var_of b) (var_of c)) in
      let over : Above (var_of b) cs = subst (λ x. Above (var_of x) cs) (sym one) s.0 in
      cons_alike b c bs cs one (rising_exact bs cs r.1 s.1
      (λ v. tails_at b bs cs r.0 over v _ refl (e v ∙ ap (λ x. lookup var_of (x ∷ cs) v) (sym one))))

  -- a merge rises
  pub rising_merged : (left right : List B) → IsRising var_of right → IsRising var_of (merged var_of left right)
  rising_merged [] right r = r
  rising_merged (b ∷ left) right r = rising_merged left (inserted (by_var var_of) b right) (rising_inserted b right r)

  -- a merge with a first binding: one step
  merged_at : (b : B) (left right : List B) (v : ℕ) → Above (var_of b) left → (own : Bool) → nat_eq (var_of b) v ≡ own
      → option_or (lookup var_of left v) (cond own (Some b) (lookup var_of right v)) ≡ option_or (cond own (Some b) (lookup var_of left v)) (lookup var_of right v)
  merged_at b left right v a true h =
      let at : var_of b ≡ v = eqb-true _ _ h in
      let none : lookup var_of left v ≡ None = subst (λ n. lookup var_of left n ≡ None) at (unbound_below (var_of b) left a) in rw none refl
  merged_at b left right v a false h = refl

  -- in a merge a variable is bound as on the left, or else as on the right
  pub lookup_merged : (left right : List B) (v : ℕ) → IsRising var_of left → IsRising var_of right
      → lookup var_of (merged var_of left right) v ≡ option_or (lookup var_of left v) (lookup var_of right v)
  unfolding IsStrictlySortedBy
  lookup_merged [] right v r s = refl
  lookup_merged (b ∷ left) right v r s =
      lookup_merged left (inserted (by_var var_of) b right) v r.1 (rising_inserted b right s)
      ∙ ap (option_or (lookup var_of left v)) (lookup_inserted b right v s)
      ∙ merged_at b left right v r.0 _ refl

  -- the same after an insertion of a binding that is there: one step
  stays_at : (b : B) (bs : List B) (v : ℕ) → lookup var_of bs (var_of b) ≡ Some b → (own : Bool) → nat_eq (var_of b) v ≡ own
      → cond own (Some b) (lookup var_of bs v) ≡ lookup var_of bs v
  stays_at b bs v there true h = sym (subst (λ n. lookup var_of bs n ≡ Some b) (eqb-true _ _ h) there)
  stays_at b bs v there false h = refl

  -- a binding that is there already changes nothing when it is put among the others
  pub inserted_there : (b : B) (bs : List B) → IsRising var_of bs → lookup var_of bs (var_of b) ≡ Some b → inserted (by_var var_of) b bs ≡ bs
  inserted_there b bs r there = rising_exact _ _ (rising_inserted b bs r) r (λ v. lookup_inserted b bs v r ∙ stays_at b bs v there _ refl)

  -- a number below the variables of some bindings is below each
  above_at : (n : ℕ) (bs : List B) (i : ℕ) (d : B) → Above n bs → i < length bs → nat_cmp n (var_of (get_or bs i d)) ≡ Less
  above_at n [] i d a h = absurd (omega (arith, h))
  above_at n (b ∷ bs) zero d a h = a.0
  above_at n (b ∷ bs) (suc i) d a h = above_at n bs i d a.1 (omega (arith, h))

  above_take : (n : ℕ) (bs : List B) (i : ℕ) → Above n bs → Above n (take i bs)
  above_take n bs zero a = tt
  above_take n [] (suc i) a = tt
  above_take n (b ∷ bs) (suc i) a = (a.0, above_take n bs i a.1)

  -- the first of some bindings by rising variable rise
  pub rising_take : (bs : List B) (i : ℕ) → IsRising var_of bs → IsRising var_of (take i bs)
  unfolding IsStrictlySortedBy
  rising_take bs zero r = tt
  rising_take [] (suc i) r = tt
  rising_take (b ∷ bs) (suc i) r = (above_take (var_of b) bs i r.0, rising_take bs i r.1)

  -- a lookup passes over a binding of a lesser variable
  past : (b : B) (bs : List B) (v : ℕ) → nat_cmp (var_of b) v ≡ Less → lookup var_of (b ∷ bs) v ≡ lookup var_of bs v
  past b bs v h =
      let under = is_below (var_of b) v h in
      found_not _ b _ (ne_eqb (var_of b) v (λ e. omega (arith, e, under)))

  -- before a binding its variable is not bound
  pub absent_before : (bs : List B) (i : ℕ) (d : B) → IsRising var_of bs → i < length bs → lookup var_of (take i bs) (var_of (get_or bs i d)) ≡ None
  unfolding IsStrictlySortedBy
  absent_before [] i d r h = absurd (omega (arith, h))
  absent_before (b ∷ bs) zero d r h = refl
  absent_before (b ∷ bs) (suc i) d r h =
      past b (take i bs) _ (above_at (var_of b) bs i d r.0 (omega (arith, h))) ∙ absent_before bs i d r.1 (omega (arith, h))

  -- each binding is what its variable is bound to
  pub found_at : (bs : List B) (i : ℕ) (d : B) → IsRising var_of bs → i < length bs → lookup var_of bs (var_of (get_or bs i d)) ≡ Some (get_or bs i d)
  unfolding IsStrictlySortedBy
  found_at [] i d r h = absurd (omega (arith, h))
  found_at (b ∷ bs) zero d r h = first_found b bs
  found_at (b ∷ bs) (suc i) d r h = past b bs _ (above_at (var_of b) bs i d r.0 (omega (arith, h))) ∙ found_at bs i d r.1 (omega (arith, h))

  -- what is found is of the variable
  found_var_at : (b x : B) (bs : List B) (v : ℕ) (own : Bool) → nat_eq (var_of b) v ≡ own → (lookup var_of bs v ≡ Some x → var_of x ≡ v)
      → cond own (Some b) (lookup var_of bs v) ≡ Some x → var_of x ≡ v
  found_var_at b x bs v true h later e = ap var_of (ap (λ o. unwrap_or o b) (sym e)) ∙ eqb-true _ _ h
  found_var_at b x bs v false h later e = later e

  pub found_var : (bs : List B) (v : ℕ) (x : B) → lookup var_of bs v ≡ Some x → var_of x ≡ v
  found_var [] v x e = absurd (none-some x e)
  found_var (b ∷ bs) v x e = found_var_at b x bs v _ refl (found_var bs v x) e

  -- what a test finds of all holds of the one that is found
  found_passes_at : (p : B → Bool) (b x : B) (bs : List B) (own here : Bool) (o : Option B) → p b ≡ here → (o ≡ Some x → p x ≡ true)
      → here ≡ true → cond own (Some b) o ≡ Some x → p x ≡ true
  found_passes_at p b x bs true here o h later t e = ap p (ap (λ o. unwrap_or o b) (sym e)) ∙ h ∙ t
  found_passes_at p b x bs false here o h later t e = later e

  pub found_passes : (p : B → Bool) (bs : List B) (v : ℕ) (x : B) → list_all p bs ≡ true → lookup var_of bs v ≡ Some x → p x ≡ true
  found_passes p [] v x a e = absurd (none-some x e)
  found_passes p (b ∷ bs) v x a e =
      found_passes_at p b x bs (nat_eq (var_of b) v) (p b) (lookup var_of bs v) refl (λ o. found_passes p bs v x (second_so (p b) (list_all p bs) a) o)
      (first_so (p b) (list_all p bs) a) e

  -- where a test holds of each binding that is found, it holds of all
  found_first : (b x : B) (bs : List B) (v : ℕ) → Above (var_of b) bs → (own : Bool) → nat_eq (var_of b) v ≡ own → lookup var_of bs v ≡ Some x
      → cond own (Some b) (lookup var_of bs v) ≡ Some x
  found_first b x bs v a true h e =
      absurd (none-some x (sym (subst (λ n. lookup var_of bs n ≡ None) (eqb-true _ _ h) (unbound_below (var_of b) bs a)) ∙ e))
  found_first b x bs v a false h e = e

  pub all_found : (p : B → Bool) (bs : List B) → IsRising var_of bs → ((v : ℕ) (x : B) → lookup var_of bs v ≡ Some x → p x ≡ true) → list_all p bs ≡ true
  unfolding IsStrictlySortedBy
  all_found p [] r h = refl
  all_found p (b ∷ bs) r h =
      and_from (p b) (list_all p bs) (h (var_of b) b (first_found b bs))
      (all_found p bs r.1 (λ v x e. h v x (found_first b x bs v r.0 _ refl e)))

  -- a binding to come of a compatible solution is in the merge so far where its variable is bound there
  there_already : (x : B) (o p : Option B) (c : B) → ((y : B) → o ≡ Some y → x ≡ y) → p ≡ None → option_or p o ≡ Some c → option_or p o ≡ Some x
  there_already x o p c alike none e =
      let here : option_or p o ≡ o = rw none refl in
      here ∙ (sym here ∙ e) ∙ ap Some (sym (alike c (sym here ∙ e)))

  -- one more binding on the left of a merge is put among those merged before
  pub merged_more : (left right : List B) (i : ℕ) (d : B) → i < length left
      → merged var_of (take (i + 1) left) right ≡ inserted (by_var var_of) (get_or left i d) (merged var_of (take i left) right)
  merged_more left right i d h = fold_more (λ solution b. inserted (by_var var_of) b solution) right left i d h

  -- it changes nothing where its variable is bound already
  pub merged_stays : (left right : List B) (i : ℕ) (d c : B) → IsRising var_of left → IsRising var_of right → AreCompatible var_of left right → i < length left
      → lookup var_of (merged var_of (take i left) right) (var_of (get_or left i d)) ≡ Some c
      → merged var_of (take (i + 1) left) right ≡ merged var_of (take i left) right
  merged_stays left right i d c r s agree h e =
      let x = get_or left i d in
      let split = lookup_merged (take i left) right (var_of x) (rising_take left i r) s in
      let there : lookup var_of (merged var_of (take i left) right) (var_of x) ≡ Some x =
      split ∙ there_already x (lookup var_of right (var_of x)) (lookup var_of (take i left) (var_of x)) c
      (λ b f. agree (var_of x) x b (found_at left i d r h) f) (absent_before left i d r h) (sym split ∙ e)
      in merged_more left right i d h ∙ inserted_there x _ (rising_merged (take i left) right s) there
