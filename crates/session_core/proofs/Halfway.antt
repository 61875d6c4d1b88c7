-- A loop over entries that has come so far: the first are related to what they were, and the others are what they were.
use Rattle.std.proofs.Common.{◌≡◌, ◌≤◌, ◌<◌, ◌+◌, ℕ, zero, suc, List, [], ◌∷◌, ◌++◌, length, get_or, set, take, drop, map, Contains, refl, sym, ap, subst, ◌∙◌, arith, add-one}
use Rattle.std.proofs.lemmas.List.{set-get_or, length-set, get_or_default}
use Rattle.std.proofs.lemmas.List.Elements.{Contains-get_or}
use Rattle.std.proofs.Math.Seq.{take-append_seam}
use Rattle.session_core.specs.Entries.{Each}
use Rattle.session_core.specs.declared.entry.Entry.{Entry}

abbrev pub Halfway : (Entry → Entry → Type 0) → ℕ → List Entry → List Entry → Type 0
Halfway R zero old new = new ≡ old
Halfway R (suc n) [] new = new ≡ []
Halfway R (suc n) (x ∷ xs) [] = ⊥
Halfway R (suc n) (x ∷ xs) (y ∷ ys) = R x y × Halfway R n xs ys

module _ (R : Entry → Entry → Type 0) where
  -- the entry whose turn it is is what it was
  pub halfway_item : (n : ℕ) (old new : List Entry) (entry : Entry) → Halfway R n old new → get_or new n entry ≡ get_or old n entry
  halfway_item zero old new entry h = ap (λ l. get_or l 0 entry) h
  halfway_item (suc n) [] new entry h = ap (λ l. get_or l (suc n) entry) h
  halfway_item (suc n) (x ∷ xs) [] entry h = absurd h
  halfway_item (suc n) (x ∷ xs) (y ∷ ys) entry h = halfway_item n xs ys entry h.1

  -- there are as many as there were
  pub halfway_long : (n : ℕ) (old new : List Entry) → Halfway R n old new → length new ≡ length old
  halfway_long zero old new h = ap length h
  halfway_long (suc n) [] new h = ap length h
  halfway_long (suc n) (x ∷ xs) [] h = absurd h
  halfway_long (suc n) (x ∷ xs) (y ∷ ys) h = ap suc (halfway_long n xs ys h.1)

  next : (n : ℕ) (old new : List Entry) (x y : Entry) → n < length old → x ≡ get_or old n x → R x y → Halfway R n old new → Halfway R (suc n) old (set new n y)
  next zero [] new x y within is r h = absurd (omega arith)
  next zero (a ∷ xs) [] x y within is r h = absurd (cc)
  next zero (a ∷ xs) (b ∷ ys) x y within is r h = (subst (λ e. R e y) is r, tail_same a b xs ys h)
    where
      tail_same : (a b : Entry) (xs ys : List Entry) → b ∷ ys ≡ a ∷ xs → ys ≡ xs
      tail_same a b xs ys e = cc
  next (suc n) [] new x y within is r h = absurd (omega arith)
  next (suc n) (a ∷ xs) [] x y within is r h = absurd h
  next (suc n) (a ∷ xs) (b ∷ ys) x y within is r h = (h.0, next n xs ys x y (omega arith) is r h.1)

  -- one more has had its turn
  pub halfway_next : (n : ℕ) (old new : List Entry) (x y : Entry) → n < length new → R (get_or new n x) y → Halfway R n old new → Halfway R (n + 1) old (set new n y)
  halfway_next n old new x y within r h =
      let long = halfway_long n old new h in
      let there : n < length old = omega (arith, long) in
      let item = get_or new n x in
      rw add-one (next n old new item y there (halfway_item n old new x h ∙ get_or_default old n x item there) r h)

  -- all have had their turn
  pub halfway_all : (n : ℕ) (old new : List Entry) → length new ≤ n → Halfway R n old new → Each R old new
  halfway_all zero [] [] past h = tt
  halfway_all zero [] (y ∷ ys) past h = absurd (omega arith)
  halfway_all zero (x ∷ xs) [] past h = absurd (cc)
  halfway_all zero (x ∷ xs) (y ∷ ys) past h = absurd (omega arith)
  halfway_all (suc n) [] [] past h = tt
  halfway_all (suc n) [] (y ∷ ys) past h = absurd (cc)
  halfway_all (suc n) (x ∷ xs) [] past h = absurd h
  halfway_all (suc n) (x ∷ xs) (y ∷ ys) past h = (h.0, halfway_all n xs ys (omega arith) h.1)

  -- what holds of an entry and itself holds of the others
  pub halfway_each : ((entry : Entry) → R entry entry) → (n : ℕ) (old new : List Entry) → Halfway R n old new → Each R old new
  halfway_each self zero [] [] h = tt
  halfway_each self zero [] (y ∷ ys) h = absurd (cc)
  halfway_each self zero (x ∷ xs) [] h = absurd (cc)
  halfway_each self zero (x ∷ xs) (y ∷ ys) h = both x y xs ys (halfway_each self zero xs ys) h
    where
      both : (x y : Entry) (xs ys : List Entry) → (ys ≡ xs → Each R xs ys) → y ∷ ys ≡ x ∷ xs → Each R (x ∷ xs) (y ∷ ys)
      both x y xs ys rest e = let head : y ≡ x = cc in let tail : ys ≡ xs = cc in (subst (R x) (sym head) (self x), rest tail)
  halfway_each self (suc n) [] [] h = tt
  halfway_each self (suc n) [] (y ∷ ys) h = absurd (cc)
  halfway_each self (suc n) (x ∷ xs) [] h = absurd h
  halfway_each self (suc n) (x ∷ xs) (y ∷ ys) h = (h.0, halfway_each self n xs ys h.1)

  pub halfway_set : (n : ℕ) (old new now : List Entry) (x y : Entry) → now ≡ set new n y → n < length new → R (get_or new n x) y → Halfway R n old new → Halfway R (n + 1) old now
  halfway_set n old new now x y e within r h = subst (Halfway R (n + 1) old) (sym e) (halfway_next n old new x y within r h)

  -- where an entry that had its turn stayed as it was
  pub halfway_stay : (n : ℕ) (old new : List Entry) (x : Entry) → n < length new → R (get_or new n x) (get_or new n x) → Halfway R n old new → Halfway R (n + 1) old new
  halfway_stay n old new x within r h = subst (Halfway R (n + 1) old) (set-get_or new n x) (halfway_next n old new x (get_or new n x) within r h)

  -- what holds of all entries as they were holds of the one whose turn it is
  pub halfway_had : (P : Entry → Type 0) (n : ℕ) (old given new : List Entry) (entry : Entry) → given ≡ old → n < length new → Halfway R n given new
      → ((one : Entry) → Contains old one → P one) → P (get_or new n entry)
  halfway_had P n old given new entry e within h all =
      let long = halfway_long n given new h in
      let there : n < length given = omega (arith, long) in
      subst P (sym (halfway_item n given new entry h))
      (all (get_or given n entry) (subst (λ l. Contains l (get_or given n entry)) e (Contains-get_or given n entry there)))

-- a list that took the place of one as long
pub whole : (len : ℕ) (old new : List Entry) → length new ≡ length old → len ≡ length old → take len (new ++ drop (length new) old) ≡ new
whole len old new long e =
    ap (λ n. take n (new ++ drop (length new) old)) (e ∙ sym long) ∙ take-append_seam new (drop (length new) old)

module _ (R : Entry → Entry → Type 0) where
  -- after the loop each entry is related to what it was
  pub halfway_done : (len n : ℕ) (old given new : List Entry) → given ≡ old → len ≡ length given → length new ≡ length given → length given ≤ n → Halfway R n given new
      → Each R old (take len (new ++ drop (length new) old))
  halfway_done len n old given new e l long past h =
      let same : take len (new ++ drop (length new) old) ≡ new = whole len old new (long ∙ ap length e) (l ∙ ap length e) in
      subst (Each R old) (sym same) (subst (λ l. Each R l new) e (halfway_all R n given new (omega (arith, long)) h))

  -- and where the loop stopped at an entry
  pub halfway_stopped : ((entry : Entry) → R entry entry) → (len n : ℕ) (old given new : List Entry) (x y : Entry) → given ≡ old → len ≡ length given → length new ≡ length given
      → n < length given → R (get_or new n x) y → Halfway R n given new → Each R old (take len (set new n y ++ drop (length (set new n y)) old))
  halfway_stopped self len n old given new x y e l long within r h =
      let after = set new n y in
      let as_long : length after ≡ length given = length-set new n y ∙ long in
      let same : take len (after ++ drop (length after) old) ≡ after = whole len old after (as_long ∙ ap length e) (l ∙ ap length e) in
      let there : n < length new = omega (arith, long) in
      subst (Each R old) (sym same) (subst (λ l. Each R l after) e (halfway_each R self (n + 1) given after (halfway_next R n given new x y there r h)))

-- where each entry is what a function makes of it, the list is what it makes of the list
pub each_map : (change : Entry → Entry) (old new : List Entry) → Each (λ one other. other ≡ change one) old new → new ≡ map change old
each_map change [] [] h = refl
each_map change [] (y ∷ ys) h = absurd h
each_map change (x ∷ xs) [] h = absurd h
each_map change (x ∷ xs) (y ∷ ys) h = let rest = each_map change xs ys h.1 in let head = h.0 in cc

module _ (R S : Entry → Entry → Type 0) (weaker : (one other : Entry) → R one other → S one other) where
  -- where one relation holds of each, so does a weaker one
  pub each_weaker : (old new : List Entry) → Each R old new → Each S old new
  each_weaker [] [] h = tt
  each_weaker [] (y ∷ ys) h = absurd h
  each_weaker (x ∷ xs) [] h = absurd h
  each_weaker (x ∷ xs) (y ∷ ys) h = (weaker x y h.0, each_weaker xs ys h.1)

  pub halfway_weaker : (n : ℕ) (old new : List Entry) → Halfway R n old new → Halfway S n old new
  halfway_weaker zero old new h = h
  halfway_weaker (suc n) [] new h = h
  halfway_weaker (suc n) (x ∷ xs) [] h = absurd h
  halfway_weaker (suc n) (x ∷ xs) (y ∷ ys) h = (weaker x y h.0, halfway_weaker n xs ys h.1)
