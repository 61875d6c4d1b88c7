-- What a seat knows still fits the history after each step.
use Rattle.std.proofs.Common.{◌≡◌, ◌≢◌, ℕ, suc, ◌+◌, ◌*◌, ◌<◌, ◌≤◌, List, [], ◌∷◌, ◌++◌, length, refl, ap, sym, ◌∙◌, arith, length-append, suc-mul}
use Rattle.space_turn.specs.declared.view.Entry.{Entry}
use Rattle.space_turn.specs.declared.view.View.{View}
use Rattle.space_turn.specs.Histories.{entry, calls_by, longer}
use Rattle.space_turn.specs.Rule.{owned, KnowsItsCalls, Fits}
use Rattle.space_turn.specs.Steps.{looked, holding, added, released, parted, split_from, meeting, joined}
use Rattle.space_turn.proofs.Beginnings.{prefix_self, prefix_longer, prefix_trans}
use Rattle.space_turn.proofs.CallsOfANumber.{calls_by-own, calls_by-other, none_before, calls_between, longer_covers}
use Rattle.space_turn.proofs.NumbersOfASplit.{doubled}

twice : (k : ℕ) → suc k + suc k ≡ suc (k + suc k)
twice k = omega arith

module _ {C X : Type 0} where
  -- a seat that fits the history knows its own calls
  pub knows_its_calls : (root : X) (h : List (Entry C)) (v : View C X) → Fits root h v → KnowsItsCalls v
  knows_its_calls root h v f = (f.own_seen, (λ k. none_before (owned v (suc k)) v.seen h f.begins (f.not_given k)), f.strides)

  pub first_owned : (v : View C X) → owned v 0 ≡ v.number
  first_owned v = omega arith

  -- no other number that a seat owns is its own
  pub later_owned : (v : View C X) (k : ℕ) → 0 < v.stride → v.number ≢ owned v (suc k)
  later_owned v k pos same = let s : ℕ = v.stride in let x : ℕ = k * v.stride in let e : suc k * v.stride ≡ x + s = suc-mul k v.stride in
      let n : ℕ = v.number in let same' : n ≡ n + suc k * v.stride = same in omega (arith, e)

  -- a look changes nothing that has to fit
  pub fits_looked : (root : X) (h : List (Entry C)) (v : View C X) (word : ℕ) → Fits root h v → word ≤ 2 * length h + 1 → Fits root h (looked v word)
  fits_looked root h v word f within = record { of_root = f.of_root; begins = f.begins; told_begins = f.told_begins; found_within = within; own_seen = f.own_seen; own_all = f.own_all; not_given = f.not_given; strides = f.strides; met_another = f.met_another }

  pub fits_holding : (root : X) (h k : List (Entry C)) (v : View C X) → Fits root h v → Fits root h (holding v k)
  fits_holding root h k v f = record { of_root = f.of_root; begins = f.begins; told_begins = f.told_begins; found_within = f.found_within; own_seen = f.own_seen; own_all = f.own_all; not_given = f.not_given; strides = f.strides; met_another = f.met_another }

  pub fits_released : (root : X) (h : List (Entry C)) (v : View C X) → Fits root h v → Fits root h (released v)
  fits_released root h v f = record { of_root = f.of_root; begins = f.begins; told_begins = f.told_begins; found_within = f.found_within; own_seen = f.own_seen; own_all = f.own_all; not_given = f.not_given; strides = f.strides; met_another = f.met_another }

  pub fits_joined : (root : X) (h : List (Entry C)) (v : View C X) → Fits root h v → Fits root h (joined v)
  fits_joined root h v f = let c = longer_covers h v.seen v.told f.begins f.told_begins in
      record { of_root = f.of_root; begins = c.2; told_begins = f.told_begins; found_within = f.found_within; own_seen = f.own_seen ∙ calls_between v.number v.seen (longer v.seen v.told) h c.0 c.2 (sym f.own_seen ∙ f.own_all); own_all = f.own_all; not_given = f.not_given; strides = f.strides; met_another = f.met_another }

  -- the caller after its call
  pub fits_added : (root : X) (v : View C X) (call : C) → Fits root v.kept v → Fits root (v.kept ++ entry v.number call ∷ []) (added v call)
  fits_added root v call f =
      let more = length-append v.kept (entry v.number call ∷ []) in
      let own = ap (λ l. l ++ call ∷ []) f.own_all ∙ sym (calls_by-own v.number v.kept call) in
      record {
        of_root = f.of_root;
        begins = prefix_self (v.kept ++ entry v.number call ∷ []);
        told_begins = prefix_trans v.told v.kept (v.kept ++ entry v.number call ∷ []) f.told_begins (prefix_longer v.kept (entry v.number call ∷ []));
        found_within = let w = f.found_within in omega (arith, more);
        own_seen = own;
        own_all = own;
        not_given = λ k. calls_by-other (owned v (suc k)) v.number v.kept call (later_owned v k f.strides) ∙ f.not_given k;
        strides = f.strides;
        met_another = f.met_another;
      }

  -- the other seats after the call of one
  pub fits_more : (root : X) (h : List (Entry C)) (u : View C X) (seat : ℕ) (call : C) → ((k : ℕ) → seat ≢ owned u k) → Fits root h u → Fits root (h ++ entry seat call ∷ []) u
  fits_more root h u seat call other f =
      let more = length-append h (entry seat call ∷ []) in
      record {
        of_root = f.of_root;
        begins = prefix_trans u.seen h (h ++ entry seat call ∷ []) f.begins (prefix_longer h (entry seat call ∷ []));
        told_begins = prefix_trans u.told h (h ++ entry seat call ∷ []) f.told_begins (prefix_longer h (entry seat call ∷ []));
        found_within = let w = f.found_within in omega (arith, more);
        own_seen = f.own_seen;
        own_all = f.own_all ∙ sym (calls_by-other u.number seat h call (λ e. other 0 (e ∙ sym (first_owned u))));
        not_given = λ k. calls_by-other (owned u (suc k)) seat h call (other (suc k)) ∙ f.not_given k;
        strides = f.strides;
        met_another = f.met_another;
      }

  -- a seat that was split, and the one that was split from it
  pub left_owns : (v : View C X) (a : ℕ) → owned (parted v) a ≡ owned v (a + a)
  left_owns v a = ap (λ (k : ℕ). v.number + k) (doubled a v.stride)

  pub right_owns : (v : View C X) (b : ℕ) → owned (split_from v (v.number + v.stride)) b ≡ owned v (suc (b + b))
  right_owns v b = let x : ℕ = b * (v.stride + v.stride) in let y : ℕ = (b + b) * v.stride in let e : x ≡ y = doubled b v.stride in let t : suc (b + b) * v.stride ≡ y + v.stride = suc-mul (b + b) v.stride in omega (arith, e, t)

  pub fits_parted : (root : X) (h : List (Entry C)) (v : View C X) → Fits root h v → Fits root h (parted v)
  fits_parted root h v f = record { of_root = f.of_root; begins = f.begins; told_begins = f.told_begins; found_within = f.found_within; own_seen = f.own_seen; own_all = f.own_all; not_given = λ k. ap (λ (n : ℕ). calls_by n h) (left_owns v (suc k) ∙ ap (owned v) (twice k)) ∙ f.not_given (k + suc k); strides = (let s = f.strides in omega arith); met_another = f.met_another }

  pub fits_split : (root : X) (h : List (Entry C)) (v : View C X) → Fits root h v → Fits root h (split_from v (v.number + v.stride))
  fits_split root h v f =
      let own : calls_by (v.number + v.stride) h ≡ [] = ap (λ (n : ℕ). calls_by n h) (sym (first_owned (split_from v (v.number + v.stride))) ∙ right_owns v 0) ∙ f.not_given 0 in
      record {
        of_root = f.of_root;
        begins = f.begins;
        told_begins = (h, refl);
        found_within = omega arith;
        own_seen = sym (none_before (v.number + v.stride) v.seen h f.begins own);
        own_all = sym own;
        not_given = λ k. ap (λ (n : ℕ). calls_by n h) (right_owns v (suc k)) ∙ f.not_given (suc k + suc k);
        strides = (let s = f.strides in omega arith);
        met_another = (λ e. let s = f.strides in omega arith);
      }

  pub fits_meeting : (root : X) (h : List (Entry C)) (v w : View C X) → w.number ≢ v.number → Fits root h v → Fits root h w → Fits root h (meeting v w.seen w.number)
  fits_meeting root h v w other f g = record { of_root = f.of_root; begins = f.begins; told_begins = g.begins; found_within = f.found_within; own_seen = f.own_seen; own_all = f.own_all; not_given = f.not_given; strides = f.strides; met_another = other }

  -- both seats of a split know their own calls
  pub parted_knows : (v : View C X) → KnowsItsCalls v → KnowsItsCalls (parted v)
  parted_knows v k = (k.0, (λ n. ap (λ (number : ℕ). calls_by number v.seen) (left_owns v (suc n) ∙ ap (owned v) (twice n)) ∙ k.1 (n + suc n)), (let s = k.2 in omega arith))

  pub split_knows : (v : View C X) → KnowsItsCalls v → KnowsItsCalls (split_from v (v.number + v.stride))
  split_knows v k =
      let own : calls_by (v.number + v.stride) v.seen ≡ [] = ap (λ (n : ℕ). calls_by n v.seen) (sym (first_owned (split_from v (v.number + v.stride))) ∙ right_owns v 0) ∙ k.1 0 in
      (sym own, (λ n. ap (λ (number : ℕ). calls_by number v.seen) (right_owns v (suc n)) ∙ k.1 (suc n + suc n)), (let s = k.2 in omega arith))

  -- the new number is another
  pub next_number : (v : View C X) → KnowsItsCalls v → v.number + v.stride ≢ v.number
  next_number v k same = let s = k.2 in omega arith
