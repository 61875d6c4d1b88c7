-- Each step keeps the rule of a turn, and tells its seat what it may know.
use Rattle.std.proofs.Common.{◌≡◌, ◌≢◌, ◌⊎◌, ℕ, zero, suc, ◌+◌, ◌-◌, ◌*◌, ◌^◌, ◌%◌, ◌<◌, ◌≤◌, true, false, bit_or, List, [], ◌∷◌, ◌++◌, length, set, Option, Some, refl, ap, sym, ◌∙◌, subst, inl, inr, ⊎_elim, arith, length-append}
use mathlib.Core.Option.{some, some-injective, some-ne-none}
use mathlib.Core.List.{IsPrefix}
use lib.ListN.{get_elem?}
use Rattle.std.specs.Prelude.{slice_index, slice_set}
use Rattle.std.proofs.lemmas.List.{map-append}
use Rattle.atomic_table.specs.Table.{State, Me, keeps, takes, gives, Allows, Splits, Joins, opening, Final, Seen}
use Rattle.atomic_table.proofs.Lists.{at_set, set_else, set_here}
use Rattle.space_turn.specs.declared.view.Entry.{Entry}
use Rattle.space_turn.specs.declared.view.View.{View}
use Rattle.space_turn.specs.Histories.{entry, calls_of, calls_by}
use Rattle.space_turn.specs.Rule.{owned, Fits, At, NoneHolds, OneHolds, IsHome, IsOut, Kept}
use Rattle.space_turn.specs.Steps.{newcomer, spent_seat, looked, holding, added, released, parted, split_from, meeting, joined, IsIdle, IsHolding, Looks, Asks, Adds, Releases, Meets}
use Rattle.space_turn.proofs.Beginnings.{prefix_length}
use Rattle.space_turn.proofs.CallsOfANumber.{longer_covers}
use Rattle.space_turn.proofs.NumbersOfASplit.{even_odd}
use Rattle.space_turn.proofs.SeatsByPlace.{each_set, within_same, apart_set, apart_more, each_more, none_set, none_more, one_set, one_more, one_now, holder_keeps, none_after, not_both}
use Rattle.space_turn.proofs.ViewsFitTheHistory.{knows_its_calls, first_owned, fits_looked, fits_holding, fits_released, fits_joined, fits_added, fits_more, left_owns, right_owns, fits_parted, fits_split, fits_meeting}
use Rattle.space_turn.proofs.Words.{double_is_even, next_is_odd, or_even, or_odd, after_call, after_refusal}

module _ {M C X : Type 0} (stands : M → List C → Type 0) (root_of : M → X) (root : X) where
  abbrev V : Type 0
  V = View C X

  abbrev St : Type 0
  St = State (Option M) V

  abbrev Seated : Type 0
  Seated = Me (Option M) V

  abbrev Rule : St → Type 0
  Rule = Kept stands root_of root

  -- the word of a turn, whoever holds it
  abbrev Word : List (Entry C) → List ℕ → Type 0
  Word h words = (k : ℕ) × (words ≡ k ∷ []) × (2 * length h ≤ k) × (k ≤ 2 * length h + 1)

  word_of : (s : St) (k : Rule s) → Word k.history s.words
  word_of s k = ⊎_elim (λ t. (2 * length k.history, t.0, omega arith, omega arith)) (λ t. (2 * length k.history + 1, t.0, omega arith, omega arith)) k.turn

  -- nothing but the views changed
  turn_with : (s : St) (h : List (Entry C)) (words : List ℕ) (views : List V) → words ≡ s.words → (NoneHolds s.views → NoneHolds views) → (OneHolds h s.views → OneHolds h views)
      → IsHome stands root_of root h s ⊎ IsOut stands root_of root h s
      → IsHome stands root_of root h record { words = words; homes = s.homes; views = views } ⊎ IsOut stands root_of root h record { words = words; homes = s.homes; views = views }
  turn_with s h words views same nobody one turn =
      ⊎_elim (λ t. inl (same ∙ t.0, nobody t.1, t.2, t.3, t.4, t.5)) (λ t. inr (same ∙ t.0, one t.1)) turn

  same_word : (words : List ℕ) (k : ℕ) → words ≡ k ∷ [] → slice_set words 0 (slice_index words 0) ≡ words
  same_word words k e = ap (λ (l : List ℕ). slice_set l 0 (slice_index l 0)) e ∙ sym e

  -- a seat changes what it knows, and holds nothing before and after
  knows_more : (s : St) (k : Rule s) (id : ℕ) (v w : V) → At s.views id v → v.live ≡ true → v.holds ≡ false → w.holds ≡ false → w.number ≡ v.number → w.stride ≡ v.stride → Fits root k.history w
      → Rule record { words = slice_set s.words 0 (slice_index s.words 0); homes = s.homes; views = set s.views id w }
  knows_more s k id v w here live free free' number stride fits = record {
    history = k.history;
    fits = each_set root k.history s.views id w (λ _. fits) (λ j u _ found l. k.fits j u found l);
    apart = apart_set s.views id v w k.apart here (within_same w v live number stride);
    within = k.within;
    turn = turn_with s k.history (slice_set s.words 0 (slice_index s.words 0)) (set s.views id w) (let t = word_of s k in same_word s.words t.0 t.1) (λ nobody. none_set s.views id w nobody free') (λ one. one_set k.history s.views id v w one here free free') k.turn;
  }

  pub looks : (slots id : ℕ) (me : Seated) → IsIdle me → Allows Rule slots id me 0 (λ n. n) (Looks me)
  looks slots id me idle s k wide here small =
      let w = looked me.0 (slice_index s.words 0) in
      let f = k.fits id me.0 here idle.1 in
      let t = word_of s k in
      let found : slice_index s.words 0 ≡ t.0 = ap (λ (l : List ℕ). slice_index l 0) t.1 in
      let below = prefix_length me.0.seen k.history f.begins in
      let least = t.2 in let most = t.3 in (
        w,
        keeps,
        tt,
        knows_more s k id me.0 w here idle.1 idle.2 idle.2 refl refl (fits_looked root k.history me.0 (slice_index s.words 0) f (omega arith)),
        (refl, omega arith),
      )

  pub meets : (slots id : ℕ) (me : Seated) → IsIdle me → Allows Rule slots id me 0 (λ n. n) (Meets me)
  meets slots id me idle s k wide here small =
      let f = k.fits id me.0 here idle.1 in
      let c = longer_covers k.history me.0.seen me.0.told f.begins f.told_begins in (
        joined me.0,
        keeps,
        tt,
        knows_more s k id me.0 (joined me.0) here idle.1 idle.2 idle.2 refl refl (fits_joined root k.history me.0 f),
        (refl, c.0, c.1, knows_its_calls root k.history (joined me.0) (fits_joined root k.history me.0 f), f.met_another),
      )

  -- the same for a seat that was just told of another
  pub meets_after : (slots id : ℕ) (now me : Seated) (w : V) → IsIdle me → now ≡ (meeting me.0 w.seen w.number, me.1) → Allows Rule slots id now 0 (λ n. n) (Meets now)
  meets_after slots id now me w idle e =
      subst (λ (z : Seated). Allows Rule slots id z 0 (λ n. n) (Meets z)) (sym e) (meets slots id (meeting me.0 w.seen w.number, me.1) (idle.0, idle.1, idle.2))

  -- what the seat is told where it takes the turn
  told_free : (h : List (Entry C)) (me : Seated) (word : ℕ) (machine : M) → IsIdle me → word ≡ 2 * length h → Fits root h me.0 → stands machine (calls_of h) → root_of machine ≡ root → length h ≤ 4611686018427387904
      → Asks stands root_of me word (holding (looked me.0 word) h, (0, Some machine) ∷ me.1)
  told_free h me word machine idle found f stand same within = (
    (λ odd. absurd (let even = double_is_even (length h) in omega (arith, sym (ap (λ (n : ℕ). n % 2) found) ∙ odd))),
    (λ _. ((machine, ap (λ (l : List (ℕ × Option M)). (0, Some machine) ∷ l) idle.0, idle.1, refl, found, f.begins, stand, same ∙ sym f.of_root, within), refl)),
  )

  -- and where another seat holds it
  told_held : (h : List (Entry C)) (me : Seated) (word : ℕ) → word ≡ 2 * length h + 1 → Asks stands root_of me word (looked me.0 word, me.1)
  told_held h me word found = (
    (λ _. refl),
    (λ even. absurd (let odd = next_is_odd (length h) in omega (arith, sym (ap (λ (n : ℕ). n % 2) found) ∙ even))),
  )

  asked_word : (words : List ℕ) (k next : ℕ) → words ≡ k ∷ [] → bit_or k 1 ≡ next → slice_set words 0 (bit_or (slice_index words 0) 1) ≡ next ∷ []
  asked_word words k next e to = ap (λ (l : List ℕ). slice_set l 0 (bit_or (slice_index l 0) 1)) e ∙ ap (λ (n : ℕ). n ∷ []) to

  word_is : (words : List ℕ) (k : ℕ) → words ≡ k ∷ [] → slice_index words 0 ≡ k
  word_is words k e = ap (λ (l : List ℕ). slice_index l 0) e

  pub asks : (slots id : ℕ) (me : Seated) → IsIdle me → Allows Rule slots id me 0 (λ n. bit_or n 1) (Asks stands root_of me)
  asks slots id me idle s k wide here small =
      let word = slice_index s.words 0 in
      let h = k.history in
      let f = k.fits id me.0 here idle.1 in
      ⊎_elim
      (λ (t : IsHome stands root_of root h s).
      let found = word_is s.words (2 * length h) t.0 in
      let w = holding (looked me.0 word) h in (
        w,
        takes 0 (Some t.2),
        t.3,
        record {
          history = h;
          fits = each_set root h s.views id w (λ _. fits_holding root h h (looked me.0 word) (fits_looked root h me.0 word f (omega arith))) (λ j u _ at l. k.fits j u at l);
          apart = apart_set s.views id me.0 w k.apart here (within_same w me.0 idle.1 refl refl);
          within = k.within;
          turn = inr (asked_word s.words (2 * length h) (2 * length h + 1) t.0 (or_even (length h)), one_now h s.views id me.0 w t.1 here refl refl);
        },
        told_free h me word t.2 idle found f t.4 t.5 k.within,
      ))
      (λ (t : IsOut stands root_of root h s).
      let found = word_is s.words (2 * length h + 1) t.0 in
      let w = looked me.0 word in (
        w,
        keeps,
        tt,
        record {
          history = h;
          fits = each_set root h s.views id w (λ _. fits_looked root h me.0 word f (omega arith)) (λ j u _ at l. k.fits j u at l);
          apart = apart_set s.views id me.0 w k.apart here (within_same w me.0 idle.1 refl refl);
          within = k.within;
          turn = inr (asked_word s.words (2 * length h + 1) (2 * length h + 1) t.0 (or_odd (length h)), one_set h s.views id me.0 w t.1 here idle.2 idle.2);
        },
        told_held h me word found,
      ))
      k.turn

  -- the history that the holder keeps is the history
  held_history : (s : St) (k : Rule s) (id : ℕ) (v : V) → At s.views id v → v.holds ≡ true → (s.words ≡ (2 * length v.kept + 1) ∷ []) × (k.history ≡ v.kept) × OneHolds v.kept s.views
  held_history s k id v here holds =
      ⊎_elim
      (λ t. absurd (not_both holds (t.1 id v here)))
      (λ t. let e = holder_keeps k.history s.views id v t.1 here holds in
      (t.0 ∙ ap (λ (l : List (Entry C)). (2 * length l + 1) ∷ []) (sym e), sym e, subst (λ (l : List (Entry C)). OneHolds l s.views) (sym e) t.1))
      k.turn

  releases_at : (id : ℕ) (v : V) (machine : M) → v.live ≡ true → v.holds ≡ true → stands machine (calls_of v.kept) → root_of machine ≡ v.root
      → Allows Rule 1 id (v, (0, Some machine) ∷ []) 0 (λ n. (n + (2 ^ 64 - 1)) % 2 ^ 64) (Releases (v, (0, Some machine) ∷ []))
  releases_at id v machine live holds stand same s k wide here small =
      let h = k.history in
      let t = held_history s k id v here holds in
      let f = k.fits id v here live in
      let w = released v in
      let words : slice_set s.words 0 ((slice_index s.words 0 + (2 ^ 64 - 1)) % 2 ^ 64) ≡ (2 * length h) ∷ [] =
      ap (λ (l : List ℕ). slice_set l 0 ((slice_index l 0 + (2 ^ 64 - 1)) % 2 ^ 64)) t.0
      ∙ (ap (λ (l : List (Entry C)). ((2 * length l + 1 + (2 ^ 64 - 1)) % 2 ^ 64) ∷ []) (sym t.1) ∙ ap (λ (n : ℕ). n ∷ []) (after_refusal (length h) k.within)) in (
        w,
        gives,
        tt,
        record {
          history = h;
          fits = each_set root h s.views id w (λ _. fits_released root h v f) (λ j u _ at l. k.fits j u at l);
          apart = apart_set s.views id v w k.apart here (within_same w v live refl refl);
          within = k.within;
          turn = inl (words, none_after v.kept s.views id v w t.2 here holds refl, machine, set_here s.homes 0 (some (Some machine)) (omega arith), subst (λ (l : List (Entry C)). stands machine (calls_of l)) (sym t.1) stand, same ∙ f.of_root);
        },
        refl,
      )

  pub releases : (slots id : ℕ) (me : Seated) (machine : M) → slots ≡ 1 → me.1 ≡ (0, Some machine) ∷ [] → me.0.live ≡ true → me.0.holds ≡ true → stands machine (calls_of me.0.kept) → root_of machine ≡ me.0.root
      → Allows Rule slots id me 0 (λ n. (n + (2 ^ 64 - 1)) % 2 ^ 64) (Releases me)
  releases slots id me machine one has live holds stand same =
      subst (λ (n : ℕ). Allows Rule n id me 0 (λ n. (n + (2 ^ 64 - 1)) % 2 ^ 64) (Releases me)) (sym one)
      (subst (λ (l : List (ℕ × Option M)). Allows Rule 1 id (me.0, l) 0 (λ n. (n + (2 ^ 64 - 1)) % 2 ^ 64) (Releases (me.0, l))) (sym has) (releases_at id me.0 machine live holds stand same))

  adds_at : (id : ℕ) (v : V) (machine : M) (call : C) → v.live ≡ true → v.holds ≡ true → stands machine (calls_of v.kept ++ call ∷ []) → root_of machine ≡ v.root → length v.kept < 4611686018427387904
      → Allows Rule 1 id (v, (0, Some machine) ∷ []) 0 (λ n. (n + 1) % 2 ^ 64) (Adds (Some call) (v, (0, Some machine) ∷ []))
  adds_at id v machine call live holds stand same room s k wide here small =
      let e = entry v.number call in
      let h : List (Entry C) = v.kept ++ e ∷ [] in
      let t = held_history s k id v here holds in
      let f = subst (λ (l : List (Entry C)). Fits root l v) t.1 (k.fits id v here live) in
      let w = added v call in
      let more : length h ≡ length v.kept + 1 = length-append v.kept (e ∷ []) in
      let words : slice_set s.words 0 ((slice_index s.words 0 + 1) % 2 ^ 64) ≡ (2 * length h) ∷ [] =
      ap (λ (l : List ℕ). slice_set l 0 ((slice_index l 0 + 1) % 2 ^ 64)) t.0
      ∙ ap (λ (n : ℕ). n ∷ []) (after_call (length v.kept) room ∙ ap (λ (n : ℕ). 2 * n) (sym more)) in
      let fits = fits_added root v call f in (
        w,
        gives,
        tt,
        record {
          history = h;
          fits = each_set root h s.views id w (λ _. fits)
              (λ j u other at l. fits_more root v.kept u v.number call (λ n p. k.apart id j v u (λ q. other (sym q)) here at live l 0 n (first_owned v ∙ p)) (subst (λ (g : List (Entry C)). Fits root g u) t.1 (k.fits j u at l)));
          apart = apart_set s.views id v w k.apart here (within_same w v live refl refl);
          within = omega (arith, more);
          turn = inl (words, none_after v.kept s.views id v w t.2 here holds refl, machine, set_here s.homes 0 (some (Some machine)) (omega arith), subst (λ (l : List C). stands machine l) (sym (map-append (λ (x : Entry C). x.call) v.kept (e ∷ []))) stand, same ∙ f.of_root);
        },
        (refl, knows_its_calls root h w fits),
      )

  pub adds : (slots id : ℕ) (me : Seated) (asked : Option C) (machine : M) (call : C) → asked ≡ Some call → slots ≡ 1 → me.1 ≡ (0, Some machine) ∷ [] → me.0.live ≡ true → me.0.holds ≡ true
      → stands machine (calls_of me.0.kept ++ call ∷ []) → root_of machine ≡ me.0.root → length me.0.kept < 4611686018427387904
      → Allows Rule slots id me 0 (λ n. (n + 1) % 2 ^ 64) (Adds asked me)
  adds slots id me asked machine call is one has live holds stand same room =
      subst (λ (o : Option C). Allows Rule slots id me 0 (λ n. (n + 1) % 2 ^ 64) (Adds o me)) (sym is)
      (subst (λ (n : ℕ). Allows Rule n id me 0 (λ n. (n + 1) % 2 ^ 64) (Adds (Some call) me)) (sym one)
      (subst (λ (l : List (ℕ × Option M)). Allows Rule 1 id (me.0, l) 0 (λ n. (n + 1) % 2 ^ 64) (Adds (Some call) (me.0, l))) (sym has) (adds_at id me.0 machine call live holds stand same room)))

  -- the same for a holder that put another machine into the slot
  pub adds_held : (slots id : ℕ) (me now : Seated) (asked : Option C) (machine : M) (call : C) → now ≡ (me.0, (0, Some machine) ∷ []) → asked ≡ Some call → slots ≡ 1 → IsHolding stands root_of me
      → stands machine (calls_of me.0.kept ++ call ∷ []) → root_of machine ≡ me.0.root → length me.0.kept < 4611686018427387904
      → Allows Rule slots id now 0 (λ n. (n + 1) % 2 ^ 64) (Adds asked now)
  adds_held slots id me now asked machine call e is one h stand same room =
      subst (λ (z : Seated). Allows Rule slots id z 0 (λ n. (n + 1) % 2 ^ 64) (Adds asked z)) (sym e)
      (adds slots id (me.0, (0, Some machine) ∷ []) asked machine call is one refl h.2 h.3 stand same room)

  pub splits : (id : ℕ) (v : V) → v.live ≡ true → v.holds ≡ false → Splits Rule id v (parted v) (split_from v (v.number + v.stride))
  splits id v live free s k here =
      let h = k.history in
      let f = k.fits id v here live in
      let l = parted v in
      let r = split_from v (v.number + v.stride) in
      let views = set s.views id l in record {
        history = h;
        fits = each_more root h views r (each_set root h s.views id l (λ _. fits_parted root h v f) (λ j u _ at live'. k.fits j u at live')) (fits_split root h v f);
        apart =
            apart_more views r (apart_set s.views id v l k.apart here (λ _. (live, λ a. (a + a, left_owns v a))))
            (λ j u at live' a b p.
            ⊎_elim
            (λ t. even_odd a b v.stride f.strides (let q : owned v (a + a) ≡ owned v (suc (b + b)) = sym (left_owns v a) ∙ (ap (λ (x : V). owned x a) t.1 ∙ (p ∙ right_owns v b)) in
            let x : ℕ = (a + a) * v.stride in let y : ℕ = suc (b + b) * v.stride in let n : ℕ = v.number in let q' : n + x ≡ n + y = q in omega arith))
            (λ t. k.apart j id u v t.0 t.1 here live' live a (suc (b + b)) (p ∙ right_owns v b))
            (at_set s.views id j l u at));
        within = k.within;
        turn = turn_with s h s.words (views ++ r ∷ []) refl (λ nobody. none_more views r (none_set s.views id l nobody free) free) (λ one. one_more h views r (one_set h s.views id v l one here free free) free) k.turn;
      }

  pub joins : (id : ℕ) (v : V) (other : ℕ) (w : V) (some_root : X) → v.live ≡ true → v.holds ≡ false → w.live ≡ true → w.holds ≡ false → Joins Rule id v other w (meeting v w.seen w.number) (spent_seat some_root)
  joins id v other w some_root live free live' free' s k here apart there =
      let h = k.history in
      let both = meeting v w.seen w.number in
      let views = set s.views id both in
      let spent = spent_seat some_root in
      let before : At s.views other w = sym (set_else s.views id other both apart) ∙ there in
      let f = k.fits id v here live in
      let g = k.fits other w before live' in
      let numbers : w.number ≢ v.number = λ e. k.apart other id w v apart before here live' live 0 0 (first_owned w ∙ (e ∙ sym (first_owned v))) in
      let each = each_set root h s.views id both (λ _. fits_meeting root h v w numbers f g) (λ j u _ at l. k.fits j u at l) in record {
        history = h;
        fits = each_set root h views other spent (λ l. absurd (not_both l refl)) (λ j u _ at l. each j u at l);
        apart = apart_set views other w spent (apart_set s.views id v both k.apart here (within_same both v live refl refl)) there (λ l. absurd (not_both l refl));
        within = k.within;
        turn = turn_with s h s.words (set views other spent) refl (λ nobody. none_set views other spent (none_set s.views id both nobody free) refl) (λ one. one_set h views other w spent (one_set h s.views id v both one here free free) there free' refl) k.turn;
      }

  -- the only seat of a new turn
  only : (v u : V) (place : ℕ) → get_elem? (v ∷ []) place ≡ some u → (place ≡ 0) × (v ≡ u)
  only v u zero e = (refl, some-injective v u e)
  only v u (suc place) e = absurd (some-ne-none u (sym e))

  pub opens : (slots : List (Option M)) (machine : M) → slots ≡ Some machine ∷ [] → stands machine [] → root_of machine ≡ root → Rule (opening (0 ∷ []) slots (newcomer root))
  opens slots machine is stand same =
      subst (λ (l : List (Option M)). Rule (opening (0 ∷ []) l (newcomer root))) (sym is) record {
        history = [];
        fits = λ place u at _. subst (λ (x : V). Fits root [] x) (only (newcomer root) u place at).1
            record { of_root = refl; begins = ([], refl); told_begins = ([], refl); found_within = omega arith; own_seen = refl; own_all = refl; not_given = λ k. refl; strides = omega arith; met_another = λ e. omega arith };
        apart = λ i j v w other at_v at_w _ _ a b _. other ((only (newcomer root) v i at_v).0 ∙ sym (only (newcomer root) w j at_w).0);
        within = omega arith;
        turn = inl (refl, (λ place u at. sym (ap (λ (x : V). x.holds) (only (newcomer root) u place at).1)), machine, refl, stand, same);
      }

  -- the end of a turn
  pub closes : (id : ℕ) (v : V) (words : List ℕ) (slots : List (Option M)) (word : ℕ) (slot : Option M) → Final (Seen Rule id v) words slots → get_elem? words 0 ≡ some word → get_elem? slots 0 ≡ some slot
      → v.live ≡ true → word % 2 ≢ 1
      → (machine : M) × (slot ≡ Some machine) × (history : List (Entry C)) × IsPrefix v.seen history × stands machine (calls_of history) × (root_of machine ≡ v.root) × (v.mine ≡ calls_by v.number history)
  closes id v words slots word slot end at_word at_slot live even =
      let s = end.0 in
      let k = end.1.0 in
      let h = k.history in
      let f = k.fits id v end.1.1 live in
      let read : get_elem? s.words 0 ≡ some word = ap (λ (l : List ℕ). get_elem? l 0) end.2 ∙ at_word in
      ⊎_elim
      (λ (t : IsHome stands root_of root h s). (t.2, some-injective slot (Some t.2) (sym at_slot ∙ end.4 0 (Some t.2) t.3), h, f.begins, t.4, t.5 ∙ sym f.of_root, f.own_all))
      (λ (t : IsOut stands root_of root h s).
      absurd (even (ap (λ (n : ℕ). n % 2) (some-injective word (2 * length h + 1) (sym read ∙ ap (λ (l : List ℕ). get_elem? l 0) t.0)) ∙ next_is_odd (length h))))
      k.turn
