-- What a search finds is the first row for which a property holds.
use Rattle.std.proofs.Common.{◌≡◌, Bool, true, false, not, cond, List, [], ◌∷◌, ◌++◌, Contains, Option, Some, None, refl, ap, subst, ◌∙◌}
use Rattle.std.proofs.lemmas.Map.Views.{Contains-from_any, list_any-from_Contains}
use Rattle.std.specs.Bool.{Decides}
use Rattle.std.specs.Cmp.{eq_by_cmp_equiv}
use Rattle.std.specs.List.{find, AllByRecursion}
use Rattle.std.specs.Option.{unwrap_or}
use Rattle.m3_terms.specs.Order.{row_cmp}
use Rattle.m3_terms.specs.OrderLaws.{row_ties, row_exact, row_cmp_total}
use Rattle.m3_terms.specs.declared.term.Term.{Term}
use Rattle.answer_bodies.specs.Lists.{is_among}
use Rattle.kp_client.specs.MirrorLaws.{IsFirst}

-- the test of what is among rows tells whether they have it
pub there_decides : (rows : List (List (Option Term))) (row : List (Option Term)) → Decides (is_among row_cmp rows row) (Contains rows row)
there_decides rows row = (
  λ among. Contains-from_any (λ x y e. (row_exact x y).0 (row_ties x y ∙ e)) row rows among,
  λ there. list_any-from_Contains (eq_by_cmp_equiv row_cmp_total) row rows there,
)

-- a test that denies another tells the contrary
pub denied : (b : Bool) (P : Type 0) → Decides b P → Decides (not b) (¬ P)
denied true P decides = (λ e. cc, λ never. absurd (never (decides.0 refl)))
denied false P decides = (λ e p. cc (decides.1 p), λ never. refl)

-- a test fails where what it tells does not hold
pub fails : (b : Bool) (P : Type 0) → Decides b P → ¬ P → b ≡ false
fails true P decides never = absurd (never (decides.0 refl))
fails false P decides never = refl

-- and what it tells does not hold where it fails
pub fails_not : (b : Bool) (P : Type 0) → Decides b P → b ≡ false → ¬ P
fails_not true P decides e p = cc
fails_not false P decides e p = cc (decides.1 p)

-- what is not denied holds
pub stable : (b : Bool) (P : Type 0) → Decides b P → ¬ (¬ P) → P
stable true P decides twice = decides.0 refl
stable false P decides twice = absurd (twice (fails_not false P decides refl))

-- where a search finds nothing, the first is not found, nor is any behind it
found_none : (b : Bool) (row : List (Option Term)) (rest : Option (List (Option Term))) → cond b (Some row) rest ≡ None → (b ≡ false) × (rest ≡ None)
found_none true row rest e = cc
found_none false row rest e = (refl, e)

module _ (p : List (Option Term) → Bool) (P : List (Option Term) → Type 0) (decides : (row : List (Option Term)) → Decides (p row) (P row)) where
  -- where nothing is found, it holds for none
  pub nothing : (rows : List (List (Option Term))) → find p rows ≡ None → AllByRecursion (λ row. ¬ (P row)) rows
  nothing [] e = tt
  nothing (row ∷ rows) e =
      let parts = found_none (p row) row (find p rows) e in
      (fails_not (p row) (P row) (decides row) parts.0, nothing rows parts.1)

  -- and where it holds for none, nothing is found
  pub none_found : (rows : List (List (Option Term))) → AllByRecursion (λ row. ¬ (P row)) rows → find p rows ≡ None
  none_found [] all = refl
  none_found (row ∷ rows) all = ap (λ b. cond b (Some row) (find p rows)) (fails (p row) (P row) (decides row) all.0) ∙ none_found rows all.1

  -- the first row is found, or what is found behind it
  first_step : (x : List (Option Term)) (rows : List (List (Option Term))) (row : List (Option Term)) (b : Bool) → p x ≡ b
      → cond b (Some x) (find p rows) ≡ Some row → (find p rows ≡ Some row → IsFirst P rows row) → IsFirst P (x ∷ rows) row
  first_step x rows row true is e later =
      let same : x ≡ row = ap (λ found. unwrap_or found x) e in
      record { before = []; behind = rows; place = ap (λ r. r ∷ rows) same; holds = subst P same ((decides x).0 is); none = tt }
  first_step x rows row false is e later =
      let found = later e in
      record {
        before = x ∷ found.before;
        behind = found.behind;
        place = ap (λ l. x ∷ l) found.place;
        holds = found.holds;
        none = (fails_not (p x) (P x) (decides x) is, found.none);
      }

  -- what is found is the first for which it holds
  pub first : (rows : List (List (Option Term))) (row : List (Option Term)) → find p rows ≡ Some row → IsFirst P rows row
  first [] row e = cc
  first (x ∷ rows) row e = first_step x rows row (p x) refl e (first rows row)

  -- a row is found behind those for which it does not hold
  found_behind : (before behind : List (List (Option Term))) (row : List (Option Term)) → P row → AllByRecursion (λ other. ¬ (P other)) before
      → find p (before ++ row ∷ behind) ≡ Some row
  found_behind [] behind row holds none = ap (λ b. cond b (Some row) (find p behind)) ((decides row).1 holds)
  found_behind (x ∷ before) behind row holds none =
      ap (λ b. cond b (Some x) (find p (before ++ row ∷ behind))) (fails (p x) (P x) (decides x) none.0) ∙ found_behind before behind row holds none.1

  -- the first for which it holds is found
  pub first_found : (rows : List (List (Option Term))) (row : List (Option Term)) → IsFirst P rows row → find p rows ≡ Some row
  first_found rows row is = ap (find p) is.place ∙ found_behind is.before is.behind row is.holds is.none
