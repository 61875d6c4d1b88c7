-- A seat that holds the turn takes the machine out of the slot and puts it back.
use Rattle.std.proofs.Common.{◌≡◌, ℕ, List, [], ◌∷◌, Option, Some, ap, sym, ◌∙◌}
use Rattle.atomic_table.specs.Table.{Me, rest}

module _ {M : Type 0} where
  abbrev front : Option M → List (ℕ × Option M) → Option M
  front x [] = x
  front x (y ∷ ys) = y.1

  -- what comes out is the machine that lay there
  pub taken_out : (l : List (ℕ × Option M)) (found : Option M) (lay out : M) → l ≡ (0, Some lay) ∷ [] → l ≡ (0, found) ∷ rest l → found ≡ Some out → lay ≡ out
  taken_out l found lay out has holds is =
      let same : Some lay ≡ Some out = ap (front found) (sym has ∙ holds) ∙ is in cc (same)

module _ {M V : Type 0} where
  -- after two exchanges the seat has what the second put there
  pub put_back_in : (first second third : Me (Option M) V) (lay : M) (between after : Option M) → first.1 ≡ (0, Some lay) ∷ []
      → second ≡ (first.0, (0, between) ∷ rest first.1) → third ≡ (second.0, (0, after) ∷ rest second.1) → third ≡ (first.0, (0, after) ∷ [])
  put_back_in first second third lay between after has out back =
      let e = out ∙ ap (λ (l : List (ℕ × Option M)). (first.0, (0, between) ∷ rest l)) has in
      back ∙ ap (λ (z : Me (Option M) V). (z.0, (0, after) ∷ rest z.1)) e
