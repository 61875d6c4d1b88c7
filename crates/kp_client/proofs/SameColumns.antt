-- Columns are compared name by name.
use Rattle.std.proofs.Common.{◌≡◌, Bool, true, false, ◌&&◌, cond, ℕ, List, [], ◌∷◌, refl}
use Rattle.std.specs.Cmp.Lexicographic.{pointwise}
use Rattle.m3_terms.specs.Order.{text_eq}
use Rattle.kp_client.specs.Mirroring.{are_columns}

-- one test and then others
tested : (a b c : Bool) → b ≡ c → cond a b false ≡ (a && c)
tested true b c e = e
tested false b c e = refl

-- columns are equal where each name is
pub same_columns : (columns names : List (List ℕ)) → are_columns columns names ≡ pointwise text_eq columns names
same_columns [] [] = refl
same_columns [] (name ∷ names) = refl
same_columns (column ∷ columns) [] = refl
same_columns (column ∷ columns) (name ∷ names) = tested (text_eq column name) _ _ (same_columns columns names)
