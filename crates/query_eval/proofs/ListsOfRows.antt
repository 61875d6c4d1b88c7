-- Lists of rows, one for each part of a pattern: the first of them, those of two sides together, and how many rows they have.
use Rattle.std.proofs.Common.{◌≡◌, ℕ, ◌+◌, ◌<◌, List, length, [], ◌∷◌, ◌++◌, get_or, Option, refl, ap, arith}
use Rattle.std.proofs.lemmas.List.Sums.{sum_by-cons, sum_by-append}
use Rattle.std.specs.List.{AllZip}
use Rattle.m3_terms.specs.declared.term.Term.{Term}
use Rattle.m3_terms.specs.declared.triple.Triple.{Triple}
use Rattle.sparql_algebra.specs.declared.algebra.Algebra.{Algebra, more_of-Algebra, Bgp, Join', Union', LeftJoin', Filter'}
use Rattle.sparql_algebra.specs.Solutions.{RowList}
use Rattle.sparql_algebra.specs.Width.{parts}
use Rattle.query_eval.specs.PartRows.{AreRowsOf, ArePartRows, row_count}
use Rattle.query_eval.specs.Parts.{first_rows}

-- the first of some lists has the first rows
pub first_is : (lists : List RowList) (own : RowList) → 0 < length lists → own ≡ get_or lists 0 own → own.rows ≡ first_rows lists
first_is [] own some is = absurd (omega (arith, some))
first_is (list ∷ lists) own some is = ap (λ (l : RowList). l.rows) is

-- what holds in pairs holds of two lists together
pub zip_both : {X Y : Type 0} (R : X → Y → Type 0) (xs more : List X) (ys others : List Y) → AllZip R xs ys → AllZip R more others → AllZip R (xs ++ more) (ys ++ others)
zip_both R [] more [] others h k = k
zip_both R [] more (y ∷ ys) others h k = absurd h
zip_both R (x ∷ xs) more [] others h k = absurd h
zip_both R (x ∷ xs) more (y ∷ ys) others h k = (h.0, zip_both R xs more ys others h.1 k)

-- rows of one list, and then those of others
pub count_first : (own : RowList) (others : List RowList) → row_count (own ∷ others) ≡ length own.rows + row_count others
count_first own others = sum_by-cons (λ (l : RowList). length l.rows) own others

pub count_both : (left right : List RowList) → row_count (left ++ right) ≡ row_count left + row_count right
count_both left right = sum_by-append (λ (l : RowList). length l.rows) left right

module _ (terms : ℕ → Option Term) (graph : List Triple) where
  -- the head of the parts of a pattern is the pattern
  headed : (pattern : Algebra) (rest : List Algebra) (lists : List RowList) → AllZip (AreRowsOf terms graph) (pattern ∷ rest) lists
      → (0 < length lists) × ((own : RowList) → own.rows ≡ first_rows lists → AreRowsOf terms graph pattern own)
  headed pattern rest [] h = absurd h
  headed pattern rest (list ∷ lists) h =
      (omega arith, λ own e. record { solutions = rw e h.0.solutions; rising = rw e h.0.rising })

  both : (pattern : Algebra) (lists : List RowList) → ArePartRows terms graph pattern lists
      → (0 < length lists) × ((own : RowList) → own.rows ≡ first_rows lists → AreRowsOf terms graph pattern own)
  both (Bgp patterns) lists h = headed (Bgp patterns) [] lists h
  both (Join' a (more_of-Algebra left p) b (more_of-Algebra right q)) lists h =
      headed (Join' a (more_of-Algebra left p) b (more_of-Algebra right q)) (parts left ++ parts right) lists h
  both (Union' a (more_of-Algebra left p) b (more_of-Algebra right q)) lists h =
      headed (Union' a (more_of-Algebra left p) b (more_of-Algebra right q)) (parts left ++ parts right) lists h
  both (LeftJoin' a (more_of-Algebra left p) b (more_of-Algebra right q) condition) lists h =
      headed (LeftJoin' a (more_of-Algebra left p) b (more_of-Algebra right q) condition) (parts left ++ parts right) lists h
  both (Filter' condition a (more_of-Algebra inner p)) lists h = headed (Filter' condition a (more_of-Algebra inner p)) (parts inner) lists h

  -- a pattern has a part, so there is a list
  pub some_rows : (pattern : Algebra) (lists : List RowList) → ArePartRows terms graph pattern lists → 0 < length lists
  some_rows pattern lists h = (both pattern lists h).0

  -- and the first rows are those of the pattern itself
  pub own_rows : (pattern : Algebra) (lists : List RowList) → ArePartRows terms graph pattern lists → AreRowsOf terms graph pattern (record { rows = first_rows lists; room = 0 })
  own_rows pattern lists h = (both pattern lists h).1 (record { rows = first_rows lists; room = 0 }) refl
