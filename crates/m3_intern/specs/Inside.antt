-- What holds of the fields of an interner and of a table of kept and new terms.
use Rattle.std.specs.Prelude.{◌≡◌, ◌≤◌, ◌^◌, ℕ, List, length}
use Rattle.std.specs.List.{IsDistinct}
use Rattle.m3_terms.specs.Order.{term_eq}
use Rattle.m3_terms.specs.declared.term.Term.{Term}
use Rattle.m3_intern.specs.Interned.{bytes_of_terms}

-- each term stands once, and their cost is the sum, which stays within the limit
pub record AreKept (terms : List Term) (used limit : ℕ) : Type 0 where
  pub once : IsDistinct term_eq terms
  pub sum : used ≡ bytes_of_terms terms
  pub within : used ≤ limit
  pub small : limit ≤ 2 ^ 36

-- each term stands once, and a u32 names each
pub record AreNumbered (terms : List Term) : Type 0 where
  pub once : IsDistinct term_eq terms
  pub few : length terms ≤ 2 ^ 31
