-- How answers differ, and what a difference makes of an answer.
use Rattle.std.specs.Prelude.{◌≡◌, ◌&&◌, Bool, true, ℕ, nat_eq, List, [], ◌∷◌, length, map, Contains, Option, Some, ⊤, refl}
use Rattle.std.specs.List.Sorted.{IsStrictlySortedBy}
use Rattle.m3_terms.specs.Order.{triple_cmp, row_cmp}
use Rattle.m3_terms.specs.declared.term.Term.{Term}
use Rattle.m3_terms.specs.declared.term.Term.TheVariants.{Uri}
use Rattle.m3_terms.specs.declared.triple.Triple.{Triple}
use Rattle.answer_bodies.specs.Lists.{without, with_all}
use Rattle.answer_bodies.specs.declared.answer.Answer.{Answer}
use Rattle.answer_bodies.specs.declared.answer.Answer.TheVariants.{Triples, Table}
use Rattle.answer_bodies.specs.declared.answer.Difference.{Difference}

-- two answers have one form: both are triples, or both are tables of equal columns
abbrev pub HaveOneForm : Answer → Answer → Type 0
HaveOneForm (Triples triples) (Triples others) = ⊤
HaveOneForm (Triples triples) (Table names others) = ⊥
HaveOneForm (Table columns rows) (Triples others) = ⊥
HaveOneForm (Table columns rows) (Table names others) = columns ≡ names

-- an answer is in order: each triple or row is below those behind it, so none is doubled
abbrev pub IsInOrder : Answer → Type 0
IsInOrder (Triples triples) = IsStrictlySortedBy triple_cmp triples
IsInOrder (Table columns rows) = IsStrictlySortedBy row_cmp rows

-- an answer may follow another: they have one form, and both are in order
pub record MayFollow (before after : Answer) : Type 0 where
  pub form : HaveOneForm before after
  pub earlier : IsInOrder before
  pub later : IsInOrder after

-- an answer without what is among another of its form
abbrev pub without_rows : Answer → Answer → Answer
without_rows (Triples triples) (Triples others) = Triples (without triple_cmp triples others)
without_rows (Triples triples) (Table names others) = Triples triples
without_rows (Table columns rows) (Triples others) = Table columns rows
without_rows (Table columns rows) (Table names others) = Table columns (without row_cmp rows others)

-- an answer in order with what another of its form has put in its places, each once
abbrev pub with_rows : Answer → Answer → Answer
with_rows (Triples triples) (Triples more) = Triples (with_all triple_cmp triples more)
with_rows (Triples triples) (Table names more) = Triples triples
with_rows (Table columns rows) (Triples more) = Table columns rows
with_rows (Table columns rows) (Table names more) = Table columns (with_all row_cmp rows more)

-- how an answer differs from an earlier one: what it has that the earlier lacks is added, and what it lacks is obsolete
abbrev pub difference_of : Answer → Answer → Difference
difference_of before after = record { added = without_rows after before; obsolete = without_rows before after }

-- an answer after a difference: without what is obsolete, and with what is added
abbrev pub folded : Answer → Difference → Answer
folded answer difference = with_rows (without_rows answer difference.obsolete) difference.added

-- an answer after differences, one after another
abbrev pub folds : Answer → List Difference → Answer
folds answer [] = answer
folds answer (difference ∷ later) = folds (folded answer difference) later

-- a difference may be folded into an answer: both of its sides have the answer's form, and what is obsolete is in order
pub record Fits (answer : Answer) (difference : Difference) : Type 0 where
  pub added : HaveOneForm answer difference.added
  pub obsolete : HaveOneForm answer difference.obsolete
  pub rises : IsInOrder difference.obsolete

-- no triple or row is in both answers
abbrev pub HaveNothingInCommon : Answer → Answer → Type 0
HaveNothingInCommon (Triples triples) (Triples others) = (triple : Triple) → Contains triples triple → ¬ (Contains others triple)
HaveNothingInCommon (Triples triples) (Table names others) = ⊤
HaveNothingInCommon (Table columns rows) (Triples others) = ⊤
HaveNothingInCommon (Table columns rows) (Table names others) = (row : List (Option Term)) → Contains rows row → ¬ (Contains others row)

-- whether an answer has no triple and no row
abbrev pub is_empty_answer : Answer → Bool
is_empty_answer (Triples triples) = nat_eq (length triples) 0
is_empty_answer (Table columns rows) = nat_eq (length rows) 0

-- whether nothing is added and nothing is obsolete
abbrev pub is_empty_difference : Difference → Bool
is_empty_difference difference = is_empty_answer difference.added && is_empty_answer difference.obsolete

-- a row of one cell, which has the uri of this byte
abbrev cell : ℕ → List (Option Term)
cell byte = Some (Uri (byte ∷ [])) ∷ []

-- a table of the column `x` with such rows
abbrev table : List ℕ → Answer
table bytes = Table ((120 ∷ []) ∷ []) (map cell bytes)

-- from the rows `a` and `b` to the rows `b` and `c`: `c` is added, and `a` is obsolete
example_difference : difference_of (table (97 ∷ 98 ∷ [])) (table (98 ∷ 99 ∷ [])) ≡ record { added = table (99 ∷ []); obsolete = table (97 ∷ []) }
example_difference = refl

-- which makes `b` and `c` of `a` and `b`
example_folded : folded (table (97 ∷ 98 ∷ [])) (record { added = table (99 ∷ []); obsolete = table (97 ∷ []) }) ≡ table (98 ∷ 99 ∷ [])
example_folded = refl

-- an added row that is there already stands once, and an obsolete row that is not there is passed over
example_lenient : folded (table (97 ∷ 99 ∷ [])) (record { added = table (98 ∷ 99 ∷ []); obsolete = table (100 ∷ []) }) ≡ table (97 ∷ 98 ∷ 99 ∷ [])
example_lenient = refl

-- two differences, of which the second takes away what the first added
example_folds : folds (table (97 ∷ [])) (record { added = table (98 ∷ []); obsolete = table [] } ∷ record { added = table []; obsolete = table (98 ∷ []) } ∷ [])
    ≡ table (97 ∷ [])
example_folds = refl

-- answers that are equal differ in nothing
example_empty : is_empty_difference (difference_of (table (97 ∷ 98 ∷ [])) (table (97 ∷ 98 ∷ []))) ≡ true
example_empty = refl
