-- The laws of tables that grow.
use Rattle.std.specs.Prelude.{◌≡◌, ◌↔◌, ℕ, List, ◌++◌, Option, Some, Contains, slice_get, IsSome}
use Rattle.m3_terms.specs.TermTable.{NamesOnce, IsIdOf}
use Rattle.m3_terms.specs.declared.term.Term.{Term}
use Rattle.m3_terms.specs.declared.table.TermId.{TermId}
use Rattle.m3_intern.specs.Tables.{Extends}

-- a list of terms with more behind it extends the list
abbrev pub LongerTablesExtend : Type 0
LongerTablesExtend = (kept fresh : List Term) → Extends (slice_get kept) (slice_get (kept ++ fresh))

-- the number that a table gives for a term is what each table that extends it gives, where it names each term once
abbrev pub NumbersStay : Type 0
NumbersStay = (old new : ℕ → Option Term) → Extends old new → NamesOnce new → (term : Term) (id : TermId) (answer : Option TermId)
    → IsIdOf old term (Some id) → IsIdOf new term answer → answer ≡ Some id

-- a list of terms gives a number exactly for its terms
abbrev pub TermsAreFound : Type 0
TermsAreFound = (terms : List Term) (term : Term) (answer : Option TermId) → IsIdOf (slice_get terms) term answer → Contains terms term ↔ IsSome answer
