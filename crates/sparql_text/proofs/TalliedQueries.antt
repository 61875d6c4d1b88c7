-- A query counts for what its group does, and its columns have names.
use Rattle.std.proofs.Common.{ℕ, ◌≡◌, Bool, true, false, inl, inr, List, [], ◌∷◌, length, refl, ap, Option, Some, None, arith}
use Rattle.std.specs.Prelude.{⊤}
use Rattle.std.specs.List.{AllByRecursion}
use Rattle.sparql_algebra.specs.declared.var.Var.{Var}
use Rattle.sparql_algebra.specs.Valid.{IsNamed}
use Rattle.sparql_text.specs.declared.word.Word.{Word}
use Rattle.sparql_text.specs.declared.word.Word.TheVariants as word
use Rattle.sparql_text.specs.declared.symbol.Kind.{Kind}
use Rattle.sparql_text.specs.declared.symbol.Kind.TheVariants as kind
use Rattle.sparql_text.specs.declared.tally.Tally.{Tally}
use Rattle.sparql_text.specs.Tokens.{Token}
use Rattle.sparql_text.specs.Front.{The, One, ◌then◌, Many, Perhaps}
use Rattle.sparql_text.specs.Scope.{Declaration, Scope, as_variable}
use Rattle.sparql_text.specs.Groups.{Group, ReadsGroup}
use Rattle.sparql_text.specs.Queries.{as_prefix, as_whole_iri, ReadsDeclaration, ReadsDistinct, ReadsColumns}
use Rattle.sparql_text.specs.Machine.{kind_of}
use Rattle.sparql_text.specs.Tallying.{counted, one_if}
use Rattle.sparql_text.proofs.Weights.{nothing, group_weight, HasNamedGroup}
use Rattle.sparql_text.proofs.TalliedReadings.{Reading, reading_then, reading_as, reading_nothing, IsPlain, one_reads}
use Rattle.sparql_text.proofs.TalliedConditions.{variable_stands}
use Rattle.sparql_text.proofs.TalliedGroups.{Balanced, group_reads}

balanced_plain : (k : Kind) → IsPlain k → (tally : Tally) → Balanced tally → Balanced (counted tally k)
balanced_plain k plain tally balanced = let a = ap one_if plain.opens in let b = ap one_if plain.closes in omega (arith, a, b, balanced)

-- a word that is no parenthesis
plain_word : (scope : Scope) (w : Word) (tokens rest : List Token) → IsPlain (kind.Fixed w) → The w tokens rest → Reading scope Balanced Balanced ⊤ nothing tokens rest
plain_word scope w tokens rest plain e = one_reads (Token.Fixed w) rest (balanced_plain (kind.Fixed w) plain) (λ k. tt) e

prefix_plain : (token : Token) (prefix : List ℕ) → as_prefix token ≡ Some prefix → IsPlain (kind_of token)
prefix_plain (Token.Name prefix []) value e = record { opens = refl; closes = refl }
prefix_plain (Token.Name prefix (byte ∷ local)) value e = absurd cc
prefix_plain (Token.Iri iri) value e = absurd cc
prefix_plain (Token.Variable name) value e = absurd cc
prefix_plain (Token.String text) value e = absurd cc
prefix_plain (Token.Fixed w) value e = absurd cc

iri_plain : (token : Token) (iri : List ℕ) → as_whole_iri token ≡ Some iri → IsPlain (kind_of token)
iri_plain (Token.Iri iri) value e = record { opens = refl; closes = refl }
iri_plain (Token.Name prefix local) value e = absurd cc
iri_plain (Token.Variable name) value e = absurd cc
iri_plain (Token.String text) value e = absurd cc
iri_plain (Token.Fixed w) value e = absurd cc

declarations_read : (scope : Scope) (declarations : List Declaration) (tokens rest : List Token) → Many ReadsDeclaration declarations tokens rest
    → Reading scope Balanced Balanced ⊤ nothing tokens rest
declarations_read scope [] tokens rest e = reading_nothing (λ tally balanced. balanced) e
declarations_read scope (declaration ∷ declarations) tokens rest x =
    let d = x.first in
    let p = d.second.first in
    let i = d.second.second in
    reading_as (reading_then (plain_word scope word.Prefix tokens d.middle (record { opens = refl; closes = refl }) d.first)
    (reading_then (one_reads {A = ⊤} p.0 d.second.middle (balanced_plain (kind_of p.0) (prefix_plain p.0 declaration.prefix p.1)) (λ k. tt) p.2)
    (reading_then (one_reads {A = ⊤} i.0 x.middle (balanced_plain (kind_of i.0) (iri_plain i.0 declaration.iri i.1)) (λ k. tt) i.2)
    (declarations_read scope declarations x.middle rest x.second))))
    (λ h. tt) (record { operators = omega arith; conditions = omega arith; patterns = omega arith })

distinct_reads : (scope : Scope) (distinct : Bool) (tokens rest : List Token) → ReadsDistinct distinct tokens rest → Reading scope Balanced Balanced ⊤ nothing tokens rest
distinct_reads scope true tokens rest e = plain_word scope word.Distinct tokens rest (record { opens = refl; closes = refl }) e
distinct_reads scope false tokens rest e = reading_nothing (λ tally balanced. balanced) e

where_reads : (scope : Scope) (tokens rest : List Token) → Perhaps (The word.Where) tokens rest → Reading scope Balanced Balanced ⊤ nothing tokens rest
where_reads scope tokens rest (inl e) = plain_word scope word.Where tokens rest (record { opens = refl; closes = refl }) e
where_reads scope tokens rest (inr e) = reading_nothing (λ tally balanced. balanced) e

-- the columns behind SELECT have names
abbrev pub HasNamedColumns : ℕ → Option (List Var) → Type 0
HasNamedColumns names None = ⊤
HasNamedColumns names (Some vars) = AllByRecursion (IsNamed names) vars

column_reads : (scope : Scope) (var : Var) (tokens rest : List Token) → One (as_variable scope) var tokens rest
    → Reading scope Balanced Balanced (IsNamed (length scope.names) var) nothing tokens rest
column_reads scope var tokens rest x =
    let stands = variable_stands scope x.0 var x.1 in one_reads x.0 rest (balanced_plain (kind_of x.0) stands.plain) stands.has x.2

more_columns_read : (scope : Scope) (vars : List Var) (tokens rest : List Token) → Many (One (as_variable scope)) vars tokens rest
    → Reading scope Balanced Balanced (AllByRecursion (IsNamed (length scope.names)) vars) nothing tokens rest
more_columns_read scope [] tokens rest e = reading_nothing (λ tally balanced. balanced) e
more_columns_read scope (var ∷ vars) tokens rest x =
    reading_then (column_reads scope var tokens x.middle x.first) (more_columns_read scope vars x.middle rest x.second)

columns_read : (scope : Scope) (columns : Option (List Var)) (tokens rest : List Token) → ReadsColumns scope columns tokens rest
    → Reading scope Balanced Balanced (HasNamedColumns (length scope.names) columns) nothing tokens rest
columns_read scope None tokens rest e = plain_word scope word.Star tokens rest (record { opens = refl; closes = refl }) e
columns_read scope (Some []) tokens rest x = elim x [ ]
columns_read scope (Some (var ∷ vars)) tokens rest x =
    reading_then (column_reads scope var tokens x.middle x.first) (more_columns_read scope vars x.middle rest x.second)

-- all that is read of a query
pub query_reads : (scope : Scope) (distinct : Bool) (declarations : List Declaration) (columns : Option (List Var)) (group : Group) (tokens rest : List Token)
    → (Many ReadsDeclaration declarations then The word.Select then ReadsDistinct distinct then ReadsColumns scope columns
    then Perhaps (The word.Where) then ReadsGroup scope group) tokens rest
    → Reading scope Balanced (λ tally. ⊤) (HasNamedColumns (length scope.names) columns × HasNamedGroup (length scope.names) group) (group_weight group) tokens rest
query_reads scope distinct declarations columns group tokens rest x =
    let s = x.second in
    let d = s.second in
    let c = d.second in
    let w = c.second in
    reading_as (reading_then (declarations_read scope declarations tokens x.middle x.first)
    (reading_then (plain_word scope word.Select x.middle s.middle (record { opens = refl; closes = refl }) s.first)
    (reading_then (distinct_reads scope distinct s.middle d.middle d.first)
    (reading_then (columns_read scope columns d.middle c.middle c.first)
    (reading_then (where_reads scope c.middle w.middle w.first)
    (reading_then (group_reads scope group w.middle rest w.second) (reading_nothing (λ tally deep. tt) refl)))))))
    (λ h. (h.1.1.1.0, h.1.1.1.1.1.0)) (record { operators = omega arith; conditions = omega arith; patterns = omega arith })
