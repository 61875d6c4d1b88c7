-- The tokens of a query make exactly that query.
use Rattle.std.proofs.Common.{◌≡◌, ℕ, Bool, true, false, inl, inr, List, [], ◌∷◌, ◌++◌, Option, Some, None, refl, sym, ◌∙◌, ap}
use Rattle.std.specs.Prelude.{fold, flat_map, nat_eq}
use Rattle.std.proofs.lemmas.Bool.{eq-eqb, eqb-true}
use Rattle.std.proofs.lemmas.List.{append-nil, append_assoc}
use Rattle.std.proofs.lemmas.List.Sums.{fold-append}
use Rattle.sparql_algebra.specs.declared.var.Var.{Var}
use Rattle.sparql_algebra.specs.declared.pattern.PatternTriple.{PatternTriple}
use Rattle.sparql_algebra.specs.declared.algebra.Query.{Query}
use Rattle.sparql_text.specs.declared.word.Word.{Word}
use Rattle.sparql_text.specs.declared.word.Word.TheVariants as word
use Rattle.sparql_text.specs.Tokens.{Token, Iri, Name, Variable, String, Fixed}
use Rattle.sparql_text.specs.Front.{The, One, Many, Perhaps}
use Rattle.sparql_text.specs.Scope.{Declaration, Scope, firsts, names_of, scope_of, as_variable}
use Rattle.sparql_text.specs.Groups.{Group, ReadsGroup}
use Rattle.sparql_text.specs.Queries.{as_prefix, as_whole_iri, ReadsDeclaration, ReadsDistinct, ReadsColumns, IsQuery}
use Rattle.sparql_text.specs.Translation.{algebra_of, columns_of, patterns_in, variables_of}
use Rattle.sparql_text.proofs.NamesGrowing.{firsts_more}
use Rattle.sparql_read.specs.declared.draft.Said.TheVariants as said
use Rattle.sparql_read.specs.declared.draft.Draft.{Draft}
use Rattle.sparql_read.specs.Drafting.{blank_group, with_column, with_selected, drafted, query_in, query_of}
use Rattle.sparql_read.proofs.TriplesDrafted.{reading, with_variables}
use Rattle.sparql_read.proofs.GroupsDrafted.{FiltersAreDrafted, group_drafted}

-- whether two variables are one
abbrev same : Var → Var → Bool
same a b = nat_eq a.0 b.0

-- variables that are one with another are one
same_leads_on : (a b c : Var) → same a b ≡ true → same b c ≡ true → same a c ≡ true
same_leads_on a b c e f = eq-eqb a.0 c.0 (eqb-true a.0 b.0 e ∙ eqb-true b.0 c.0 f)

-- columns that come one by one stand each at its first place
columns_first : (had vars : List Var) → fold with_column (firsts same had) vars ≡ firsts same (had ++ vars)
columns_first had [] = ap (firsts same) (sym (append-nil had))
columns_first had (var ∷ vars) =
    ap (λ c. fold with_column c vars) (sym (firsts_more same same_leads_on had var))
    ∙ (columns_first (had ++ var ∷ []) vars
    ∙ ap (firsts same) (append_assoc had (var ∷ []) vars))

-- the variables of triple patterns become columns, where `*` stands behind SELECT
all_columns : (columns : List Var) (patterns : List PatternTriple) → fold (with_variables true) columns patterns ≡ fold with_column columns (flat_map variables_of patterns)
all_columns columns [] = refl
all_columns columns (triple ∷ patterns) =
    all_columns (fold with_column columns (variables_of triple)) patterns
    ∙ sym (fold-append with_column columns (variables_of triple) (flat_map variables_of patterns))

-- and otherwise they do not
same_columns : (columns : List Var) (patterns : List PatternTriple) → fold (with_variables false) columns patterns ≡ columns
same_columns columns [] = refl
same_columns columns (triple ∷ patterns) = same_columns columns patterns

-- a draft before the group of the query
abbrev before_group : List Var → Bool → Draft
before_group columns all = reading blank_group [] said.Nothing columns all

-- the draft behind what SELECT names
abbrev selected : Option (List Var) → Draft
selected None = before_group [] true
selected (Some vars) = before_group (fold with_column [] vars) false

-- a token that is neither a variable nor a word changes nothing
other_drafted : {A : Type 0} (scope : Scope) (stands : Token → Option A) (value : A) (tokens rest : List Token)
    → ((name : List ℕ) → stands (Variable name) ≡ None) → ((w : Word) → stands (Fixed w) ≡ None) → One stands value tokens rest
    → drafted scope (before_group [] false) tokens ≡ drafted scope (before_group [] false) rest
other_drafted scope stands value tokens rest no_variable no_word (token, is, f) = ap (drafted scope (before_group [] false)) f ∙ go token is
  where
    go : (token : Token) → stands token ≡ Some value → drafted scope (before_group [] false) (token ∷ rest) ≡ drafted scope (before_group [] false) rest
    go (Name prefix local) e = refl
    go (Iri iri) e = refl
    go (String text) e = refl
    go (Variable name) e = let none = no_variable name in absurd (cc)
    go (Fixed w) e = let none = no_word w in absurd (cc)

-- declarations change nothing
declarations_drafted : (scope : Scope) (declarations : List Declaration) (tokens rest : List Token) → Many ReadsDeclaration declarations tokens rest
    → drafted scope (before_group [] false) tokens ≡ drafted scope (before_group [] false) rest
declarations_drafted scope [] tokens rest f = ap (drafted scope (before_group [] false)) f
declarations_drafted scope (declaration ∷ declarations) tokens rest r =
    let one = r.first in
    ap (drafted scope (before_group [] false)) one.first
    ∙ (other_drafted scope as_prefix declaration.prefix one.middle one.second.middle (λ name. refl) (λ w. refl) one.second.first
    ∙ (other_drafted scope as_whole_iri declaration.iri one.second.middle r.middle (λ name. refl) (λ w. refl) one.second.second
    ∙ declarations_drafted scope declarations r.middle rest r.second))

-- DISTINCT changes nothing
distinct_drafted : (scope : Scope) (distinct : Bool) (tokens rest : List Token) → ReadsDistinct distinct tokens rest
    → drafted scope (before_group [] false) tokens ≡ drafted scope (before_group [] false) rest
distinct_drafted scope true tokens rest f = ap (drafted scope (before_group [] false)) f
distinct_drafted scope false tokens rest f = ap (drafted scope (before_group [] false)) f

-- a variable behind SELECT is a column
variable_drafted : (scope : Scope) (columns : List Var) (var : Var) (tokens rest : List Token) → One (as_variable scope) var tokens rest
    → drafted scope (before_group columns false) tokens ≡ drafted scope (before_group (with_column columns var) false) rest
variable_drafted scope columns var tokens rest (token, is, f) = ap (drafted scope (before_group columns false)) f ∙ go token is
  where
    go : (token : Token) → as_variable scope token ≡ Some var
        → drafted scope (before_group columns false) (token ∷ rest) ≡ drafted scope (before_group (with_column columns var) false) rest
    go (Variable name) e = ap (λ v. drafted scope (with_selected (before_group columns false) v) rest) e
    go (Name prefix local) e = absurd (cc)
    go (Iri iri) e = absurd (cc)
    go (String value) e = absurd (cc)
    go (Fixed w) e = absurd (cc)

-- variables behind SELECT are columns
variables_drafted : (scope : Scope) (columns vars : List Var) (tokens rest : List Token) → Many (One (as_variable scope)) vars tokens rest
    → drafted scope (before_group columns false) tokens ≡ drafted scope (before_group (fold with_column columns vars) false) rest
variables_drafted scope columns [] tokens rest f = ap (drafted scope (before_group columns false)) f
variables_drafted scope columns (var ∷ vars) tokens rest r =
    variable_drafted scope columns var tokens r.middle r.first ∙ variables_drafted scope (with_column columns var) vars r.middle rest r.second

-- what stands behind SELECT was read
columns_drafted : (scope : Scope) (columns : Option (List Var)) (tokens rest : List Token) → ReadsColumns scope columns tokens rest
    → drafted scope (before_group [] false) tokens ≡ drafted scope (selected columns) rest
columns_drafted scope None tokens rest f = ap (drafted scope (before_group [] false)) f
columns_drafted scope (Some []) tokens rest r = absurd r
columns_drafted scope (Some (var ∷ vars)) tokens rest r = variables_drafted scope [] (var ∷ vars) tokens rest r

-- WHERE changes nothing
where_drafted : (scope : Scope) (columns : Option (List Var)) (tokens rest : List Token) → Perhaps (The word.Where) tokens rest
    → drafted scope (selected columns) tokens ≡ drafted scope (selected columns) rest
where_drafted scope None tokens rest (inl f) = ap (drafted scope (selected None)) f
where_drafted scope (Some vars) tokens rest (inl f) = ap (drafted scope (selected (Some vars))) f
where_drafted scope columns tokens rest (inr f) = ap (drafted scope (selected columns)) f

-- the query of a draft
abbrev made : List (List ℕ) → Draft → Option Query
made names draft = query_in names draft.columns draft.group.alternatives

-- the group makes the query
group_made : FiltersAreDrafted → (scope : Scope) (names : List (List ℕ)) (columns : Option (List Var)) (group : Group) (tokens : List Token) → ReadsGroup scope group tokens []
    → made names (drafted scope (selected columns) tokens) ≡ Some (record { names = names; columns = columns_of columns group; pattern = algebra_of group })
group_made filters scope names None group tokens read =
    ap (made names) (group_drafted filters scope group tokens [] read blank_group [] said.Nothing [] true)
    ∙ ap (λ c. Some (record { names = names; columns = c; pattern = algebra_of group }))
    (all_columns [] (patterns_in group) ∙ columns_first [] (flat_map variables_of (patterns_in group)))
group_made filters scope names (Some vars) group tokens read =
    let columns = fold with_column [] vars in
    ap (made names) (group_drafted filters scope group tokens [] read blank_group [] said.Nothing columns false)
    ∙ ap (λ c. Some (record { names = names; columns = c; pattern = algebra_of group })) (same_columns columns (patterns_in group) ∙ columns_first [] vars)

-- the tokens of a query make it
pub queries_are_drafted : FiltersAreDrafted → (distinct : Bool) (query : Query) (tokens : List Token) → IsQuery distinct query tokens → query_of tokens ≡ Some query
queries_are_drafted filters distinct query tokens q =
    let scope = scope_of tokens in
    let a = q.reads in let b = a.second in let c = b.second in let d = c.second in let e = d.second in
    ap (made (names_of tokens))
    (declarations_drafted scope q.declarations tokens a.middle a.first
    ∙ (ap (drafted scope (before_group [] false)) b.first
    ∙ (distinct_drafted scope distinct b.middle c.middle c.first
    ∙ (columns_drafted scope q.columns c.middle d.middle d.first
    ∙ where_drafted scope q.columns d.middle e.middle e.first))))
    ∙ (group_made filters scope (names_of tokens) q.columns q.group e.middle e.second
    ∙ ap Some (sym q.is))
