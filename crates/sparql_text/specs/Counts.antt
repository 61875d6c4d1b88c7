-- The counts of a query that have limits, each of the tokens so far.
use Rattle.std.specs.Prelude.{◌≡◌, ℕ, ◌+◌, ◌-◌, Bool, true, false, ◌||◌, ◌&&◌, nat_eq, nat_lt, if◌then◌else◌, List, [], ◌∷◌, ◌++◌, Option, Some, None, length, count_by, refl}
use Rattle.std.specs.List.{list_any}
use Rattle.sparql_text.specs.declared.fault.Limit.{Limit}
use Rattle.sparql_text.specs.declared.fault.Limit.TheVariants.{Variables, Patterns, Operators, Conditions, Nesting, Term}
use Rattle.sparql_text.specs.declared.word.Word.TheVariants as word
use Rattle.sparql_text.specs.Tokens.{Token, Iri, Name, Variable, String, Fixed}
use Rattle.sparql_text.specs.Scope.{scope_of, names_of, full_iri}

-- how many distinct variables the tokens have
abbrev pub variables : List Token → ℕ
variables tokens = length (names_of tokens)

-- `{` or `(`
abbrev pub opens : Token → Bool
opens (Fixed word.OpenBrace) = true
opens (Fixed word.OpenParen) = true
opens other = false

-- `}` or `)`
abbrev pub closes : Token → Bool
closes (Fixed word.CloseBrace) = true
closes (Fixed word.CloseParen) = true
closes other = false

-- how many `{` and `(` of the tokens are open
abbrev pub nesting : List Token → ℕ
nesting tokens = count_by opens tokens - count_by closes tokens

-- UNION or OPTIONAL
abbrev pub is_operator : Token → Bool
is_operator (Fixed word.Union) = true
is_operator (Fixed word.Optional) = true
is_operator other = false

-- FILTER, `&&` or `||`
abbrev pub is_condition : Token → Bool
is_condition (Fixed word.Filter) = true
is_condition (Fixed word.And) = true
is_condition (Fixed word.Or) = true
is_condition other = false

-- `(`
abbrev pub is_open_paren : Token → Bool
is_open_paren (Fixed word.OpenParen) = true
is_open_paren other = false

-- `)`
abbrev pub is_close_paren : Token → Bool
is_close_paren (Fixed word.CloseParen) = true
is_close_paren other = false

-- `{`
abbrev pub is_open_brace : Token → Bool
is_open_brace (Fixed word.OpenBrace) = true
is_open_brace other = false

-- the tokens lead into the pattern of a query
abbrev pub is_in_pattern : List Token → Bool
is_in_pattern before = list_any is_open_brace before

-- and they are in no parentheses, so not in a condition
abbrev pub is_among_triples : List Token → Bool
is_among_triples before = is_in_pattern before && nat_eq (count_by is_open_paren before) (count_by is_close_paren before)

-- what may stand in a triple pattern: a variable, an IRI, a prefixed name, a string, or `a`
abbrev pub is_in_triple : Token → Bool
is_in_triple (Fixed word.A) = true
is_in_triple (Fixed word) = false
is_in_triple other = true

-- `,`
abbrev pub is_comma : Token → Bool
is_comma (Fixed word.Comma) = true
is_comma other = false

-- `;`
abbrev pub is_semicolon : Token → Bool
is_semicolon (Fixed word.Semicolon) = true
is_semicolon other = false

-- an object comes behind these tokens, the last of which stands first here: behind `,`, behind `;` and a verb, or behind a
-- subject and a verb
abbrev pub awaits_object : List Token → Bool
awaits_object [] = false
awaits_object (last ∷ []) = is_comma last
awaits_object (last ∷ other ∷ before) = is_comma last || (is_in_triple last && (is_semicolon other || is_in_triple other))

-- how many of the tokens are objects, behind others, the last of which stands first here
abbrev pub objects_behind : List Token → List Token → ℕ
objects_behind before [] = 0
objects_behind before (token ∷ tokens) =
    (if is_among_triples before && awaits_object before && is_in_triple token then 1 else 0) + objects_behind (token ∷ before) tokens

-- how many triple patterns the tokens have, each counted at the token of its object
abbrev pub patterns : List Token → ℕ
patterns tokens = objects_behind [] tokens

-- the bytes of the term that a token stands for behind others, in a triple pattern or a FILTER
abbrev pub term_bytes : List Token → Token → ℕ
term_bytes before (Iri iri) = if is_in_pattern before then length iri else 0
term_bytes before (Name prefix local) = if is_in_pattern before then length (full_iri (scope_of before) prefix local) else 0
term_bytes before (String value) = length value
term_bytes before (Variable name) = 0
term_bytes before (Fixed word) = 0

-- the first of these counts that passes its limit: of variables, triple patterns, operators, conditions, what is open, and
-- the bytes of a term
abbrev pub first_passed : ℕ → ℕ → ℕ → ℕ → ℕ → ℕ → Option Limit
first_passed variables patterns operators conditions open_ones term =
    if nat_lt 16 variables then Some Variables
    else if nat_lt 32 patterns then Some Patterns
    else if nat_lt 16 operators then Some Operators
    else if nat_lt 256 conditions then Some Conditions
    else if nat_lt 16 open_ones then Some Nesting
    else if nat_lt 4096 term then Some Term
    else None

-- the first of the counts that passes its limit at a token behind others, whose own counts are to be within their limits
abbrev pub passed : List Token → Token → Option Limit
passed before token =
    let tokens = before ++ token ∷ [] in
    first_passed (variables tokens) (patterns tokens) (count_by is_operator tokens) (count_by is_condition tokens) (nesting tokens) (term_bytes before token)

-- `{ ?a a <c> , "" ; ?b ?c` has three triple patterns
example_patterns : patterns (Fixed word.OpenBrace ∷ Variable (97 ∷ []) ∷ Fixed word.A ∷ Iri (99 ∷ []) ∷ Fixed word.Comma ∷ String [] ∷ Fixed word.Semicolon
    ∷ Variable (98 ∷ []) ∷ Variable (99 ∷ []) ∷ []) ≡ 3
example_patterns = refl

-- and the columns are none
example_columns : patterns (Fixed word.Select ∷ Variable (97 ∷ []) ∷ Variable (98 ∷ []) ∷ Variable (99 ∷ []) ∷ []) ≡ 0
example_columns = refl

-- a parenthesis that was closed is not open
example_nesting : nesting (Fixed word.OpenBrace ∷ Fixed word.Filter ∷ Fixed word.OpenParen ∷ Fixed word.CloseParen ∷ []) ≡ 1
example_nesting = refl
