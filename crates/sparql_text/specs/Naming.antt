-- The names of variables, one more at a time.
use Rattle.std.specs.Prelude.{◌≡◌, ℕ, List, [], ◌∷◌, ◌++◌, if◌then◌else◌, map, fold}
use Rattle.std.specs.List.{list_any}
use Rattle.std.specs.Borrow.{Bor}
use Rattle.m3_terms.specs.Order.{text_eq}
use Rattle.sparql_text.specs.declared.prefixes.Declared.{Declared}
use Rattle.sparql_text.specs.Tokens.{Token}
use Rattle.sparql_text.specs.Scope.{Declaration, name_of, names_of, declaration_of, declarations_of}

-- the names with one more, unless it is among them
abbrev pub with_name : List (List ℕ) → List ℕ → List (List ℕ)
with_name names name = if list_any (λ known. text_eq known name) names then names else (names ++ name ∷ [])

-- the texts that are pointed to
abbrev pub texts : List (Bor (List ℕ)) → List (List ℕ)
texts names = map (λ name. name.now) names

-- a name was added to those before, unless it was among them
abbrev pub AddsName : List (Bor (List ℕ)) → List ℕ → List (Bor (List ℕ)) → Type 0
AddsName before name after = texts after ≡ with_name (texts before) name

-- the declarations that are pointed to
abbrev pub declarations : List Declared → List Declaration
declarations declared = map (λ d. record { prefix = d.prefix.now; iri = d.iri.now }) declared

-- behind two others a token adds a declaration, or none
abbrev pub DeclarationsGrow : Type 0
DeclarationsGrow = (tokens : List Token) (first second third : Token)
    → declarations_of (tokens ++ first ∷ second ∷ third ∷ []) ≡ declarations_of (tokens ++ first ∷ second ∷ []) ++ declaration_of first second third

-- one more token adds its name, if it is a variable
abbrev pub NamesGrow : Type 0
NamesGrow = (tokens : List Token) (token : Token) → names_of (tokens ++ token ∷ []) ≡ fold with_name (names_of tokens) (name_of token)
