-- What the tokens of a query stand for: variables by their numbers, and terms.
use Rattle.std.specs.Prelude.{◌≡◌, ℕ, Bool, not, List, [], ◌∷◌, ◌++◌, Option, Some, None, filter, flat_map, find, reverse, unwrap_or, codes, refl}
use Rattle.std.specs.Option.{option_map}
use Rattle.std.specs.List.{position_or_len}
use Rattle.m3_terms.specs.Order.{text_eq}
use Rattle.m3_terms.specs.declared.term.Term.TheVariants as term
use Rattle.sparql_algebra.specs.declared.var.Var.{Var}
use Rattle.sparql_algebra.specs.declared.pattern.Place.{Place}
use Rattle.sparql_algebra.specs.declared.pattern.Place.TheVariants as place
use Rattle.sparql_algebra.specs.declared.expr.Operand.{Operand}
use Rattle.sparql_algebra.specs.declared.expr.Operand.TheVariants as operand
use Rattle.sparql_text.specs.declared.word.Word.TheVariants as word
use Rattle.sparql_text.specs.Tokens.{Token, Iri, Name, Variable, String, Fixed}

-- a prefix and the IRI that it was declared for
pub record Declaration : Type 0 where
  pub prefix : List ℕ
  pub iri : List ℕ

-- the names of a query's variables, by their numbers, and its declarations
pub record Scope : Type 0 where
  pub names : List (List ℕ)
  pub declarations : List Declaration

-- each value once, at its first place
abbrev pub firsts : {A : Type 0} → (A → A → Bool) → List A → List A
firsts eq [] = []
firsts eq (value ∷ values) = value ∷ filter (λ other. not (eq value other)) (firsts eq values)

-- the name of a variable
abbrev pub name_of : Token → List (List ℕ)
name_of (Variable name) = name ∷ []
name_of other = []

-- the names of the distinct variables of tokens, in the order of first occurrence
abbrev pub names_of : List Token → List (List ℕ)
names_of tokens = firsts text_eq (flat_map name_of tokens)

-- `PREFIX`, a prefixed name and an IRI declare its prefix
abbrev pub declaration_of : Token → Token → Token → List Declaration
declaration_of (Fixed word.Prefix) (Name prefix local) (Iri iri) = record { prefix = prefix; iri = iri } ∷ []
declaration_of first second third = []

-- the declarations of tokens, in their order
abbrev pub declarations_of : List Token → List Declaration
declarations_of (first ∷ second ∷ third ∷ tokens) = declaration_of first second third ++ declarations_of (second ∷ third ∷ tokens)
declarations_of tokens = []

-- the scope of tokens
abbrev pub scope_of : List Token → Scope
scope_of tokens = record { names = names_of tokens; declarations = declarations_of tokens }

-- the IRI that a prefix stands for: that of its last declaration
abbrev pub iri_of : List Declaration → List ℕ → Option (List ℕ)
iri_of declarations prefix = option_map (λ d. d.iri) (find (λ d. text_eq d.prefix prefix) (reverse declarations))

-- the variable of a name: the name's place among the names of the query
abbrev pub variable_of : Scope → List ℕ → Var
variable_of scope name = record { 0 = position_or_len (text_eq name) scope.names }

-- the IRI of a prefixed name: what its prefix stands for, followed by its local part; under an undeclared prefix it is the
-- local part alone, and such a token is refused elsewhere (`IsUndeclared`)
abbrev pub full_iri : Scope → List ℕ → List ℕ → List ℕ
full_iri scope prefix local = unwrap_or (iri_of scope.declarations prefix) [] ++ local

-- what `a` stands for
unfoldable pub type_iri : List ℕ
type_iri = codes "http://www.w3.org/1999/02/22-rdf-syntax-ns#type"

-- Var
abbrev pub as_variable : Scope → Token → Option Var
as_variable scope (Variable name) = Some (variable_of scope name)
as_variable scope other = None

-- Var or Iri, the subject of a triple pattern
abbrev pub as_subject : Scope → Token → Option Place
as_subject scope (Variable name) = Some (place.Var (variable_of scope name))
as_subject scope (Iri iri) = Some (place.Is (term.Uri iri))
as_subject scope (Name prefix local) = Some (place.Is (term.Uri (full_iri scope prefix local)))
as_subject scope other = None

-- Verb = Var or Iri or "a"
abbrev pub as_verb : Scope → Token → Option Place
as_verb scope (Fixed word.A) = Some (place.Is (term.Uri type_iri))
as_verb scope token = as_subject scope token

-- Object = Var or Iri or String
abbrev pub as_object : Scope → Token → Option Place
as_object scope (String value) = Some (place.Is (term.Literal value))
as_object scope token = as_subject scope token

-- Arg0 = Var or Iri or String
abbrev pub as_argument : Scope → Token → Option Operand
as_argument scope (Variable name) = Some (operand.Var (variable_of scope name))
as_argument scope (Iri iri) = Some (operand.Is (term.Uri iri))
as_argument scope (Name prefix local) = Some (operand.Is (term.Uri (full_iri scope prefix local)))
as_argument scope (String value) = Some (operand.Is (term.Literal value))
as_argument scope (Fixed word) = None

-- a variable that occurs twice has one name, at its first place
example_names : names_of (Variable (98 ∷ []) ∷ Variable (97 ∷ []) ∷ Variable (98 ∷ []) ∷ []) ≡ (98 ∷ []) ∷ (97 ∷ []) ∷ []
example_names = refl

-- the last declaration of a prefix counts
example_last : iri_of (declarations_of (Fixed word.Prefix ∷ Name [] [] ∷ Iri (97 ∷ []) ∷ Fixed word.Prefix ∷ Name [] [] ∷ Iri (98 ∷ []) ∷ [])) []
    ≡ Some (98 ∷ [])
example_last = refl

-- a prefix that is not declared stands for nothing
example_undeclared : iri_of (declarations_of (Fixed word.Prefix ∷ Name [] [] ∷ Iri (97 ∷ []) ∷ [])) (112 ∷ []) ≡ None
example_undeclared = refl
