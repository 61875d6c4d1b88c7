-- Groups and what stands in them.
use Rattle.std.specs.Prelude.{List, ◌∷◌}
use Rattle.sparql_algebra.specs.declared.pattern.PatternTriple.{PatternTriple}
use Rattle.sparql_algebra.specs.declared.expr.Expr.{Expr}
use Rattle.sparql_text.specs.declared.word.Word.TheVariants as word
use Rattle.sparql_text.specs.Tokens.{Token, Fixed}
use Rattle.sparql_text.specs.Front.{The, Perhaps}
use Rattle.sparql_text.specs.Scope.{Scope}
use Rattle.sparql_text.specs.Conditions.{ReadsFilter}
use Rattle.sparql_text.specs.Triples.{ReadsTriples}

mutual
  -- what stands in a group, element by element
  pub data Group : Type 0 where
    Empty : Group
    Patterns : List PatternTriple → Group → Group
    Alternatives : Groups → Group → Group
    Optional : Group → Group → Group
    Filter : Expr → Group → Group

  -- groups joined by UNION
  pub data Groups : Type 0 where
    Only : Group → Groups
    Union : Groups → Group → Groups

mutual
  -- Group = "{" [ Triples ] ( ( Alts or Optional or Filter ) [ "." ] [ Triples ] )* "}"
  pub data ReadsGroup (scope : Scope) : Group → List Token → List Token → Type 0 where
    Braces : (value : Group) (tokens rest : List Token) → ReadsContent scope value tokens (Fixed word.CloseBrace ∷ rest)
        → ReadsGroup scope value (Fixed word.OpenBrace ∷ tokens) rest

  -- [ Triples ] ( ( Alts or Optional or Filter ) [ "." ] [ Triples ] )*
  pub data ReadsContent (scope : Scope) : Group → List Token → List Token → Type 0 where
    With : (patterns : List PatternTriple) (value : Group) (tokens middle rest : List Token) → ReadsTriples scope patterns tokens middle
        → ReadsElements scope value middle rest → ReadsContent scope (Patterns patterns value) tokens rest
    Without : (value : Group) (tokens rest : List Token) → ReadsElements scope value tokens rest → ReadsContent scope value tokens rest

  -- ( ( Alts or Optional or Filter ) [ "." ] [ Triples ] )*
  pub data ReadsElements (scope : Scope) : Group → List Token → List Token → Type 0 where
    NoMore : (tokens : List Token) → ReadsElements scope Empty tokens tokens
    OfAlts : (groups : Groups) (value : Group) (tokens middle next rest : List Token) → ReadsAlts scope groups tokens middle
        → Perhaps (The word.Dot) middle next → ReadsContent scope value next rest → ReadsElements scope (Alternatives groups value) tokens rest
    OfOptional : (group value : Group) (tokens middle next rest : List Token) → ReadsGroup scope group tokens middle
        → Perhaps (The word.Dot) middle next → ReadsContent scope value next rest
        → ReadsElements scope (Optional group value) (Fixed word.Optional ∷ tokens) rest
    OfFilter : (condition : Expr) (value : Group) (tokens middle next rest : List Token) → ReadsFilter scope condition tokens middle
        → Perhaps (The word.Dot) middle next → ReadsContent scope value next rest
        → ReadsElements scope (Filter condition value) tokens rest

  -- Alts = Group ( "UNION" Group )*, joined from the left
  pub data ReadsAlts (scope : Scope) : Groups → List Token → List Token → Type 0 where
    OneGroup : (group : Group) (tokens rest : List Token) → ReadsGroup scope group tokens rest → ReadsAlts scope (Only group) tokens rest
    OrGroup : (groups : Groups) (group : Group) (tokens middle rest : List Token) → ReadsAlts scope groups tokens (Fixed word.Union ∷ middle)
        → ReadsGroup scope group middle rest → ReadsAlts scope (Union groups group) tokens rest
