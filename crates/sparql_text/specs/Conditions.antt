-- The conditions of a FILTER.
use Rattle.std.specs.Prelude.{◌≡◌, List, ◌∷◌, Option, None, Some}
use Rattle.sparql_algebra.specs.declared.var.Var.{Var}
use Rattle.sparql_algebra.specs.declared.expr.Operand.{Operand}
use Rattle.sparql_algebra.specs.declared.expr.Operand.TheVariants as operand
use Rattle.sparql_algebra.specs.declared.expr.Compare.{Compare}
use Rattle.sparql_algebra.specs.declared.expr.Compare.TheVariants as compare
use Rattle.sparql_algebra.specs.declared.expr.Expr.{Expr}
use Rattle.sparql_algebra.specs.declared.expr.Expr.TheVariants as expr
use Rattle.sparql_text.specs.declared.word.Word.TheVariants as word
use Rattle.sparql_text.specs.Tokens.{Token, Fixed}
use Rattle.sparql_text.specs.Front.{The, One, ◌then◌}
use Rattle.sparql_text.specs.Scope.{Scope, as_variable, as_argument}

-- Operand = Arg0 or "STR" "(" Arg0 ")"
pub data ReadsOperand (scope : Scope) (value : Operand) (tokens rest : List Token) : Type 0 where
  Plain : One (as_argument scope) value tokens rest → ReadsOperand scope value tokens rest
  Str : (inner : Operand) → value ≡ operand.Str inner
      → (The word.Str then The word.OpenParen then One (as_argument scope) inner then The word.CloseParen) tokens rest
      → ReadsOperand scope value tokens rest

-- Sign = "=" or "!=" or "<" or ">" or "<=" or ">="
abbrev pub as_sign : Token → Option Compare
as_sign (Fixed word.Equal) = Some compare.Equal
as_sign (Fixed word.NotEqual) = Some compare.NotEqual
as_sign (Fixed word.Less) = Some compare.Less
as_sign (Fixed word.Greater) = Some compare.Greater
as_sign (Fixed word.LessEqual) = Some compare.LessEqual
as_sign (Fixed word.GreaterEqual) = Some compare.GreaterEqual
as_sign other = None

-- "ISIRI" or "ISURI" or "ISLITERAL", the tests of one operand
abbrev pub as_test : Token → Option (Operand → Expr)
as_test (Fixed word.IsIri) = Some (λ a. expr.IsIri a)
as_test (Fixed word.IsUri) = Some (λ a. expr.IsIri a)
as_test (Fixed word.IsLiteral) = Some (λ a. expr.IsLiteral a)
as_test other = None

-- "SAMETERM" or "CONTAINS" or "STRSTARTS", the tests of two operands
abbrev pub as_relation : Token → Option (Operand → Operand → Expr)
as_relation (Fixed word.SameTerm) = Some (λ a b. expr.SameTerm a b)
as_relation (Fixed word.Contains) = Some (λ a b. expr.Contains a b)
as_relation (Fixed word.StrStarts) = Some (λ a b. expr.StartsWith a b)
as_relation other = None

-- Call = "BOUND" "(" Var ")", or a test of one operand or of two in parentheses
pub data ReadsCall (scope : Scope) (value : Expr) (tokens rest : List Token) : Type 0 where
  Bound : (var : Var) → value ≡ expr.Bound var
      → (The word.Bound then The word.OpenParen then One (as_variable scope) var then The word.CloseParen) tokens rest
      → ReadsCall scope value tokens rest
  Test : (test : Operand → Expr) (a : Operand) → value ≡ test a
      → (One as_test test then The word.OpenParen then ReadsOperand scope a then The word.CloseParen) tokens rest
      → ReadsCall scope value tokens rest
  Relation : (relation : Operand → Operand → Expr) (a b : Operand) → value ≡ relation a b
      → (One as_relation relation then The word.OpenParen then ReadsOperand scope a then The word.Comma then ReadsOperand scope b
      then The word.CloseParen) tokens rest
      → ReadsCall scope value tokens rest

mutual
  -- Or = And ( "||" And )*, joined from the left
  pub data ReadsOr (scope : Scope) : Expr → List Token → List Token → Type 0 where
    OneAnd : (value : Expr) (tokens rest : List Token) → ReadsAnd scope value tokens rest → ReadsOr scope value tokens rest
    OrMore : (a b : Expr) (tokens middle rest : List Token) → ReadsOr scope a tokens (Fixed word.Or ∷ middle) → ReadsAnd scope b middle rest
        → ReadsOr scope (expr.Or a b) tokens rest

  -- And = Cond ( "&&" Cond )*, joined from the left
  pub data ReadsAnd (scope : Scope) : Expr → List Token → List Token → Type 0 where
    OneCond : (value : Expr) (tokens rest : List Token) → ReadsCond scope value tokens rest → ReadsAnd scope value tokens rest
    AndMore : (a b : Expr) (tokens middle rest : List Token) → ReadsAnd scope a tokens (Fixed word.And ∷ middle) → ReadsCond scope b middle rest
        → ReadsAnd scope (expr.And a b) tokens rest

  -- Cond = Operand [ Sign Operand ] or "!" Prim or "(" Or ")" or Call
  pub data ReadsCond (scope : Scope) : Expr → List Token → List Token → Type 0 where
    Valued : (a : Operand) (tokens rest : List Token) → ReadsOperand scope a tokens rest → ReadsCond scope (expr.Value a) tokens rest
    Compared : (sign : Compare) (a b : Operand) (tokens rest : List Token)
        → (ReadsOperand scope a then One as_sign sign then ReadsOperand scope b) tokens rest
        → ReadsCond scope (expr.Compare sign a b) tokens rest
    Negated : (value : Expr) (tokens rest : List Token) → ReadsPrim scope value tokens rest
        → ReadsCond scope (expr.Not value) (Fixed word.Not ∷ tokens) rest
    Within : (value : Expr) (tokens rest : List Token) → ReadsOr scope value tokens (Fixed word.CloseParen ∷ rest)
        → ReadsCond scope value (Fixed word.OpenParen ∷ tokens) rest
    Called : (value : Expr) (tokens rest : List Token) → ReadsCall scope value tokens rest → ReadsCond scope value tokens rest

  -- Prim = Operand or "(" Or ")" or Call
  pub data ReadsPrim (scope : Scope) : Expr → List Token → List Token → Type 0 where
    PrimValue : (a : Operand) (tokens rest : List Token) → ReadsOperand scope a tokens rest → ReadsPrim scope (expr.Value a) tokens rest
    PrimWithin : (value : Expr) (tokens rest : List Token) → ReadsOr scope value tokens (Fixed word.CloseParen ∷ rest)
        → ReadsPrim scope value (Fixed word.OpenParen ∷ tokens) rest
    PrimCalled : (value : Expr) (tokens rest : List Token) → ReadsCall scope value tokens rest → ReadsPrim scope value tokens rest

-- Filter = "FILTER" ( "(" Or ")" or Call )
pub data ReadsFilter (scope : Scope) (value : Expr) (tokens rest : List Token) : Type 0 where
  FilterWithin : (The word.Filter then The word.OpenParen then ReadsOr scope value then The word.CloseParen) tokens rest
      → ReadsFilter scope value tokens rest
  FilterCalled : (The word.Filter then ReadsCall scope value) tokens rest → ReadsFilter scope value tokens rest
