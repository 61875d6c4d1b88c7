-- Whatever the grammar reads the machine takes.
use Rattle.std.proofs.Common.{◌≡◌, List, [], ◌∷◌, ◌++◌, map, refl, ◌∙◌, ap, Option, Some}
use Rattle.std.specs.Option.{option_map}
use Rattle.sparql_algebra.specs.declared.var.Var.{Var}
use Rattle.sparql_algebra.specs.declared.pattern.Place.{Place}
use Rattle.sparql_algebra.specs.declared.expr.Operand.{Operand as AlgebraOperand}
use Rattle.sparql_algebra.specs.declared.expr.Expr.{Expr}
use Rattle.sparql_algebra.specs.declared.expr.Compare.{Compare}
use Rattle.sparql_text.specs.declared.word.Word.{Word}
use Rattle.sparql_text.specs.declared.word.Word.TheVariants as word
use Rattle.sparql_text.specs.declared.symbol.Symbol.{Symbol}
use Rattle.sparql_text.specs.declared.symbol.Symbol.TheVariants.{Verb, Object, Objects, Said, Filter, Condition, Joined, Compared, Prim, Operand, Argument, Variable, OpenParen, CloseParen, Comma}
use Rattle.sparql_text.specs.Tokens.{Token}
use Rattle.sparql_text.specs.Front.{The, One}
use Rattle.sparql_text.specs.Scope.{Scope, as_variable, as_subject, as_verb, as_object, as_argument}
use Rattle.sparql_text.specs.Conditions.{ReadsOperand, ReadsCall, ReadsOr, ReadsAnd, ReadsCond, ReadsPrim, as_sign, as_test, as_relation}
use Rattle.sparql_text.specs.Conditions.ReadsOperand.{Plain, Str}
use Rattle.sparql_text.specs.Conditions.ReadsCall.{Bound, Test, Relation}
use Rattle.sparql_text.specs.Conditions.ReadsOr.{OneAnd, OrMore}
use Rattle.sparql_text.specs.Conditions.ReadsAnd.{OneCond, AndMore}
use Rattle.sparql_text.specs.Conditions.ReadsCond.{Valued, Compared as ComparedCond, Negated, Within, Called}
use Rattle.sparql_text.specs.Conditions.ReadsPrim.{PrimValue, PrimWithin, PrimCalled}
use Rattle.sparql_text.specs.Machine.{kind_of, at_subject, at_argument, step, run}
use Rattle.sparql_text.specs.declared.symbol.Kind.TheVariants as kind

-- the stack behind tokens
abbrev pub after : List Symbol → List Token → Option (List Symbol)
after symbols tokens = run (Some symbols) (map kind_of tokens)

-- a token that is taken
pub taking : (symbol : Symbol) (symbols pushed : List Symbol) (token : Token) (tokens : List Token) → step symbol (kind_of token) ≡ Some pushed
    → after (symbol ∷ symbols) (token ∷ tokens) ≡ after (pushed ++ symbols) tokens
taking symbol symbols pushed token tokens e = ap (λ s. run (option_map (λ p. p ++ symbols) s) (map kind_of tokens)) e

-- what a subject, an object and an argument are as kinds
pub subject_step : (scope : Scope) (place : Place) (symbols : List Symbol) (token : Token) → as_subject scope token ≡ Some place
    → at_subject symbols (kind_of token) ≡ Some symbols
subject_step scope place symbols (Token.Iri iri) e = refl
subject_step scope place symbols (Token.Name prefix []) e = refl
subject_step scope place symbols (Token.Name prefix (byte ∷ local)) e = refl
subject_step scope place symbols (Token.Variable name) e = refl
subject_step scope place symbols (Token.String value) e = absurd (cc)
subject_step scope place symbols (Token.Fixed word) e = absurd (cc)

pub object_step : (scope : Scope) (place : Place) (symbols : List Symbol) (token : Token) → as_object scope token ≡ Some place
    → at_argument symbols (kind_of token) ≡ Some symbols
object_step scope place symbols (Token.Iri iri) e = refl
object_step scope place symbols (Token.Name prefix []) e = refl
object_step scope place symbols (Token.Name prefix (byte ∷ local)) e = refl
object_step scope place symbols (Token.Variable name) e = refl
object_step scope place symbols (Token.String value) e = refl
object_step scope place symbols (Token.Fixed word) e = absurd (cc)

argument_step : (scope : Scope) (a : AlgebraOperand) (symbols : List Symbol) (token : Token) → as_argument scope token ≡ Some a
    → at_argument symbols (kind_of token) ≡ Some symbols
argument_step scope a symbols (Token.Iri iri) e = refl
argument_step scope a symbols (Token.Name prefix []) e = refl
argument_step scope a symbols (Token.Name prefix (byte ∷ local)) e = refl
argument_step scope a symbols (Token.Variable name) e = refl
argument_step scope a symbols (Token.String value) e = refl
argument_step scope a symbols (Token.Fixed word) e = absurd (cc)

-- a verb
pub verb_step : (scope : Scope) (place : Place) (token : Token) → as_verb scope token ≡ Some place
    → (step Verb (kind_of token) ≡ Some []) × (step Said (kind_of token) ≡ Some (Object ∷ Objects ∷ []))
unfolding step
verb_step scope place (Token.Iri iri) e = (refl, refl)
verb_step scope place (Token.Name prefix []) e = (refl, refl)
verb_step scope place (Token.Name prefix (byte ∷ local)) e = (refl, refl)
verb_step scope place (Token.Variable name) e = (refl, refl)
verb_step scope place (Token.String value) e = absurd (cc)
verb_step scope place (Token.Fixed word.A) e = (refl, refl)
verb_step scope place (Token.Fixed other) e = absurd (cc)

-- a variable
pub variable_step : (scope : Scope) (var : Var) (token : Token) → as_variable scope token ≡ Some var → kind_of token ≡ kind.Variable
variable_step scope var (Token.Iri iri) e = absurd (cc)
variable_step scope var (Token.Name prefix local) e = absurd (cc)
variable_step scope var (Token.Variable name) e = refl
variable_step scope var (Token.String value) e = absurd (cc)
variable_step scope var (Token.Fixed word) e = absurd (cc)

-- symbols at which an operand may begin, with what then follows it
pub data OperandState : Symbol → List Symbol → Type 0 where
  AsOperand : OperandState Operand []
  AsCondition : OperandState Condition (Compared ∷ [])
  AsPrim : OperandState Prim []

operand_argument : (scope : Scope) (symbol : Symbol) (symbols : List Symbol) → OperandState symbol symbols → (a : AlgebraOperand) (token : Token)
    → as_argument scope token ≡ Some a → step symbol (kind_of token) ≡ Some symbols
unfolding step
operand_argument scope symbol symbols AsOperand a token e = plain token e
  where
    plain : (token : Token) → as_argument scope token ≡ Some a → step Operand (kind_of token) ≡ Some []
    plain (Token.Iri iri) e = refl
    plain (Token.Name prefix []) e = refl
    plain (Token.Name prefix (byte ∷ local)) e = refl
    plain (Token.Variable name) e = refl
    plain (Token.String value) e = refl
    plain (Token.Fixed word) e = absurd (cc)
operand_argument scope symbol symbols AsCondition a token e = plain token e
  where
    plain : (token : Token) → as_argument scope token ≡ Some a → step Condition (kind_of token) ≡ Some (Compared ∷ [])
    plain (Token.Iri iri) e = refl
    plain (Token.Name prefix []) e = refl
    plain (Token.Name prefix (byte ∷ local)) e = refl
    plain (Token.Variable name) e = refl
    plain (Token.String value) e = refl
    plain (Token.Fixed word) e = absurd (cc)
operand_argument scope symbol symbols AsPrim a token e = plain token e
  where
    plain : (token : Token) → as_argument scope token ≡ Some a → step Prim (kind_of token) ≡ Some []
    plain (Token.Iri iri) e = refl
    plain (Token.Name prefix []) e = refl
    plain (Token.Name prefix (byte ∷ local)) e = refl
    plain (Token.Variable name) e = refl
    plain (Token.String value) e = refl
    plain (Token.Fixed word) e = absurd (cc)

operand_str : (symbol : Symbol) (symbols : List Symbol) → OperandState symbol symbols → step symbol (kind.Fixed word.Str) ≡ Some (OpenParen ∷ Argument ∷ CloseParen ∷ symbols)
unfolding step
operand_str symbol symbols AsOperand = refl
operand_str symbol symbols AsCondition = refl
operand_str symbol symbols AsPrim = refl

-- a sign that is taken
sign_goes : (symbol : Symbol) (w : Word) (symbols : List Symbol) (tokens rest : List Token) → step symbol (kind.Fixed w) ≡ Some [] → The w tokens rest
    → after (symbol ∷ symbols) tokens ≡ after symbols rest
sign_goes symbol w symbols tokens rest e is = ap (after (symbol ∷ symbols)) is ∙ taking symbol symbols [] (Token.Fixed w) rest e

opens_step : step OpenParen (kind.Fixed word.OpenParen) ≡ Some []
unfolding step
opens_step = refl

closes_step : step CloseParen (kind.Fixed word.CloseParen) ≡ Some []
unfolding step
closes_step = refl

comma_step : step Comma (kind.Fixed word.Comma) ≡ Some []
unfolding step
comma_step = refl

-- an argument
argument_goes : (scope : Scope) (a : AlgebraOperand) (symbols : List Symbol) (tokens rest : List Token) → One (as_argument scope) a tokens rest
    → after (Argument ∷ symbols) tokens ≡ after symbols rest
unfolding step
argument_goes scope a symbols tokens rest (token, is, e) =
    ap (after (Argument ∷ symbols)) e ∙ taking Argument symbols [] token rest (argument_step scope a [] token is)

-- an operand
operand_goes : (scope : Scope) (symbol : Symbol) (follows : List Symbol) (a : AlgebraOperand) (tokens rest : List Token) → OperandState symbol follows
    → ReadsOperand scope a tokens rest → (symbols : List Symbol) → after (symbol ∷ symbols) tokens ≡ after (follows ++ symbols) rest
operand_goes scope symbol follows a tokens rest state (Plain one) symbols =
    ap (after (symbol ∷ symbols)) one.2 ∙ taking symbol symbols follows one.0 rest (operand_argument scope symbol follows state a one.0 one.1)
operand_goes scope symbol follows a tokens rest state (Str inner is x) symbols =
    ap (after (symbol ∷ symbols)) x.first ∙ (taking symbol symbols (OpenParen ∷ Argument ∷ CloseParen ∷ follows) (Token.Fixed word.Str) x.middle (operand_str symbol follows state)
    ∙ (sign_goes OpenParen word.OpenParen (Argument ∷ CloseParen ∷ (follows ++ symbols)) x.middle x.second.middle opens_step x.second.first
    ∙ (argument_goes scope inner (CloseParen ∷ (follows ++ symbols)) x.second.middle x.second.second.middle x.second.second.first
    ∙ sign_goes CloseParen word.CloseParen (follows ++ symbols) x.second.second.middle rest closes_step x.second.second.second)))

-- symbols at which a call may begin, with what then follows it
pub data CallState : Symbol → List Symbol → Type 0 where
  CallFilter : CallState Filter []
  CallCondition : CallState Condition (Joined ∷ [])
  CallPrim : CallState Prim []

call_bound : (symbol : Symbol) (symbols : List Symbol) → CallState symbol symbols → step symbol (kind.Fixed word.Bound) ≡ Some (OpenParen ∷ Variable ∷ CloseParen ∷ symbols)
unfolding step
call_bound symbol symbols CallFilter = refl
call_bound symbol symbols CallCondition = refl
call_bound symbol symbols CallPrim = refl

call_test : (symbol : Symbol) (symbols : List Symbol) → CallState symbol symbols → (test : AlgebraOperand → Expr) (token : Token) → as_test token ≡ Some test
    → step symbol (kind_of token) ≡ Some (OpenParen ∷ Operand ∷ CloseParen ∷ symbols)
unfolding step
call_test symbol symbols state test (Token.Fixed word.IsIri) e = at symbol symbols state
  where
    at : (symbol : Symbol) (symbols : List Symbol) → CallState symbol symbols → step symbol (kind.Fixed word.IsIri) ≡ Some (OpenParen ∷ Operand ∷ CloseParen ∷ symbols)
    at symbol symbols CallFilter = refl
    at symbol symbols CallCondition = refl
    at symbol symbols CallPrim = refl
call_test symbol symbols state test (Token.Fixed word.IsUri) e = at symbol symbols state
  where
    at : (symbol : Symbol) (symbols : List Symbol) → CallState symbol symbols → step symbol (kind.Fixed word.IsUri) ≡ Some (OpenParen ∷ Operand ∷ CloseParen ∷ symbols)
    at symbol symbols CallFilter = refl
    at symbol symbols CallCondition = refl
    at symbol symbols CallPrim = refl
call_test symbol symbols state test (Token.Fixed word.IsLiteral) e = at symbol symbols state
  where
    at : (symbol : Symbol) (symbols : List Symbol) → CallState symbol symbols → step symbol (kind.Fixed word.IsLiteral) ≡ Some (OpenParen ∷ Operand ∷ CloseParen ∷ symbols)
    at symbol symbols CallFilter = refl
    at symbol symbols CallCondition = refl
    at symbol symbols CallPrim = refl
call_test symbol symbols state test (Token.Fixed other) e = absurd (cc)
call_test symbol symbols state test (Token.Iri iri) e = absurd (cc)
call_test symbol symbols state test (Token.Name prefix local) e = absurd (cc)
call_test symbol symbols state test (Token.Variable name) e = absurd (cc)
call_test symbol symbols state test (Token.String value) e = absurd (cc)

call_relation : (symbol : Symbol) (symbols : List Symbol) → CallState symbol symbols → (relation : AlgebraOperand → AlgebraOperand → Expr) (token : Token)
    → as_relation token ≡ Some relation → step symbol (kind_of token) ≡ Some (OpenParen ∷ Operand ∷ Comma ∷ Operand ∷ CloseParen ∷ symbols)
unfolding step
call_relation symbol symbols state relation (Token.Fixed word.SameTerm) e = at symbol symbols state
  where
    at : (symbol : Symbol) (symbols : List Symbol) → CallState symbol symbols
        → step symbol (kind.Fixed word.SameTerm) ≡ Some (OpenParen ∷ Operand ∷ Comma ∷ Operand ∷ CloseParen ∷ symbols)
    at symbol symbols CallFilter = refl
    at symbol symbols CallCondition = refl
    at symbol symbols CallPrim = refl
call_relation symbol symbols state relation (Token.Fixed word.Contains) e = at symbol symbols state
  where
    at : (symbol : Symbol) (symbols : List Symbol) → CallState symbol symbols
        → step symbol (kind.Fixed word.Contains) ≡ Some (OpenParen ∷ Operand ∷ Comma ∷ Operand ∷ CloseParen ∷ symbols)
    at symbol symbols CallFilter = refl
    at symbol symbols CallCondition = refl
    at symbol symbols CallPrim = refl
call_relation symbol symbols state relation (Token.Fixed word.StrStarts) e = at symbol symbols state
  where
    at : (symbol : Symbol) (symbols : List Symbol) → CallState symbol symbols
        → step symbol (kind.Fixed word.StrStarts) ≡ Some (OpenParen ∷ Operand ∷ Comma ∷ Operand ∷ CloseParen ∷ symbols)
    at symbol symbols CallFilter = refl
    at symbol symbols CallCondition = refl
    at symbol symbols CallPrim = refl
call_relation symbol symbols state relation (Token.Fixed other) e = absurd (cc)
call_relation symbol symbols state relation (Token.Iri iri) e = absurd (cc)
call_relation symbol symbols state relation (Token.Name prefix local) e = absurd (cc)
call_relation symbol symbols state relation (Token.Variable name) e = absurd (cc)
call_relation symbol symbols state relation (Token.String value) e = absurd (cc)

-- a variable that is taken
variable_goes : (scope : Scope) (var : Var) (symbols : List Symbol) (tokens rest : List Token) → One (as_variable scope) var tokens rest
    → after (Variable ∷ symbols) tokens ≡ after symbols rest
unfolding step
variable_goes scope var symbols tokens rest (token, is, e) =
    ap (after (Variable ∷ symbols)) e ∙ taking Variable symbols [] token rest (ap (step Variable) (variable_step scope var token is))

-- a call
pub call_goes : (scope : Scope) (symbol : Symbol) (follows : List Symbol) (value : Expr) (tokens rest : List Token) → CallState symbol follows
    → ReadsCall scope value tokens rest → (symbols : List Symbol) → after (symbol ∷ symbols) tokens ≡ after (follows ++ symbols) rest
call_goes scope symbol follows value tokens rest state (Bound var is x) symbols =
    ap (after (symbol ∷ symbols)) x.first ∙ (taking symbol symbols (OpenParen ∷ Variable ∷ CloseParen ∷ follows) (Token.Fixed word.Bound) x.middle (call_bound symbol follows state)
    ∙ (sign_goes OpenParen word.OpenParen (Variable ∷ CloseParen ∷ (follows ++ symbols)) x.middle x.second.middle opens_step x.second.first
    ∙ (variable_goes scope var (CloseParen ∷ (follows ++ symbols)) x.second.middle x.second.second.middle x.second.second.first
    ∙ sign_goes CloseParen word.CloseParen (follows ++ symbols) x.second.second.middle rest closes_step x.second.second.second)))
call_goes scope symbol follows value tokens rest state (Test test a is x) symbols =
    ap (after (symbol ∷ symbols)) x.first.2 ∙ (taking symbol symbols (OpenParen ∷ Operand ∷ CloseParen ∷ follows) x.first.0 x.middle (call_test symbol follows state test x.first.0 x.first.1)
    ∙ (sign_goes OpenParen word.OpenParen (Operand ∷ CloseParen ∷ (follows ++ symbols)) x.middle x.second.middle opens_step x.second.first
    ∙ (operand_goes scope Operand [] a x.second.middle x.second.second.middle AsOperand x.second.second.first (CloseParen ∷ (follows ++ symbols))
    ∙ sign_goes CloseParen word.CloseParen (follows ++ symbols) x.second.second.middle rest closes_step x.second.second.second)))
call_goes scope symbol follows value tokens rest state (Relation relation a b is x) symbols =
    let y = x.second.second.second in
    ap (after (symbol ∷ symbols)) x.first.2 ∙ (taking symbol symbols (OpenParen ∷ Operand ∷ Comma ∷ Operand ∷ CloseParen ∷ follows) x.first.0 x.middle
    (call_relation symbol follows state relation x.first.0 x.first.1)
    ∙ (sign_goes OpenParen word.OpenParen (Operand ∷ Comma ∷ Operand ∷ CloseParen ∷ (follows ++ symbols)) x.middle x.second.middle opens_step x.second.first
    ∙ (operand_goes scope Operand [] a x.second.middle x.second.second.middle AsOperand x.second.second.first (Comma ∷ Operand ∷ CloseParen ∷ (follows ++ symbols))
    ∙ (sign_goes Comma word.Comma (Operand ∷ CloseParen ∷ (follows ++ symbols)) x.second.second.middle y.middle comma_step y.first
    ∙ (operand_goes scope Operand [] b y.middle y.second.middle AsOperand y.second.first (CloseParen ∷ (follows ++ symbols))
    ∙ sign_goes CloseParen word.CloseParen (follows ++ symbols) y.second.middle rest closes_step y.second.second)))))

-- what follows is joined to a condition or ends it, and compares nothing
abbrev pub Ends : List Token → Type 0
Ends rest = (symbols : List Symbol) → after (Compared ∷ symbols) rest ≡ after (Joined ∷ symbols) rest

or_ends : (rest : List Token) → Ends (Token.Fixed word.Or ∷ rest)
unfolding step
or_ends rest symbols = refl

and_ends : (rest : List Token) → Ends (Token.Fixed word.And ∷ rest)
unfolding step
and_ends rest symbols = refl

pub close_ends : (rest : List Token) → Ends (Token.Fixed word.CloseParen ∷ rest)
unfolding step
close_ends rest symbols = refl

-- the steps at words of conditions
or_step : step Joined (kind.Fixed word.Or) ≡ Some (Condition ∷ [])
unfolding step
or_step = refl

and_step : step Joined (kind.Fixed word.And) ≡ Some (Condition ∷ [])
unfolding step
and_step = refl

pub joined_close_step : step Joined (kind.Fixed word.CloseParen) ≡ Some []
unfolding step
joined_close_step = refl

not_step : step Condition (kind.Fixed word.Not) ≡ Some (Prim ∷ Joined ∷ [])
unfolding step
not_step = refl

within_step : step Condition (kind.Fixed word.OpenParen) ≡ Some (Condition ∷ Joined ∷ [])
unfolding step
within_step = refl

prim_within_step : step Prim (kind.Fixed word.OpenParen) ≡ Some (Condition ∷ [])
unfolding step
prim_within_step = refl

pub filter_within_step : step Filter (kind.Fixed word.OpenParen) ≡ Some (Condition ∷ [])
unfolding step
filter_within_step = refl

-- a comparison
sign_step : (sign : Compare) (token : Token) → as_sign token ≡ Some sign → step Compared (kind_of token) ≡ Some (Operand ∷ Joined ∷ [])
unfolding step
sign_step sign (Token.Fixed word.Equal) e = refl
sign_step sign (Token.Fixed word.NotEqual) e = refl
sign_step sign (Token.Fixed word.Less) e = refl
sign_step sign (Token.Fixed word.Greater) e = refl
sign_step sign (Token.Fixed word.LessEqual) e = refl
sign_step sign (Token.Fixed word.GreaterEqual) e = refl
sign_step sign (Token.Fixed other) e = absurd (cc)
sign_step sign (Token.Iri iri) e = absurd (cc)
sign_step sign (Token.Name prefix local) e = absurd (cc)
sign_step sign (Token.Variable name) e = absurd (cc)
sign_step sign (Token.String value) e = absurd (cc)

mutual
  -- a condition, up to what is joined to it or ends it
  pub or_goes : (scope : Scope) (value : Expr) (tokens rest : List Token) → ReadsOr scope value tokens rest → Ends rest
      → (symbols : List Symbol) → after (Condition ∷ symbols) tokens ≡ after (Joined ∷ symbols) rest
  or_goes scope value tokens rest (OneAnd v t r x) ends symbols = and_goes scope v t r x ends symbols
  or_goes scope value tokens rest (OrMore a b t middle r x y) ends symbols =
      or_goes scope a t (Token.Fixed word.Or ∷ middle) x (or_ends middle) symbols ∙ (taking Joined symbols (Condition ∷ []) (Token.Fixed word.Or) middle or_step
      ∙ and_goes scope b middle r y ends symbols)

  and_goes : (scope : Scope) (value : Expr) (tokens rest : List Token) → ReadsAnd scope value tokens rest → Ends rest
      → (symbols : List Symbol) → after (Condition ∷ symbols) tokens ≡ after (Joined ∷ symbols) rest
  and_goes scope value tokens rest (OneCond v t r x) ends symbols = cond_goes scope v t r x ends symbols
  and_goes scope value tokens rest (AndMore a b t middle r x y) ends symbols =
      and_goes scope a t (Token.Fixed word.And ∷ middle) x (and_ends middle) symbols ∙ (taking Joined symbols (Condition ∷ []) (Token.Fixed word.And) middle and_step
      ∙ cond_goes scope b middle r y ends symbols)

  cond_goes : (scope : Scope) (value : Expr) (tokens rest : List Token) → ReadsCond scope value tokens rest → Ends rest
      → (symbols : List Symbol) → after (Condition ∷ symbols) tokens ≡ after (Joined ∷ symbols) rest
  cond_goes scope value tokens rest (Valued a t r x) ends symbols = operand_goes scope Condition (Compared ∷ []) a t r AsCondition x symbols ∙ ends symbols
  cond_goes scope value tokens rest (ComparedCond sign a b t r x) ends symbols =
      operand_goes scope Condition (Compared ∷ []) a t x.middle AsCondition x.first symbols
      ∙ (ap (after (Compared ∷ symbols)) x.second.first.2
      ∙ (taking Compared symbols (Operand ∷ Joined ∷ []) x.second.first.0 x.second.middle (sign_step sign x.second.first.0 x.second.first.1)
      ∙ operand_goes scope Operand [] b x.second.middle r AsOperand x.second.second (Joined ∷ symbols)))
  cond_goes scope value tokens rest (Negated v t r x) ends symbols =
      taking Condition symbols (Prim ∷ Joined ∷ []) (Token.Fixed word.Not) t not_step ∙ prim_goes scope v t r x (Joined ∷ symbols)
  cond_goes scope value tokens rest (Within v t r x) ends symbols =
      taking Condition symbols (Condition ∷ Joined ∷ []) (Token.Fixed word.OpenParen) t within_step
      ∙ (or_goes scope v t (Token.Fixed word.CloseParen ∷ r) x (close_ends r) (Joined ∷ symbols)
      ∙ taking Joined (Joined ∷ symbols) [] (Token.Fixed word.CloseParen) r joined_close_step)
  cond_goes scope value tokens rest (Called v t r x) ends symbols = call_goes scope Condition (Joined ∷ []) v t r CallCondition x symbols

  prim_goes : (scope : Scope) (value : Expr) (tokens rest : List Token) → ReadsPrim scope value tokens rest
      → (symbols : List Symbol) → after (Prim ∷ symbols) tokens ≡ after symbols rest
  prim_goes scope value tokens rest (PrimValue a t r x) symbols = operand_goes scope Prim [] a t r AsPrim x symbols
  prim_goes scope value tokens rest (PrimWithin v t r x) symbols =
      taking Prim symbols (Condition ∷ []) (Token.Fixed word.OpenParen) t prim_within_step
      ∙ (or_goes scope v t (Token.Fixed word.CloseParen ∷ r) x (close_ends r) symbols
      ∙ taking Joined symbols [] (Token.Fixed word.CloseParen) r joined_close_step)
  prim_goes scope value tokens rest (PrimCalled v t r x) symbols = call_goes scope Prim [] v t r CallPrim x symbols
