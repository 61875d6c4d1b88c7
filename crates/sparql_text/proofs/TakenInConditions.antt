-- What a token begins in a condition: operands, calls, and what is joined.
use Rattle.std.proofs.Common.{◌≡◌, List, [], ◌∷◌, refl, subst, Some}
use Rattle.sparql_algebra.specs.declared.expr.Operand.{Operand as AlgebraOperand}
use Rattle.sparql_algebra.specs.declared.expr.Operand.TheVariants as operand
use Rattle.sparql_algebra.specs.declared.expr.Expr.{Expr}
use Rattle.sparql_algebra.specs.declared.expr.Expr.TheVariants as expr
use Rattle.sparql_text.specs.declared.word.Word.{Word}
use Rattle.sparql_text.specs.declared.word.Word.TheVariants as word
use Rattle.sparql_text.specs.declared.symbol.Symbol.{Symbol}
use Rattle.sparql_text.specs.declared.symbol.Symbol.TheVariants.{Joined, Prim, Operand, OpenParen, CloseParen, Comma}
use Rattle.sparql_text.specs.Tokens.{Token}
use Rattle.sparql_text.specs.Scope.{Scope}
use Rattle.sparql_text.specs.Conditions.{ReadsOperand, ReadsCall, ReadsCond, ReadsPrim, as_test, as_relation}
use Rattle.sparql_text.specs.Conditions.ReadsOperand.{Plain, Str}
use Rattle.sparql_text.specs.Conditions.ReadsCall.{Bound, Test, Relation}
use Rattle.sparql_text.specs.Conditions.ReadsOr.{OneAnd}
use Rattle.sparql_text.specs.Conditions.ReadsAnd.{OneCond}
use Rattle.sparql_text.specs.Conditions.ReadsCond.{Within, Called}
use Rattle.sparql_text.specs.Conditions.ReadsPrim.{PrimWithin, PrimCalled}
use Rattle.sparql_text.specs.Machine.{kind_of, at_argument, at_operand, at_call, at_joined, at_condition}
use Rattle.sparql_text.proofs.Meanings.{Closed, Meaning, Meanings, Takes, or_joined, and_joined}
use Rattle.sparql_text.proofs.TakenInGroups.{argument_taken}

-- an operand, and what follows it
pub record OperandTaken (scope : Scope) (symbols : List Symbol) (start rest : List Token) : Type 0 where
  pub a : AlgebraOperand
  pub middle : List Token
  pub reads : ReadsOperand scope a start middle
  pub follows : Meanings scope symbols middle rest

pub operand_taken : (scope : Scope) (symbols : List Symbol) (token : Token) (tokens rest : List Token)
    → Takes (at_operand symbols (kind_of token)) (λ pushed. Meanings scope pushed tokens rest) → OperandTaken scope symbols (token ∷ tokens) rest
operand_taken scope symbols token tokens rest h = go token h
  where
    plain : (token : Token) → Takes (at_argument symbols (kind_of token)) (λ pushed. Meanings scope pushed tokens rest) → OperandTaken scope symbols (token ∷ tokens) rest
    plain token h =
        let a = argument_taken scope symbols (λ pushed. Meanings scope pushed tokens rest) token h in
        record { a = a.0.0; middle = tokens; reads = Plain (token, a.0.1, refl); follows = a.1 }

    go : (token : Token) → Takes (at_operand symbols (kind_of token)) (λ pushed. Meanings scope pushed tokens rest) → OperandTaken scope symbols (token ∷ tokens) rest
    go (Token.Fixed word.Str) h = record {
      a = operand.Str h.second.first.0;
      middle = h.second.second.middle;
      reads = Str h.second.first.0 refl (record {
        middle = tokens;
        first = refl;
        second = record {
          middle = h.middle;
          first = h.first;
          second = record { middle = h.second.middle; first = h.second.first.1; second = h.second.second.first };
        };
      });
      follows = h.second.second.second;
    }
    go (Token.Fixed other) h = absurd h
    go (Token.Iri iri) h = plain (Token.Iri iri) h
    go (Token.Name prefix []) h = plain (Token.Name prefix []) h
    go (Token.Name prefix (byte ∷ local)) h = plain (Token.Name prefix (byte ∷ local)) h
    go (Token.Variable name) h = plain (Token.Variable name) h
    go (Token.String value) h = plain (Token.String value) h

-- a call, and what follows it
pub record CallTaken (scope : Scope) (symbols : List Symbol) (start rest : List Token) : Type 0 where
  pub value : Expr
  pub middle : List Token
  pub reads : ReadsCall scope value start middle
  pub follows : Meanings scope symbols middle rest

pub test_taken : (scope : Scope) (symbols : List Symbol) (w : Word) (test : AlgebraOperand → Expr) (tokens rest : List Token) → as_test (Token.Fixed w) ≡ Some test
    → Meanings scope (OpenParen ∷ Operand ∷ CloseParen ∷ symbols) tokens rest → CallTaken scope symbols (Token.Fixed w ∷ tokens) rest
test_taken scope symbols w test tokens rest is h = record {
  value = test h.second.first.0;
  middle = h.second.second.middle;
  reads = Test test h.second.first.0 refl (record {
    middle = tokens;
    first = (Token.Fixed w, is, refl);
    second = record {
      middle = h.middle;
      first = h.first;
      second = record { middle = h.second.middle; first = h.second.first.1; second = h.second.second.first };
    };
  });
  follows = h.second.second.second;
}

pub relation_taken : (scope : Scope) (symbols : List Symbol) (w : Word) (relation : AlgebraOperand → AlgebraOperand → Expr) (tokens rest : List Token)
    → as_relation (Token.Fixed w) ≡ Some relation → Meanings scope (OpenParen ∷ Operand ∷ Comma ∷ Operand ∷ CloseParen ∷ symbols) tokens rest
    → CallTaken scope symbols (Token.Fixed w ∷ tokens) rest
relation_taken scope symbols w relation tokens rest is h =
    let b = h.second.second in record {
      value = relation h.second.first.0 b.second.first.0;
      middle = b.second.second.middle;
      reads = Relation relation h.second.first.0 b.second.first.0 refl (record {
        middle = tokens;
        first = (Token.Fixed w, is, refl);
        second = record {
          middle = h.middle;
          first = h.first;
          second = record {
            middle = h.second.middle;
            first = h.second.first.1;
            second = record { middle = b.middle; first = b.first; second = record { middle = b.second.middle; first = b.second.first.1; second = b.second.second.first } };
          };
        };
      });
      follows = b.second.second.second;
    }

pub call_taken : (scope : Scope) (symbols : List Symbol) (token : Token) (tokens rest : List Token)
    → Takes (at_call symbols (kind_of token)) (λ pushed. Meanings scope pushed tokens rest) → CallTaken scope symbols (token ∷ tokens) rest
call_taken scope symbols (Token.Fixed word.Bound) tokens rest h = record {
  value = expr.Bound h.second.first.0;
  middle = h.second.second.middle;
  reads = Bound h.second.first.0 refl (record {
    middle = tokens;
    first = refl;
    second = record {
      middle = h.middle;
      first = h.first;
      second = record { middle = h.second.middle; first = h.second.first.1; second = h.second.second.first };
    };
  });
  follows = h.second.second.second;
}
call_taken scope symbols (Token.Fixed word.IsIri) tokens rest h = test_taken scope symbols word.IsIri _ tokens rest refl h
call_taken scope symbols (Token.Fixed word.IsUri) tokens rest h = test_taken scope symbols word.IsUri _ tokens rest refl h
call_taken scope symbols (Token.Fixed word.IsLiteral) tokens rest h = test_taken scope symbols word.IsLiteral _ tokens rest refl h
call_taken scope symbols (Token.Fixed word.SameTerm) tokens rest h = relation_taken scope symbols word.SameTerm _ tokens rest refl h
call_taken scope symbols (Token.Fixed word.Contains) tokens rest h = relation_taken scope symbols word.Contains _ tokens rest refl h
call_taken scope symbols (Token.Fixed word.StrStarts) tokens rest h = relation_taken scope symbols word.StrStarts _ tokens rest refl h
call_taken scope symbols (Token.Fixed other) tokens rest h = absurd h
call_taken scope symbols (Token.Iri iri) tokens rest h = absurd h
call_taken scope symbols (Token.Name prefix []) tokens rest h = absurd h
call_taken scope symbols (Token.Name prefix (byte ∷ local)) tokens rest h = absurd h
call_taken scope symbols (Token.Variable name) tokens rest h = absurd h
call_taken scope symbols (Token.String value) tokens rest h = absurd h

-- what is joined to a condition, or the `)` behind it
pub joined_taken : (scope : Scope) (token : Token) (tokens rest : List Token) → Takes (at_joined (kind_of token)) (λ pushed. Meanings scope pushed tokens rest)
    → Meaning scope Joined (token ∷ tokens) rest
joined_taken scope (Token.Fixed word.And) tokens rest h start value cond =
    subst (Closed scope start) h.second
    (and_joined scope value h.first.0 start tokens _ (OneCond value start (Token.Fixed word.And ∷ tokens) cond) h.first.1)
joined_taken scope (Token.Fixed word.Or) tokens rest h start value cond =
    subst (Closed scope start) h.second
    (or_joined scope value h.first.0 start tokens _ (OneAnd value start (Token.Fixed word.Or ∷ tokens) (OneCond value start (Token.Fixed word.Or ∷ tokens) cond)) h.first.1)
joined_taken scope (Token.Fixed word.CloseParen) tokens rest h start value cond =
    subst (Closed scope start) h
    (value, OneAnd value start (Token.Fixed word.CloseParen ∷ tokens) (OneCond value start (Token.Fixed word.CloseParen ∷ tokens) cond))
joined_taken scope (Token.Fixed other) tokens rest h start value cond = absurd h
joined_taken scope (Token.Iri iri) tokens rest h start value cond = absurd h
joined_taken scope (Token.Name prefix []) tokens rest h start value cond = absurd h
joined_taken scope (Token.Name prefix (byte ∷ local)) tokens rest h start value cond = absurd h
joined_taken scope (Token.Variable name) tokens rest h start value cond = absurd h
joined_taken scope (Token.String text) tokens rest h start value cond = absurd h

-- an operand with what follows it, or another condition without `!` with what follows that
pub data ConditionTaken (scope : Scope) (operands others : List Symbol) (start rest : List Token) : Type 0 where
  AnOperand : OperandTaken scope operands start rest → ConditionTaken scope operands others start rest
  Another : (value : Expr) (middle : List Token) → ReadsCond scope value start middle → ReadsPrim scope value start middle → Meanings scope others middle rest
      → ConditionTaken scope operands others start rest

pub condition_taken : (scope : Scope) (operands others : List Symbol) (token : Token) (tokens rest : List Token)
    → Takes (at_condition operands others (kind_of token)) (λ pushed. Meanings scope pushed tokens rest) → ConditionTaken scope operands others (token ∷ tokens) rest
condition_taken scope operands others token tokens rest h = go token h
  where
    called : (w : Word) → CallTaken scope others (Token.Fixed w ∷ tokens) rest → ConditionTaken scope operands others (Token.Fixed w ∷ tokens) rest
    called w c = Another c.value c.middle (Called c.value (Token.Fixed w ∷ tokens) c.middle c.reads) (PrimCalled c.value (Token.Fixed w ∷ tokens) c.middle c.reads) c.follows

    go : (token : Token) → Takes (at_condition operands others (kind_of token)) (λ pushed. Meanings scope pushed tokens rest)
        → ConditionTaken scope operands others (token ∷ tokens) rest
    go (Token.Fixed word.OpenParen) h =
        Another h.first.0 h.middle (Within h.first.0 tokens h.middle h.first.1) (PrimWithin h.first.0 tokens h.middle h.first.1) h.second
    go (Token.Fixed word.Str) h = AnOperand (operand_taken scope operands (Token.Fixed word.Str) tokens rest h)
    go (Token.Fixed w) h = called w (call_taken scope others (Token.Fixed w) tokens rest h)
    go (Token.Iri iri) h = AnOperand (operand_taken scope operands (Token.Iri iri) tokens rest h)
    go (Token.Name prefix []) h = AnOperand (operand_taken scope operands (Token.Name prefix []) tokens rest h)
    go (Token.Name prefix (byte ∷ local)) h = AnOperand (operand_taken scope operands (Token.Name prefix (byte ∷ local)) tokens rest h)
    go (Token.Variable name) h = AnOperand (operand_taken scope operands (Token.Variable name) tokens rest h)
    go (Token.String value) h = AnOperand (operand_taken scope operands (Token.String value) tokens rest h)
