-- A condition counts for its `&&` and `||`, and its variables have names.
use Rattle.std.proofs.Common.{ℕ, ◌≡◌, ◌+◌, List, [], ◌∷◌, length, refl, sym, subst, Some, arith}
use Rattle.std.proofs.lemmas.Option.{same_Some}
use Rattle.std.specs.Prelude.{⊤}
use Rattle.sparql_algebra.specs.declared.var.Var.{Var}
use Rattle.sparql_algebra.specs.declared.expr.Operand.{Operand}
use Rattle.sparql_algebra.specs.declared.expr.Operand.TheBlock.{hidden-the_row-Operand-0}
use Rattle.sparql_algebra.specs.declared.expr.Expr.{Expr}
use Rattle.sparql_algebra.specs.declared.expr.Expr.TheBlock.{hidden-the_row-Expr-0}
use denote.Hole.Carrier.{hidden}
use Rattle.sparql_algebra.specs.Valid.{IsNamed, HasNamedOperand, HasNamedExpr, sign_count}
use Rattle.sparql_text.specs.declared.word.Word.TheVariants as word
use Rattle.sparql_text.specs.Tokens.{Token}
use Rattle.sparql_text.specs.Front.{One}
use Rattle.sparql_text.specs.Scope.{Scope, as_variable, as_argument}
use Rattle.sparql_text.specs.Machine.{kind_of}
use Rattle.sparql_text.specs.Conditions.{ReadsOperand, ReadsCall, ReadsOr, ReadsAnd, ReadsCond, ReadsPrim, ReadsFilter, as_test, as_relation, as_sign}
use Rattle.sparql_text.specs.Conditions.ReadsOperand.{Plain, Str}
use Rattle.sparql_text.specs.Conditions.ReadsCall.{Bound, Test, Relation}
use Rattle.sparql_text.specs.Conditions.ReadsOr.{OneAnd, OrMore}
use Rattle.sparql_text.specs.Conditions.ReadsAnd.{OneCond, AndMore}
use Rattle.sparql_text.specs.Conditions.ReadsCond.{Valued, Compared, Negated, Within, Called}
use Rattle.sparql_text.specs.Conditions.ReadsPrim.{PrimValue, PrimWithin, PrimCalled}
use Rattle.sparql_text.specs.Conditions.ReadsFilter.{FilterWithin, FilterCalled}
use Rattle.sparql_text.proofs.Weights.{nothing, of_conditions}
use Rattle.sparql_text.proofs.TalliedReadings.{IsKnown, Reading, reading_then, reading_as, reading_within, Deep, IsPlain, deep_plain, one_reads, plain_reads}

-- a token that is no parenthesis, and what it stands for
pub record StandsPlainly (scope : Scope) (token : Token) (Has : Type 0) : Type 0 where
  pub plain : IsPlain (kind_of token)
  pub has : IsKnown scope token → Has

-- one such token
standing_reads : (scope : Scope) (depth : ℕ) (Has : Type 0) (token : Token) (tokens rest : List Token) → tokens ≡ token ∷ rest → StandsPlainly scope token Has
    → Reading scope (Deep depth) (Deep depth) Has nothing tokens rest
standing_reads scope depth Has token tokens rest e stands = one_reads token rest (deep_plain depth (kind_of token) stands.plain) stands.has e

pub variable_stands : (scope : Scope) (token : Token) (var : Var) → as_variable scope token ≡ Some var → StandsPlainly scope token (IsNamed (length scope.names) var)
variable_stands scope (Token.Variable name) var e =
    record { plain = record { opens = refl; closes = refl }; has = λ k. subst (IsNamed (length scope.names)) (same_Some _ _ e) k }
variable_stands scope (Token.Iri iri) var e = absurd cc
variable_stands scope (Token.Name prefix local) var e = absurd cc
variable_stands scope (Token.String value) var e = absurd cc
variable_stands scope (Token.Fixed w) var e = absurd cc

argument_stands : (scope : Scope) (token : Token) (value : Operand) → as_argument scope token ≡ Some value → StandsPlainly scope token (HasNamedOperand (length scope.names) value)
argument_stands scope (Token.Variable name) value e =
    record { plain = record { opens = refl; closes = refl }; has = λ k. subst (HasNamedOperand (length scope.names)) (same_Some _ _ e) k }
argument_stands scope (Token.Iri iri) value e =
    record { plain = record { opens = refl; closes = refl }; has = λ k. subst (HasNamedOperand (length scope.names)) (same_Some _ _ e) tt }
argument_stands scope (Token.Name prefix []) value e =
    record { plain = record { opens = refl; closes = refl }; has = λ k. subst (HasNamedOperand (length scope.names)) (same_Some _ _ e) tt }
argument_stands scope (Token.Name prefix (byte ∷ local)) value e =
    record { plain = record { opens = refl; closes = refl }; has = λ k. subst (HasNamedOperand (length scope.names)) (same_Some _ _ e) tt }
argument_stands scope (Token.String text) value e =
    record { plain = record { opens = refl; closes = refl }; has = λ k. subst (HasNamedOperand (length scope.names)) (same_Some _ _ e) tt }
argument_stands scope (Token.Fixed w) value e = absurd cc

argument_reads : (scope : Scope) (depth : ℕ) (value : Operand) (tokens rest : List Token) → One (as_argument scope) value tokens rest
    → Reading scope (Deep depth) (Deep depth) (HasNamedOperand (length scope.names) value) nothing tokens rest
argument_reads scope depth value tokens rest x = standing_reads scope depth _ x.0 tokens rest x.2 (argument_stands scope x.0 value x.1)

operand_reads : (scope : Scope) (depth : ℕ) (value : Operand) (tokens rest : List Token) → ReadsOperand scope value tokens rest
    → Reading scope (Deep depth) (Deep depth) (HasNamedOperand (length scope.names) value) nothing tokens rest
unfolding hidden-the_row-Operand-0 hidden
operand_reads scope depth value tokens rest (Plain x) = argument_reads scope depth value tokens rest x
operand_reads scope depth value tokens rest (Str inner is x) =
    let p = x.second in
    reading_as (reading_then (plain_reads scope depth word.Str tokens x.middle (record { opens = refl; closes = refl }) x.first)
    (reading_within p.first (argument_reads scope (depth + 1) inner p.middle p.second.middle p.second.first) p.second.second))
    (λ h. subst (HasNamedOperand (length scope.names)) (sym is) h.1) (record { operators = omega arith; conditions = omega arith; patterns = omega arith })

-- a test of operands with this property: the token is no parenthesis, and the test has no `&&` or `||`
record IsTest (token : Token) (names : ℕ) (Operands : Type 0) (value : Expr) : Type 0 where
  plain : IsPlain (kind_of token)
  has : Operands → HasNamedExpr names value
  signs : sign_count value ≡ 0

test_is : (token : Token) (names : ℕ) (test : Operand → Expr) (a : Operand) → as_test token ≡ Some test → IsTest token names (HasNamedOperand names a) (test a)
unfolding hidden-the_row-Expr-0 hidden
test_is (Token.Fixed word.IsIri) names test a e =
    subst (λ t. IsTest (Token.Fixed word.IsIri) names (HasNamedOperand names a) (t a)) (same_Some _ _ e)
    (record { plain = record { opens = refl; closes = refl }; has = λ h. h; signs = refl })
test_is (Token.Fixed word.IsUri) names test a e =
    subst (λ t. IsTest (Token.Fixed word.IsUri) names (HasNamedOperand names a) (t a)) (same_Some _ _ e)
    (record { plain = record { opens = refl; closes = refl }; has = λ h. h; signs = refl })
test_is (Token.Fixed word.IsLiteral) names test a e =
    subst (λ t. IsTest (Token.Fixed word.IsLiteral) names (HasNamedOperand names a) (t a)) (same_Some _ _ e)
    (record { plain = record { opens = refl; closes = refl }; has = λ h. h; signs = refl })
test_is (Token.Fixed other) names test a e = absurd cc
test_is (Token.Iri iri) names test a e = absurd cc
test_is (Token.Name prefix local) names test a e = absurd cc
test_is (Token.Variable name) names test a e = absurd cc
test_is (Token.String value) names test a e = absurd cc

relation_is : (token : Token) (names : ℕ) (relation : Operand → Operand → Expr) (a b : Operand) → as_relation token ≡ Some relation
    → IsTest token names (HasNamedOperand names a × HasNamedOperand names b) (relation a b)
unfolding hidden-the_row-Expr-0 hidden
relation_is (Token.Fixed word.SameTerm) names relation a b e =
    subst (λ r. IsTest (Token.Fixed word.SameTerm) names (HasNamedOperand names a × HasNamedOperand names b) (r a b)) (same_Some _ _ e)
    (record { plain = record { opens = refl; closes = refl }; has = λ h. h; signs = refl })
relation_is (Token.Fixed word.Contains) names relation a b e =
    subst (λ r. IsTest (Token.Fixed word.Contains) names (HasNamedOperand names a × HasNamedOperand names b) (r a b)) (same_Some _ _ e)
    (record { plain = record { opens = refl; closes = refl }; has = λ h. h; signs = refl })
relation_is (Token.Fixed word.StrStarts) names relation a b e =
    subst (λ r. IsTest (Token.Fixed word.StrStarts) names (HasNamedOperand names a × HasNamedOperand names b) (r a b)) (same_Some _ _ e)
    (record { plain = record { opens = refl; closes = refl }; has = λ h. h; signs = refl })
relation_is (Token.Fixed other) names relation a b e = absurd cc
relation_is (Token.Iri iri) names relation a b e = absurd cc
relation_is (Token.Name prefix local) names relation a b e = absurd cc
relation_is (Token.Variable name) names relation a b e = absurd cc
relation_is (Token.String value) names relation a b e = absurd cc

-- a condition, which counts for its `&&` and `||`
abbrev ReadsSigns : Scope → ℕ → Expr → List Token → List Token → Type 0
ReadsSigns scope depth value tokens rest =
    Reading scope (Deep depth) (Deep depth) (HasNamedExpr (length scope.names) value) (of_conditions (sign_count value)) tokens rest

call_reads : (scope : Scope) (depth : ℕ) (value : Expr) (tokens rest : List Token) → ReadsCall scope value tokens rest → ReadsSigns scope depth value tokens rest
unfolding hidden-the_row-Expr-0 hidden
call_reads scope depth value tokens rest (Bound var is x) =
    let p = x.second in
    let v = p.second.first in
    subst (λ e. ReadsSigns scope depth e tokens rest) (sym is)
    (reading_as (reading_then (plain_reads scope depth word.Bound tokens x.middle (record { opens = refl; closes = refl }) x.first)
    (reading_within p.first (standing_reads scope (depth + 1) _ v.0 p.middle p.second.middle v.2 (variable_stands scope v.0 var v.1)) p.second.second))
    (λ h. h.1) (record { operators = omega arith; conditions = omega arith; patterns = omega arith }))
call_reads scope depth value tokens rest (Test test a is x) =
    let t = test_is x.first.0 (length scope.names) test a x.first.1 in
    let p = x.second in
    let signs = t.signs in
    subst (λ e. ReadsSigns scope depth e tokens rest) (sym is)
    (reading_as (reading_then
    (standing_reads scope depth ⊤ x.first.0 tokens x.middle x.first.2 (record { plain = t.plain; has = λ k. tt }))
    (reading_within p.first (operand_reads scope (depth + 1) a p.middle p.second.middle p.second.first) p.second.second))
    (λ h. t.has h.1) (record { operators = omega arith; conditions = omega (arith, signs); patterns = omega arith }))
call_reads scope depth value tokens rest (Relation relation a b is x) =
    let t = relation_is x.first.0 (length scope.names) relation a b x.first.1 in
    let p = x.second in
    let q = p.second.second in
    let signs = t.signs in
    subst (λ e. ReadsSigns scope depth e tokens rest) (sym is)
    (reading_as (reading_then
    (standing_reads scope depth ⊤ x.first.0 tokens x.middle x.first.2 (record { plain = t.plain; has = λ k. tt }))
    (reading_within p.first (reading_then (operand_reads scope (depth + 1) a p.middle p.second.middle p.second.first)
    (reading_then (plain_reads scope (depth + 1) word.Comma p.second.middle q.middle (record { opens = refl; closes = refl }) q.first)
    (operand_reads scope (depth + 1) b q.middle q.second.middle q.second.first))) q.second.second))
    (λ h. t.has (h.1.0, h.1.1.1)) (record { operators = omega arith; conditions = omega (arith, signs); patterns = omega arith }))

sign_plain : (token : Token) (sign : _) → as_sign token ≡ Some sign → IsPlain (kind_of token)
sign_plain (Token.Fixed word.Equal) sign e = record { opens = refl; closes = refl }
sign_plain (Token.Fixed word.NotEqual) sign e = record { opens = refl; closes = refl }
sign_plain (Token.Fixed word.Less) sign e = record { opens = refl; closes = refl }
sign_plain (Token.Fixed word.Greater) sign e = record { opens = refl; closes = refl }
sign_plain (Token.Fixed word.LessEqual) sign e = record { opens = refl; closes = refl }
sign_plain (Token.Fixed word.GreaterEqual) sign e = record { opens = refl; closes = refl }
sign_plain (Token.Fixed other) sign e = absurd cc
sign_plain (Token.Iri iri) sign e = absurd cc
sign_plain (Token.Name prefix local) sign e = absurd cc
sign_plain (Token.Variable name) sign e = absurd cc
sign_plain (Token.String value) sign e = absurd cc

mutual
  unfolding hidden-the_row-Expr-0 hidden

  -- conditions joined by `||`
  pub or_reads : (scope : Scope) (value : Expr) (tokens rest : List Token) → ReadsOr scope value tokens rest → (depth : ℕ) → ReadsSigns scope depth value tokens rest
  or_reads scope value tokens rest (OneAnd v t r x) depth = and_reads scope v t r x depth
  or_reads scope value tokens rest (OrMore a b t middle r x y) depth =
      reading_as (reading_then (or_reads scope a t (Token.Fixed word.Or ∷ middle) x depth)
      (reading_then (plain_reads scope depth word.Or (Token.Fixed word.Or ∷ middle) middle (record { opens = refl; closes = refl }) refl)
      (and_reads scope b middle r y depth)))
      (λ h. (h.0, h.1.1)) (record { operators = omega arith; conditions = omega arith; patterns = omega arith })

  and_reads : (scope : Scope) (value : Expr) (tokens rest : List Token) → ReadsAnd scope value tokens rest → (depth : ℕ) → ReadsSigns scope depth value tokens rest
  and_reads scope value tokens rest (OneCond v t r x) depth = cond_reads scope v t r x depth
  and_reads scope value tokens rest (AndMore a b t middle r x y) depth =
      reading_as (reading_then (and_reads scope a t (Token.Fixed word.And ∷ middle) x depth)
      (reading_then (plain_reads scope depth word.And (Token.Fixed word.And ∷ middle) middle (record { opens = refl; closes = refl }) refl)
      (cond_reads scope b middle r y depth)))
      (λ h. (h.0, h.1.1)) (record { operators = omega arith; conditions = omega arith; patterns = omega arith })

  cond_reads : (scope : Scope) (value : Expr) (tokens rest : List Token) → ReadsCond scope value tokens rest → (depth : ℕ) → ReadsSigns scope depth value tokens rest
  cond_reads scope value tokens rest (Valued a t r x) depth = operand_reads scope depth a t r x
  cond_reads scope value tokens rest (Compared sign a b t r x) depth =
      let s = x.second.first in
      reading_as (reading_then (operand_reads scope depth a t x.middle x.first)
      (reading_then (standing_reads scope depth ⊤ s.0 x.middle x.second.middle s.2 (record { plain = sign_plain s.0 sign s.1; has = λ k. tt }))
      (operand_reads scope depth b x.second.middle r x.second.second)))
      (λ h. (h.0, h.1.1)) (record { operators = omega arith; conditions = omega arith; patterns = omega arith })
  cond_reads scope value tokens rest (Negated v t r x) depth =
      reading_as (reading_then (plain_reads scope depth word.Not (Token.Fixed word.Not ∷ t) t (record { opens = refl; closes = refl }) refl)
      (prim_reads scope v t r x depth))
      (λ h. h.1) (record { operators = omega arith; conditions = omega arith; patterns = omega arith })
  cond_reads scope value tokens rest (Within v t r x) depth = reading_within refl (or_reads scope v t (Token.Fixed word.CloseParen ∷ r) x (depth + 1)) refl
  cond_reads scope value tokens rest (Called v t r x) depth = call_reads scope depth v t r x

  prim_reads : (scope : Scope) (value : Expr) (tokens rest : List Token) → ReadsPrim scope value tokens rest → (depth : ℕ) → ReadsSigns scope depth value tokens rest
  prim_reads scope value tokens rest (PrimValue a t r x) depth = operand_reads scope depth a t r x
  prim_reads scope value tokens rest (PrimWithin v t r x) depth = reading_within refl (or_reads scope v t (Token.Fixed word.CloseParen ∷ r) x (depth + 1)) refl
  prim_reads scope value tokens rest (PrimCalled v t r x) depth = call_reads scope depth v t r x

-- a FILTER counts for one condition more
pub filter_reads : (scope : Scope) (value : Expr) (tokens rest : List Token) → ReadsFilter scope value tokens rest
    → Reading scope (Deep 0) (Deep 0) (HasNamedExpr (length scope.names) value) (of_conditions (1 + sign_count value)) tokens rest
filter_reads scope value tokens rest (FilterWithin x) =
    let p = x.second in
    reading_as (reading_then (plain_reads scope 0 word.Filter tokens x.middle (record { opens = refl; closes = refl }) x.first)
    (reading_within p.first (or_reads scope value p.middle p.second.middle p.second.first 1) p.second.second))
    (λ h. h.1) (record { operators = omega arith; conditions = omega arith; patterns = omega arith })
filter_reads scope value tokens rest (FilterCalled x) =
    reading_as (reading_then (plain_reads scope 0 word.Filter tokens x.middle (record { opens = refl; closes = refl }) x.first)
    (call_reads scope 0 value x.middle rest x.second))
    (λ h. h.1) (record { operators = omega arith; conditions = omega arith; patterns = omega arith })
