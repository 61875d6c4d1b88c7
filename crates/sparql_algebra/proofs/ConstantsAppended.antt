-- What is appended for the parts of a value is what is appended for the value.
use Rattle.std.proofs.Common.{◌≡◌, ◌∙◌, List, ◌++◌, Option, sym, ap, append_assoc}
use Rattle.m3_terms.specs.declared.term.Term.{Term}
use Rattle.sparql_algebra.specs.declared.expr.Operand.{Operand}
use Rattle.sparql_algebra.specs.declared.expr.Operand.TheViews.{Str}
use Rattle.sparql_algebra.specs.declared.expr.Operand.TheBlock.{hidden-the_row-Operand-0}
use Rattle.sparql_algebra.specs.declared.expr.Expr.TheBlock.{hidden-the_row-Expr-0}
use Rattle.sparql_algebra.specs.declared.expr.Expr.{Expr}
use Rattle.sparql_algebra.specs.declared.expr.Expr.TheViews.{Or, And, Not}
use Rattle.sparql_algebra.specs.declared.algebra.Algebra.{Algebra}
use Rattle.sparql_algebra.specs.declared.algebra.Algebra.TheViews.{Join, Union, LeftJoin, Filter}
use Rattle.sparql_algebra.specs.declared.algebra.Algebra.TheBlock.{hidden-the_row-Algebra-0}
use denote.Hole.Carrier.{hidden}
use Rattle.sparql_algebra.specs.Constants.{of_operand, of_condition, of_option, constants_of}

-- what is appended in two steps
pub both_appended : {X : Type 0} (old first second mid : List X) → mid ≡ old ++ first → mid ++ second ≡ old ++ (first ++ second)
both_appended old first second mid e = ap (λ l. l ++ second) e ∙ append_assoc old first second

pub str_named : (self own got : Operand) → self ≡ Str own → got ≡ own → of_operand got ≡ of_operand self
unfolding hidden-the_row-Operand-0 hidden
str_named self own got is same = ap of_operand same ∙ sym (ap of_operand is)

pub not_named : (self own got : Expr) → self ≡ Not own → got ≡ own → of_condition got ≡ of_condition self
unfolding hidden-the_row-Expr-0 hidden
not_named self own got is same = ap of_condition same ∙ sym (ap of_condition is)

module _ (old mid : List Term) where
  pub or_appended : (self left right got other : Expr) → self ≡ Or left right → got ≡ left → other ≡ right
      → mid ≡ old ++ of_condition got → mid ++ of_condition other ≡ old ++ of_condition self
  unfolding hidden-the_row-Expr-0 hidden
  or_appended self left right got other is one two e =
      both_appended old (of_condition got) (of_condition other) mid e
      ∙ ap (λ q. old ++ (of_condition q ++ of_condition other)) one ∙ ap (λ q. old ++ (of_condition left ++ of_condition q)) two ∙ sym (ap (λ q. old ++ of_condition q) is)

  pub and_appended : (self left right got other : Expr) → self ≡ And left right → got ≡ left → other ≡ right
      → mid ≡ old ++ of_condition got → mid ++ of_condition other ≡ old ++ of_condition self
  unfolding hidden-the_row-Expr-0 hidden
  and_appended self left right got other is one two e =
      both_appended old (of_condition got) (of_condition other) mid e
      ∙ ap (λ q. old ++ (of_condition q ++ of_condition other)) one ∙ ap (λ q. old ++ (of_condition left ++ of_condition q)) two ∙ sym (ap (λ q. old ++ of_condition q) is)

  pub join_appended : (self left right got other : Algebra) → self ≡ Join left right → got ≡ left → other ≡ right
      → mid ≡ old ++ constants_of got → mid ++ constants_of other ≡ old ++ constants_of self
  unfolding hidden-the_row-Algebra-0 hidden
  join_appended self left right got other is one two e =
      both_appended old (constants_of got) (constants_of other) mid e
      ∙ ap (λ q. old ++ (constants_of q ++ constants_of other)) one ∙ ap (λ q. old ++ (constants_of left ++ constants_of q)) two ∙ sym (ap (λ q. old ++ constants_of q) is)

  pub union_appended : (self left right got other : Algebra) → self ≡ Union left right → got ≡ left → other ≡ right
      → mid ≡ old ++ constants_of got → mid ++ constants_of other ≡ old ++ constants_of self
  unfolding hidden-the_row-Algebra-0 hidden
  union_appended self left right got other is one two e =
      both_appended old (constants_of got) (constants_of other) mid e
      ∙ ap (λ q. old ++ (constants_of q ++ constants_of other)) one ∙ ap (λ q. old ++ (constants_of left ++ constants_of q)) two ∙ sym (ap (λ q. old ++ constants_of q) is)

  pub filter_appended : (self inner got : Algebra) (condition : Expr) → self ≡ Filter condition inner → got ≡ inner
      → mid ≡ old ++ constants_of got → mid ++ of_condition condition ≡ old ++ constants_of self
  unfolding hidden-the_row-Algebra-0 hidden
  filter_appended self inner got condition is one e =
      both_appended old (constants_of got) (of_condition condition) mid e
      ∙ ap (λ q. old ++ (constants_of q ++ of_condition condition)) one ∙ sym (ap (λ q. old ++ constants_of q) is)

  pub left_join_appended : (self left right got other : Algebra) (condition : Option Expr) (third : List Term) → self ≡ LeftJoin left right condition → got ≡ left → other ≡ right
      → mid ≡ old ++ constants_of got → third ≡ mid ++ constants_of other → third ++ of_option condition ≡ old ++ constants_of self
  unfolding hidden-the_row-Algebra-0 hidden
  left_join_appended self left right got other condition third is one two e f =
      both_appended mid (constants_of other) (of_option condition) third f
      ∙ both_appended old (constants_of got) (constants_of other ++ of_option condition) mid e
      ∙ ap (λ q. old ++ (constants_of q ++ (constants_of other ++ of_option condition))) one
      ∙ ap (λ q. old ++ (constants_of left ++ (constants_of q ++ of_option condition))) two ∙ sym (ap (λ q. old ++ constants_of q) is)
