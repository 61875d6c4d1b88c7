-- The value of a condition from the values of its sides, and of an operand STR.
use Rattle.std.proofs.Common.{◌≡◌, ◌∙◌, Option, sym, ap}
use Rattle.std.specs.Option.{option_map}
use Rattle.m3_terms.specs.declared.term.Term.{Term}
use Rattle.m3_terms.specs.declared.term.Term.TheVariants.{Literal}
use Rattle.m3_terms.specs.Order.{text_of}
use Rattle.sparql_algebra.specs.declared.expr.Operand.{Operand}
use Rattle.sparql_algebra.specs.declared.expr.Operand.TheViews.{Str}
use Rattle.sparql_algebra.specs.declared.expr.Operand.TheBlock.{hidden-the_row-Operand-0}
use denote.Hole.Carrier.{hidden}
use Rattle.sparql_algebra.specs.declared.expr.Expr.TheBlock.{hidden-the_row-Expr-0}
use Rattle.sparql_algebra.specs.declared.expr.Expr.{Expr}
use Rattle.sparql_algebra.specs.declared.expr.Expr.TheViews.{Or, And, Not}
use Rattle.sparql_algebra.specs.declared.expr.Truth.{Truth}
use Rattle.sparql_algebra.specs.TermSolutions.{Solution}
use Rattle.sparql_algebra.specs.Truth.{truth, operand_term, not_of, or_of, and_of}

module _ (s : Solution) where
  pub str_value : (self own got : Operand) (value : Option Term) → self ≡ Str own → got ≡ own → value ≡ operand_term got s
      → option_map (λ term. Literal (text_of term)) value ≡ operand_term self s
  unfolding hidden-the_row-Operand-0 hidden
  str_value self own got value is same e =
      ap (option_map (λ term. Literal (text_of term))) (e ∙ ap (λ q. operand_term q s) same) ∙ sym (ap (λ q. operand_term q s) is)

  pub not_value : (self own got : Expr) (value result : Truth) → self ≡ Not own → got ≡ own → value ≡ truth got s → result ≡ not_of value → result ≡ truth self s
  unfolding hidden-the_row-Expr-0 hidden
  not_value self own got value result is same e r = r ∙ ap not_of (e ∙ ap (λ q. truth q s) same) ∙ sym (ap (λ q. truth q s) is)

  pub or_value : (self left right got other : Expr) (first second result : Truth) → self ≡ Or left right → got ≡ left → other ≡ right → first ≡ truth got s
      → second ≡ truth other s → result ≡ or_of first second → result ≡ truth self s
  unfolding hidden-the_row-Expr-0 hidden
  or_value self left right got other first second result is one two e f r =
      r ∙ ap (λ v. or_of v second) (e ∙ ap (λ q. truth q s) one) ∙ ap (or_of (truth left s)) (f ∙ ap (λ q. truth q s) two) ∙ sym (ap (λ q. truth q s) is)

  pub and_value : (self left right got other : Expr) (first second result : Truth) → self ≡ And left right → got ≡ left → other ≡ right → first ≡ truth got s
      → second ≡ truth other s → result ≡ and_of first second → result ≡ truth self s
  unfolding hidden-the_row-Expr-0 hidden
  and_value self left right got other first second result is one two e f r =
      r ∙ ap (λ v. and_of v second) (e ∙ ap (λ q. truth q s) one) ∙ ap (and_of (truth left s)) (f ∙ ap (λ q. truth q s) two) ∙ sym (ap (λ q. truth q s) is)
