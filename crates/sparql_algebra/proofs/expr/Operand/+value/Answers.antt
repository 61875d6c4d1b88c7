-- STR of an operand without a term has none, and else the literal of its text.
use Rattle.std.proofs.Common.{◌∙◌, sym, ap, Some}
use Rattle.std.specs.Option.{option_map}
use Rattle.m3_terms.specs.Order.{text_of}
use Rattle.m3_terms.specs.declared.term.Term.TheVariants.{Literal}
use Rattle.sparql_algebra.specs.TermSolutions.{solution_in}
use Rattle.sparql_algebra.specs.Meant.{meaning}
use Rattle.sparql_algebra.proofs.Forms.{str_value}
use Rattle.sparql_algebra.proofs.expr.Operand.+value.Goals as goal

pub returns-in-None : goal.returns-in-None
returns-in-None g t c =
    let s = solution_in (g.T.TermTable.terms c.args.table.now) c.args.mapping.now in
    ap (λ r. option_map (λ term. Literal (text_of term)) (option_map meaning r)) (sym c.in-None.is)
    ∙ str_value s c.args.self.now c.in-Str.operand c.get.result.now (option_map meaning c.value.result) c.in-Str.is c.get.ensures c.value.ensures

pub returns-in-Some : goal.returns-in-Some
returns-in-Some g t c =
    let s = solution_in (g.T.TermTable.terms c.args.table.now) c.args.mapping.now in
    ap Some c.as_literal.ensures ∙ ap (λ r. option_map (λ term. Literal (text_of term)) (option_map meaning r)) (sym c.in-Some.is)
    ∙ str_value s c.args.self.now c.in-Str.operand c.get.result.now (option_map meaning c.value.result) c.in-Str.is c.get.ensures c.value.ensures
