use Rattle.std.proofs.Common.{◌∙◌, sym, ap, Some}
use Rattle.std.specs.Option.{option_and_then, option_copied}
use Rattle.sparql_algebra.proofs.Naming.{term_at_named}
use Rattle.sparql_algebra.proofs.truth.named.Goals as goal

pub returns-in-None : goal.returns-in-None
returns-in-None g c =
    let terms = g.T.TermTable.terms c.args.table.now in
    sym (term_at_named terms c.args.mapping.now c.args.var c.as_slice-rising.ensures.rising ∙ ap (option_and_then (λ id. terms id.0)) (sym c.get.ensures ∙ c.in-None.is))

pub returns-in-None-term_of : goal.returns-in-None-term_of
returns-in-None-term_of g c =
    let terms = g.T.TermTable.terms c.args.table.now in
    sym (term_at_named terms c.args.mapping.now c.args.var c.as_slice-rising.ensures.rising ∙ ap (option_and_then (λ id. terms id.0)) (sym c.get.ensures ∙ c.in-Some.is)
    ∙ sym c.term_of.ensures.term ∙ ap option_copied c.in-None-term_of.is)

pub returns-in-Some-term_of : goal.returns-in-Some-term_of
returns-in-Some-term_of g c =
    let terms = g.T.TermTable.terms c.args.table.now in
    ap Some c.borrowed.ensures ∙ sym (term_at_named terms c.args.mapping.now c.args.var c.as_slice-rising.ensures.rising ∙ ap (option_and_then (λ id. terms id.0)) (sym c.get.ensures ∙ c.in-Some.is)
    ∙ sym c.term_of.ensures.term ∙ ap option_copied c.in-Some-term_of.is)
