use Rattle.std.proofs.Common.{sym, subst, Contains, IfOk, slice_get}
use Rattle.answer_bodies.specs.OfRows.{AreTripleRows}
use Rattle.session_core.specs.Numbers.{Numbers}
use Rattle.session_core.specs.Prepared.{IsMeant}
use Rattle.session_core.proofs.AnswersAreMeant.{triple_rows, answers_meant}
use Rattle.session_core.proofs.facts.Facts.answer.Goals as goal

pub of_triples-requires : goal.of_triples-requires
of_triples-requires c =
    let rows = triple_rows c.self.inside.terms.terms c.args.triples.now
    (λ t d. c.self.invariant.1.named t (subst (λ (numbers : Numbers). Contains numbers.triples t) (sym c.self.view_is) (c.requires.there t d))) in
    record { rows = subst (AreTripleRows (slice_get c.self.inside.terms.terms)) (sym c.in_ok-rows.ensures) rows }

pub returns : goal.returns
returns c =
    subst (λ (numbers : Numbers). IfOk c.of_triples.result (IsMeant numbers.terms c.args.triples.now)) c.self.view_is
    (answers_meant c.self.inside.terms.terms c.args.triples.now _ c.of_triples.result c.in_ok-rows.ensures c.of_triples.ensures.triples)
