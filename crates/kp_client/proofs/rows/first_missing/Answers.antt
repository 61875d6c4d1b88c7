-- The first of the triples, as a row.
use Rattle.std.proofs.Common.{sym, ap, ◌∙◌}
use Rattle.answer_bodies.specs.declared.answer.Answer.TheVariants.{Triples}
use Rattle.kp_client.proofs.FoundByForm.{triples_missing}
use Rattle.kp_client.proofs.rows.first_missing.Goals as goal

pub returns-in-Triples-Triples : goal.returns-in-Triples-Triples
returns-in-Triples-Triples c =
    let p = c.in-Triples-Triples in
    triples_missing _ _ _ _ _ _ (p.is-0 ∙ ap Triples (sym c.as_slice.ensures)) (p.is-1 ∙ ap Triples (sym c.as_slice-in-Triples-Triples.ensures))
    c.lacked.ensures c.row_of_found_triple.ensures
