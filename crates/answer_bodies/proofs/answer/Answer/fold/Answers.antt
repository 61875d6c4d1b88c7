-- The answer and both sides of the difference have one form.
use Rattle.std.proofs.Common.{sym, ap, ◌∙◌}
use Rattle.answer_bodies.specs.declared.answer.Answer.TheVariants.{Triples, Table}
use Rattle.answer_bodies.proofs.FoldedForms.{triples_folded, table_folded}
use Rattle.answer_bodies.proofs.answer.Answer.fold.Goals as goal
use Rattle.answer_bodies.proofs.answer.Answer.fold.Goals.{in-Triples-Triples-Triples, in-Table-Table-Table}

pub returns-clause-ok : goal.returns-clause-ok
returns-clause-ok c =
    elim c.match-self.branch [
      | in-Triples-Triples-Triples w ↦
          let p = w.in-Triples-Triples-Triples in
          rw (w.self-is, w.result-is)
          (triples_folded _ _ _ _ _ _ _ p.is-0 (p.is-1 ∙ ap Triples (sym w.as_slice.ensures)) (p.is-2 ∙ ap Triples (sym w.as_slice-in-Triples-Triples-Triples.ensures))
          w.fold_items.ensures.ok)
      | in-Table-Table-Table w ↦
          let p = w.in-Table-Table-Table in
          rw (w.self-is, w.result-is)
          (table_folded _ _ _ _ _ _ _ _ _ _ p.is-0 (p.is-1 ∙ ap (Table p.columns-1) (sym w.as_slice-in-Table-Table-Table.ensures))
          (p.is-2 ∙ ap (Table p.columns-2) (sym w.as_slice-in-Table-Table-Table-2.ensures)) w.fold_items-in-Table-Table-Table.ensures.ok)
    ]
