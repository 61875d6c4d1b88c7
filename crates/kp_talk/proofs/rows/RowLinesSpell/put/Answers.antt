use Rattle.std.proofs.lemmas.List.Folds.{flat_map-map}
use Rattle.kp_client.specs.Mirroring.{triple_row}
use Rattle.kp_talk.specs.Lines.{row_line}
use Rattle.kp_talk.proofs.rows.RowLinesSpell.put.Goals as goal

-- the line of a triple is that of its row
pub returns-in-Triples : goal.returns-in-Triples
returns-in-Triples g c = rw (c.in-Triples.is, flat_map-map row_line triple_row c.in-Triples.triples, ← c.as_slice.ensures) c.put.ensures
