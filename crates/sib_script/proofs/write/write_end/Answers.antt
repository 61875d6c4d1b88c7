-- The line of an end is its entry.
use Rattle.std.proofs.Common.{◌∙◌}
use Rattle.sib_script.proofs.WrittenPieces.{writes_same, end_piece}
use Rattle.sib_script.proofs.write.write_end.Goals as goal

pub returns-clause-written : goal.returns-clause-written
returns-clause-written g c =
    writes_same _ _ c.write_all.result _ _ (end_piece c.args.link _ (c.split_at.ensures.back ∙ c.put_end_line-start.ensures.line)) c.write_all.ensures.bytes
