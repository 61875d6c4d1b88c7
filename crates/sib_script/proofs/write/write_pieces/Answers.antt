-- What was written before a write that failed is a prefix of all three pieces.
use Rattle.std.proofs.lemmas.Result.{err_from_is_err_and}
use Rattle.sib_io.proofs.KnownLemmas.{part_after, part_of_more}
use Rattle.sib_script.proofs.WrittenPieces.{writes_behind}
use Rattle.sib_script.proofs.write.write_pieces.Goals as goal

pub returns-in_err-write_all-clause-written : goal.returns-in_err-write_all-clause-written
returns-in_err-write_all-clause-written g c =
    let p = err_from_is_err_and c.from_residual.result c.from_residual.ensures.1 in
    rw (p.1) (part_of_more _ _ c.args.first.now _ c.in_err-write_all.ensures.bytes)

pub returns-in_err-write_all-2-clause-written : goal.returns-in_err-write_all-2-clause-written
returns-in_err-write_all-2-clause-written g c =
    let p = err_from_is_err_and c.from_residual-in_err-write_all-2.result c.from_residual-in_err-write_all-2.ensures.1 in
    rw (p.1) (part_after _ _ _ c.args.first.now _ c.in_ok-write_all.ensures.bytes (part_of_more _ _ c.args.second.now _ c.in_err-write_all-2.ensures.bytes))

pub returns-clause-written : goal.returns-clause-written
returns-clause-written g c =
    writes_behind _ _ _ c.args.first.now _ _ c.in_ok-write_all.ensures.bytes (writes_behind _ _ _ c.args.second.now _ _ c.in_ok-write_all-2.ensures.bytes c.write_all-3.ensures.bytes)
