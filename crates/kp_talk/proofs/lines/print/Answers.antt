use Rattle.std.proofs.Common.{refl, [], inr}
use Rattle.std.proofs.KnownBytes.{Appends-nil}
use Rattle.std.proofs.lemmas.Result.{err_from_is_err_and}
use Rattle.kp_talk.proofs.lines.print.Goals as goal

-- the sink failed behind a prefix, and nothing was written to the other
pub returns-in_err-write_spelled : goal.returns-in_err-write_spelled
returns-in_err-write_spelled g c written writes =
    let p = err_from_is_err_and c.from_residual.result c.from_residual.ensures.1 in
    let e = c.in_err-write_spelled.ensures in
    rw (p.1, p.2) (record { written = ([], [], refl, Appends-nil written); printed = e.written }, inr e.cause.failed)
