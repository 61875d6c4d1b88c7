use Rattle.std.proofs.Common.{take, drop, take-append-drop}
use Rattle.sib_io.proofs.real.StdSinkSink.write_all.Goals as goal

-- what the writer took is a prefix of the bytes
pub returns-then-write_out-bytes-clause-bytes : goal.returns-then-write_out-bytes-clause-bytes
returns-then-write_out-bytes-clause-bytes g c =
    let count = c.write_out.result in
    let bytes = c.args.bytes.now in
    (take count bytes, drop count bytes, take-append-drop count bytes, c.write_out.ensures.taken)
