-- A message fits into a delivery.
use Rattle.std.proofs.Common.{ap, length, arith}
use Rattle.made_script.proofs.MessageLengths.{message_fits}
use Rattle.made_script.proofs.entry.made_entry.Goals as goal

pub returns-clause-allowed : goal.returns-clause-allowed
returns-clause-allowed c =
    let long = ap length c.in_ok-bytes.ensures in
    ((omega arith, omega arith), omega (arith, long, message_fits c.args.position c.ranges.position.fits))
