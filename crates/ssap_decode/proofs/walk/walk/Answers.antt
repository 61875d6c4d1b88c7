-- The bytes end a message, or lead on, or lead up to a fault.
use Rattle.ssap_decode.proofs.Progressing.{reads_whole, reads_half}
use Rattle.ssap_decode.proofs.walk.walk.Goals as goal

pub walk_up_to-requires : goal.walk_up_to-requires
walk_up_to-requires c = c.in-Fault.ensures

pub returns-in-Whole : goal.returns-in-Whole
returns-in-Whole c = reads_whole c.args.stack.now c.advance.new.stack c.args.bytes.now c.in-Whole.taken c.in-Whole.ensures

pub returns-in-Half : goal.returns-in-Half
returns-in-Half c = reads_half c.args.stack.now c.advance.new.stack c.args.bytes.now c.in-Half.from c.in-Half.ensures
