-- Up to a fault the bytes lead on, to the symbols that are stuck there.
use Rattle.ssap_decode.proofs.Progressing.{fault_not_whole, fault_no_other, reads_stuck}
use Rattle.ssap_decode.proofs.walk.walk_up_to.Goals as goal

pub unreachable-requires : goal.unreachable-requires
unreachable-requires c =
    fault_not_whole c.args.stack.now c.advance.new.stack c.args.bytes.now c.args.place c.in-Whole.taken c.requires c.in-Whole.ensures

pub unreachable-requires-in-Fault : goal.unreachable-requires-in-Fault
unreachable-requires-in-Fault c =
    fault_no_other c.args.stack.now c.advance.new.stack c.args.bytes.now c.args.place c.in-Fault.place c.requires c.in-Fault.ensures

pub returns : goal.returns
returns c =
    reads_stuck c.args.stack.now c.advance.new.stack c.args.bytes.now c.args.place c.in-Half.from c.requires c.in-Half.ensures
