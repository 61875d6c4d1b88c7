use Rattle.link_table.proofs.Pending.{IsEntry-room}
use Rattle.link_table.proofs.entry.Entry.send.Goals as goal

pub move_to-requires : goal.move_to-requires
move_to-requires c = IsEntry-room c.args.self.now c.requires
