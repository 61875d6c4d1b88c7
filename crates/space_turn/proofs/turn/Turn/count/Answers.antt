use Rattle.std.proofs.Common.{rules}
use Rattle.space_turn.proofs.StepsKeepTheRule.{looks}
use Rattle.space_turn.proofs.turn.Turn.count.Goals as goal

pub load-requires : goal.load-requires
load-requires g c =
    let seat = c.seat.invariant in (
      search rules,
      search rules,
      looks g.M.Machine.stands g.M.Machine.root c.self.inside.table.shared.key.me.0 _ _ _ (seat.0, seat.1, seat.2),
    )
