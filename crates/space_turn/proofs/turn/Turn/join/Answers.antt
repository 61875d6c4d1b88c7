use Rattle.std.proofs.Common.{rules}
use Rattle.space_turn.proofs.StepsKeepTheRule.{joins, meets_after}
use Rattle.space_turn.proofs.turn.Turn.join.Goals as goal

pub join_seat-requires : goal.join_seat-requires
join_seat-requires g c =
    let seat = c.seat.invariant in
    let other = c.other.invariant in (
      search rules,
      search rules,
      other.0,
      search rules,
      joins g.M.Machine.stands g.M.Machine.root c.self.inside.table.shared.key.me.0 _ _ _ _ _ seat.1 seat.2 other.1 other.2,
    )

pub load-requires : goal.load-requires
load-requires g c =
    let seat = c.seat.invariant in (
      search rules,
      search rules,
      meets_after g.M.Machine.stands g.M.Machine.root c.self.inside.table.shared.key.me.0 _ _ _ c.seat.inside.place.me c.other.inside.place.me.0 (seat.0, seat.1, seat.2) c.join_seat.ensures.2,
    )
