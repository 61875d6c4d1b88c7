use Rattle.std.proofs.Common.{rules, refl}
use Rattle.space_turn.proofs.StepsKeepTheRule.{splits}
use Rattle.space_turn.proofs.ViewsFitTheHistory.{parted_knows, split_knows}
use Rattle.space_turn.proofs.turn.Turn.split.Goals as goal

pub split_seat-place-requires : goal.split_seat-place-requires
split_seat-place-requires g c =
    let seat = c.seat.invariant in (
      search rules,
      search rules,
      splits g.M.Machine.stands g.M.Machine.root c.self.inside.table.shared.key.me.0 _ _ seat.1 seat.2,
    )

pub invariant_of-seat : goal.invariant_of-seat
invariant_of-seat g c =
    let seat = c.seat.invariant in
    rw (c.split_seat-place.ensures.2) (seat.0, seat.1, seat.2, parted_knows c.seat.inside.place.me.0 seat.3)

pub invariant_of-result : goal.invariant_of-result
invariant_of-result g c =
    let seat = c.seat.invariant in
    rw (c.split_seat-place.ensures.4) (refl, seat.1, seat.2, split_knows c.seat.inside.place.me.0 seat.3)
