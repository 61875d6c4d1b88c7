use Rattle.std.proofs.Common.{◌≡◌, ◌≤◌}
use Rattle.space_turn.specs.Steps.{IsIdle}
use Rattle.space_turn.proofs.turn.Turn.wait_for_turn.Given as goal

abbrev pub invariant-loop : goal.invariant-loop
invariant-loop g l =
    (l.place.table_id ≡ l.initial.place.table_id)
    × IsIdle l.place.me
    × (l.place.me.0 ≡ record l.initial.place.me.0 { found = l.place.me.0.found; looks = l.place.me.0.looks })
    × (l.initial.place.me.0.looks ≤ l.place.me.0.looks)
