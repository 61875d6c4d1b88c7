use Rattle.std.proofs.Common.{◌≡◌, take, drop}
use Rattle.std.specs.List.{AllZip}
use Rattle.delta_eval.specs.Changed.{HasRoomFor, HasSameRows}
use Rattle.delta_eval.proofs.lists.reserve_all.Given as goal

abbrev pub invariant-loop-at : goal.invariant-loop-at
invariant-loop-at l = record {
  rows : AllZip HasSameRows l.initial.lists.items l.lists.items;
  room : AllZip HasRoomFor (take l.at l.lists.items) (take l.at l.changes);
  rest : drop l.at l.lists.items ≡ drop l.at l.initial.lists.items;
}
