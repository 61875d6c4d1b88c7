use Rattle.std.proofs.Common.{ℕ, ◌<◌, get_or}
use Rattle.session_core.specs.Entries.{IsRoomier, HasRoomForNext}
use Rattle.session_core.specs.declared.entry.Entry.{Entry}
use Rattle.session_core.proofs.Halfway.{Halfway}
use Rattle.session_core.proofs.telling.reserve_all.Given as goal

abbrev pub invariant-loop-entry : goal.invariant-loop-entry
invariant-loop-entry l = record {
  same : Halfway IsRoomier l.entry-index l.initial.entry-items l.entry-items;
  room : (k : ℕ) (entry : Entry) → k < l.entry-index → HasRoomForNext (get_or l.entry-items k entry).watch (get_or l.entry-items k entry).next;
}
