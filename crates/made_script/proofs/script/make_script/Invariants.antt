use Rattle.std.proofs.Common.{◌≡◌, ◌≤◌}
use Rattle.std.specs.Io.KnownBytes.{Appends}
use Rattle.sib_script.specs.Script.{script_spelling}
use Rattle.made_script.proofs.MadeEntries.{first_entries}
use Rattle.made_script.proofs.script.make_script.Given as goal

-- the entries before the position were written, and no fault was counted
abbrev pub invariant-loop-position : goal.invariant-loop-position
invariant-loop-position g l = record {
  within : l.position ≤ l.position-end;
  given : Appends (g.K.Sink.given l.fn.sink) (g.K.Sink.given l.sink) (script_spelling (first_entries l.position));
  faults : g.K.Sink.faults l.sink ≡ g.K.Sink.faults l.fn.sink;
}
