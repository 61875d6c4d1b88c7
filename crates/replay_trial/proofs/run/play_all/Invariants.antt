use Rattle.std.proofs.Common.{◌≤◌, ◌+◌, List}
use Rattle.sib_replay.specs.Output.{Event, rows}
use Rattle.made_script.specs.Made.{made_space}
use Rattle.replay_trial.specs.Playing.{Played}
use Rattle.replay_trial.proofs.run.play_all.Given as goal

-- the entries before the position were answered, within the rows of their calls
abbrev pub invariant-loop-position : goal.invariant-loop-position
invariant-loop-position g l = record {
  within : l.position ≤ l.position-end;
  played : (events : List Event) × Played l.position events l.player × (l.steps ≤ l.fn.steps + rows made_space events);
}
