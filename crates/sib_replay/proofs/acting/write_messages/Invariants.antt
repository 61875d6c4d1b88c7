use Rattle.std.proofs.Common.{◌≡◌, length}
use Rattle.std.specs.List.{flat_map}
use Rattle.link_table.specs.Links.{pending_of}
use Rattle.session_core.specs.Runs.{run_from}
use Rattle.session_core.specs.Reads.{costs}
use Rattle.sib_replay.specs.Doing.{seen}
use Rattle.sib_replay.specs.Output.{message_lines}
use Rattle.sib_replay.proofs.DoingLemmas.{Toward}
use Rattle.sib_replay.proofs.TakeLemmas.{all_of}
use Rattle.sib_replay.proofs.acting.write_messages.Given as goal

-- what was taken and what waits are all that waited
abbrev pub invariant-loop-alloc : goal.invariant-loop-alloc
invariant-loop-alloc g l = record {
  space : run_from l.core.space (all_of l.core.space l.link) ≡ run_from l.fn.core.space (all_of l.fn.core.space l.link);
  toward : Toward (seen (g.K.Sink.given l.fn.sink) (g.K.Sink.faults l.fn.sink) l.fn.steps) (seen (g.K.Sink.given l.sink) (g.K.Sink.faults l.sink) l.steps)
      (flat_map (message_lines l.link) (pending_of l.fn.core.space.links l.link)) (flat_map (message_lines l.link) (pending_of l.core.space.links l.link))
      (costs l.fn.core.space (all_of l.fn.core.space l.link)) (costs l.core.space (all_of l.core.space l.link));
}

abbrev pub decreases-loop-alloc : goal.decreases-loop-alloc
decreases-loop-alloc g l = length (pending_of l.core.space.links l.link)
