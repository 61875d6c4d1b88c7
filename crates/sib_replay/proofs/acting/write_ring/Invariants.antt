use Rattle.std.proofs.Common.{◌≡◌, drop}
use Rattle.std.specs.List.{flat_map}
use Rattle.session_core.specs.Runs.{run_from}
use Rattle.session_core.specs.Reads.{costs}
use Rattle.sib_replay.specs.Doing.{seen}
use Rattle.sib_replay.specs.Output.{takes, link_lines}
use Rattle.sib_replay.specs.Session.{AreRising, reason_in}
use Rattle.sib_replay.proofs.DoingLemmas.{Toward}
use Rattle.sib_replay.proofs.acting.write_ring.Given as goal

-- what was written and what the links that are left write are all that is written
abbrev pub invariant-loop-at : goal.invariant-loop-at
invariant-loop-at g l = record {
  rising : AreRising 1 (drop l.at l.ring);
  space : run_from l.core.space (takes l.core.space (drop l.at l.ring)) ≡ run_from l.fn.core.space (takes l.fn.core.space l.ring);
  toward : Toward (seen (g.K.Sink.given l.fn.sink) (g.K.Sink.faults l.fn.sink) l.fn.steps) (seen (g.K.Sink.given l.sink) (g.K.Sink.faults l.sink) l.steps)
      (flat_map (link_lines l.fn.core.space (reason_in l.reason)) l.ring) (flat_map (link_lines l.core.space (reason_in l.reason)) (drop l.at l.ring))
      (costs l.fn.core.space (takes l.fn.core.space l.ring)) (costs l.core.space (takes l.core.space (drop l.at l.ring)));
}
