use Rattle.std.proofs.Common.{◌≡◌, ◌+◌, ◌<◌, ◌^◌, List, length, flat_map}
use Rattle.sib_replay.specs.Lines.{Line, line_bytes}
use Rattle.replay_trial.proofs.Counting.{Left}
use Rattle.replay_trial.proofs.replies.count_replies.Given as goal

-- some lines were counted, and the others are left
abbrev pub invariant-lines : goal.invariant-lines
invariant-lines l = record {
  confirms : l.replies.confirms + length l.rest < 2 ^ 64;
  indications : l.replies.indications + length l.rest < 2 ^ 64;
  left : (lines : List Line) → l.fn.bytes ≡ flat_map line_bytes lines → Left l.rest l.replies lines;
}

abbrev pub decreases-lines : goal.decreases-lines
decreases-lines l = length l.rest
