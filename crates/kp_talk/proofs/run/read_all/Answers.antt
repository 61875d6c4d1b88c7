use Rattle.std.proofs.Common.{arith, ◌++◌}
use Rattle.kp_talk.proofs.run.read_all.Goals as goal

-- some bytes were read and answered
pub turn-requires-clause-talking : goal.turn-requires-clause-talking
turn-requires-clause-talking g c =
    let (errand, old, first) = c.requires in
    let now = c.loop-count.invariant.talking errand old first in
    (errand, old, now.0, now.1)

-- a piece more was read and answered
pub loop-count-preserved : goal.loop-count-preserved
loop-count-preserved g c = record {
  some = omega (arith, c.in-Ok.ensures.within);
  talking = λ errand old first.
      let (read, talking) = c.loop-count.invariant.talking errand old first in
      let (piece, more) = c.in-Ok.ensures.turned errand old read talking in
      (read ++ piece, more);
}

-- the run came to its ending
pub returns-in-Err : goal.returns-in-Err
returns-in-Err g c errand old first =
    let (read, talking) = c.loop-count.invariant.talking errand old first in
    c.in-Err.ensures.turned errand old read talking
