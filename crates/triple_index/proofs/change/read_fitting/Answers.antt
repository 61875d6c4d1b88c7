-- The rows of the patterns, one pattern after another.
use Rattle.std.proofs.Common.{◌+◌, arith}
use Rattle.triple_index.proofs.Nets.{fitting_at, fitting_all, reads_at, reads_within}
use Rattle.triple_index.proofs.change.read_fitting.Goals as goal

pub returns-in_err-read_rows-clause-reads : goal.returns-in_err-read_rows-clause-reads
returns-in_err-read_rows-clause-reads g c =
    reads_within c.args.index.now.triples c.args.patterns.now (c.loop-pattern.pattern-index + 1) c.args.steps.now c.read_rows.new.steps
    (reads_at _ _ _ _ _ _ _ _ _ c.loop-pattern-test.true c.plain-view.ensures c.loop-pattern.invariant.counted c.rows.ensures.rows c.read_rows.ensures.reads)

pub loop-pattern-preserved : goal.loop-pattern-preserved
loop-pattern-preserved g c = record {
  fitting = fitting_at _ _ _ _ _ _ _ _ c.loop-pattern-test.true c.plain-view.ensures c.loop-pattern.invariant.fitting c.rows.ensures.rows c.in_ok-read_rows.ensures.ok;
  counted = reads_at _ _ _ _ _ _ _ _ _ c.loop-pattern-test.true c.plain-view.ensures c.loop-pattern.invariant.counted c.rows.ensures.rows c.read_rows.ensures.reads;
}

pub returns-clause-fitting : goal.returns-clause-fitting
returns-clause-fitting g c = fitting_all _ _ _ c.loop-pattern.pattern-index (omega (arith, c.loop-pattern-test.false)) c.loop-pattern.invariant.fitting
