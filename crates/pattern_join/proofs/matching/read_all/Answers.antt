-- The rows of the templates, one template after another.
use Rattle.std.proofs.Common.{◌+◌, refl, arith}
use Rattle.std.proofs.lemmas.Result.{err_from_is_err_and}
use Rattle.triple_index.proofs.Nets.{reads_at, reads_within}
use Rattle.pattern_join.proofs.OneMoreTemplate.{read_none, read_next, read_over}
use Rattle.pattern_join.proofs.matching.read_all.Goals as goal

pub loop-at-init : goal.loop-at-init
loop-at-init g c = record {
  read = read_none c.args.templates.now c.args.view.now c.new-found.result c.new-found.ensures;
  counted = omega arith;
}

pub returns-in_err-read_rows-clause-wide : goal.returns-in_err-read_rows-clause-wide
returns-in_err-read_rows-clause-wide g c =
    let p = err_from_is_err_and c.from_residual.result c.from_residual.ensures.1 in
    rw (p.1, p.2) (read_over c.args.templates.now c.split_at.result.0.now c.args.view.now c.loop-at.found c.rows.result c.loop-at.at _ c.in_err-read_rows.field-0.0
    c.loop-at-test.true c.split_at.ensures.front c.loop-at.invariant.read c.rows.ensures.rows c.in_err-read_rows.ensures.wide)

pub returns-in_err-read_rows-clause-reads : goal.returns-in_err-read_rows-clause-reads
returns-in_err-read_rows-clause-reads g c =
    reads_within c.args.view.now c.args.templates.now (c.loop-at.at + 1) c.args.steps.now c.read_rows.new.steps
    (reads_at _ _ _ _ _ _ _ _ _ c.loop-at-test.true refl c.loop-at.invariant.counted c.rows.ensures.rows c.read_rows.ensures.reads)

pub loop-at-preserved : goal.loop-at-preserved
loop-at-preserved g c = record {
  read = read_next c.args.templates.now c.split_at.result.0.now c.args.view.now c.loop-at.found c.rows.result c.read_rows.new.into c.loop-at.at _
      c.loop-at-test.true c.split_at.ensures.front c.loop-at.invariant.read c.rows.ensures.ordered c.rows.ensures.rows
      c.in_ok-read_rows.ensures.ok c.in_ok-read_rows.ensures.narrow;
  counted = reads_at _ _ _ _ _ _ _ _ _ c.loop-at-test.true refl c.loop-at.invariant.counted c.rows.ensures.rows c.read_rows.ensures.reads;
}
