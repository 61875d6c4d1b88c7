-- The entries are written one behind another.
use Rattle.std.proofs.Common.{◌≡◌, ◌∙◌, arith, ap, ◌<◌}
use Rattle.std.proofs.lemmas.Result.{err_from_is_err_and}
use Rattle.made_script.specs.Made.{made_len}
use Rattle.made_script.proofs.MadeEntries.{all_written, more_written, part_written}
use Rattle.made_script.proofs.script.make_script.Goals as goal

-- the sink was given the entries before this one, and a prefix of this one
pub returns-in_err-write_made-clause-written : goal.returns-in_err-write_made-clause-written
returns-in_err-write_made-clause-written g c =
    let p = err_from_is_err_and c.from_residual.result c.from_residual.ensures.1 in
    let count : c.made_len-position-end.result ≡ made_len c.args.updates = c.made_len-position-end.ensures.count ∙ ap made_len c.from.ensures in
    let within : c.loop-position.position < made_len c.args.updates = omega (arith, count, c.loop-position-test.true) in
    rw (p.1) (part_written _ _ _ c.loop-position.position c.args.updates within c.loop-position.invariant.given c.in_err-write_made.ensures.written)

-- and then the whole of it
pub loop-position-preserved : goal.loop-position-preserved
loop-position-preserved g c = record {
  within = omega (arith, c.loop-position-test.true);
  given = more_written _ _ _ c.loop-position.position c.loop-position.invariant.given c.in_ok-write_made.ensures.written;
  faults = c.in_ok-write_made.ensures.cause ∙ c.loop-position.invariant.faults;
}

-- at last all entries were written
pub returns-clause-written : goal.returns-clause-written
returns-clause-written g c =
    let count : c.made_len-position-end.result ≡ made_len c.args.updates = c.made_len-position-end.ensures.count ∙ ap made_len c.from.ensures in
    let all : c.loop-position.position ≡ made_len c.args.updates = omega (arith, count, c.loop-position-test.false, c.loop-position.invariant.within) in
    all_written _ _ c.loop-position.position c.args.updates all c.loop-position.invariant.given
