use Rattle.std.proofs.Common.{◌+◌, arith}
use Rattle.std.proofs.lemmas.List.{take_rest}
use Rattle.std.proofs.lemmas.Result.{err_from_is_err_and, MatchResult-weaker}
use Rattle.std.proofs.lemmas.Slice.{between_is}
use Rattle.ssap_encode.proofs.Escapes.{escaped_none, escaped_at, empty_run, run_goes_on, run_ends, run_last}
use Rattle.ssap_encode.proofs.text.put_escaped.Goals as goal
use Rattle.ssap_encode.proofs.text.put_escaped.Goals.{in-Some+in_ok-put, in_default}

pub loop-at-init : goal.loop-at-init
loop-at-init g c = record {
  behind = omega arith;
  so_far = rw escaped_none (g.met.O.Out.nothing _);
  plain = escaped_none;
}

pub loop-at-preserved : goal.loop-at-preserved
loop-at-preserved g c =
    let text = c.args.text.now in
    let from = c.loop-at.from in
    let at = c.loop-at.at in
    let before = c.loop-at.invariant in
    elim c.match-reference_of.branch [
      | in-Some+in_ok-put w ↦ let reference = w.in-Some.reference.now in
          record {
            behind = omega arith;
            so_far = rw (w.out-is, w.from-is, ← run_ends text reference from at before.behind c.loop-at-test.true w.in-Some.ensures before.plain)
                (g.met.O.Out.further _ _ _ _ _ before.so_far (rw (← between_is text from at) w.in_ok-put.ensures));
            plain = rw (w.from-is, empty_run text (at + 1)) escaped_none;
          }
      | in_default w ↦ record {
        behind = omega arith;
        so_far = rw (w.out-is, w.from-is) before.so_far;
        plain = rw w.from-is (run_goes_on text from at before.behind c.loop-at-test.true w.in_default.ensures before.plain);
      }
    ]

-- a run or its reference was refused, and what follows it was not put
pub returns-in_err-put : goal.returns-in_err-put
returns-in_err-put g c =
    let text = c.args.text.now in
    let at = c.loop-at.at in
    let p = err_from_is_err_and c.from_residual.result c.from_residual.ensures.1 in
    rw (p.1, escaped_at text (at + 1), ← run_ends text c.in-Some.reference.now c.loop-at.from at c.loop-at.invariant.behind c.loop-at-test.true c.in-Some.ensures c.loop-at.invariant.plain)
    (g.met.O.Out.stops_before _ _ _ _ (g.met.O.Out.stops_behind _ _ _ _ _ c.loop-at.invariant.so_far (rw (← between_is text c.loop-at.from at) c.in_err-put.ensures)))

-- the last run
pub returns : goal.returns
returns g c =
    let text = c.args.text.now in
    let from = c.loop-at.from in
    rw (← run_last text from c.loop-at.at c.loop-at.invariant.behind c.loop-at-test.false c.loop-at.invariant.plain)
    (MatchResult-weaker c.put-2.result c.put-2.ensures
    (λ _ p. g.met.O.Out.further _ _ _ _ _ c.loop-at.invariant.so_far (rw (← take_rest text from) p))
    (λ _ p. g.met.O.Out.stops_behind _ _ _ _ _ c.loop-at.invariant.so_far (rw (← take_rest text from) p)))
