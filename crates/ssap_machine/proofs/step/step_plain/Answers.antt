-- A run, or what else stands there.
use Rattle.std.proofs.Common.{sym, subst, arith}
use Rattle.ssap_machine.specs.Progress.{Steps}
use Rattle.ssap_machine.specs.declared.step.Step.TheVariants.{Taken}
use Rattle.ssap_machine.proofs.Texts.{run_taken, words_at_ascii}
use Rattle.ssap_machine.proofs.step.step_plain.Goals as goal

pub returns-then-count-gt0 : goal.returns-then-count-gt0
returns-then-count-gt0 c = subst (Steps c.args.symbol c.args.bytes.now (Taken c.plain_len-count.result) c.args.stack.now) (sym c.push.ensures)
    (run_taken c.args.symbol c.args.next c.args.ends.first c.args.ends.second c.args.ends.third c.args.stack.now c.args.bytes.now c.plain_len-count.result
    c.requires.begins c.requires.goes_on c.plain_len-count.ensures.run c.if-count-gt0.true c.plain_len-count.ensures.within)

pub step_other-requires-clause-words : goal.step_other-requires-clause-words
step_other-requires-clause-words c =
    words_at_ascii c.args.symbol c.args.ends.first c.args.ends.second c.args.ends.third c.args.bytes.now c.requires.words
    (c.plain_len-count.ensures.stops (omega (arith, c.if-count-gt0.false)))
