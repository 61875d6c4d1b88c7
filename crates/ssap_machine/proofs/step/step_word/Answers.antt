-- What was found is read, goes on, or is stuck.
use Rattle.std.proofs.Common.{refl, sym, subst}
use Rattle.ssap_machine.specs.Words.{Word}
use Rattle.ssap_machine.specs.Choosing.{pushed}
use Rattle.ssap_machine.specs.Progress.{Steps}
use Rattle.ssap_machine.specs.declared.step.Step.TheVariants.{Taken}
use Rattle.ssap_machine.proofs.Facts.{pushed_fit}
use Rattle.ssap_machine.proofs.Steps.{word_taken, word_pending, word_stuck}
use Rattle.ssap_machine.proofs.step.step_word.Goals as goal

pub push_on-requires : goal.push_on-requires
push_on-requires c = pushed_fit c.args.symbol (Word c.in-Whole.ensures.0) (pushed c.in-Whole.pushes) c.args.stack.now c.in-Whole.ensures.1 c.requires.fits

pub returns-in-Whole : goal.returns-in-Whole
returns-in-Whole c = subst (Steps c.args.symbol c.args.bytes.now (Taken c.in-Whole.count) c.args.stack.now) (sym c.push_on.ensures)
    (word_taken c.args.symbol c.args.bytes.now c.in-Whole.count c.in-Whole.pushes c.args.stack.now c.in-Whole.ensures)

pub returns-in-Half : goal.returns-in-Half
returns-in-Half c = (refl, word_pending c.args.symbol c.args.bytes.now c.args.stack.now c.in-Half.ensures)

pub returns-in-Stuck : goal.returns-in-Stuck
returns-in-Stuck c = word_stuck c.args.symbol c.args.bytes.now c.in-Stuck.place c.args.stack.now c.requires.words c.in-Stuck.ensures
