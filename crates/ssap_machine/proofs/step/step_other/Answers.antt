-- A word, or a character.
use Rattle.std.proofs.Common.{refl, sym, subst}
use Rattle.ssap_machine.specs.Progress.{Steps}
use Rattle.ssap_machine.specs.declared.step.Step.TheVariants.{Taken}
use Rattle.ssap_machine.proofs.Texts.{only_at_ascii, character_taken, character_pending, character_stuck}
use Rattle.ssap_machine.proofs.step.step_other.Goals as goal

pub step_word-requires-clause-words : goal.step_word-requires-clause-words
step_word-requires-clause-words c = only_at_ascii c.args.symbol c.args.bytes.now c.if-bytes-lt128.true c.requires.words

pub returns-in-Whole : goal.returns-in-Whole
returns-in-Whole c = subst (Steps c.args.symbol c.args.bytes.now (Taken c.in-Whole.count) c.args.stack.now) (sym c.push.ensures)
    (character_taken c.args.symbol c.args.next c.args.stack.now c.args.bytes.now c.in-Whole.count c.requires.characters c.in-Whole.ensures)

pub returns-in-Half : goal.returns-in-Half
returns-in-Half c = (refl, character_pending c.args.symbol c.args.next c.args.stack.now c.args.bytes.now c.requires.characters c.in-Half.ensures)

pub returns-in-Stuck : goal.returns-in-Stuck
returns-in-Stuck c = character_stuck c.args.symbol c.args.next c.args.stack.now c.args.bytes.now c.in-Stuck.place c.requires.characters c.if-bytes-lt128.false c.in-Stuck.ensures
