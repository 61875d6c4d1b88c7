-- By the symbol.
use Rattle.ssap_machine.proofs.Whites.{tight_words}
use Rattle.ssap_machine.proofs.step.step_tight.Goals as goal

pub step_word-requires : goal.step_word-requires
step_word-requires c = record {
  fits = c.requires.fits;
  words = tight_words c.args.symbol c.args.bytes.now c.in_default.not-Text c.in_default.not-Value c.in_default.not-Blank c.in_default.not-Cdata c.requires.tight;
}
