-- The name is a text.
use Rattle.std.proofs.Common.{refl}
use Rattle.ssap_shape.proofs.Plain.{no_fault}
use Rattle.replay_trial.proofs.run.space.Goals as goal

pub unreachable-requires-in-Err-NotText : goal.unreachable-requires-in-Err-NotText
unreachable-requires-in-Err-NotText c =
    no_fault _ _ _ refl c.in-Err-NotText.field-0-is c.in-Err-NotText.ensures.fault
