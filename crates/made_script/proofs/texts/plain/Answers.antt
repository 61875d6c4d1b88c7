-- A plain word is a text.
use Rattle.ssap_shape.proofs.Plain.{no_fault}
use Rattle.made_script.proofs.texts.plain.Goals as goal

pub unreachable-requires-in-Err-NotText : goal.unreachable-requires-in-Err-NotText
unreachable-requires-in-Err-NotText c =
    no_fault _ _ _ c.requires c.in-Err-NotText.field-0-is c.in-Err-NotText.ensures.fault
