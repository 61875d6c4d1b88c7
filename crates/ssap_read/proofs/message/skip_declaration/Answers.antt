use Rattle.ssap_read.proofs.Messaging.{behind_declaration, behind_nothing}
use Rattle.ssap_read.proofs.message.skip_declaration.Goals as goal

pub returns-in-Some : goal.returns-in-Some
returns-in-Some c =
    behind_declaration c.args.bytes.now _ _ c.in-Some.ensures c.skip_spaces.ensures.spaces c.skip_spaces.ensures.stops

pub returns-in-None : goal.returns-in-None
returns-in-None c =
    behind_nothing c.args.bytes.now c.in-None.ensures
