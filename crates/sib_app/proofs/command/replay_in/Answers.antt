use Rattle.sib_app.proofs.CommandsSaid.{replay_needs}
use Rattle.sib_app.proofs.command.replay_in.Goals as goal

-- bytes that are no identifier name no space
pub returns-else-is_identifier : goal.returns-else-is_identifier
returns-else-is_identifier c form = c.if-is_identifier.ensures (replay_needs c.args.name.now form)
