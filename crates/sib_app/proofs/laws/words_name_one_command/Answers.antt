use Rattle.sib_app.proofs.CommandsSaid.{commands_once}
use Rattle.sib_app.proofs.laws.words_name_one_command.Goals as goal

pub returns : goal.returns
returns c = commands_once
