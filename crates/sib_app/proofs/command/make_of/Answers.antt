use Rattle.sib_app.proofs.CommandsSaid.{make_needs}
use Rattle.sib_app.proofs.command.make_of.Goals as goal

-- a word that is no number of updates
pub returns-in-None : goal.returns-in-None
returns-in-None c form =
    let (updates, is) = make_needs c.args.word.now form in
    c.in-None.ensures updates is
