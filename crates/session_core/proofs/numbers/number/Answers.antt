use Rattle.session_core.proofs.NumbersMeanTerms.{number_listed}
use Rattle.session_core.proofs.numbers.number.Goals as goal

pub returns-in-Is : goal.returns-in-Is
returns-in-Is g c = rw c.in-Is.is (number_listed _ _ _ _ (g.met.T.Listed.by_position c.args.table.now) c.id_of.ensures.once c.id_of.ensures.id)
