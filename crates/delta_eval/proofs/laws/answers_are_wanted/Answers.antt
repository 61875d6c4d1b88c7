use Rattle.delta_eval.proofs.StandingLaws.{wanted_exact}
use Rattle.delta_eval.proofs.laws.answers_are_wanted.Goals as goal

pub returns : goal.returns
returns c terms once triples standing s = wanted_exact terms once triples standing.wanted standing.parts standing.answer s.rows
