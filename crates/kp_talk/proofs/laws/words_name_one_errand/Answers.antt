use Rattle.kp_talk.proofs.WordsOnce.{words_once}
use Rattle.kp_talk.proofs.laws.words_name_one_errand.Goals as goal

pub returns : goal.returns
returns c = words_once
