use Rattle.talk_laws.proofs.AllIsPlain.{true_where}
use Rattle.talk_laws.proofs.RepliesAreReadBack.{are_read_back}
use Rattle.talk_laws.proofs.ColumnsAreTexts.{columns_are_texts}
use Rattle.talk_laws.proofs.laws.printed_answers_are_true.Goals as goal

pub returns : goal.returns
returns c = true_where are_read_back columns_are_texts
