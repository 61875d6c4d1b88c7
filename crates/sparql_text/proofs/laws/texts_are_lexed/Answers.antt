-- The function finds the tokens, and they are the only ones.
use Rattle.sparql_text.proofs.TextsLexed.{texts_lexed}
use Rattle.sparql_text.proofs.laws.texts_are_lexed.Goals as goal

pub returns : goal.returns
returns c = texts_lexed
