-- Each production stands alone, so a message does.
use Rattle.ssap_grammar.proofs.StreamEnds.{message_word, word_message}
use Rattle.ssap_grammar.proofs.laws.messages_are_spelled.Goals as goal

pub returns-clause-spelled : goal.returns-clause-spelled
returns-clause-spelled c bytes rest envelope x = message_word envelope bytes rest x

pub returns-clause-read : goal.returns-clause-read
returns-clause-read c word rest envelope x = word_message envelope word rest x
