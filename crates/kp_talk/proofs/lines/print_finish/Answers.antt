use Rattle.kp_talk.specs.Lines.{finish_line}
use Rattle.kp_talk.proofs.lines.print_finish.Goals as goal

-- the line of a broken stream has the word for how it is broken
pub returns-in-BrokenStream : goal.returns-in-BrokenStream
unfolding finish_line
returns-in-BrokenStream g c = rw (c.in-BrokenStream.is, ← c.word_of.ensures) c.print_stream.ensures
