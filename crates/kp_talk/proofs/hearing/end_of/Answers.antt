use Rattle.kp_talk.proofs.InputsEnd.{cut_ends}
use Rattle.kp_talk.proofs.hearing.end_of.Goals as goal

-- the input ends inside a message
pub returns-in-Err : goal.returns-in-Err
returns-in-Err c heard came f = rw c.ending_of.ensures (cut_ends c.args.decoder.now c.end.new.self c.in-Err.stop heard came f c.in-Err.ensures.stands)
