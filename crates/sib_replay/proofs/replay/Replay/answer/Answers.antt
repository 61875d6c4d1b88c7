use Rattle.sib_replay.proofs.ReplayLemmas.{fits_of_held, entry_settles}
use Rattle.sib_replay.proofs.replay.Replay.answer.Goals as goal

-- an entry that is held can be answered
pub answer-requires-clause-can : goal.answer-requires-clause-can
answer-requires-clause-can g c κs within =
    let (name, read, h) = c.requires.held in
    (name, h.events, h.stands, fits_of_held name _ _ read c.args.entry c.args.self.now.reader c.args.self.now.session h)

-- an entry whose answer was given goes on, and a fault stops the replay
pub returns-clause-settled : goal.returns-clause-settled
returns-clause-settled g c name old read h =
    entry_settles name old _ _ read c.args.entry c.args.self.now.reader c.args.self.now.session h c.answer.new.self c.answer.result (c.answer.ensures name h.events h.stands)
