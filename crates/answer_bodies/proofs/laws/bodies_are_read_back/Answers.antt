-- What is written item by item is read so.
use Rattle.answer_bodies.proofs.Backs.{read_back, sound_full}
use Rattle.answer_bodies.proofs.laws.bodies_are_read_back.Goals as goal

pub returns-clause-full : goal.returns-clause-full
returns-clause-full c = sound_full

pub returns-clause-back : goal.returns-clause-back
returns-clause-back c = read_back
