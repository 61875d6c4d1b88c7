-- Each item is told, and a list has one order.
use Rattle.answer_bodies.proofs.Backs.{answers_sound}
use Rattle.answer_bodies.proofs.Onces.{reads_once}
use Rattle.answer_bodies.proofs.laws.answers_are_told.Goals as goal

pub returns-clause-once : goal.returns-clause-once
returns-clause-once c = reads_once

pub returns-clause-sound : goal.returns-clause-sound
returns-clause-sound c = answers_sound
