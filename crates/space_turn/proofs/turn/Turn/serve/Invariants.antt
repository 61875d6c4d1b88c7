use Rattle.std.specs.Prelude.{Some}
use Rattle.space_turn.proofs.turn.Turn.serve.Given as goal

abbrev pub ghosts-work : goal.ghosts-work
ghosts-work g a = record { asked = Some a.call }
