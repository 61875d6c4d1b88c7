use Rattle.space_shared.proofs.Exchanges.{makes_mine, makes_grown}
use Rattle.space_shared.proofs.laws.seats_keep_their_calls.Goals as goal

pub returns : goal.returns
returns c = record { mine = makes_mine; grown = makes_grown }
