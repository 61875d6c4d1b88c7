use Rattle.space_shared.proofs.Exchanges.{makes_grown}
use Rattle.space_shared.proofs.incoming.pump_in.Goals as goal

-- what the seat has seen grew
pub returns-clause-grown : goal.returns-clause-grown
returns-clause-grown g c =
    makes_grown c.args.seat.now c.counted.new.seat c.counted.ensures.pumped.said c.counted.ensures.pumped.makes
