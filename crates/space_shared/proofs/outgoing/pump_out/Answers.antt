use Rattle.space_shared.proofs.PumpsGoOn.{pumped_grown}
use Rattle.space_shared.proofs.outgoing.pump_out.Goals as goal

-- what the seat has seen grew by its calls
pub returns-clause-grown : goal.returns-clause-grown
returns-clause-grown g c = pumped_grown c.args.link c.args.seat.now c.counted.new.seat _ _ c.counted.result c.counted.ensures.pumped.pumped
