use Rattle.std.proofs.Common.{◌∙◌, sym}
use Rattle.space_shared.specs.Input.{Inlet, inlet}
use Rattle.space_shared.proofs.CallsAnswered.{heard_says}
use Rattle.space_shared.proofs.InputsRead.{pumps_to_end}
use Rattle.space_shared.proofs.incoming.counted.Goals as goal

-- the link was ended
pub returns-then-needs_end-clause-pumped : goal.returns-then-needs_end-clause-pumped
returns-then-needs_end-clause-pumped g c =
    let old : Inlet = inlet (g.S.Source.left c.args.source.now) (g.S.Source.faults c.args.source.now) in
    let new : Inlet = inlet (g.S.Source.left c.read_all-end.new.source) (g.S.Source.faults c.read_all-end.new.source) in
    pumps_to_end c.args.link c.args.seat.now old new c.read_all-end.new.seat c.end_link.new.seat c.end_link.ensures.same_seat c.read_all-end.result
    (sym c.needs_end.ensures ∙ c.if-needs_end.true) c.read_all-end.ensures.hears c.end_link.result c.end_link.ensures.ends

-- or needs no end
pub returns-clause-worn : goal.returns-clause-worn
returns-clause-worn g c =
    heard_says c.read_all-end.result c.read_all-end.new.seat (sym c.needs_end.ensures ∙ c.if-needs_end.false) c.read_all-end.ensures.hears.stops.found
