use Rattle.std.proofs.Common.{◌∙◌, ap, refl, arith, sym, subst, [], ◌++◌}
use Rattle.sib_io.specs.declared.reading.TheConstants.{INPUT_LIMIT}
use Rattle.space_shared.specs.Exchanges.{HasOpened}
use Rattle.space_shared.specs.Input.{Inlet, inlet}
use Rattle.space_shared.specs.Reads.{Reading}
use Rattle.space_shared.specs.declared.intake.Intake.{Intake}
use Rattle.space_shared.proofs.Exchanges.{same_seats}
use Rattle.space_shared.proofs.InputsRead.{reads_first}
use Rattle.space_shared.proofs.incoming.read_all.Goals as goal

-- nothing was read yet
pub loop-count-init : goal.loop-count-init
loop-count-init g c =
    let old : Inlet = inlet (g.S.Source.left c.args.source.now) (g.S.Source.faults c.args.source.now) in
    record {
      some = omega arith;
      seat = (refl, refl, refl);
      opened = c.requires.opened;
      link = ap (λ (i : Intake). i.link) c.new-intake.ensures;
      read = ([], subst (λ i. Reading c.args.link c.args.seat.now old old [] INPUT_LIMIT i c.args.seat.now) (sym c.new-intake.ensures) (reads_first c.args.link c.args.seat.now old));
    }

-- a piece more was read and its messages delivered
pub loop-count-preserved : goal.loop-count-preserved
loop-count-preserved g c =
    let (read, reading) = c.loop-count.invariant.read in
    let old : Inlet = inlet (g.S.Source.left c.args.source.now) (g.S.Source.faults c.args.source.now) in
    let (piece, more) = c.in-Ok.ensures.turned c.args.link c.args.seat.now old read reading in
    record {
      some = omega (arith, c.in-Ok.ensures.within);
      seat = same_seats c.args.seat.now c.loop-count.seat c.turn.new.seat c.loop-count.invariant.seat c.turn.ensures.same_seat;
      opened = subst (λ l. HasOpened c.turn.new.seat l) c.loop-count.invariant.link c.turn.ensures.opened;
      link = c.turn.ensures.same_link ∙ c.loop-count.invariant.link;
      read = (read ++ piece, more);
    }

-- the input ended
pub returns-in-Err-clause-hears : goal.returns-in-Err-clause-hears
returns-in-Err-clause-hears g c =
    let (read, reading) = c.loop-count.invariant.read in
    let old : Inlet = inlet (g.S.Source.left c.args.source.now) (g.S.Source.faults c.args.source.now) in
    c.in-Err.ensures.turned c.args.link c.args.seat.now old read reading
