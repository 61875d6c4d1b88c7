-- Elsewhere than in a delivery's own bytes nothing is taken.
use Rattle.sib_script.proofs.Steps.{leads_nowhere, leads_filled}
use Rattle.sib_script.proofs.step.fill.Goals as goal

pub returns-in_default : goal.returns-in_default
returns-in_default c = record {
  leads = leads_nowhere c.args.step c.args.piece.now.items c.args.bytes.now c.in_default.not-Inside;
  unchanged = tt;
  wanted = tt;
}

pub returns-clause-leads : goal.returns-clause-leads
returns-clause-leads c h =
    let i = c.in-Inside in
    let e = c.in_ok-extend_from_slice.ensures in
    leads_filled c.args.step c.piece_step.result i.link i.left c.min-count.result c.args.piece.now.items c.extend_from_slice.new.self.items c.args.bytes.now i.is c.min-count.ensures e.items c.piece_step.ensures
