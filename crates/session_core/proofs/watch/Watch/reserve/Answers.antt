use Rattle.std.proofs.Common.{sym, subst}
use Rattle.session_core.specs.Watches.{HaveNumbers}
use Rattle.session_core.proofs.watch.Watch.reserve.Goals as goal

pub returns-clause-leads : goal.returns-clause-leads
returns-clause-leads c numbers leads = record {
  step_of = c.reserve.ensures.step;
  after = λ standing is. leads.after standing (c.room_may_change.ensures.steps c.args.self.now.standing c.reserve.new.self c.args.step.now standing c.reserve.ensures.rows is);
  numbered = subst (HaveNumbers numbers.terms c.args.self.now.templates) (sym c.reserve.ensures.rows.wanted) leads.numbered;
}
