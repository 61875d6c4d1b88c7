use Rattle.std.proofs.Common.{sym, ◌∙◌}
use Rattle.sib_replay.proofs.DoingLemmas.{acts_beside}
use Rattle.sib_replay.proofs.SessionLemmas.{delivers_unended}
use Rattle.sib_replay.proofs.session.Session.end.Goals as goal

-- the link isn't open
pub returns-else-runs : goal.returns-else-runs
returns-else-runs g c name before s =
    delivers_unended name before c.args.self.now s c.args.link _ _ c.write_closed.result (sym c.runs.ensures ∙ c.if-runs.false)
    (acts_beside _ _ _ _ _ c.write_closed.result _ c.write_closed.ensures)
