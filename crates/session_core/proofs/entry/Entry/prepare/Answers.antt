use Rattle.session_core.proofs.RoomIsMade.{entry_self, entry_with}
use Rattle.session_core.proofs.entry.Entry.prepare.Goals as goal

pub returns-in_err-prepare-clause-same : goal.returns-in_err-prepare-clause-same
returns-in_err-prepare-clause-same g c = entry_self c.args.self.now

pub returns-in_err-farewell-in-Wide-clause-same : goal.returns-in_err-farewell-in-Wide-clause-same
returns-in_err-farewell-in-Wide-clause-same g c = entry_self c.args.self.now

pub returns-in_err-self-in-Differs-clause-same : goal.returns-in_err-self-in-Differs-clause-same
returns-in_err-self-in-Differs-clause-same g c = entry_self c.args.self.now

pub returns-in_ok-farewell-in-Wide-clause-same : goal.returns-in_ok-farewell-in-Wide-clause-same
returns-in_ok-farewell-in-Wide-clause-same g c = entry_with c.args.self.now _ _

pub returns-in-Same-clause-same : goal.returns-in-Same-clause-same
returns-in-Same-clause-same g c = entry_with c.args.self.now _ _

pub returns-in_ok-self-in-Differs-clause-same : goal.returns-in_ok-self-in-Differs-clause-same
returns-in_ok-self-in-Differs-clause-same g c = entry_with c.args.self.now _ _
