use Rattle.std.proofs.Common.{sym, subst}
use Rattle.sib_replay.specs.Session.{IsDrained}
use Rattle.sib_replay.proofs.CallLemmas.{end_leaves}
use Rattle.sib_replay.proofs.hearing.refuse.Goals as goal

-- no message waits then
pub returns-clause-drained : goal.returns-clause-drained
returns-clause-drained g c = subst IsDrained (sym c.in_ok-act.ensures.space) (end_leaves c.args.core.now.space c.args.link c.requires.drained).drained
