use Rattle.sib_replay.proofs.FollowedLemmas.{subscriptions_followed, changes_written}
use Rattle.sib_replay.proofs.laws.subscriptions_are_followed.Goals as goal

pub returns-clause-followed : goal.returns-clause-followed
returns-clause-followed c = subscriptions_followed

pub returns-clause-written : goal.returns-clause-written
returns-clause-written c = changes_written
