use Rattle.session_core.proofs.SubscriptionsAreFollowed.{answers_are_followed}
use Rattle.session_core.proofs.laws.answers_are_followed.Goals as goal

pub returns : goal.returns
returns c = answers_are_followed
