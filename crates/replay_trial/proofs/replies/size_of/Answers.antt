-- The length stands behind the space.
use Rattle.std.proofs.Common.{◌∷◌}
use Rattle.std.specs.Fmt.{decimal}
use Rattle.replay_trial.proofs.Headers.{link_lacks}
use Rattle.replay_trial.proofs.replies.size_of.Goals as goal

pub returns-clause-header : goal.returns-clause-header
returns-clause-header c link size is small =
    c.number.ensures size (c.cut.ensures.apart (60 ∷ decimal link) (decimal size) is (link_lacks link)).1 small
