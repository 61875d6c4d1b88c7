use Rattle.std.proofs.Common.{ap}
use Rattle.session_core.specs.Numbers.{Numbers}
use Rattle.session_core.proofs.NumbersFollow.{draft_is}
use Rattle.session_core.proofs.facts.Facts.draft.Goals as goal

pub returns-in-Ok : goal.returns-in-Ok
returns-in-Ok c =
    draft_is c.self.inside.terms c.args.self.now c.args.wanted c.in-Ok.draft (ap (λ (numbers : Numbers). numbers.terms) c.self.view_is) c.self.invariant.0
    c.in-Ok.ensures.fresh c.in-Ok.ensures.draft c.in-Ok.ensures.named
