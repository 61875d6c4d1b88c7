use Rattle.std.proofs.Common.{◌∙◌, ap}
use Rattle.session_core.specs.Space.{Space}
use Rattle.session_core.specs.Steps.{open_step}
use Rattle.session_core.proofs.OneOpensOrIsTaken.{opened_space, opened_kept, on_ok}
use Rattle.session_core.proofs.store.Store.open.Goals as goal

pub invariant_of-self-2 : goal.invariant_of-self-2
invariant_of-self-2 c =
    opened_kept _ _ _ _ _ c.self.inside.entries.items c.self.inside.links _ c.in_ok-number.field-0 c.in_ok-number.ensures.ok c.self.invariant

pub returns-clause-space : goal.returns-clause-space
returns-clause-space c = on_ok c.match-branch-2.result
    (opened_space _ _ _ _ _ c.self.inside.entries.items c.self.inside.links _ c.in_ok-number.field-0 c.in_ok-number.ensures.ok c.self.invariant
    ∙ ap (λ (s : Space). (open_step s).space) c.self.view_is)
