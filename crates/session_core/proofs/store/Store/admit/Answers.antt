use Rattle.std.proofs.Common.{◌∙◌, ap}
use Rattle.session_core.specs.Space.{Space, with_node}
use Rattle.session_core.specs.contracts.store.Store.{the_view}
use Rattle.session_core.proofs.Members.{space_joined}
use Rattle.session_core.proofs.store.Store.admit.Goals as goal

pub returns-clause-space : goal.returns-clause-space
returns-clause-space c =
    space_joined (the_view c.self.inside) c.args.node _ c.self.invariant.0.joined c.in_ok-insert.ensures.keys ∙ ap (λ (s : Space). with_node s c.args.node) c.self.view_is
