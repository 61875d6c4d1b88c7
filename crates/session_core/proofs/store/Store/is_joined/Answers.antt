use Rattle.std.proofs.Common.{◌∙◌, ap}
use Rattle.session_core.specs.Space.{is_member}
use Rattle.session_core.proofs.Members.{any_alike}
use Rattle.session_core.proofs.store.Store.is_joined.Goals as goal

pub returns : goal.returns
returns c =
    c.contains.ensures ∙ any_alike c.args.node.now c.self.inside.joined.keys ∙ ap (λ s. is_member s c.args.node.now) c.self.view_is
