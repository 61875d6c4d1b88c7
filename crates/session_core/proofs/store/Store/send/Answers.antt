use Rattle.std.proofs.Common.{◌∙◌, ap}
use Rattle.link_table.specs.Links.{changed, sent}
use Rattle.link_table.proofs.NoLinkOpensAgain.{OpensNone-sent}
use Rattle.session_core.specs.Queues.{with_links}
use Rattle.session_core.specs.Space.{Space}
use Rattle.session_core.proofs.Changes.{sent-opened}
use Rattle.session_core.proofs.LinksKeepEntries.{stored_changed, space_changed}
use Rattle.session_core.proofs.store.Store.send.Goals as goal

pub invariant_of-self : goal.invariant_of-self
invariant_of-self c =
    stored_changed _ _ _ _ _ c.self.inside.entries.items c.self.inside.links _ (sent c.args.message) (OpensNone-sent c.args.message) (sent-opened c.args.message) c.args.link c.send.ensures c.self.invariant

pub returns : goal.returns
returns c =
    space_changed _ _ _ _ _ c.self.inside.entries.items c.self.inside.links _ (sent c.args.message) (OpensNone-sent c.args.message) c.args.link c.send.ensures
    ∙ ap (λ (s : Space). with_links s (changed (sent c.args.message) s.links c.args.link)) c.self.view_is
