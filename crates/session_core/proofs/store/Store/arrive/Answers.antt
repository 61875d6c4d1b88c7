use Rattle.std.proofs.Common.{◌∙◌, ap, sym}
use Rattle.link_table.specs.Links.{changed, ended}
use Rattle.link_table.proofs.NoLinkOpensAgain.{OpensNone-ended}
use Rattle.session_core.specs.Queues.{with_links}
use Rattle.session_core.specs.Space.{Space}
use Rattle.session_core.specs.Steps.{delivered}
use Rattle.session_core.proofs.Changes.{ended-opened}
use Rattle.session_core.proofs.LinksKeepEntries.{stored_changed, space_changed}
use Rattle.session_core.proofs.store.Store.arrive.Goals as goal

pub invariant_of-self : goal.invariant_of-self
invariant_of-self g c =
    stored_changed _ _ _ _ _ c.self.inside.entries.items c.self.inside.links _ ended OpensNone-ended ended-opened c.args.link c.end.ensures c.self.invariant

pub returns-in-NotRequest-clause-space : goal.returns-in-NotRequest-clause-space
returns-in-NotRequest-clause-space g c =
    space_changed _ _ _ _ _ c.self.inside.entries.items c.self.inside.links _ ended OpensNone-ended c.args.link c.end.ensures
    ∙ ap (λ (s : Space). with_links s (changed ended s.links c.args.link)) c.self.view_is
    ∙ ap (delivered c.args.self.now c.args.link) (sym c.in-NotRequest.is)
