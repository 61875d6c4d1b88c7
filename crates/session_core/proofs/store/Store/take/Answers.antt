use Rattle.std.proofs.Common.{◌∙◌, ap, sym}
use Rattle.link_table.specs.Links.{pending_of, oldest, changed, taken}
use Rattle.link_table.proofs.NoLinkOpensAgain.{OpensNone-taken}
use Rattle.session_core.specs.Space.{Space}
use Rattle.session_core.specs.Queues.{with_links}
use Rattle.session_core.proofs.Changes.{taken-opened}
use Rattle.session_core.proofs.LinksKeepEntries.{stored_changed, space_changed}
use Rattle.session_core.proofs.OneOpensOrIsTaken.{taken_space}
use Rattle.session_core.proofs.store.Store.take.Goals as goal

pub invariant_of-self : goal.invariant_of-self
invariant_of-self c =
    stored_changed _ _ _ _ _ c.self.inside.entries.items c.self.inside.links _ taken OpensNone-taken taken-opened c.args.link c.take.ensures.rest c.self.invariant

pub returns-clause-space : goal.returns-clause-space
returns-clause-space c =
    let waits = ap (λ (s : Space). oldest (pending_of s.links c.args.link)) (sym c.self.view_is) ∙ sym c.in-Some.ensures.message in
    space_changed _ _ _ _ _ c.self.inside.entries.items c.self.inside.links _ taken OpensNone-taken c.args.link c.take.ensures.rest
    ∙ ap (λ (s : Space). with_links s (changed taken s.links c.args.link)) c.self.view_is
    ∙ sym (taken_space c.args.self.now c.args.link c.in-Some.message waits)
