use Rattle.std.proofs.Common.{◌∙◌, ap, sym, length, refl}
use Rattle.link_table.specs.Links.{state_of, pending_of, changed, ended}
use Rattle.link_table.proofs.NoLinkOpensAgain.{OpensNone-ended}
use Rattle.session_core.specs.Space.{Space}
use Rattle.session_core.specs.Queues.{with_links}
use Rattle.session_core.specs.Ranks.{is_rung_since, ring_of}
use Rattle.session_core.specs.declared.call.Reply.TheVariants.{Done}
use Rattle.session_core.proofs.Changes.{ended-opened}
use Rattle.session_core.proofs.LinksKeepEntries.{stored_changed, space_changed}
use Rattle.session_core.proofs.Told.{told_changed, told_reply}
use Rattle.session_core.proofs.store.Store.end.Goals as goal

pub invariant_of-self : goal.invariant_of-self
invariant_of-self c =
    stored_changed _ _ _ _ _ c.self.inside.entries.items c.self.inside.links _ ended OpensNone-ended ended-opened c.args.link c.end.ensures c.self.invariant

pub returns-in-Open-clause-reply : goal.returns-in-Open-clause-reply
returns-in-Open-clause-reply c =
    let h = ap (λ (s : Space). state_of s.links c.args.link) (sym c.self.view_is) ∙ sym c.in-Open.ensures in
    let links = c.end.ensures ∙ ap (λ (s : Space). changed ended s.links c.args.link) c.self.view_is in
    let waited = c.waiting-waited.ensures ∙ ap (λ (s : Space). length (pending_of s.links c.args.link)) c.self.view_is in
    rw h (told_reply c.args.self.now (with_links c.args.self.now (changed ended c.args.self.now.links c.args.link)) c.args.link c.waiting-waited.result _ h
    (told_changed ended c.args.self.now.links (changed ended c.args.self.now.links c.args.link) c.args.link h refl) waited
    (c.told.ensures ∙ ap (λ l. Done (ring_of (is_rung_since l c.args.link c.waiting-waited.result) c.args.link)) links))

pub returns-in-Open-clause-space : goal.returns-in-Open-clause-space
returns-in-Open-clause-space c =
    let h = ap (λ (s : Space). state_of s.links c.args.link) (sym c.self.view_is) ∙ sym c.in-Open.ensures in
    rw h (space_changed _ _ _ _ _ c.self.inside.entries.items c.self.inside.links _ ended OpensNone-ended c.args.link c.end.ensures
    ∙ ap (λ (s : Space). with_links s (changed ended s.links c.args.link)) c.self.view_is)
