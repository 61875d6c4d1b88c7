use Rattle.std.proofs.Common.{◌∙◌, ap, sym, length, refl}
use Rattle.link_table.specs.Links.{state_of, pending_of, changed, lost}
use Rattle.link_table.specs.declared.state.LinkState.TheVariants.{Ended, Overrun, Gone}
use Rattle.link_table.proofs.NoLinkOpensAgain.{OpensNone-lost}
use mathlib.Core.Logic.{⊎_elim}
use Rattle.session_core.specs.Space.{Space}
use Rattle.session_core.specs.Queues.{with_links}
use Rattle.session_core.specs.Steps.{Step}
use Rattle.session_core.specs.Ranks.{is_rung_since, ring_of}
use Rattle.session_core.specs.declared.call.Reply.TheVariants.{Done}
use Rattle.session_core.proofs.Changes.{lost-opened}
use Rattle.session_core.proofs.LinksKeepEntries.{stored_changed, space_changed}
use Rattle.session_core.proofs.Told.{told_changed, told_reply, lost_closed}
use Rattle.session_core.proofs.store.Store.lose.Goals as goal

pub invariant_of-self-in-Open : goal.invariant_of-self-in-Open
invariant_of-self-in-Open c =
    stored_changed _ _ _ _ _ c.self.inside.entries.items c.self.inside.links _ lost OpensNone-lost lost-opened c.args.link c.lose.ensures c.self.invariant

pub invariant_of-self-in-Ended : goal.invariant_of-self-in-Ended
invariant_of-self-in-Ended c =
    stored_changed _ _ _ _ _ c.self.inside.entries.items c.self.inside.links _ lost OpensNone-lost lost-opened c.args.link c.lose.ensures c.self.invariant

pub returns-in-Open-clause-reply : goal.returns-in-Open-clause-reply
returns-in-Open-clause-reply c =
    let h = ap (λ (s : Space). state_of s.links c.args.link) (sym c.self.view_is) ∙ sym c.state-state.ensures ∙ c.in-Open.is in
    let links = c.lose.ensures ∙ ap (λ (s : Space). changed lost s.links c.args.link) c.self.view_is in
    let waited = c.waiting-waited.ensures ∙ ap (λ (s : Space). length (pending_of s.links c.args.link)) c.self.view_is in
    rw h (told_reply c.args.self.now (with_links c.args.self.now (changed lost c.args.self.now.links c.args.link)) c.args.link c.waiting-waited.result _ h
    (told_changed lost c.args.self.now.links (changed lost c.args.self.now.links c.args.link) c.args.link h refl) waited
    (c.told.ensures ∙ ap (λ l. Done (ring_of (is_rung_since l c.args.link c.waiting-waited.result) c.args.link)) links))

pub returns-in-Open-clause-space : goal.returns-in-Open-clause-space
returns-in-Open-clause-space c =
    let h = ap (λ (s : Space). state_of s.links c.args.link) (sym c.self.view_is) ∙ sym c.state-state.ensures ∙ c.in-Open.is in
    rw h (space_changed _ _ _ _ _ c.self.inside.entries.items c.self.inside.links _ lost OpensNone-lost c.args.link c.lose.ensures
    ∙ ap (λ (s : Space). with_links s (changed lost s.links c.args.link)) c.self.view_is)

pub returns-in-Ended : goal.returns-in-Ended
returns-in-Ended c =
    let h = ap (λ (s : Space). state_of s.links c.args.link) (sym c.self.view_is) ∙ sym c.state-state.ensures in
    let done = ⊎_elim (λ e. lost_closed c.args.self.now c.args.link Ended (h ∙ e) refl (λ never. cc))
    (λ other. ⊎_elim (λ e. lost_closed c.args.self.now c.args.link Overrun (h ∙ e) refl (λ never. cc))
    (λ e. lost_closed c.args.self.now c.args.link Gone (h ∙ e) refl (λ never. cc)) other) c.in-Ended.is in
    record {
      reply = ap Done c.none.ensures ∙ sym (ap (λ (s : Step). s.reply) done);
      space = space_changed _ _ _ _ _ c.self.inside.entries.items c.self.inside.links _ lost OpensNone-lost c.args.link c.lose.ensures
          ∙ ap (λ (s : Space). with_links s (changed lost s.links c.args.link)) c.self.view_is ∙ sym (ap (λ (s : Step). s.space) done);
    }
