use Rattle.std.proofs.Common.{◌∙◌, ap, sym}
use Rattle.link_table.specs.Links.{state_of, open_links}
use Rattle.session_core.specs.Space.{Space}
use Rattle.session_core.specs.declared.call.Reply.TheVariants.{Done}
use Rattle.session_core.proofs.RingsAreOpenLinks.{delivered_rung}
use Rattle.session_core.proofs.SweepKeepsEntries.{swept_stored, swept_space}
use Rattle.session_core.proofs.store.Store.deliver.Goals as goal

pub invariant_of-self : goal.invariant_of-self
invariant_of-self g c =
    let s = c.self-in-Open.inside in
    swept_stored s.name s.joined.keys s.facts s.updates s.numbered s.links s.entries.items c.sweep.new.entries.items c.sweep.ensures c.self-in-Open.invariant

pub returns-in_ok-arrive-in-Open-clause-reply : goal.returns-in_ok-arrive-in-Open-clause-reply
returns-in_ok-arrive-in-Open-clause-reply g c =
    let h = ap (λ (s : Space). state_of s.links c.args.link) (sym c.self.view_is) ∙ sym c.in-Open.ensures in
    rw h (ap Done (delivered_rung c.args.self.now _ c.args.link c.args.arrived c.as_slice.result.now c.since.result
    (c.self-in-Open.view_is ∙ c.in_ok-arrive-in-Open.ensures.space)
    (c.as_slice.ensures.value ∙ c.in_ok-before-in-Open.ensures ∙ ap (λ (s : Space). open_links s.links) c.self.view_is) c.since.ensures))

pub returns-in_ok-arrive-in-Open-clause-space : goal.returns-in_ok-arrive-in-Open-clause-space
returns-in_ok-arrive-in-Open-clause-space g c =
    let s = c.self-in-Open.inside in
    let h = ap (λ (space : Space). state_of space.links c.args.link) (sym c.self.view_is) ∙ sym c.in-Open.ensures in
    rw h (swept_space s.name s.joined.keys s.facts s.updates s.numbered s.links s.entries.items c.sweep.new.entries.items c.sweep.ensures
    ∙ c.self-in-Open.view_is ∙ c.in_ok-arrive-in-Open.ensures.space)
