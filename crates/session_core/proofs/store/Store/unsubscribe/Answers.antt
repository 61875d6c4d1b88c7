use Rattle.std.proofs.Common.{◌∙◌, ap, refl}
use Rattle.ssap_shape.specs.declared.request.Ask.TheVariants as asks
use Rattle.session_core.specs.Space.{Space}
use Rattle.session_core.specs.Ranks.{passed}
use Rattle.session_core.proofs.EndsArePassed.{on_any_err, stored_prepared, space_prepared, kept_after, space_after_unsubscribe}
use Rattle.session_core.proofs.store.Store.unsubscribe.Goals as goal

pub invariant_of-self : goal.invariant_of-self
invariant_of-self c =
    stored_prepared _ c.self.inside.joined.keys c.self.inside.facts c.self.inside.updates c.self.inside.numbered c.self.inside.links c.self.inside.entries.items c.prepare_ends.new.entries.items
    c.prepare_ends.ensures.same c.self.invariant

pub returns-in_err-prepare_ends-clause-err : goal.returns-in_err-prepare_ends-clause-err
returns-in_err-prepare_ends-clause-err c =
    on_any_err c.from_residual-in_err-prepare_ends.result _
    (space_prepared _ c.self.inside.joined.keys c.self.inside.facts c.self.inside.updates c.self.inside.numbered c.self.inside.links c.self.inside.entries.items c.prepare_ends.new.entries.items
    c.prepare_ends.ensures.same ∙ c.self.view_is)

pub invariant_of-self-2 : goal.invariant_of-self-2
invariant_of-self-2 c =
    kept_after _ c.self.inside.joined.keys c.self.inside.facts c.self.inside.updates c.self.inside.numbered c.self.inside.links c.self.inside.entries.items c.prepare_ends.new.entries.items
    _ c.in_ok-prepare_ends.ensures.ready c.args.link _ _ _ c.tell_ends.new.links _ c.end_all.ensures c.tell_ends.ensures.entries c.send.ensures c.tell_ends.ensures.links
    _ c.self.invariant.0.joined c.self.invariant

pub returns-clause-space : goal.returns-clause-space
returns-clause-space c =
    space_after_unsubscribe _ c.self.inside.joined.keys c.self.inside.facts c.self.inside.updates c.self.inside.numbered c.self.inside.links c.self.inside.entries.items c.prepare_ends.new.entries.items
    _ c.in_ok-prepare_ends.ensures.ready c.args.link _ _ _ c.tell_ends.new.links _ c.end_all.ensures c.tell_ends.ensures.entries c.send.ensures c.tell_ends.ensures.links
    c.args.heads c.bare-confirm.result c.bare-confirm.ensures c.in_ok-message.ensures
    c.args.text.now (λ entry. refl) c.self.invariant.1
    ∙ ap (λ (s : Space). passed s c.args.link c.args.heads (asks.Unsubscribe c.args.text.now)) c.self.view_is
