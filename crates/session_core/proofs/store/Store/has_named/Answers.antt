-- A living entry is named exactly where a subscription is.
use Rattle.std.proofs.Common.{◌∙◌, ◌&&◌, ap}
use Rattle.std.specs.List.{list_any}
use Rattle.std.specs.Str.{bytes_eq}
use Rattle.session_core.specs.Entries.{is_living}
use Rattle.session_core.specs.Space.{Space}
use Rattle.session_core.specs.Subscriptions.{is_named}
use Rattle.session_core.specs.declared.entry.Entry.{Entry}
use Rattle.session_core.proofs.SubscriptionsAreKept.{named_living}
use Rattle.session_core.proofs.store.Store.has_named.Goals as goal

pub returns : goal.returns
returns c =
    let s = c.self.inside in
    let named = λ (entry : Entry). is_living s.links entry && (bytes_eq entry.node c.args.node.now && bytes_eq entry.digits c.args.text.now) in
    c.has_living.ensures ∙ ap (list_any named) c.as_slice.ensures.value
    ∙ named_living s.facts s.links s.updates s.numbered c.args.node.now c.args.text.now s.entries.items (λ entry there. (c.self.invariant.1.each entry there).digits)
    ∙ ap (λ (space : Space). list_any (is_named c.args.node.now c.args.text.now) space.subscriptions) c.self.view_is
