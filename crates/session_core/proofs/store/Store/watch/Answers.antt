use Rattle.std.proofs.Common.{◌≡◌, ◌<◌, ◌+◌, ◌++◌, ◌∷◌, ◌∙◌, [], true, length, ap, sym, subst}
use Rattle.link_table.specs.Links.{is_open, state_of}
use Rattle.session_core.specs.Entries.{new_entry}
use Rattle.session_core.specs.Ranks.{subscribing}
use Rattle.session_core.specs.Space.{Space}
use Rattle.session_core.specs.Watches.{asked_of}
use Rattle.session_core.proofs.SubscriptionsAreAnswered.{moved_stored, moved_subscribing}
use Rattle.session_core.proofs.store.Store.watch.Goals as goal

pub invariant_of-self-in-Some-message : goal.invariant_of-self-in-Some-message
invariant_of-self-in-Some-message g c =
    let s = c.self.inside in
    let new = rw c.in-Some.is at c.in_ok-started.ensures.started in
    let opened = subst (λ (space : Space). is_open (state_of space.links c.args.link) ≡ true) (sym c.self.view_is) c.requires.open in
    let entries = c.in_ok-keep_started-in-Some-message.ensures.entries
    ∙ ap (λ heads. s.entries.items ++ new_entry (s.numbered + 1) c.args.link heads c.in-Some.started.watch ∷ []) c.in-Ok.ensures.heads in
    moved_stored c.tables_may_grow.ensures s.name s.joined.keys s.facts s.updates s.numbered s.entries.items s.links c.self.invariant c.in_ok-keep_started-in-Some-message.ensures.numbers
    c.args.link opened c.args.heads (asked_of c.args.asked) c.in-Some.started.draft c.in-Some.started.watch new c.in-Some-message.message c.send.new.self c.send.ensures
    c.keep_started.new.facts c.keep_started.new.entries.items c.in_ok-keep_started-in-Some-message.ensures.facts entries

pub returns-in_ok-keep_started-in-Some-message-clause-space : goal.returns-in_ok-keep_started-in-Some-message-clause-space
returns-in_ok-keep_started-in-Some-message-clause-space g c =
    let s = c.self.inside in
    let new = rw c.in-Some.is at c.in_ok-started.ensures.started in
    let opened = subst (λ (space : Space). is_open (state_of space.links c.args.link) ≡ true) (sym c.self.view_is) c.requires.open in
    let entries = c.in_ok-keep_started-in-Some-message.ensures.entries
    ∙ ap (λ heads. s.entries.items ++ new_entry (s.numbered + 1) c.args.link heads c.in-Some.started.watch ∷ []) c.in-Ok.ensures.heads in
    let few = subst (λ n. n < 256) (c.living.ensures ∙ sym (ap (λ (space : Space). length space.subscriptions) c.self.view_is)) c.if-living-ge-SUBSCRIPTION_LIMIT.false in
    let said = rw c.in-Some-message.is at c.in-Ok.ensures.message in
    moved_subscribing c.tables_may_grow.ensures s.name s.joined.keys s.facts s.updates s.numbered s.entries.items s.links c.self.invariant c.in_ok-keep_started-in-Some-message.ensures.numbers
    c.args.link opened c.args.heads (asked_of c.args.asked) c.in-Some.started.draft c.in-Some.started.watch new c.in-Some-message.message c.send.new.self c.send.ensures
    c.keep_started.new.facts c.keep_started.new.entries.items c.in_ok-keep_started-in-Some-message.ensures.facts entries few said
    ∙ ap (λ (space : Space). subscribing space c.args.link c.args.heads (asked_of c.args.asked)) c.self.view_is
