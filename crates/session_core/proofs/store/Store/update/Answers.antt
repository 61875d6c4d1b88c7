use Rattle.std.proofs.Common.{◌<◌, ◌≤◌, ◌+◌, ◌^◌, ◌∙◌, sym, ap, subst}
use Rattle.ssap_shape.specs.declared.request.Ask.TheVariants.{Update}
use Rattle.session_core.specs.Space.{Space}
use Rattle.session_core.specs.Numbers.{made}
use Rattle.session_core.specs.Reads.{update_cost}
use Rattle.session_core.specs.Ranks.{passed}
use Rattle.session_core.proofs.EntriesStay.{entries_sound}
use Rattle.session_core.proofs.LinksKeepEntries.{stored, IsStored}
use Rattle.session_core.proofs.UpdatesEnd.{prepared_space, prepared_stored, roomier_space, roomier_stored, update_reads, made_short, end_stored, end_space, on_err, ready_steps}
use Rattle.session_core.proofs.store.Store.update.Goals as goal

pub prepare_all-requires-clause-sound : goal.prepare_all-requires-clause-sound
prepare_all-requires-clause-sound g c =
    let s = c.self.inside in
    entries_sound s.facts s.links s.updates s.numbered s.entries.items (subst (λ (space : Space). space.updates < 2 ^ 62) (sym c.self.view_is) c.requires.few) c.self.invariant.1

pub invariant_of-self : goal.invariant_of-self
invariant_of-self g c =
    let s = c.self.inside in
    prepared_stored s.name s.joined.keys s.facts s.updates s.numbered s.links s.entries.items c.prepare_all.new.entries.items c.in_err-prepare_all.ensures.same c.self.invariant

pub returns-in_err-prepare_all-clause-err : goal.returns-in_err-prepare_all-clause-err
returns-in_err-prepare_all-clause-err g c =
    let s = c.self.inside in
    on_err c.from_residual-in_err-prepare_all.result
    (prepared_space s.name s.joined.keys s.facts s.updates s.numbered s.links s.entries.items c.prepare_all.new.entries.items c.in_err-prepare_all.ensures.same ∙ c.self.view_is)

pub returns-in_err-prepare_all-clause-cost : goal.returns-in_err-prepare_all-clause-cost
returns-in_err-prepare_all-clause-cost g c =
    let s = c.self.inside in
    let is = rw c.in-Some.is at c.in_ok-update.ensures.update in
    subst (λ (space : Space). c.prepare_all.new.steps ≤ c.args.steps.now + update_cost space c.args.remove.now c.args.insert.now) c.self.view_is
    (update_reads s.name s.joined.keys s.facts s.updates s.numbered s.links c.args.remove.now c.args.insert.now c.in-Some.update.draft c.in-Some.update.change is s.entries.items
    c.args.steps.now c.prepare.new.steps c.prepare_all.new.steps c.prepare.ensures.reads c.prepare_all.ensures.reads)

pub reserve_all-requires : goal.reserve_all-requires
reserve_all-requires g c =
    let s = c.self.inside in
    ready_steps s.links s.facts (made s.facts c.in-Some.update.draft c.in-Some.update.change) s.name s.entries.items c.prepare_all.new.entries.items c.in_ok-prepare_all.ensures.ready

pub invariant_of-self-in_err-reserve_all : goal.invariant_of-self-in_err-reserve_all
invariant_of-self-in_err-reserve_all g c =
    let s = c.self.inside in
    roomier_stored s.name s.joined.keys s.facts s.updates s.numbered s.links s.entries.items c.prepare_all.new.entries.items c.reserve_all.new.entries.items
    c.in_ok-prepare_all.ensures.same c.in_err-reserve_all.ensures.same c.self.invariant

pub returns-in_err-reserve_all-clause-err : goal.returns-in_err-reserve_all-clause-err
returns-in_err-reserve_all-clause-err g c =
    let s = c.self.inside in
    on_err c.from_residual-in_err-reserve_all.result
    (roomier_space s.name s.joined.keys s.facts s.updates s.numbered s.links s.entries.items c.prepare_all.new.entries.items c.reserve_all.new.entries.items
    c.in_ok-prepare_all.ensures.same c.in_err-reserve_all.ensures.same ∙ c.self.view_is)

pub returns-in_err-reserve_all-clause-cost : goal.returns-in_err-reserve_all-clause-cost
returns-in_err-reserve_all-clause-cost g c =
    let s = c.self.inside in
    let is = rw c.in-Some.is at c.in_ok-update.ensures.update in
    subst (λ (space : Space). c.prepare_all.new.steps ≤ c.args.steps.now + update_cost space c.args.remove.now c.args.insert.now) c.self.view_is
    (update_reads s.name s.joined.keys s.facts s.updates s.numbered s.links c.args.remove.now c.args.insert.now c.in-Some.update.draft c.in-Some.update.change is s.entries.items
    c.args.steps.now c.prepare.new.steps c.prepare_all.new.steps c.prepare.ensures.reads c.prepare_all.ensures.reads)

pub invariant_of-self-in_err-make : goal.invariant_of-self-in_err-make
invariant_of-self-in_err-make g c =
    let s = c.self.inside in
    subst (λ numbers. IsStored s.name s.joined.keys numbers s.updates s.numbered c.reserve_all.new.entries.items s.links) (sym c.in_err-make.ensures.err)
    (roomier_stored s.name s.joined.keys s.facts s.updates s.numbered s.links s.entries.items c.prepare_all.new.entries.items c.reserve_all.new.entries.items
    c.in_ok-prepare_all.ensures.same c.in_ok-reserve_all.ensures.same c.self.invariant)

pub returns-in_err-make-clause-err : goal.returns-in_err-make-clause-err
returns-in_err-make-clause-err g c =
    let s = c.self.inside in
    on_err c.from_residual-in_err-make.result
    (ap (λ numbers. stored s.name s.joined.keys numbers s.updates s.numbered c.reserve_all.new.entries.items s.links) c.in_err-make.ensures.err
    ∙ roomier_space s.name s.joined.keys s.facts s.updates s.numbered s.links s.entries.items c.prepare_all.new.entries.items c.reserve_all.new.entries.items
    c.in_ok-prepare_all.ensures.same c.in_ok-reserve_all.ensures.same ∙ c.self.view_is)

pub returns-in_err-make-clause-cost : goal.returns-in_err-make-clause-cost
returns-in_err-make-clause-cost g c =
    let s = c.self.inside in
    let is = rw c.in-Some.is at c.in_ok-update.ensures.update in
    subst (λ (space : Space). c.prepare_all.new.steps ≤ c.args.steps.now + update_cost space c.args.remove.now c.args.insert.now) c.self.view_is
    (update_reads s.name s.joined.keys s.facts s.updates s.numbered s.links c.args.remove.now c.args.insert.now c.in-Some.update.draft c.in-Some.update.change is s.entries.items
    c.args.steps.now c.prepare.new.steps c.prepare_all.new.steps c.prepare.ensures.reads c.prepare_all.ensures.reads)

pub tell_all-requires : goal.tell_all-requires
tell_all-requires g c =
    let s = c.self.inside in
    let is = rw c.in-Some.is at c.in_ok-update.ensures.update in
    made_short s.name s.joined.keys s.facts s.updates s.numbered s.links c.args.remove.now c.args.insert.now c.in-Some.update.draft c.in-Some.update.change is s.entries.items
    c.prepare_all.new.entries.items c.reserve_all.new.entries.items c.commit_all.new.entries.items c.self.invariant
    c.in_ok-prepare_all.ensures.ready c.in_ok-reserve_all.ensures.same c.commit_all.ensures
    (subst (λ (space : Space). space.updates < 2 ^ 62) (sym c.self.view_is) c.requires.few)

pub invariant_of-self-2 : goal.invariant_of-self-2
invariant_of-self-2 g c =
    let s = c.self.inside in
    let is = rw c.in-Some.is at c.in_ok-update.ensures.update in
    end_stored s.name s.joined.keys s.facts s.updates s.numbered s.links c.args.remove.now c.args.insert.now c.in-Some.update.draft c.in-Some.update.change is s.entries.items
    c.prepare_all.new.entries.items c.reserve_all.new.entries.items c.commit_all.new.entries.items c.self.invariant
    c.in_ok-prepare_all.ensures.ready c.in_ok-reserve_all.ensures.same c.commit_all.ensures
    c.args.link c.in_ok-due.due c.send_due.new.links c.tell_all.new.links c.tell_all.new.entries.items c.make.new.self
    c.in_ok-make.ensures.ok c.send_due.ensures c.tell_all.ensures.links c.tell_all.ensures.entries

pub returns-clause-space : goal.returns-clause-space
returns-clause-space g c =
    let s = c.self.inside in
    let is = rw c.in-Some.is at c.in_ok-update.ensures.update in
    end_space s.name s.joined.keys s.facts s.updates s.numbered s.links c.args.remove.now c.args.insert.now c.in-Some.update.draft c.in-Some.update.change is s.entries.items
    c.prepare_all.new.entries.items c.reserve_all.new.entries.items c.commit_all.new.entries.items c.self.invariant
    c.in_ok-prepare_all.ensures.ready c.in_ok-reserve_all.ensures.same c.commit_all.ensures
    c.args.link c.in_ok-due.due c.send_due.new.links c.tell_all.new.links c.tell_all.new.entries.items c.make.new.self
    c.in_ok-make.ensures.ok c.send_due.ensures c.tell_all.ensures.links c.tell_all.ensures.entries
    c.args.heads c.args.confirm c.in_ok-due.ensures
    ∙ ap (λ (space : Space). passed space c.args.link c.args.heads (Update c.args.remove.now c.args.insert.now c.args.confirm)) c.self.view_is

pub returns-clause-cost : goal.returns-clause-cost
returns-clause-cost g c =
    let s = c.self.inside in
    let is = rw c.in-Some.is at c.in_ok-update.ensures.update in
    subst (λ (space : Space). c.prepare_all.new.steps ≤ c.args.steps.now + update_cost space c.args.remove.now c.args.insert.now) c.self.view_is
    (update_reads s.name s.joined.keys s.facts s.updates s.numbered s.links c.args.remove.now c.args.insert.now c.in-Some.update.draft c.in-Some.update.change is s.entries.items
    c.args.steps.now c.prepare.new.steps c.prepare_all.new.steps c.prepare.ensures.reads c.prepare_all.ensures.reads)
