use Rattle.std.proofs.Common.{◌≡◌, ◌∙◌, ap, refl, arith, ℕ, ◌+◌, ◌++◌, List, Option}
use Rattle.std.specs.List.{flat_map}
use Rattle.std.proofs.lemmas.Result.{err_from_is_err_and}
use Rattle.link_table.specs.Links.{pending_of, state_of}
use Rattle.session_core.specs.Space.{Space}
use Rattle.session_core.specs.Reads.{costs}
use Rattle.sib_replay.specs.Output.{message_lines, stop_lines, stop_at}
use Rattle.sib_replay.specs.Session.{reason_in}
use Rattle.sib_replay.specs.declared.why.Why.{Why}
use Rattle.sib_replay.proofs.DoingLemmas.{fault_more, acts_as, acts_after, acts_beside}
use Rattle.sib_replay.proofs.TakeLemmas.{all_of}
use Rattle.sib_replay.proofs.acting.write_link.Goals as goal

-- a fault came among the messages
pub returns-in_err-write_messages-clause-acts : goal.returns-in_err-write_messages-clause-acts
returns-in_err-write_messages-clause-acts g c =
    let space : Space = c.args.core.now.space in
    let link : ℕ = c.args.link in
    let p = err_from_is_err_and c.from_residual.result c.from_residual.ensures.1 in
    rw (p.1, p.2) (fault_more _ _ _ (flat_map (message_lines link) (pending_of space.links link)) (stop_lines link (stop_at (state_of space.links link) (reason_in c.args.reason link))) _
    (costs space (all_of space link)) (costs space (all_of space link)) c.in_err-write_messages.ensures.acts refl (omega arith))

-- the line of a stop came behind the messages
pub returns-clause-acts : goal.returns-clause-acts
returns-clause-acts g c =
    let space : Space = c.args.core.now.space in
    let link : ℕ = c.args.link in
    let messages : List ℕ = flat_map (message_lines link) (pending_of space.links link) in
    let why : c.why_stopped-stop.result ≡ stop_at (state_of space.links link) (reason_in c.args.reason link) =
    c.why_stopped-stop.ensures ∙ ap (λ k. stop_at k (reason_in c.args.reason link)) c.link_state.ensures
    in
    acts_as _ _ c.write_stop.result (messages ++ stop_lines link c.why_stopped-stop.result) _ (costs space (all_of space link) + 0) (costs space (all_of space link))
    (ap (λ (s : Option Why). messages ++ stop_lines link s) why) (omega arith)
    (acts_after _ _ _ c.write_stop.result messages (stop_lines link c.why_stopped-stop.result) (costs space (all_of space link)) 0 c.in_ok-write_messages.ensures.acts
    (acts_beside _ _ _ _ _ c.write_stop.result _ c.write_stop.ensures))
