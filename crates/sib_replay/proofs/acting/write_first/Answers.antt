use Rattle.std.proofs.Common.{◌∙◌, sym, arith, ℕ, [], append-nil}
use Rattle.std.proofs.lemmas.Result.{err_from_is_err_and}
use Rattle.session_core.specs.Space.{Space}
use Rattle.session_core.specs.declared.call.Call.TheVariants.{Take as Taking}
use Rattle.session_core.specs.Reads.{cost}
use Rattle.sib_replay.specs.Output.{message_lines}
use Rattle.sib_replay.proofs.DoingLemmas.{fault_more, fault_counted}
use Rattle.sib_replay.proofs.TakeLemmas.{first_taken}
use Rattle.sib_replay.proofs.acting.write_first.Goals as goal

-- the sink failed at the message, or there was no memory for the line before it
pub returns-in_err-write_message-clause-acts : goal.returns-in_err-write_message-clause-acts
returns-in_err-write_message-clause-acts g c =
    let space : Space = c.args.core.now.space in
    let link : ℕ = c.args.link in
    let p = err_from_is_err_and c.from_residual-in_err-write_message.result c.from_residual-in_err-write_message.ensures.1 in
    let lines = first_taken space link c.in-Message.taken c.requires.waits (sym c.in_ok-taken.ensures.reply ∙ c.in-Message.is) in
    rw (p.1, p.2) (fault_more _ _ _ (message_lines link c.in-Message.taken) [] _ (cost space (Taking link)) (cost space (Taking link))
    (fault_counted _ _ _ _ _ _ (cost space (Taking link)) _ (message_lines link c.in-Message.taken) c.in_err-write_message.ensures c.in_ok-taken.ensures.cost)
    (append-nil (message_lines link c.in-Message.taken) ∙ sym lines) (omega arith))
