use Rattle.std.proofs.Common.{◌≡◌, ◌∙◌, ap, sym, subst, arith, inr, ℕ, [], Option, append-nil}
use Rattle.std.proofs.lemmas.Result.{err_from_is_err_and}
use Rattle.session_core.specs.Space.{Space}
use Rattle.session_core.specs.Steps.{Step, step}
use Rattle.session_core.specs.Reads.{costs}
use Rattle.session_core.specs.declared.call.Call.TheVariants.{Deliver}
use Rattle.sib_replay.specs.Output.{Arrives, calls_at, reply_lines, event_lines}
use Rattle.sib_replay.specs.Session.{IsDrained, reason_in}
use Rattle.sib_replay.specs.declared.acting.Reason.{Reason}
use Rattle.sib_replay.specs.declared.why.Why.{Why}
use Rattle.sib_replay.proofs.CallLemmas.{deliver_leaves}
use Rattle.sib_replay.proofs.DoingLemmas.{does_as, fault_more}
use Rattle.sib_replay.proofs.HearingLemmas.{reasons_same}
use Rattle.sib_replay.proofs.hearing.take_message.Goals as goal

-- no message waits then
pub returns-clause-drained : goal.returns-clause-drained
returns-clause-drained g c = subst IsDrained (sym c.in_ok-act.ensures.space) (deliver_leaves c.args.core.now.space c.args.link c.in_ok-arrived.arrived c.requires.drained).drained

-- the message was taken
pub returns-clause-taken : goal.returns-clause-taken
returns-clause-taken g c =
    let space : Space = c.args.core.now.space in
    let arrived = c.in_ok-arrived.arrived in
    let next : Step = step space (Deliver c.args.link arrived) in
    let rows : ℕ = costs space (calls_at space (Arrives c.args.link c.args.framed.start arrived)) in
    let lines : reply_lines (reason_in c.reason_of-reason.result) next.space next.reply ≡ event_lines space (Arrives c.args.link c.args.framed.start arrived) =
    ap (λ (o : Option Reason). reply_lines (reason_in o) next.space next.reply) c.reason_of-reason.ensures
    ∙ ap (λ (f : ℕ → Option Why). reply_lines f next.space next.reply) (reasons_same c.args.link c.args.framed.start arrived)
    in
    (arrived, c.in_ok-arrived.ensures, c.in_ok-act.ensures.space, c.runs.ensures, does_as _ _ _ _ rows rows lines (omega arith) c.in_ok-act.ensures.acts)

-- a fault came at what follows from it
pub returns-in_err-act-clause-taken : goal.returns-in_err-act-clause-taken
returns-in_err-act-clause-taken g c =
    let space : Space = c.args.core.now.space in
    let arrived = c.in_ok-arrived.arrived in
    let next : Step = step space (Deliver c.args.link arrived) in
    let rows : ℕ = costs space (calls_at space (Arrives c.args.link c.args.framed.start arrived)) in
    let lines : reply_lines (reason_in c.reason_of-reason.result) next.space next.reply ≡ event_lines space (Arrives c.args.link c.args.framed.start arrived) =
    ap (λ (o : Option Reason). reply_lines (reason_in o) next.space next.reply) c.reason_of-reason.ensures
    ∙ ap (λ (f : ℕ → Option Why). reply_lines f next.space next.reply) (reasons_same c.args.link c.args.framed.start arrived)
    in
    let part = fault_more _ _ _ _ [] _ rows rows c.in_err-act.ensures.acts (append-nil (reply_lines (reason_in c.reason_of-reason.result) next.space next.reply) ∙ lines) (omega arith) in
    let p = err_from_is_err_and c.from_residual-in_err-act.result c.from_residual-in_err-act.ensures.1 in
    rw (p.1, p.2) (inr (arrived, c.in_ok-arrived.ensures, part.0, part.1))
