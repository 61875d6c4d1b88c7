use Rattle.std.proofs.Common.{◌≡◌, OnOk, sym, subst}
use Rattle.session_core.proofs.Decided.{delivered_refused, delivered_passed}
use Rattle.session_core.proofs.store.Store.request.Goals as goal

pub returns-in-Some-clause-space : goal.returns-in-Some-clause-space
returns-in-Some-clause-space g c =
    subst (λ s. OnOk c.answer.result (c.answer.new.self ≡ s))
    (sym (delivered_refused c.args.self.now c.args.link c.args.request c.in-Some.status (sym c.in-Some.ensures)))
    c.answer.ensures.space

pub returns-in-None-clause-space : goal.returns-in-None-clause-space
returns-in-None-clause-space g c =
    subst (λ s. OnOk c.pass.result (c.pass.new.self ≡ s))
    (sym (delivered_passed c.args.self.now c.args.link c.args.request.heads c.args.request.ask (sym c.in-None.ensures)))
    c.pass.ensures.space
