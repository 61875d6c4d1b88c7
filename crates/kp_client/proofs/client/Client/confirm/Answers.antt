-- The confirm is the awaited one, or it is not.
use Rattle.std.proofs.Common.{◌≡◌, Some, None, Err, subst}
use Rattle.kp_client.specs.declared.fault.Awaited.{Awaited}
use Rattle.kp_client.specs.declared.fault.ClientFault.TheVariants.{Unexpected}
use Rattle.kp_client.specs.Asked.{Asking, is_awaited, heads_for, TakesConfirm}
use Rattle.kp_client.proofs.TakenConfirms.{stray_taken, awaited_taken}
use Rattle.kp_client.proofs.client.Client.confirm.Goals as goal

pub returns-then-not-is_answered : goal.returns-then-not-is_answered
returns-then-not-is_answered c =
    subst (λ (old : Asking). (awaited : Awaited) → old.awaited ≡ Some awaited
    → TakesConfirm (is_awaited (heads_for old awaited) c.args.confirm.heads) old awaited c.args.confirm (Err (Unexpected c.awaited-want.result c.args.confirm.heads)) old)
    c.self.view_is
    (stray_taken _ c.in-Some.waiting c.awaited-want.result c.args.confirm c.in-Some.is c.awaited-want.ensures c.if-not-is_answered.ensures)

pub returns : goal.returns
returns c =
    subst (λ (old : Asking). (awaited : Awaited) → old.awaited ≡ Some awaited
    → TakesConfirm (is_awaited (heads_for old awaited) c.args.confirm.heads) old awaited c.args.confirm c.told.result
    (record { space = c.self.inside.space; node = c.self.inside.node; made = c.self.inside.made; awaited = None }))
    c.self.view_is
    (awaited_taken _ c.in-Some.waiting c.args.confirm c.told.result c.in-Some.is c.told.ensures c.if-not-is_answered.ensures)
