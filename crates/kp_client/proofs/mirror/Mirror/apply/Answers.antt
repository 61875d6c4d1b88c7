-- What nothing refuses may be folded, and the answer stays in order.
use Rattle.std.proofs.Common.{sym, ap}
use Rattle.kp_client.proofs.OneForm.{both_forms, may_fold, stays_sound}
use Rattle.kp_client.proofs.mirror.Mirror.apply.Goals as goal

pub fold-requires-clause-fits : goal.fold-requires-clause-fits
fold-requires-clause-fits c =
    may_fold c.args.self.now c.self.inside.answer c.args.subscription c.args.sequence c.args.difference.now
    (sym (ap (λ m. m.answer) c.self.view_is)) c.in-None.ensures c.requires.obsolete_order

pub invariant_of-self-2 : goal.invariant_of-self-2
invariant_of-self-2 c =
    let forms = both_forms c.args.self.now c.self.inside.answer c.args.subscription c.args.sequence c.args.difference.now
    (sym (ap (λ m. m.answer) c.self.view_is)) c.in-None.ensures
    in
    stays_sound c.self.inside.answer c.fold.new.self c.args.difference.now c.in-Ok.ensures.ok forms.1 c.self.invariant.0 c.self.invariant.1
    c.requires.added_full
