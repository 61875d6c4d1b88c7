-- Both sides have the answer's form where the tests say so.
use Rattle.std.proofs.Common.{sym, ◌∙◌}
use Rattle.kp_client.proofs.OneForm.{forms_decide}
use Rattle.kp_client.proofs.mirror.Mirror.refusal.Goals as goal

pub conflict-requires-clause-obsolete : goal.conflict-requires-clause-obsolete
conflict-requires-clause-obsolete c = (forms_decide _ _).0 (sym c.have_one_form.ensures ∙ c.if-not-have_one_form.false)

pub conflict-requires-clause-added : goal.conflict-requires-clause-added
conflict-requires-clause-added c = (forms_decide _ _).0 (sym c.have_one_form-2.ensures ∙ c.if-not-have_one_form-2.false)
