use Rattle.delta_eval.proofs.DifferencesLead.{leads_once, added_or_obsolete}
use Rattle.delta_eval.proofs.laws.changes_lead_once.Goals as goal

pub returns : goal.returns
returns c = record { apart = added_or_obsolete; once = leads_once }
