use Rattle.delta_eval.proofs.DifferencesLead.{difference_of, difference_leads}
use Rattle.delta_eval.proofs.laws.differences_lead.Goals as goal

pub returns : goal.returns
returns c old change new d = (difference_of old change new d, difference_leads old change new d)
