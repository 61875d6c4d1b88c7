use Rattle.session_core.proofs.OnlyTheirLinksChange.{other_links_stay}
use Rattle.session_core.proofs.laws.other_links_stay.Goals as goal

pub returns : goal.returns
returns c = other_links_stay
