-- Each parameter is of texts.
use Rattle.ssap_shape.proofs.AskedSayable.{requests_sayable}
use Rattle.ssap_shape.proofs.laws.requests_are_sayable.Goals as goal

pub returns : goal.returns
returns c = requests_sayable
