use Rattle.std.proofs.Common.{◌∙◌, ap}
use Rattle.sparql_read.proofs.Places.{place_in_texts}
use Rattle.sparql_read.proofs.terms.variable_of.Goals as goal

pub returns : goal.returns
returns c = ap (λ n. record { 0 = n }) (c.place_of.ensures.value ∙ place_in_texts c.args.name.now c.args.names.variables.now)
