use Rattle.std.proofs.Common.{◌∙◌, ap}
use Rattle.session_core.specs.Numbers.{Numbers, number_in}
use Rattle.session_core.proofs.NumbersMeanTerms.{number_is}
use Rattle.session_core.proofs.facts.Facts.number.Goals as goal

pub returns : goal.returns
returns c = number_is _ _ _ c.id_of.ensures.once c.id_of.ensures.id ∙ ap (λ (numbers : Numbers). number_in numbers.terms c.args.term.now) c.self.view_is
