use Rattle.std.proofs.Common.{rules}
use Rattle.std.proofs.lemmas.Fn.{filter_same}
use Rattle.session_core.specs.Entries.{is_living as lives}
use Rattle.session_core.proofs.telling.sweep.Goals as goal

pub returns : goal.returns
returns c = filter_same _ (lives c.args.links.now) _ (λ x b g k. search rules) _ _ c.retain.ensures.filtered
