use Rattle.std.proofs.Common.{◌∙◌, ap, sym, length}
use Rattle.session_core.specs.Numbers.{graph_of}
use Rattle.session_core.proofs.NumbersFollow.{graph_length}
use Rattle.session_core.proofs.facts.Facts.len.Goals as goal

pub returns : goal.returns
returns c = c.len.ensures.length ∙ sym (graph_length _ c.self.invariant.1) ∙ ap (λ numbers. length (graph_of numbers)) c.self.view_is
