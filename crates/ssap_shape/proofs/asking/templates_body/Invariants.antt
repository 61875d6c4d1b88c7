-- The templates so far are spelled.
use Rattle.std.proofs.Common.{◌≡◌, take, map}
use Rattle.ssap_shape.specs.Asking.{template_triple}
use Rattle.ssap_shape.proofs.asking.templates_body.Given as goal

abbrev pub invariant-loop-template : goal.invariant-loop-template
invariant-loop-template l = l.triples ≡ map template_triple (take l.template-index l.template-items)
