-- The triples so far are spelled.
use Rattle.std.proofs.Common.{take}
use Rattle.std.specs.List.{AllZip}
use Rattle.ssap_shape.specs.Templates.{IsTemplateOf}
use Rattle.ssap_shape.proofs.templates.templates.Given as goal

abbrev pub invariant-loop-triple : goal.invariant-loop-triple
invariant-loop-triple l = AllZip IsTemplateOf (take l.triple-index l.triple-items) l.templates
