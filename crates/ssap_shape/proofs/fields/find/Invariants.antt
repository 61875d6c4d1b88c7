-- What is found is found among the parameters so far.
use Rattle.std.proofs.Common.{take}
use Rattle.ssap_shape.specs.Told.{all_named}
use Rattle.ssap_shape.specs.Fields.{IsOnly}
use Rattle.ssap_shape.proofs.fields.find.Given as goal

abbrev pub invariant-loop-param : goal.invariant-loop-param
invariant-loop-param l = IsOnly (all_named (take l.param-index l.param-items) l.name) l.found
