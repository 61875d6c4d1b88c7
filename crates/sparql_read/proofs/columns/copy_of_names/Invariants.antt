use Rattle.std.proofs.Common.{◌≡◌, take}
use Rattle.sparql_text.specs.Naming.{texts}
use Rattle.sparql_read.proofs.columns.copy_of_names.Given as goal

abbrev pub invariant-names : goal.invariant-names
invariant-names l = l.copy ≡ texts (take l.name-index l.names)
