-- The scope that the code's names are.
use Rattle.sparql_read.specs.declared.terms.Names.{Names}
use Rattle.sparql_text.specs.Scope.{Scope}
use Rattle.sparql_text.specs.Naming.{texts, declarations}

-- the names of the variables and the declarations that are pointed to
abbrev pub scope_in : Names → Scope
scope_in names = record { names = texts names.variables.now; declarations = declarations names.declared.now }
