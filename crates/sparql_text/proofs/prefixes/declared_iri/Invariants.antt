use Rattle.std.proofs.Common.{◌≡◌, ◌≤◌, length, take}
use Rattle.sparql_text.specs.Scope.{iri_of}
use Rattle.sparql_text.specs.Naming.{declarations}
use Rattle.sparql_text.proofs.prefixes.declared_iri.Given as goal

abbrev pub invariant-declared : goal.invariant-declared
invariant-declared l = record {
  within : l.count ≤ length l.declared;
  others : iri_of (declarations l.declared) l.prefix ≡ iri_of (declarations (take l.count l.declared)) l.prefix;
}

abbrev pub decreases-declared : goal.decreases-declared
decreases-declared l = l.count
