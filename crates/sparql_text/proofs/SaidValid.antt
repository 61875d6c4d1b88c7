-- What a text says is a valid query.
use Rattle.std.proofs.Common.{ℕ, Bool, List, [], length, refl, sym, ap, subst, Option, Some, None, arith}
use Rattle.std.specs.Prelude.{flat_map, nat_eq}
use Rattle.std.specs.List.{AllByRecursion}
use Rattle.sparql_algebra.specs.declared.var.Var.{Var}
use Rattle.sparql_algebra.specs.declared.algebra.Query.{Query}
use Rattle.sparql_algebra.specs.Valid.{IsNamed, IsValid}
use Rattle.sparql_text.specs.Tokens.{Token}
use Rattle.sparql_text.specs.Scope.{names_of, scope_of}
use Rattle.sparql_text.specs.Groups.{Group}
use Rattle.sparql_text.specs.Translation.{patterns_in, variables_of, columns_of}
use Rattle.sparql_text.specs.Queries.{IsQuery}
use Rattle.sparql_text.specs.Faults.{alone}
use Rattle.sparql_text.specs.Tallying.{blank}
use Rattle.sparql_text.specs.Validity.{SaidIsValid}
use Rattle.sparql_text.proofs.Tallied.{tally_counts}
use Rattle.sparql_text.proofs.Weights.{HasNamedGroup}
use Rattle.sparql_text.proofs.WithinLimits.{AreWithin, fine_are_within}
use Rattle.sparql_text.proofs.CountsKept.{algebra_weighs}
use Rattle.sparql_text.proofs.NamesKept.{algebra_named, patterns_named}
use Rattle.sparql_text.proofs.KnownVariables.{tokens_known, firsts_have, pattern_variables}
use Rattle.sparql_text.proofs.TalliedQueries.{HasNamedColumns, query_reads}

-- the columns have names, those behind SELECT or those of the triple patterns
columns_named : (names : ℕ) (columns : Option (List Var)) (group : Group) → HasNamedColumns names columns → HasNamedGroup names group
    → AllByRecursion (IsNamed names) (columns_of columns group)
columns_named names (Some vars) group c g = firsts_have (IsNamed names) (λ a b. nat_eq a.0 b.0) vars c
columns_named names None group c g =
    firsts_have (IsNamed names) (λ a b. nat_eq a.0 b.0) (flat_map variables_of (patterns_in group)) (pattern_variables names (patterns_in group) (patterns_named names group g))

-- a query of tokens whose counts are within their limits is valid
query_is_valid : (distinct : Bool) (tokens : List Token) (query : Query) → AreWithin tokens → IsQuery distinct query tokens → IsValid query
query_is_valid distinct tokens query within q =
    let read = (query_reads (scope_of tokens) distinct q.declarations q.columns q.group tokens [] q.reads).from blank refl in
    let has = read.has (tokens_known tokens) in
    let counts = tally_counts tokens in
    let weighs = algebra_weighs q.group in
    let o = ap (λ t. t.operators) read.ends in
    let c = ap (λ t. t.conditions) read.ends in
    let p = ap (λ t. t.patterns) read.ends in
    subst IsValid (sym q.is) (record {
      names = within.variables;
      columns = columns_named (length (names_of tokens)) q.columns q.group has.0 has.1;
      variables = algebra_named (length (names_of tokens)) q.group has.1;
      triples = omega (arith, weighs.patterns, read.patterns, p, counts.patterns, within.patterns);
      operators = omega (arith, weighs.operators, read.operators, o, counts.operators, within.operators);
      conditions = omega (arith, weighs.conditions, read.conditions, c, counts.conditions, within.conditions);
    })

-- what a text says is a valid query
pub said_is_valid : SaidIsValid
said_is_valid distinct text query says = query_is_valid distinct (alone says.tokens) query (fine_are_within says.tokens says.fine) says.reads
