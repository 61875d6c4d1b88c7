-- What a text says is within the limits of queries.
use Rattle.std.specs.Prelude.{ℕ, Bool, List}
use Rattle.sparql_algebra.specs.declared.algebra.Query.{Query}
use Rattle.sparql_algebra.specs.Valid.{IsValid}
use Rattle.sparql_text.specs.Faults.{SaysWith}

-- what a text says is a valid query
abbrev pub SaidIsValid : Type 0
SaidIsValid = (distinct : Bool) (text : List ℕ) (query : Query) → SaysWith distinct text query → IsValid query
