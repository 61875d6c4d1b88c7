-- A text that was judged, and the draft of its query.
use Rattle.std.specs.Prelude.{◌≡◌, ℕ, ◌≤◌, true, List, length}
use Rattle.sparql_algebra.specs.declared.algebra.Query.{Query}
use Rattle.sparql_text.specs.Lexing.{Placed, Lexes}
use Rattle.sparql_text.specs.Faults.{alone}
use Rattle.sparql_text.specs.Judging.{IsFine}
use Rattle.sparql_text.specs.Scope.{Scope}
use Rattle.sparql_read.specs.declared.draft.Draft.{Draft}
use Rattle.sparql_read.specs.declared.terms.Names.{Names}
use Rattle.sparql_read.specs.Scoped.{scope_in}
use Rattle.sparql_read.specs.Drafting.{blank_draft, drafted}

-- the text says a query with these names and declarations
abbrev pub IsSaidBy : List ℕ → Names → Type 0
IsSaidBy text names = (query : Query) × IsFine true text query (scope_in names).names (scope_in names).declarations

-- some tokens of the text made this draft, and these bytes are left
pub record AreDrafted (text left : List ℕ) (scope : Scope) (draft : Draft) : Type 0 where
  pub tokens : List Placed
  pub lexes : Lexes (length text) text tokens left
  pub within : length left ≤ length text
  pub made : draft ≡ drafted scope blank_draft (alone tokens)
