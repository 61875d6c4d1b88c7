-- What a text says, and why it says nothing.
use Rattle.std.specs.Prelude.{◌≡◌, ◌≢◌, ℕ, Bool, true, false, List, [], ◌∷◌, ◌++◌, Some, None, length, map}
use Rattle.std.specs.List.{last_or}
use Rattle.sparql_algebra.specs.declared.algebra.Query.{Query}
use Rattle.sparql_text.specs.declared.fault.ReadFault.{ReadFault}
use Rattle.sparql_text.specs.declared.fault.ReadFault.TheVariants as fault
use Rattle.sparql_text.specs.declared.fault.Limit.{Limit}
use Rattle.sparql_text.specs.declared.word.Word.TheVariants as word
use Rattle.sparql_text.specs.Tokens.{Token, Name, Fixed}
use Rattle.sparql_text.specs.Lexing.{Placed, BeginsWith, AreTokens, StopsAt}
use Rattle.sparql_text.specs.Scope.{declarations_of, iri_of}
use Rattle.sparql_text.specs.Queries.{IsQuery, IsViable}
use Rattle.sparql_text.specs.Counts.{passed}

-- behind others a token uses a prefix that they do not declare; behind PREFIX it declares one
abbrev pub IsUndeclared : List Token → Token → Type 0
IsUndeclared before (Name prefix local) = (last_or None before ≢ Some (Fixed word.Prefix)) × (iri_of (declarations_of before) prefix ≡ None)
IsUndeclared before other = ⊥

-- behind others a token is in the profile: it continues a query, and its prefix is declared
pub record IsInProfile (before : List Token) (token : Token) : Type 0 where
  pub viable : IsViable (before ++ token ∷ [])
  pub declared : ¬ (IsUndeclared before token)

-- each token behind these is in the profile and passes no count
pub data AreFine : List Token → List Placed → Type 0 where
  NoMore : (before : List Token) → AreFine before []
  Fine : (before : List Token) (placed : Placed) (tokens : List Placed) → IsInProfile before placed.token → passed before placed.token ≡ None
      → AreFine (before ++ placed.token ∷ []) tokens → AreFine before (placed ∷ tokens)

-- the tokens alone
abbrev pub alone : List Placed → List Token
alone tokens = map (λ placed. placed.token) tokens

-- what the text says, which is whole or lacks the word DISTINCT alone
pub record SaysWith (distinct : Bool) (text : List ℕ) (query : Query) : Type 0 where
  pub tokens : List Placed
  pub are : AreTokens text tokens
  pub fine : AreFine [] tokens
  pub reads : IsQuery distinct query (alone tokens)

-- the text says the query: its tokens form it, and none of them faults
abbrev pub Says : List ℕ → Query → Type 0
Says text query = SaysWith true text query

-- the first token of the text that faults, and those before it
pub record Faults (text : List ℕ) (before : List Placed) (placed : Placed) : Type 0 where
  pub begins : BeginsWith text (before ++ placed ∷ [])
  pub fine : AreFine [] before

-- why the text says nothing
pub data Refuses (text : List ℕ) : ReadFault → Type 0 where
  -- a token continues no query, or its prefix is not declared
  NotInProfile : (before : List Placed) (placed : Placed) → Faults text before placed → ¬ (IsInProfile (alone before) placed.token)
      → Refuses text (fault.NotInProfile placed.place)
  -- a token continues a query and passes a count
  OverLimit : (before : List Placed) (placed : Placed) (which : Limit) → Faults text before placed → IsInProfile (alone before) placed.token
      → passed (alone before) placed.token ≡ Some which → Refuses text (fault.OverLimit which placed.place)
  -- bytes are no token
  NoToken : (tokens : List Placed) (place : ℕ) → StopsAt text tokens place → AreFine [] tokens → Refuses text (fault.NotInProfile place)
  -- the text ends before a query is whole
  NotWhole : (tokens : List Placed) → AreTokens text tokens → AreFine [] tokens
      → ((distinct : Bool) (query : Query) → ¬ (IsQuery distinct query (alone tokens))) → Refuses text (fault.NotInProfile (length text))
  -- it lacks only DISTINCT
  NotDistinct : (query : Query) → SaysWith false text query → Refuses text fault.NotDistinct
  -- memory may lack at any text
  NoMemory : Refuses text fault.NoMemory
