-- What a text comes to, as a function that computes, slow and plain: the query that it says, or why it says none. `ReadingIsExact`
-- states that it is exactly what `Says` and `Refuses` say.
use Rattle.std.specs.Prelude.{◌≡◌, ◌≢◌, ◌⊎◌, ◌↔◌, ℕ, Bool, true, false, ◌&&◌, not, if◌then◌else◌, List, [], ◌∷◌, ◌++◌, length, Option, Some, None, Result, Ok, Err, is_some, is_none}
use Rattle.std.specs.Option.{option_map, option_or}
use Rattle.sparql_algebra.specs.declared.algebra.Query.{Query}
use Rattle.sparql_text.specs.declared.fault.ReadFault.{ReadFault}
use Rattle.sparql_text.specs.declared.fault.ReadFault.TheVariants as fault
use Rattle.sparql_text.specs.declared.symbol.Symbol.{Symbol}
use Rattle.sparql_text.specs.Tokens.{Token, Name}
use Rattle.sparql_text.specs.Scope.{declarations_of, iri_of}
use Rattle.sparql_text.specs.Lexing.{Placed}
use Rattle.sparql_text.specs.Lexed.{Ending, Ended, Stopped, Lexed, lexed}
use Rattle.sparql_text.specs.Machine.{stack_behind}
use Rattle.sparql_text.specs.Counts.{passed}
use Rattle.sparql_text.specs.Past.{ends_in_prefix, has_distinct}
use Rattle.sparql_text.specs.Faults.{Says, Refuses, alone}
use Rattle.sparql_read.specs.Drafting.{query_of}

-- whether a token behind others uses a prefix that they do not declare
abbrev pub is_undeclared : List Token → Token → Bool
is_undeclared before (Name prefix local) = not (ends_in_prefix before) && is_none (iri_of (declarations_of before) prefix)
is_undeclared before other = false

-- whether a token behind others is in the profile
abbrev pub is_in_profile : List Token → Token → Bool
is_in_profile before token = is_some (stack_behind (before ++ token ∷ [])) && not (is_undeclared before token)

-- the fault of a token behind others, if it faults
abbrev pub fault_at : List Token → Placed → Option ReadFault
fault_at before placed =
    if is_in_profile before placed.token then option_map (λ which. fault.OverLimit which placed.place) (passed before placed.token)
    else Some (fault.NotInProfile placed.place)

-- the first fault among tokens behind others, if one of them faults
abbrev pub fault_in : List Token → List Placed → Option ReadFault
fault_in before [] = None
fault_in before (placed ∷ tokens) = option_or (fault_at before placed) (fault_in (before ++ placed.token ∷ []) tokens)

-- a query that may lack DISTINCT
abbrev pub distinct_query : Bool → Query → Result Query ReadFault
distinct_query true query = Ok query
distinct_query false query = Err fault.NotDistinct

-- what the tokens of a text come to, of which none faults, by what is still to come behind them
abbrev pub whole_reading : ℕ → List Token → Option (List Symbol) → Option Query → Result Query ReadFault
whole_reading end tokens (Some []) (Some query) = distinct_query (has_distinct tokens) query
whole_reading end tokens stack query = Err (fault.NotInProfile end)

-- what the tokens of a text come to, of which none faults, by how they end
abbrev pub fine_reading : ℕ → List Token → Ending → Result Query ReadFault
fine_reading end tokens Ended = whole_reading end tokens (stack_behind tokens) (query_of tokens)
fine_reading end tokens (Stopped place) = Err (fault.NotInProfile place)

-- what the tokens of a text come to, by the first of them that faults
abbrev pub reading_by : ℕ → Lexed → Option ReadFault → Result Query ReadFault
reading_by end lexed None = fine_reading end (alone lexed.tokens) lexed.ending
reading_by end lexed (Some why) = Err why

-- what a text comes to: the query that it says, or why it says none
unfoldable pub reading_of : List ℕ → Result Query ReadFault
reading_of text = reading_by (length text) (lexed text) (fault_in [] (lexed text).tokens)

-- a text comes to the query that it says, and to why it says none
pub record ReadingIsExact : Type 0 where
  pub says : (text : List ℕ) (query : Query) → Says text query ↔ (reading_of text ≡ Ok query)
  pub refuses : (text : List ℕ) (why : ReadFault) → why ≢ fault.NoMemory → Refuses text why ↔ (reading_of text ≡ Err why)

-- the code's reading of a text is what the text comes to, or memory ran out
abbrev pub IsReading : List ℕ → Result Query ReadFault → Type 0
IsReading text (Ok query) = reading_of text ≡ Ok query
IsReading text (Err why) = (why ≡ fault.NoMemory) ⊎ (reading_of text ≡ Err why)
