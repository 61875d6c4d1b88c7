-- How far some bytes lead.
use Rattle.std.specs.Prelude.{◌≡◌, ◌≢◌, ◌⊎◌, ℕ, ◌+◌, ◌<◌, ◌≤◌, List, [], ◌∷◌, ◌++◌, length, take, drop, encode_utf8, Option, Some, None}
use Rattle.m3_terms.specs.Text.{IsAllowed}
use Rattle.ssap_grammar.specs.Characters.{IsWhite}
use Rattle.ssap_machine.specs.Plain.{IsOneOf, IsPlain}
use Rattle.ssap_machine.specs.Words.{Lexeme, Word, White, Except, IsLexeme}
use Rattle.ssap_machine.specs.Options.{options}
use Rattle.ssap_machine.specs.Machine.{IsAmong, Begins, Walks, IsHalf, IsStuck}
use Rattle.ssap_machine.specs.declared.symbol.Symbol.{Symbol}
use Rattle.ssap_machine.specs.declared.symbol.Symbol.TheVariants.{Next, Spaced, DeclarationEnd, DeclarationSpaced, Items, Open, Optional, OptionalSpaced, Parameter, ParameterSpaced, Quote, Blank, Many, Term}
use Rattle.ssap_machine.specs.declared.step.Step.{Step}
use Rattle.ssap_machine.specs.declared.step.Step.TheVariants as step
use Rattle.ssap_machine.specs.declared.progress.Progress.{Progress}
use Rattle.ssap_machine.specs.declared.progress.Progress.TheVariants.{Whole, Half, Fault}

-- the bytes are nothing, or begin a lexeme of the first symbol and are not the whole of one
abbrev pub IsPending : List Symbol → List ℕ → Type 0
IsPending symbols bytes = (bytes ≡ []) ⊎ IsHalf symbols bytes

-- the symbol with the bytes leads from the symbols below it to new ones; or it goes on, or is stuck at a place, and they stay
abbrev pub Steps : Symbol → List ℕ → Step → List Symbol → List Symbol → Type 0
Steps symbol bytes (step.Taken count) old new = (0 < count) × (count ≤ length bytes) × Walks (symbol ∷ old) (take count bytes) new
Steps symbol bytes step.Half old new = (new ≡ old) × IsPending (symbol ∷ old) bytes
Steps symbol bytes (step.Stuck place) old new = (new ≡ old) × (place < length bytes) × IsPending (symbol ∷ old) (take place bytes)
    × IsStuck (symbol ∷ old) (take (place + 1) bytes)

-- the bytes lead on up to the place, and no lexeme goes on with the byte that is there
pub record Faults (old : List Symbol) (bytes : List ℕ) (place : ℕ) : Type 0 where
  pub from : ℕ
  pub before : from ≤ place
  pub within : place < length bytes
  pub symbols : List Symbol
  pub walks : Walks old (take from bytes) symbols
  pub pending : IsPending symbols (drop from (take place bytes))
  pub stuck : IsStuck symbols (drop from (take (place + 1) bytes))

-- the bytes lead from the old symbols to none, or to new ones and a prefix of a lexeme, or to a fault
abbrev pub Advances : List Symbol → List ℕ → Progress → List Symbol → Type 0
Advances old bytes (Whole taken) new = (taken ≤ length bytes) × (new ≡ []) × Walks old (take taken bytes) []
Advances old bytes (Half from) new = (from ≤ length bytes) × (new ≢ []) × Walks old (take from bytes) new × IsPending new (drop from bytes)
Advances old bytes (Fault place) new = Faults old bytes place

-- a lexeme that is no word
abbrev pub IsNoWord : Lexeme → Type 0
IsNoWord (Word word) = ⊥
IsNoWord White = Unit {0}
IsNoWord (Except refused) = Unit {0}

-- nothing but a word of the symbol begins with the first of the bytes
abbrev pub OnlyWords : Symbol → List ℕ → Type 0
OnlyWords symbol [] = Unit {0}
OnlyWords symbol (byte ∷ bytes) = (lexeme : Lexeme) (pushed : List Symbol) (others : List ℕ) → IsAmong (lexeme, pushed) (options symbol)
    → IsNoWord lexeme → ¬ (IsLexeme lexeme (byte ∷ others))

-- a character beyond ASCII leads the symbol to the next
abbrev pub TakesCharacters : Symbol → Symbol → Type 0
TakesCharacters symbol next = (character : ℕ) → 128 ≤ character → IsAllowed character → Begins symbol (encode_utf8 character) (next ∷ [])

-- a plain character at the start of the bytes leads the symbol to the next
abbrev pub PlainBegins : Symbol → Symbol → ℕ → ℕ → ℕ → List ℕ → Type 0
PlainBegins symbol next first second third bytes = (character : ℕ) (rest : List ℕ) → IsPlain first second third character
    → bytes ≡ encode_utf8 character ++ rest → Begins symbol (encode_utf8 character) (next ∷ [])

-- and leaves the next one as it is
abbrev pub PlainGoesOn : Symbol → ℕ → ℕ → ℕ → Type 0
PlainGoesOn next first second third = (character : ℕ) → IsPlain first second third character → Begins next (encode_utf8 character) (next ∷ [])

-- where the bytes begin with a byte of ASCII that is no plain character, nothing but a word does
abbrev pub WordsAtStops : Symbol → ℕ → ℕ → ℕ → List ℕ → Type 0
WordsAtStops symbol first second third [] = Unit {0}
WordsAtStops symbol first second third (byte ∷ bytes) = byte < 128 → (IsAllowed byte → IsOneOf first second third byte)
    → OnlyWords symbol (byte ∷ bytes)

-- where the bytes begin with a byte of ASCII, nothing but a word does
abbrev pub WordsAtAscii : Symbol → List ℕ → Type 0
WordsAtAscii symbol [] = Unit {0}
WordsAtAscii symbol (byte ∷ bytes) = byte < 128 → OnlyWords symbol (byte ∷ bytes)

-- what a byte of white space leaves of a symbol
unfoldable pub white_next : Symbol → Option Symbol
white_next (Next list) = Some (Next list)
white_next (Spaced list) = Some (Next list)
white_next DeclarationEnd = Some DeclarationSpaced
white_next DeclarationSpaced = Some DeclarationSpaced
white_next (Items seen) = Some (Items seen)
white_next (Open name) = Some (Open name)
white_next (Optional name) = Some (OptionalSpaced name)
white_next (OptionalSpaced name) = Some (OptionalSpaced name)
white_next (Parameter named encoded) = Some (ParameterSpaced named encoded)
white_next (ParameterSpaced named encoded) = Some (ParameterSpaced named encoded)
white_next Quote = Some Quote
white_next Blank = Some Blank
white_next (Many name) = Some (Many name)
white_next Term = Some Term
white_next symbol = None

-- the bytes do not begin with white space that the symbol may begin with
abbrev pub IsTight : Symbol → List ℕ → Type 0
IsTight symbol [] = Unit {0}
IsTight symbol (byte ∷ bytes) = (next : Symbol) → white_next symbol ≡ Some next → ¬ (IsWhite byte)
