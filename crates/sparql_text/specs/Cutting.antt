-- What is found at the start of bytes.
use Rattle.std.specs.Prelude.{◌≡◌, ℕ, ◌+◌, ◌<◌, ◌≤◌, Bool, true, false, IsTrue, ◌==◌, ◌&&◌, if◌then◌else◌, is_some, List, [], ◌∷◌, ◌++◌, length, take}
use Rattle.std.specs.List.{list_all}
use Rattle.m3_terms.specs.Text.{IsText}
use Rattle.m3_terms.specs.Order.{text_eq}
use Rattle.sparql_text.specs.declared.word.Word.{Word}
use Rattle.sparql_text.specs.declared.runs.Class.{Class}
use Rattle.sparql_text.specs.declared.runs.Class.TheVariants as class
use Rattle.sparql_text.specs.declared.next.Next.{Next}
use Rattle.sparql_text.specs.declared.next.Next.TheVariants as next
use Rattle.sparql_text.specs.declared.lexeme.Lexeme.{Lexeme}
use Rattle.sparql_text.specs.declared.lexeme.Lexeme.TheVariants as lexeme
use Rattle.sparql_text.specs.Tokens.{Token, Iri, Name, Variable, String, Fixed, folded, spelling, IsQuote, Unescapes, escape_of, is_string_byte, is_name_byte, is_iri_byte, is_prefix_byte, is_local_byte, is_local}
use Rattle.sparql_text.specs.Lexing.{Reads, Begins, Gap, IsNoToken, IsLineEnd, is_white, is_inline}

-- a byte of a class
abbrev pub is_of : Class → ℕ → Bool
is_of class.Variable = is_name_byte
is_of class.Iri = is_iri_byte
is_of class.Prefix = is_prefix_byte
is_of class.Local = is_local_byte

-- a byte that does not pass stands at the start, or none at all
abbrev pub Stops : (ℕ → Bool) → List ℕ → Type 0
Stops passes [] = Unit {0}
Stops passes (byte ∷ bytes) = passes byte ≡ false

-- the bytes that pass, up to the first that does not, and those from there on
pub record IsRun (passes : ℕ → Bool) (bytes front rest : List ℕ) : Type 0 where
  pub split : bytes ≡ front ++ rest
  pub pass : list_all passes front ≡ true
  pub stops : Stops passes rest

-- the longest local part at the start of bytes, and the bytes behind it
pub record IsLongestLocal (bytes front rest : List ℕ) : Type 0 where
  pub split : bytes ≡ front ++ rest
  pub local : IsTrue (is_local front)
  pub longest : (other left : List ℕ) → IsTrue (is_local other) → bytes ≡ other ++ left → length other ≤ length front

-- a comment at the start of bytes, and the bytes behind it
pub record IsComment (bytes rest : List ℕ) : Type 0 where
  pub text : List ℕ
  pub is : IsText text
  pub inline : IsTrue (list_all is_inline text)
  pub ends : IsLineEnd rest
  pub split : bytes ≡ 35 ∷ text ++ rest

-- what raw bytes of a string stand for
abbrev pub IsValue : List ℕ → List ℕ → Type 0
IsValue raw value = (quote : ℕ) × IsQuote quote × Unescapes quote raw value

-- whether the first byte stands for another behind `\`
abbrev pub escapes : List ℕ → Bool
escapes [] = false
escapes (letter ∷ bytes) = is_some (escape_of letter)

-- how many bytes the piece of a string at the start has
abbrev pub piece_len : ℕ → List ℕ → ℕ
piece_len quote [] = 0
piece_len quote (byte ∷ bytes) = if is_string_byte quote byte then 1 else if byte == 92 && escapes bytes then 2 else 0

-- pieces of a string were passed: where a quote ends the string at the start of bytes, it ends it in the rest too
abbrev pub PassesPieces : ℕ → List ℕ → List ℕ → Type 0
PassesPieces quote bytes rest = (raw value left : List ℕ) → Unescapes quote raw value → bytes ≡ raw ++ quote ∷ left
    → (others : List ℕ) × (word : List ℕ) × Unescapes quote others word × (rest ≡ others ++ quote ∷ left)

-- whether bytes begin with a word
abbrev pub begins_with : Word → List ℕ → Bool
begins_with word bytes = text_eq (folded word (take (length (spelling word)) bytes)) (folded word (spelling word))

-- bytes begin with no word
abbrev pub NoWord : List ℕ → Type 0
NoWord bytes = (word : Word) (left : List ℕ) → ¬ (Reads (Fixed word) bytes left)

-- no word at the start of bytes leaves fewer of them
abbrev pub IsLongestWord : List ℕ → List ℕ → Type 0
IsLongestWord bytes rest = (word : Word) (left : List ℕ) → Reads (Fixed word) bytes left → length rest ≤ length left

-- what a lexeme of the code is as a token; the raw bytes of a string are not unescaped yet
abbrev pub StandsFor : Lexeme → Token → Type 0
StandsFor (lexeme.Iri iri) token = token ≡ Iri iri.now
StandsFor (lexeme.Name prefix local) token = token ≡ Name prefix.now local.now
StandsFor (lexeme.Variable name) token = token ≡ Variable name.now
StandsFor (lexeme.String raw) token = (value : List ℕ) × IsValue raw.now value × (token ≡ String value)
StandsFor (lexeme.Fixed word) token = token ≡ Fixed word

-- white space or a comment at the start of bytes, and the bytes behind it
pub data GapPiece (bytes rest : List ℕ) : Type 0 where
  WhitePiece : (byte : ℕ) → IsTrue (is_white byte) → bytes ≡ byte ∷ rest → GapPiece bytes rest
  CommentPiece : IsComment bytes rest → GapPiece bytes rest

-- what is found next at the end of a text of so many bytes: a token, the end, or bytes that are no token
abbrev pub IsNext : ℕ → List ℕ → Next → Type 0
IsNext total bytes (next.Token lexeme place rest) =
    (token : Token) × (middle : List ℕ) × StandsFor lexeme token × Gap bytes middle × Begins token middle rest.now × (place + length middle ≡ total)
IsNext total bytes next.End = Gap bytes []
IsNext total bytes (next.NoToken place) = (rest : List ℕ) × Gap bytes rest × IsNoToken rest × (place + length rest ≡ total)

-- the bytes behind a token are fewer
abbrev pub GoesOn : List ℕ → Next → Type 0
GoesOn bytes (next.Token lexeme place rest) = length rest.now < length bytes
GoesOn bytes next.End = Unit {0}
GoesOn bytes (next.NoToken place) = Unit {0}
