-- The token at the start of bytes, and the bytes behind white space and comments, as functions.
use Rattle.std.specs.Prelude.{ℕ, zero, suc, ◌+◌, Bool, ◌||◌, ◌&&◌, not, ◌==◌, if◌then◌else◌, List, [], ◌∷◌, length, take, drop, Option, Some, None, unwrap_or, find, encode_utf8_all}
use Rattle.std.specs.List.{list_all, prefix_len}
use Rattle.std.specs.Option.{option_map}
use Rattle.std.specs.Str.{chars}
use Rattle.m3_terms.specs.Text.{is_allowed}
use Rattle.m3_terms.specs.Order.{text_eq}
use Rattle.sparql_text.specs.declared.word.Word.{Word}
use Rattle.sparql_text.specs.declared.word.Word.TheVariants as word
use Rattle.sparql_text.specs.Tokens.{Token, Iri, Name, Variable, String, Fixed, spelling, is_name_byte, is_prefix_byte, is_local_first, is_local_byte, is_iri_byte, is_prefix, ends_in_dot}
use Rattle.sparql_text.specs.Lexing.{is_white, is_inline}
use Rattle.sparql_text.specs.Cutting.{piece_len, begins_with}
use Rattle.sparql_text.specs.Values.{unescaped}

-- a token at the start of bytes, and the bytes behind it
pub record FirstToken : Type 0 where
  pub token : Token
  pub rest : List ℕ

-- the bytes are a text: read as UTF-8 they give allowed characters, which are spelled with these bytes
abbrev pub is_text : List ℕ → Bool
is_text bytes = list_all is_allowed (chars bytes) && text_eq (encode_utf8_all (chars bytes)) bytes

-- the bytes that pass, up to the first that does not
abbrev pub run : (ℕ → Bool) → List ℕ → List ℕ
run passes bytes = take (prefix_len passes bytes) bytes

-- the bytes from the first on that does not pass
abbrev pub behind_run : (ℕ → Bool) → List ℕ → List ℕ
behind_run passes bytes = drop (prefix_len passes bytes) bytes

-- the IRI with these bytes, where `>` stands behind them
abbrev pub iri_closed : List ℕ → List ℕ → Option FirstToken
iri_closed value [] = None
iri_closed value (byte ∷ rest) =
    if byte == 62 && not (length value == 0) && is_text value then Some (record { token = Iri value; rest = rest }) else None

-- the IRI at the start of bytes
abbrev pub iri_at : List ℕ → Option FirstToken
iri_at [] = None
iri_at (byte ∷ bytes) = if byte == 60 then iri_closed (run is_iri_byte bytes) (behind_run is_iri_byte bytes) else None

-- the variable of this name, which has some bytes, before these
abbrev pub variable_named : List ℕ → List ℕ → Option FirstToken
variable_named name rest = if length name == 0 then None else Some (record { token = Variable name; rest = rest })

-- the variable at the start of bytes
abbrev pub variable_at : List ℕ → Option FirstToken
variable_at [] = None
variable_at (byte ∷ bytes) =
    if byte == 63 || byte == 36 then variable_named (run is_name_byte bytes) (behind_run is_name_byte bytes) else None

-- how many bytes the pieces of a string have, of at most so many pieces
abbrev pub pieces_len : ℕ → ℕ → List ℕ → ℕ
pieces_len zero quote bytes = 0
pieces_len (suc count) quote bytes =
    if piece_len quote bytes == 0 then 0 else piece_len quote bytes + pieces_len count quote (drop (piece_len quote bytes) bytes)

-- the string with these raw bytes, where its quote stands behind them
abbrev pub string_closed : ℕ → List ℕ → List ℕ → Option FirstToken
string_closed quote raw [] = None
string_closed quote raw (byte ∷ rest) =
    if byte == quote && is_text raw then Some (record { token = String (unescaped raw); rest = rest }) else None

-- the string behind its quote, whose pieces have so many bytes
abbrev pub string_behind : ℕ → ℕ → List ℕ → Option FirstToken
string_behind quote count bytes = string_closed quote (take count bytes) (drop count bytes)

-- the string at the start of bytes
abbrev pub string_at : List ℕ → Option FirstToken
string_at [] = None
string_at (byte ∷ bytes) =
    if byte == 34 || byte == 39 then string_behind byte (pieces_len (length bytes) byte bytes) bytes else None

-- how many of the first bytes there are before the dots at their end
abbrev pub undotted_len : ℕ → List ℕ → ℕ
undotted_len zero bytes = 0
undotted_len (suc count) bytes = if ends_in_dot (take (suc count) bytes) then undotted_len count bytes else suc count

-- how many bytes the longest local part at the start has
abbrev pub local_len : List ℕ → ℕ
local_len [] = 0
local_len (first ∷ bytes) =
    if is_local_first first then 1 + undotted_len (length (run is_local_byte bytes)) (run is_local_byte bytes) else 0

-- the name with this prefix, where `:` stands behind it
abbrev pub name_behind : List ℕ → List ℕ → Option FirstToken
name_behind prefix [] = None
name_behind prefix (byte ∷ bytes) =
    if byte == 58 && is_prefix prefix then Some (record { token = Name prefix (take (local_len bytes) bytes); rest = drop (local_len bytes) bytes }) else None

-- the prefixed name at the start of bytes
abbrev pub name_at : List ℕ → Option FirstToken
name_at bytes = name_behind (run is_prefix_byte bytes) (behind_run is_prefix_byte bytes)

-- every word, the longest first
abbrev pub words : List Word
words = word.IsLiteral ∷ word.StrStarts ∷ word.Distinct ∷ word.Optional ∷ word.SameTerm ∷ word.Contains ∷ word.Prefix ∷ word.Select ∷ word.Filter ∷ word.Where ∷ word.Union ∷ word.Bound ∷ word.IsIri ∷ word.IsUri ∷ word.Str ∷ word.NotEqual ∷ word.LessEqual ∷ word.GreaterEqual ∷ word.And ∷ word.Or ∷ word.OpenBrace ∷ word.CloseBrace ∷ word.OpenParen ∷ word.CloseParen ∷ word.Dot ∷ word.Semicolon ∷ word.Comma ∷ word.Star ∷ word.Equal ∷ word.Less ∷ word.Greater ∷ word.Not ∷ word.A ∷ []

-- a word, taken from the start of bytes
abbrev pub word_taken : List ℕ → Word → FirstToken
word_taken bytes word = record { token = Fixed word; rest = drop (length (spelling word)) bytes }

-- the longest word at the start of bytes
abbrev pub word_at : List ℕ → Option FirstToken
word_at bytes = option_map (word_taken bytes) (find (λ word. begins_with word bytes) words)

-- the first of two that is there
abbrev pub either : Option FirstToken → Option FirstToken → Option FirstToken
either None other = other
either (Some first) other = Some first

-- the longest token at the start of bytes
abbrev pub token_at : List ℕ → Option FirstToken
token_at bytes = either (iri_at bytes) (either (variable_at bytes) (either (string_at bytes) (either (name_at bytes) (word_at bytes))))

-- the bytes behind a byte of white space or a comment at the start
abbrev pub behind_piece : List ℕ → Option (List ℕ)
behind_piece [] = None
behind_piece (byte ∷ bytes) = if is_white byte then Some bytes else
    if byte == 35 && is_text (run is_inline bytes) then Some (behind_run is_inline bytes) else None

-- the bytes behind at most so many such pieces
abbrev pub behind_gap : ℕ → List ℕ → List ℕ
behind_gap zero bytes = bytes
behind_gap (suc count) bytes = unwrap_or (option_map (behind_gap count) (behind_piece bytes)) bytes
