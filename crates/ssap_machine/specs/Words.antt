-- The words of a message, and the lexemes that they and characters are.
use Rattle.std.specs.Prelude.{◌≡◌, ◌≢◌, ℕ, List, [], ◌∷◌, ◌++◌, map, flat_map, codes, encode_utf8}
use Rattle.std.specs.List.{AllByRecursion}
use Rattle.m3_terms.specs.Text.{IsAllowed}
use Rattle.ssap_items.specs.declared.body.Kind.TheVariants.{Uri, Literal, Bnode}
use Rattle.ssap_items.specs.declared.tags.TagName.{TagName}
use Rattle.ssap_items.specs.declared.tags.TagName.TheVariants as tag
use Rattle.ssap_items.specs.Tags.{tag_name}
use Rattle.ssap_grammar.specs.Characters.{IsWhite}
use Rattle.ssap_grammar.specs.Head.{message_types, transactions}
use Rattle.ssap_grammar.specs.Triples.{kind_words}
use Rattle.ssap_machine.specs.declared.symbol.Words.{Words}
use Rattle.ssap_machine.specs.declared.symbol.Words.TheVariants.{Greater, Equals, Version, VersionNumber, EncodingName, DeclarationFinish, MessageTypes, Transactions, Name, Kind, ObjectKinds, Values, Start, Finish}

-- the words of a table
abbrev pub words_of : {A : Type 0} → List (List ℕ × A) → List (List ℕ)
words_of table = map (λ entry. entry.0) table

-- words in either quote
abbrev pub quoted : List (List ℕ) → List (List ℕ)
quoted words = flat_map (λ word. (34 ∷ word ++ 34 ∷ []) ∷ (39 ∷ word ++ 39 ∷ []) ∷ []) words

-- `<` and the name of an element
unfoldable pub starting : TagName → List ℕ
starting name = codes "<" ++ tag_name name

-- `</` and the name of an element
unfoldable pub finishing : TagName → List ℕ
finishing name = codes "</" ++ tag_name name

-- the name of the one attribute that an element may have: `type` of a subject or a predicate, `xmlns` of a table
unfoldable pub attribute_name : TagName → List ℕ
attribute_name tag.Sparql = codes "xmlns"
attribute_name name = codes "type"

-- the values of that attribute
unfoldable pub attribute_values : TagName → List (List ℕ)
attribute_values tag.Sparql = quoted (codes "http://www.w3.org/2005/sparql-results#" ∷ [])
attribute_values tag.Subject = quoted (words_of (flat_map kind_words (Uri ∷ Bnode ∷ [])))
attribute_values name = quoted (words_of (flat_map kind_words (Uri ∷ [])))

-- the words of a list
unfoldable pub words : Words → List (List ℕ)
words Greater = codes ">" ∷ []
words Equals = codes "=" ∷ []
words Version = codes "version" ∷ []
words VersionNumber = quoted (codes "1.0" ∷ [])
words EncodingName = quoted (codes "UTF-8" ∷ codes "utf-8" ∷ [])
words DeclarationFinish = codes "?>" ∷ []
words MessageTypes = words_of message_types
words Transactions = words_of transactions
words Name = codes "name" ∷ []
words Kind = codes "type" ∷ []
words ObjectKinds = quoted (words_of (flat_map kind_words (Uri ∷ Literal ∷ Bnode ∷ [])))
words (Values name) = attribute_values name
words (Start name) = starting name ∷ []
words (Finish name) = finishing name ∷ []

-- what is read at once: a word, a byte of white space, or an allowed character but for some
pub data Lexeme : Type 0 where
  Word : List ℕ → Lexeme
  White : Lexeme
  Except : List ℕ → Lexeme

-- the bytes are the lexeme
abbrev pub IsLexeme : Lexeme → List ℕ → Type 0
IsLexeme (Word word) bytes = bytes ≡ word
IsLexeme White bytes = (byte : ℕ) × IsWhite byte × (bytes ≡ byte ∷ [])
IsLexeme (Except refused) bytes = (character : ℕ) × IsAllowed character × AllByRecursion (λ other. character ≢ other) refused
    × (bytes ≡ encode_utf8 character)
