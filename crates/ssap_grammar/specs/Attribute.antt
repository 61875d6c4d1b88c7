-- Attributes: a name, `=`, and a value in either quote.
use Rattle.std.specs.Prelude.{◌≡◌, ◌≢◌, ℕ, ◌≤◌, List, ◌∷◌, flat_map, codes, encode_utf8}
use Rattle.ssap_grammar.specs.Front.{Front, Word, ◌then◌, Many, OneOf}
use Rattle.ssap_grammar.specs.Characters.{Spaces, SomeSpaces, Quoted}
use Rattle.ssap_grammar.specs.Text.{IsPlain, references}

-- a name begins with a small letter
pub record IsLettered (name : List ℕ) : Type 0 where
  pub byte : ℕ
  pub more : List ℕ
  pub is : name ≡ byte ∷ more
  pub high : 97 ≤ byte

-- EQ: `=`, with white space on either side
abbrev pub Equals : Front
Equals = Spaces then Word (codes "=") then Spaces

-- an attribute with the white space before it: its name, `=`, and its value
unfoldable pub ReadsAttribute : List ℕ → Front → Front
ReadsAttribute name Value = SomeSpaces then Word name then Equals then Value

-- a piece of an attribute's value between these quotes: an allowed character other than `<`, `&` and the quote, or a
-- reference
pub data ReadsValuePiece (quote : ℕ) (value bytes rest : List ℕ) : Type 0 where
  Plain : (character : ℕ) → IsPlain character → character ≢ quote → value ≡ encode_utf8 character
      → Word (encode_utf8 character) bytes rest → ReadsValuePiece quote value bytes rest
  Reference : OneOf references value bytes rest → ReadsValuePiece quote value bytes rest

-- what stands between the quotes of an attribute's value, as a text without CDATA sections
pub record ReadsValueText (value : List ℕ) (quote : ℕ) (bytes rest : List ℕ) : Type 0 where
  pub pieces : List (List ℕ)
  pub reads : Many (ReadsValuePiece quote) pieces bytes rest
  pub is : value ≡ flat_map (λ piece. piece) pieces

-- attvalue: a text in either quote
abbrev pub ReadsAttvalue : List ℕ → Front
ReadsAttvalue value = Quoted (ReadsValueText value)

-- a word of a table in either quote, written as it stands there
abbrev pub QuotedWord : {A : Type 0} → List (List ℕ × A) → A → Front
QuotedWord table value = Quoted (λ quote. OneOf table value)
