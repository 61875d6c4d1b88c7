-- Texts, in the form of XML 1.0 (sections 2.4, 2.7 and 4.6) but with a grammar of our own: characters, references and CDATA sections.
use Rattle.std.specs.Prelude.{◌≡◌, ◌≢◌, ℕ, List, [], ◌∷◌, ◌++◌, flat_map, codes, encode_utf8, encode_utf8_all}
use Rattle.std.specs.List.{AllByRecursion}
use Rattle.m3_terms.specs.Text.{IsAllowed}
use Rattle.ssap_grammar.specs.Front.{Word, ◌then◌, Many, OneOf}

-- plain: an allowed character other than `<` and `&`
abbrev pub IsPlain : ℕ → Type 0
IsPlain character = IsAllowed character × (character ≢ 60) × (character ≢ 38)

-- reference: the eight references, each with the one character that it stands for
unfoldable pub references : List (List ℕ × List ℕ)
references = (codes "&lt;", codes "<") ∷ (codes "&gt;", codes ">") ∷ (codes "&amp;", codes "&")
    ∷ (codes "&quot;", codes "\"") ∷ (codes "&apos;", codes "'")
    ∷ (codes "&#9;", 9 ∷ []) ∷ (codes "&#10;", 10 ∷ []) ∷ (codes "&#13;", 13 ∷ []) ∷ []

-- what stands in a CDATA section: allowed characters without `]]>` among them
pub record IsCdata (characters : List ℕ) : Type 0 where
  pub allowed : AllByRecursion IsAllowed characters
  pub endless : (before after : List ℕ) → characters ≢ before ++ 93 ∷ 93 ∷ 62 ∷ after

-- a piece of a text, with its value: a plain character for itself, a reference for its character, or a CDATA
-- section for its content
pub data ReadsPiece (value bytes rest : List ℕ) : Type 0 where
  Plain : (character : ℕ) → IsPlain character → value ≡ encode_utf8 character → Word (encode_utf8 character) bytes rest
      → ReadsPiece value bytes rest
  Reference : OneOf references value bytes rest → ReadsPiece value bytes rest
  Cdata : (characters : List ℕ) → IsCdata characters → value ≡ encode_utf8_all characters
      → (Word (codes "<![CDATA[") then Word (encode_utf8_all characters) then Word (codes "]]>")) bytes rest
      → ReadsPiece value bytes rest

-- text: any number of pieces; its value is their values, nothing trimmed
pub record ReadsText (value bytes rest : List ℕ) : Type 0 where
  pub pieces : List (List ℕ)
  pub reads : Many ReadsPiece pieces bytes rest
  pub is : value ≡ flat_map (λ piece. piece) pieces
