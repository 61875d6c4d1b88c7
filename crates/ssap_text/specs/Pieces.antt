-- Texts and values of attributes as one: what is read up to an end.
use Rattle.std.specs.Prelude.{◌≡◌, ◌⊎◌, map, ℕ, Bool, List, ◌∷◌, codes, encode_utf8_all}
use Rattle.std.specs.Borrow.{Bor}
use Rattle.memchr.specs.Find.{is_byte2, is_byte3}
use Rattle.ssap_grammar.specs.Front.{Word, ◌then◌, OneOf}
use Rattle.ssap_grammar.specs.Text.{references, IsCdata, ReadsText}
use Rattle.ssap_grammar.specs.Attribute.{ReadsValueText}
use Rattle.ssap_text.specs.Ends.{BeginsFinish}
use Rattle.ssap_text.specs.declared.end.End.{End}
use Rattle.ssap_text.specs.declared.end.End.TheVariants.{Tag, DoubleQuote, SingleQuote}

-- a byte stands for no plain character: `<`, `&`, or the quote
abbrev pub is_mark : End → ℕ → Bool
is_mark Tag = is_byte2 60 38
is_mark DoubleQuote = is_byte3 60 38 34
is_mark SingleQuote = is_byte3 60 38 39

-- the end stands at the start
abbrev pub Follows : End → List ℕ → Type 0
Follows Tag bytes = BeginsFinish bytes
Follows DoubleQuote bytes = (more : List ℕ) × (bytes ≡ 34 ∷ more)
Follows SingleQuote bytes = (more : List ℕ) × (bytes ≡ 39 ∷ more)

-- a text, or what stands between two quotes
abbrev pub Reads : End → List ℕ → List ℕ → List ℕ → Type 0
Reads Tag value bytes rest = ReadsText value bytes rest
Reads DoubleQuote value bytes rest = ReadsValueText value 34 bytes rest
Reads SingleQuote value bytes rest = ReadsValueText value 39 bytes rest

-- none with its end behind it stands at the start
abbrev pub NoReading : End → List ℕ → Type 0
NoReading end bytes = (value rest : List ℕ) → Reads end value bytes rest → ¬ (Follows end rest)

-- a CDATA section, with its content
pub record ReadsSection (value bytes rest : List ℕ) : Type 0 where
  pub characters : List ℕ
  pub content : IsCdata characters
  pub is : value ≡ encode_utf8_all characters
  pub reads : (Word (codes "<![CDATA[") then Word (encode_utf8_all characters) then Word (codes "]]>")) bytes rest

-- a reference, or in a text a CDATA section
abbrev pub ReadsMarked : End → List ℕ → List ℕ → List ℕ → Type 0
ReadsMarked Tag value bytes rest = OneOf references value bytes rest ⊎ ReadsSection value bytes rest
ReadsMarked DoubleQuote value bytes rest = OneOf references value bytes rest
ReadsMarked SingleQuote value bytes rest = OneOf references value bytes rest

-- a quote stands at the start, and the value that it opens ends so
abbrev pub Opens : End → List ℕ → List ℕ → Type 0
Opens Tag bytes inner = ⊥
Opens DoubleQuote bytes inner = bytes ≡ 34 ∷ inner
Opens SingleQuote bytes inner = bytes ≡ 39 ∷ inner

-- the words of a table in the code, each with its value
abbrev pub words : List (Bor (List ℕ) × Bor (List ℕ)) → List (List ℕ × List ℕ)
words table = map (λ entry. (entry.0.now, entry.1.now)) table
