-- Terms: uris and literals with their texts.
use Rattle.std.specs.Prelude.{◌≡◌, ◌≢◌, ℕ, ◌≤◌, ◌<◌, List, [], length, ⊤, refl}
use Rattle.m3_terms.specs.Text.{IsText, FailsAt}
use Rattle.m3_terms.specs.declared.term.TheConstants.{TERM_LIMIT}
use Rattle.m3_terms.specs.declared.term.Term.{Term}
use Rattle.m3_terms.specs.declared.term.Term.TheVariants.{Uri, Literal}
use Rattle.m3_terms.specs.declared.term.TermFault.{TermFault}
use Rattle.m3_terms.specs.declared.term.TermFault.TheVariants.{Empty, TooLong, NotText, NoMemory}

-- a term's text has at most 4,096 bytes
term_limit : TERM_LIMIT ≡ 4096
term_limit = refl

-- a literal's text: a text within the limit
pub record IsLiteralText (bytes : List ℕ) : Type 0 where
  pub text : IsText bytes
  pub short : length bytes ≤ TERM_LIMIT

-- a uri's text: a literal's that has a byte
pub record IsUriText (bytes : List ℕ) : Type 0 where
  pub text : IsText bytes
  pub short : length bytes ≤ TERM_LIMIT
  pub some : bytes ≢ []

-- why the bytes are no literal: too long, or else no text
abbrev pub LiteralFault : List ℕ → TermFault → Type 0
LiteralFault bytes Empty = ⊥
LiteralFault bytes (TooLong n) = (n ≡ length bytes) × (TERM_LIMIT < n)
LiteralFault bytes (NotText place) = (length bytes ≤ TERM_LIMIT) × FailsAt bytes place
LiteralFault bytes NoMemory = ⊤

-- why the bytes are no uri: none there, or else as for a literal
abbrev pub UriFault : List ℕ → TermFault → Type 0
UriFault bytes Empty = bytes ≡ []
UriFault bytes (TooLong n) = (n ≡ length bytes) × (TERM_LIMIT < n)
UriFault bytes (NotText place) = (length bytes ≤ TERM_LIMIT) × FailsAt bytes place
UriFault bytes NoMemory = ⊤

-- the term is a uri
abbrev pub IsUri : Term → Type 0
IsUri (Uri text) = ⊤
IsUri (Literal text) = ⊥
