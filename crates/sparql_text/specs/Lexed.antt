-- The tokens of a text as a function.
use Rattle.std.specs.Prelude.{◌≡◌, ◌↔◌, ℕ, zero, suc, ◌-◌, List, [], ◌∷◌, length, Option, Some, None, codes, refl}
use Rattle.std.specs.Str.{chars}
use Rattle.std.specs.Char.{encode_utf8}
use Rattle.sparql_text.specs.declared.word.Word.TheVariants as word
use Rattle.sparql_text.specs.Tokens.{Variable, Fixed, spelling}
use Rattle.sparql_text.specs.Lexing.{Placed, AreTokens, StopsAt}
use Rattle.sparql_text.specs.FirstTokens.{FirstToken, token_at, behind_gap}

-- how the tokens of a text end: with the text, or before bytes at an offset that are no token
pub data Ending : Type 0 where
  Ended : Ending
  Stopped : ℕ → Ending

-- the tokens of a text and how they end
pub record Lexed : Type 0 where
  pub tokens : List Placed
  pub ending : Ending

-- a token and then others
abbrev pub placed_first : Placed → Lexed → Lexed
placed_first placed others = record { tokens = placed ∷ others.tokens; ending = others.ending }

-- what was found at an offset, and the tokens behind it
abbrev pub lexed_first : ℕ → (List ℕ → Lexed) → Option FirstToken → Lexed
lexed_first place more None = record { tokens = []; ending = Stopped place }
lexed_first place more (Some first) = placed_first (record { token = first.token; place = place }) (more first.rest)

-- the tokens of the last bytes of a text of so many, with no white space or comment before them
abbrev pub lexed_at : ℕ → (List ℕ → Lexed) → List ℕ → Lexed
lexed_at total more [] = record { tokens = []; ending = Ended }
lexed_at total more (byte ∷ bytes) = lexed_first (total - length (byte ∷ bytes)) more (token_at (byte ∷ bytes))

-- at most so many tokens of the last bytes of a text of so many
abbrev pub lexed_by : ℕ → ℕ → List ℕ → Lexed
lexed_by zero total bytes = record { tokens = []; ending = Ended }
lexed_by (suc count) total bytes = lexed_at total (lexed_by count total) (behind_gap (length bytes) bytes)

-- the tokens of a text, which are no more than its bytes
unfoldable pub lexed : List ℕ → Lexed
lexed text = lexed_by (suc (length text)) (length text) text

-- these are the tokens of the text, and so they end
abbrev pub AreLexed : List ℕ → List Placed → Ending → Type 0
AreLexed text tokens Ended = AreTokens text tokens
AreLexed text tokens (Stopped place) = StopsAt text tokens place

-- each text has the tokens that the function gives, and no others
abbrev pub TextsAreLexed : Type 0
TextsAreLexed = (text : List ℕ) (tokens : List Placed) (ending : Ending) → AreLexed text tokens ending ↔ (lexed text ≡ record { tokens = tokens; ending = ending })

-- the longest token is taken, behind white space and comments
example_tokens : lexed (codes " ?x#x\n<=") ≡ record {
  tokens = record { token = Variable (codes "x"); place = 1 } ∷ record { token = Fixed word.LessEqual; place = 6 } ∷ [];
  ending = Ended;
}
unfolding lexed spelling chars encode_utf8
example_tokens = refl

-- a dollar sign alone is no token
example_stop : lexed (codes "a $") ≡ record { tokens = record { token = Fixed word.A; place = 0 } ∷ []; ending = Stopped 2 }
unfolding lexed spelling chars encode_utf8
example_stop = refl
