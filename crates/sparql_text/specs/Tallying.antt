-- What is counted of tokens, one at a time.
use Rattle.std.specs.Prelude.{◌≡◌, ℕ, ◌+◌, ◌-◌, ◌<◌, ◌≤◌, ◌^◌, Bool, true, false, ◌||◌, ◌&&◌, nat_eq, if◌then◌else◌, List, [], ◌∷◌, count_by}
use Rattle.sparql_text.specs.declared.word.Word.TheVariants as word
use Rattle.sparql_text.specs.declared.symbol.Kind.{Kind}
use Rattle.sparql_text.specs.declared.symbol.Kind.TheVariants as kind
use Rattle.sparql_text.specs.declared.tally.Tally.{Tally}
use Rattle.sparql_text.specs.Tokens.{Token}
use Rattle.sparql_text.specs.Counts.{patterns, is_operator, is_condition, opens, closes}
use Rattle.sparql_text.specs.Machine.{kind_of}

-- a kind of token that may stand in a triple pattern
abbrev pub is_term : Kind → Bool
is_term (kind.Fixed word.A) = true
is_term (kind.Fixed other) = false
is_term other = true

-- `{` or `(`
abbrev pub word_opens : Kind → Bool
word_opens (kind.Fixed word.OpenBrace) = true
word_opens (kind.Fixed word.OpenParen) = true
word_opens other = false

-- `}` or `)`
abbrev pub word_closes : Kind → Bool
word_closes (kind.Fixed word.CloseBrace) = true
word_closes (kind.Fixed word.CloseParen) = true
word_closes other = false

-- UNION or OPTIONAL
abbrev pub is_operator_word : Kind → Bool
is_operator_word (kind.Fixed word.Union) = true
is_operator_word (kind.Fixed word.Optional) = true
is_operator_word other = false

-- FILTER, `&&` or `||`
abbrev pub is_condition_word : Kind → Bool
is_condition_word (kind.Fixed word.Filter) = true
is_condition_word (kind.Fixed word.And) = true
is_condition_word (kind.Fixed word.Or) = true
is_condition_word other = false

-- `(`
abbrev pub is_open_paren_word : Kind → Bool
is_open_paren_word (kind.Fixed word.OpenParen) = true
is_open_paren_word other = false

-- `)`
abbrev pub is_close_paren_word : Kind → Bool
is_close_paren_word (kind.Fixed word.CloseParen) = true
is_close_paren_word other = false

-- `{`
abbrev pub is_open_brace_word : Kind → Bool
is_open_brace_word (kind.Fixed word.OpenBrace) = true
is_open_brace_word other = false

-- `,`
abbrev pub is_comma_word : Kind → Bool
is_comma_word (kind.Fixed word.Comma) = true
is_comma_word other = false

-- `;`
abbrev pub is_semicolon_word : Kind → Bool
is_semicolon_word (kind.Fixed word.Semicolon) = true
is_semicolon_word other = false

-- an object comes next, if a token does that may stand in a triple pattern
abbrev pub awaits : Tally → Bool
awaits tally = tally.in_pattern && nat_eq tally.open_parens tally.close_parens && (tally.comma || (tally.term && tally.said))

-- 1 where a test passes
abbrev pub one_if : Bool → ℕ
one_if counts = if counts then 1 else 0

-- what is counted with one more token
abbrev pub counted : Tally → Kind → Tally
counted tally kind = record {
  tokens = tally.tokens + 1;
  patterns = tally.patterns + one_if (awaits tally && is_term kind);
  operators = tally.operators + one_if (is_operator_word kind);
  conditions = tally.conditions + one_if (is_condition_word kind);
  opens = tally.opens + one_if (word_opens kind);
  closes = tally.closes + one_if (word_closes kind);
  open_parens = tally.open_parens + one_if (is_open_paren_word kind);
  close_parens = tally.close_parens + one_if (is_close_paren_word kind);
  in_pattern = tally.in_pattern || is_open_brace_word kind;
  comma = is_comma_word kind;
  semicolon = is_semicolon_word kind;
  term = is_term kind;
  said = tally.semicolon || tally.term;
}

-- no count is greater than that of the tokens, and there is room for one token more
pub record IsBounded (tally : Tally) : Type 0 where
  pub room : tally.tokens < 2 ^ 64 - 1
  pub patterns : tally.patterns ≤ tally.tokens
  pub operators : tally.operators ≤ tally.tokens
  pub conditions : tally.conditions ≤ tally.tokens
  pub opens : tally.opens ≤ tally.tokens
  pub closes : tally.closes ≤ tally.tokens
  pub open_parens : tally.open_parens ≤ tally.tokens
  pub close_parens : tally.close_parens ≤ tally.tokens

-- what is counted when more tokens come
abbrev pub tally_from : Tally → List Token → Tally
tally_from tally [] = tally
tally_from tally (token ∷ tokens) = tally_from (counted tally (kind_of token)) tokens

-- nothing was counted
abbrev pub blank : Tally
blank = record {
  tokens = 0;
  patterns = 0;
  operators = 0;
  conditions = 0;
  opens = 0;
  closes = 0;
  open_parens = 0;
  close_parens = 0;
  in_pattern = false;
  comma = false;
  semicolon = false;
  term = false;
  said = false;
}

-- the counts are those of the tokens
pub record AreCounts (tokens : List Token) (tally : Tally) : Type 0 where
  pub patterns : tally.patterns ≡ patterns tokens
  pub operators : tally.operators ≡ count_by is_operator tokens
  pub conditions : tally.conditions ≡ count_by is_condition tokens
  pub opens : tally.opens ≡ count_by opens tokens
  pub closes : tally.closes ≡ count_by closes tokens

-- counted one at a time, tokens have the counts that they have as a whole
abbrev pub TallyCounts : Type 0
TallyCounts = (tokens : List Token) → AreCounts tokens (tally_from blank tokens)
