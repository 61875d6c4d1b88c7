-- What lexemes stand for, and the values of strings.
use Rattle.std.specs.Prelude.{◌≡◌, ℕ, ◌==◌, if◌then◌else◌, List, [], ◌∷◌, map, codes, refl}
use Rattle.std.specs.Prelude.{unwrap_or}
use Rattle.sparql_text.specs.declared.lexeme.Lexeme.{Lexeme}
use Rattle.sparql_text.specs.declared.lexeme.Lexeme.TheVariants as lexeme
use Rattle.sparql_text.specs.Tokens.{Token, Iri, Name, Variable, String, Fixed, escape_of}
use Rattle.sparql_text.specs.Cutting.{StandsFor}

-- the value of raw bytes: a byte behind `\` is the byte that it stands for
abbrev pub unescaped : List ℕ → List ℕ
unescaped [] = []
unescaped (byte ∷ []) = byte ∷ []
unescaped (byte ∷ letter ∷ bytes) =
    if byte == 92 then unwrap_or (escape_of letter) letter ∷ unescaped bytes else byte ∷ unescaped (letter ∷ bytes)

-- the token that a lexeme stands for
abbrev pub token_of : Lexeme → Token
token_of (lexeme.Iri iri) = Iri iri.now
token_of (lexeme.Name prefix local) = Name prefix.now local.now
token_of (lexeme.Variable name) = Variable name.now
token_of (lexeme.String raw) = String (unescaped raw.now)
token_of (lexeme.Fixed word) = Fixed word

-- the tokens that lexemes stand for
abbrev pub tokens_of : List Lexeme → List Token
tokens_of lexemes = map token_of lexemes

-- a lexeme stands for no other token
abbrev pub StandsForOne : Type 0
StandsForOne = (lexeme : Lexeme) (token : Token) → StandsFor lexeme token → token ≡ token_of lexeme

-- `\t` is a tab
example_tab : unescaped (codes "a\\tb") ≡ 97 ∷ 9 ∷ 98 ∷ []
example_tab = refl

-- `\\` is one backslash, and escapes nothing behind it
example_backslash : unescaped (codes "\\\\t") ≡ 92 ∷ 116 ∷ []
example_backslash = refl
