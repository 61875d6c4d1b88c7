-- How the machine reads: symbols are a stack, the first of which is to come next.
use Rattle.std.specs.Prelude.{◌≡◌, ◌⊎◌, ℕ, ◌<◌, List, [], ◌∷◌, ◌++◌, length}
use Rattle.ssap_machine.specs.Words.{Lexeme, IsLexeme}
use Rattle.ssap_machine.specs.Options.{Choice, options}
use Rattle.ssap_machine.specs.declared.symbol.Symbol.{Symbol}
use Rattle.ssap_machine.specs.declared.symbol.Symbol.TheVariants.{Message}

-- the choice is among these
abbrev pub IsAmong : Choice → List Choice → Type 0
IsAmong choice [] = ⊥
IsAmong choice (other ∷ others) = (choice ≡ other) ⊎ IsAmong choice others

-- the symbol may begin with these bytes, and those symbols then stand in its place
pub record Begins (symbol : Symbol) (word : List ℕ) (pushed : List Symbol) : Type 0 where
  pub lexeme : Lexeme
  pub among : IsAmong (lexeme, pushed) (options symbol)
  pub is : IsLexeme lexeme word

-- the bytes lead from some symbols to others, lexeme by lexeme
pub data Walks : List Symbol → List ℕ → List Symbol → Type 0 where
  Stay : (symbols : List Symbol) → Walks symbols [] symbols
  Step : (symbol : Symbol) (word : List ℕ) (pushed symbols : List Symbol) (bytes : List ℕ) (left : List Symbol)
      → Begins symbol word pushed → Walks (pushed ++ symbols) bytes left → Walks (symbol ∷ symbols) (word ++ bytes) left

-- the bytes are all that is to come
abbrev pub Accepts : List Symbol → List ℕ → Type 0
Accepts symbols bytes = Walks symbols bytes []

-- the bytes are a message, as the machine reads it
abbrev pub IsMessage : List ℕ → Type 0
IsMessage bytes = Accepts (Message ∷ []) bytes

-- the bytes begin a lexeme of the first symbol, and are not the whole of one
abbrev pub IsHalf : List Symbol → List ℕ → Type 0
IsHalf [] pending = ⊥
IsHalf (symbol ∷ symbols) pending = (more : List ℕ) × (pushed : List Symbol) × (0 < length more) × Begins symbol (pending ++ more) pushed

-- no lexeme of the first symbol begins with these bytes
abbrev pub IsStuck : List Symbol → List ℕ → Type 0
IsStuck [] bytes = ⊥
IsStuck (symbol ∷ symbols) bytes = (more : List ℕ) (pushed : List Symbol) → ¬ Begins symbol (bytes ++ more) pushed
