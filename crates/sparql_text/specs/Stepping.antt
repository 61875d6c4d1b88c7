-- The symbols that a step of the code gives.
use Rattle.std.specs.Prelude.{◌≡◌, Bool, true, false, List, [], ◌∷◌, Option, Some, None}
use Rattle.std.specs.Option.{option_map}
use Rattle.std.specs.Borrow.{Bor}
use Rattle.sparql_text.specs.declared.step.Follows.{Follows}
use Rattle.sparql_text.specs.declared.step.Follows.TheVariants as follows
use Rattle.sparql_text.specs.declared.lexeme.Lexeme.{Lexeme}
use Rattle.sparql_text.specs.declared.symbol.Kind.{Kind}
use Rattle.sparql_text.specs.declared.symbol.Symbol.{Symbol}
use Rattle.sparql_text.specs.declared.symbol.Symbol.TheVariants.{Joined, Compared}
use Rattle.sparql_text.specs.Tokens.{Token}
use Rattle.sparql_text.specs.Cutting.{StandsFor}
use Rattle.sparql_text.specs.Machine.{Step, take_one, kind_of}

-- the symbols that are pointed to
abbrev pub symbols : Option (Bor (List Symbol)) → Step
symbols found = option_map (λ slice. slice.now) found

-- the symbols that follow an operand or a call
abbrev pub behind : Follows → List Symbol
behind follows.Nothing = []
behind follows.Joined = Joined ∷ []
behind follows.Compared = Compared ∷ []

-- whether the stack takes a token of a kind, and the stack that is then left
abbrev pub Takes : List Symbol → Kind → List Symbol → Bool → Type 0
Takes before kind after true = take_one (Some before) kind ≡ Some after
Takes before kind after false = take_one (Some before) kind ≡ None

-- the kind is that of each token that the lexeme stands for
abbrev pub IsKindOf : Lexeme → Kind → Type 0
IsKindOf lexeme kind = (token : Token) → StandsFor lexeme token → kind ≡ kind_of token
