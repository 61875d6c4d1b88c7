-- Token by token the machine goes on, or the text leads to nothing.
use Rattle.std.proofs.Common.{◌≡◌, ℕ, ◌+◌, Bool, true, false, List, [], ◌∷◌, ◌++◌, length, refl, ap, Some, None}
use Rattle.sparql_text.specs.declared.symbol.Symbol.{Symbol}
use Rattle.sparql_text.specs.declared.symbol.Symbol.TheVariants.{Start}
use Rattle.sparql_text.specs.declared.symbol.Kind.{Kind}
use Rattle.sparql_text.specs.Tokens.{Token}
use Rattle.sparql_text.specs.Lexing.{Gap, Begins, Placed, Lexes}
use Rattle.sparql_text.specs.Lexing.Lexes.{NoToken, Goes}
use Rattle.sparql_text.specs.Machine.{kind_of, take_one, stack_behind}
use Rattle.sparql_text.specs.Faults.{alone}
use Rattle.sparql_text.specs.Stepping.{Takes}
use Rattle.sparql_text.proofs.Completions.{run_both}

-- one more token
pub lexes_more : (total : ℕ) (bytes left : List ℕ) (tokens : List Placed) (middle next : List ℕ) (token : Token) (place : ℕ) → Lexes total bytes tokens left → Gap left middle
    → Begins token middle next → place + length middle ≡ total → Lexes total bytes (tokens ++ record { token = token; place = place } ∷ []) next
lexes_more total bytes left tokens middle next token place (NoToken b) gap begins at = Goes b middle next token place [] next gap begins at (NoToken next)
lexes_more total bytes left tokens middle next token place (Goes b m n other p others r g is a more) gap begins at =
    Goes b m n other p (others ++ record { token = token; place = place } ∷ []) next g is a (lexes_more total n r others middle next token place more gap begins at)

-- the tokens alone, and the stack behind one more
pub alone_more : (tokens : List Placed) (placed : Placed) → alone (tokens ++ placed ∷ []) ≡ alone tokens ++ placed.token ∷ []
alone_more [] placed = refl
alone_more (first ∷ tokens) placed = ap (λ l. first.token ∷ l) (alone_more tokens placed)

pub stack_more : (tokens : List Token) (token : Token) → stack_behind (tokens ++ token ∷ []) ≡ take_one (stack_behind tokens) (kind_of token)
stack_more tokens token = run_both (Some (Start ∷ [])) tokens (token ∷ [])

-- what the code tells of a token
pub took : (stack now : List Symbol) (kind : Kind) (taken : Bool) → Takes stack kind now taken → taken ≡ true → take_one (Some stack) kind ≡ Some now
took stack now kind true h e = h
took stack now kind false h e = absurd (cc)

pub refused : (stack now : List Symbol) (kind : Kind) (taken : Bool) → Takes stack kind now taken → taken ≡ false → take_one (Some stack) kind ≡ None
refused stack now kind true h e = absurd (cc)
refused stack now kind false h e = h
