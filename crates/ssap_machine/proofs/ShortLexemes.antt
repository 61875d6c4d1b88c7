-- A begun lexeme has fewer than 64 bytes.
use Rattle.std.proofs.Common.{◌≡◌, inl, inr, ℕ, ◌<◌, ◌≤◌, List, [], ◌∷◌, ◌++◌, length, length-append, ap, arith}
use Rattle.std.proofs.lemmas.Str.{length-encode, len_utf8_bounds}
use Rattle.ssap_machine.specs.Words.{Lexeme, Word, White, Except, IsLexeme}
use Rattle.ssap_machine.specs.Options.{options}
use Rattle.ssap_machine.specs.Machine.{IsAmong, Begins}
use Rattle.ssap_machine.specs.Progress.{IsPending}
use Rattle.ssap_machine.specs.declared.symbol.Symbol.{Symbol}
use Rattle.ssap_machine.proofs.Facts.{word_short}

-- a lexeme has at most 63 bytes
lexeme_short : (symbol : Symbol) (lexeme : Lexeme) (pushed : List Symbol) (bytes : List ℕ) → IsAmong (lexeme, pushed) (options symbol)
    → IsLexeme lexeme bytes → length bytes ≤ 63
lexeme_short symbol (Word word) pushed bytes among is =
    let short = word_short symbol word pushed among in
    omega (arith, ap length is, short)
lexeme_short symbol White pushed bytes among is = omega (arith, ap length is.2)
lexeme_short symbol (Except refused) pushed bytes among is =
    let small = (len_utf8_bounds is.0).1 in
    omega (arith, ap length is.3, length-encode is.0, small)

-- what is pending of a lexeme has fewer than 64 bytes
pub pending_short : (symbols : List Symbol) (pending : List ℕ) → IsPending symbols pending → length pending < 64
pending_short symbols pending (inl none) = omega (arith, ap length none)
pending_short [] pending (inr half) = absurd half
pending_short (symbol ∷ symbols) pending (inr half) =
    let begins : Begins symbol (pending ++ half.0) half.1 = half.3 in
    let short = lexeme_short symbol begins.lexeme half.1 (pending ++ half.0) begins.among begins.is in
    let some = half.2 in
    omega (arith, short, some, length-append pending half.0)
