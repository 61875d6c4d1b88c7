-- Steps of the machine from what was found, and their chains.
use Rattle.std.proofs.Common.{◌≡◌, inl, inr, ℕ, ◌+◌, ◌<◌, List, [], ◌∷◌, ◌++◌, length, take, append_assoc, add-one, refl, sym, ap, subst, arith}
use Rattle.std.proofs.lemmas.List.{append-nil}
use Rattle.ssap_machine.specs.declared.symbol.Symbol.{Symbol}
use Rattle.ssap_machine.specs.declared.choice.Pushes.{Pushes}
use Rattle.ssap_machine.specs.declared.choice.Found.TheVariants.{Whole, Stuck}
use Rattle.ssap_machine.specs.declared.step.Step.TheVariants as step
use Rattle.ssap_machine.specs.Words.{Lexeme, Word, White, Except, IsLexeme}
use Rattle.ssap_machine.specs.Options.{options}
use Rattle.ssap_machine.specs.Machine.{IsAmong, Begins, Walks, Stay, Step}
use Rattle.ssap_machine.specs.Heights.{Fits}
use Rattle.ssap_machine.specs.Choosing.{pushed, IsFrontOf, Tells}
use Rattle.ssap_machine.specs.Progress.{IsPending, Steps, OnlyWords}
use Rattle.ssap_machine.proofs.Facts.{word_low, pushed_fit}

-- one lexeme
pub walks_one : (symbol : Symbol) (word : List ℕ) (symbols below : List Symbol) → Begins symbol word symbols → Walks (symbol ∷ below) word (symbols ++ below)
walks_one symbol word symbols below begins = subst (λ w. Walks (symbol ∷ below) w (symbols ++ below)) (append-nil word)
    (Step symbol word symbols below [] (symbols ++ below) begins (Stay (symbols ++ below)))

-- one walk and then another
pub walks_join : (old middle new : List Symbol) (xs ys : List ℕ) → Walks old xs middle → Walks middle ys new → Walks old (xs ++ ys) new
walks_join _ _ new _ ys (Stay symbols) rest = rest
walks_join _ _ new _ ys (Step symbol word pushes symbols bytes left begins walks) rest =
    subst (λ w. Walks (symbol ∷ symbols) w new) (sym (append_assoc word bytes ys))
    (Step symbol word pushes symbols (bytes ++ ys) new begins (walks_join (pushes ++ symbols) left new bytes ys walks rest))

-- what fits still fits
pub walks_fit : (old new : List Symbol) (bytes : List ℕ) → Walks old bytes new → Fits old → Fits new
walks_fit _ _ _ (Stay symbols) fits = fits
walks_fit _ _ _ (Step symbol word pushes symbols bytes left begins walks) fits =
    walks_fit (pushes ++ symbols) left bytes walks (pushed_fit symbol begins.lexeme pushes symbols begins.among fits)

begins_word : (symbol : Symbol) (word : List ℕ) (symbols : List Symbol) → IsAmong (Word word, symbols) (options symbol) → Begins symbol word symbols
begins_word symbol word symbols among = record { lexeme = Word word; among = among; is = refl }

-- a word that was found is read
pub word_taken : (symbol : Symbol) (bytes : List ℕ) (count : ℕ) (pushes : Pushes) (below : List Symbol) → Tells (options symbol) bytes (Whole count pushes)
    → Steps symbol bytes (step.Taken count) below (pushed pushes ++ below)
word_taken symbol bytes count pushes below tells =
    let low = word_low symbol tells.0 (pushed pushes) tells.1 in
    let some = ap length low.2 in (
      omega (arith, some, tells.2),
      tells.3,
      subst (λ w. Walks (symbol ∷ below) w (pushed pushes ++ below)) (sym tells.4)
          (walks_one symbol tells.0 (pushed pushes) below (begins_word symbol tells.0 (pushed pushes) tells.1)),
    )

-- a front of a word is pending
pub word_pending : (symbol : Symbol) (bytes : List ℕ) (below : List Symbol) → IsFrontOf (options symbol) bytes → IsPending (symbol ∷ below) bytes
word_pending symbol bytes below (inl none) = inl none
word_pending symbol bytes below (inr x) = inr (x.2, x.1, x.3, subst (λ w. Begins symbol w x.1) x.5 (begins_word symbol x.0 x.1 x.4))

lexeme_stuck : (symbol : Symbol) (bytes : List ℕ) (place : ℕ) (lexeme : Lexeme) (symbols : List Symbol) (more : List ℕ) → place < length bytes → OnlyWords symbol bytes
    → ((word : List ℕ) (pushes : List Symbol) (rest : List ℕ) → IsAmong (Word word, pushes) (options symbol) → ¬ (word ≡ take (place + 1) bytes ++ rest))
    → IsAmong (lexeme, symbols) (options symbol) → ¬ (IsLexeme lexeme (take (place + 1) bytes ++ more))
lexeme_stuck symbol bytes place (Word word) symbols more within only none among is = none word symbols more among (sym is)
lexeme_stuck symbol [] place White symbols more within only none among is = omega arith
lexeme_stuck symbol (byte ∷ bytes) place White symbols more within only none among is =
    only White symbols (take place bytes ++ more) among tt (rw add-one at is)
lexeme_stuck symbol [] place (Except refused) symbols more within only none among is = omega arith
lexeme_stuck symbol (byte ∷ bytes) place (Except refused) symbols more within only none among is =
    only (Except refused) symbols (take place bytes ++ more) among tt (rw add-one at is)

-- no word, and nothing else, goes on
pub word_stuck : (symbol : Symbol) (bytes : List ℕ) (place : ℕ) (below : List Symbol) → OnlyWords symbol bytes → Tells (options symbol) bytes (Stuck place)
    → Steps symbol bytes (step.Stuck place) below below
word_stuck symbol bytes place below only tells = (
  refl,
  tells.0,
  word_pending symbol (take place bytes) below tells.1,
  λ more symbols begins. lexeme_stuck symbol bytes place begins.lexeme symbols more tells.0 only tells.2 begins.among begins.is,
)
