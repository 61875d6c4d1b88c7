-- Readings with what is counted of their tokens: each leads from one tally to another, which has grown by what was read.
use Rattle.std.proofs.Common.{ℕ, ◌≡◌, ◌+◌, ◌≤◌, ◌<◌, true, false, ◌||◌, List, ◌∷◌, length, refl, sym, ◌∙◌, ap, subst, arith}
use Rattle.std.specs.Prelude.{⊤}
use Rattle.std.specs.List.{AllByRecursion}
use Rattle.sparql_text.specs.declared.word.Word.{Word}
use Rattle.sparql_text.specs.declared.word.Word.TheVariants as word
use Rattle.sparql_text.specs.declared.symbol.Kind.{Kind}
use Rattle.sparql_text.specs.declared.symbol.Kind.TheVariants as kind
use Rattle.sparql_text.specs.declared.tally.Tally.{Tally}
use Rattle.sparql_text.specs.Tokens.{Token}
use Rattle.sparql_text.specs.Scope.{Scope, variable_of}
use Rattle.sparql_text.specs.Machine.{kind_of}
use Rattle.sparql_text.specs.Tallying.{counted, one_if, is_operator_word, is_condition_word, is_open_paren_word, is_close_paren_word, is_open_brace_word, tally_from}
use Rattle.sparql_text.proofs.Weights.{Weight, nothing, both, Fits}

-- the variable of a token, if it is one, has a name
abbrev pub IsKnown : Scope → Token → Type 0
IsKnown scope (Token.Variable name) = (variable_of scope name).0 < length scope.names
IsKnown scope (Token.Iri iri) = ⊤
IsKnown scope (Token.Name prefix local) = ⊤
IsKnown scope (Token.String value) = ⊤
IsKnown scope (Token.Fixed w) = ⊤

-- and so of each token
abbrev pub AreKnown : Scope → List Token → Type 0
AreKnown scope tokens = AllByRecursion (IsKnown scope) tokens

-- from one tally tokens lead to another in a state, where the rest is left, have what was read, and count for so much
pub record Passes (scope : Scope) (After : Tally → Type 0) (Has : Type 0) (weight : Weight) (before : Tally) (tokens rest : List Token) : Type 0 where
  pub now : Tally
  pub state : After now
  pub ends : tally_from before tokens ≡ tally_from now rest
  pub operators : before.operators + weight.operators ≤ now.operators
  pub conditions : before.conditions + weight.conditions ≤ now.conditions
  pub patterns : before.patterns + weight.patterns ≤ now.patterns
  pub known : AreKnown scope tokens → AreKnown scope rest
  pub has : AreKnown scope tokens → Has

-- the same from each tally in a state
pub record Reading (scope : Scope) (Before After : Tally → Type 0) (Has : Type 0) (weight : Weight) (tokens rest : List Token) : Type 0 where
  pub from : (before : Tally) → Before before → Passes scope After Has weight before tokens rest

-- one reading and then another
pub reading_then : {scope : Scope} {P Q R : Tally → Type 0} {A B : Type 0} {v w : Weight} {tokens middle rest : List Token} → Reading scope P Q A v tokens middle
    → Reading scope Q R B w middle rest → Reading scope P R (A × B) (both v w) tokens rest
reading_then first second = record {
  from = λ before state.
      let a = first.from before state in
      let b = second.from a.now a.state in
      record {
        now = b.now;
        state = b.state;
        ends = a.ends ∙ b.ends;
        operators = omega (arith, a.operators, b.operators);
        conditions = omega (arith, a.conditions, b.conditions);
        patterns = omega (arith, a.patterns, b.patterns);
        known = λ k. b.known (a.known k);
        has = λ k. (a.has k, b.has (a.known k));
      };
}

-- what has more has less, and counts for less
pub reading_as : {scope : Scope} {P Q : Tally → Type 0} {A B : Type 0} {v w : Weight} {tokens rest : List Token} → Reading scope P Q A v tokens rest → (A → B) → Fits w v
    → Reading scope P Q B w tokens rest
reading_as reading fewer fits = record {
  from = λ before state.
      let a = reading.from before state in
      record {
        now = a.now;
        state = a.state;
        ends = a.ends;
        operators = omega (arith, a.operators, fits.operators);
        conditions = omega (arith, a.conditions, fits.conditions);
        patterns = omega (arith, a.patterns, fits.patterns);
        known = a.known;
        has = λ k. fewer (a.has k);
      };
}

-- the same from a narrower state
pub reading_from : {scope : Scope} {P Q R : Tally → Type 0} {A : Type 0} {w : Weight} {tokens rest : List Token} → ((tally : Tally) → P tally → Q tally)
    → Reading scope Q R A w tokens rest → Reading scope P R A w tokens rest
reading_from narrows reading = record { from = λ before state. reading.from before (narrows before state) }

-- nothing is read
pub reading_nothing : {scope : Scope} {P Q : Tally → Type 0} {tokens rest : List Token} → ((tally : Tally) → P tally → Q tally) → tokens ≡ rest
    → Reading scope P Q ⊤ nothing tokens rest
reading_nothing {scope} {P} {Q} {tokens} widens e = subst (Reading scope P Q ⊤ nothing tokens) e (record {
  from = λ before state. record {
    now = before;
    state = widens before state;
    ends = refl;
    operators = omega arith;
    conditions = omega arith;
    patterns = omega arith;
    known = λ k. k;
    has = λ k. tt;
  };
})

-- what a token of a kind counts for
abbrev pub kind_weight : Kind → Weight
kind_weight k = record { operators = one_if (is_operator_word k); conditions = one_if (is_condition_word k); patterns = 0 }

-- one token
pub token_reads : (scope : Scope) (P Q : Tally → Type 0) (token : Token) (rest : List Token) → ((tally : Tally) → P tally → Q (counted tally (kind_of token)))
    → Reading scope P Q (IsKnown scope token) (kind_weight (kind_of token)) (token ∷ rest) rest
token_reads scope P Q token rest steps = record {
  from = λ before state. record {
    now = counted before (kind_of token);
    state = steps before state;
    ends = refl;
    operators = omega arith;
    conditions = omega arith;
    patterns = omega arith;
    known = λ k. k.1;
    has = λ k. k.0;
  };
}

-- one token with what it stands for
pub one_reads : {scope : Scope} {P Q : Tally → Type 0} {A : Type 0} {tokens : List Token} (token : Token) (rest : List Token)
    → ((tally : Tally) → P tally → Q (counted tally (kind_of token))) → (IsKnown scope token → A) → tokens ≡ token ∷ rest → Reading scope P Q A nothing tokens rest
one_reads {scope} {P} {Q} {A} token rest steps has e =
    subst (λ t. Reading scope P Q A nothing t rest) (sym e)
    (reading_as (token_reads scope P Q token rest steps) has (record { operators = omega arith; conditions = omega arith; patterns = omega arith }))

-- a tally in the pattern of a query, and in so many parentheses
pub record Deep (depth : ℕ) (tally : Tally) : Type 0 where
  pub in_pattern : tally.in_pattern ≡ true
  pub parens : tally.open_parens ≡ tally.close_parens + depth

-- a kind is no parenthesis
pub record IsPlain (k : Kind) : Type 0 where
  pub opens : is_open_paren_word k ≡ false
  pub closes : is_close_paren_word k ≡ false

pub deep_plain : (depth : ℕ) (k : Kind) → IsPlain k → (tally : Tally) → Deep depth tally → Deep depth (counted tally k)
deep_plain depth k plain tally d = record {
  in_pattern = ap (λ b. b || is_open_brace_word k) d.in_pattern;
  parens = let a = ap one_if plain.opens in let b = ap one_if plain.closes in let c = d.parens in omega (arith, a, b, c);
}

deep_open : (depth : ℕ) (tally : Tally) → Deep depth tally → Deep (depth + 1) (counted tally (kind.Fixed word.OpenParen))
deep_open depth tally d = record {
  in_pattern = ap (λ b. b || false) d.in_pattern;
  parens = let c = d.parens in omega (arith, c);
}

deep_close : (depth : ℕ) (tally : Tally) → Deep (depth + 1) tally → Deep depth (counted tally (kind.Fixed word.CloseParen))
deep_close depth tally d = record {
  in_pattern = ap (λ b. b || false) d.in_pattern;
  parens = let c = d.parens in omega (arith, c);
}

-- a word
pub word_reads : (scope : Scope) (P Q : Tally → Type 0) (w : Word) (tokens rest : List Token) → ((tally : Tally) → P tally → Q (counted tally (kind.Fixed w)))
    → tokens ≡ Token.Fixed w ∷ rest → Reading scope P Q ⊤ (kind_weight (kind.Fixed w)) tokens rest
word_reads scope P Q w tokens rest steps e =
    subst (λ t. Reading scope P Q ⊤ (kind_weight (kind.Fixed w)) t rest) (sym e) (token_reads scope P Q (Token.Fixed w) rest steps)

-- a word that is no parenthesis
pub plain_reads : (scope : Scope) (depth : ℕ) (w : Word) (tokens rest : List Token) → IsPlain (kind.Fixed w) → tokens ≡ Token.Fixed w ∷ rest
    → Reading scope (Deep depth) (Deep depth) ⊤ (kind_weight (kind.Fixed w)) tokens rest
plain_reads scope depth w tokens rest plain e = word_reads scope (Deep depth) (Deep depth) w tokens rest (deep_plain depth (kind.Fixed w) plain) e

-- `(`
pub open_reads : (scope : Scope) (depth : ℕ) (tokens rest : List Token) → tokens ≡ Token.Fixed word.OpenParen ∷ rest
    → Reading scope (Deep depth) (Deep (depth + 1)) ⊤ nothing tokens rest
open_reads scope depth tokens rest e = word_reads scope (Deep depth) (Deep (depth + 1)) word.OpenParen tokens rest (deep_open depth) e

-- `)`
pub close_reads : (scope : Scope) (depth : ℕ) (tokens rest : List Token) → tokens ≡ Token.Fixed word.CloseParen ∷ rest
    → Reading scope (Deep (depth + 1)) (Deep depth) ⊤ nothing tokens rest
close_reads scope depth tokens rest e = word_reads scope (Deep (depth + 1)) (Deep depth) word.CloseParen tokens rest (deep_close depth) e

-- what is read between parentheses
pub reading_within : {scope : Scope} {depth : ℕ} {A : Type 0} {w : Weight} {tokens inner middle rest : List Token} → tokens ≡ Token.Fixed word.OpenParen ∷ inner
    → Reading scope (Deep (depth + 1)) (Deep (depth + 1)) A w inner middle → middle ≡ Token.Fixed word.CloseParen ∷ rest
    → Reading scope (Deep depth) (Deep depth) A w tokens rest
reading_within {scope} {depth} {tokens = tokens} {inner = inner} {middle = middle} {rest = rest} opens reading closes =
    reading_as (reading_then (open_reads scope depth tokens inner opens) (reading_then reading (close_reads scope depth middle rest closes)))
    (λ h. h.1.0) (record { operators = omega arith; conditions = omega arith; patterns = omega arith })
