-- Whether bytes begin with all that some symbols accept, or are a front of it, or lead nowhere.
use Rattle.std.proofs.Common.{◌≡◌, ◌⊎◌, inl, inr, ℕ, zero, suc, ◌<◌, Bool, true, false, List, [], ◌∷◌, ◌++◌, length, refl, sym, ◌∙◌, ap, subst, append_assoc, length-append, arith}
use Rattle.std.specs.Prelude.{encode_utf8, ◌≢◌}
use Rattle.std.specs.List.{AllByRecursion}
use Rattle.std.proofs.lemmas.Bool.{both_ways}
use Rattle.m3_terms.specs.Text.{is_allowed, IsAllowed}
use Rattle.m3_terms.proofs.Starts.{Start, Found, Half, Stuck, start_map, start_never, start_either, number_same, start_word, start_below}
use Rattle.ssap_grammar.specs.Characters.{is_white, IsWhite}
use Rattle.ssap_grammar.proofs.Characters.{white_small}
use Rattle.ssap_machine.specs.Words.{Lexeme, Word, White, Except, IsLexeme}
use Rattle.ssap_machine.specs.Options.{Choice, options}
use Rattle.ssap_machine.specs.Machine.{IsAmong, Begins, Accepts, Stay, Step}
use Rattle.ssap_machine.specs.declared.symbol.Symbol.{Symbol}
use Rattle.ssap_machine.proofs.Encodings.{allowed_ranges}
use Rattle.ssap_machine.proofs.Apart.{begins_once, begins_some}
use Rattle.ssap_machine.proofs.Walking.{accepts_begins}
use Rattle.ssap_machine.proofs.Completions.{symbols_end, goes_from}

-- a byte of white space
start_white : (bytes : List ℕ) → Start (IsLexeme White) bytes
start_white bytes = start_map _ (IsLexeme White) bytes to from (start_below W bytes each 33)
  where
    W : ℕ → List ℕ → Type 0
    W byte word = IsWhite byte × (word ≡ byte ∷ [])

    each : (byte : ℕ) → Start (W byte) bytes
    each byte = go (is_white byte) refl
      where
        go : (b : Bool) → is_white byte ≡ b → Start (W byte) bytes
        go true e = start_map (λ word. word ≡ byte ∷ []) (W byte) bytes (λ word x. (e, x)) (λ word x. x.1) (start_word (byte ∷ []) bytes)
        go false e = start_never (W byte) bytes (λ word x. both_ways (is_white byte) e x.0)

    to : (word : List ℕ) → ((byte : ℕ) × (byte < 33) × W byte word) → IsLexeme White word
    to word x = (x.0, x.2.0, x.2.1)

    from : (word : List ℕ) → IsLexeme White word → (byte : ℕ) × (byte < 33) × W byte word
    from word x = (x.0, white_small x.0 x.1, (x.1, x.2))

-- a number is none of some, or one
none_of : (c : ℕ) (refused : List ℕ) → AllByRecursion (λ other. c ≢ other) refused ⊎ (¬ (AllByRecursion (λ other. c ≢ other) refused))
none_of c [] = inl tt
none_of c (x ∷ refused) = elim (number_same c x) [
  | inl same ↦ inr (λ all. all.0 same)
  | inr other ↦ elim (none_of c refused) [
    | inl all ↦ inl (other, all)
    | inr some ↦ inr (λ all. some all.1)
  ]
]

-- an allowed character but for some
start_except : (refused bytes : List ℕ) → Start (IsLexeme (Except refused)) bytes
start_except refused bytes = start_map _ (IsLexeme (Except refused)) bytes to from (start_below W bytes each 0x110000)
  where
    W : ℕ → List ℕ → Type 0
    W c word = IsAllowed c × AllByRecursion (λ other. c ≢ other) refused × (word ≡ encode_utf8 c)

    each : (c : ℕ) → Start (W c) bytes
    each c = go (is_allowed c) refl (none_of c refused)
      where
        go : (b : Bool) → is_allowed c ≡ b → AllByRecursion (λ other. c ≢ other) refused ⊎ (¬ (AllByRecursion (λ other. c ≢ other) refused)) → Start (W c) bytes
        go true e (inl all) =
            start_map (λ word. word ≡ encode_utf8 c) (W c) bytes (λ word x. (e, all, x)) (λ word x. x.2) (start_word (encode_utf8 c) bytes)
        go true e (inr some) = start_never (W c) bytes (λ word x. some x.1)
        go false e s = start_never (W c) bytes (λ word x. both_ways (is_allowed c) e x.0)

    to : (word : List ℕ) → ((c : ℕ) × (c < 0x110000) × W c word) → IsLexeme (Except refused) word
    to word x = (x.0, x.2.0, x.2.1, x.2.2)

    small : (c : ℕ) → IsAllowed c → c < 0x110000
    small c allowed = elim (allowed_ranges c allowed) [
      | inl r ↦ omega arith
      | inr (inl r) ↦ let top = r.1 in omega (arith, top)
      | inr (inr r) ↦ let top = r.1 in omega (arith, top)
    ]

    from : (word : List ℕ) → IsLexeme (Except refused) word → (c : ℕ) × (c < 0x110000) × W c word
    from word x = (x.0, small x.0 x.1, (x.1, x.2, x.3))

-- a lexeme
start_lexeme : (lexeme : Lexeme) (bytes : List ℕ) → Start (IsLexeme lexeme) bytes
start_lexeme (Word word) bytes = start_word word bytes
start_lexeme White bytes = start_white bytes
start_lexeme (Except refused) bytes = start_except refused bytes

-- a lexeme of some choices
abbrev Chosen : List Choice → List ℕ → Type 0
Chosen choices word = (choice : Choice) × IsAmong choice choices × IsLexeme choice.0 word

start_choices : (choices : List Choice) (bytes : List ℕ) → Start (Chosen choices) bytes
start_choices [] bytes = start_never (Chosen []) bytes (λ word x. x.1)
start_choices (one ∷ choices) bytes =
    start_map _ (Chosen (one ∷ choices)) bytes to from
    (start_either (IsLexeme one.0) (Chosen choices) bytes (start_lexeme one.0 bytes) (start_choices choices bytes))
  where
    to : (word : List ℕ) → IsLexeme one.0 word ⊎ Chosen choices word → Chosen (one ∷ choices) word
    to word (inl x) = (one, inl refl, x)
    to word (inr x) = (x.0, inr x.1, x.2)

    from : (word : List ℕ) → Chosen (one ∷ choices) word → IsLexeme one.0 word ⊎ Chosen choices word
    from word (choice, inl same, x) = inl (subst (λ (c : Choice). IsLexeme c.0 word) same x)
    from word (choice, inr there, x) = inr (choice, there, x)

-- a lexeme of a symbol
abbrev Begun : Symbol → List ℕ → Type 0
Begun symbol word = (pushed : List Symbol) × Begins symbol word pushed

start_symbol : (symbol : Symbol) (bytes : List ℕ) → Start (Begun symbol) bytes
start_symbol symbol bytes = start_map (Chosen (options symbol)) (Begun symbol) bytes to from (start_choices (options symbol) bytes)
  where
    to : (word : List ℕ) → Chosen (options symbol) word → Begun symbol word
    to word x = (x.0.1, record { lexeme = x.0.0; among = x.1; is = x.2 })

    from : (word : List ℕ) → Begun symbol word → Chosen (options symbol) word
    from word x = ((x.1.lexeme, x.0), x.1.among, x.1.is)

-- behind a lexeme what it leads to decides
start_behind : (symbol : Symbol) (word : List ℕ) (pushed symbols : List Symbol) (bytes : List ℕ) → Begins symbol word pushed
    → Start (Accepts (pushed ++ symbols)) bytes → Start (Accepts (symbol ∷ symbols)) (word ++ bytes)
start_behind symbol word pushed symbols bytes begins (Found front rest x is) =
    Found (word ++ front) rest (Step symbol word pushed symbols front [] begins x) (ap (λ l. word ++ l) is ∙ sym (append_assoc word front rest))
start_behind symbol word pushed symbols bytes begins (Half more some x) =
    Half more some (subst (Accepts (symbol ∷ symbols)) (sym (append_assoc word bytes more)) (Step symbol word pushed symbols (bytes ++ more) [] begins x))
start_behind symbol word pushed symbols bytes begins (Stuck none) = Stuck (λ front more rest x is.
    let b = accepts_begins symbol symbols front x in
    let whole : word ++ (bytes ++ more) ≡ b.word ++ (b.rest ++ rest) =
    sym (append_assoc word bytes more) ∙ (is ∙ (ap (λ l. l ++ rest) b.is ∙ append_assoc b.word b.rest rest)) in
    let same = begins_once symbol word b.word pushed b.pushed (bytes ++ more) (b.rest ++ rest) begins b.begins whole in
    none b.rest more rest (subst (λ s. Accepts (s ++ symbols) b.rest) (sym same.symbols) b.accepts) same.rests)

-- one lexeme more, where what it leads to decides of shorter bytes
start_step : (symbol : Symbol) (symbols : List Symbol) (bytes : List ℕ)
    → ((stack : List Symbol) (rest : List ℕ) → length rest < length bytes → Start (Accepts stack) rest)
    → Start (Begun symbol) bytes → Start (Accepts (symbol ∷ symbols)) bytes
start_step symbol symbols bytes shorter (Found word rest (pushed, begins) is) =
    let some = begins_some symbol word pushed begins in
    let size : length bytes ≡ length (word ++ rest) = ap length is in
    subst (Start (Accepts (symbol ∷ symbols))) (sym is)
    (start_behind symbol word pushed symbols rest begins (shorter (pushed ++ symbols) rest (omega (arith, some, size, length-append word rest))))
start_step symbol symbols bytes shorter (Half more some (pushed, begins)) =
    let e = symbols_end (pushed ++ symbols) in
    Half (more ++ e.bytes) (omega (arith, some, length-append more e.bytes))
    (subst (Accepts (symbol ∷ symbols)) (append_assoc bytes more e.bytes)
    (Step symbol (bytes ++ more) pushed symbols e.bytes [] begins e.accepts))
start_step symbol symbols bytes shorter (Stuck none) = Stuck (λ front more rest x is.
    let b = accepts_begins symbol symbols front x in
    none b.word more (b.rest ++ rest) (b.pushed, b.begins) (is ∙ (ap (λ l. l ++ rest) b.is ∙ append_assoc b.word b.rest rest)))

-- bytes begin with all that is to come, or are the front of it, or lead nowhere
start_within : (n : ℕ) (symbols : List Symbol) (bytes : List ℕ) → length bytes < n → Start (Accepts symbols) bytes
start_within n [] bytes h = Found [] bytes (Stay []) refl
start_within n (symbol ∷ symbols) [] h =
    let e = goes_from (symbol ∷ symbols) [] [] (symbol ∷ symbols) (Stay (symbol ∷ symbols)) (λ none. absurd (cc)) (inl refl) in
    Half e.0 e.1 e.2
start_within zero (symbol ∷ symbols) (byte ∷ bytes) h = absurd (omega arith)
start_within (suc n) (symbol ∷ symbols) (byte ∷ bytes) h =
    start_step symbol symbols (byte ∷ bytes) (λ stack rest less. start_within n stack rest (omega arith)) (start_symbol symbol (byte ∷ bytes))

pub start_symbols : (symbols : List Symbol) (bytes : List ℕ) → Start (Accepts symbols) bytes
start_symbols symbols bytes = start_within (suc (length bytes)) symbols bytes (omega arith)
