-- Symbols that take just what a front reads, made of parts.
use Rattle.std.proofs.Common.{◌≡◌, inl, inr, ◌⊎◌, ℕ, Bool, List, [], ◌∷◌, ◌++◌, refl, sym, subst, append_assoc, zero, suc}
use Rattle.std.specs.Prelude.{IsTrue}
use Rattle.ssap_grammar.specs.Front.{Front, Word, Nothing, Then, Many}
use Rattle.ssap_machine.specs.Words.{Lexeme}
use Rattle.ssap_machine.specs.Options.{Choice, options}
use Rattle.ssap_machine.specs.declared.symbol.Symbol.{Symbol}
use Rattle.ssap_accepts.proofs.Goes.{Lex, Takes, Goes, Runs, lift}

-- either of two things
abbrev pub Either : Front → Front → Front
Either First Second bytes rest = First bytes rest ⊎ Second bytes rest

-- no bytes at all
abbrev pub Never : Front
Never bytes rest = ⊥

-- a thing with some value
abbrev pub AnyOf : {A : Type 0} → (A → Front) → Front
AnyOf {A} One bytes rest = (value : A) × One value bytes rest

-- a thing, where the condition is true
abbrev pub Where : Bool → Front → Front
Where condition One bytes rest = IsTrue condition × One bytes rest

-- one of these words
abbrev pub OneWord : List (List ℕ) → Front
OneWord [] bytes rest = ⊥
OneWord (word ∷ words) bytes rest = Word word bytes rest ⊎ OneWord words bytes rest

-- what the first reads the second reads
abbrev pub Into : Front → Front → Type 0
Into First Second = (bytes rest : List ℕ) → First bytes rest → Second bytes rest

-- symbols take just what the front reads
pub record Means (symbols : List Symbol) (Reads : Front) : Type 0 where
  pub reads : (n : ℕ) (more : List Symbol) (bytes rest : List ℕ) → Goes n (symbols ++ more) bytes rest → Then Reads (Goes n more) bytes rest
  pub goes : (more : List Symbol) (bytes middle rest : List ℕ) → Reads bytes middle → Runs more middle rest → Runs (symbols ++ more) bytes rest

-- by some of its choices a symbol loops to itself behind one front, and is left behind another
pub record Offers (symbol : Symbol) (choices : List Choice) (Loop Exit : Front) : Type 0 where
  pub reads : (n : ℕ) (more : List Symbol) (bytes rest : List ℕ) → Takes (Goes n) choices more bytes rest
      → Then Loop (Goes n (symbol ∷ more)) bytes rest ⊎ Then Exit (Goes n more) bytes rest
  pub again : (more : List Symbol) (bytes middle rest : List ℕ) → Loop bytes middle → Runs (symbol ∷ more) middle rest
      → (n : ℕ) × Takes (Goes n) choices more bytes rest
  pub out : (more : List Symbol) (bytes middle rest : List ℕ) → Exit bytes middle → Runs more middle rest
      → (n : ℕ) × Takes (Goes n) choices more bytes rest

-- no symbol takes nothing
pub means_nothing : Means [] Nothing
means_nothing = record {
  reads = λ n more bytes rest x. record { middle = bytes; first = refl; second = x };
  goes = λ more bytes middle rest x y. subst (λ b. Runs more b rest) (sym x) y;
}

-- some symbols and then others
pub means_then : {first second : List Symbol} {P Q : Front} → Means first P → Means second Q → Means (first ++ second) (Then P Q)
means_then {first} {second} p q = record {
  reads = λ n more bytes rest x.
      let one = p.reads n (second ++ more) bytes rest (subst (λ l. Goes n l bytes rest) (append_assoc first second more) x) in
      let two = q.reads n more one.middle rest one.second in
      record { middle = two.middle; first = record { middle = one.middle; first = one.first; second = two.first }; second = two.second };
  goes = λ more bytes middle rest x y.
      subst (λ l. Runs l bytes rest) (sym (append_assoc first second more))
      (p.goes (second ++ more) bytes x.middle rest x.first (q.goes more x.middle middle rest x.second y));
}

-- the same front in other words
pub means_map : {symbols : List Symbol} {P Q : Front} → Into P Q → Into Q P → Means symbols P → Means symbols Q
means_map f g p = record {
  reads = λ n more bytes rest x.
      let one = p.reads n more bytes rest x in record { middle = one.middle; first = f bytes one.middle one.first; second = one.second };
  goes = λ more bytes middle rest x y. p.goes more bytes middle rest (g bytes middle x) y;
}

-- a symbol loops any number of times, and is then left
symbol_reads : {A : Type 0} (symbol : Symbol) (choices : List Choice) (P : A → Front) (Exit : Front) → options symbol ≡ choices
    → Offers symbol choices (AnyOf P) Exit → (n : ℕ) (more : List Symbol) (bytes rest : List ℕ) → Goes n (symbol ∷ more) bytes rest
    → Then (Then (AnyOf (Many P)) Exit) (Goes n more) bytes rest
symbol_reads symbol choices P Exit e o zero more bytes rest x = absurd x
symbol_reads symbol choices P Exit e o (suc n) more bytes rest x =
    elim (o.reads n more bytes rest (subst (λ l. Takes (Goes n) l more bytes rest) e x)) [
      | inl l ↦
          let later = symbol_reads symbol choices P Exit e o n more l.middle rest l.second in
          record {
            middle = later.middle;
            first = record {
              middle = later.first.middle;
              first = (l.first.0 ∷ later.first.first.0, record { middle = l.middle; first = l.first.1; second = later.first.first.1 });
              second = later.first.second;
            };
            second = lift n more later.middle rest later.second;
          }
      | inr l ↦
          record {
            middle = l.middle;
            first = record { middle = bytes; first = ([], refl); second = l.first };
            second = lift n more l.middle rest l.second;
          }
    ]

symbol_goes : {A : Type 0} (symbol : Symbol) (choices : List Choice) (P : A → Front) (Exit : Front) → options symbol ≡ choices
    → Offers symbol choices (AnyOf P) Exit → (values : List A) (more : List Symbol) (bytes middle after rest : List ℕ) → Many P values bytes middle
    → Exit middle after → Runs more after rest → Runs (symbol ∷ more) bytes rest
symbol_goes symbol choices P Exit e o [] more bytes middle after rest x y z =
    let t = o.out more bytes after rest (subst (λ b. Exit b after) (sym x) y) z in
    (suc t.0, subst (λ l. Takes (Goes t.0) l more bytes rest) (sym e) t.1)
symbol_goes symbol choices P Exit e o (value ∷ values) more bytes middle after rest x y z =
    let t = o.again more bytes x.middle rest (value, x.first) (symbol_goes symbol choices P Exit e o values more x.middle middle after rest x.second y z) in
    (suc t.0, subst (λ l. Takes (Goes t.0) l more bytes rest) (sym e) t.1)

pub symbol_means : {A : Type 0} (symbol : Symbol) {choices : List Choice} {P : A → Front} {Exit : Front} → options symbol ≡ choices
    → Offers symbol choices (AnyOf P) Exit → Means (symbol ∷ []) (Then (AnyOf (Many P)) Exit)
symbol_means symbol {choices} {P} {Exit} e o = record {
  reads = λ n more bytes rest x. symbol_reads symbol choices P Exit e o n more bytes rest x;
  goes = λ more bytes middle rest x y. symbol_goes symbol choices P Exit e o x.first.0 more bytes x.middle middle rest x.first.1 x.second y;
}

-- no choice
pub offers_none : (symbol : Symbol) → Offers symbol [] Never Never
offers_none symbol = record {
  reads = λ n more bytes rest x. absurd x;
  again = λ more bytes middle rest x y. absurd x;
  out = λ more bytes middle rest x y. absurd x;
}

-- the same fronts in other words
pub offers_map : {symbol : Symbol} {choices : List Choice} {L M E F : Front} → Into L M → Into M L → Into E F → Into F E
    → Offers symbol choices L E → Offers symbol choices M F
offers_map f g h k o = record {
  reads = λ n more bytes rest x. elim (o.reads n more bytes rest x) [
    | inl y ↦ inl (record { middle = y.middle; first = f bytes y.middle y.first; second = y.second })
    | inr y ↦ inr (record { middle = y.middle; first = h bytes y.middle y.first; second = y.second })
  ];
  again = λ more bytes middle rest x y. o.again more bytes middle rest (g bytes middle x) y;
  out = λ more bytes middle rest x y. o.out more bytes middle rest (k bytes middle x) y;
}

-- a choice that is left behind these symbols, before others
pub offers_exit : {symbol : Symbol} (word : Lexeme) {pushed : List Symbol} {choices : List Choice} {P L E : Front} → Means pushed P
    → Offers symbol choices L E → Offers symbol ((word, pushed) ∷ choices) L (Either (Then (Lex word) P) E)
offers_exit {symbol} word {pushed} {choices} {P} {L} {E} p o = record { reads = reads; again = again; out = out }
  where
    reads : (n : ℕ) (more : List Symbol) (bytes rest : List ℕ) → Takes (Goes n) ((word, pushed) ∷ choices) more bytes rest
        → Then L (Goes n (symbol ∷ more)) bytes rest ⊎ Then (Either (Then (Lex word) P) E) (Goes n more) bytes rest
    reads n more bytes rest (inl x) =
        let one = p.reads n more x.middle rest x.second in
        inr (record { middle = one.middle; first = inl (record { middle = x.middle; first = x.first; second = one.first }); second = one.second })
    reads n more bytes rest (inr x) = elim (o.reads n more bytes rest x) [
      | inl y ↦ inl y
      | inr y ↦ inr (record { middle = y.middle; first = inr y.first; second = y.second })
    ]

    again : (more : List Symbol) (bytes middle rest : List ℕ) → L bytes middle → Runs (symbol ∷ more) middle rest
        → (n : ℕ) × Takes (Goes n) ((word, pushed) ∷ choices) more bytes rest
    again more bytes middle rest x y = let t = o.again more bytes middle rest x y in (t.0, inr t.1)

    out : (more : List Symbol) (bytes middle rest : List ℕ) → Either (Then (Lex word) P) E bytes middle → Runs more middle rest
        → (n : ℕ) × Takes (Goes n) ((word, pushed) ∷ choices) more bytes rest
    out more bytes middle rest (inl x) y =
        let t = p.goes more x.middle middle rest x.second y in
        (t.0, inl (record { middle = x.middle; first = x.first; second = t.1 }))
    out more bytes middle rest (inr x) y = let t = o.out more bytes middle rest x y in (t.0, inr t.1)

-- a choice that loops behind these symbols, before others
pub offers_loop : {symbol : Symbol} (word : Lexeme) (pushed : List Symbol) {choices : List Choice} {P L E : Front} → Means pushed P
    → Offers symbol choices L E → Offers symbol ((word, pushed ++ symbol ∷ []) ∷ choices) (Either (Then (Lex word) P) L) E
offers_loop {symbol} word pushed {choices} {P} {L} {E} p o = record { reads = reads; again = again; out = out }
  where
    reads : (n : ℕ) (more : List Symbol) (bytes rest : List ℕ) → Takes (Goes n) ((word, pushed ++ symbol ∷ []) ∷ choices) more bytes rest
        → Then (Either (Then (Lex word) P) L) (Goes n (symbol ∷ more)) bytes rest ⊎ Then E (Goes n more) bytes rest
    reads n more bytes rest (inl x) =
        let one = p.reads n (symbol ∷ more) x.middle rest (subst (λ l. Goes n l x.middle rest) (append_assoc pushed (symbol ∷ []) more) x.second) in
        inl (record { middle = one.middle; first = inl (record { middle = x.middle; first = x.first; second = one.first }); second = one.second })
    reads n more bytes rest (inr x) = elim (o.reads n more bytes rest x) [
      | inl y ↦ inl (record { middle = y.middle; first = inr y.first; second = y.second })
      | inr y ↦ inr y
    ]

    again : (more : List Symbol) (bytes middle rest : List ℕ) → Either (Then (Lex word) P) L bytes middle → Runs (symbol ∷ more) middle rest
        → (n : ℕ) × Takes (Goes n) ((word, pushed ++ symbol ∷ []) ∷ choices) more bytes rest
    again more bytes middle rest (inl x) y =
        let t = p.goes (symbol ∷ more) x.middle middle rest x.second y in (
          t.0,
          inl (record {
            middle = x.middle;
            first = x.first;
            second = subst (λ l. Goes t.0 l x.middle rest) (sym (append_assoc pushed (symbol ∷ []) more)) t.1;
          }),
        )
    again more bytes middle rest (inr x) y = let t = o.again more bytes middle rest x y in (t.0, inr t.1)

    out : (more : List Symbol) (bytes middle rest : List ℕ) → E bytes middle → Runs more middle rest
        → (n : ℕ) × Takes (Goes n) ((word, pushed ++ symbol ∷ []) ∷ choices) more bytes rest
    out more bytes middle rest x y = let t = o.out more bytes middle rest x y in (t.0, inr t.1)
