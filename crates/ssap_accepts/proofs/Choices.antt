-- Lists of choices made of parts, and symbols that begin with white space.
use Rattle.std.proofs.Common.{◌≡◌, inl, inr, ◌⊎◌, ℕ, Bool, true, false, List, [], ◌∷◌, ◌++◌, refl, sym, ◌∙◌, ap, subst}
use Rattle.std.specs.List.{AllByRecursion}
use Rattle.ssap_grammar.specs.Front.{Front, Word, Nothing, Then, Many}
use Rattle.ssap_grammar.specs.Characters.{IsWhite, Spaces}
use Rattle.ssap_machine.specs.Words.{Lexeme, White}
use Rattle.ssap_machine.specs.Words as w
use Rattle.ssap_machine.specs.Options.{Choice, options, where_true, each}
use Rattle.ssap_machine.specs.declared.symbol.Symbol.{Symbol}
use Rattle.ssap_accepts.proofs.Goes.{Lex, Takes, Goes, Runs}
use Rattle.ssap_accepts.proofs.Means.{Either, Never, AnyOf, Where, OneWord, Into, Means, Offers, means_nothing, means_map, symbol_means, offers_none, offers_map, offers_exit, offers_loop}

-- readings in other words
pub into_same : (P : Front) → Into P P
into_same P bytes rest x = x

pub into_then : {P Q R S : Front} → Into P Q → Into R S → Into (Then P R) (Then Q S)
into_then f g bytes rest x = record { middle = x.middle; first = f bytes x.middle x.first; second = g x.middle rest x.second }

pub into_left : {P Q R : Front} → Into (Then P (Then Q R)) (Then (Then P Q) R)
into_left bytes rest x =
    record { middle = x.second.middle; first = record { middle = x.middle; first = x.first; second = x.second.first }; second = x.second.second }

pub into_right : {P Q R : Front} → Into (Then (Then P Q) R) (Then P (Then Q R))
into_right bytes rest x =
    record { middle = x.first.middle; first = x.first.first; second = record { middle = x.middle; first = x.first.second; second = x.second } }

pub nothing_behind : {P : Front} → Into P (Then P Nothing)
nothing_behind bytes rest x = record { middle = rest; first = x; second = refl }

pub drop_nothing : {P : Front} → Into (Then P Nothing) P
drop_nothing {P} bytes rest x = subst (λ r. P bytes r) x.second x.first

pub into_either : {P Q R S : Front} → Into P Q → Into R S → Into (Either P R) (Either Q S)
into_either f g bytes rest (inl x) = inl (f bytes rest x)
into_either f g bytes rest (inr x) = inr (g bytes rest x)

pub either_first : (P : Front) → Into (Either P Never) P
either_first P bytes rest (inl x) = x
either_first P bytes rest (inr x) = absurd x

pub first_either : (P : Front) → Into P (Either P Never)
first_either P bytes rest x = inl x

pub into_join : {P Q R : Front} → Into P Q → Into Q R → Into P R
into_join f g bytes rest x = g bytes rest (f bytes rest x)

-- a word as a lexeme
pub lex_word : (word : List ℕ) → Into (Lex (w.Word word)) (Word word)
lex_word word bytes rest x = x.2 ∙ ap (λ l. l ++ rest) x.1

pub word_lex : (word : List ℕ) → Into (Word word) (Lex (w.Word word))
word_lex word bytes rest x = (word, refl, x)

-- a word by which a symbol is left, before other choices
pub exit_word : {symbol : Symbol} (word : List ℕ) {pushed : List Symbol} {choices : List Choice} {P L E : Front} → Means pushed P
    → Offers symbol choices L E → Offers symbol ((w.Word word, pushed) ∷ choices) L (Either (Then (Word word) P) E)
exit_word word {P} {L} {E} p o =
    offers_map (into_same L) (into_same L) (into_either (into_then (lex_word word) (into_same P)) (into_same E))
    (into_either (into_then (word_lex word) (into_same P)) (into_same E)) (offers_exit (w.Word word) p o)

-- a word by which a symbol loops
pub loop_word : {symbol : Symbol} (word : List ℕ) (pushed : List Symbol) {choices : List Choice} {P L E : Front} → Means pushed P
    → Offers symbol choices L E → Offers symbol ((w.Word word, pushed ++ symbol ∷ []) ∷ choices) (Either (Then (Word word) P) L) E
loop_word word pushed {P = P} {L = L} {E = E} p o =
    offers_map (into_either (into_then (lex_word word) (into_same P)) (into_same L))
    (into_either (into_then (word_lex word) (into_same P)) (into_same L)) (into_same E) (into_same E) (offers_loop (w.Word word) pushed p o)

-- choices before others
pub takes_split : (n : ℕ) (some others : List Choice) (more : List Symbol) (bytes rest : List ℕ) → Takes (Goes n) (some ++ others) more bytes rest
    → Takes (Goes n) some more bytes rest ⊎ Takes (Goes n) others more bytes rest
takes_split n [] others more bytes rest x = inr x
takes_split n (choice ∷ choices) others more bytes rest (inl x) = inl (inl x)
takes_split n (choice ∷ choices) others more bytes rest (inr x) = elim (takes_split n choices others more bytes rest x) [
  | inl y ↦ inl (inr y)
  | inr y ↦ inr y
]

pub takes_first : (n : ℕ) (some others : List Choice) (more : List Symbol) (bytes rest : List ℕ) → Takes (Goes n) some more bytes rest
    → Takes (Goes n) (some ++ others) more bytes rest
takes_first n [] others more bytes rest x = absurd x
takes_first n (choice ∷ choices) others more bytes rest (inl x) = inl x
takes_first n (choice ∷ choices) others more bytes rest (inr x) = inr (takes_first n choices others more bytes rest x)

pub takes_later : (n : ℕ) (some others : List Choice) (more : List Symbol) (bytes rest : List ℕ) → Takes (Goes n) others more bytes rest
    → Takes (Goes n) (some ++ others) more bytes rest
takes_later n [] others more bytes rest x = x
takes_later n (choice ∷ choices) others more bytes rest x = inr (takes_later n choices others more bytes rest x)

pub offers_append : {symbol : Symbol} {some others : List Choice} {L M E F : Front} → Offers symbol some L E → Offers symbol others M F
    → Offers symbol (some ++ others) (Either L M) (Either E F)
offers_append {symbol} {some} {others} {L} {M} {E} {F} p q = record {
  reads = λ n more bytes rest x. elim (takes_split n some others more bytes rest x) [
    | inl y ↦ elim (p.reads n more bytes rest y) [
      | inl z ↦ inl (record { middle = z.middle; first = inl z.first; second = z.second })
      | inr z ↦ inr (record { middle = z.middle; first = inl z.first; second = z.second })
    ]
    | inr y ↦ elim (q.reads n more bytes rest y) [
      | inl z ↦ inl (record { middle = z.middle; first = inr z.first; second = z.second })
      | inr z ↦ inr (record { middle = z.middle; first = inr z.first; second = z.second })
    ]
  ];
  again = again;
  out = out;
}
  where
    again : (more : List Symbol) (bytes middle rest : List ℕ) → Either L M bytes middle → Runs (symbol ∷ more) middle rest
        → (n : ℕ) × Takes (Goes n) (some ++ others) more bytes rest
    again more bytes middle rest (inl x) y =
        let t = p.again more bytes middle rest x y in (t.0, takes_first t.0 some others more bytes rest t.1)
    again more bytes middle rest (inr x) y =
        let t = q.again more bytes middle rest x y in (t.0, takes_later t.0 some others more bytes rest t.1)

    out : (more : List Symbol) (bytes middle rest : List ℕ) → Either E F bytes middle → Runs more middle rest
        → (n : ℕ) × Takes (Goes n) (some ++ others) more bytes rest
    out more bytes middle rest (inl x) y =
        let t = p.out more bytes middle rest x y in (t.0, takes_first t.0 some others more bytes rest t.1)
    out more bytes middle rest (inr x) y =
        let t = q.out more bytes middle rest x y in (t.0, takes_later t.0 some others more bytes rest t.1)

-- words by any of which a symbol is left
pub exit_words : (symbol : Symbol) (list : List (List ℕ)) {pushed : List Symbol} {P : Front} → Means pushed P
    → Offers symbol (each list pushed) Never (Then (OneWord list) P)
exit_words symbol [] {P = P} p =
    offers_map (into_same Never) (into_same Never) (λ bytes rest x. absurd x) (λ bytes rest x. absurd x.first) (offers_none symbol)
exit_words symbol (word ∷ words) {P = P} p =
    offers_map (into_same Never) (into_same Never) (λ bytes rest. elim [
      | inl x ↦ record { middle = x.middle; first = inl x.first; second = x.second }
      | inr x ↦ record { middle = x.middle; first = inr x.first; second = x.second }
    ]) (λ bytes rest x. back bytes rest x.middle x.first x.second) (exit_word word p (exit_words symbol words p))
  where
    back : (bytes rest middle : List ℕ) → OneWord (word ∷ words) bytes middle → P middle rest → Either (Then (Word word) P) (Then (OneWord words) P) bytes rest
    back bytes rest middle (inl x) y = inl (record { middle = middle; first = x; second = y })
    back bytes rest middle (inr x) y = inr (record { middle = middle; first = x; second = y })

-- words by any of which a symbol loops
pub loop_words : (symbol : Symbol) (list : List (List ℕ)) → Offers symbol (each list (symbol ∷ [])) (OneWord list) Never
loop_words symbol [] = offers_none symbol
loop_words symbol (word ∷ words) =
    offers_map (into_either drop_nothing (into_same (OneWord words))) (into_either nothing_behind (into_same (OneWord words)))
    (into_same Never) (into_same Never) (loop_word word [] means_nothing (loop_words symbol words))

-- a choice that is there or not
pub offers_where : {symbol : Symbol} (condition : Bool) {choice : Choice} {L E : Front} → Offers symbol (choice ∷ []) L E
    → Offers symbol (where_true condition choice) (Where condition L) (Where condition E)
offers_where true o = offers_map (λ bytes rest x. (refl, x)) (λ bytes rest x. x.1) (λ bytes rest x. (refl, x)) (λ bytes rest x. x.1) o
offers_where {symbol} false o =
    offers_map (λ bytes rest x. absurd x) (λ bytes rest x. absurd (cc)) (λ bytes rest x. absurd x) (λ bytes rest x. absurd (cc)) (offers_none symbol)

-- a symbol that doesn't loop
pub exits_mean : (symbol : Symbol) {choices : List Choice} {Exit : Front} → options symbol ≡ choices → Offers symbol choices Never Exit
    → Means (symbol ∷ []) Exit
exits_mean symbol {Exit = Exit} e o =
    means_map (λ bytes rest x. subst (λ b. Exit b rest) (sym (only bytes x.middle x.first.0 x.first.1)) x.second)
    (λ bytes rest x. record { middle = bytes; first = ([], refl); second = x })
    (symbol_means {A = ⊥} symbol {P = λ _. Never} e (offers_map (λ bytes rest x. absurd x) (λ bytes rest x. absurd x.0) (into_same Exit) (into_same Exit) o))
  where
    only : (bytes rest : List ℕ) (values : List ⊥) → Many (λ _. Never) values bytes rest → bytes ≡ rest
    only bytes rest [] x = x
    only bytes rest (value ∷ values) x = absurd value

-- bytes of white space as lexemes
abbrev pub Whites : List (Unit {0}) → Front
Whites = Many (λ _. Lex White)

whites_spaces : (values : List (Unit {0})) → Into (Whites values) Spaces
whites_spaces [] bytes rest x = record { white = []; each = tt; reads = x }
whites_spaces (value ∷ values) bytes rest x =
    let later = whites_spaces values x.middle rest x.second in
    let byte = x.first.1 in
    record {
      white = byte.0 ∷ later.white;
      each = (byte.1, later.each);
      reads = x.first.2 ∙ (ap (λ l. l ++ x.middle) byte.2 ∙ ap (λ l. byte.0 ∷ l) later.reads);
    }

spaces_whites : (bytes rest white : List ℕ) → AllByRecursion IsWhite white → bytes ≡ white ++ rest → AnyOf Whites bytes rest
spaces_whites bytes rest [] h e = ([], e)
spaces_whites bytes rest (byte ∷ white) h e =
    let later = spaces_whites (white ++ rest) rest white h.1 refl in
    (tt ∷ later.0, record { middle = white ++ rest; first = (byte ∷ [], (byte, h.0, refl), e); second = later.1 })

-- a symbol that loops at white space alone
pub spaces_mean : (symbol : Symbol) {choices : List Choice} {Exit : Front} → options symbol ≡ (White, symbol ∷ []) ∷ choices
    → Offers symbol choices Never Exit → Means (symbol ∷ []) (Then Spaces Exit)
spaces_mean symbol {Exit = Exit} e o =
    means_map (into_then (λ bytes rest x. whites_spaces x.0 bytes rest x.1) (into_same Exit))
    (into_then (λ bytes rest x. spaces_whites bytes rest x.white x.each x.reads) (into_same Exit))
    (symbol_means symbol {P = λ (_ : Unit {0}). Lex White} e
    (offers_map (λ bytes rest x. (tt, drop_nothing {P = Lex White} bytes rest (either_first (Then (Lex White) Nothing) bytes rest x))) (λ bytes rest x. inl (nothing_behind {P = Lex White} bytes rest x.1))
    (into_same Exit) (into_same Exit) (offers_loop White [] means_nothing o)))
