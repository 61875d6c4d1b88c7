-- How characters are read in texts, in attributes' values and in CDATA sections.
use Rattle.std.proofs.Common.{◌≡◌, ◌≢◌, ◌⊎◌, inl, inr, ℕ, ◌+◌, ◌<◌, ◌≤◌, Bool, true, false, List, [], ◌∷◌, ◌++◌, length, take, drop, get_or, add-one, append_assoc, refl, sym, ap, ◌∙◌, subst, arith}
use Rattle.std.specs.Prelude.{encode_utf8, encode_utf8_all}
use Rattle.std.specs.List.{AllByRecursion}
use Rattle.std.proofs.lemmas.Str.{char_from_byte, byte_from_char, encode_ascii}
use Rattle.std.proofs.lemmas.List.{append-nil, take-append-drop, length-take-le}
use Rattle.m3_terms.proofs.Lists.{heads_same}
use Rattle.m3_terms.specs.Text.{IsAllowed}
use Rattle.ssap_items.specs.declared.tags.TagName.{TagName}
use Rattle.ssap_items.specs.declared.tags.TagName.TheVariants as tag
use Rattle.ssap_grammar.specs.Characters.{IsWhite}
use Rattle.ssap_machine.specs.declared.symbol.Brackets.{Brackets}
use Rattle.ssap_machine.specs.declared.symbol.Brackets.TheVariants as bracket
use Rattle.ssap_machine.specs.declared.symbol.Symbol.{Symbol}
use Rattle.ssap_machine.specs.declared.symbol.Symbol.TheVariants.{Value, Blank, Text, Cdata}
use Rattle.ssap_machine.specs.declared.step.Step.TheVariants as step
use Rattle.ssap_machine.specs.Words.{Lexeme, Word, White, Except, IsLexeme}
use Rattle.ssap_machine.specs.Options.{options, quote_of}
use Rattle.ssap_machine.specs.Machine.{IsAmong, Begins, Walks, Stay}
use Rattle.ssap_machine.specs.Plain.{IsPlain, IsRun, Stops}
use Rattle.ssap_machine.specs.Progress.{Steps, OnlyWords, TakesCharacters, PlainBegins, PlainGoesOn, WordsAtStops, WordsAtAscii, IsTight, white_next, IsPending}
use Rattle.ssap_machine.proofs.Facts.{heads, among_heads, word_low}
use Rattle.ssap_grammar.proofs.Characters.{white_small}
use Rattle.ssap_machine.specs.CharacterFronts.{IsBegun, IsWholeCharacter, IsNoCharacter}
use Rattle.ssap_machine.proofs.Steps.{walks_one, walks_join}

-- a character that is not refused is read
begins_except : (symbol next : Symbol) (refused : List ℕ) (c : ℕ) → IsAmong (Except refused, next ∷ []) (options symbol) → IsAllowed c
    → AllByRecursion (λ other. c ≢ other) refused → Begins symbol (encode_utf8 c) (next ∷ [])
begins_except symbol next refused c among allowed apart = record { lexeme = Except refused; among = among; is = (c, allowed, apart, refl) }

apart_high : (c : ℕ) (refused : List ℕ) → 128 ≤ c → AllByRecursion (λ other. other < 128) refused → AllByRecursion (λ other. c ≢ other) refused
apart_high c [] h low = tt
apart_high c (other ∷ refused) h low = (λ e. omega (arith, low.0), apart_high c refused h low.1)

takes_characters : (symbol next : Symbol) (refused : List ℕ) → IsAmong (Except refused, next ∷ []) (options symbol) → AllByRecursion (λ other. other < 128) refused
    → TakesCharacters symbol next
takes_characters symbol next refused among low = λ c h allowed. begins_except symbol next refused c among allowed (apart_high c refused h low)

not_except : (byte : ℕ) (others refused : List ℕ) → byte < 128 → (IsAllowed byte → ¬ (AllByRecursion (λ other. byte ≢ other) refused))
    → ¬ (IsLexeme (Except refused) (byte ∷ others))
not_except byte others refused low none is =
    let same : is.0 ≡ byte = char_from_byte (byte ∷ others) [] is.0 (is.3 ∙ sym (append-nil (encode_utf8 is.0))) low (omega arith) in
    none (subst IsAllowed same is.1) (subst (λ c. AllByRecursion (λ other. c ≢ other) refused) same is.2)

not_white : (byte : ℕ) (others : List ℕ) → ¬ (IsWhite byte) → ¬ (IsLexeme White (byte ∷ others))
not_white byte others none is = none (subst IsWhite (sym (heads_same byte is.0 others [] is.2)) is.1)

only_by : (byte : ℕ) (others refused : List ℕ) (lexeme : Lexeme) → byte < 128 → (IsAllowed byte → ¬ (AllByRecursion (λ other. byte ≢ other) refused))
    → (lexeme ≡ Except refused) ⊎ ((lexeme ≡ White) × ¬ (IsWhite byte)) → ¬ (IsLexeme lexeme (byte ∷ others))
only_by byte others refused lexeme low none (inl e) is =
    not_except byte others refused low none (subst (λ l. IsLexeme l (byte ∷ others)) e is)
only_by byte others refused lexeme low none (inr w) is = not_white byte others w.1 (subst (λ l. IsLexeme l (byte ∷ others)) w.0 is)

-- only words begin with a byte that is refused
only_except : (symbol : Symbol) (byte : ℕ) (bytes refused : List ℕ)
    → ((lexeme : Lexeme) (pushed : List Symbol) → IsAmong (lexeme, pushed) (heads symbol) → (lexeme ≡ Except refused) ⊎ ((lexeme ≡ White) × ¬ (IsWhite byte)))
    → byte < 128 → (IsAllowed byte → ¬ (AllByRecursion (λ other. byte ≢ other) refused)) → OnlyWords symbol (byte ∷ bytes)
only_except symbol byte bytes refused which low none = λ lexeme pushed others among skip.
    only_by byte others refused lexeme low none (which lexeme pushed (among_heads symbol lexeme pushed skip among))

one_head : (lexeme other : Lexeme) (pushed symbols : List Symbol) → IsAmong (lexeme, pushed) ((other, symbols) ∷ []) → lexeme ≡ other
one_head lexeme other pushed symbols (inl e) = ap (λ (choice : Lexeme × List Symbol). choice.0) e
one_head lexeme other pushed symbols (inr among) = absurd among

-- in a text
text_among : (name : TagName) → IsAmong (Except (60 ∷ 38 ∷ []), Text name ∷ []) (options (Text name))
unfolding options
text_among name = inl refl

pub text_goes_on : (name : TagName) → PlainGoesOn (Text name) 60 38 60
text_goes_on name c plain = begins_except (Text name) (Text name) (60 ∷ 38 ∷ []) c (text_among name) plain.0
    (λ e. plain.1 (inl e), (λ e. plain.1 (inr (inl e)), tt))

pub text_begins : (name : TagName) (bytes : List ℕ) → PlainBegins (Text name) (Text name) 60 38 60 bytes
text_begins name bytes c rest plain e = text_goes_on name c plain

pub text_characters : (name : TagName) → TakesCharacters (Text name) (Text name)
text_characters name = takes_characters (Text name) (Text name) (60 ∷ 38 ∷ []) (text_among name) (omega arith, (omega arith, tt))

pub text_words : (name : TagName) (bytes : List ℕ) → WordsAtStops (Text name) 60 38 60 bytes
unfolding heads
text_words name [] = tt
text_words name (byte ∷ bytes) = λ low stops. only_except (Text name) byte bytes (60 ∷ 38 ∷ [])
    (λ lexeme pushed among. inl (one_head lexeme (Except (60 ∷ 38 ∷ [])) pushed (Text name ∷ []) among)) low
    (λ allowed apart. elim (stops allowed) [ inl e ↦ apart.0 e | inr (inl e) ↦ apart.1.0 e | inr (inr e) ↦ apart.0 e ])

-- in a value
value_among : (single : Bool) → IsAmong (Except (60 ∷ 38 ∷ quote_of single ∷ []), Value single ∷ []) (options (Value single))
unfolding options
value_among single = inl refl

pub value_goes_on : (single : Bool) → PlainGoesOn (Value single) 60 38 (quote_of single)
value_goes_on single c plain = begins_except (Value single) (Value single) (60 ∷ 38 ∷ quote_of single ∷ []) c (value_among single) plain.0
    (λ e. plain.1 (inl e), (λ e. plain.1 (inr (inl e)), (λ e. plain.1 (inr (inr e)), tt)))

pub value_begins : (single : Bool) (bytes : List ℕ) → PlainBegins (Value single) (Value single) 60 38 (quote_of single) bytes
value_begins single bytes c rest plain e = value_goes_on single c plain

pub quote_low : (single : Bool) → quote_of single < 128
quote_low true = omega arith
quote_low false = omega arith

pub value_characters : (single : Bool) → TakesCharacters (Value single) (Value single)
value_characters single = takes_characters (Value single) (Value single) (60 ∷ 38 ∷ quote_of single ∷ []) (value_among single)
    (omega arith, (omega arith, (quote_low single, tt)))

pub value_words : (single : Bool) (bytes : List ℕ) → WordsAtStops (Value single) 60 38 (quote_of single) bytes
unfolding heads
value_words single [] = tt
value_words single (byte ∷ bytes) = λ low stops. only_except (Value single) byte bytes (60 ∷ 38 ∷ quote_of single ∷ [])
    (λ lexeme pushed among. inl (one_head lexeme (Except (60 ∷ 38 ∷ quote_of single ∷ [])) pushed (Value single ∷ []) among)) low
    (λ allowed apart. elim (stops allowed) [ inl e ↦ apart.0 e | inr (inl e) ↦ apart.1.0 e | inr (inr e) ↦ apart.1.1.0 e ])

-- in a parameter of white space
pub blank_among : IsAmong (Except (60 ∷ 38 ∷ 0x20 ∷ 9 ∷ 13 ∷ 10 ∷ []), Text tag.Parameter ∷ []) (options Blank)
unfolding options
blank_among = inr (inl refl)

blank_tight : (byte : ℕ) (bytes : List ℕ) → IsTight Blank (byte ∷ bytes) → ¬ (IsWhite byte)
unfolding white_next
blank_tight byte bytes tight = tight Blank refl

tight_first : (c : ℕ) (rest bytes : List ℕ) → IsTight Blank bytes → bytes ≡ encode_utf8 c ++ rest → c < 128 → ¬ (IsWhite c)
tight_first c rest bytes tight e low = subst (λ xs. IsTight Blank xs → ¬ (IsWhite c)) (sym (e ∙ ap (λ xs. xs ++ rest) (encode_ascii c low)))
    (blank_tight c rest) tight

white_code : (c : ℕ) → (c ≡ 0x20) ⊎ (c ≡ 9) ⊎ (c ≡ 13) ⊎ (c ≡ 10) → IsWhite c
white_code c (inl e) = subst IsWhite (sym e) refl
white_code c (inr (inl e)) = subst IsWhite (sym e) refl
white_code c (inr (inr (inl e))) = subst IsWhite (sym e) refl
white_code c (inr (inr (inr e))) = subst IsWhite (sym e) refl

pub blank_begins : (bytes : List ℕ) → IsTight Blank bytes → PlainBegins Blank (Text tag.Parameter) 60 38 60 bytes
blank_begins bytes tight c rest plain e = begins_except Blank (Text tag.Parameter) (60 ∷ 38 ∷ 0x20 ∷ 9 ∷ 13 ∷ 10 ∷ []) c blank_among plain.0 (
  λ p. plain.1 (inl p),
  (
    λ p. plain.1 (inr (inl p)),
    (
      λ p. tight_first c rest bytes tight e (omega arith) (white_code c (inl p)),
      (
        λ p. tight_first c rest bytes tight e (omega arith) (white_code c (inr (inl p))),
        (
          λ p. tight_first c rest bytes tight e (omega arith) (white_code c (inr (inr (inl p)))),
          (
            λ p. tight_first c rest bytes tight e (omega arith) (white_code c (inr (inr (inr p)))),
            tt,
          ),
        ),
      ),
    ),
  ),
)

pub blank_characters : TakesCharacters Blank (Text tag.Parameter)
blank_characters = takes_characters Blank (Text tag.Parameter) (60 ∷ 38 ∷ 0x20 ∷ 9 ∷ 13 ∷ 10 ∷ []) blank_among
    (omega arith, (omega arith, (omega arith, (omega arith, (omega arith, (omega arith, tt))))))

two_heads : (lexeme first second : Lexeme) (pushed symbols others : List Symbol) → IsAmong (lexeme, pushed) ((first, symbols) ∷ (second, others) ∷ [])
    → (lexeme ≡ first) ⊎ (lexeme ≡ second)
two_heads lexeme first second pushed symbols others (inl e) = inl (ap (λ (choice : Lexeme × List Symbol). choice.0) e)
two_heads lexeme first second pushed symbols others (inr among) = inr (one_head lexeme second pushed others among)

blank_which : (byte : ℕ) (lexeme : Lexeme) (pushed : List Symbol) → ¬ (IsWhite byte) → IsAmong (lexeme, pushed) (heads Blank)
    → (lexeme ≡ Except (60 ∷ 38 ∷ 0x20 ∷ 9 ∷ 13 ∷ 10 ∷ [])) ⊎ ((lexeme ≡ White) × ¬ (IsWhite byte))
unfolding heads
blank_which byte lexeme pushed none among =
    elim (two_heads lexeme White (Except (60 ∷ 38 ∷ 0x20 ∷ 9 ∷ 13 ∷ 10 ∷ [])) pushed (Blank ∷ []) (Text tag.Parameter ∷ []) among) [
      | inl e ↦ inr (e, none)
      | inr e ↦ inl e
    ]

pub blank_words : (bytes : List ℕ) → IsTight Blank bytes → WordsAtStops Blank 60 38 60 bytes
blank_words [] tight = tt
blank_words (byte ∷ bytes) tight = λ low stops. only_except Blank byte bytes (60 ∷ 38 ∷ 0x20 ∷ 9 ∷ 13 ∷ 10 ∷ [])
    (λ lexeme pushed among. blank_which byte lexeme pushed (blank_tight byte bytes tight) among) low
    (λ allowed apart. elim (stops allowed) [ inl e ↦ apart.0 e | inr (inl e) ↦ apart.1.0 e | inr (inr e) ↦ apart.0 e ])

-- in a CDATA section
pub section_refused : Brackets → List ℕ
section_refused bracket.None = 93 ∷ []
section_refused bracket.One = 93 ∷ []
section_refused bracket.Some = 93 ∷ 62 ∷ []

pub section_among : (brackets : Brackets) → IsAmong (Except (section_refused brackets), Cdata bracket.None ∷ []) (options (Cdata brackets))
unfolding options section_refused
section_among bracket.None = inl refl
section_among bracket.One = inl refl
section_among bracket.Some = inl refl

pub section_goes_on : PlainGoesOn (Cdata bracket.None) 93 93 93
unfolding section_refused
section_goes_on c plain = begins_except (Cdata bracket.None) (Cdata bracket.None) (section_refused bracket.None) c (section_among bracket.None) plain.0
    (λ e. plain.1 (inl e), tt)

pub section_begins_one : (bytes : List ℕ) → PlainBegins (Cdata bracket.One) (Cdata bracket.None) 93 93 93 bytes
unfolding section_refused
section_begins_one bytes c rest plain e = begins_except (Cdata bracket.One) (Cdata bracket.None) (section_refused bracket.One) c (section_among bracket.One) plain.0
    (λ p. plain.1 (inl p), tt)

pub section_begins_some : (bytes : List ℕ) → ¬ (get_or bytes 0 0 ≡ 62) → PlainBegins (Cdata bracket.Some) (Cdata bracket.None) 93 93 93 bytes
unfolding section_refused
section_begins_some bytes none c rest plain e = begins_except (Cdata bracket.Some) (Cdata bracket.None) (section_refused bracket.Some) c (section_among bracket.Some) plain.0
    (λ p. plain.1 (inl p), (λ p. none (byte_from_char bytes rest c e (omega arith) ∙ p), tt))

section_low : (brackets : Brackets) → AllByRecursion (λ other. other < 128) (section_refused brackets)
unfolding section_refused
section_low bracket.None = (omega arith, tt)
section_low bracket.One = (omega arith, tt)
section_low bracket.Some = (omega arith, (omega arith, tt))

pub section_characters : (brackets : Brackets) → TakesCharacters (Cdata brackets) (Cdata bracket.None)
section_characters brackets = takes_characters (Cdata brackets) (Cdata bracket.None) (section_refused brackets) (section_among brackets) (section_low brackets)

section_which : (brackets : Brackets) (lexeme : Lexeme) (pushed : List Symbol) → IsAmong (lexeme, pushed) (heads (Cdata brackets))
    → lexeme ≡ Except (section_refused brackets)
unfolding heads section_refused
section_which bracket.None lexeme pushed among = one_head lexeme _ pushed _ among
section_which bracket.One lexeme pushed among = one_head lexeme _ pushed _ among
section_which bracket.Some lexeme pushed among = one_head lexeme _ pushed _ among

section_refuses : (brackets : Brackets) (byte : ℕ) → byte ≡ 93 → ¬ (AllByRecursion (λ other. byte ≢ other) (section_refused brackets))
unfolding section_refused
section_refuses bracket.None byte e apart = apart.0 e
section_refuses bracket.One byte e apart = apart.0 e
section_refuses bracket.Some byte e apart = apart.0 e

pub section_words : (brackets : Brackets) (bytes : List ℕ) → WordsAtStops (Cdata brackets) 93 93 93 bytes
section_words brackets [] = tt
section_words brackets (byte ∷ bytes) = λ low stops. only_except (Cdata brackets) byte bytes (section_refused brackets)
    (λ lexeme pushed among. inl (section_which brackets lexeme pushed among)) low
    (λ allowed apart. section_refuses brackets byte (elim (stops allowed) [ inl e ↦ e | inr (inl e) ↦ e | inr (inr e) ↦ e ]) apart)

pub section_end : (bytes : List ℕ) → get_or bytes 0 0 ≡ 62 → OnlyWords (Cdata bracket.Some) bytes
unfolding section_refused
section_end [] e = tt
section_end (byte ∷ bytes) e = only_except (Cdata bracket.Some) byte bytes (section_refused bracket.Some)
    (λ lexeme pushed among. inl (section_which bracket.Some lexeme pushed among)) (omega arith) (λ allowed apart. apart.1.0 e)

-- runs
run_on : (next : Symbol) (first second third : ℕ) (below : List Symbol) → PlainGoesOn next first second third → (cs : List ℕ)
    → AllByRecursion (IsPlain first second third) cs → Walks (next ∷ below) (encode_utf8_all cs) (next ∷ below)
run_on next first second third below goes [] plain = Stay (next ∷ below)
run_on next first second third below goes (c ∷ cs) plain =
    walks_join (next ∷ below) (next ∷ below) (next ∷ below) (encode_utf8 c) (encode_utf8_all cs)
    (walks_one next (encode_utf8 c) (next ∷ []) below (goes c plain.0)) (run_on next first second third below goes cs plain.1)

run_from : (symbol next : Symbol) (first second third : ℕ) (below : List Symbol) (bytes rest : List ℕ) → PlainBegins symbol next first second third bytes
    → PlainGoesOn next first second third → (cs : List ℕ) → AllByRecursion (IsPlain first second third) cs → bytes ≡ encode_utf8_all cs ++ rest
    → 0 < length (encode_utf8_all cs) → Walks (symbol ∷ below) (encode_utf8_all cs) (next ∷ below)
run_from symbol next first second third below bytes rest begins goes [] plain e some = absurd (omega arith)
run_from symbol next first second third below bytes rest begins goes (c ∷ cs) plain e some =
    walks_join (symbol ∷ below) (next ∷ below) (next ∷ below) (encode_utf8 c) (encode_utf8_all cs)
    (walks_one symbol (encode_utf8 c) (next ∷ []) below
    (begins c (encode_utf8_all cs ++ rest) plain.0 (e ∙ append_assoc (encode_utf8 c) (encode_utf8_all cs) rest)))
    (run_on next first second third below goes cs plain.1)

-- a run of plain characters is read
pub run_taken : (symbol next : Symbol) (first second third : ℕ) (below : List Symbol) (bytes : List ℕ) (count : ℕ)
    → PlainBegins symbol next first second third bytes → PlainGoesOn next first second third → IsRun first second third (take count bytes)
    → 0 < count → count ≤ length bytes → Steps symbol bytes (step.Taken count) below (next ∷ below)
run_taken symbol next first second third below bytes count begins goes run some within = (
  some,
  within,
  subst (λ xs. Walks (symbol ∷ below) xs (next ∷ below)) run.is
      (run_from symbol next first second third below bytes (drop count bytes) begins goes run.characters run.plain
      (sym (take-append-drop count bytes) ∙ ap (λ xs. xs ++ drop count bytes) (sym run.is))
      (let size = length-take-le count bytes within in omega (arith, ap length run.is))),
)

-- where there is no run, nothing but a word begins with a byte of ASCII
pub words_at_ascii : (symbol : Symbol) (first second third : ℕ) (bytes : List ℕ) → WordsAtStops symbol first second third bytes
    → Stops first second third bytes → WordsAtAscii symbol bytes
words_at_ascii symbol first second third [] words stops = tt
words_at_ascii symbol first second third (byte ∷ bytes) words stops = λ low. words low (stops low)

pub only_at_ascii : (symbol : Symbol) (bytes : List ℕ) → get_or bytes 0 0 < 128 → WordsAtAscii symbol bytes → OnlyWords symbol bytes
only_at_ascii symbol [] low words = tt
only_at_ascii symbol (byte ∷ bytes) low words = words low

-- a whole character beyond ASCII is read
pub character_taken : (symbol next : Symbol) (below : List Symbol) (bytes : List ℕ) (count : ℕ) → TakesCharacters symbol next → IsWholeCharacter bytes count
    → Steps symbol bytes (step.Taken count) below (next ∷ below)
character_taken symbol next below bytes count takes whole = (
  whole.some,
  whole.within,
  subst (λ xs. Walks (symbol ∷ below) xs (next ∷ below)) whole.is
      (walks_one symbol (encode_utf8 whole.character) (next ∷ []) below (takes whole.character whole.high whole.allowed)),
)

-- a front of one is pending
pub character_pending : (symbol next : Symbol) (below : List Symbol) (bytes : List ℕ) → TakesCharacters symbol next → IsBegun bytes → IsPending (symbol ∷ below) bytes
character_pending symbol next below bytes takes begun =
    inr (begun.more, next ∷ [], begun.some, subst (λ w. Begins symbol w (next ∷ [])) begun.is (takes begun.character begun.high begun.allowed))

high_stuck : (symbol : Symbol) (byte : ℕ) (rest : List ℕ) (lexeme : Lexeme) (symbols : List Symbol) → 128 ≤ byte
    → ((c : ℕ) → IsAllowed c → ¬ (encode_utf8 c ≡ byte ∷ rest)) → IsAmong (lexeme, symbols) (options symbol) → ¬ (IsLexeme lexeme (byte ∷ rest))
high_stuck symbol byte rest (Word word) symbols high none among is =
    let low = word_low symbol word symbols among in
    let same : byte ≡ low.0 = heads_same byte low.0 rest low.1 (is ∙ low.2) in omega (arith, low.3)
high_stuck symbol byte rest White symbols high none among is =
    let same : byte ≡ is.0 = heads_same byte is.0 rest [] is.2 in let low = white_small is.0 is.1 in omega arith
high_stuck symbol byte rest (Except refused) symbols high none among is = none is.0 is.1 (sym is.3)

place_stuck : (symbol : Symbol) (bytes : List ℕ) (place : ℕ) (lexeme : Lexeme) (symbols : List Symbol) (more : List ℕ) → 128 ≤ get_or bytes 0 0 → place < length bytes
    → ((c : ℕ) (rest : List ℕ) → IsAllowed c → ¬ (encode_utf8 c ≡ take (place + 1) bytes ++ rest)) → IsAmong (lexeme, symbols) (options symbol)
    → ¬ (IsLexeme lexeme (take (place + 1) bytes ++ more))
place_stuck symbol [] place lexeme symbols more high within none among is = omega arith
place_stuck symbol (byte ∷ bytes) place lexeme symbols more high within none among is =
    high_stuck symbol byte (take place bytes ++ more) lexeme symbols high
    (λ c allowed e. none c more allowed (rw add-one e)) among (rw add-one at is)

begun_pending : (symbol next : Symbol) (below : List Symbol) (bytes : List ℕ) (place : ℕ) → TakesCharacters symbol next → (place ≡ 0) ⊎ IsBegun (take place bytes)
    → IsPending (symbol ∷ below) (take place bytes)
begun_pending symbol next below bytes place takes (inl e) = inl (ap (λ n. take n bytes) e)
begun_pending symbol next below bytes place takes (inr begun) = character_pending symbol next below (take place bytes) takes begun

-- and nothing goes on where no character does
pub character_stuck : (symbol next : Symbol) (below : List Symbol) (bytes : List ℕ) (place : ℕ) → TakesCharacters symbol next → 128 ≤ get_or bytes 0 0
    → IsNoCharacter bytes place → Steps symbol bytes (step.Stuck place) below below
character_stuck symbol next below bytes place takes high none = (
  refl,
  none.within,
  begun_pending symbol next below bytes place takes none.begun,
  λ more symbols begins. place_stuck symbol bytes place begins.lexeme symbols more high none.within none.none begins.among begins.is,
)
