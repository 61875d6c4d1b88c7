-- The token that bytes begin with: no other kind of token leaves fewer bytes.
use Rattle.std.proofs.Common.{◌≡◌, ◌≢◌, ◌⊎◌, inl, inr, ℕ, ◌≤◌, ◌<◌, true, false, ◌&&◌, ◌||◌, ◌==◌, not, List, [], ◌∷◌, ◌++◌, length, get_or, refl, sym, ◌∙◌, ap, subst, arith}
use Rattle.std.specs.Prelude.{IsTrue, if◌then◌else◌}
use Rattle.std.specs.List.{list_all}
use Rattle.std.specs.Char.{to_ascii_lowercase}
use Rattle.std.proofs.lemmas.List.{length-append}
use Rattle.std.proofs.lemmas.Bool.{both_ways, and_parts, and_from}
use Rattle.sparql_text.specs.declared.word.Word.{Word}
use Rattle.sparql_text.specs.declared.word.Word.TheVariants as word
use Rattle.sparql_text.specs.Tokens.{Token, Iri, Name, Variable, String, Fixed, spelling, folded, is_letter, is_prefix, is_prefix_byte, ends_in_dot}
use Rattle.sparql_text.specs.Lexing.{Reads, Begins}
use Rattle.sparql_text.specs.Cutting.{IsLongestWord, NoWord}
use Rattle.sparql_text.proofs.ByteRuns.{run_longest}
use Rattle.sparql_text.proofs.Words.{reads_begins}
use Rattle.sparql_text.proofs.TokenReadings.{iri_bytes, iri_once, variable_bytes, name_bytes, string_bytes_of, string_is}

-- the kind of token that begins with a byte: 1 for an IRI, 2 for a variable, 3 for a string, and 0 for others
abbrev pub kind_at : ℕ → ℕ
kind_at byte = if byte == 60 then 1 else if byte == 63 || byte == 36 then 2 else if byte == 34 || byte == 39 then 3 else 0

-- the kind at the start of bytes
abbrev pub kind : List ℕ → ℕ
kind bytes = kind_at (get_or bytes 0 0)

pub iri_kind : (bytes value left : List ℕ) → Reads (Iri value) bytes left → kind bytes ≡ 1
iri_kind bytes value left reads = ap kind (iri_bytes bytes value left reads)

pub variable_kind : (bytes name left : List ℕ) → Reads (Variable name) bytes left → kind bytes ≡ 2
variable_kind bytes name left reads = elim (variable_bytes bytes name left reads) [ inl e ↦ ap kind e | inr e ↦ ap kind e ]

pub string_kind : (bytes value left : List ℕ) → Reads (String value) bytes left → kind bytes ≡ 3
string_kind bytes value left reads = elim reads.1.2 [
  | inl e ↦ ap kind (string_bytes_of bytes value left reads) ∙ ap kind_at e
  | inr e ↦ ap kind (string_bytes_of bytes value left reads) ∙ ap kind_at e
]

-- a letter is of no kind of its own
letter_kind : (byte : ℕ) → is_letter byte ≡ true → kind_at byte ≡ 0
letter_kind byte h = grind arith

-- the first byte of a prefix is a letter
pub prefix_first : (byte : ℕ) (prefix : List ℕ) → IsTrue (is_prefix (byte ∷ prefix)) → is_letter byte ≡ true
prefix_first byte prefix h =
    (and_parts (is_letter byte) (list_all is_prefix_byte prefix) (and_parts (is_letter byte && list_all is_prefix_byte prefix) (not (ends_in_dot prefix)) h).0).0

pub name_kind : (bytes prefix local left : List ℕ) → Reads (Name prefix local) bytes left → kind bytes ≡ 0
name_kind bytes [] local left reads = ap kind (name_bytes bytes [] local left reads)
name_kind bytes (byte ∷ prefix) local left reads =
    ap kind (name_bytes bytes (byte ∷ prefix) local left reads) ∙ letter_kind byte (prefix_first byte prefix reads.1.0)

-- a byte without the case of letters
abbrev pub folded_byte : Word → ℕ → ℕ
folded_byte word.A byte = byte
folded_byte other byte = to_ascii_lowercase byte

-- the first byte of a word
abbrev pub initial : Word → ℕ
initial word = get_or (folded word (spelling word)) 0 0

-- a word has a byte
pub some_spelling : (word : Word) → 0 < length (spelling word)
unfolding spelling
some_spelling word.A = omega arith
some_spelling other = omega arith

folded_first : (word : Word) (byte : ℕ) (bytes : List ℕ) → get_or (folded word (byte ∷ bytes)) 0 0 ≡ folded_byte word byte
folded_first word.A byte bytes = refl
folded_first other byte bytes = refl

-- a word begins with its first byte
pub word_first : (word : Word) (bytes left : List ℕ) → Reads (Fixed word) bytes left → folded_byte word (get_or bytes 0 0) ≡ initial word
word_first word bytes left (spelled, same, split) = go spelled same split
  where
    go : (spelled : List ℕ) → folded word spelled ≡ folded word (spelling word) → bytes ≡ spelled ++ left → folded_byte word (get_or bytes 0 0) ≡ initial word
    go [] same split =
        let long = (reads_begins word bytes left ([], same, split)).1 in
        let some = some_spelling word in
        let all = ap length split in
        absurd (omega (arith, long, some, all))
    go (byte ∷ more) same split =
        ap (λ l. folded_byte word (get_or l 0 0)) split ∙ (sym (folded_first word byte more) ∙ ap (λ l. get_or l 0 0) same)

-- only `<` and `<=` begin as an IRI does
angle_short : (word : Word) → folded_byte word 60 ≡ initial word → length (spelling word) ≤ 2
unfolding spelling
angle_short word.A e = omega arith
angle_short other e = omega arith

-- no word begins as a variable or a string does
none_at_question : (word : Word) → folded_byte word 63 ≡ initial word → ⊥
unfolding spelling
none_at_question word.A e = absurd (omega arith)
none_at_question other e = absurd (omega arith)

none_at_dollar : (word : Word) → folded_byte word 36 ≡ initial word → ⊥
unfolding spelling
none_at_dollar word.A e = absurd (omega arith)
none_at_dollar other e = absurd (omega arith)

none_at_double : (word : Word) → folded_byte word 34 ≡ initial word → ⊥
unfolding spelling
none_at_double word.A e = absurd (omega arith)
none_at_double other e = absurd (omega arith)

none_at_single : (word : Word) → folded_byte word 39 ≡ initial word → ⊥
unfolding spelling
none_at_single word.A e = absurd (omega arith)
none_at_single other e = absurd (omega arith)

-- a word is of letters, or begins with no letter and no `:`
letters_or_sign : (word : Word) → (list_all is_letter (folded word (spelling word)) ≡ true) ⊎ ((is_letter (initial word) ≡ false) × (initial word ≢ 58))
unfolding spelling
letters_or_sign word.A = inl refl
letters_or_sign word.Prefix = inl refl
letters_or_sign word.Select = inl refl
letters_or_sign word.Distinct = inl refl
letters_or_sign word.Where = inl refl
letters_or_sign word.Union = inl refl
letters_or_sign word.Optional = inl refl
letters_or_sign word.Filter = inl refl
letters_or_sign word.Bound = inl refl
letters_or_sign word.IsIri = inl refl
letters_or_sign word.IsUri = inl refl
letters_or_sign word.IsLiteral = inl refl
letters_or_sign word.SameTerm = inl refl
letters_or_sign word.Str = inl refl
letters_or_sign word.Contains = inl refl
letters_or_sign word.StrStarts = inl refl
letters_or_sign word.OpenBrace = inr (refl, λ e. absurd (omega arith))
letters_or_sign word.CloseBrace = inr (refl, λ e. absurd (omega arith))
letters_or_sign word.OpenParen = inr (refl, λ e. absurd (omega arith))
letters_or_sign word.CloseParen = inr (refl, λ e. absurd (omega arith))
letters_or_sign word.Dot = inr (refl, λ e. absurd (omega arith))
letters_or_sign word.Semicolon = inr (refl, λ e. absurd (omega arith))
letters_or_sign word.Comma = inr (refl, λ e. absurd (omega arith))
letters_or_sign word.Star = inr (refl, λ e. absurd (omega arith))
letters_or_sign word.Equal = inr (refl, λ e. absurd (omega arith))
letters_or_sign word.NotEqual = inr (refl, λ e. absurd (omega arith))
letters_or_sign word.Less = inr (refl, λ e. absurd (omega arith))
letters_or_sign word.Greater = inr (refl, λ e. absurd (omega arith))
letters_or_sign word.LessEqual = inr (refl, λ e. absurd (omega arith))
letters_or_sign word.GreaterEqual = inr (refl, λ e. absurd (omega arith))
letters_or_sign word.Not = inr (refl, λ e. absurd (omega arith))
letters_or_sign word.And = inr (refl, λ e. absurd (omega arith))
letters_or_sign word.Or = inr (refl, λ e. absurd (omega arith))

-- case makes no letter
letter_back : (byte : ℕ) → is_letter (to_ascii_lowercase byte) ≡ true → is_letter byte ≡ true
letter_back byte h = grind arith

letter_forward : (byte : ℕ) → is_letter byte ≡ true → is_letter (to_ascii_lowercase byte) ≡ true
letter_forward byte h = grind arith

letter_prefix : (byte : ℕ) → is_letter byte ≡ true → is_prefix_byte byte ≡ true
letter_prefix byte h = rw h refl

-- what folds to letters may each stand in a prefix
folded_letters : (word : Word) (bytes : List ℕ) → list_all is_letter (folded word bytes) ≡ true → list_all is_prefix_byte bytes ≡ true
folded_letters word.A bytes h = plain bytes h
  where
    plain : (bytes : List ℕ) → list_all is_letter bytes ≡ true → list_all is_prefix_byte bytes ≡ true
    plain [] h = refl
    plain (byte ∷ bytes) h =
        and_from (is_prefix_byte byte) (list_all is_prefix_byte bytes) (letter_prefix byte (and_parts (is_letter byte) (list_all is_letter bytes) h).0)
        (plain bytes (and_parts (is_letter byte) (list_all is_letter bytes) h).1)
folded_letters other bytes h = lower bytes h
  where
    lower : (bytes : List ℕ) → list_all is_letter (folded word.Select bytes) ≡ true → list_all is_prefix_byte bytes ≡ true
    lower [] h = refl
    lower (byte ∷ bytes) h =
        and_from (is_prefix_byte byte) (list_all is_prefix_byte bytes)
        (letter_prefix byte (letter_back byte (and_parts (is_letter (to_ascii_lowercase byte)) (list_all is_letter (folded word.Select bytes)) h).0))
        (lower bytes (and_parts (is_letter (to_ascii_lowercase byte)) (list_all is_letter (folded word.Select bytes)) h).1)

folded_letter : (word : Word) (byte : ℕ) → is_letter byte ≡ true → is_letter (folded_byte word byte) ≡ true
folded_letter word.A byte h = h
folded_letter other byte h = letter_forward byte h

folded_colon : (word : Word) → folded_byte word 58 ≡ 58
folded_colon word.A = refl
folded_colon other = refl

-- a word of letters is within the prefix of a name, and so shorter
pub name_word : (bytes prefix local rest left : List ℕ) (word : Word) → Reads (Name prefix local) bytes rest → Reads (Fixed word) bytes left → length rest < length left
name_word bytes prefix local rest left word name reads = elim (letters_or_sign word) [
  | inl letters ↦
      let within = run_longest is_prefix_byte prefix (58 ∷ (local ++ rest)) reads.0 left refl
      (folded_letters word reads.0 (subst (λ l. list_all is_letter l ≡ true) (sym reads.1) letters)) (sym (name_bytes bytes prefix local rest name) ∙ reads.2) in
      let a = ap length (name_bytes bytes prefix local rest name) in
      let b = ap length reads.2 in
      omega (arith, within, a, b, length-append prefix (58 ∷ (local ++ rest)), length-append local rest, length-append reads.0 left)
  | inr sign ↦ absurd (at prefix name sign)
]
  where
    at : (prefix : List ℕ) → Reads (Name prefix local) bytes rest → (is_letter (initial word) ≡ false) × (initial word ≢ 58) → ⊥
    at [] name sign =
        sign.1 (sym (word_first word bytes left reads) ∙ (ap (λ l. folded_byte word (get_or l 0 0)) (name_bytes bytes [] local rest name) ∙ folded_colon word))
    at (byte ∷ prefix) name sign =
        let first : folded_byte word byte ≡ initial word =
        sym (ap (λ l. folded_byte word (get_or l 0 0)) (name_bytes bytes (byte ∷ prefix) local rest name)) ∙ word_first word bytes left reads in
        both_ways (is_letter (initial word)) sign.0
        (subst (λ b. is_letter b ≡ true) first (folded_letter word byte (prefix_first byte prefix name.1.0)))

-- an IRI is longer than a word
pub iri_word : (bytes value rest left : List ℕ) (word : Word) → Reads (Iri value) bytes rest → Reads (Fixed word) bytes left → length rest < length left
iri_word bytes value rest left word iri reads =
    let e = iri_bytes bytes value rest iri in
    let first : folded_byte word 60 ≡ initial word = sym (ap (λ l. folded_byte word (get_or l 0 0)) e) ∙ word_first word bytes left reads in
    let short = angle_short word first in
    let some = some_length value iri.1.1 in
    let a = ap length e in
    let b = (reads_begins word bytes left reads).1 in
    omega (arith, short, some, a, b, length-append value (62 ∷ rest))
  where
    some_length : (l : List ℕ) → l ≢ [] → 0 < length l
    some_length [] h = absurd (h refl)
    some_length (byte ∷ l) h = omega arith

-- where a variable stands no word does
pub variable_word : (bytes name rest left : List ℕ) (word : Word) → Reads (Variable name) bytes rest → ¬ (Reads (Fixed word) bytes left)
variable_word bytes name rest left word variable reads = elim (variable_bytes bytes name rest variable) [
  | inl e ↦ none_at_question word (sym (ap (λ l. folded_byte word (get_or l 0 0)) e) ∙ word_first word bytes left reads)
  | inr e ↦ none_at_dollar word (sym (ap (λ l. folded_byte word (get_or l 0 0)) e) ∙ word_first word bytes left reads)
]

-- nor where a string does
pub string_word : (bytes value rest left : List ℕ) (word : Word) → Reads (String value) bytes rest → ¬ (Reads (Fixed word) bytes left)
string_word bytes value rest left word string reads = elim string.1.2 [
  | inl e ↦ none_at_double word (at 34 e)
  | inr e ↦ none_at_single word (at 39 e)
]
  where
    at : (quote : ℕ) → string.1.0 ≡ quote → folded_byte word quote ≡ initial word
    at quote e = sym (ap (λ l. folded_byte word (get_or l 0 0)) (string_bytes_of bytes value rest string) ∙ ap (folded_byte word) e) ∙ word_first word bytes left reads

-- an IRI at the start is the token there
pub iri_begins : (bytes value rest : List ℕ) → Reads (Iri value) bytes rest → Begins (Iri value) bytes rest
iri_begins bytes value rest reads = record { reads = reads; longest = longest }
  where
    longest : (other : Token) (left : List ℕ) → Reads other bytes left → length rest ≤ length left
    longest (Iri iri) left x = let same = ap length (iri_once bytes value rest iri left reads x) in omega (arith, same)
    longest (Name prefix local) left x = let a = iri_kind bytes value rest reads in let b = name_kind bytes prefix local left x in absurd (omega (arith, a, b))
    longest (Variable name) left x = let a = iri_kind bytes value rest reads in let b = variable_kind bytes name left x in absurd (omega (arith, a, b))
    longest (String text) left x = let a = iri_kind bytes value rest reads in let b = string_kind bytes text left x in absurd (omega (arith, a, b))
    longest (Fixed word) left x = let less = iri_word bytes value rest left word reads x in omega (arith, less)

-- so is a variable that is the longest
pub variable_begins : (bytes name rest : List ℕ) → Reads (Variable name) bytes rest
    → ((other left : List ℕ) → Reads (Variable other) bytes left → length rest ≤ length left) → Begins (Variable name) bytes rest
variable_begins bytes name rest reads most = record { reads = reads; longest = longest }
  where
    longest : (other : Token) (left : List ℕ) → Reads other bytes left → length rest ≤ length left
    longest (Iri iri) left x = let a = variable_kind bytes name rest reads in let b = iri_kind bytes iri left x in absurd (omega (arith, a, b))
    longest (Name prefix local) left x = let a = variable_kind bytes name rest reads in let b = name_kind bytes prefix local left x in absurd (omega (arith, a, b))
    longest (Variable other) left x = most other left x
    longest (String text) left x = let a = variable_kind bytes name rest reads in let b = string_kind bytes text left x in absurd (omega (arith, a, b))
    longest (Fixed word) left x = absurd (variable_word bytes name rest left word reads x)

-- and a string
pub string_begins : (bytes value rest : List ℕ) → Reads (String value) bytes rest → Begins (String value) bytes rest
string_begins bytes value rest reads = record { reads = reads; longest = longest }
  where
    longest : (other : Token) (left : List ℕ) → Reads other bytes left → length rest ≤ length left
    longest (Iri iri) left x = let a = string_kind bytes value rest reads in let b = iri_kind bytes iri left x in absurd (omega (arith, a, b))
    longest (Name prefix local) left x = let a = string_kind bytes value rest reads in let b = name_kind bytes prefix local left x in absurd (omega (arith, a, b))
    longest (Variable other) left x = let a = string_kind bytes value rest reads in let b = variable_kind bytes other left x in absurd (omega (arith, a, b))
    longest (String text) left x =
        let same = ap length (string_is bytes _ reads.1.1 value rest text left reads.1.0 reads.1.2 (string_bytes_of bytes value rest reads) refl reads.1.4 x).1 in
        omega (arith, same)
    longest (Fixed word) left x = absurd (string_word bytes value rest left word reads x)

-- and the longest name
pub name_begins : (bytes prefix local rest : List ℕ) → Reads (Name prefix local) bytes rest
    → ((other part left : List ℕ) → Reads (Name other part) bytes left → length rest ≤ length left) → Begins (Name prefix local) bytes rest
name_begins bytes prefix local rest reads most = record { reads = reads; longest = longest }
  where
    longest : (other : Token) (left : List ℕ) → Reads other bytes left → length rest ≤ length left
    longest (Iri iri) left x = let a = name_kind bytes prefix local rest reads in let b = iri_kind bytes iri left x in absurd (omega (arith, a, b))
    longest (Name other part) left x = most other part left x
    longest (Variable other) left x = let a = name_kind bytes prefix local rest reads in let b = variable_kind bytes other left x in absurd (omega (arith, a, b))
    longest (String text) left x = let a = name_kind bytes prefix local rest reads in let b = string_kind bytes text left x in absurd (omega (arith, a, b))
    longest (Fixed word) left x = let less = name_word bytes prefix local rest left word reads x in omega (arith, less)

-- and the longest word, where no token of another kind stands there
pub word_begins : (bytes rest : List ℕ) (word : Word) → Reads (Fixed word) bytes rest → IsLongestWord bytes rest
    → ((value left : List ℕ) → ¬ (Reads (Iri value) bytes left)) → ((prefix local left : List ℕ) → ¬ (Reads (Name prefix local) bytes left))
    → ((name left : List ℕ) → ¬ (Reads (Variable name) bytes left)) → ((value left : List ℕ) → ¬ (Reads (String value) bytes left))
    → Begins (Fixed word) bytes rest
word_begins bytes rest word reads most iri name variable string = record { reads = reads; longest = longest }
  where
    longest : (other : Token) (left : List ℕ) → Reads other bytes left → length rest ≤ length left
    longest (Iri value) left x = absurd (iri value left x)
    longest (Name prefix local) left x = absurd (name prefix local left x)
    longest (Variable other) left x = absurd (variable other left x)
    longest (String text) left x = absurd (string text left x)
    longest (Fixed other) left x = most other left x

-- where no kind stands, no token does
pub no_token : (bytes : List ℕ) → ((value left : List ℕ) → ¬ (Reads (Iri value) bytes left)) → ((prefix local left : List ℕ) → ¬ (Reads (Name prefix local) bytes left))
    → ((name left : List ℕ) → ¬ (Reads (Variable name) bytes left)) → ((value left : List ℕ) → ¬ (Reads (String value) bytes left)) → NoWord bytes
    → (token : Token) (left : List ℕ) → ¬ (Reads token bytes left)
no_token bytes iri name variable string word (Iri value) left x = iri value left x
no_token bytes iri name variable string word (Name prefix local) left x = name prefix local left x
no_token bytes iri name variable string word (Variable other) left x = variable other left x
no_token bytes iri name variable string word (String text) left x = string text left x
no_token bytes iri name variable string word (Fixed other) left x = word other left x
