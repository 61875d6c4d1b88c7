-- Bytes begin with one token, and so one text has one list of tokens.
use Rattle.std.proofs.Common.{◌≡◌, ℕ, ◌<◌, List, [], ◌∷◌, ◌++◌, length, refl, sym, ◌∙◌, ap, subst, arith, Option, Some, find}
use Rattle.std.specs.Str.{str_to_ascii_lowercase}
use Rattle.std.proofs.lemmas.List.{length-append, append_cancel_right}
use Rattle.m3_terms.proofs.Lists.{tails_same}
use Rattle.m3_terms.specs.Order.{text_eq}
use Rattle.sparql_text.specs.declared.word.Word.{Word}
use Rattle.sparql_text.specs.declared.word.Word.TheVariants as word
use Rattle.sparql_text.specs.Tokens.{Token, Iri, Name, Variable, String, Fixed, SpellsWord, folded, spelling, is_iri_byte, is_prefix_byte}
use Rattle.sparql_text.specs.Lexing.{Reads, Begins}
use Rattle.sparql_text.specs.Values.{unescaped}
use Rattle.sparql_text.specs.FirstTokens.{words}
use Rattle.sparql_text.proofs.ByteRuns.{run_once, prefix_all}
use Rattle.sparql_text.proofs.Unescaping.{one_value}
use Rattle.sparql_text.proofs.TokenReadings.{iri_bytes, variable_bytes, marks_same, name_bytes, string_bytes_of, string_is}
use Rattle.sparql_text.proofs.TokenBegins.{iri_kind, variable_kind, string_kind, name_kind, iri_word, variable_word, string_word, name_word}

-- bytes that count for a word: as they are for `a`, and without case for the others
abbrev counting : Word → List ℕ → List ℕ → List ℕ
counting word.A bytes lower = bytes
counting other bytes lower = lower

-- the first word that bytes spell
abbrev first_spelled : List ℕ → List ℕ → Option Word
first_spelled bytes lower = find (λ word. text_eq (counting word bytes lower) (folded word (spelling word))) words

-- a word is the first that its bytes spell
spelled_first : (word : Word) (bytes : List ℕ) → SpellsWord word bytes → first_spelled bytes (str_to_ascii_lowercase bytes) ≡ Some word
unfolding spelling
spelled_first word.A bytes e = ap (λ l. first_spelled l (str_to_ascii_lowercase l)) e
spelled_first other bytes e = ap (first_spelled bytes) e

-- bytes spell one word
word_once : (one other : Word) (bytes : List ℕ) → SpellsWord one bytes → SpellsWord other bytes → one ≡ other
word_once one other bytes x y = inside one other (sym (spelled_first one bytes x) ∙ spelled_first other bytes y)
  where
    inside : (v w : Word) → Some v ≡ Some w → v ≡ w
    inside v w e = cc

-- kinds that differ
apart : (bytes : List ℕ) (a b k : ℕ) → k ≡ a → k ≡ b → a < b → ⊥
apart bytes a b k e f less = absurd (omega (arith, e, f, less))

-- with the same bytes behind it one token stands at the start
reads_once : (one other : Token) (bytes rest : List ℕ) → Reads one bytes rest → Reads other bytes rest → one ≡ other
reads_once (Iri a) (Iri b) bytes rest x y =
    ap Iri (run_once is_iri_byte a (62 ∷ rest) b 62 rest x.1.2 refl y.1.2 refl
    (tails_same 60 60 (a ++ 62 ∷ rest) (b ++ 62 ∷ rest) (sym (iri_bytes bytes a rest x) ∙ iri_bytes bytes b rest y))).0
reads_once (Name p a) (Name q b) bytes rest x y =
    let same = run_once is_prefix_byte p (58 ∷ (a ++ rest)) q 58 (b ++ rest) (prefix_all p x.1.0) refl (prefix_all q y.1.0) refl
    (sym (name_bytes bytes p a rest x) ∙ name_bytes bytes q b rest y) in
    let local = append_cancel_right a b rest (tails_same 58 58 (a ++ rest) (b ++ rest) same.1) in
    ap (λ l. Name l a) same.0 ∙ ap (Name q) local
reads_once (Variable a) (Variable b) bytes rest x y =
    ap Variable (append_cancel_right a b rest (marks_same bytes (a ++ rest) (b ++ rest) (variable_bytes bytes a rest x) (variable_bytes bytes b rest y)))
reads_once (String a) (String b) bytes rest x y =
    let same = (string_is bytes _ x.1.1 a rest b rest x.1.0 x.1.2 (string_bytes_of bytes a rest x) refl x.1.4 y).0 in
    ap String (sym (one_value x.1.0 x.1.1 a x.1.4) ∙ (ap unescaped same ∙ one_value y.1.0 y.1.1 b y.1.4))
reads_once (Fixed v) (Fixed w) bytes rest x y =
    let same = append_cancel_right x.0 y.0 rest (sym x.2 ∙ y.2) in
    ap Fixed (word_once v w y.0 (subst (SpellsWord v) same x.1) y.1)
reads_once (Iri a) (Name q b) bytes rest x y = let e = iri_kind bytes a rest x in let f = name_kind bytes q b rest y in absurd (omega (arith, e, f))
reads_once (Iri a) (Variable b) bytes rest x y = let e = iri_kind bytes a rest x in let f = variable_kind bytes b rest y in absurd (omega (arith, e, f))
reads_once (Iri a) (String b) bytes rest x y = let e = iri_kind bytes a rest x in let f = string_kind bytes b rest y in absurd (omega (arith, e, f))
reads_once (Iri a) (Fixed w) bytes rest x y = let less = iri_word bytes a rest rest w x y in absurd (omega (arith, less))
reads_once (Name p a) (Iri b) bytes rest x y = let e = name_kind bytes p a rest x in let f = iri_kind bytes b rest y in absurd (omega (arith, e, f))
reads_once (Name p a) (Variable b) bytes rest x y = let e = name_kind bytes p a rest x in let f = variable_kind bytes b rest y in absurd (omega (arith, e, f))
reads_once (Name p a) (String b) bytes rest x y = let e = name_kind bytes p a rest x in let f = string_kind bytes b rest y in absurd (omega (arith, e, f))
reads_once (Name p a) (Fixed w) bytes rest x y = let less = name_word bytes p a rest rest w x y in absurd (omega (arith, less))
reads_once (Variable a) (Iri b) bytes rest x y = let e = variable_kind bytes a rest x in let f = iri_kind bytes b rest y in absurd (omega (arith, e, f))
reads_once (Variable a) (Name q b) bytes rest x y = let e = variable_kind bytes a rest x in let f = name_kind bytes q b rest y in absurd (omega (arith, e, f))
reads_once (Variable a) (String b) bytes rest x y = let e = variable_kind bytes a rest x in let f = string_kind bytes b rest y in absurd (omega (arith, e, f))
reads_once (Variable a) (Fixed w) bytes rest x y = absurd (variable_word bytes a rest rest w x y)
reads_once (String a) (Iri b) bytes rest x y = let e = string_kind bytes a rest x in let f = iri_kind bytes b rest y in absurd (omega (arith, e, f))
reads_once (String a) (Name q b) bytes rest x y = let e = string_kind bytes a rest x in let f = name_kind bytes q b rest y in absurd (omega (arith, e, f))
reads_once (String a) (Variable b) bytes rest x y = let e = string_kind bytes a rest x in let f = variable_kind bytes b rest y in absurd (omega (arith, e, f))
reads_once (String a) (Fixed w) bytes rest x y = absurd (string_word bytes a rest rest w x y)
reads_once (Fixed v) (Iri b) bytes rest x y = let less = iri_word bytes b rest rest v y x in absurd (omega (arith, less))
reads_once (Fixed v) (Name q b) bytes rest x y = let less = name_word bytes q b rest rest v y x in absurd (omega (arith, less))
reads_once (Fixed v) (Variable b) bytes rest x y = absurd (variable_word bytes b rest rest v y x)
reads_once (Fixed v) (String b) bytes rest x y = absurd (string_word bytes b rest rest v y x)

-- of as many bytes behind others, these are the same
back_same : (a x b y : List ℕ) → length x ≡ length y → a ++ x ≡ b ++ y → x ≡ y
back_same [] x [] y long e = e
back_same [] x (d ∷ b) y long e = let all = ap length e in absurd (omega (arith, long, all, length-append b y))
back_same (c ∷ a) x [] y long e = let all = ap length e in absurd (omega (arith, long, all, length-append a x))
back_same (c ∷ a) x (d ∷ b) y long e = back_same a x b y long (tails_same c d (a ++ x) (b ++ y) e)

-- bytes begin with one token
pub begins_once : (one other : Token) (bytes rest left : List ℕ) → Begins one bytes rest → Begins other bytes left → (one ≡ other) × (rest ≡ left)
begins_once one other bytes rest left x y =
    let least = x.longest other left y.reads in
    let most = y.longest one rest x.reads in
    let same : rest ≡ left = back_same x.reads.0 rest y.reads.0 left (omega (arith, least, most)) (sym x.reads.2 ∙ y.reads.2) in
    (reads_once one other bytes left (subst (Reads one bytes) same x.reads) y.reads, same)
