-- Each kind of token is found at the start of bytes, the longest, exactly where one stands there.
use Rattle.std.proofs.Common.{◌≡◌, ◌≢◌, ◌⊎◌, inl, inr, ℕ, zero, suc, ◌+◌, ◌≤◌, ◌<◌, Bool, true, false, ◌&&◌, ◌||◌, cond, not, ◌==◌, List, [], ◌∷◌, ◌++◌, length, take, drop, refl, sym, ◌∙◌, ap, subst, arith, append_assoc, Option, Some, None, find}
use Rattle.std.specs.Prelude.{IsTrue}
use Rattle.std.specs.List.{list_all}
use Rattle.std.specs.Option.{option_map}
use Rattle.std.proofs.lemmas.Bool.{both_ways, eqb-true, and_parts, and_from}
use Rattle.std.proofs.lemmas.List.{take-append-drop, drop-drop, length-drop}
use Rattle.std.proofs.Math.Seq.{take-add}
use Rattle.m3_terms.specs.Text.{IsText}
use Rattle.m3_terms.proofs.Lists.{heads_same, tails_same}
use Rattle.sparql_text.specs.declared.word.Word.{Word}
use Rattle.sparql_text.specs.Tokens.{Token, Iri, Name, Variable, String, IsQuote, Unescapes, is_iri_byte, is_name_byte, is_prefix, is_prefix_byte, is_local, is_local_first, is_local_byte, ends_in_dot}
use Rattle.sparql_text.specs.Tokens.Unescapes.{Done}
use Rattle.sparql_text.specs.Lexing.{Reads, Begins}
use Rattle.sparql_text.specs.Cutting.{IsRun, IsLongestLocal, begins_with, piece_len}
use Rattle.sparql_text.specs.Values.{unescaped}
use Rattle.sparql_text.specs.FirstTokens.{FirstToken, is_text, run, behind_run, iri_closed, iri_at, variable_named, variable_at, pieces_len, string_closed, string_behind, string_at, undotted_len, local_len, name_behind, name_at, words, word_taken, word_at, either, token_at}
use Rattle.sparql_text.proofs.ByteRuns.{run_of, local_longest}
use Rattle.sparql_text.proofs.StringPieces.{Next, next_piece, piece_word, unescapes_both}
use Rattle.sparql_text.proofs.StringPieces.Next.{AtEnd, AtPiece}
use Rattle.sparql_text.proofs.Unescaping.{one_value}
use Rattle.sparql_text.proofs.Words.{found_word, none_is_none}
use Rattle.sparql_text.proofs.TokenReadings.{IsMarked, empty_is, some_is, iri_bytes, iri_is_run, variable_bytes, variable_found, variable_longest, variable_none, name_is_run, name_longest, string_bytes_of, string_found, string_is}
use Rattle.sparql_text.proofs.TokenBegins.{iri_begins, variable_begins, string_begins, name_begins, word_begins, no_token}
use Rattle.sparql_text.proofs.TextsTested.{text_passes, passes_text}

-- what was found is the token that bytes begin with, and where nothing was found this holds
abbrev pub IsFirstToken : List ℕ → Type 0 → Option FirstToken → Type 0
IsFirstToken bytes NoToken None = NoToken
IsFirstToken bytes NoToken (Some first) = Begins first.token bytes first.rest

-- no IRI, variable, string or name stands at the start
abbrev NoIri : List ℕ → Type 0
NoIri bytes = (value left : List ℕ) → ¬ (Reads (Iri value) bytes left)

abbrev NoVariable : List ℕ → Type 0
NoVariable bytes = (name left : List ℕ) → ¬ (Reads (Variable name) bytes left)

abbrev NoString : List ℕ → Type 0
NoString bytes = (value left : List ℕ) → ¬ (Reads (String value) bytes left)

abbrev NoName : List ℕ → Type 0
NoName bytes = (prefix local left : List ℕ) → ¬ (Reads (Name prefix local) bytes left)

-- some bytes are not none
none_some : (byte : ℕ) (bytes : List ℕ) → ◌≢◌ {A = List ℕ} [] (byte ∷ bytes)
none_some byte bytes e = absurd (cc)

-- an IRI is the run of its bytes before `>`
iri_behind : (bytes more value after : List ℕ) → bytes ≡ 60 ∷ more → IsRun is_iri_byte more value after → IsFirstToken bytes (NoIri bytes) (iri_closed value after)
iri_behind bytes more value [] opens r = λ other left reads.
    none_some 62 left (iri_is_run bytes more value [] other left opens r reads).1
iri_behind bytes more value (byte ∷ rest) opens r = go (byte == 62 && not (length value == 0) && is_text value) refl
  where
    go : (t : Bool) → (byte == 62 && not (length value == 0) && is_text value) ≡ t
        → IsFirstToken bytes (NoIri bytes) (cond t (Some (record { token = Iri value; rest = rest })) None)
    go true e =
        let text = passes_text value (and_parts (byte == 62 && not (length value == 0)) (is_text value) e).1 in
        let both = (and_parts (byte == 62 && not (length value == 0)) (is_text value) e).0 in
        let close = eqb-true byte 62 (and_parts (byte == 62) (not (length value == 0)) both).0 in
        let some = some_is value (undone (length value == 0) (and_parts (byte == 62) (not (length value == 0)) both).1) in
        iri_begins bytes value rest (
          60 ∷ value ++ 62 ∷ [],
          (text, some, r.pass, refl),
          opens ∙ ap (λ l. 60 ∷ l) (r.split ∙ (ap (λ b. value ++ b ∷ rest) close ∙ sym (append_assoc value (62 ∷ []) rest))),
        )
      where
        undone : (b : Bool) → not b ≡ true → b ≡ false
        undone true h = absurd (cc)
        undone false h = refl
    go false e = λ other left reads.
        let same = iri_is_run bytes more value (byte ∷ rest) other left opens r reads in
        both_ways (byte == 62 && not (length value == 0) && is_text value) e
        (and_from (byte == 62 && not (length value == 0)) (is_text value)
        (and_from (byte == 62) (not (length value == 0)) (ap (λ b. b == 62) (heads_same byte 62 rest left same.1))
        (some_bytes value (λ none. reads.1.1 (sym same.0 ∙ none))))
        (text_passes value (subst IsText (sym same.0) reads.1.0)))
      where
        some_bytes : (l : List ℕ) → l ≢ [] → not (length l == 0) ≡ true
        some_bytes [] h = absurd (h refl)
        some_bytes (b ∷ l) h = grind arith

iri_exact : (bytes : List ℕ) → IsFirstToken bytes (NoIri bytes) (iri_at bytes)
iri_exact [] = λ value left reads. none_some 60 (value ++ 62 ∷ left) (iri_bytes [] value left reads)
iri_exact (byte ∷ bytes) = opened (byte == 60) refl
  where
    opened : (t : Bool) → (byte == 60) ≡ t
        → IsFirstToken (byte ∷ bytes) (NoIri (byte ∷ bytes)) (cond t (iri_closed (run is_iri_byte bytes) (behind_run is_iri_byte bytes)) None)
    opened true e = iri_behind (byte ∷ bytes) bytes (run is_iri_byte bytes) (behind_run is_iri_byte bytes) (ap (λ b. b ∷ bytes) (eqb-true byte 60 e))
        (run_of is_iri_byte bytes (run is_iri_byte bytes) (behind_run is_iri_byte bytes) refl refl)
    opened false e = λ value left reads.
        both_ways (byte == 60) e (ap (λ b. b == 60) (heads_same byte 60 bytes (value ++ 62 ∷ left) (iri_bytes (byte ∷ bytes) value left reads)))

-- a variable is its mark and the run of its bytes
variable_behind : (bytes more name rest : List ℕ) → IsMarked bytes more → IsRun is_name_byte more name rest → IsFirstToken bytes (NoVariable bytes) (variable_named name rest)
variable_behind bytes more name rest mark r = go (length name == 0) refl
  where
    go : (t : Bool) → (length name == 0) ≡ t → IsFirstToken bytes (NoVariable bytes) (cond t None (Some (record { token = Variable name; rest = rest })))
    go true e = variable_none bytes more name rest mark r (empty_is name e)
    go false e = variable_begins bytes name rest (variable_found bytes more name rest mark r (some_is name e)) (variable_longest bytes more name rest mark r)

-- a byte is one of two
one_of_two : (byte x y : ℕ) → (byte == x || byte == y) ≡ true → ((byte ≡ x) ⊎ (byte ≡ y))
one_of_two byte x y h = go (byte == x) (byte == y) refl refl h
  where
    go : (s t : Bool) → (byte == x) ≡ s → (byte == y) ≡ t → (s || t) ≡ true → ((byte ≡ x) ⊎ (byte ≡ y))
    go true t e f h = inl (eqb-true byte x e)
    go false true e f h = inr (eqb-true byte y f)
    go false false e f h = absurd (cc)

either_byte : (byte x y : ℕ) → ((byte ≡ x) ⊎ (byte ≡ y)) → (byte == x || byte == y) ≡ true
either_byte byte x y (inl e) = grind arith
either_byte byte x y (inr e) = grind arith

variable_exact : (bytes : List ℕ) → IsFirstToken bytes (NoVariable bytes) (variable_at bytes)
variable_exact [] = λ name left reads. elim (variable_bytes [] name left reads) [ inl e ↦ none_some 63 (name ++ left) e | inr e ↦ none_some 36 (name ++ left) e ]
variable_exact (byte ∷ bytes) = opened (byte == 63 || byte == 36) refl
  where
    opened : (t : Bool) → (byte == 63 || byte == 36) ≡ t
        → IsFirstToken (byte ∷ bytes) (NoVariable (byte ∷ bytes)) (cond t (variable_named (run is_name_byte bytes) (behind_run is_name_byte bytes)) None)
    opened true e = variable_behind (byte ∷ bytes) bytes (run is_name_byte bytes) (behind_run is_name_byte bytes) (marked (one_of_two byte 63 36 e))
        (run_of is_name_byte bytes (run is_name_byte bytes) (behind_run is_name_byte bytes) refl refl)
      where
        marked : ((byte ≡ 63) ⊎ (byte ≡ 36)) → IsMarked (byte ∷ bytes) bytes
        marked (inl f) = inl (ap (λ b. b ∷ bytes) f)
        marked (inr f) = inr (ap (λ b. b ∷ bytes) f)
    opened false e = λ name left reads. both_ways (byte == 63 || byte == 36) e (either_byte byte 63 36 (marks name left (variable_bytes (byte ∷ bytes) name left reads)))
      where
        marks : (name left : List ℕ) → IsMarked (byte ∷ bytes) (name ++ left) → ((byte ≡ 63) ⊎ (byte ≡ 36))
        marks name left (inl f) = inl (heads_same byte 63 bytes (name ++ left) f)
        marks name left (inr f) = inr (heads_same byte 36 bytes (name ++ left) f)

-- the pieces at the start have a value
pieces_value : (count quote : ℕ) (bytes : List ℕ) → (value : List ℕ) × Unescapes quote (take (pieces_len count quote bytes) bytes) value
pieces_value zero quote bytes = ([], Done)
pieces_value (suc count) quote bytes = go (pieces_value count quote (drop (piece_len quote bytes) bytes)) (piece_len quote bytes == 0) refl
  where
    go : ((value : List ℕ) × Unescapes quote (take (pieces_len count quote (drop (piece_len quote bytes) bytes)) (drop (piece_len quote bytes) bytes)) value)
        → (t : Bool) → (piece_len quote bytes == 0) ≡ t
        → (value : List ℕ) × Unescapes quote (take (cond t 0 (piece_len quote bytes + pieces_len count quote (drop (piece_len quote bytes) bytes))) bytes) value
    go more true e = ([], Done)
    go more false e =
        let piece = piece_word quote bytes (positive (piece_len quote bytes) e) in (
          piece.0 ++ more.0,
          subst (λ l. Unescapes quote l (piece.0 ++ more.0))
              (sym (take-add (piece_len quote bytes) (pieces_len count quote (drop (piece_len quote bytes) bytes)) bytes))
              (unescapes_both quote (take (piece_len quote bytes) bytes) piece.0
              (take (pieces_len count quote (drop (piece_len quote bytes) bytes)) (drop (piece_len quote bytes) bytes)) more.0 piece.1 more.1),
        )
      where
        positive : (n : ℕ) → (n == 0) ≡ false → 0 < n
        positive zero e = absurd (cc)
        positive (suc n) e = omega arith

-- behind them stands the quote that ends a string, if any does
pieces_end : (count quote : ℕ) (bytes raw value left : List ℕ) → length bytes ≤ count → IsQuote quote → Unescapes quote raw value → bytes ≡ raw ++ quote ∷ left
    → drop (pieces_len count quote bytes) bytes ≡ quote ∷ left
pieces_end zero quote [] raw value left few is x e = absurd (empty raw e)
  where
    empty : (l : List ℕ) → ◌≢◌ {A = List ℕ} [] (l ++ quote ∷ left)
    empty [] e = none_some quote left e
    empty (b ∷ l) e = none_some b (l ++ quote ∷ left) e
pieces_end zero quote (byte ∷ bytes) raw value left few is x e = absurd (omega (arith, few))
pieces_end (suc count) quote bytes raw value left few is x e =
    go (λ others word. pieces_end count quote (drop (piece_len quote bytes) bytes) others word left) (piece_len quote bytes == 0) refl
    (next_piece quote raw value bytes left is x e)
  where
    go : ((others word : List ℕ) → length (drop (piece_len quote bytes) bytes) ≤ count → IsQuote quote → Unescapes quote others word
        → drop (piece_len quote bytes) bytes ≡ others ++ quote ∷ left
        → drop (pieces_len count quote (drop (piece_len quote bytes) bytes)) (drop (piece_len quote bytes) bytes) ≡ quote ∷ left)
        → (t : Bool) → (piece_len quote bytes == 0) ≡ t → Next quote bytes left
        → drop (cond t 0 (piece_len quote bytes + pieces_len count quote (drop (piece_len quote bytes) bytes))) bytes ≡ quote ∷ left
    go more true f (AtEnd here stop) = here
    go more true f (AtPiece others word some y rest) = let none = eqb-true (piece_len quote bytes) 0 f in absurd (omega (arith, some, none))
    go more false f (AtEnd here stop) = absurd (both_ways (piece_len quote bytes == 0) f (ap (λ n. n == 0) stop))
    go more false f (AtPiece others word some y rest) =
        sym (drop-drop (pieces_len count quote (drop (piece_len quote bytes) bytes)) (piece_len quote bytes) bytes)
        ∙ more others word (omega (arith, some, few, length-drop (piece_len quote bytes) bytes)) is y rest

-- what a string that is read has behind its first quote
read_behind : (bytes more value left : List ℕ) (quote : ℕ) → bytes ≡ quote ∷ more → (reads : Reads (String value) bytes left)
    → Unescapes quote reads.1.1 value × (more ≡ reads.1.1 ++ quote ∷ left)
read_behind bytes more value left quote opens reads =
    let e = sym opens ∙ string_bytes_of bytes value left reads in
    let same = heads_same quote reads.1.0 more (reads.1.1 ++ reads.1.0 ∷ left) e in (
      subst (λ q. Unescapes q reads.1.1 value) (sym same) reads.1.4,
      tails_same quote reads.1.0 more (reads.1.1 ++ reads.1.0 ∷ left) e ∙ ap (λ q. reads.1.1 ++ q ∷ left) (sym same),
    )

-- a string is its pieces before the quote
string_ends : (bytes more raw after value : List ℕ) (quote : ℕ) → IsQuote quote → bytes ≡ quote ∷ more → more ≡ raw ++ after → Unescapes quote raw value
    → ((others word left : List ℕ) → Unescapes quote others word → more ≡ others ++ quote ∷ left → after ≡ quote ∷ left)
    → IsFirstToken bytes (NoString bytes) (string_closed quote raw after)
string_ends bytes more raw [] value quote is opens split x ends = λ other left reads.
    let behind = read_behind bytes more other left quote opens reads in
    none_some quote left (ends reads.1.1 other left behind.0 behind.1)
string_ends bytes more raw (byte ∷ rest) value quote is opens split x ends = go (byte == quote && is_text raw) refl
  where
    go : (t : Bool) → (byte == quote && is_text raw) ≡ t
        → IsFirstToken bytes (NoString bytes) (cond t (Some (record { token = String (unescaped raw); rest = rest })) None)
    go true e =
        let close = eqb-true byte quote (and_parts (byte == quote) (is_text raw) e).0 in
        string_begins bytes (unescaped raw) rest
        (string_found bytes more raw (unescaped raw) rest quote is opens (split ∙ ap (λ b. raw ++ b ∷ rest) close)
        (subst (Unescapes quote raw) (sym (one_value quote raw value x)) x) (passes_text raw (and_parts (byte == quote) (is_text raw) e).1))
    go false e = λ other left reads.
        let behind = read_behind bytes more other left quote opens reads in
        let close = heads_same byte quote rest left (ends reads.1.1 other left behind.0 behind.1) in
        let same = (string_is bytes more raw value rest other left quote is opens (split ∙ ap (λ b. raw ++ b ∷ rest) close) x reads).0 in
        both_ways (byte == quote && is_text raw) e
        (and_from (byte == quote) (is_text raw) (equal byte quote close) (text_passes raw (subst IsText (sym same) reads.1.3)))
      where
        equal : (m n : ℕ) → m ≡ n → (m == n) ≡ true
        equal m n e = grind arith

string_exact : (bytes : List ℕ) → IsFirstToken bytes (NoString bytes) (string_at bytes)
string_exact [] = λ value left reads. none_some reads.1.0 (reads.1.1 ++ reads.1.0 ∷ left) (string_bytes_of [] value left reads)
string_exact (byte ∷ bytes) = opened (byte == 34 || byte == 39) refl
  where
    opened : (t : Bool) → (byte == 34 || byte == 39) ≡ t
        → IsFirstToken (byte ∷ bytes) (NoString (byte ∷ bytes)) (cond t (string_behind byte (pieces_len (length bytes) byte bytes) bytes) None)
    opened true e =
        let count = pieces_len (length bytes) byte bytes in
        let value = pieces_value (length bytes) byte bytes in
        let is = one_of_two byte 34 39 e in
        string_ends (byte ∷ bytes) bytes (take count bytes) (drop count bytes) value.0 byte is refl (sym (take-append-drop count bytes)) value.1
        (λ others word left x split. pieces_end (length bytes) byte bytes others word left (omega arith) is x split)
    opened false e = λ value left reads.
        both_ways (byte == 34 || byte == 39) e
        (either_byte byte 34 39 (subst IsQuote (sym (heads_same byte reads.1.0 bytes (reads.1.1 ++ reads.1.0 ∷ left) (string_bytes_of (byte ∷ bytes) value left reads))) reads.1.2))

-- dots at the end are left out, and no more
undotted_short : (count : ℕ) (bytes : List ℕ) → undotted_len count bytes ≤ count
undotted_short zero bytes = omega arith
undotted_short (suc count) bytes = go (ends_in_dot (take (suc count) bytes)) (undotted_short count bytes)
  where
    go : (t : Bool) → undotted_len count bytes ≤ count → cond t (undotted_len count bytes) (suc count) ≤ suc count
    go true h = omega (arith, h)
    go false h = omega arith

undotted_ends : (count : ℕ) (bytes : List ℕ) → ends_in_dot (take (undotted_len count bytes) bytes) ≡ false
undotted_ends zero bytes = refl
undotted_ends (suc count) bytes = go (undotted_ends count bytes) (ends_in_dot (take (suc count) bytes)) refl
  where
    go : ends_in_dot (take (undotted_len count bytes) bytes) ≡ false → (t : Bool) → ends_in_dot (take (suc count) bytes) ≡ t → ends_in_dot (take (cond t (undotted_len count bytes) (suc count)) bytes) ≡ false
    go fewer true e = fewer
    go fewer false e = e

undotted_most : (count : ℕ) (bytes : List ℕ) (n : ℕ) → n ≤ count → ends_in_dot (take n bytes) ≡ false → n ≤ undotted_len count bytes
undotted_most zero bytes n low plain = low
undotted_most (suc count) bytes n low plain = go (λ below. undotted_most count bytes n below plain) (ends_in_dot (take (suc count) bytes)) refl
  where
    go : (n ≤ count → n ≤ undotted_len count bytes) → (t : Bool) → ends_in_dot (take (suc count) bytes) ≡ t → n ≤ cond t (undotted_len count bytes) (suc count)
    go fewer true e = fewer (below (n == suc count) refl)
      where
        below : (t : Bool) → (n == suc count) ≡ t → n ≤ count
        below true same =
            absurd (both_ways (ends_in_dot (take n bytes)) plain (ap (λ m. ends_in_dot (take m bytes)) (eqb-true n (suc count) same) ∙ e))
        below false other = grind (arith, low, other)
    go fewer false e = low

-- the longest local part is found
local_exact : (bytes : List ℕ) → IsLongestLocal bytes (take (local_len bytes) bytes) (drop (local_len bytes) bytes)
local_exact [] = record {
  split = refl;
  local = refl;
  longest = longest;
}
  where
    longest : (other left : List ℕ) → IsTrue (is_local other) → [] ≡ other ++ left → length other ≤ 0
    longest [] left local e = omega arith
    longest (b ∷ other) left local e = absurd (none_some b (other ++ left) e)
local_exact (first ∷ bytes) = go (is_local_first first) refl
  where
    go : (t : Bool) → is_local_first first ≡ t
        → IsLongestLocal (first ∷ bytes) (take (cond t (1 + undotted_len (length (run is_local_byte bytes)) (run is_local_byte bytes)) 0) (first ∷ bytes))
        (drop (cond t (1 + undotted_len (length (run is_local_byte bytes)) (run is_local_byte bytes)) 0) (first ∷ bytes))
    go true e =
        let inner = run is_local_byte bytes in
        local_longest (first ∷ bytes) first bytes inner (behind_run is_local_byte bytes) (undotted_len (length inner) inner) refl e
        (run_of is_local_byte bytes inner (behind_run is_local_byte bytes) refl refl) (undotted_short (length inner) inner)
        (undotted_ends (length inner) inner) (undotted_most (length inner) inner)
    go false e = record { split = refl; local = refl; longest = longest }
      where
        longest : (other left : List ℕ) → IsTrue (is_local other) → first ∷ bytes ≡ other ++ left → length other ≤ 0
        longest [] left local f = omega arith
        longest (b ∷ other) left local f = absurd (both_ways (is_local_first first) e
            (ap is_local_first (heads_same first b bytes (other ++ left) f)
            ∙ (and_parts (is_local_first b) (list_all is_local_byte other)
            (and_parts (is_local_first b && list_all is_local_byte other) (not (ends_in_dot other)) local).0).0))

-- a name is the run of its prefix, `:` and the longest local part
name_ends : (bytes prefix after : List ℕ) → IsRun is_prefix_byte bytes prefix after → IsFirstToken bytes (NoName bytes) (name_behind prefix after)
name_ends bytes prefix [] r = λ other local left reads. none_some 58 (local ++ left) (name_is_run bytes prefix [] other local left r reads).1
name_ends bytes prefix (byte ∷ more) r = go (byte == 58 && is_prefix prefix) refl
  where
    go : (t : Bool) → (byte == 58 && is_prefix prefix) ≡ t
        → IsFirstToken bytes (NoName bytes) (cond t (Some (record { token = Name prefix (take (local_len more) more); rest = drop (local_len more) more })) None)
    go true e =
        let local = take (local_len more) more in
        let rest = drop (local_len more) more in
        let colon : byte ∷ more ≡ 58 ∷ more = ap (λ b. b ∷ more) (eqb-true byte 58 (and_parts (byte == 58) (is_prefix prefix) e).0) in
        let longest = local_exact more in
        name_begins bytes prefix local rest (
          prefix ++ 58 ∷ local,
          ((and_parts (byte == 58) (is_prefix prefix) e).1, longest.local, refl),
          r.split ∙ (ap (λ l. prefix ++ l) (colon ∙ ap (λ l. 58 ∷ l) longest.split) ∙ sym (append_assoc prefix (58 ∷ local) rest)),
        )
        (name_longest bytes prefix (byte ∷ more) more local rest r colon longest)
    go false e = λ other part left reads.
        let same = name_is_run bytes prefix (byte ∷ more) other part left r reads in
        both_ways (byte == 58 && is_prefix prefix) e
        (and_from (byte == 58) (is_prefix prefix) (ap (λ b. b == 58) (heads_same byte 58 more (part ++ left) same.1))
        (subst (λ p. IsTrue (is_prefix p)) (sym same.0) reads.1.0))

name_exact : (bytes : List ℕ) → IsFirstToken bytes (NoName bytes) (name_at bytes)
name_exact bytes = name_ends bytes (run is_prefix_byte bytes) (behind_run is_prefix_byte bytes)
    (run_of is_prefix_byte bytes (run is_prefix_byte bytes) (behind_run is_prefix_byte bytes) refl refl)

-- a word is found where no other kind stands
word_exact : (bytes : List ℕ) → NoIri bytes → NoVariable bytes → NoString bytes → NoName bytes
    → IsFirstToken bytes ((token : Token) (left : List ℕ) → ¬ (Reads token bytes left)) (word_at bytes)
word_exact bytes iri variable string name = go (find (λ word. begins_with word bytes) words) refl
  where
    go : (found : Option Word) → find (λ word. begins_with word bytes) words ≡ found
        → IsFirstToken bytes ((token : Token) (left : List ℕ) → ¬ (Reads token bytes left)) (option_map (word_taken bytes) found)
    go None e = no_token bytes iri name variable string (none_is_none bytes e)
    go (Some word) e =
        let first = word_taken bytes word in
        let found = found_word bytes first.rest word e refl in
        word_begins bytes first.rest word found.reads found.longest iri name variable string

-- the first of two, where the second is found knowing that the first is not there
either_exact : (bytes : List ℕ) (NoFirst NoBoth : Type 0) (one other : Option FirstToken) → IsFirstToken bytes NoFirst one → (NoFirst → IsFirstToken bytes NoBoth other)
    → IsFirstToken bytes NoBoth (either one other)
either_exact bytes NoFirst NoBoth None other h more = more h
either_exact bytes NoFirst NoBoth (Some first) other h more = h

-- the longest token is found, or none stands there
pub token_exact : (bytes : List ℕ) → IsFirstToken bytes ((token : Token) (left : List ℕ) → ¬ (Reads token bytes left)) (token_at bytes)
token_exact bytes =
    either_exact bytes _ _ (iri_at bytes) _ (iri_exact bytes) (λ iri.
    either_exact bytes _ _ (variable_at bytes) _ (variable_exact bytes) (λ variable.
    either_exact bytes _ _ (string_at bytes) _ (string_exact bytes) (λ string.
    either_exact bytes _ _ (name_at bytes) _ (name_exact bytes) (λ name. word_exact bytes iri variable string name))))
