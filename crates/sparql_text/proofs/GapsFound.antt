-- Behind white space and comments stand bytes that begin with none, and these alone.
use Rattle.std.proofs.Common.{◌≡◌, inl, inr, ℕ, zero, suc, ◌≤◌, ◌<◌, Bool, true, false, ◌&&◌, ◌||◌, cond, not, ◌==◌, List, [], ◌∷◌, ◌++◌, length, get_or, refl, sym, ◌∙◌, ap, subst, arith, Option, Some, None}
use Rattle.std.specs.Prelude.{unwrap_or}
use Rattle.std.specs.Char.{to_ascii_lowercase}
use Rattle.std.specs.Option.{option_map}
use Rattle.std.proofs.lemmas.Bool.{both_ways, eqb-true, and_parts, and_from}
use Rattle.std.proofs.lemmas.List.{length-append, append_cancel_left}
use Rattle.m3_terms.proofs.Lists.{heads_same, tails_same}
use Rattle.sparql_text.specs.declared.word.Word.{Word}
use Rattle.sparql_text.specs.declared.word.Word.TheVariants as word
use Rattle.sparql_text.specs.Tokens.{Token, Iri, Name, Variable, String, Fixed, spelling, is_letter}
use Rattle.sparql_text.specs.Lexing.{Gap, IsLineEnd, is_white, is_inline, ends_line, Reads}
use Rattle.sparql_text.specs.Lexing.Gap.{Nothing, White, Comment}
use Rattle.sparql_text.specs.Cutting.{Stops, IsComment, GapPiece}
use Rattle.sparql_text.specs.Cutting.GapPiece.{WhitePiece, CommentPiece}
use Rattle.sparql_text.specs.FirstTokens.{is_text, run, behind_run, behind_piece, behind_gap}
use Rattle.sparql_text.proofs.ByteRuns.{run_of}
use Rattle.sparql_text.proofs.TokenReadings.{iri_bytes, variable_bytes, name_bytes, string_bytes_of}
use Rattle.sparql_text.proofs.TokenBegins.{folded_byte, initial, word_first, prefix_first}
use Rattle.sparql_text.proofs.Gaps.{end_line, runs_same, comment_none, piece_none, gap_stops}
use Rattle.sparql_text.proofs.TextsTested.{text_passes, passes_text}

-- no white space and no comment stands at the start
abbrev pub IsGapless : List ℕ → Type 0
IsGapless bytes = (left : List ℕ) → Gap bytes left → left ≡ bytes

-- the bytes behind a piece, or none where no piece stands
abbrev IsBehindPiece : List ℕ → Option (List ℕ) → Type 0
IsBehindPiece bytes None = (rest : List ℕ) → ¬ (GapPiece bytes rest)
IsBehindPiece bytes (Some rest) = GapPiece bytes rest

-- where no byte stands, no piece does
no_piece : (rest : List ℕ) → ¬ (GapPiece [] rest)
no_piece rest (WhitePiece byte white e) = absurd (cc)
no_piece rest (CommentPiece c) = let e = c.split in absurd (cc)

-- a run that stops at the end of a line
line_end : (rest : List ℕ) → Stops is_inline rest → IsLineEnd rest
line_end [] stops = tt
line_end (byte ∷ rest) stops = done (ends_line byte) stops
  where
    done : (b : Bool) → not b ≡ false → b ≡ true
    done true h = refl
    done false h = absurd (cc)

-- a piece is found where one stands
piece_exact : (bytes : List ℕ) → IsBehindPiece bytes (behind_piece bytes)
piece_exact [] = no_piece
piece_exact (byte ∷ bytes) = white (is_white byte) refl
  where
    comment : is_white byte ≡ false → (t : Bool) → (byte == 35 && is_text (run is_inline bytes)) ≡ t
        → IsBehindPiece (byte ∷ bytes) (cond t (Some (behind_run is_inline bytes)) None)
    comment black true e =
        let r = run_of is_inline bytes (run is_inline bytes) (behind_run is_inline bytes) refl refl in
        let hash = eqb-true byte 35 (and_parts (byte == 35) (is_text (run is_inline bytes)) e).0 in
        CommentPiece (record {
          text = run is_inline bytes;
          is = passes_text (run is_inline bytes) (and_parts (byte == 35) (is_text (run is_inline bytes)) e).1;
          inline = r.pass;
          ends = line_end (behind_run is_inline bytes) r.stops;
          split = ap (λ b. b ∷ bytes) hash ∙ ap (λ l. 35 ∷ l) r.split;
        })
    comment black false e = piece_none (byte ∷ bytes) byte bytes refl black (hashed (byte == 35) refl)
      where
        hashed : (t : Bool) → (byte == 35) ≡ t → (rest : List ℕ) → ¬ (IsComment (byte ∷ bytes) rest)
        hashed true hash = comment_none (byte ∷ bytes) bytes (run is_inline bytes) (behind_run is_inline bytes) (ap (λ b. b ∷ bytes) (eqb-true byte 35 hash))
            (run_of is_inline bytes (run is_inline bytes) (behind_run is_inline bytes) refl refl)
            (λ text. both_ways (byte == 35 && is_text (run is_inline bytes)) e
            (and_from (byte == 35) (is_text (run is_inline bytes)) hash (text_passes (run is_inline bytes) text)))
        hashed false other = λ rest c. both_ways (byte == 35) other (ap (λ b. b == 35) (heads_same byte 35 bytes (c.text ++ rest) c.split))

    white : (t : Bool) → is_white byte ≡ t
        → IsBehindPiece (byte ∷ bytes) (cond t (Some bytes) (cond (byte == 35 && is_text (run is_inline bytes)) (Some (behind_run is_inline bytes)) None))
    white true e = WhitePiece byte e refl
    white false e = comment e (byte == 35 && is_text (run is_inline bytes)) refl

-- a piece is some bytes
piece_shorter : (bytes rest : List ℕ) → GapPiece bytes rest → length rest < length bytes
piece_shorter bytes rest (WhitePiece byte white e) = let a = ap length e in omega (arith, a)
piece_shorter bytes rest (CommentPiece c) = let a = ap length c.split in omega (arith, a, length-append c.text rest)

-- a piece and then a gap are a gap
piece_then : (bytes rest left : List ℕ) → GapPiece bytes rest → Gap rest left → Gap bytes left
piece_then bytes rest left (WhitePiece byte white e) g = subst (λ l. Gap l left) (sym e) (White byte rest left white g)
piece_then bytes rest left (CommentPiece c) g = subst (λ l. Gap l left) (sym c.split) (Comment c.text rest left c.is c.inline c.ends g)

-- what stands behind a gap, with no other behind it
pub record IsBehindGap (bytes rest : List ℕ) : Type 0 where
  pub gap : Gap bytes rest
  pub gapless : IsGapless rest

-- the gap at the start is found, all of it
pub gap_found : (count : ℕ) (bytes : List ℕ) → length bytes ≤ count → IsBehindGap bytes (behind_gap count bytes)
gap_found zero [] few = record { gap = Nothing []; gapless = λ left. gap_stops [] left no_piece }
gap_found zero (byte ∷ bytes) few = absurd (omega (arith, few))
gap_found (suc count) bytes few = go (gap_found count) (behind_piece bytes) (piece_exact bytes)
  where
    go : ((rest : List ℕ) → length rest ≤ count → IsBehindGap rest (behind_gap count rest)) → (found : Option (List ℕ)) → IsBehindPiece bytes found
        → IsBehindGap bytes (unwrap_or (option_map (behind_gap count) found) bytes)
    go more None none = record { gap = Nothing bytes; gapless = λ left. gap_stops bytes left none }
    go more (Some rest) piece =
        let less = piece_shorter bytes rest piece in
        let behind = more rest (omega (arith, less, few)) in
        record { gap = piece_then bytes rest (behind_gap count rest) piece behind.gap; gapless = behind.gapless }

-- a number sign is no white space
hash_black : (byte : ℕ) → is_white byte ≡ true → byte ≡ 35 → ⊥
hash_black byte white e = both_ways (is_white byte) (ap is_white e) white

-- there is one such rest
pub gap_once : (bytes a others b : List ℕ) → Gap bytes a → Gap others b → bytes ≡ others → IsGapless a → IsGapless b → a ≡ b
gap_once bytes a others b (Nothing l) g e none never = sym (none b (subst (λ l. Gap l b) (sym e) g))
gap_once bytes a others b g (Nothing l) e none never = never a (subst (λ l. Gap l a) e g)
gap_once bytes a others b (White x l r white g) (White y m s other h) e none never = gap_once l a m b g h (tails_same x y l m e) none never
gap_once bytes a others b (White x l r white g) (Comment text m s is inline ends h) e none never =
    absurd (hash_black x white (heads_same x 35 l (text ++ m) e))
gap_once bytes a others b (Comment text l r is inline ends g) (White y m s white h) e none never =
    absurd (hash_black y white (sym (heads_same 35 y (text ++ l) m e)))
gap_once bytes a others b (Comment text l r is inline ends g) (Comment word m s this single stops h) e none never =
    let tails = tails_same 35 35 (text ++ l) (word ++ m) e in
    let same = runs_same is_inline text l word m inline (end_line l ends) single (end_line m stops) tails in
    gap_once l a m b g h (append_cancel_left word l m (ap (λ t. t ++ l) (sym same) ∙ tails)) none never

-- a byte is no white space and no number sign
abbrev is_solid : ℕ → Bool
is_solid byte = not (is_white byte || byte == 35)

letter_solid : (byte : ℕ) → is_letter byte ≡ true → is_solid byte ≡ true
letter_solid byte h = grind arith

-- a word begins with such a byte
word_solid : (word : Word) → is_solid (initial word) ≡ true
unfolding spelling
word_solid word.A = refl
word_solid other = refl

folded_solid : (word : Word) (byte : ℕ) → is_solid (folded_byte word byte) ≡ true → is_solid byte ≡ true
folded_solid word.A byte h = h
folded_solid other byte h = lower byte h
  where
    lower : (byte : ℕ) → is_solid (to_ascii_lowercase byte) ≡ true → is_solid byte ≡ true
    lower byte h = grind arith

-- so does each token
token_solid : (token : Token) (bytes left : List ℕ) → Reads token bytes left → is_solid (get_or bytes 0 0) ≡ true
token_solid (Iri value) bytes left reads = ap (λ l. is_solid (get_or l 0 0)) (iri_bytes bytes value left reads)
token_solid (Name [] local) bytes left reads = ap (λ l. is_solid (get_or l 0 0)) (name_bytes bytes [] local left reads)
token_solid (Name (byte ∷ prefix) local) bytes left reads =
    ap (λ l. is_solid (get_or l 0 0)) (name_bytes bytes (byte ∷ prefix) local left reads) ∙ letter_solid byte (prefix_first byte prefix reads.1.0)
token_solid (Variable name) bytes left reads = elim (variable_bytes bytes name left reads) [
  | inl e ↦ ap (λ l. is_solid (get_or l 0 0)) e
  | inr e ↦ ap (λ l. is_solid (get_or l 0 0)) e
]
token_solid (String value) bytes left reads = elim reads.1.2 [
  | inl e ↦ ap (λ l. is_solid (get_or l 0 0)) (string_bytes_of bytes value left reads) ∙ ap is_solid e
  | inr e ↦ ap (λ l. is_solid (get_or l 0 0)) (string_bytes_of bytes value left reads) ∙ ap is_solid e
]
token_solid (Fixed word) bytes left reads =
    folded_solid word (get_or bytes 0 0) (ap is_solid (word_first word bytes left reads) ∙ word_solid word)

-- where such a byte stands no piece does
solid_none : (bytes rest : List ℕ) → is_solid (get_or bytes 0 0) ≡ true → ¬ (GapPiece bytes rest)
solid_none bytes rest solid (WhitePiece byte white e) =
    both_ways (is_solid byte) (dark (is_white byte) (byte == 35) white) (sym (ap (λ l. is_solid (get_or l 0 0)) e) ∙ solid)
  where
    dark : (a b : Bool) → a ≡ true → not (a || b) ≡ false
    dark true b h = refl
    dark false b h = absurd (cc)
solid_none bytes rest solid (CommentPiece c) = both_ways (is_solid 35) refl (sym (ap (λ l. is_solid (get_or l 0 0)) c.split) ∙ solid)

-- where a token stands no gap does
pub token_gapless : (token : Token) (bytes left : List ℕ) → Reads token bytes left → IsGapless bytes
token_gapless token bytes left reads = λ rest. gap_stops bytes rest (λ more. solid_none bytes more (token_solid token bytes left reads))

-- nor at the end
pub end_gapless : IsGapless []
end_gapless = λ left. gap_stops [] left no_piece
