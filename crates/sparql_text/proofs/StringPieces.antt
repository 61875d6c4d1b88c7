-- The pieces of a string: bytes that stand for themselves, and escapes.
use Rattle.std.proofs.Common.{◌≡◌, inl, inr, ℕ, ◌+◌, ◌<◌, Bool, true, false, ◌&&◌, cond, ◌==◌, List, [], ◌∷◌, ◌++◌, take, drop, refl, sym, ◌∙◌, ap, subst, arith, Option, Some, None}
use Rattle.std.specs.Prelude.{is_some}
use Rattle.std.proofs.lemmas.Bool.{both_ways, eqb-true, and_parts}
use Rattle.std.proofs.lemmas.List.{drop-drop}
use Rattle.std.proofs.Math.Seq.{take-add}
use Rattle.m3_terms.proofs.Lists.{heads_same, tails_same}
use Rattle.sparql_text.specs.Tokens.{IsQuote, Unescapes, escape_of, is_string_byte}
use Rattle.sparql_text.specs.Tokens.Unescapes.{Done, Plain, Escape}
use Rattle.sparql_text.specs.Cutting.{escapes, piece_len, PassesPieces}

-- pieces and then others
pub unescapes_both : (quote : ℕ) (raw value others word : List ℕ) → Unescapes quote raw value → Unescapes quote others word
    → Unescapes quote (raw ++ others) (value ++ word)
unescapes_both quote r v others word Done y = y
unescapes_both quote r v others word (Plain byte raw value plain x) y =
    Plain byte (raw ++ others) (value ++ word) plain (unescapes_both quote raw value others word x y)
unescapes_both quote r v others word (Escape letter byte raw value is x) y =
    Escape letter byte (raw ++ others) (value ++ word) is (unescapes_both quote raw value others word x y)

-- a piece stands for a byte
pub piece_word : (quote : ℕ) (bytes : List ℕ) → 0 < piece_len quote bytes → (word : List ℕ) × Unescapes quote (take (piece_len quote bytes) bytes) word
piece_word quote [] some = absurd (omega arith)
piece_word quote (byte ∷ bytes) some = plain (is_string_byte quote byte) refl some
  where
    escape : (t : Bool) → (byte == 92 && escapes bytes) ≡ t → 0 < cond t 2 0 → (word : List ℕ) × Unescapes quote (take (cond t 2 0) (byte ∷ bytes)) word
    escape false e some = absurd (omega arith)
    escape true e some = behind bytes (eqb-true byte 92 (and_parts (byte == 92) (escapes bytes) e).0) (and_parts (byte == 92) (escapes bytes) e).1
      where
        behind : (more : List ℕ) → byte ≡ 92 → escapes more ≡ true → (word : List ℕ) × Unescapes quote (take 2 (byte ∷ more)) word
        behind [] slash e = absurd (cc)
        behind (letter ∷ more) slash e = value (escape_of letter) refl e
          where
            value : (o : Option ℕ) → escape_of letter ≡ o → is_some o ≡ true → (word : List ℕ) × Unescapes quote (byte ∷ letter ∷ []) word
            value None is e = absurd (cc)
            value (Some b) is e = (b ∷ [], subst (λ s. Unescapes quote (s ∷ letter ∷ []) (b ∷ [])) (sym slash) (Escape letter b [] [] is Done))

    plain : (t : Bool) → is_string_byte quote byte ≡ t → 0 < cond t 1 (cond (byte == 92 && escapes bytes) 2 0)
        → (word : List ℕ) × Unescapes quote (take (cond t 1 (cond (byte == 92 && escapes bytes) 2 0)) (byte ∷ bytes)) word
    plain true e some = (byte ∷ [], Plain byte [] [] e Done)
    plain false e some = escape (byte == 92 && escapes bytes) refl some

-- neither the quote nor `\` stands for itself
quote_ends : (quote : ℕ) → IsQuote quote → (is_string_byte quote quote ≡ false) × (is_string_byte quote 92 ≡ false) × ((quote == 92) ≡ false)
quote_ends quote (inl is) = subst (λ q. (is_string_byte q q ≡ false) × (is_string_byte q 92 ≡ false) × ((q == 92) ≡ false)) (sym is) (refl, refl, refl)
quote_ends quote (inr is) = subst (λ q. (is_string_byte q q ≡ false) × (is_string_byte q 92 ≡ false) × ((q == 92) ≡ false)) (sym is) (refl, refl, refl)

-- at the quote there is no piece
quote_stops : (quote : ℕ) (left : List ℕ) → IsQuote quote → piece_len quote (quote ∷ left) ≡ 0
quote_stops quote left is =
    let ends = quote_ends quote is in
    go (is_string_byte quote quote) (quote == 92) (escapes left) ends.0 ends.2
  where
    go : (s t u : Bool) → s ≡ false → t ≡ false → ◌≡◌ {A = ℕ} (cond s 1 (cond (t && u) 2 0)) 0
    go false false u e f = refl
    go false true u e f = absurd (cc)
    go true t u e f = absurd (cc)

-- how bytes go on that a quote ends
pub data Next (quote : ℕ) (bytes left : List ℕ) : Type 0 where
  AtEnd : bytes ≡ quote ∷ left → piece_len quote bytes ≡ 0 → Next quote bytes left
  AtPiece : (others word : List ℕ) → 0 < piece_len quote bytes → Unescapes quote others word → drop (piece_len quote bytes) bytes ≡ others ++ quote ∷ left
      → Next quote bytes left

-- a string goes on with its pieces up to the quote
pub next_piece : (quote : ℕ) (raw value bytes left : List ℕ) → IsQuote quote → Unescapes quote raw value → bytes ≡ raw ++ quote ∷ left → Next quote bytes left
next_piece quote r v bytes left is Done e = AtEnd e (ap (piece_len quote) e ∙ quote_stops quote left is)
next_piece quote r v bytes left is (Plain byte raw value plain x) e =
    let one : piece_len quote bytes ≡ 1 = ap (piece_len quote) e ∙ (rw plain refl) in
    AtPiece raw value (omega (arith, one)) x (ap (λ n. drop n bytes) one ∙ ap (drop 1) e)
next_piece quote r v bytes left is (Escape letter byte raw value stands x) e =
    let two : piece_len quote bytes ≡ 2 = ap (piece_len quote) e ∙ (rw ((quote_ends quote is).1, stands) refl) in
    AtPiece raw value (omega (arith, two)) x (ap (λ n. drop n bytes) two ∙ ap (drop 2) e)

-- where nothing was passed, all is still to come
pub passes_none : (quote : ℕ) (bytes : List ℕ) → PassesPieces quote bytes bytes
passes_none quote bytes raw value left x e = (raw, value, x, e)

-- one more piece is passed
pub passes_more : (quote : ℕ) (bytes : List ℕ) (at : ℕ) → IsQuote quote → 0 < piece_len quote (drop at bytes) → PassesPieces quote bytes (drop at bytes)
    → PassesPieces quote bytes (drop (at + piece_len quote (drop at bytes)) bytes)
passes_more quote bytes at is some before raw value left x e =
    let b = before raw value left x e in
    go (next_piece quote b.0 b.1 (drop at bytes) left is b.2 b.3)
  where
    go : Next quote (drop at bytes) left
        → (others : List ℕ) × (word : List ℕ) × Unescapes quote others word × (drop (at + piece_len quote (drop at bytes)) bytes ≡ others ++ quote ∷ left)
    go (AtEnd here none) = absurd (omega (arith, some, none))
    go (AtPiece others word more y rest) = (others, word, y, sym (drop-drop (piece_len quote (drop at bytes)) at bytes) ∙ rest)

-- where no piece comes, the quote does
pub stops_at_quote : (quote : ℕ) (bytes rest : List ℕ) → IsQuote quote → piece_len quote rest ≡ 0 → PassesPieces quote bytes rest
    → (raw value left : List ℕ) → Unescapes quote raw value → bytes ≡ raw ++ quote ∷ left → rest ≡ quote ∷ left
stops_at_quote quote bytes rest is none passes raw value left x e =
    let b = passes raw value left x e in
    go (next_piece quote b.0 b.1 rest left is b.2 b.3)
  where
    go : Next quote rest left → rest ≡ quote ∷ left
    go (AtEnd here stop) = here
    go (AtPiece others word more y after) = absurd (omega (arith, more, none))

-- one more piece has its value
pub value_more : (quote : ℕ) (bytes : List ℕ) (at : ℕ) → 0 < piece_len quote (drop at bytes) → ((value : List ℕ) × Unescapes quote (take at bytes) value)
    → (value : List ℕ) × Unescapes quote (take (at + piece_len quote (drop at bytes)) bytes) value
value_more quote bytes at some (value, x) =
    let piece = piece_word quote (drop at bytes) some in (
      value ++ piece.0,
      subst (λ l. Unescapes quote l (value ++ piece.0)) (sym (take-add at (piece_len quote (drop at bytes)) bytes))
          (unescapes_both quote (take at bytes) value (take (piece_len quote (drop at bytes)) (drop at bytes)) piece.0 x piece.1),
    )

-- a string has one end: what stands before the quote is told
pub raw_once : (quote : ℕ) (raw value other word a b : List ℕ) → IsQuote quote → Unescapes quote raw value → Unescapes quote other word
    → raw ++ quote ∷ a ≡ other ++ quote ∷ b → (raw ≡ other) × (a ≡ b)
raw_once quote r s o p a b is Done Done e = (refl, tails_same quote quote a b e)
raw_once quote r s o p a b is Done (Plain y other word plain x) e =
    absurd (both_ways (is_string_byte quote y) (ap (is_string_byte quote) (sym (heads_same quote y a (other ++ quote ∷ b) e)) ∙ (quote_ends quote is).0) plain)
raw_once quote r s o p a b is Done (Escape letter y other word stands x) e =
    absurd (both_ways (quote == 92) (quote_ends quote is).2 (rw (heads_same quote 92 a (letter ∷ other ++ quote ∷ b) e) refl))
raw_once quote r s o p a b is (Plain x raw value plain u) Done e =
    absurd (both_ways (is_string_byte quote x) (ap (is_string_byte quote) (heads_same x quote (raw ++ quote ∷ a) b e) ∙ (quote_ends quote is).0) plain)
raw_once quote r s o p a b is (Escape letter x raw value stands u) Done e =
    absurd (both_ways (quote == 92) (quote_ends quote is).2 (rw (sym (heads_same 92 quote (letter ∷ raw ++ quote ∷ a) b e)) refl))
raw_once quote r s o p a b is (Plain x raw value plain u) (Plain y other word free v) e =
    let more = raw_once quote raw value other word a b is u v (tails_same x y (raw ++ quote ∷ a) (other ++ quote ∷ b) e) in
    let head = heads_same x y (raw ++ quote ∷ a) (other ++ quote ∷ b) e in
    let tail = more.0 in
    ((cc), more.1)
raw_once quote r s o p a b is (Plain x raw value plain u) (Escape letter y other word stands v) e =
    absurd (both_ways (is_string_byte quote x) (ap (is_string_byte quote) (heads_same x 92 (raw ++ quote ∷ a) (letter ∷ other ++ quote ∷ b) e) ∙ (quote_ends quote is).1) plain)
raw_once quote r s o p a b is (Escape letter x raw value stands u) (Plain y other word plain v) e =
    absurd (both_ways (is_string_byte quote y) (ap (is_string_byte quote) (sym (heads_same 92 y (letter ∷ raw ++ quote ∷ a) (other ++ quote ∷ b) e)) ∙ (quote_ends quote is).1) plain)
raw_once quote r s o p a b is (Escape letter x raw value stands u) (Escape mark y other word means v) e =
    let behind = tails_same 92 92 (letter ∷ raw ++ quote ∷ a) (mark ∷ other ++ quote ∷ b) e in
    let more = raw_once quote raw value other word a b is u v (tails_same letter mark (raw ++ quote ∷ a) (other ++ quote ∷ b) behind) in
    let head = heads_same letter mark (raw ++ quote ∷ a) (other ++ quote ∷ b) behind in
    let tail = more.0 in
    ((cc), more.1)
