-- White space and comments, piece by piece.
use Rattle.std.proofs.Common.{◌≡◌, inl, inr, ℕ, zero, suc, ◌+◌, ◌<◌, ◌≤◌, Bool, true, false, not, List, [], ◌∷◌, ◌++◌, length, take, drop, get_or, refl, sym, ◌∙◌, ap, subst, arith}
use Rattle.std.specs.Prelude.{Option, Some, None, IfNone}
use Rattle.std.specs.List.{list_all}
use Rattle.std.proofs.lemmas.Bool.{false_from_ne_true, both_ways, and_from}
use Rattle.std.proofs.lemmas.List.{drop_all, drop_more, take-append-drop, length-append}
use Rattle.memchr.specs.Find.{Passes, Nowhere, NoneBefore}
use Rattle.m3_terms.specs.Text.{IsText}
use Rattle.m3_terms.proofs.Lists.{heads_same, tails_same}
use Rattle.sparql_text.specs.Tokens.{Token, Iri, Name, Variable, String, Fixed}
use Rattle.sparql_text.specs.Lexing.{Gap, IsLineEnd, is_white, is_inline, ends_line, Reads, Begins}
use Rattle.sparql_text.specs.Lexing.Gap.{Nothing, White, Comment}
use Rattle.sparql_text.specs.Cutting.{Stops, IsRun, IsComment, GapPiece}
use Rattle.sparql_text.specs.Cutting.GapPiece.{WhitePiece, CommentPiece}
use Rattle.sparql_text.proofs.ByteRuns.{run_longest}
use Rattle.sparql_text.proofs.Words.{reads_begins}
use Rattle.sparql_text.proofs.TokenReadings.{iri_bytes, variable_bytes, name_bytes, string_bytes_of}
use Rattle.sparql_text.proofs.TokenBegins.{some_spelling}

-- before the first byte that ends a line none does
inline_take : (bytes : List ℕ) (place : ℕ) → ((k : ℕ) → k < place → ¬ (Passes ends_line bytes k)) → list_all is_inline (take place bytes) ≡ true
inline_take bytes zero h = refl
inline_take [] (suc place) h = refl
inline_take (byte ∷ bytes) (suc place) h =
    and_from (is_inline byte) (list_all is_inline (take place bytes)) (ap not (false_from_ne_true (ends_line byte) (h 0 (omega arith))))
    (inline_take bytes place (λ k below. h (suc k) (omega arith)))

stops_at : (bytes rest : List ℕ) (byte : ℕ) → bytes ≡ byte ∷ rest → ends_line byte ≡ true → Stops is_inline bytes
stops_at bytes rest byte e ends = subst (Stops is_inline) (sym e) (ap not ends)

-- a line ends at the first byte that ends one
pub line_at : (bytes front rest : List ℕ) (end : ℕ) → NoneBefore (Passes ends_line bytes) 0 (length bytes) end → Passes ends_line bytes end
    → front ≡ take end bytes → rest ≡ drop end bytes → IsRun is_inline bytes front rest
line_at bytes front rest end none passes e f = record {
  split = sym (ap (λ l. l ++ rest) e ∙ (ap (λ l. take end bytes ++ l) f ∙ take-append-drop end bytes));
  pass = ap (list_all is_inline) e ∙ inline_take bytes end (λ k below. none.before k (omega arith) below);
  stops = stops_at rest (drop (end + 1) bytes) (get_or bytes end 0) (f ∙ drop_more bytes end 0 none.high) passes;
}

-- or with the bytes
pub line_all : (bytes front rest : List ℕ) (end : ℕ) → Nowhere (Passes ends_line bytes) 0 (length bytes) → end ≡ length bytes
    → front ≡ take end bytes → rest ≡ drop end bytes → IsRun is_inline bytes front rest
line_all bytes front rest end none all e f = record {
  split = sym (ap (λ l. l ++ rest) e ∙ (ap (λ l. take end bytes ++ l) f ∙ take-append-drop end bytes));
  pass = ap (list_all is_inline) e ∙ inline_take bytes end (λ k below. none k (omega arith) (omega arith));
  stops = subst (Stops is_inline) (sym (f ∙ drop_all end bytes (omega (arith, all)))) tt;
}

pub end_line : (rest : List ℕ) → IsLineEnd rest → Stops is_inline rest
end_line [] ends = tt
end_line (byte ∷ rest) ends = ap not ends

-- two runs that stop are one
pub runs_same : (p : ℕ → Bool) (a x b y : List ℕ) → list_all p a ≡ true → Stops p x → list_all p b ≡ true → Stops p y → a ++ x ≡ b ++ y → a ≡ b
runs_same p a x b y all stops every ends e =
    let one = run_longest p a x b y stops every e in
    let two = run_longest p b y a x ends all (sym e) in
    same_front a x b y (omega (arith, one, two)) e
  where
    same_front : (a x b y : List ℕ) → length a ≡ length b → a ++ x ≡ b ++ y → a ≡ b
    same_front [] x [] y long e = refl
    same_front [] x (d ∷ b) y long e = absurd (omega arith)
    same_front (c ∷ a) x [] y long e = absurd (omega arith)
    same_front (c ∷ a) x (d ∷ b) y long e =
        let head = heads_same c d (a ++ x) (b ++ y) e in
        let tail = same_front a x b y (omega arith) (tails_same c d (a ++ x) (b ++ y) e) in
        cc

-- where the line behind `#` is no text, there is no comment
pub comment_none : (bytes more text rest : List ℕ) → bytes ≡ 35 ∷ more → IsRun is_inline more text rest → ¬ (IsText text) → (left : List ℕ) → ¬ (IsComment bytes left)
comment_none bytes more text rest hash run other left c =
    let e = tails_same 35 35 more (c.text ++ left) (sym hash ∙ c.split) in
    other (subst IsText (sym (runs_same is_inline text rest c.text left run.pass run.stops c.inline (end_line left c.ends) (sym run.split ∙ e))) c.is)

-- a byte that is not white begins a comment or no piece
pub piece_none : (bytes : List ℕ) (first : ℕ) (others : List ℕ) → bytes ≡ first ∷ others → is_white first ≡ false
    → ((rest : List ℕ) → ¬ (IsComment bytes rest)) → (rest : List ℕ) → ¬ (GapPiece bytes rest)
piece_none bytes first others split black none rest (WhitePiece byte white e) =
    both_ways (is_white first) black (ap is_white (heads_same first byte others rest (sym split ∙ e)) ∙ white)
piece_none bytes first others split black none rest (CommentPiece c) = none rest c

-- one more piece behind a gap
pub gap_more : (bytes rest more : List ℕ) → Gap bytes rest → GapPiece rest more → Gap bytes more
gap_more bytes rest more (Nothing b) (WhitePiece byte white e) = subst (λ l. Gap l more) (sym e) (White byte more more white (Nothing more))
gap_more bytes rest more (Nothing b) (CommentPiece c) = subst (λ l. Gap l more) (sym c.split) (Comment c.text more more c.is c.inline c.ends (Nothing more))
gap_more bytes rest more (White byte b r white g) piece = White byte b more white (gap_more b rest more g piece)
gap_more bytes rest more (Comment text b r is inline ends g) piece = Comment text b more is inline ends (gap_more b rest more g piece)

-- where no piece stands, a gap is empty
pub gap_stops : (bytes left : List ℕ) → ((rest : List ℕ) → ¬ (GapPiece bytes rest)) → Gap bytes left → left ≡ bytes
gap_stops bytes left none (Nothing b) = refl
gap_stops bytes left none (White byte b r white g) = absurd (none b (WhitePiece byte white refl))
gap_stops bytes left none (Comment text b r is inline ends g) =
    absurd (none b (CommentPiece (record { text = text; is = is; inline = inline; ends = ends; split = refl })))

-- a gap leaves no more bytes
pub gap_shorter : (bytes rest : List ℕ) → Gap bytes rest → length rest ≤ length bytes
gap_shorter bytes rest (Nothing b) = omega arith
gap_shorter bytes rest (White byte b r white g) = let less = gap_shorter b rest g in omega (arith, less)
gap_shorter bytes rest (Comment text b r is inline ends g) = let less = gap_shorter b rest g in omega (arith, less, length-append text b)

-- what follows where nothing was found
pub if_none : {X : Type 0} (r : Option X) (P Q : Type 0) → (P → Q) → IfNone r P → IfNone r Q
if_none None P Q then h = then h
if_none (Some x) P Q then h = tt

-- a token is some bytes
reads_shorter : (token : Token) (bytes rest : List ℕ) → Reads token bytes rest → length rest < length bytes
reads_shorter (Iri value) bytes rest reads = let a = ap length (iri_bytes bytes value rest reads) in omega (arith, a, length-append value (62 ∷ rest))
reads_shorter (Name prefix local) bytes rest reads =
    let a = ap length (name_bytes bytes prefix local rest reads) in omega (arith, a, length-append prefix (58 ∷ (local ++ rest)), length-append local rest)
reads_shorter (Variable name) bytes rest reads = elim (variable_bytes bytes name rest reads) [
  | inl e ↦ let a = ap length e in omega (arith, a, length-append name rest)
  | inr e ↦ let a = ap length e in omega (arith, a, length-append name rest)
]
reads_shorter (String value) bytes rest reads =
    let a = ap length (string_bytes_of bytes value rest reads) in omega (arith, a, length-append reads.1.1 (reads.1.0 ∷ rest))
reads_shorter (Fixed word) bytes rest reads = let a = (reads_begins word bytes rest reads).1 in let some = some_spelling word in omega (arith, a, some)

pub begins_shorter : (token : Token) (bytes rest : List ℕ) → Begins token bytes rest → length rest < length bytes
begins_shorter token bytes rest b = reads_shorter token bytes rest b.reads
