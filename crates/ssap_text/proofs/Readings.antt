-- Readings up to an end, part by part.
use Rattle.std.proofs.Common.{◌≡◌, inl, inr, ℕ, ◌<◌, ◌+◌, List, [], ◌∷◌, ◌++◌, length, map, refl, sym, ◌∙◌, ap, subst, arith, lit<, append-nil}
use Rattle.std.specs.Prelude.{encode_utf8, encode_utf8_all}
use Rattle.std.proofs.lemmas.List.{length-append}
use Rattle.std.proofs.lemmas.List.Concat.{flat_map-append}
use Rattle.m3_terms.specs.Text.{IsText}
use Rattle.ssap_grammar.specs.Front.{Front, Many, OneOf}
use Rattle.ssap_grammar.specs.Text.{references, ReadsPiece}
use Rattle.ssap_grammar.specs.Text.ReadsPiece.{Plain, Reference, Cdata}
use Rattle.ssap_grammar.specs.Attribute.{ReadsValuePiece}
use Rattle.ssap_grammar.specs.Attribute.ReadsValuePiece.{Plain as ValuePlain, Reference as ValueReference}
use Rattle.ssap_text.specs.declared.end.End.{End}
use Rattle.ssap_text.specs.declared.end.End.TheVariants.{Tag, DoubleQuote, SingleQuote}
use Rattle.ssap_text.specs.Pieces.{is_mark, Follows, Reads, NoReading, ReadsMarked}
use Rattle.ssap_text.proofs.PieceKinds.{Marked, IsKind, Without, joined, passed, many_append, many_text, without_here}
use Rattle.ssap_text.proofs.Runs.{Unmarked, run_pieces, run_value, run_text, unmarked_without, char_marked}
use Rattle.ssap_text.proofs.EndKinds.{text_kind, value_kind, two_other, three_other}

-- a piece of what is read up to this end
abbrev pub PieceOf : End → List ℕ → Front
PieceOf Tag = ReadsPiece
PieceOf DoubleQuote = ReadsValuePiece 34
PieceOf SingleQuote = ReadsValuePiece 39

pub kind_of : (end : End) → IsKind (PieceOf end) (is_mark end) (Follows end)
kind_of Tag = text_kind
kind_of DoubleQuote = value_kind 34 (inl refl)
kind_of SingleQuote = value_kind 39 (inr refl)

-- a reading is some pieces
record Pieces (end : End) (value bytes rest : List ℕ) : Type 0 where
  pub pieces : List (List ℕ)
  pub reads : Many (PieceOf end) pieces bytes rest
  pub is : value ≡ joined pieces

to_pieces : (end : End) (value bytes rest : List ℕ) → Reads end value bytes rest → Pieces end value bytes rest
to_pieces Tag value bytes rest x = record { pieces = x.pieces; reads = x.reads; is = x.is }
to_pieces DoubleQuote value bytes rest x = record { pieces = x.pieces; reads = x.reads; is = x.is }
to_pieces SingleQuote value bytes rest x = record { pieces = x.pieces; reads = x.reads; is = x.is }

from_pieces : (end : End) (value bytes rest : List ℕ) → Pieces end value bytes rest → Reads end value bytes rest
from_pieces Tag value bytes rest x = record { pieces = x.pieces; reads = x.reads; is = x.is }
from_pieces DoubleQuote value bytes rest x = record { pieces = x.pieces; reads = x.reads; is = x.is }
from_pieces SingleQuote value bytes rest x = record { pieces = x.pieces; reads = x.reads; is = x.is }

-- where no pieces with the end behind them stand, there is no reading
no_reading : (end : End) (bytes : List ℕ) → Without (PieceOf end) (Follows end) bytes → NoReading end bytes
no_reading end bytes none value rest x f = let p = to_pieces end value bytes rest x in none p.pieces rest p.reads f

-- and the other way round
no_pieces : (end : End) (bytes : List ℕ) → NoReading end bytes → Without (PieceOf end) (Follows end) bytes
no_pieces end bytes none values rest x f = none (joined values) rest (from_pieces end (joined values) bytes rest (record { pieces = values; reads = x; is = refl })) f

-- nothing is read as nothing
pub reads_nothing : (end : End) (bytes : List ℕ) → Reads end [] bytes bytes
reads_nothing end bytes = from_pieces end [] bytes bytes (record { pieces = []; reads = refl; is = refl })

-- a part is read, and then another
pub reads_joined : (end : End) (v w bytes middle rest : List ℕ) → Reads end v bytes middle → Reads end w middle rest → Reads end (v ++ w) bytes rest
reads_joined end v w bytes middle rest x y =
    let p = to_pieces end v bytes middle x in
    let q = to_pieces end w middle rest y in
    let v_is : v ≡ joined p.pieces = p.is in
    let w_is : w ≡ joined q.pieces = q.is in
    from_pieces end (v ++ w) bytes rest (record {
      pieces = p.pieces ++ q.pieces;
      reads = many_append (PieceOf end) (is_mark end) (Follows end) (kind_of end) p.pieces q.pieces bytes middle rest p.reads q.reads;
      is = ap (λ l. l ++ w) v_is ∙ (ap (λ l. joined p.pieces ++ l) w_is ∙ sym (flat_map-append (λ piece. piece) p.pieces q.pieces));
    })

-- where a part was read and there is no reading behind it, there is none
pub none_passed : (end : End) (v bytes middle : List ℕ) → Reads end v bytes middle → NoReading end middle → NoReading end bytes
none_passed end v bytes middle x none =
    let p = to_pieces end v bytes middle x in
    no_reading end bytes (passed (PieceOf end) (is_mark end) (Follows end) (kind_of end) p.pieces bytes middle p.reads (no_pieces end middle none))

-- what is read is a text
pub reads_text : (end : End) (v bytes rest : List ℕ) → Reads end v bytes rest → IsText v
reads_text end v bytes rest x =
    let p = to_pieces end v bytes rest x in
    subst IsText (sym p.is) (many_text (PieceOf end) (is_mark end) (Follows end) (kind_of end) p.pieces bytes rest p.reads)

-- a run of plain characters
pub reads_run : (end : End) (run rest : List ℕ) → IsText run → Unmarked (is_mark end) run → Reads end run (run ++ rest) rest
reads_run end run rest text h =
    from_pieces end run (run ++ rest) rest (record {
      pieces = map encode_utf8 text.0;
      reads = subst (λ r. Many (PieceOf end) (map encode_utf8 text.0) (r ++ rest) rest) text.2
          (run_pieces (PieceOf end) (is_mark end) (Follows end) (kind_of end) text.0 rest text.1 (subst (Unmarked (is_mark end)) (sym text.2) h));
      is = sym text.2 ∙ sym (run_value (PieceOf end) (is_mark end) (Follows end) (kind_of end) text.0);
    })

-- no reading begins with a run that is no text
pub none_run : (end : End) (run after : List ℕ) → Unmarked (is_mark end) run → Marked (is_mark end) after → ¬ (IsText run) → NoReading end (run ++ after)
none_run end run after h m other =
    no_reading end (run ++ after) (λ values rest x f. other (run_text (PieceOf end) (is_mark end) (Follows end) (kind_of end) values run after rest h m x f))

-- where no mark stands, there is no reading
pub none_unmarked : (end : End) (bytes : List ℕ) → Unmarked (is_mark end) bytes → NoReading end bytes
none_unmarked end bytes h = no_reading end bytes (unmarked_without (PieceOf end) (is_mark end) (Follows end) (kind_of end) bytes h)

-- a piece alone
reads_piece : (end : End) (v bytes rest : List ℕ) → PieceOf end v bytes rest → Reads end v bytes rest
reads_piece end v bytes rest x =
    from_pieces end v bytes rest (record {
      pieces = v ∷ [];
      reads = record { middle = rest; first = x; second = refl };
      is = sym (append-nil v);
    })

-- a reference or a section
pub reads_marked : (end : End) (v bytes rest : List ℕ) → ReadsMarked end v bytes rest → Reads end v bytes rest
reads_marked Tag v bytes rest (inl x) = reads_piece Tag v bytes rest (Reference x)
reads_marked Tag v bytes rest (inr x) = reads_piece Tag v bytes rest (Cdata x.characters x.content x.is x.reads)
reads_marked DoubleQuote v bytes rest x = reads_piece DoubleQuote v bytes rest (ValueReference x)
reads_marked SingleQuote v bytes rest x = reads_piece SingleQuote v bytes rest (ValueReference x)

-- a piece that begins with a mark is one of these
marked_piece : (end : End) (v bytes rest : List ℕ) → Marked (is_mark end) bytes → PieceOf end v bytes rest → ReadsMarked end v bytes rest
marked_piece Tag v bytes rest m (Plain c p is x) = absurd (char_marked ReadsPiece (is_mark Tag) (Follows Tag) (kind_of Tag) c bytes rest (two_other 60 38 c p.1 p.2) m x)
marked_piece Tag v bytes rest m (Reference x) = inl x
marked_piece Tag v bytes rest m (Cdata cs p is x) = inr (record { characters = cs; content = p; is = is; reads = x })
marked_piece DoubleQuote v bytes rest m (ValuePlain c p o is x) = absurd (char_marked (ReadsValuePiece 34) (is_mark DoubleQuote) (Follows DoubleQuote) (kind_of DoubleQuote) c bytes rest (three_other 34 c p.1 p.2 o) m x)
marked_piece DoubleQuote v bytes rest m (ValueReference x) = x
marked_piece SingleQuote v bytes rest m (ValuePlain c p o is x) = absurd (char_marked (ReadsValuePiece 39) (is_mark SingleQuote) (Follows SingleQuote) (kind_of SingleQuote) c bytes rest (three_other 39 c p.1 p.2 o) m x)
marked_piece SingleQuote v bytes rest m (ValueReference x) = x

-- where a mark stands that begins none of these and is no end, there is no reading
pub none_marked : (end : End) (bytes : List ℕ) → Marked (is_mark end) bytes → ¬ (Follows end bytes) → ((value rest : List ℕ) → ¬ (ReadsMarked end value bytes rest))
    → NoReading end bytes
none_marked end bytes m ends none =
    no_reading end bytes (without_here (PieceOf end) (is_mark end) (Follows end) (kind_of end) bytes ends (λ v rest x. none v rest (marked_piece end v bytes rest m x)))

-- each word of a table is some bytes
abbrev AllSome : {A : Type 0} → List (List ℕ × A) → Type 0
AllSome [] = Unit {0}
AllSome (entry ∷ table) = (0 < length entry.0) × AllSome table

table_shorter : {A : Type 0} (table : List (List ℕ × A)) (value : A) (bytes rest : List ℕ) → AllSome table → OneOf table value bytes rest → length rest < length bytes
table_shorter [] value bytes rest all x = absurd x
table_shorter (entry ∷ table) value bytes rest all (inl x) =
    let whole : length bytes ≡ length entry.0 + length rest = ap length x.1 ∙ length-append entry.0 rest in
    let some = all.0 in
    omega (arith, whole, some)
table_shorter (entry ∷ table) value bytes rest all (inr x) = table_shorter table value bytes rest all.1 x

reference_shorter : (value bytes rest : List ℕ) → OneOf references value bytes rest → length rest < length bytes
unfolding references
reference_shorter value bytes rest =
    table_shorter references value bytes rest (lit< tt, (lit< tt, (lit< tt, (lit< tt, (lit< tt, (lit< tt, (lit< tt, (lit< tt, tt))))))))

-- a reference or a section is some bytes
pub marked_shorter : (end : End) (v bytes rest : List ℕ) → ReadsMarked end v bytes rest → length rest < length bytes
marked_shorter Tag v bytes rest (inl x) = reference_shorter v bytes rest x
marked_shorter Tag v bytes rest (inr x) =
    let whole = ap length x.reads.first in
    let content = ap length x.reads.second.first in
    let finish = ap length x.reads.second.second in
    let back = length-append (encode_utf8_all x.characters) x.reads.second.middle in
    omega (arith, whole, content, finish, back)
marked_shorter DoubleQuote v bytes rest x = reference_shorter v bytes rest x
marked_shorter SingleQuote v bytes rest x = reference_shorter v bytes rest x
