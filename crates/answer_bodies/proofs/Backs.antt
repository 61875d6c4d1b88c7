-- A sound answer is read back from its body, and what is read is sound.
use Rattle.std.proofs.Common.{◌≡◌, ℕ, Bool, true, false, ◌||◌, List, [], ◌∷◌, ◌++◌, length, map, Option, Some, None, refl, sym, ap, subst, ◌∙◌, append-nil, append_assoc, arith}
use Rattle.std.proofs.lemmas.List.Elements.{filter-append, All-from_recursion, recursion_from_All}
use Rattle.std.proofs.lemmas.List.Sorted.{IsPermutation-refl, All-permutation}
use Rattle.std.proofs.lemmas.Slice.Zip.{AllZip-long}
use Rattle.std.specs.List.{AllByRecursion, AllZip, IsDistinct}
use Rattle.std.specs.List.Sorted.{IsPermutation}
use Rattle.m3_terms.specs.Order.{text_eq, text_of}
use Rattle.m3_terms.specs.OrderLaws.{text_eq_equiv}
use Rattle.m3_terms.specs.Term.{IsUri}
use Rattle.m3_terms.specs.declared.term.Term.{Term}
use Rattle.m3_terms.specs.declared.term.Term.TheVariants.{Uri, Literal}
use Rattle.m3_terms.specs.declared.triple.Triple.{Triple}
use Rattle.ssap_items.specs.declared.body.Kind as kind
use Rattle.ssap_items.specs.declared.body.RawTriple.{RawTriple}
use Rattle.ssap_items.specs.declared.body.RawCell.{RawCell}
use Rattle.ssap_items.specs.declared.body.Body as body
use Rattle.answer_bodies.specs.declared.answer.Answer.TheVariants.{Triples, Table}
use Rattle.answer_bodies.specs.Laws.{IsSoundTerm, IsSoundTriple, IsSoundCell, IsSoundRow, BodiesAreReadBack, AnswersAreSound, SoundIsFull}
use Rattle.answer_bodies.specs.Reading.{IsTermOf, IsTripleOf, IsCellOf, IsRowOf, IsKnown, named}
use Rattle.answer_bodies.specs.Writing.{raw_term, raw_triple, raw_cell, raw_row}
use Rattle.answer_bodies.proofs.Zips.{zip_all}

-- ---- triples are read back

-- a sound term is what its spelling spells
term_back : (term : Term) → IsSoundTerm term → IsTermOf (raw_term term).kind (raw_term term).text term
term_back (Uri text) sound = (refl, sound)
term_back (Literal text) sound = (refl, sound)

-- and so is a uri whose kind isn't written
uri_back : (term : Term) → IsUri term → IsSoundTerm term → IsTermOf kind.TheVariants.Uri (text_of term) term
uri_back (Uri text) uri sound = (refl, sound)
uri_back (Literal text) uri sound = absurd uri

pub triple_back : (triple : Triple) → IsSoundTriple triple → IsTripleOf (raw_triple triple) triple
triple_back triple sound = record {
  subject = term_back triple.subject sound.subject;
  uri = sound.subject_uri;
  predicate = uri_back triple.predicate sound.predicate_uri sound.predicate;
  object = term_back triple.object sound.object;
}

-- what is written item by item is read item by item
each_back : {A B : Type 0} (R : A → B → Type 0) (Sound : B → Type 0) (write : B → A) → ((y : B) → Sound y → R (write y) y)
    → (ys : List B) → AllByRecursion Sound ys → AllZip R (map write ys) ys
each_back R Sound write back [] all = tt
each_back R Sound write back (y ∷ ys) all = (back y all.0, each_back R Sound write back ys all.1)

-- ---- rows are read back

-- a cell's binding has its column's name
own_cell : (name : List ℕ) (cell : Option Term) → named name (raw_cell name cell) ≡ raw_cell name cell
own_cell name None = refl
own_cell name (Some term) = rw (text_eq_equiv.refl name) refl

-- and no other
other_cell : (name other : List ℕ) (cell : Option Term) → text_eq name other ≡ false → named other (raw_cell name cell) ≡ []
other_cell name other None apart = refl
other_cell name other (Some term) apart = rw apart refl

-- a row's bindings have the names of columns
other_row : (other : List ℕ) (names : List (List ℕ)) (cells : List (Option Term)) → AllByRecursion (λ name. text_eq other name ≡ false) names
    → named other (raw_row names cells) ≡ []
other_row other [] cells apart = refl
other_row other (name ∷ names) [] apart = refl
other_row other (name ∷ names) (cell ∷ cells) apart =
    let test = λ (c : RawCell). text_eq c.name other in
    let head = other_cell name other cell (text_eq_equiv.symm name other ∙ apart.0) in
    let tail = other_row other names cells apart.1 in
    filter-append test (raw_cell name cell) (raw_row names cells) ∙ (λ i. head i ++ tail i)

-- the bindings of a name, where a column's cell stands behind some that have other names and before others that do
named_own : (name : List ℕ) (cell : Option Term) (before after : List RawCell) → named name before ≡ [] → named name after ≡ []
    → named name (before ++ (raw_cell name cell ++ after)) ≡ raw_cell name cell
named_own name cell before after none free =
    let test = λ (c : RawCell). text_eq c.name name in
    filter-append test before (raw_cell name cell ++ after)
    ∙ (λ i. none i ++ filter-append test (raw_cell name cell) after i)
    ∙ (λ i. own_cell name cell i ++ free i)
    ∙ append-nil (raw_cell name cell)

cell_back : (cells : List RawCell) (name : List ℕ) (cell : Option Term) → IsSoundCell cell → named name cells ≡ raw_cell name cell → IsCellOf cells name cell
cell_back cells name None sound e = e
cell_back cells name (Some term) sound e = (record { name = name; value = raw_term term }, e, term_back term sound)

-- none of the names is among the bindings, nor is it once a cell of another name is behind them
still_none : (before : List RawCell) (name : List ℕ) (cell : Option Term) (names : List (List ℕ)) → AllByRecursion (λ other. text_eq name other ≡ false) names
    → AllByRecursion (λ other. named other before ≡ []) names → AllByRecursion (λ other. named other (before ++ raw_cell name cell) ≡ []) names
still_none before name cell [] apart none = tt
still_none before name cell (other ∷ names) apart none =
    let test = λ (c : RawCell). text_eq c.name other in
    let free = other_cell name other cell apart.0 in
    let empty = none.0 in
    (filter-append test before (raw_cell name cell) ∙ (λ i. empty i ++ free i), still_none before name cell names apart.1 none.1)

-- the cells behind some bindings of other names are read back
cells_back : (before : List RawCell) (names : List (List ℕ)) (row : List (Option Term)) → length row ≡ length names → AllByRecursion IsSoundCell row
    → IsDistinct text_eq names → AllByRecursion (λ name. named name before ≡ []) names → AllZip (IsCellOf (before ++ raw_row names row)) names row
unfolding IsDistinct
cells_back before [] [] long sound distinct none = tt
cells_back before [] (cell ∷ row) long sound distinct none = absurd (omega (arith, long))
cells_back before (name ∷ names) [] long sound distinct none = absurd (omega (arith, long))
cells_back before (name ∷ names) (cell ∷ row) long sound distinct none =
    let own = named_own name cell before (raw_row names row) none.0 (other_row name names row distinct.0) in
    let rest = cells_back (before ++ raw_cell name cell) names row (omega (arith, long)) sound.1 distinct.1 (still_none before name cell names distinct.0 none.1) in (
      cell_back (before ++ (raw_cell name cell ++ raw_row names row)) name cell sound.0 own,
      subst (λ cells. AllZip (IsCellOf cells) names row) (append_assoc before (raw_cell name cell) (raw_row names row)) rest,
    )

-- nothing is named among no bindings
none_named : (names : List (List ℕ)) → AllByRecursion (λ name. named name [] ≡ []) names
none_named [] = tt
none_named (name ∷ names) = (refl, none_named names)

or_right : (b : Bool) {c : Bool} → c ≡ true → (b || c) ≡ true
or_right true e = refl
or_right false e = e

or_left : {b : Bool} (c : Bool) → b ≡ true → (b || c) ≡ true
or_left c e = ap (λ b. b || c) e

-- bindings that name columns do so among more columns
more_known : (name : List ℕ) (names : List (List ℕ)) (cells : List RawCell) → AllByRecursion (IsKnown names) cells → AllByRecursion (IsKnown (name ∷ names)) cells
more_known name names [] known = tt
more_known name names (cell ∷ cells) known = (or_right (text_eq name cell.name) known.0, more_known name names cells known.1)

-- a cell's binding names its column
cell_known : (name : List ℕ) (names : List (List ℕ)) (cell : Option Term) (after : List RawCell) → AllByRecursion (IsKnown (name ∷ names)) after
    → AllByRecursion (IsKnown (name ∷ names)) (raw_cell name cell ++ after)
cell_known name names None after known = known
cell_known name names (Some term) after known = (or_left _ (text_eq_equiv.refl name), known)

row_known : (names : List (List ℕ)) (row : List (Option Term)) → AllByRecursion (IsKnown names) (raw_row names row)
row_known [] row = tt
row_known (name ∷ names) [] = tt
row_known (name ∷ names) (cell ∷ row) = cell_known name names cell (raw_row names row) (more_known name names (raw_row names row) (row_known names row))

row_back : (columns : List (List ℕ)) → IsDistinct text_eq columns → (row : List (Option Term)) → IsSoundRow columns row → IsRowOf columns (raw_row columns row) row
row_back columns distinct row sound = record {
  known = row_known columns row;
  each = cells_back [] columns row sound.full sound.cells distinct (none_named columns);
}

-- the body of a sound answer is read as it
pub read_back : BodiesAreReadBack
read_back (Triples triples) sound = record {
  given = triples;
  each = each_back IsTripleOf IsSoundTriple raw_triple triple_back triples sound.each;
  ordered = record { same = IsPermutation-refl triples; rises = sound.rises };
}
read_back (Table columns rows) sound = record {
  names = refl;
  distinct = sound.distinct;
  given = rows;
  each = each_back (IsRowOf columns) (IsSoundRow columns) (raw_row columns) (row_back columns sound.distinct) rows sound.each;
  ordered = record { same = IsPermutation-refl rows; rises = sound.rises };
}

-- ---- what is read is sound

term_sound : (k : kind.Kind) (text : List ℕ) (term : Term) → IsTermOf k text term → IsSoundTerm term
term_sound kind.TheVariants.Uri text term is = subst IsSoundTerm (sym is.0) is.1
term_sound kind.TheVariants.Literal text term is = subst IsSoundTerm (sym is.0) is.1
term_sound kind.TheVariants.Bnode text term is = absurd is

triple_sound : (raw : RawTriple) (triple : Triple) → IsTripleOf raw triple → IsSoundTriple triple
triple_sound raw triple is = record {
  subject = term_sound raw.subject.kind raw.subject.text triple.subject is.subject;
  subject_uri = is.uri;
  predicate = term_sound kind.TheVariants.Uri raw.predicate triple.predicate is.predicate;
  predicate_uri = let e = is.predicate.0 in subst IsUri (sym e) tt;
  object = term_sound raw.object.kind raw.object.text triple.object is.object;
}

cell_sound : (cells : List RawCell) (name : List ℕ) (cell : Option Term) → IsCellOf cells name cell → IsSoundCell cell
cell_sound cells name None is = tt
cell_sound cells name (Some term) is = term_sound is.0.value.kind is.0.value.text term is.2

row_sound : (columns : List (List ℕ)) (cells : List RawCell) (row : List (Option Term)) → IsRowOf columns cells row → IsSoundRow columns row
row_sound columns cells row is = record {
  full = AllZip-long (IsCellOf cells) columns row is.each;
  cells = zip_all (IsCellOf cells) IsSoundCell (cell_sound cells) columns row is.each;
}

-- what holds of each item holds of each once they change places
pub all_moved : {X : Type 0} (P : X → Type 0) (xs ys : List X) → IsPermutation xs ys → AllByRecursion P xs → AllByRecursion P ys
all_moved P xs ys same all = recursion_from_All P ys (All-permutation P xs ys same (All-from_recursion P xs all))

-- what a body is read as is sound
pub answers_sound : AnswersAreSound
answers_sound (body.TheVariants.Text text) answer is = absurd is
answers_sound (body.TheVariants.Triples raws) (Triples triples) is = record {
  rises = is.ordered.rises;
  each = all_moved IsSoundTriple is.given triples is.ordered.same (zip_all IsTripleOf IsSoundTriple triple_sound raws is.given is.each);
}
answers_sound (body.TheVariants.Triples raws) (Table columns rows) is = absurd is
answers_sound (body.TheVariants.Table raw) (Triples triples) is = absurd is
answers_sound (body.TheVariants.Table raw) (Table columns rows) is =
    let same = sym is.names in
    record {
      distinct = subst (IsDistinct text_eq) same is.distinct;
      rises = is.ordered.rises;
      each = subst (λ names. AllByRecursion (IsSoundRow names) rows) same
          (all_moved (IsSoundRow raw.columns) is.given rows is.ordered.same
          (zip_all (IsRowOf raw.columns) (IsSoundRow raw.columns) (row_sound raw.columns) raw.rows is.given is.each));
    }

all_full : (columns : List (List ℕ)) (rows : List (List (Option Term))) → AllByRecursion (IsSoundRow columns) rows → AllByRecursion (λ row. length row ≡ length columns) rows
all_full columns [] sound = tt
all_full columns (row ∷ rows) sound = (sound.0.full, all_full columns rows sound.1)

-- a sound answer has one cell for each column in each row
pub sound_full : SoundIsFull
sound_full (Triples triples) sound = tt
sound_full (Table columns rows) sound = all_full columns rows sound.each
