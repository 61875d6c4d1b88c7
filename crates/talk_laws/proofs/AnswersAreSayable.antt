-- The body of a sound answer whose columns are texts is sayable.
use Rattle.std.proofs.Common.{◌≢◌, ℕ, List, [], ◌∷◌, map, Option, Some, None, sym, subst}
use Rattle.std.specs.Prelude.{⊤}
use Rattle.std.specs.List.{AllByRecursion}
use Rattle.m3_terms.specs.Text.{IsText}
use Rattle.m3_terms.specs.Term.{IsUri}
use Rattle.m3_terms.specs.Order.{text_of}
use Rattle.m3_terms.specs.declared.term.Term.{Term}
use Rattle.m3_terms.specs.declared.term.Term.TheVariants.{Uri, Literal}
use Rattle.m3_terms.specs.declared.triple.Triple.{Triple}
use Rattle.ssap_items.specs.declared.body.Kind.{Kind}
use Rattle.ssap_items.specs.declared.body.Kind as kind
use Rattle.ssap_grammar.proofs.SpelledTexts.{all_append}
use Rattle.ssap_grammar.specs.Sayable.{IsSayableTriple, IsSayableCell, IsSayableBody}
use Rattle.answer_bodies.specs.Laws.{IsSoundTerm, IsSoundTriple, IsSoundCell, IsSoundRow, IsSound}
use Rattle.answer_bodies.specs.Writing.{raw_term, raw_triple, raw_cell, raw_row, body_of}
use Rattle.answer_bodies.specs.declared.answer.Answer.{Answer}
use Rattle.answer_bodies.specs.declared.answer.Answer.TheVariants.{Triples, Table}

-- the columns of an answer are texts
abbrev pub HasTextColumns : Answer → Type 0
HasTextColumns (Triples triples) = ⊤
HasTextColumns (Table columns rows) = AllByRecursion IsText columns

-- the text of a sound term is one
term_text : (term : Term) → IsSoundTerm term → IsText (raw_term term).text
term_text (Uri text) h = h.text
term_text (Literal text) h = h.text

predicate_text : (term : Term) → IsSoundTerm term → IsText (text_of term)
predicate_text (Uri text) h = h.text
predicate_text (Literal text) h = h.text

-- a uri is no literal
is_literal : Kind → Type 0
is_literal kind.TheVariants.Uri = ⊥
is_literal kind.TheVariants.Literal = ⊤
is_literal kind.TheVariants.Bnode = ⊥

uri_kind : (term : Term) → IsUri term → (raw_term term).kind ≢ kind.TheVariants.Literal
unfolding is_literal
uri_kind (Uri text) h = λ e. subst is_literal (sym e) tt
uri_kind (Literal text) h = absurd h

triples_sayable : (triples : List Triple) → AllByRecursion IsSoundTriple triples → AllByRecursion IsSayableTriple (map raw_triple triples)
triples_sayable [] h = tt
triples_sayable (triple ∷ triples) h = (
  record {
    subject = term_text triple.subject h.0.subject;
    predicate = predicate_text triple.predicate h.0.predicate;
    object = term_text triple.object h.0.object;
    kind = uri_kind triple.subject h.0.subject_uri;
  },
  triples_sayable triples h.1,
)

cell_sayable : (name : List ℕ) (cell : Option Term) → IsText name → IsSoundCell cell → AllByRecursion IsSayableCell (raw_cell name cell)
cell_sayable name None text h = tt
cell_sayable name (Some term) text h = (record { name = text; value = term_text term h }, tt)

row_sayable : (names : List (List ℕ)) (row : List (Option Term)) → AllByRecursion IsText names → AllByRecursion IsSoundCell row
    → AllByRecursion IsSayableCell (raw_row names row)
row_sayable [] row texts h = tt
row_sayable (name ∷ names) [] texts h = tt
row_sayable (name ∷ names) (cell ∷ row) texts h =
    all_append IsSayableCell (raw_cell name cell) (raw_row names row) (cell_sayable name cell texts.0 h.0) (row_sayable names row texts.1 h.1)

rows_sayable : (names : List (List ℕ)) (rows : List (List (Option Term))) → AllByRecursion IsText names → AllByRecursion (IsSoundRow names) rows
    → AllByRecursion (AllByRecursion IsSayableCell) (map (raw_row names) rows)
rows_sayable names [] texts h = tt
rows_sayable names (row ∷ rows) texts h = (row_sayable names row texts h.0.cells, rows_sayable names rows texts h.1)

pub body_sayable : (answer : Answer) → IsSound answer → HasTextColumns answer → IsSayableBody (body_of answer)
body_sayable (Triples triples) h texts = triples_sayable triples h.each
body_sayable (Table columns rows) h texts = (texts, rows_sayable columns rows texts h.each)
