-- What a query is answered.
use Rattle.std.specs.Prelude.{◌≡◌, ℕ, ◌+◌, List, [], ◌∷◌, length, map, filter, sum_by, slice_get, unwrap_or, Option, Some, None, Result, Ok, Err, codes, refl}
use Rattle.m3_terms.specs.Order.{text_of}
use Rattle.m3_terms.specs.declared.term.Term.TheVariants.{Literal}
use Rattle.m3_terms.specs.declared.triple.Triple.{Triple}
use Rattle.m3_terms.specs.declared.pattern.Slot.TheVariants.{Any, Is}
use Rattle.m3_terms.specs.declared.pattern.Pattern.{Pattern}
use Rattle.triple_index.specs.Graphs.{fits_one}
use Rattle.answer_bodies.specs.declared.answer.Answer.{Answer}
use Rattle.answer_bodies.specs.declared.answer.Answer.TheVariants.{Triples, Table}
use Rattle.sparql_algebra.specs.Listed.{rows_of, width_of as pattern_width}
use Rattle.sparql_algebra.specs.declared.algebra.Algebra.{Bgp}
use Rattle.sparql_algebra.specs.declared.algebra.Query.{Query}
use Rattle.sparql_algebra.specs.declared.var.Var.{Var}
use Rattle.sparql_text.specs.declared.fault.ReadFault.{ReadFault}
use Rattle.sparql_read.specs.Reading.{reading_of}
use Rattle.ssap_shape.specs.declared.request.Wish.{Wish}
use Rattle.ssap_shape.specs.declared.request.Wish.TheVariants.{Templates, Sparql}
use Rattle.session_core.specs.Graph.{fits, lamp_state, lamp_state_is}

-- the triples of a graph that fit at least one template, in their order
abbrev pub fitting : List Triple → List Pattern → List Triple
fitting graph templates = filter (fits_one fits templates) graph

-- the name of a variable among names by their numbers; one without a name has the empty one
abbrev pub name_in : List (List ℕ) → Var → List ℕ
name_in names var = unwrap_or (slice_get names var.0) []

-- the names of the columns of a query, in their order
abbrev pub column_names : Query → List (List ℕ)
column_names query = map (name_in query.names) query.columns

-- the answer to what a text comes to: the table of its query's columns and rows, or none where it says no query
abbrev pub answer_of : List Triple → Result Query ReadFault → Option Answer
answer_of graph (Ok query) = Some (Table (column_names query) (rows_of query graph))
answer_of graph (Err fault) = None

-- the answer to a query: the triples that fit its templates, or the table that its text asks for
abbrev pub answer_to : List Triple → Wish → Option Answer
answer_to graph (Templates templates) = Some (Triples (fitting graph templates))
answer_to graph (Sparql text) = answer_of graph (reading_of text)

-- the width of what a text comes to: that of its query's pattern, and none where it says no query
abbrev pub reading_width : List Triple → Result Query ReadFault → ℕ
reading_width graph (Ok query) = pattern_width query.pattern graph
reading_width graph (Err fault) = 0

-- the width of a query: for templates how many triples its answer has, and for a text that of its pattern
abbrev pub width_of : List Triple → Wish → ℕ
width_of graph (Templates templates) = length (fitting graph templates)
width_of graph (Sparql text) = reading_width graph (reading_of text)

-- how many bytes the three texts of a triple have
abbrev pub bytes_of_triple : Triple → ℕ
bytes_of_triple t = length (text_of t.subject) + length (text_of t.predicate) + length (text_of t.object)

-- how many bytes the texts of triples have
abbrev pub text_bytes : List Triple → ℕ
text_bytes triples = sum_by bytes_of_triple triples

-- a triple that fits two templates stands once in the answer
example_once : answer_to (lamp_state (Literal (codes "on")) ∷ []) (Templates (lamp_state_is Any ∷ lamp_state_is (Is (Literal (codes "on"))) ∷ []))
    ≡ Some (Triples (lamp_state (Literal (codes "on")) ∷ []))
example_once = refl

-- the answer has the order of the graph, and not that of the templates
example_order : answer_to (lamp_state (Literal (codes "off")) ∷ lamp_state (Literal (codes "on")) ∷ [])
    (Templates (lamp_state_is (Is (Literal (codes "on"))) ∷ lamp_state_is (Is (Literal (codes "off"))) ∷ []))
    ≡ Some (Triples (lamp_state (Literal (codes "off")) ∷ lamp_state (Literal (codes "on")) ∷ []))
example_order = refl

-- what fits no template is left out, so the width is 1
example_width : width_of (lamp_state (Literal (codes "off")) ∷ lamp_state (Literal (codes "on")) ∷ []) (Templates (lamp_state_is (Is (Literal (codes "on"))) ∷ [])) ≡ 1
example_width = refl

-- `lamp` and `state` stand in both triples, and count in both: 9 and 2, and 9 and 3
example_bytes : text_bytes (lamp_state (Literal (codes "on")) ∷ lamp_state (Literal (codes "off")) ∷ []) ≡ 23
example_bytes = refl

-- the columns stand in the order of the query, which need not be that of the names
example_columns : column_names (record { names = codes "s" ∷ codes "p" ∷ codes "o" ∷ []; columns = record { 0 = 2 } ∷ record { 0 = 0 } ∷ []; pattern = Bgp [] })
    ≡ codes "o" ∷ codes "s" ∷ []
example_columns = refl

-- the query without patterns has one row, over the empty graph too
example_table : answer_of [] (Ok (record { names = codes "s" ∷ []; columns = record { 0 = 0 } ∷ []; pattern = Bgp [] })) ≡ Some (Table (codes "s" ∷ []) ((None ∷ []) ∷ []))
example_table = refl
