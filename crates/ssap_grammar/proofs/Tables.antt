-- Tables are told from the bytes.
use Rattle.std.proofs.Common.{◌≡◌, inl, inr, ℕ, List, refl, sym, subst, lit≤}
use Rattle.std.specs.Prelude.{codes}
use Rattle.ssap_items.specs.declared.body.Kind.{Kind}
use Rattle.ssap_items.specs.declared.body.Kind.TheVariants.{Uri, Literal, Bnode}
use Rattle.ssap_items.specs.declared.body.RawTerm.{RawTerm}
use Rattle.ssap_items.specs.declared.body.RawCell.{RawCell}
use Rattle.ssap_items.specs.declared.body.RawTable.{RawTable}
use Rattle.ssap_items.specs.Canon.{kind_word}
use Rattle.ssap_grammar.specs.Front.{Front, Word, Nothing, Then, Optional}
use Rattle.ssap_grammar.specs.Characters.{Spaces, Quoted}
use Rattle.ssap_grammar.specs.Text.{ReadsText}
use Rattle.ssap_grammar.specs.Attribute.{IsLettered, ReadsAttvalue}
use Rattle.ssap_grammar.specs.Element.{ReadsElement}
use Rattle.ssap_grammar.specs.Table.{ReadsName, ReadsVariable, ReadsHead, ReadsTerm, ReadsBinding, ReadsResult, ReadsResults, ReadsNamespace, ReadsSparql}
use Rattle.ssap_grammar.proofs.Fronts.{Any, Head, Meet, Alone, meet_any, meet_map, word_meet, word_alone, nothing_meet, nothing_alone, then_alone, optional_meet, optional_alone}
use Rattle.ssap_grammar.proofs.Characters.{Stops, spaces_alone, quoted_meet, quoted_alone}
use Rattle.ssap_grammar.proofs.Texts.{text_meet, text_alone}
use Rattle.ssap_grammar.proofs.Attributes.{IsName, TagEnds, attribute_meet, attribute_apart, attribute_stops, attribute_alone, attvalue_meet, attvalue_alone}
use Rattle.ssap_grammar.proofs.Elements.{element_meet, element_alone, elements_apart}
use Rattle.ssap_grammar.proofs.Contents.{Opens, NoName, nothing_no_name, element_opens, around_meet, last_spaces_meet, list_element_meet, listed_alone}
use Rattle.ssap_grammar.proofs.Triples.{term_same}

-- the attribute `name`
abbrev pub name_lettered : IsLettered (codes "name")
name_lettered = record { byte = 110; more = codes "ame"; is = refl; high = lit≤ tt }

pub name_meet : (v w : List ℕ) → Meet (ReadsName v) (ReadsName w) (v ≡ w) Any
name_meet v w = attribute_meet (codes "name") name_lettered (attvalue_meet v w)

pub name_alone : (v : List ℕ) → Alone (ReadsName v)
name_alone v = attribute_alone (codes "name") (ReadsAttvalue v) (attvalue_alone v)

name_no_name : (v : List ℕ) → NoName (ReadsName v)
name_no_name v bytes rest x _ = attribute_stops (codes "name") (ReadsAttvalue v) bytes rest x tt

-- columns
variable_meet : (v w : List ℕ) → Meet (ReadsVariable v) (ReadsVariable w) (v ≡ w) Any
variable_meet v w =
    meet_map (λ h. h.0) (element_meet (codes "variable") (meet_any TagEnds (name_meet v w)) last_spaces_meet spaces_alone spaces_alone)

pub variable_alone : (v : List ℕ) → Alone (ReadsVariable v)
variable_alone v = element_alone (codes "variable") (name_alone v) spaces_alone

pub variable_opens : (v bytes rest : List ℕ) → ReadsVariable v bytes rest → Opens bytes
variable_opens v bytes rest x =
    element_opens (codes "variable") (record { byte = 118; more = codes "ariable"; is = refl; high = lit≤ tt }) (name_no_name v) bytes rest x

head_meet : (vs ws : List (List ℕ)) → Meet (ReadsHead vs) (ReadsHead ws) (vs ≡ ws) Any
head_meet = list_element_meet (codes "head") ReadsVariable variable_meet variable_opens variable_alone

head_alone : (vs : List (List ℕ)) → Alone (ReadsHead vs)
head_alone vs = element_alone (codes "head") nothing_alone (listed_alone ReadsVariable variable_alone vs)

pub head_opens : (vs : List (List ℕ)) (bytes rest : List ℕ) → ReadsHead vs bytes rest → Opens bytes
head_opens vs bytes rest x =
    element_opens (codes "head") (record { byte = 104; more = codes "ead"; is = refl; high = lit≤ tt }) nothing_no_name bytes rest x

-- an element with the word of a kind
abbrev pub KindElement : Kind → List ℕ → Front
KindElement kind text = ReadsElement (kind_word kind) Nothing (ReadsText text)

same_kind : (k : Kind) (s t : List ℕ) → Meet (KindElement k s) (KindElement k t) ((k ≡ k) × (s ≡ t)) Any
same_kind k s t = meet_map (λ h. (refl, h.1)) (element_meet (kind_word k) (nothing_meet TagEnds) (text_meet s t) (text_alone s) (text_alone t))

kind_both : (j k : Kind) (s t bytes rest left : List ℕ) → KindElement j s bytes rest → KindElement k t bytes left → ((j ≡ k) × (s ≡ t)) × (rest ≡ left)
unfolding kind_word
kind_both Uri Uri s t bytes rest left x y = (same_kind Uri s t).both bytes rest left x y tt tt
kind_both Literal Literal s t bytes rest left x y = (same_kind Literal s t).both bytes rest left x y tt tt
kind_both Bnode Bnode s t bytes rest left x y = (same_kind Bnode s t).both bytes rest left x y tt tt
kind_both j k s t bytes rest left x y =
    absurd (elements_apart (kind_word j) (kind_word k) nothing_no_name nothing_no_name refl bytes rest left x y)

term_meet : (v w : RawTerm) → Meet (ReadsTerm v) (ReadsTerm w) (v ≡ w) Any
term_meet v w = record {
  both = λ bytes rest left x y _ _.
      let one = kind_both v.kind w.kind v.text w.text bytes rest left x y in
      (term_same v w one.0.0 one.0.1, one.1);
}

term_alone : (v : RawTerm) → Alone (ReadsTerm v)
term_alone v = element_alone (kind_word v.kind) nothing_alone (text_alone v.text)

kind_lettered : (k : Kind) → IsLettered (kind_word k)
unfolding kind_word
kind_lettered Uri = record { byte = 117; more = codes "ri"; is = refl; high = lit≤ tt }
kind_lettered Literal = record { byte = 108; more = codes "iteral"; is = refl; high = lit≤ tt }
kind_lettered Bnode = record { byte = 98; more = codes "node"; is = refl; high = lit≤ tt }

pub term_opens : (v : RawTerm) (bytes rest : List ℕ) → ReadsTerm v bytes rest → Opens bytes
term_opens v bytes rest x = element_opens (kind_word v.kind) (kind_lettered v.kind) nothing_no_name bytes rest x

-- cells with the same parts are one
cell_same : (v w : RawCell) → v.name ≡ w.name → v.value ≡ w.value → v ≡ w
cell_same v w p q = λ i. record { name = p i; value = q i }

binding_meet : (v w : RawCell) → Meet (ReadsBinding v) (ReadsBinding w) (v ≡ w) Any
binding_meet v w =
    meet_map (λ h. cell_same v w h.0 h.1.0) (element_meet (codes "binding") (meet_any TagEnds (name_meet v.name w.name))
    (around_meet (term_opens v.value) (term_opens w.value) (term_meet v.value w.value) last_spaces_meet)
    (then_alone spaces_alone (then_alone (term_alone v.value) spaces_alone)) (then_alone spaces_alone (then_alone (term_alone w.value) spaces_alone)))

pub binding_alone : (v : RawCell) → Alone (ReadsBinding v)
binding_alone v =
    element_alone (codes "binding") (name_alone v.name) (then_alone spaces_alone (then_alone (term_alone v.value) spaces_alone))

pub binding_opens : (v : RawCell) (bytes rest : List ℕ) → ReadsBinding v bytes rest → Opens bytes
binding_opens v bytes rest x =
    element_opens (codes "binding") (record { byte = 98; more = codes "inding"; is = refl; high = lit≤ tt }) (name_no_name v.name) bytes rest x

result_meet : (vs ws : List RawCell) → Meet (ReadsResult vs) (ReadsResult ws) (vs ≡ ws) Any
result_meet = list_element_meet (codes "result") ReadsBinding binding_meet binding_opens binding_alone

pub result_alone : (vs : List RawCell) → Alone (ReadsResult vs)
result_alone vs = element_alone (codes "result") nothing_alone (listed_alone ReadsBinding binding_alone vs)

pub result_opens : (vs : List RawCell) (bytes rest : List ℕ) → ReadsResult vs bytes rest → Opens bytes
result_opens vs bytes rest x =
    element_opens (codes "result") (record { byte = 114; more = codes "esult"; is = refl; high = lit≤ tt }) nothing_no_name bytes rest x

results_meet : (vs ws : List (List RawCell)) → Meet (ReadsResults vs) (ReadsResults ws) (vs ≡ ws) Any
results_meet = list_element_meet (codes "results") ReadsResult result_meet result_opens result_alone

results_alone : (vs : List (List RawCell)) → Alone (ReadsResults vs)
results_alone vs = element_alone (codes "results") nothing_alone (listed_alone ReadsResult result_alone vs)

pub results_opens : (vs : List (List RawCell)) (bytes rest : List ℕ) → ReadsResults vs bytes rest → Opens bytes
results_opens vs bytes rest x =
    element_opens (codes "results") (record { byte = 114; more = codes "esults"; is = refl; high = lit≤ tt }) nothing_no_name bytes rest x

-- the attribute `xmlns`
pub namespace_lettered : IsLettered (codes "xmlns")
namespace_lettered = record { byte = 120; more = codes "mlns"; is = refl; high = lit≤ tt }

abbrev pub namespace : List ℕ
namespace = codes "http://www.w3.org/2005/sparql-results#"

namespace_meet : Meet (Optional ReadsNamespace) (Optional ReadsNamespace) (Unit {0}) TagEnds
namespace_meet =
    optional_meet ReadsNamespace (Unit {0}) TagEnds Any
    (attribute_meet (codes "xmlns") namespace_lettered (quoted_meet (λ quote _. meet_any (Head quote) (word_meet namespace)))) (λ _ _. tt)
    (λ bytes rest x. attribute_apart (codes "xmlns") (Quoted (λ quote. Word namespace)) bytes rest namespace_lettered x)

namespace_alone : Alone (Optional ReadsNamespace)
namespace_alone =
    optional_alone ReadsNamespace (attribute_alone (codes "xmlns") (Quoted (λ quote. Word namespace)) (quoted_alone (λ _. word_alone namespace)))

namespace_no_name : NoName (Optional ReadsNamespace)
namespace_no_name bytes rest (inl x) _ = attribute_stops (codes "xmlns") (Quoted (λ quote. Word namespace)) bytes rest x tt
namespace_no_name bytes rest (inr x) s = subst (Stops IsName) (sym x) s

-- tables with the same parts are one
table_same : (v w : RawTable) → v.columns ≡ w.columns → v.rows ≡ w.rows → v ≡ w
table_same v w p q = λ i. record { columns = p i; rows = q i }

-- the parts of a table
abbrev pub TableParts : RawTable → Front
TableParts v = Then Spaces (Then (ReadsHead v.columns) (Then Spaces (Then (ReadsResults v.rows) Spaces)))

table_parts_alone : (v : RawTable) → Alone (TableParts v)
table_parts_alone v =
    then_alone spaces_alone (then_alone (head_alone v.columns) (then_alone spaces_alone (then_alone (results_alone v.rows) spaces_alone)))

pub sparql_meet : (v w : RawTable) → Meet (ReadsSparql v) (ReadsSparql w) (v ≡ w) Any
sparql_meet v w =
    meet_map (λ h. table_same v w h.1.0 h.1.1.0) (element_meet (codes "sparql") namespace_meet
    (around_meet (head_opens v.columns) (head_opens w.columns) (head_meet v.columns w.columns)
    (around_meet (results_opens v.rows) (results_opens w.rows) (results_meet v.rows w.rows) last_spaces_meet)) (table_parts_alone v) (table_parts_alone w))

pub sparql_alone : (v : RawTable) → Alone (ReadsSparql v)
sparql_alone v = element_alone (codes "sparql") namespace_alone (table_parts_alone v)

pub sparql_no_name : NoName (Optional ReadsNamespace)
sparql_no_name = namespace_no_name

pub sparql_opens : (v : RawTable) (bytes rest : List ℕ) → ReadsSparql v bytes rest → Opens bytes
sparql_opens v bytes rest x =
    element_opens (codes "sparql") (record { byte = 115; more = codes "parql"; is = refl; high = lit≤ tt }) namespace_no_name bytes rest x
