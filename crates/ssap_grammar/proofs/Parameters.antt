-- Parameters are told from the bytes.
use Rattle.std.proofs.Common.{◌≡◌, ℕ, List, [], ◌∷◌, ◌++◌, Some, None, refl, sym, ◌∙◌, ap, subst, arith, lit≤}
use Rattle.std.specs.Prelude.{codes, flat_map, Option, option_to_list}
use Rattle.std.specs.List.{AllByRecursion}
use Rattle.ssap_items.specs.declared.body.RawTriple.{RawTriple}
use Rattle.ssap_items.specs.declared.body.RawTable.{RawTable}
use Rattle.ssap_items.specs.declared.body.Body.{Body}
use Rattle.ssap_items.specs.declared.body.Body.TheVariants.{Text, Triples, Table}
use Rattle.ssap_items.specs.declared.envelope.Param.{Param}
use Rattle.ssap_grammar.specs.Front.{Front, Then, Many}
use Rattle.ssap_grammar.specs.Characters.{IsWhite, Spaces}
use Rattle.ssap_grammar.specs.Text.{ReadsPiece, ReadsText}
use Rattle.ssap_grammar.specs.Text.ReadsPiece.{Plain, Reference, Cdata}
use Rattle.ssap_grammar.specs.Attribute.{IsLettered, ReadsAttvalue}
use Rattle.ssap_grammar.specs.Triples.{ReadsTripleList}
use Rattle.ssap_grammar.specs.Table.{ReadsSparql}
use Rattle.ssap_grammar.specs.Parameter.{ParameterAttribute, name_of, encoding_of, ReadsParameterAttribute, ReadsParameterAttributes, ReadsBody, ReadsParameter}
use Rattle.ssap_grammar.specs.Parameter.ParameterAttribute.{Name, Encoding}
use Rattle.m3_terms.proofs.Lists.{heads_same}
use Rattle.ssap_grammar.proofs.Fronts.{Any, Meet, Alone, meet_map, then_alone, many_meet, many_alone, word_map}
use Rattle.ssap_grammar.proofs.Characters.{Stops, NoSpace, white_small, char_byte, spaces_meet, spaces_alone}
use Rattle.ssap_grammar.proofs.Texts.{Closes, text_meet, text_alone, reference_head, section_is, piece_no_tag}
use Rattle.ssap_grammar.proofs.Attributes.{IsName, TagEnds, attribute_meet, attribute_apart, attributes_apart, attribute_stops, attribute_alone, attvalue_meet, attvalue_alone}
use Rattle.ssap_grammar.proofs.Elements.{element_meet, element_alone, elements_apart}
use Rattle.ssap_grammar.proofs.Contents.{Opens, opens_no_close, NoName, nothing_no_name, element_opens, around_meet, last_spaces_meet}
use Rattle.ssap_grammar.proofs.Triples.{triple_list_meet, triple_list_alone, triple_list_opens}
use Rattle.ssap_grammar.proofs.Tables.{name_lettered, sparql_meet, sparql_alone, sparql_no_name, sparql_opens}

-- the attribute `encoding`
abbrev pub encoding_lettered : IsLettered (codes "encoding")
encoding_lettered = record { byte = 101; more = codes "ncoding"; is = refl; high = lit≤ tt }

parameter_attribute_both : (v w : ParameterAttribute) (bytes rest left : List ℕ) → ReadsParameterAttribute v bytes rest
    → ReadsParameterAttribute w bytes left → (v ≡ w) × (rest ≡ left)
parameter_attribute_both (Name v) (Name w) bytes rest left x y =
    let one = (attribute_meet (codes "name") name_lettered (attvalue_meet v w)).both bytes rest left x y tt tt in
    (ap Name one.0, one.1)
parameter_attribute_both (Encoding v) (Encoding w) bytes rest left x y =
    let one = (attribute_meet (codes "encoding") encoding_lettered (attvalue_meet v w)).both bytes rest left x y tt tt in
    (ap Encoding one.0, one.1)
parameter_attribute_both (Name v) (Encoding w) bytes rest left x y =
    absurd (attributes_apart (codes "name") (codes "encoding") (ReadsAttvalue v) (ReadsAttvalue w) bytes rest left name_lettered encoding_lettered (λ e. absurd (omega arith)) x y)
parameter_attribute_both (Encoding v) (Name w) bytes rest left x y =
    absurd (attributes_apart (codes "encoding") (codes "name") (ReadsAttvalue v) (ReadsAttvalue w) bytes rest left encoding_lettered name_lettered (λ e. absurd (omega arith)) x y)

parameter_attribute_apart : (v : ParameterAttribute) (bytes rest : List ℕ) → ReadsParameterAttribute v bytes rest → ¬ (TagEnds bytes)
parameter_attribute_apart (Name v) bytes rest x = attribute_apart (codes "name") (ReadsAttvalue v) bytes rest name_lettered x
parameter_attribute_apart (Encoding v) bytes rest x = attribute_apart (codes "encoding") (ReadsAttvalue v) bytes rest encoding_lettered x

parameter_attribute_stops : (v : ParameterAttribute) (bytes rest : List ℕ) → ReadsParameterAttribute v bytes rest → Stops IsName bytes
parameter_attribute_stops (Name v) bytes rest x = attribute_stops (codes "name") (ReadsAttvalue v) bytes rest x tt
parameter_attribute_stops (Encoding v) bytes rest x = attribute_stops (codes "encoding") (ReadsAttvalue v) bytes rest x tt

parameter_attribute_alone : (v : ParameterAttribute) → Alone (ReadsParameterAttribute v)
parameter_attribute_alone (Name v) = attribute_alone (codes "name") (ReadsAttvalue v) (attvalue_alone v)
parameter_attribute_alone (Encoding v) = attribute_alone (codes "encoding") (ReadsAttvalue v) (attvalue_alone v)

option_same : (v w : Option (List ℕ)) → option_to_list v ≡ option_to_list w → v ≡ w
option_same None None e = refl
option_same None (Some w) e = absurd (cc)
option_same (Some v) None e = absurd (cc)
option_same (Some v) (Some w) e = ap Some (heads_same v w [] [] e)

-- the attributes of a parameter, up to the end of its tag
pub parameter_attribute_list_meet : (vs ws : List ParameterAttribute)
    → Meet (Many ReadsParameterAttribute vs) (Many ReadsParameterAttribute ws) (vs ≡ ws) TagEnds
parameter_attribute_list_meet =
    many_meet ReadsParameterAttribute TagEnds Any (λ v w. record { both = λ b r l x y _ _. parameter_attribute_both v w b r l x y }) (λ _ _. tt)
    (λ _ _ _ _. tt) parameter_attribute_apart

parameter_attributes_meet : (m n : List ℕ) (d e : Option (List ℕ))
    → Meet (ReadsParameterAttributes m d) (ReadsParameterAttributes n e) ((m ≡ n) × (d ≡ e)) TagEnds
parameter_attributes_meet m n d e = record {
  both = λ bytes rest left x y a b.
      let one = (parameter_attribute_list_meet x.attributes y.attributes).both bytes rest left x.reads y.reads a b in (
        (
          heads_same m n [] [] (sym x.names ∙ (ap (flat_map name_of) one.0 ∙ y.names)),
          option_same d e (sym x.encodings ∙ (ap (flat_map encoding_of) one.0 ∙ y.encodings)),
        ),
        one.1,
      );
}

parameter_attributes_alone : (n : List ℕ) (e : Option (List ℕ)) → Alone (ReadsParameterAttributes n e)
parameter_attributes_alone n e = record {
  own = λ bytes rest x. word_map (λ b r y. record { attributes = x.attributes; names = x.names; encodings = x.encodings; reads = y })
      ((many_alone ReadsParameterAttribute parameter_attribute_alone x.attributes).own bytes rest x.reads);
}

pub parameter_attributes_no_name : (n : List ℕ) (e : Option (List ℕ)) → NoName (ReadsParameterAttributes n e)
parameter_attributes_no_name n e bytes rest x s = go x.attributes x.reads
  where
    go : (attributes : List ParameterAttribute) → Many ReadsParameterAttribute attributes bytes rest → Stops IsName bytes
    go [] y = subst (Stops IsName) (sym y) s
    go (v ∷ vs) y = parameter_attribute_stops v bytes y.middle y.first

-- a piece that begins with white space is that byte
piece_white : (value bytes rest more : List ℕ) (white : ℕ) → IsWhite white → ReadsPiece value bytes rest → bytes ≡ white ∷ more → rest ≡ more
piece_white value bytes rest more white w (Plain c p is x) e =
    let small = white_small white w in
    (char_byte c white rest more (omega (arith, small)) (sym x ∙ e)).1
piece_white value bytes rest more white w (Reference x) e =
    let small = white_small white w in
    let h = reference_head value bytes rest x in
    let n : 38 ≡ white = heads_same 38 white h.0 more (sym h.1 ∙ e) in
    absurd (omega (arith, n, small))
piece_white value bytes rest more white w (Cdata cs p is x) e =
    let small = white_small white w in
    let n : 60 ≡ white = heads_same 60 white _ more (sym (section_is cs bytes rest x) ∙ e) in
    absurd (omega (arith, n, small))

-- no text up to a finishing tag begins with white space and a starting tag
pub text_no_element : (pieces : List (List ℕ)) (white bytes rest after : List ℕ) → AllByRecursion IsWhite white → bytes ≡ white ++ after
    → Many ReadsPiece pieces bytes rest → Closes rest → ¬ (Opens after)
text_no_element [] [] bytes rest after each e x c o =
    opens_no_close after o (subst Closes (sym x ∙ e) c)
text_no_element [] (w ∷ ws) bytes rest after each e x c o =
    let small = white_small w each.0 in
    let n : w ≡ 60 = heads_same w 60 (ws ++ after) (47 ∷ c.0) (sym e ∙ (x ∙ c.1)) in
    absurd (omega (arith, n, small))
text_no_element (p ∷ ps) [] bytes rest after each e x c o =
    let high = o.high in
    piece_no_tag p bytes x.middle o.more o.byte (λ k. absurd (omega (arith, high, k))) (e ∙ o.is) x.first
text_no_element (p ∷ ps) (w ∷ ws) bytes rest after each e x c o =
    text_no_element ps ws x.middle rest after each.1 (piece_white p bytes x.middle (ws ++ after) w each.0 x.first e) x.second c o

-- so a content is a text or an element, and not both
text_apart : {P Q : Front} (value bytes rest left : List ℕ) → ((b r : List ℕ) → P b r → Opens b) → ReadsText value bytes rest → Closes rest
    → ¬ (Then Spaces (Then P Q) bytes left)
text_apart value bytes rest left opens x c y =
    text_no_element x.pieces y.first.white bytes rest y.middle y.first.each y.first.reads x.reads c (opens y.middle y.second.middle y.second.first)

-- a triple list is no table
list_apart : {Q R : Front} (vs : List RawTriple) (t : RawTable) (bytes rest left : List ℕ) → Then Spaces (Then (ReadsTripleList vs) Q) bytes rest
    → ¬ (Then Spaces (Then (ReadsSparql t) R) bytes left)
list_apart vs t bytes rest left x y =
    let first = triple_list_opens vs x.middle x.second.middle x.second.first in
    let second = sparql_opens t y.middle y.second.middle y.second.first in
    let same = (spaces_meet.both bytes x.middle y.middle x.first y.first (no_space x.middle first) (no_space y.middle second)).1 in
    elements_apart (codes "triple_list") (codes "sparql") nothing_no_name sparql_no_name refl y.middle x.second.middle y.second.middle
    (subst (λ m. ReadsTripleList vs m x.second.middle) same x.second.first) y.second.first
  where
    no_space : (b : List ℕ) → Opens b → NoSpace b
    no_space b o = Rattle.ssap_grammar.proofs.Contents.opens_no_space b o

body_both : (v w : Body) (bytes rest left : List ℕ) → ReadsBody v bytes rest → ReadsBody w bytes left → Closes rest → Closes left → (v ≡ w) × (rest ≡ left)
body_both (Text v) (Text w) bytes rest left x y c d =
    let one = (text_meet v w).both bytes rest left x y c d in (ap Text one.0, one.1)
body_both (Text v) (Triples ws) bytes rest left x y c d = absurd (text_apart v bytes rest left (triple_list_opens ws) x c y)
body_both (Text v) (Table w) bytes rest left x y c d = absurd (text_apart v bytes rest left (sparql_opens w) x c y)
body_both (Triples vs) (Text w) bytes rest left x y c d = absurd (text_apart w bytes left rest (triple_list_opens vs) y d x)
body_both (Triples vs) (Triples ws) bytes rest left x y c d =
    let one = (around_meet (triple_list_opens vs) (triple_list_opens ws) (triple_list_meet vs ws) last_spaces_meet).both bytes rest left x y c d in
    (ap Triples one.0.0, one.1)
body_both (Triples vs) (Table w) bytes rest left x y c d = absurd (list_apart vs w bytes rest left x y)
body_both (Table v) (Text w) bytes rest left x y c d = absurd (text_apart w bytes left rest (sparql_opens v) y d x)
body_both (Table v) (Triples ws) bytes rest left x y c d = absurd (list_apart ws v bytes left rest y x)
body_both (Table v) (Table w) bytes rest left x y c d =
    let one = (around_meet (sparql_opens v) (sparql_opens w) (sparql_meet v w) last_spaces_meet).both bytes rest left x y c d in
    (ap Table one.0.0, one.1)

-- the content of a parameter, up to a finishing tag
pub body_meet : (v w : Body) → Meet (ReadsBody v) (ReadsBody w) (v ≡ w) Closes
body_meet v w = record { both = body_both v w }

pub body_alone : (v : Body) → Alone (ReadsBody v)
body_alone (Text v) = text_alone v
body_alone (Triples vs) = then_alone spaces_alone (then_alone (triple_list_alone vs) spaces_alone)
body_alone (Table v) = then_alone spaces_alone (then_alone (sparql_alone v) spaces_alone)

-- parameters with the same parts are one
param_same : (v w : Param) → v.name ≡ w.name → v.encoding ≡ w.encoding → v.body ≡ w.body → v ≡ w
param_same v w p q r = λ i. record { name = p i; encoding = q i; body = r i }

pub parameter_meet : (v w : Param) → Meet (ReadsParameter v) (ReadsParameter w) (v ≡ w) Any
parameter_meet v w =
    meet_map (λ h. param_same v w h.0.0 h.0.1 h.1) (element_meet (codes "parameter")
    (parameter_attributes_meet v.name w.name v.encoding w.encoding) (body_meet v.body w.body) (body_alone v.body) (body_alone w.body))

pub parameter_alone : (v : Param) → Alone (ReadsParameter v)
parameter_alone v = element_alone (codes "parameter") (parameter_attributes_alone v.name v.encoding) (body_alone v.body)
