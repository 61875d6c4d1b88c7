-- What is written canonically is read as the same message.
use Rattle.std.proofs.Common.{◌≡◌, ◌≢◌, inl, inr, ℕ, List, [], ◌∷◌, ◌++◌, map, Some, None, refl, sym, ◌∙◌, ap, subst, append_assoc}
use Rattle.std.specs.Prelude.{codes, flat_map, Option, IfSome}
use Rattle.std.specs.List.{AllByRecursion}
use Rattle.std.proofs.lemmas.List.{append-nil}
use Rattle.m3_terms.specs.Text.{IsText}
use Rattle.ssap_items.specs.declared.heads.MessageType.{MessageType}
use Rattle.ssap_items.specs.declared.heads.MessageType.TheVariants.{Request, Confirm, Indication}
use Rattle.ssap_items.specs.declared.heads.Transaction.{Transaction}
use Rattle.ssap_items.specs.declared.heads.Transaction.TheVariants.{Join, Leave, Insert, Remove, Update, Query, Subscribe, Unsubscribe}
use Rattle.ssap_items.specs.declared.body.Kind.{Kind}
use Rattle.ssap_items.specs.declared.body.Kind.TheVariants.{Uri, Literal, Bnode}
use Rattle.ssap_items.specs.declared.body.RawTerm.{RawTerm}
use Rattle.ssap_items.specs.declared.body.RawTriple.{RawTriple}
use Rattle.ssap_items.specs.declared.body.RawCell.{RawCell}
use Rattle.ssap_items.specs.declared.body.RawTable.{RawTable}
use Rattle.ssap_items.specs.declared.body.Body.{Body}
use Rattle.ssap_items.specs.declared.body.Body.TheVariants.{Text, Triples, Table}
use Rattle.ssap_items.specs.declared.envelope.Param.{Param}
use Rattle.ssap_items.specs.declared.envelope.Envelope.{Envelope}
use Rattle.ssap_items.specs.Canon.{escaped, attribute, element_with, element, message_word, transaction_word, heads_spelling, kind_word, typed_term, triple_spelling, triples_spelling, variable_spelling, binding_spelling, result_spelling, table_spelling, body_spelling, encoding_spelling, parameter_spelling, canonical}
use Rattle.ssap_grammar.specs.Front.{Front, Word, Nothing, Then, Many, Given, Optional, OneOf}
use Rattle.ssap_grammar.specs.Characters.{Spaces}
use Rattle.ssap_grammar.specs.Text.{ReadsText}
use Rattle.ssap_grammar.specs.Element.{SelfClosing, ReadsElement}
use Rattle.ssap_grammar.specs.Element.ReadsElement.{Empty}
use Rattle.ssap_grammar.specs.Head.{message_types, transactions}
use Rattle.ssap_grammar.specs.Triples.{kind_words, ReadsType, ReadsSubject, ReadsPredicate, ReadsObject, ReadsTriple, ReadsTripleList}
use Rattle.ssap_grammar.specs.Table.{ReadsVariable, ReadsTerm, ReadsBinding, ReadsResult, ReadsNamespace, ReadsSparql}
use Rattle.ssap_grammar.specs.Parameter.{ReadsParameterAttributes, ReadsBody, ReadsParameter}
use Rattle.ssap_grammar.specs.Parameter.ParameterAttribute.{Name, Encoding}
use Rattle.ssap_grammar.specs.Message.{Item, ReadsItem, message_type_of, transaction_type_of, transaction_id_of, node_id_of, space_id_of, parameter_of, Holds, ReadsRoot, Spells}
use Rattle.ssap_grammar.specs.Message.Item.{MessageTypeItem, TransactionTypeItem, TransactionIdItem, NodeIdItem, SpaceIdItem, ParameterItem}
use Rattle.ssap_grammar.specs.Sayable.{IsSayableTriple, IsSayableCell, IsSayableBody, IsSayableParam, IsSayable}
use Rattle.ssap_grammar.proofs.Contents.{Spaced, Listed}
use Rattle.ssap_grammar.proofs.Characters.{no_spaces}
use Rattle.ssap_grammar.proofs.CanonicalTexts.{Writes, writes_word, writes_nothing, writes_no_spaces, writes_then, writes_as, text_written, attribute_written, attvalue_written, element_written}

-- an element without attributes
plain_written : (tag content : List ℕ) {C : Front} → Writes C content → Writes (ReadsElement tag Nothing C) (element tag content)
unfolding element
plain_written tag content c = element_written tag [] content writes_nothing c

-- something with no white space around it
bare : {P : Front} (word : List ℕ) → Writes P word → Writes (Then Spaces (Then P Spaces)) word
bare word p = writes_as ([] ++ (word ++ [])) word (append-nil word) (writes_then writes_no_spaces (writes_then p writes_no_spaces))

-- two things with no white space around them
bare_two : {P Q : Front} (u w : List ℕ) → Writes P u → Writes Q w → Writes (Then Spaces (Then P (Then Spaces (Then Q Spaces)))) (u ++ w)
bare_two u w p q =
    writes_as ([] ++ (u ++ ([] ++ (w ++ [])))) (u ++ w) (ap (λ l. u ++ l) (append-nil w))
    (writes_then writes_no_spaces (writes_then p (writes_then writes_no_spaces (writes_then q writes_no_spaces))))

-- things with no white space between them
spaced_written : {A : Type 0} (P : A → Front) (spell : A → List ℕ) (Q : A → Type 0) → ((v : A) → Q v → Writes (P v) (spell v)) → (vs : List A)
    → AllByRecursion Q vs → Writes (Many (Spaced P) vs) (flat_map spell vs)
spaced_written P spell Q one [] h = record { writes = λ rest. refl }
spaced_written P spell Q one (v ∷ vs) h =
    writes_then (writes_as (spell v ++ []) (spell v) (append-nil (spell v)) (writes_then (one v h.0) writes_no_spaces)) (spaced_written P spell Q one vs h.1)

-- an element of such things
list_written : {A : Type 0} (tag : List ℕ) (P : A → Front) (spell : A → List ℕ) (Q : A → Type 0) → ((v : A) → Q v → Writes (P v) (spell v)) → (vs : List A)
    → AllByRecursion Q vs → Writes (ReadsElement tag Nothing (Listed P vs)) (element tag (flat_map spell vs))
list_written tag P spell Q one vs h = plain_written tag (flat_map spell vs) (writes_then writes_no_spaces (spaced_written P spell Q one vs h))

-- the words of the heads
message_word_written : (v : MessageType) → Writes (OneOf message_types v) (message_word v)
unfolding message_types message_word
message_word_written Request = record { writes = λ rest. inl (refl, refl) }
message_word_written Confirm = record { writes = λ rest. inr (inl (refl, refl)) }
message_word_written Indication = record { writes = λ rest. inr (inr (inl (refl, refl))) }

transaction_word_written : (v : Transaction) → Writes (OneOf transactions v) (transaction_word v)
unfolding transactions transaction_word
transaction_word_written Join = record { writes = λ rest. inl (refl, refl) }
transaction_word_written Leave = record { writes = λ rest. inr (inl (refl, refl)) }
transaction_word_written Insert = record { writes = λ rest. inr (inr (inl (refl, refl))) }
transaction_word_written Remove = record { writes = λ rest. inr (inr (inr (inl (refl, refl)))) }
transaction_word_written Update = record { writes = λ rest. inr (inr (inr (inr (inl (refl, refl))))) }
transaction_word_written Query = record { writes = λ rest. inr (inr (inr (inr (inr (inl (refl, refl)))))) }
transaction_word_written Subscribe = record { writes = λ rest. inr (inr (inr (inr (inr (inr (inl (refl, refl))))))) }
transaction_word_written Unsubscribe = record { writes = λ rest. inr (inr (inr (inr (inr (inr (inr (inl (refl, refl)))))))) }

-- the kinds
plain_kind : (k : Kind) → escaped (kind_word k) ≡ kind_word k
unfolding escaped kind_word
plain_kind Uri = refl
plain_kind Literal = refl
plain_kind Bnode = refl

type_written : (kinds : List Kind) (k : Kind) → Writes (OneOf (flat_map kind_words kinds) k) (kind_word k)
    → Writes (ReadsType kinds k) (attribute (codes "type") (kind_word k))
type_written kinds k w =
    attribute_written (codes "type") (kind_word k) (λ quote. OneOf (flat_map kind_words kinds) k) (writes_as (kind_word k) (escaped (kind_word k)) (sym (plain_kind k)) w)

subject_kind : (k : Kind) → k ≢ Literal → Writes (OneOf (flat_map kind_words (Uri ∷ Bnode ∷ [])) k) (kind_word k)
unfolding kind_words kind_word
subject_kind Uri h = record { writes = λ rest. inl (refl, refl) }
subject_kind Literal h = absurd (h refl)
subject_kind Bnode h = record { writes = λ rest. inr (inr (inl (refl, refl))) }

object_kind : (k : Kind) → Writes (OneOf (flat_map kind_words (Uri ∷ Literal ∷ Bnode ∷ [])) k) (kind_word k)
unfolding kind_words kind_word
object_kind Uri = record { writes = λ rest. inl (refl, refl) }
object_kind Literal = record { writes = λ rest. inr (inr (inl (refl, refl))) }
object_kind Bnode = record { writes = λ rest. inr (inr (inr (inr (inl (refl, refl))))) }

-- triples
subject_written : (v : RawTerm) → IsText v.text → v.kind ≢ Literal → Writes (ReadsSubject v) (typed_term (codes "subject") v)
unfolding typed_term
subject_written v t k =
    let w = element_written (codes "subject") (attribute (codes "type") (kind_word v.kind)) (escaped v.text) {A = Given (ReadsType (Uri ∷ Bnode ∷ [])) (Some v.kind)}
    {C = ReadsText v.text} (type_written (Uri ∷ Bnode ∷ []) v.kind (subject_kind v.kind k)) (text_written v.text t) in
    record { writes = λ rest. record { type = Some v.kind; kind = refl; reads = w.writes rest } }

predicate_written : (v : List ℕ) → IsText v → Writes (ReadsPredicate v) (element (codes "predicate") (escaped v))
predicate_written v t =
    let w = plain_written (codes "predicate") (escaped v) {C = ReadsText v} (text_written v t) in
    record { writes = λ rest. record { type = None; reads = w.writes rest } }

object_written : (v : RawTerm) → IsText v.text → Writes (ReadsObject v) (typed_term (codes "object") v)
unfolding typed_term
object_written v t =
    element_written (codes "object") (attribute (codes "type") (kind_word v.kind)) (escaped v.text)
    (type_written (Uri ∷ Literal ∷ Bnode ∷ []) v.kind (object_kind v.kind)) (text_written v.text t)

three : (s p o : List ℕ) → [] ++ (s ++ ([] ++ (p ++ ([] ++ (o ++ []))))) ≡ s ++ p ++ o
three s p o = simp (append_assoc, append-nil)

triple_written : (v : RawTriple) → IsSayableTriple v → Writes (ReadsTriple v) (triple_spelling v)
unfolding triple_spelling
triple_written v h =
    plain_written (codes "triple") _ (writes_as _ _ (three (typed_term (codes "subject") v.subject) (element (codes "predicate") (escaped v.predicate)) (typed_term (codes "object") v.object))
    (writes_then writes_no_spaces (writes_then (subject_written v.subject h.subject h.kind) (writes_then writes_no_spaces
    (writes_then (predicate_written v.predicate h.predicate) (writes_then writes_no_spaces (writes_then (object_written v.object h.object) writes_no_spaces)))))))

triples_written : (vs : List RawTriple) → AllByRecursion IsSayableTriple vs → Writes (ReadsTripleList vs) (triples_spelling vs)
unfolding triples_spelling
triples_written vs h = list_written (codes "triple_list") ReadsTriple triple_spelling IsSayableTriple triple_written vs h

-- tables
variable_written : (name : List ℕ) → IsText name → Writes (ReadsVariable name) (variable_spelling name)
unfolding variable_spelling SelfClosing
variable_written name h =
    let w = writes_then (writes_word (codes "<")) (writes_then (writes_word (codes "variable")) (writes_then (attvalue_written (codes "name") name h)
    (writes_then writes_no_spaces (writes_word (codes "/>"))))) in
    record { writes = λ rest. Empty (no_spaces []) (w.writes rest) }

term_written : (v : RawTerm) → IsText v.text → Writes (ReadsTerm v) (element (kind_word v.kind) (escaped v.text))
term_written v h = plain_written (kind_word v.kind) (escaped v.text) (text_written v.text h)

binding_written : (v : RawCell) → IsSayableCell v → Writes (ReadsBinding v) (binding_spelling v)
unfolding binding_spelling
binding_written v h =
    element_written (codes "binding") (attribute (codes "name") v.name) (element (kind_word v.value.kind) (escaped v.value.text))
    (attvalue_written (codes "name") v.name h.name) (bare (element (kind_word v.value.kind) (escaped v.value.text)) (term_written v.value h.value))

result_written : (row : List RawCell) → AllByRecursion IsSayableCell row → Writes (ReadsResult row) (result_spelling row)
unfolding result_spelling
result_written row h = list_written (codes "result") ReadsBinding binding_spelling IsSayableCell binding_written row h

abbrev pub namespace : List ℕ
namespace = codes "http://www.w3.org/2005/sparql-results#"

namespace_plain : escaped namespace ≡ namespace
unfolding escaped
namespace_plain = refl

namespace_written : Writes (Optional ReadsNamespace) (attribute (codes "xmlns") namespace)
namespace_written =
    let w = attribute_written (codes "xmlns") namespace (λ quote. Word namespace) (writes_as namespace (escaped namespace) (sym namespace_plain) (writes_word namespace)) in
    record { writes = λ rest. inl (w.writes rest) }

table_written : (t : RawTable) → AllByRecursion IsText t.columns → AllByRecursion (AllByRecursion IsSayableCell) t.rows → Writes (ReadsSparql t) (table_spelling t)
unfolding table_spelling
table_written t c r =
    element_written (codes "sparql") (attribute (codes "xmlns") namespace) _ namespace_written
    (bare_two (element (codes "head") (flat_map variable_spelling t.columns)) (element (codes "results") (flat_map result_spelling t.rows))
    (list_written (codes "head") ReadsVariable variable_spelling IsText variable_written t.columns c)
    (list_written (codes "results") ReadsResult result_spelling (AllByRecursion IsSayableCell) result_written t.rows r))

-- parameters
body_written : (v : Body) → IsSayableBody v → Writes (ReadsBody v) (body_spelling v)
unfolding body_spelling
body_written (Text v) h = text_written v h
body_written (Triples vs) h = bare (triples_spelling vs) (triples_written vs h)
body_written (Table t) h = bare (table_spelling t) (table_written t h.0 h.1)

parameter_attributes_written : (n : List ℕ) (e : Option (List ℕ)) → IsText n → IfSome e IsText
    → Writes (ReadsParameterAttributes n e) (attribute (codes "name") n ++ encoding_spelling e)
unfolding encoding_spelling
parameter_attributes_written n None h k =
    let w = writes_then (attvalue_written (codes "name") n h) writes_nothing in
    record { writes = λ rest. record { attributes = Name n ∷ []; names = refl; encodings = refl; reads = w.writes rest } }
parameter_attributes_written n (Some e) h k =
    let w = writes_then (attvalue_written (codes "name") n h) (writes_as (attribute (codes "encoding") e ++ []) (attribute (codes "encoding") e) (append-nil (attribute (codes "encoding") e))
    (writes_then (attvalue_written (codes "encoding") e k) writes_nothing)) in
    record { writes = λ rest. record { attributes = Name n ∷ Encoding e ∷ []; names = refl; encodings = refl; reads = w.writes rest } }

parameter_written : (v : Param) → IsSayableParam v → Writes (ReadsParameter v) (parameter_spelling v)
unfolding parameter_spelling
parameter_written v h =
    element_written (codes "parameter") (attribute (codes "name") v.name ++ encoding_spelling v.encoding) (body_spelling v.body)
    (parameter_attributes_written v.name v.encoding h.name h.encoding) (body_written v.body h.body)

-- items, as they are written
item_spelling : Item → List ℕ
item_spelling (MessageTypeItem v) = element (codes "message_type") (message_word v)
item_spelling (TransactionTypeItem v) = element (codes "transaction_type") (transaction_word v)
item_spelling (TransactionIdItem v) = element (codes "transaction_id") (escaped v)
item_spelling (NodeIdItem v) = element (codes "node_id") (escaped v)
item_spelling (SpaceIdItem v) = element (codes "space_id") (escaped v)
item_spelling (ParameterItem v) = parameter_spelling v

-- an item is sayable
unfoldable pub IsSayableItem : Item → Type 0
IsSayableItem (MessageTypeItem v) = Unit {0}
IsSayableItem (TransactionTypeItem v) = Unit {0}
IsSayableItem (TransactionIdItem v) = IsText v
IsSayableItem (NodeIdItem v) = IsText v
IsSayableItem (SpaceIdItem v) = IsText v
IsSayableItem (ParameterItem v) = IsSayableParam v

item_written : (i : Item) → IsSayableItem i → Writes (ReadsItem i) (item_spelling i)
unfolding item_spelling IsSayableItem
item_written (MessageTypeItem v) h = plain_written (codes "message_type") (message_word v) (bare (message_word v) (message_word_written v))
item_written (TransactionTypeItem v) h = plain_written (codes "transaction_type") (transaction_word v) (bare (transaction_word v) (transaction_word_written v))
item_written (TransactionIdItem v) h = plain_written (codes "transaction_id") (escaped v) (text_written v h)
item_written (NodeIdItem v) h = plain_written (codes "node_id") (escaped v) (text_written v h)
item_written (SpaceIdItem v) h = plain_written (codes "space_id") (escaped v) (text_written v h)
item_written (ParameterItem v) h = parameter_written v h

-- the items of an envelope, as they are written
abbrev pub items_of : Envelope → List Item
items_of e = MessageTypeItem e.heads.message ∷ TransactionTypeItem e.heads.transaction ∷ TransactionIdItem e.heads.transaction_id
    ∷ NodeIdItem e.heads.node_id ∷ SpaceIdItem e.heads.space_id ∷ map ParameterItem e.params

-- parameters are no heads
no_heads : {A : Type 0} (f : Item → List A) → ((v : Param) → f (ParameterItem v) ≡ []) → (ps : List Param) → flat_map f (map ParameterItem ps) ≡ []
no_heads f none [] = refl
no_heads f none (p ∷ ps) = ap (λ l. l ++ flat_map f (map ParameterItem ps)) (none p) ∙ no_heads f none ps

their_params : (ps : List Param) → flat_map parameter_of (map ParameterItem ps) ≡ ps
their_params [] = refl
their_params (p ∷ ps) = ap (λ l. p ∷ l) (their_params ps)

items_hold : (e : Envelope) → Holds (items_of e) e
items_hold e = record {
  message = ap (λ l. e.heads.message ∷ l) (no_heads message_type_of (λ _. refl) e.params);
  transaction = ap (λ l. e.heads.transaction ∷ l) (no_heads transaction_type_of (λ _. refl) e.params);
  transaction_id = ap (λ l. e.heads.transaction_id ∷ l) (no_heads transaction_id_of (λ _. refl) e.params);
  node_id = ap (λ l. e.heads.node_id ∷ l) (no_heads node_id_of (λ _. refl) e.params);
  space_id = ap (λ l. e.heads.space_id ∷ l) (no_heads space_id_of (λ _. refl) e.params);
  params = their_params e.params;
}

params_sayable : (ps : List Param) → AllByRecursion IsSayableParam ps → AllByRecursion IsSayableItem (map ParameterItem ps)
unfolding IsSayableItem
params_sayable [] h = tt
params_sayable (p ∷ ps) h = (h.0, params_sayable ps h.1)

params_spelled : (ps : List Param) → flat_map item_spelling (map ParameterItem ps) ≡ flat_map parameter_spelling ps
unfolding item_spelling
params_spelled [] = refl
params_spelled (p ∷ ps) = ap (λ l. parameter_spelling p ++ l) (params_spelled ps)

sayable_items : (e : Envelope) → IsSayable e → AllByRecursion IsSayableItem (items_of e)
unfolding IsSayableItem
sayable_items e h = (tt, (tt, (h.transaction_id, (h.node_id, (h.space_id, params_sayable e.params h.params)))))

-- the element of a message around its items
abbrev pub framed : List ℕ → List ℕ
framed items = codes "<SSAP_message" ++ ([] ++ (codes ">" ++ ([] ++ (items ++ (codes "</SSAP_message" ++ ([] ++ codes ">"))))))

root_written : (items : List Item) → AllByRecursion IsSayableItem items → Writes (ReadsRoot items) (framed (flat_map item_spelling items))
unfolding ReadsRoot
root_written items h =
    writes_then (writes_word (codes "<SSAP_message")) (writes_then writes_no_spaces (writes_then (writes_word (codes ">")) (writes_then writes_no_spaces
    (writes_then (spaced_written ReadsItem item_spelling IsSayableItem item_written items h)
    (writes_then (writes_word (codes "</SSAP_message")) (writes_then writes_no_spaces (writes_word (codes ">"))))))))

-- the parts of a message, put together
joined : (m t i n s ps : List ℕ) → framed (m ++ (t ++ (i ++ (n ++ (s ++ ps))))) ≡ element (codes "SSAP_message") ((m ++ t ++ i ++ n ++ s) ++ ps)
unfolding element element_with
joined m t i n s ps = simp append_assoc

canonical_framed : (e : Envelope) → framed (flat_map item_spelling (items_of e)) ≡ canonical e
unfolding canonical heads_spelling item_spelling
canonical_framed e =
    ap (λ ps. framed (element (codes "message_type") (message_word e.heads.message) ++ (element (codes "transaction_type") (transaction_word e.heads.transaction)
    ++ (element (codes "transaction_id") (escaped e.heads.transaction_id) ++ (element (codes "node_id") (escaped e.heads.node_id)
    ++ (element (codes "space_id") (escaped e.heads.space_id) ++ ps)))))) (params_spelled e.params)
    ∙ joined (element (codes "message_type") (message_word e.heads.message)) (element (codes "transaction_type") (transaction_word e.heads.transaction))
    (element (codes "transaction_id") (escaped e.heads.transaction_id)) (element (codes "node_id") (escaped e.heads.node_id))
    (element (codes "space_id") (escaped e.heads.space_id)) (flat_map parameter_spelling e.params)

-- the canonical spelling spells the envelope
pub canonical_spells : (e : Envelope) → IsSayable e → Spells (canonical e) e
canonical_spells e h =
    let written = writes_as (framed (flat_map item_spelling (items_of e))) (canonical e) (canonical_framed e) (root_written (items_of e) (sayable_items e h)) in
    record {
      items = items_of e;
      holds = items_hold e;
      reads = record {
        middle = canonical e;
        first = inr refl;
        second = subst (λ b. ReadsRoot (items_of e) b []) (append-nil (canonical e)) (written.writes []);
      };
    }
