-- What bytes spell is sayable: its texts are texts, and no subject of it is a literal.
use Rattle.std.proofs.Common.{◌≢◌, ℕ, List, [], ◌∷◌, Some, None, sym, ◌∙◌, subst}
use Rattle.std.specs.Prelude.{codes, flat_map, Option, IfSome, option_to_list, unwrap_or}
use Rattle.std.specs.List.{AllByRecursion}
use Rattle.m3_terms.specs.Text.{IsText}
use Rattle.ssap_items.specs.declared.body.Kind.{Kind}
use Rattle.ssap_items.specs.declared.body.Kind.TheVariants.{Uri, Literal, Bnode}
use Rattle.ssap_items.specs.declared.body.RawTerm.{RawTerm}
use Rattle.ssap_items.specs.declared.body.RawTriple.{RawTriple}
use Rattle.ssap_items.specs.declared.body.RawCell.{RawCell}
use Rattle.ssap_items.specs.declared.body.RawTable.{RawTable}
use Rattle.ssap_items.specs.declared.body.Body.{Body}
use Rattle.ssap_items.specs.declared.body.Body.TheVariants.{Text, Triples, Table}
use Rattle.ssap_items.specs.declared.envelope.Param.{Param}
use Rattle.ssap_items.specs.declared.envelope.Envelope.{Envelope}
use Rattle.ssap_grammar.specs.Front.{Front, Nothing, Given}
use Rattle.ssap_grammar.specs.Characters.{Spaces}
use Rattle.ssap_grammar.specs.Text.{ReadsText}
use Rattle.ssap_grammar.specs.Element.{ReadsElement}
use Rattle.ssap_grammar.specs.Triples.{kind_words, ReadsType, ReadsSubject, ReadsPredicate, ReadsObject, ReadsTriple, ReadsTripleList}
use Rattle.ssap_grammar.specs.Table.{ReadsVariable, ReadsBinding, ReadsResult, ReadsSparql}
use Rattle.ssap_grammar.specs.Parameter.{ParameterAttribute, name_of, encoding_of, ReadsParameterAttribute, ReadsParameterAttributes, ReadsBody, ReadsParameter}
use Rattle.ssap_grammar.specs.Parameter.ParameterAttribute.{Name, Encoding}
use Rattle.ssap_grammar.specs.Message.{Item, ReadsItem, transaction_id_of, node_id_of, space_id_of, parameter_of, ReadsRoot, ReadsMessage}
use Rattle.ssap_grammar.specs.Message.Item.{MessageTypeItem, TransactionTypeItem, TransactionIdItem, NodeIdItem, SpaceIdItem, ParameterItem}
use Rattle.ssap_grammar.specs.Sayable.{IsSayableTriple, IsSayableCell, IsSayableBody, IsSayableParam, IsSayable}
use Rattle.ssap_grammar.proofs.CanonicalMessages.{IsSayableItem}
use Rattle.ssap_grammar.proofs.SpelledTexts.{Says, AllValues, all_flat_map, oneof_says, spaced_says, many_says, listed_says, text_says, quoted_says, attribute_says, attvalue_says, element_says}

-- nothing is known of what is read so
unsaid : (Reads : Front) → Says Reads (Unit {0})
unsaid Reads bytes rest x = tt

-- an element without attributes
plain_says : (tag : List ℕ) {C : Front} {E : Type 0} → Says C E → Says (ReadsElement tag Nothing C) E
plain_says tag c bytes rest x = (element_says tag (unsaid Nothing) c bytes rest x).1

text_element_says : (tag value : List ℕ) → Says (ReadsElement tag Nothing (ReadsText value)) (IsText value)
text_element_says tag value = plain_says tag (text_says value)

-- triples
subject_kind : (kind : Kind) → Says (ReadsType (Uri ∷ Bnode ∷ []) kind) (kind ≢ Literal)
unfolding kind_words
subject_kind kind =
    let table = flat_map kind_words (Uri ∷ Bnode ∷ []) in
    let all : AllValues (λ k. k ≢ Literal) table = ((λ e. cc), ((λ e. cc), ((λ e. cc), ((λ e. cc), tt)))) in
    attribute_says (codes "type") (quoted_says (λ quote. oneof_says (λ k. k ≢ Literal) table all kind))

given_kind : (type : Option Kind) → Says (Given (ReadsType (Uri ∷ Bnode ∷ [])) type) (unwrap_or type Uri ≢ Literal)
given_kind None bytes rest x = λ e. cc
given_kind (Some kind) bytes rest x = subject_kind kind bytes rest x

subject_says : (value : RawTerm) → Says (ReadsSubject value) ((value.kind ≢ Literal) × IsText value.text)
subject_says value bytes rest x =
    let both = element_says (codes "subject") (given_kind x.type) (text_says value.text) bytes rest x.reads in
    (λ e. both.0 (sym x.kind ∙ e), both.1)

predicate_says : (value : List ℕ) → Says (ReadsPredicate value) (IsText value)
predicate_says value bytes rest x = (element_says (codes "predicate") (unsaid _) (text_says value) bytes rest x.reads).1

object_says : (value : RawTerm) → Says (ReadsObject value) (IsText value.text)
object_says value bytes rest x = (element_says (codes "object") (unsaid _) (text_says value.text) bytes rest x).1

triple_says : (value : RawTriple) → Says (ReadsTriple value) (IsSayableTriple value)
triple_says value = plain_says (codes "triple") (λ bytes rest x.
    let subject = subject_says value.subject _ _ x.second.first in
    record {
      subject = subject.1;
      predicate = predicate_says value.predicate _ _ x.second.second.second.first;
      object = object_says value.object _ _ x.second.second.second.second.second.first;
      kind = subject.0;
    })

triples_say : (values : List RawTriple) → Says (ReadsTripleList values) (AllByRecursion IsSayableTriple values)
triples_say values = plain_says (codes "triple_list") (listed_says ReadsTriple IsSayableTriple triple_says values)

-- tables
variable_says : (name : List ℕ) → Says (ReadsVariable name) (IsText name)
variable_says name bytes rest x = (element_says (codes "variable") (attvalue_says (codes "name") name) (unsaid Spaces) bytes rest x).0

cell_says : (cell : RawCell) → Says (ReadsBinding cell) (IsSayableCell cell)
cell_says cell bytes rest x =
    let both = element_says (codes "binding") (attvalue_says (codes "name") cell.name) (λ b r y. text_element_says _ cell.value.text _ _ y.second.first) bytes rest x in
    record { name = both.0; value = both.1 }

row_says : (row : List RawCell) → Says (ReadsResult row) (AllByRecursion IsSayableCell row)
row_says row = plain_says (codes "result") (listed_says ReadsBinding IsSayableCell cell_says row)

table_says : (table : RawTable) → Says (ReadsSparql table) (AllByRecursion IsText table.columns × AllByRecursion (AllByRecursion IsSayableCell) table.rows)
table_says table bytes rest x =
    (element_says (codes "sparql") (unsaid _) (λ b r y. (
      plain_says (codes "head") (listed_says ReadsVariable IsText variable_says table.columns) _ _ y.second.first,
      plain_says (codes "results") (listed_says ReadsResult (AllByRecursion IsSayableCell) row_says table.rows) _ _ y.second.second.second.first,
    )) bytes rest x).1

-- parameters
body_says : (body : Body) → Says (ReadsBody body) (IsSayableBody body)
body_says (Text value) bytes rest x = text_says value bytes rest x
body_says (Triples values) bytes rest x = triples_say values _ _ x.second.first
body_says (Table table) bytes rest x = table_says table _ _ x.second.first

-- the value of an attribute is a text
IsTextAttribute : ParameterAttribute → Type 0
IsTextAttribute (Name value) = IsText value
IsTextAttribute (Encoding value) = IsText value

parameter_attribute_says : (attribute : ParameterAttribute) → Says (ReadsParameterAttribute attribute) (IsTextAttribute attribute)
unfolding IsTextAttribute
parameter_attribute_says (Name value) = attvalue_says (codes "name") value
parameter_attribute_says (Encoding value) = attvalue_says (codes "encoding") value

name_text : (attribute : ParameterAttribute) → IsTextAttribute attribute → AllByRecursion IsText (name_of attribute)
unfolding IsTextAttribute
name_text (Name value) h = (h, tt)
name_text (Encoding value) h = tt

encoding_text : (attribute : ParameterAttribute) → IsTextAttribute attribute → AllByRecursion IsText (encoding_of attribute)
unfolding IsTextAttribute
encoding_text (Name value) h = tt
encoding_text (Encoding value) h = (h, tt)

option_text : (value : Option (List ℕ)) → AllByRecursion IsText (option_to_list value) → IfSome value IsText
option_text None h = tt
option_text (Some value) h = h.0

attributes_say : (name : List ℕ) (encoding : Option (List ℕ)) → Says (ReadsParameterAttributes name encoding) (IsText name × IfSome encoding IsText)
attributes_say name encoding bytes rest x =
    let each = many_says ReadsParameterAttribute IsTextAttribute parameter_attribute_says x.attributes bytes rest x.reads in
    let names = subst (AllByRecursion IsText) x.names (all_flat_map name_of IsTextAttribute IsText name_text x.attributes each) in
    let encodings = subst (AllByRecursion IsText) x.encodings (all_flat_map encoding_of IsTextAttribute IsText encoding_text x.attributes each) in
    (names.0, option_text encoding encodings)

parameter_says : (param : Param) → Says (ReadsParameter param) (IsSayableParam param)
parameter_says param bytes rest x =
    let both = element_says (codes "parameter") (attributes_say param.name param.encoding) (body_says param.body) bytes rest x in
    record { name = both.0.0; encoding = both.0.1; body = both.1 }

-- items
item_says : (item : Item) → Says (ReadsItem item) (IsSayableItem item)
unfolding IsSayableItem
item_says (MessageTypeItem value) bytes rest x = tt
item_says (TransactionTypeItem value) bytes rest x = tt
item_says (TransactionIdItem value) bytes rest x = text_element_says (codes "transaction_id") value bytes rest x
item_says (NodeIdItem value) bytes rest x = text_element_says (codes "node_id") value bytes rest x
item_says (SpaceIdItem value) bytes rest x = text_element_says (codes "space_id") value bytes rest x
item_says (ParameterItem value) bytes rest x = parameter_says value bytes rest x

root_says : (items : List Item) → Says (ReadsRoot items) (AllByRecursion IsSayableItem items)
unfolding ReadsRoot
root_says items bytes rest x = spaced_says ReadsItem IsSayableItem item_says items _ _ x.second.second.second.second.first

-- where each item is sayable, so are the heads and the parameters among them
transaction_id_text : (item : Item) → IsSayableItem item → AllByRecursion IsText (transaction_id_of item)
unfolding IsSayableItem
transaction_id_text (TransactionIdItem value) h = (h, tt)
transaction_id_text (MessageTypeItem value) h = tt
transaction_id_text (TransactionTypeItem value) h = tt
transaction_id_text (NodeIdItem value) h = tt
transaction_id_text (SpaceIdItem value) h = tt
transaction_id_text (ParameterItem value) h = tt

node_id_text : (item : Item) → IsSayableItem item → AllByRecursion IsText (node_id_of item)
unfolding IsSayableItem
node_id_text (NodeIdItem value) h = (h, tt)
node_id_text (MessageTypeItem value) h = tt
node_id_text (TransactionTypeItem value) h = tt
node_id_text (TransactionIdItem value) h = tt
node_id_text (SpaceIdItem value) h = tt
node_id_text (ParameterItem value) h = tt

space_id_text : (item : Item) → IsSayableItem item → AllByRecursion IsText (space_id_of item)
unfolding IsSayableItem
space_id_text (SpaceIdItem value) h = (h, tt)
space_id_text (MessageTypeItem value) h = tt
space_id_text (TransactionTypeItem value) h = tt
space_id_text (TransactionIdItem value) h = tt
space_id_text (NodeIdItem value) h = tt
space_id_text (ParameterItem value) h = tt

parameter_sayable : (item : Item) → IsSayableItem item → AllByRecursion IsSayableParam (parameter_of item)
unfolding IsSayableItem
parameter_sayable (ParameterItem value) h = (h, tt)
parameter_sayable (MessageTypeItem value) h = tt
parameter_sayable (TransactionTypeItem value) h = tt
parameter_sayable (TransactionIdItem value) h = tt
parameter_sayable (NodeIdItem value) h = tt
parameter_sayable (SpaceIdItem value) h = tt

-- what bytes are read as is sayable
pub message_says : (envelope : Envelope) → Says (ReadsMessage envelope) (IsSayable envelope)
message_says envelope bytes rest x =
    let each = root_says x.items x.reads.middle rest x.reads.second in
    let holds = x.holds in
    record {
      transaction_id = (subst (AllByRecursion IsText) holds.transaction_id (all_flat_map transaction_id_of IsSayableItem IsText transaction_id_text x.items each)).0;
      node_id = (subst (AllByRecursion IsText) holds.node_id (all_flat_map node_id_of IsSayableItem IsText node_id_text x.items each)).0;
      space_id = (subst (AllByRecursion IsText) holds.space_id (all_flat_map space_id_of IsSayableItem IsText space_id_text x.items each)).0;
      params = subst (AllByRecursion IsSayableParam) holds.params (all_flat_map parameter_of IsSayableItem IsSayableParam parameter_sayable x.items each);
    }
