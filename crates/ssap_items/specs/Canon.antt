-- The canonical spelling of an envelope: no declaration, no white space between items and tags, double
-- quotes, the heads first in one order, and then the parameters in theirs.
use Rattle.std.specs.Prelude.{◌≡◌, ℕ, ◌==◌, if◌then◌else◌, List, [], ◌∷◌, ◌++◌, flat_map, Option, Some, None, codes, refl}
use Rattle.ssap_items.specs.declared.heads.MessageType.{MessageType}
use Rattle.ssap_items.specs.declared.heads.MessageType.TheVariants.{Request, Confirm, Indication}
use Rattle.ssap_items.specs.declared.heads.Transaction.{Transaction}
use Rattle.ssap_items.specs.declared.heads.Transaction.TheVariants.{Join, Leave, Insert, Remove, Update, Query, Subscribe, Unsubscribe}
use Rattle.ssap_items.specs.declared.heads.Heads.{Heads}
use Rattle.ssap_items.specs.declared.body.Kind.{Kind}
use Rattle.ssap_items.specs.declared.body.Kind.TheVariants.{Uri, Literal, Bnode}
use Rattle.ssap_items.specs.declared.body.RawTerm.{RawTerm}
use Rattle.ssap_items.specs.declared.body.RawTriple.{RawTriple}
use Rattle.ssap_items.specs.declared.body.RawCell.{RawCell}
use Rattle.ssap_items.specs.declared.body.RawTable.{RawTable}
use Rattle.ssap_items.specs.declared.body.Body.{Body}
use Rattle.ssap_items.specs.declared.body.Body.TheVariants.{Text, Triples, Table}
use Rattle.ssap_items.specs.declared.envelope.Param.{Param}
use Rattle.ssap_items.specs.declared.envelope.Envelope.{Envelope}

-- a byte of a text or of an attribute's value: seven characters are written as references, and no others
abbrev pub escaped_byte : ℕ → List ℕ
escaped_byte b =
    if b == 38 then codes "&amp;"
    else if b == 60 then codes "&lt;"
    else if b == 62 then codes "&gt;"
    else if b == 34 then codes "&quot;"
    else if b == 9 then codes "&#9;"
    else if b == 10 then codes "&#10;"
    else if b == 13 then codes "&#13;"
    else b ∷ []

-- a text, or an attribute's value, as it is written
unfoldable pub escaped : List ℕ → List ℕ
escaped text = flat_map escaped_byte text

-- a `<` is written as a reference, and a `'` as it is
less_is_escaped : escaped (codes "a<'b") ≡ codes "a&lt;'b"
unfolding escaped
less_is_escaped = refl

-- an attribute, with the space before it
unfoldable pub attribute : List ℕ → List ℕ → List ℕ
attribute name value = codes " " ++ name ++ codes "=\"" ++ escaped value ++ codes "\""

-- an element with these attributes and this content, both written out
unfoldable pub element_with : List ℕ → List ℕ → List ℕ → List ℕ
element_with tag attributes content = codes "<" ++ tag ++ attributes ++ codes ">" ++ content ++ codes "</" ++ tag ++ codes ">"

-- an element without attributes
unfoldable pub element : List ℕ → List ℕ → List ℕ
element tag content = element_with tag [] content

-- the word of a message type
unfoldable pub message_word : MessageType → List ℕ
message_word Request = codes "REQUEST"
message_word Confirm = codes "CONFIRM"
message_word Indication = codes "INDICATION"

-- the word of a transaction
unfoldable pub transaction_word : Transaction → List ℕ
transaction_word Join = codes "JOIN"
transaction_word Leave = codes "LEAVE"
transaction_word Insert = codes "INSERT"
transaction_word Remove = codes "REMOVE"
transaction_word Update = codes "UPDATE"
transaction_word Query = codes "QUERY"
transaction_word Subscribe = codes "SUBSCRIBE"
transaction_word Unsubscribe = codes "UNSUBSCRIBE"

-- the five heads, in their order
unfoldable pub heads_spelling : Heads → List ℕ
heads_spelling heads = element (codes "message_type") (message_word heads.message)
    ++ element (codes "transaction_type") (transaction_word heads.transaction)
    ++ element (codes "transaction_id") (escaped heads.transaction_id)
    ++ element (codes "node_id") (escaped heads.node_id)
    ++ element (codes "space_id") (escaped heads.space_id)

-- the word of a kind of term, which is its element in a table and its `type` in a triple
unfoldable pub kind_word : Kind → List ℕ
kind_word Uri = codes "uri"
kind_word Literal = codes "literal"
kind_word Bnode = codes "bnode"

-- a subject or an object, with its kind as the attribute `type`
unfoldable pub typed_term : List ℕ → RawTerm → List ℕ
typed_term tag term = element_with tag (attribute (codes "type") (kind_word term.kind)) (escaped term.text)

-- a triple, with its subject, its predicate and its object
unfoldable pub triple_spelling : RawTriple → List ℕ
triple_spelling triple = element (codes "triple")
    (typed_term (codes "subject") triple.subject
    ++ element (codes "predicate") (escaped triple.predicate)
    ++ typed_term (codes "object") triple.object)

-- a list of triples
unfoldable pub triples_spelling : List RawTriple → List ℕ
triples_spelling triples = element (codes "triple_list") (flat_map triple_spelling triples)

-- a column of a table, as an element without content
unfoldable pub variable_spelling : List ℕ → List ℕ
variable_spelling name = codes "<variable" ++ attribute (codes "name") name ++ codes "/>"

-- a bound cell of a row
unfoldable pub binding_spelling : RawCell → List ℕ
binding_spelling cell = element_with (codes "binding") (attribute (codes "name") cell.name)
    (element (kind_word cell.value.kind) (escaped cell.value.text))

-- a row of a table
unfoldable pub result_spelling : List RawCell → List ℕ
result_spelling row = element (codes "result") (flat_map binding_spelling row)

-- a table (SPARQL Query Results XML Format, section 2)
unfoldable pub table_spelling : RawTable → List ℕ
table_spelling table = element_with (codes "sparql") (attribute (codes "xmlns") (codes "http://www.w3.org/2005/sparql-results#"))
    (element (codes "head") (flat_map variable_spelling table.columns)
    ++ element (codes "results") (flat_map result_spelling table.rows))

-- the content of a parameter
unfoldable pub body_spelling : Body → List ℕ
body_spelling (Text text) = escaped text
body_spelling (Triples triples) = triples_spelling triples
body_spelling (Table table) = table_spelling table

-- the encoding of a parameter, where it has one
unfoldable pub encoding_spelling : Option (List ℕ) → List ℕ
encoding_spelling None = []
encoding_spelling (Some encoding) = attribute (codes "encoding") encoding

-- a parameter
unfoldable pub parameter_spelling : Param → List ℕ
parameter_spelling param = element_with (codes "parameter")
    (attribute (codes "name") param.name ++ encoding_spelling param.encoding) (body_spelling param.body)

-- the canonical spelling of an envelope
unfoldable pub canonical : Envelope → List ℕ
canonical envelope = element (codes "SSAP_message")
    (heads_spelling envelope.heads ++ flat_map parameter_spelling envelope.params)
