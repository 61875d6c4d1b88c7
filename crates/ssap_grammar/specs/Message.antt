-- Messages: a declaration, which may be left out, and the element `SSAP_message` with its items.
use Rattle.std.specs.Prelude.{◌≡◌, ◌⊎◌, ℕ, List, [], ◌∷◌, flat_map, codes}
use Rattle.ssap_items.specs.declared.heads.MessageType.{MessageType}
use Rattle.ssap_items.specs.declared.heads.Transaction.{Transaction}
use Rattle.ssap_items.specs.declared.envelope.Param.{Param}
use Rattle.ssap_items.specs.declared.envelope.Envelope.{Envelope}
use Rattle.ssap_grammar.specs.Front.{Front, Word, ◌then◌, Many, Optional}
use Rattle.ssap_grammar.specs.Characters.{Spaces, Quoted}
use Rattle.ssap_grammar.specs.Attribute.{ReadsAttribute}
use Rattle.ssap_grammar.specs.Head.{ReadsMessageType, ReadsTransactionType, ReadsTransactionId, ReadsNodeId, ReadsSpaceId}
use Rattle.ssap_grammar.specs.Parameter.{ReadsParameter}

-- the name of the encoding, in capitals or in small letters
abbrev pub ReadsUtf8Name : Front
ReadsUtf8Name bytes rest = Word (codes "UTF-8") bytes rest ⊎ Word (codes "utf-8") bytes rest

-- the attribute `version` of a declaration
abbrev pub ReadsVersion : Front
ReadsVersion = ReadsAttribute (codes "version") (Quoted (λ quote. Word (codes "1.0")))

-- the attribute `encoding` of a declaration
abbrev pub ReadsEncoding : Front
ReadsEncoding = ReadsAttribute (codes "encoding") (Quoted (λ quote. ReadsUtf8Name))

-- decl: a declaration in the form of XML 1.0 (section 2.8), with its version and perhaps its encoding
unfoldable pub ReadsDeclaration : Front
ReadsDeclaration = Word (codes "<?xml") then ReadsVersion then Optional ReadsEncoding then Spaces then Word (codes "?>")

-- item: a head or a parameter
pub data Item : Type 0 where
  MessageTypeItem : MessageType → Item
  TransactionTypeItem : Transaction → Item
  TransactionIdItem NodeIdItem SpaceIdItem : List ℕ → Item
  ParameterItem : Param → Item

-- item: the element of a head, or of a parameter
abbrev pub ReadsItem : Item → Front
ReadsItem (MessageTypeItem value) = ReadsMessageType value
ReadsItem (TransactionTypeItem value) = ReadsTransactionType value
ReadsItem (TransactionIdItem value) = ReadsTransactionId value
ReadsItem (NodeIdItem value) = ReadsNodeId value
ReadsItem (SpaceIdItem value) = ReadsSpaceId value
ReadsItem (ParameterItem param) = ReadsParameter param

-- the message type, where the item is one
abbrev pub message_type_of : Item → List MessageType
message_type_of (MessageTypeItem value) = value ∷ []
message_type_of _ = []

-- the transaction, where the item is one
abbrev pub transaction_type_of : Item → List Transaction
transaction_type_of (TransactionTypeItem value) = value ∷ []
transaction_type_of _ = []

-- the transaction id, where the item is one
abbrev pub transaction_id_of : Item → List (List ℕ)
transaction_id_of (TransactionIdItem value) = value ∷ []
transaction_id_of _ = []

-- the node id, where the item is one
abbrev pub node_id_of : Item → List (List ℕ)
node_id_of (NodeIdItem value) = value ∷ []
node_id_of _ = []

-- the space id, where the item is one
abbrev pub space_id_of : Item → List (List ℕ)
space_id_of (SpaceIdItem value) = value ∷ []
space_id_of _ = []

-- the parameter, where the item is one
abbrev pub parameter_of : Item → List Param
parameter_of (ParameterItem value) = value ∷ []
parameter_of _ = []

-- among the items each head stands exactly once, in any order, and these are the parameters in theirs
pub record Holds (items : List Item) (envelope : Envelope) : Type 0 where
  pub message : flat_map message_type_of items ≡ envelope.heads.message ∷ []
  pub transaction : flat_map transaction_type_of items ≡ envelope.heads.transaction ∷ []
  pub transaction_id : flat_map transaction_id_of items ≡ envelope.heads.transaction_id ∷ []
  pub node_id : flat_map node_id_of items ≡ envelope.heads.node_id ∷ []
  pub space_id : flat_map space_id_of items ≡ envelope.heads.space_id ∷ []
  pub params : flat_map parameter_of items ≡ envelope.params

-- the element `SSAP_message`, which has no empty form, with these items
unfoldable pub ReadsRoot : List Item → Front
ReadsRoot items = Word (codes "<SSAP_message") then Spaces then Word (codes ">") then Spaces
    then Many (λ item. ReadsItem item then Spaces) items then Word (codes "</SSAP_message") then Spaces then Word (codes ">")

-- the element of a message begins here
abbrev pub BeginsRoot : List ℕ → Type 0
BeginsRoot bytes = (more : List ℕ) × (bytes ≡ 60 ∷ 83 ∷ more)

-- message: perhaps a declaration, and then the element `SSAP_message`
pub record ReadsMessage (envelope : Envelope) (bytes rest : List ℕ) : Type 0 where
  pub items : List Item
  pub holds : Holds items envelope
  pub reads : (Optional (ReadsDeclaration then Spaces) then ReadsRoot items) bytes rest

-- the bytes spell the envelope, with nothing before or behind
abbrev pub Spells : List ℕ → Envelope → Type 0
Spells bytes envelope = ReadsMessage envelope bytes []
