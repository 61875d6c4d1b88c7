-- The pieces of a message, and what was gathered of them.
use Rattle.std.specs.Prelude.{◌≡◌, ℕ, Bool, true, false, List, [], ◌∷◌, ◌++◌, Option, Some, None, option_to_list, flat_map}
use Rattle.std.specs.Borrow.{Bor}
use Rattle.ssap_items.specs.declared.envelope.Envelope.{Envelope}
use Rattle.ssap_read.specs.declared.piece.Piece.{Piece}
use Rattle.ssap_read.specs.declared.piece.Piece.TheVariants.{MessageType, TransactionType, TransactionId, NodeId, SpaceId, Parameter}
use Rattle.ssap_read.specs.declared.gather.Gathered.{Gathered}
use Rattle.ssap_grammar.specs.Message.{Item, ReadsItem, message_type_of, transaction_type_of, transaction_id_of, node_id_of, space_id_of, parameter_of, Holds, ReadsRoot}
use Rattle.ssap_grammar.specs.Message.Item.{MessageTypeItem, TransactionTypeItem, TransactionIdItem, NodeIdItem, SpaceIdItem, ParameterItem}
use Rattle.ssap_read.specs.Told.{Whatever, IsOnly, IsNone}
use Rattle.ssap_read.specs.Tags.{ReadsEach}

-- a piece as an item of the grammar
abbrev pub item_of : Piece → Item
item_of (MessageType value) = MessageTypeItem value
item_of (TransactionType value) = TransactionTypeItem value
item_of (TransactionId value) = TransactionIdItem value
item_of (NodeId value) = NodeIdItem value
item_of (SpaceId value) = SpaceIdItem value
item_of (Parameter value) = ParameterItem value

-- the piece that was found is the only item, and where none was found there is none
abbrev pub ToldPiece : List ℕ → Option (Piece × Bor (List ℕ)) → Type 0
ToldPiece bytes None = IsNone ReadsItem Whatever bytes
ToldPiece bytes (Some found) = IsOnly ReadsItem Whatever bytes (item_of found.0) found.1.now

-- of these items each head was gathered that stands among them, each at most once, and the parameters in their order
pub record Gathers (items : List Item) (gathered : Gathered) : Type 0 where
  pub message : flat_map message_type_of items ≡ option_to_list gathered.message
  pub transaction : flat_map transaction_type_of items ≡ option_to_list gathered.transaction
  pub transaction_id : flat_map transaction_id_of items ≡ option_to_list gathered.transaction_id
  pub node_id : flat_map node_id_of items ≡ option_to_list gathered.node_id
  pub space_id : flat_map space_id_of items ≡ option_to_list gathered.space_id
  pub params : flat_map parameter_of items ≡ gathered.params

-- one more item was taken, or it is a head that was gathered before, so that no envelope holds these items
abbrev pub Takes : Gathered → Item → Bool → Gathered → Type 0
Takes before item true after = (items : List Item) → Gathers items before → Gathers (items ++ item ∷ []) after
Takes before item false after = (items more : List Item) (envelope : Envelope) → Gathers items before → ¬ (Holds (items ++ item ∷ more) envelope)

-- the envelope holds the items that were gathered, or no envelope does
abbrev pub Completes : Gathered → Option Envelope → Type 0
Completes gathered None = (items : List Item) (envelope : Envelope) → Gathers items gathered → ¬ (Holds items envelope)
Completes gathered (Some envelope) = (items : List Item) → Gathers items gathered → Holds items envelope

-- the items of an envelope, with white space around each
pub record ReadsContent (envelope : Envelope) (bytes rest : List ℕ) : Type 0 where
  pub items : List Item
  pub holds : Holds items envelope
  pub reads : ReadsEach ReadsItem items bytes rest

-- the element of a message that holds an envelope
pub record ReadsRootOf (envelope : Envelope) (bytes rest : List ℕ) : Type 0 where
  pub items : List Item
  pub holds : Holds items envelope
  pub reads : ReadsRoot items bytes rest
