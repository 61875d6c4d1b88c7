-- The items of a message are told.
use Rattle.std.proofs.Common.{◌≡◌, ℕ, List, refl, ap}
use Rattle.std.specs.Cmp.Lexicographic.{other_text}
use Rattle.ssap_items.specs.declared.heads.MessageType.{MessageType}
use Rattle.ssap_items.specs.declared.heads.Transaction.{Transaction}
use Rattle.ssap_items.specs.declared.envelope.Param.{Param}
use Rattle.ssap_grammar.specs.Head.{ReadsMessageType, ReadsTransactionType, ReadsTransactionId, ReadsNodeId, ReadsSpaceId}
use Rattle.ssap_grammar.specs.Parameter.{ReadsParameter}
use Rattle.ssap_grammar.specs.Message.{Item, ReadsItem}
use Rattle.ssap_grammar.specs.Message.Item.{MessageTypeItem, TransactionTypeItem, TransactionIdItem, NodeIdItem, SpaceIdItem, ParameterItem}
use Rattle.ssap_read.specs.Told.{Whatever, IsOnly, IsNone}
use Rattle.ssap_grammar.proofs.Messages.{item_tag, item_tags_same}

pub message_item : (bytes rest : List ℕ) (v : MessageType) → IsOnly ReadsMessageType Whatever bytes v rest → IsOnly ReadsItem Whatever bytes (MessageTypeItem v) rest
unfolding item_tag
message_item bytes rest v p = record { reads = p.reads; only = λ w left x _. go w left x }
  where
    go : (w : Item) (left : List ℕ) → ReadsItem w bytes left → (w ≡ MessageTypeItem v) × (left ≡ rest)
    go (MessageTypeItem w) left x = let one = p.only w left x tt in (ap MessageTypeItem one.0, one.1)
    go w left x = absurd (other_text (item_tag w) (item_tag (MessageTypeItem v)) refl (item_tags_same w (MessageTypeItem v) bytes left rest x p.reads))

pub transaction_item : (bytes rest : List ℕ) (v : Transaction) → IsOnly ReadsTransactionType Whatever bytes v rest → IsOnly ReadsItem Whatever bytes (TransactionTypeItem v) rest
unfolding item_tag
transaction_item bytes rest v p = record { reads = p.reads; only = λ w left x _. go w left x }
  where
    go : (w : Item) (left : List ℕ) → ReadsItem w bytes left → (w ≡ TransactionTypeItem v) × (left ≡ rest)
    go (TransactionTypeItem w) left x = let one = p.only w left x tt in (ap TransactionTypeItem one.0, one.1)
    go w left x = absurd (other_text (item_tag w) (item_tag (TransactionTypeItem v)) refl (item_tags_same w (TransactionTypeItem v) bytes left rest x p.reads))

pub transaction_id_item : (bytes rest v : List ℕ) → IsOnly ReadsTransactionId Whatever bytes v rest → IsOnly ReadsItem Whatever bytes (TransactionIdItem v) rest
unfolding item_tag
transaction_id_item bytes rest v p = record { reads = p.reads; only = λ w left x _. go w left x }
  where
    go : (w : Item) (left : List ℕ) → ReadsItem w bytes left → (w ≡ TransactionIdItem v) × (left ≡ rest)
    go (TransactionIdItem w) left x = let one = p.only w left x tt in (ap TransactionIdItem one.0, one.1)
    go w left x = absurd (other_text (item_tag w) (item_tag (TransactionIdItem v)) refl (item_tags_same w (TransactionIdItem v) bytes left rest x p.reads))

pub node_id_item : (bytes rest v : List ℕ) → IsOnly ReadsNodeId Whatever bytes v rest → IsOnly ReadsItem Whatever bytes (NodeIdItem v) rest
unfolding item_tag
node_id_item bytes rest v p = record { reads = p.reads; only = λ w left x _. go w left x }
  where
    go : (w : Item) (left : List ℕ) → ReadsItem w bytes left → (w ≡ NodeIdItem v) × (left ≡ rest)
    go (NodeIdItem w) left x = let one = p.only w left x tt in (ap NodeIdItem one.0, one.1)
    go w left x = absurd (other_text (item_tag w) (item_tag (NodeIdItem v)) refl (item_tags_same w (NodeIdItem v) bytes left rest x p.reads))

pub space_id_item : (bytes rest v : List ℕ) → IsOnly ReadsSpaceId Whatever bytes v rest → IsOnly ReadsItem Whatever bytes (SpaceIdItem v) rest
unfolding item_tag
space_id_item bytes rest v p = record { reads = p.reads; only = λ w left x _. go w left x }
  where
    go : (w : Item) (left : List ℕ) → ReadsItem w bytes left → (w ≡ SpaceIdItem v) × (left ≡ rest)
    go (SpaceIdItem w) left x = let one = p.only w left x tt in (ap SpaceIdItem one.0, one.1)
    go w left x = absurd (other_text (item_tag w) (item_tag (SpaceIdItem v)) refl (item_tags_same w (SpaceIdItem v) bytes left rest x p.reads))

pub parameter_item : (bytes rest : List ℕ) (v : Param) → IsOnly ReadsParameter Whatever bytes v rest → IsOnly ReadsItem Whatever bytes (ParameterItem v) rest
unfolding item_tag
parameter_item bytes rest v p = record { reads = p.reads; only = λ w left x _. go w left x }
  where
    go : (w : Item) (left : List ℕ) → ReadsItem w bytes left → (w ≡ ParameterItem v) × (left ≡ rest)
    go (ParameterItem w) left x = let one = p.only w left x tt in (ap ParameterItem one.0, one.1)
    go w left x = absurd (other_text (item_tag w) (item_tag (ParameterItem v)) refl (item_tags_same w (ParameterItem v) bytes left rest x p.reads))

pub item_none : (bytes : List ℕ) → IsNone ReadsMessageType Whatever bytes → IsNone ReadsTransactionType Whatever bytes → IsNone ReadsTransactionId Whatever bytes
    → IsNone ReadsNodeId Whatever bytes → IsNone ReadsSpaceId Whatever bytes → IsNone ReadsParameter Whatever bytes → IsNone ReadsItem Whatever bytes
item_none bytes a b c d e f (MessageTypeItem w) left x _ = a w left x tt
item_none bytes a b c d e f (TransactionTypeItem w) left x _ = b w left x tt
item_none bytes a b c d e f (TransactionIdItem w) left x _ = c w left x tt
item_none bytes a b c d e f (NodeIdItem w) left x _ = d w left x tt
item_none bytes a b c d e f (SpaceIdItem w) left x _ = e w left x tt
item_none bytes a b c d e f (ParameterItem w) left x _ = f w left x tt
