-- The five heads of a message.
use Rattle.std.specs.Prelude.{ℕ, List, [], ◌∷◌, codes}
use Rattle.ssap_items.specs.declared.heads.MessageType.{MessageType}
use Rattle.ssap_items.specs.declared.heads.MessageType.TheVariants.{Request, Confirm, Indication}
use Rattle.ssap_items.specs.declared.heads.Transaction.{Transaction}
use Rattle.ssap_items.specs.declared.heads.Transaction.TheVariants.{Join, Leave, Insert, Remove, Update, Query, Subscribe, Unsubscribe}
use Rattle.ssap_grammar.specs.Front.{Front, Nothing, ◌then◌, OneOf}
use Rattle.ssap_grammar.specs.Characters.{Spaces}
use Rattle.ssap_grammar.specs.Text.{ReadsText}
use Rattle.ssap_grammar.specs.Element.{ReadsElement}

-- the words of the message types
unfoldable pub message_types : List (List ℕ × MessageType)
message_types = (codes "REQUEST", Request) ∷ (codes "CONFIRM", Confirm) ∷ (codes "INDICATION", Indication) ∷ []

-- the words of the transactions
unfoldable pub transactions : List (List ℕ × Transaction)
transactions = (codes "JOIN", Join) ∷ (codes "LEAVE", Leave) ∷ (codes "INSERT", Insert) ∷ (codes "REMOVE", Remove)
    ∷ (codes "UPDATE", Update) ∷ (codes "QUERY", Query) ∷ (codes "SUBSCRIBE", Subscribe)
    ∷ (codes "UNSUBSCRIBE", Unsubscribe) ∷ []

-- message_type: the word of a message type, with white space around it
abbrev pub ReadsMessageType : MessageType → Front
ReadsMessageType value = ReadsElement (codes "message_type") Nothing (Spaces then OneOf message_types value then Spaces)

-- transaction_type: the word of a transaction, with white space around it
abbrev pub ReadsTransactionType : Transaction → Front
ReadsTransactionType value = ReadsElement (codes "transaction_type") Nothing (Spaces then OneOf transactions value then Spaces)

-- transaction_id: a text
abbrev pub ReadsTransactionId : List ℕ → Front
ReadsTransactionId value = ReadsElement (codes "transaction_id") Nothing (ReadsText value)

-- node_id: a text
abbrev pub ReadsNodeId : List ℕ → Front
ReadsNodeId value = ReadsElement (codes "node_id") Nothing (ReadsText value)

-- space_id: a text
abbrev pub ReadsSpaceId : List ℕ → Front
ReadsSpaceId value = ReadsElement (codes "space_id") Nothing (ReadsText value)
