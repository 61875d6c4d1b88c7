-- The contents of the five heads.
use Rattle.std.proofs.Common.{refl}
use Rattle.ssap_items.specs.declared.tags.TagName.TheVariants as tag
use Rattle.ssap_grammar.specs.Front.{Then, OneOf}
use Rattle.ssap_grammar.specs.Characters.{Spaces}
use Rattle.ssap_grammar.specs.Text.{ReadsText}
use Rattle.ssap_grammar.specs.Head.{message_types, transactions}
use Rattle.ssap_machine.specs.Words.{words}
use Rattle.ssap_machine.specs.Options.{content, may_be_empty}
use Rattle.ssap_machine.specs.declared.symbol.Words.TheVariants as word
use Rattle.ssap_accepts.proofs.Means.{AnyOf}
use Rattle.ssap_accepts.proofs.Elements.{Fills}
use Rattle.ssap_accepts.proofs.Contents.{fills_text, fills_table}

pub fills_message_type : Fills tag.MessageType (Then Spaces (Then (AnyOf (OneOf message_types)) Spaces))
unfolding content may_be_empty words message_types
fills_message_type = fills_table tag.MessageType word.MessageTypes message_types refl refl refl refl

pub fills_transaction_type : Fills tag.TransactionType (Then Spaces (Then (AnyOf (OneOf transactions)) Spaces))
unfolding content may_be_empty words transactions
fills_transaction_type = fills_table tag.TransactionType word.Transactions transactions refl refl refl refl

pub fills_transaction_id : Fills tag.TransactionId (AnyOf ReadsText)
unfolding content may_be_empty
fills_transaction_id = fills_text tag.TransactionId refl refl

pub fills_node_id : Fills tag.NodeId (AnyOf ReadsText)
unfolding content may_be_empty
fills_node_id = fills_text tag.NodeId refl refl

pub fills_space_id : Fills tag.SpaceId (AnyOf ReadsText)
unfolding content may_be_empty
fills_space_id = fills_text tag.SpaceId refl refl
