-- Worked examples of the grammar, each with a neighbour that is not spelled.
use Rattle.std.specs.Prelude.{ℕ, List, [], ◌∷◌, None, codes}
use Rattle.ssap_items.specs.declared.heads.MessageType.{MessageType}
use Rattle.ssap_items.specs.declared.heads.MessageType.TheVariants.{Request}
use Rattle.ssap_items.specs.declared.heads.Transaction.TheVariants.{Join}
use Rattle.ssap_items.specs.declared.body.Body.TheVariants.{Text}
use Rattle.ssap_items.specs.declared.envelope.Param.{Param}
use Rattle.ssap_items.specs.declared.envelope.Envelope.{Envelope}
use Rattle.ssap_grammar.specs.Head.{ReadsMessageType, ReadsNodeId}
use Rattle.ssap_grammar.specs.Triples.{ReadsPredicate}
use Rattle.ssap_grammar.specs.Parameter.{ReadsParameter}
use Rattle.ssap_grammar.specs.Message.{ReadsMessage}
use Rattle.ssap_grammar.specs.Stream.{Stream}

-- an attribute may have either quote
abbrev pub EitherQuote : Type 0
EitherQuote = ReadsPredicate (codes "p") (codes "<predicate type=\"uri\">p</predicate>") []
    × ReadsPredicate (codes "p") (codes "<predicate type='URI'>p</predicate>") []

-- and not one of each
abbrev pub QuotesAgree : Type 0
QuotesAgree = (value rest : List ℕ) → ¬ (ReadsPredicate value (codes "<predicate type='uri\">p</predicate>") rest)

-- an element of an empty text may be self-closing
abbrev pub EmptyText : Type 0
EmptyText = ReadsNodeId [] (codes "<node_id/>") [] × ReadsNodeId [] (codes "<node_id></node_id>") []

-- with nothing between the `/` and the `>`
abbrev pub NoSpaceInEnd : Type 0
NoSpaceInEnd = (value rest : List ℕ) → ¬ (ReadsNodeId value (codes "<node_id/ >") rest)

-- and not where the content may not be empty
abbrev pub NoEmptyWord : Type 0
NoEmptyWord = (value : MessageType) (rest : List ℕ) → ¬ (ReadsMessageType value (codes "<message_type/>") rest)

-- a CDATA section stands for its content
abbrev pub CdataSection : Type 0
CdataSection = ReadsNodeId (codes "a<b&c") (codes "<node_id>a<![CDATA[<b&]]>c</node_id>") []

-- with its word in capitals
abbrev pub NoSmallCdata : Type 0
NoSmallCdata = (value rest : List ℕ) → ¬ (ReadsNodeId value (codes "<node_id><![cdata[a]]></node_id>") rest)

-- a reference stands for its character
abbrev pub ReferenceInText : Type 0
ReferenceInText = ReadsNodeId (codes "a<") (codes "<node_id>a&lt;</node_id>") []

-- with its word in small letters
abbrev pub NoCapitalReference : Type 0
NoCapitalReference = (value rest : List ℕ) → ¬ (ReadsNodeId value (codes "<node_id>&LT;</node_id>") rest)

-- white space may stand before an attribute, around its `=`, before the `>` of either tag, and is kept in a text
abbrev pub SpacesInTags : Type 0
SpacesInTags = ReadsPredicate (codes " p ") (codes "<predicate  type = \"uri\" > p </predicate >") []

-- and not before a tag's name
abbrev pub NoSpaceBeforeName : Type 0
NoSpaceBeforeName = (value rest : List ℕ) → ¬ (ReadsPredicate value (codes "< predicate>p</predicate>") rest)

-- a parameter whose content is white space alone is a text
abbrev pub BlankText : Type 0
BlankText = ReadsParameter (record { name = codes "n"; encoding = None; body = Text (codes " ") }) (codes "<parameter name=\"n\"> </parameter>") []

-- and its name stands once
abbrev pub OneName : Type 0
OneName = (value : Param) (rest : List ℕ) → ¬ (ReadsParameter value (codes "<parameter name=\"n\" name=\"n\"/>") rest)

-- an envelope without parameters
abbrev pub joining : Envelope
joining = record {
  heads = record {
    message = Request;
    transaction = Join;
    transaction_id = codes "1";
    node_id = codes "k";
    space_id = codes "X";
  };
  params = [];
}

-- a message begins at its declaration, behind white space, and ends with its last `>`
abbrev pub OneMessage : Type 0
OneMessage = Stream
    (codes " <?xml version='1.0'?> <SSAP_message><node_id>k</node_id><message_type>REQUEST</message_type> <space_id>X</space_id><transaction_type> JOIN</transaction_type><transaction_id>1</transaction_id></SSAP_message>  ")
    (record { start = 1; end = 207; envelope = joining } ∷ [])

-- and has each head once
abbrev pub OneNodeId : Type 0
OneNodeId = (value : Envelope) (rest : List ℕ) → ¬ (ReadsMessage value
    (codes "<SSAP_message><node_id>k</node_id><message_type>REQUEST</message_type><space_id>X</space_id><transaction_type>JOIN</transaction_type><transaction_id>1</transaction_id><node_id>k</node_id></SSAP_message>") rest)
