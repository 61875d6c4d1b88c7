-- The tags of a message, and sets of them.
use Rattle.std.specs.Prelude.{◌≡◌, ℕ, true, false, List, ◌++◌, get_or, codes, refl}
use Rattle.ssap_items.specs.declared.tags.TagName.{TagName}
use Rattle.ssap_items.specs.declared.tags.TagName.TheVariants.{MessageType, TransactionType, TransactionId, NodeId, SpaceId, Parameter, TripleList, Triple, Subject, Predicate, Object, Sparql, Head, Variable, Results, Result, Binding, Uri, Literal, Bnode, SsapMessage}
use Rattle.ssap_items.specs.declared.tags.Tag.{Tag}
use Rattle.ssap_items.specs.declared.tags.Tag.TheVariants.{Start, Finish}
use Rattle.ssap_items.specs.declared.tags.Tags.{Tags}

-- the name of an element as it is written
unfoldable pub tag_name : TagName → List ℕ
tag_name MessageType = codes "message_type"
tag_name TransactionType = codes "transaction_type"
tag_name TransactionId = codes "transaction_id"
tag_name NodeId = codes "node_id"
tag_name SpaceId = codes "space_id"
tag_name Parameter = codes "parameter"
tag_name TripleList = codes "triple_list"
tag_name Triple = codes "triple"
tag_name Subject = codes "subject"
tag_name Predicate = codes "predicate"
tag_name Object = codes "object"
tag_name Sparql = codes "sparql"
tag_name Head = codes "head"
tag_name Variable = codes "variable"
tag_name Results = codes "results"
tag_name Result = codes "result"
tag_name Binding = codes "binding"
tag_name Uri = codes "uri"
tag_name Literal = codes "literal"
tag_name Bnode = codes "bnode"
tag_name SsapMessage = codes "SSAP_message"

-- the number of a name among all names
unfoldable pub tag_number : TagName → ℕ
tag_number MessageType = 0
tag_number TransactionType = 1
tag_number TransactionId = 2
tag_number NodeId = 3
tag_number SpaceId = 4
tag_number Parameter = 5
tag_number TripleList = 6
tag_number Triple = 7
tag_number Subject = 8
tag_number Predicate = 9
tag_number Object = 10
tag_number Sparql = 11
tag_number Head = 12
tag_number Variable = 13
tag_number Results = 14
tag_number Result = 15
tag_number Binding = 16
tag_number Uri = 17
tag_number Literal = 18
tag_number Bnode = 19
tag_number SsapMessage = 20

-- a tag as it is written behind its `<`: its name, with `/` before it where it finishes the element
unfoldable pub tag_spelling : Tag → List ℕ
tag_spelling (Start name) = tag_name name
tag_spelling (Finish name) = codes "/" ++ tag_name name

-- a finishing tag has a slash before its name
bnode_finishes : tag_spelling (Finish Bnode) ≡ codes "/bnode"
unfolding tag_spelling tag_name
bnode_finishes = refl

-- the word begins with the prefix
abbrev pub BeginsWith : List ℕ → List ℕ → Type 0
BeginsWith word prefix = (more : List ℕ) × (word ≡ prefix ++ more)

-- the tag is in the set
unfoldable pub Has : Tags → Tag → Type 0
Has tags (Start name) = get_or tags.starts (tag_number name) false ≡ true
Has tags (Finish name) = get_or tags.finishes (tag_number name) false ≡ true

-- no tag is in the set
abbrev pub HasNone : Tags → Type 0
HasNone tags = (tag : Tag) → ¬ (Has tags tag)
