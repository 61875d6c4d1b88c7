-- How long the spellings of the parts of a message are at most.
use Rattle.std.proofs.Common.{◌≡◌, arith, ℕ, ◌+◌, ◌*◌, ◌≤◌, ◌==◌, Bool, true, false, if◌then◌else◌, List, [], ◌∷◌, ◌++◌, length, length-append, flat_map, codes}
use Rattle.ssap_items.specs.Canon.{escaped_byte, escaped, attribute, element_with, element, typed_term, triple_spelling, kind_word, message_word, transaction_word, heads_spelling}
use Rattle.ssap_items.specs.declared.heads.MessageType.{MessageType}
use Rattle.ssap_items.specs.declared.heads.MessageType.TheVariants.{Request, Confirm, Indication}
use Rattle.ssap_items.specs.declared.heads.Transaction.{Transaction}
use Rattle.ssap_items.specs.declared.heads.Transaction.TheVariants.{Join, Leave, Insert, Remove, Update, Query, Subscribe, Unsubscribe}
use Rattle.ssap_items.specs.declared.heads.Heads.{Heads}
use Rattle.ssap_items.specs.declared.body.Kind.{Kind}
use Rattle.ssap_items.specs.declared.body.Kind.TheVariants.{Uri, Literal, Bnode}
use Rattle.ssap_items.specs.declared.body.RawTerm.{RawTerm}
use Rattle.ssap_items.specs.declared.body.RawTriple.{RawTriple}

-- either of two lists is short where both are
either_short : (c : Bool) (xs ys : List ℕ) (most : ℕ) → length xs ≤ most → length ys ≤ most → length (if c then xs else ys) ≤ most
either_short true xs ys most p q = p
either_short false xs ys most p q = q

-- a byte is written as at most six
pub byte_short : (b : ℕ) → length (escaped_byte b) ≤ 6
byte_short b =
    either_short (b == 38) _ _ 6 (omega arith) (either_short (b == 60) _ _ 6 (omega arith) (either_short (b == 62) _ _ 6 (omega arith)
    (either_short (b == 34) _ _ 6 (omega arith) (either_short (b == 9) _ _ 6 (omega arith) (either_short (b == 10) _ _ 6 (omega arith)
    (either_short (b == 13) _ _ 6 (omega arith) (omega arith)))))))

-- a text is written in at most six times its bytes
pub text_short : (text : List ℕ) → length (escaped text) ≤ 6 * length text
unfolding escaped
text_short [] = omega arith
text_short (b ∷ text) =
    omega (arith, byte_short b, text_short text, length-append (escaped_byte b) (flat_map escaped_byte text))

-- the length of eight pieces
pieces : (a b c d e f g h : List ℕ) → length (a ++ b ++ c ++ d ++ e ++ f ++ g ++ h)
    ≡ length a + length b + length c + length d + length e + length f + length g + length h
pieces a b c d e f g h = omega (
  arith,
  length-append a b,
  length-append (a ++ b) c,
  length-append (a ++ b ++ c) d,
  length-append (a ++ b ++ c ++ d) e,
  length-append (a ++ b ++ c ++ d ++ e) f,
  length-append (a ++ b ++ c ++ d ++ e ++ f) g,
  length-append (a ++ b ++ c ++ d ++ e ++ f ++ g) h,
)

-- an element adds its tag twice, and five bytes
pub element_long : (tag attributes content : List ℕ) → length (element_with tag attributes content) ≡ 2 * length tag + length attributes + length content + 5
unfolding element_with
element_long tag attributes content =
    omega (arith, pieces (codes "<") tag attributes (codes ">") content (codes "</") tag (codes ">"))

-- so does one without attributes
pub plain_long : (tag content : List ℕ) → length (element tag content) ≡ 2 * length tag + length content + 5
unfolding element
plain_long tag content = omega (arith, element_long tag [] content)

-- an attribute adds four bytes to its name and its value
pub attribute_short : (name value : List ℕ) → length (attribute name value) ≤ length name + 6 * length value + 4
unfolding attribute
attribute_short name value = omega (
  arith,
  text_short value,
  length-append (codes " ") name,
  length-append (codes " " ++ name) (codes "=\""),
  length-append (codes " " ++ name ++ codes "=\"") (escaped value),
  length-append (codes " " ++ name ++ codes "=\"" ++ escaped value) (codes "\""),
)

-- a kind's word has at most seven bytes
kind_short : (kind : Kind) → length (kind_word kind) ≤ 7
unfolding kind_word
kind_short Uri = omega arith
kind_short Literal = omega arith
kind_short Bnode = omega arith

-- a message type's word has at most ten
message_short : (message : MessageType) → length (message_word message) ≤ 10
unfolding message_word
message_short Request = omega arith
message_short Confirm = omega arith
message_short Indication = omega arith

-- and a transaction's at most eleven
transaction_short : (transaction : Transaction) → length (transaction_word transaction) ≤ 11
unfolding transaction_word
transaction_short Join = omega arith
transaction_short Leave = omega arith
transaction_short Insert = omega arith
transaction_short Remove = omega arith
transaction_short Update = omega arith
transaction_short Query = omega arith
transaction_short Subscribe = omega arith
transaction_short Unsubscribe = omega arith

-- heads whose three texts have at most 24 bytes have at most 800
pub heads_short : (heads : Heads) → length heads.transaction_id ≤ 24 → length heads.node_id ≤ 24 → length heads.space_id ≤ 24
    → length (heads_spelling heads) ≤ 800
unfolding heads_spelling
heads_short heads id node space =
    let message = element (codes "message_type") (message_word heads.message) in
    let transaction = element (codes "transaction_type") (transaction_word heads.transaction) in
    let ids = element (codes "transaction_id") (escaped heads.transaction_id) in
    let nodes = element (codes "node_id") (escaped heads.node_id) in
    let spaces = element (codes "space_id") (escaped heads.space_id) in
    omega (
      arith,
      plain_long (codes "message_type") (message_word heads.message),
      message_short heads.message,
      plain_long (codes "transaction_type") (transaction_word heads.transaction),
      transaction_short heads.transaction,
      plain_long (codes "transaction_id") (escaped heads.transaction_id),
      text_short heads.transaction_id,
      plain_long (codes "node_id") (escaped heads.node_id),
      text_short heads.node_id,
      plain_long (codes "space_id") (escaped heads.space_id),
      text_short heads.space_id,
      length-append message transaction,
      length-append (message ++ transaction) ids,
      length-append (message ++ transaction ++ ids) nodes,
      length-append (message ++ transaction ++ ids ++ nodes) spaces,
    )

-- a term of at most 24 bytes, in an element with a tag of at most seven
typed_short : (tag : List ℕ) (term : RawTerm) → length tag ≤ 7 → length term.text ≤ 24 → length (typed_term tag term) ≤ 220
unfolding typed_term
typed_short tag term tagged short = omega (
  arith,
  element_long tag (attribute (codes "type") (kind_word term.kind)) (escaped term.text),
  attribute_short (codes "type") (kind_word term.kind),
  kind_short term.kind,
  text_short term.text,
)

-- a triple of such terms
pub triple_short : (triple : RawTriple) → length triple.subject.text ≤ 24 → length triple.predicate ≤ 24 → length triple.object.text ≤ 24
    → length (triple_spelling triple) ≤ 700
unfolding triple_spelling
triple_short triple subject predicate object =
    let subjects = typed_term (codes "subject") triple.subject in
    let predicates = element (codes "predicate") (escaped triple.predicate) in
    let objects = typed_term (codes "object") triple.object in
    omega (
      arith,
      plain_long (codes "triple") (subjects ++ predicates ++ objects),
      length-append subjects predicates,
      length-append (subjects ++ predicates) objects,
      typed_short (codes "subject") triple.subject (omega arith) subject,
      plain_long (codes "predicate") (escaped triple.predicate),
      text_short triple.predicate,
      typed_short (codes "object") triple.object (omega arith) object,
    )

-- a parameter whose name has at most 16 bytes, and whose encoding takes at most 120, if any
pub param_short : (name encoding body : List ℕ) → length name ≤ 16 → length encoding ≤ 120 → length body ≤ 900
    → length (element_with (codes "parameter") (attribute (codes "name") name ++ encoding) body) ≤ 1200
param_short name encoding body named coded short = omega (
  arith,
  element_long (codes "parameter") (attribute (codes "name") name ++ encoding) body,
  length-append (attribute (codes "name") name) encoding,
  attribute_short (codes "name") name,
)

-- an element of a message with its heads and at most 2,400 bytes of parameters
pub whole_short : (heads params : List ℕ) → length heads ≤ 800 → length params ≤ 2400 → length (element (codes "SSAP_message") (heads ++ params)) ≤ 4096
whole_short heads params p q = omega (arith, plain_long (codes "SSAP_message") (heads ++ params), length-append heads params)
