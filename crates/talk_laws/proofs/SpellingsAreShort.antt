-- Spellings of confirms that tell a status alone, and of indications that a subscription ended, are short.
use Rattle.std.proofs.Common.{◌≡◌, ℕ, ◌+◌, ◌≤◌, Bool, true, false, List, [], ◌∷◌, ◌++◌, length, None, arith, lit≤, lit<}
use Rattle.std.specs.Prelude.{◌*◌, ◌<◌, ◌^◌, ◌==◌, if◌then◌else◌, codes, flat_map}
use Rattle.std.proofs.lemmas.List.{length-append}
use Rattle.std.proofs.lemmas.Fmt.{length-decimal-le}
use Rattle.std.specs.Fmt.{decimal}
use Rattle.ssap_items.specs.Canon.{escaped_byte, escaped, attribute, element_with, element, message_word, transaction_word, heads_spelling, encoding_spelling, body_spelling, parameter_spelling, canonical}
use Rattle.ssap_items.specs.declared.heads.MessageType.{MessageType}
use Rattle.ssap_items.specs.declared.heads.MessageType.TheVariants.{Request, Confirm, Indication}
use Rattle.ssap_items.specs.declared.heads.Transaction.{Transaction}
use Rattle.ssap_items.specs.declared.heads.Transaction.TheVariants.{Join, Leave, Insert, Remove, Update, Query, Subscribe, Unsubscribe}
use Rattle.ssap_items.specs.declared.heads.Heads.{Heads}
use Rattle.ssap_items.specs.declared.body.Body.TheVariants.{Text}
use Rattle.ssap_shape.specs.declared.name.Name as name
use Rattle.ssap_shape.specs.declared.status.Status.{Status}
use Rattle.ssap_shape.specs.declared.status.Status as status
use Rattle.ssap_shape.specs.Table.{word}
use Rattle.ssap_shape.specs.Replies.{status_word, heads_with, status_param, number_param, confirm_of, indication_of}
use Rattle.ssap_shape.specs.declared.reply.Indication.TheVariants.{Ended}
use Rattle.ssap_shape.specs.Sound.{IsSoundId, AreSoundHeads}

-- each byte of a text becomes at most six
either : (b : Bool) (x y : List ℕ) → length x ≤ 6 → length y ≤ 6 → length (if b then x else y) ≤ 6
either true x y h k = h
either false x y h k = k

byte_short : (b : ℕ) → length (escaped_byte b) ≤ 6
byte_short b =
    either (b == 38) (codes "&amp;") _ (lit≤ tt) (either (b == 60) (codes "&lt;") _ (lit≤ tt) (either (b == 62) (codes "&gt;") _ (lit≤ tt)
    (either (b == 34) (codes "&quot;") _ (lit≤ tt) (either (b == 9) (codes "&#9;") _ (lit≤ tt) (either (b == 10) (codes "&#10;") _ (lit≤ tt)
    (either (b == 13) (codes "&#13;") (b ∷ []) (lit≤ tt) (lit≤ tt)))))))

pub text_short : (text : List ℕ) → length (escaped text) ≤ 6 * length text
unfolding escaped
text_short [] = lit≤ tt
text_short (b ∷ text) =
    let one = byte_short b in
    let rest = text_short text in
    let both = length-append (escaped_byte b) (flat_map escaped_byte text) in
    omega (arith, one, rest, both)

-- how long joined lists are
joined_four : (a b c d : List ℕ) → length (a ++ b ++ c ++ d) ≡ length a + length b + length c + length d
joined_four a b c d = omega (arith, length-append (a ++ b ++ c) d, length-append (a ++ b) c, length-append a b)

joined_five : (a b c d e : List ℕ) → length (a ++ b ++ c ++ d ++ e) ≡ length a + length b + length c + length d + length e
joined_five a b c d e = omega (arith, length-append (a ++ b ++ c ++ d) e, joined_four a b c d)

joined_eight : (a b c d e f g h : List ℕ)
    → length (a ++ b ++ c ++ d ++ e ++ f ++ g ++ h) ≡ length a + length b + length c + length d + length e + length f + length g + length h
joined_eight a b c d e f g h =
    omega (arith, length-append (a ++ b ++ c ++ d ++ e ++ f ++ g) h, length-append (a ++ b ++ c ++ d ++ e ++ f) g, length-append (a ++ b ++ c ++ d ++ e) f, joined_five a b c d e)

-- how long an element is, and an attribute
with_length : (tag attributes content : List ℕ) → length (element_with tag attributes content) ≡ length tag + length tag + length attributes + length content + 5
unfolding element_with
with_length tag attributes content =
    let all = joined_eight (codes "<") tag attributes (codes ">") content (codes "</") tag (codes ">") in
    omega (arith, all)

element_length : (tag content : List ℕ) → length (element tag content) ≡ length tag + length tag + length content + 5
unfolding element
element_length tag content = let all = with_length tag [] content in omega (arith, all)

attribute_length : (name value : List ℕ) → length (attribute name value) ≡ length name + length (escaped value) + 4
unfolding attribute
attribute_length name value = let all = joined_five (codes " ") name (codes "=\"") (escaped value) (codes "\"") in omega (arith, all)

-- the words of heads
message_short : (message : MessageType) → length (message_word message) ≤ 10
unfolding message_word
message_short Request = lit≤ tt
message_short Confirm = lit≤ tt
message_short Indication = lit≤ tt

transaction_short : (kind : Transaction) → length (transaction_word kind) ≤ 11
unfolding transaction_word
transaction_short Join = lit≤ tt
transaction_short Leave = lit≤ tt
transaction_short Insert = lit≤ tt
transaction_short Remove = lit≤ tt
transaction_short Update = lit≤ tt
transaction_short Query = lit≤ tt
transaction_short Subscribe = lit≤ tt
transaction_short Unsubscribe = lit≤ tt

status_short : (it : Status) → length (status_word it) ≤ 32
unfolding status_word
status_short status.TheVariants.Success = lit≤ tt
status_short status.TheVariants.AccessDenied = lit≤ tt
status_short status.TheVariants.OutOfResources = lit≤ tt
status_short status.TheVariants.NotImplemented = lit≤ tt
status_short status.TheVariants.Request = lit≤ tt
status_short status.TheVariants.Incomplete = lit≤ tt
status_short status.TheVariants.Syntax = lit≤ tt

-- an identifier as it is spelled
id_short : (id : List ℕ) → IsSoundId id → length (escaped id) ≤ 6144
id_short id sound = let short = sound.short in let all = text_short id in omega (arith, short, all)

-- the heads
pub heads_short : (heads : Heads) → AreSoundHeads heads → length (heads_spelling heads) ≤ 18700
unfolding heads_spelling
heads_short heads sound =
    let a = element_length (codes "message_type") (message_word heads.message) in
    let b = element_length (codes "transaction_type") (transaction_word heads.transaction) in
    let c = element_length (codes "transaction_id") (escaped heads.transaction_id) in
    let d = element_length (codes "node_id") (escaped heads.node_id) in
    let e = element_length (codes "space_id") (escaped heads.space_id) in
    let all = joined_five (element (codes "message_type") (message_word heads.message)) (element (codes "transaction_type") (transaction_word heads.transaction))
    (element (codes "transaction_id") (escaped heads.transaction_id)) (element (codes "node_id") (escaped heads.node_id)) (element (codes "space_id") (escaped heads.space_id)) in
    let f = message_short heads.message in
    let g = transaction_short heads.transaction in
    let h = id_short heads.transaction_id sound.transaction_id in
    let i = id_short heads.node_id sound.node_id in
    let j = id_short heads.space_id sound.space_id in
    omega (arith, a, b, c, d, e, all, f, g, h, i, j)

-- the parameter of a text
text_param_length : (name value : List ℕ)
    → length (parameter_spelling (record { name = name; encoding = None; body = Text value })) ≡ length (escaped name) + length (escaped value) + 31
unfolding parameter_spelling encoding_spelling body_spelling
text_param_length name value =
    let a = with_length (codes "parameter") (attribute (codes "name") name ++ []) (escaped value) in
    let b = length-append (attribute (codes "name") name) [] in
    let c = attribute_length (codes "name") name in
    omega (arith, a, b, c)

pub status_param_short : (it : Status) → length (parameter_spelling (status_param it)) ≤ 300
unfolding word
status_param_short it =
    let a = text_param_length (word name.TheVariants.Status) (status_word it) in
    let b = text_short (word name.TheVariants.Status) in
    let c = text_short (status_word it) in
    let d = status_short it in
    omega (arith, a, b, c, d)

-- the confirm of a status alone has at most as many bytes as a message may have
pub confirm_short : (heads : Heads) (it : Status) → AreSoundHeads heads
    → length (canonical (confirm_of (record { heads = heads; status = it; subscription = None; answer = None }))) ≤ 4194304
unfolding canonical
confirm_short heads it sound =
    let a = heads_short (heads_with Confirm heads) (record { transaction_id = sound.transaction_id; node_id = sound.node_id; space_id = sound.space_id }) in
    let b = status_param_short it in
    let c = length-append (parameter_spelling (status_param it)) [] in
    let d = length-append (heads_spelling (heads_with Confirm heads)) (parameter_spelling (status_param it) ++ []) in
    let e = element_length (codes "SSAP_message") (heads_spelling (heads_with Confirm heads) ++ (parameter_spelling (status_param it) ++ [])) in
    omega (arith, a, b, c, d, e)

-- the digits of a number of 64 bits are at most 20
pub digits_short : (number : ℕ) → number < 2 ^ 64 → length (decimal number) ≤ 20
digits_short number h = length-decimal-le 20 number (lit< tt) (lt_trans number (2 ^ 64) (10 ^ 20) h (lit< tt)) h
  where
    lt_trans : (a b c : ℕ) → a < b → b < c → a < c
    lt_trans a b c p q = omega (arith, p, q)

pub number_param_short : (number : ℕ) → number < 2 ^ 64 → length (parameter_spelling (number_param name.TheVariants.SubscriptionId number)) ≤ 300
unfolding word
number_param_short number h =
    let a = text_param_length (word name.TheVariants.SubscriptionId) (decimal number) in
    let b = text_short (word name.TheVariants.SubscriptionId) in
    let c = text_short (decimal number) in
    let d = digits_short number h in
    omega (arith, a, b, c, d)

-- so has the indication of an end
pub ended_short : (heads : Heads) (number : ℕ) (it : Status) → AreSoundHeads heads → number < 2 ^ 64
    → length (canonical (indication_of (Ended heads number it))) ≤ 4194304
unfolding canonical
ended_short heads number it sound few =
    let first = parameter_spelling (number_param name.TheVariants.SubscriptionId number) in
    let second = parameter_spelling (status_param it) in
    let front = heads_spelling (heads_with Indication heads) in
    let a = heads_short (heads_with Indication heads) (record { transaction_id = sound.transaction_id; node_id = sound.node_id; space_id = sound.space_id }) in
    let b = status_param_short it in
    let c = number_param_short number few in
    let d = length-append second [] in
    let e = length-append first (second ++ []) in
    let f = length-append front (first ++ (second ++ [])) in
    let g = element_length (codes "SSAP_message") (front ++ (first ++ (second ++ []))) in
    omega (arith, a, b, c, d, e, f, g)
