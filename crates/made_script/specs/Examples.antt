-- Entries of a generated script, worked out.
use native.Mathlib.Omega.{arith}
use Rattle.std.specs.Prelude.{◌≡◌, true, [], ◌∷◌, codes, Err, refl}
use Rattle.std.specs.Fmt.{digits}
use Rattle.m3_terms.specs.declared.term.Term.TheVariants.{Uri, Literal}
use Rattle.m3_terms.specs.declared.pattern.Slot.TheVariants.{Any, Is}
use Rattle.ssap_items.specs.declared.heads.Transaction.TheVariants as kind
use Rattle.ssap_shape.specs.declared.request.Wish.TheVariants.{Templates, Sparql}
use Rattle.ssap_shape.specs.declared.request.Ask.TheVariants.{Join, Update, Subscribe}
use Rattle.sib_script.specs.declared.entry.Entry.TheVariants.{NewLink}
use Rattle.ssap_items.specs.Canon.{canonical, element, element_with, heads_spelling, message_word, transaction_word, escaped, parameter_spelling, attribute, encoding_spelling, body_spelling, triples_spelling, triple_spelling, typed_term, kind_word}
use Rattle.ssap_shape.specs.Asking.{templates_word, sparql_word, wildcard_word}
use Rattle.ssap_shape.specs.Table.{word}
use Rattle.ssap_encode.specs.declared.fault.EncodeFault.TheVariants.{WriteFault, NoMemory}
use Rattle.made_script.specs.Making.{HasMakingCause}
use Rattle.made_script.specs.Made.{entry_at, request_at, made_request, optional_text, message_at, made_node, made_space}

-- the first entry opens the link
first_entry : entry_at 0 ≡ NewLink
first_entry = refl

-- the second is the JOIN
second_entry : request_at 1 ≡ made_request kind.Join 1 Join
second_entry = refl

-- the subscription with id 6 wishes for the triples with the predicate `p4`
fifth_subscription : request_at 6 ≡ made_request kind.Subscribe 6 (Subscribe (Templates (record { subject = Any; predicate = Is (Uri (codes "p4")); object = Any } ∷ [])))
unfolding digits
fifth_subscription = refl

-- the last subscription, with id 51, asks in SPARQL for the predicates `p4` and `p0`
last_subscription : request_at 51 ≡ made_request kind.Subscribe 51 (Subscribe (Sparql (codes "SELECT DISTINCT ?s ?o ?z { ?s <p4> ?o OPTIONAL { ?s <p0> ?z } }")))
unfolding digits optional_text
last_subscription = refl

-- the update with id 75 has the number 23: what was known of `s3` goes, and `s23` has `o1` by `p3`
update_23 : request_at 75 ≡ made_request kind.Update 75 (Update
    (record { subject = Is (Uri (codes "s3")); predicate = Any; object = Any } ∷ [])
    (record { subject = Is (Uri (codes "s23")); predicate = Is (Uri (codes "p3")); object = Is (Literal (codes "o1")) } ∷ [])
    true)
unfolding digits
update_23 = refl

-- the JOIN, byte by byte
join_bytes : message_at 1 ≡ codes "<SSAP_message><message_type>REQUEST</message_type><transaction_type>JOIN</transaction_type><transaction_id>1</transaction_id><node_id>w</node_id><space_id>trial</space_id></SSAP_message>"
unfolding message_at canonical element element_with heads_spelling message_word transaction_word escaped digits made_node made_space
join_bytes = refl

-- the second subscription, whose query in SPARQL is written with references
subscription_bytes : message_at 3 ≡ codes "<SSAP_message><message_type>REQUEST</message_type><transaction_type>SUBSCRIBE</transaction_type><transaction_id>3</transaction_id><node_id>w</node_id><space_id>trial</space_id><parameter name=\"type\">sparql</parameter><parameter name=\"query\">SELECT DISTINCT ?s ?o ?z { ?s &lt;p1&gt; ?o OPTIONAL { ?s &lt;p2&gt; ?z } }</parameter></SSAP_message>"
unfolding message_at canonical element element_with heads_spelling message_word transaction_word escaped digits made_node made_space optional_text parameter_spelling attribute encoding_spelling body_spelling word sparql_word
subscription_bytes = refl

-- the first update
update_bytes : message_at 52 ≡ codes "<SSAP_message><message_type>REQUEST</message_type><transaction_type>UPDATE</transaction_type><transaction_id>52</transaction_id><node_id>w</node_id><space_id>trial</space_id><parameter name=\"insert_graph\" encoding=\"RDF-M3\"><triple_list><triple><subject type=\"uri\">s0</subject><predicate>p0</predicate><object type=\"literal\">o0</object></triple></triple_list></parameter><parameter name=\"remove_graph\" encoding=\"RDF-M3\"><triple_list><triple><subject type=\"uri\">s20</subject><predicate>sib:any</predicate><object type=\"uri\">sib:any</object></triple></triple_list></parameter></SSAP_message>"
unfolding message_at canonical element element_with heads_spelling message_word transaction_word escaped digits made_node made_space parameter_spelling attribute encoding_spelling body_spelling word templates_word wildcard_word triples_spelling triple_spelling typed_term kind_word
update_bytes = refl

-- a sink whose count of faults rose from 4 to 5 failed
count_rose : HasMakingCause 4 5 (Err WriteFault)
count_rose = (omega arith, omega arith)

-- out of memory leaves the count
count_stays : HasMakingCause 4 4 (Err NoMemory)
count_stays = refl
