-- The ranks, of which the first that applies to a message decides.
use Rattle.std.specs.Prelude.{ℕ, Bool, true, false, ◌||◌, ◌&&◌, not, nat_lt, List, length}
use Rattle.std.specs.List.{list_any, count_by}
use Rattle.std.specs.Str.{bytes_eq}
use Rattle.ssap_items.specs.declared.heads.MessageType.{MessageType}
use Rattle.ssap_items.specs.declared.heads.MessageType.TheVariants.{Request, Confirm, Indication}
use Rattle.ssap_items.specs.declared.heads.Transaction.{Transaction}
use Rattle.ssap_items.specs.declared.heads.Heads.{Heads}
use Rattle.ssap_items.specs.declared.envelope.Param.{Param}
use Rattle.ssap_items.specs.declared.envelope.Envelope.{Envelope}
use Rattle.ssap_shape.specs.declared.name.Name.TheVariants.{Query, SubscriptionId}
use Rattle.ssap_shape.specs.Table.{is_named, has, required, is_known}
use Rattle.ssap_shape.specs.Templates.{is_empty, is_text, triples_in, has_bnode, has_long_term}
use Rattle.ssap_shape.specs.Updates.{is_graph_named, is_foreign, is_wrong_graph, is_wrong_flag}
use Rattle.ssap_shape.specs.Queries.{is_wrong_type, is_wrong_query, is_other_type, is_wide_query}

-- the message is a request
abbrev pub is_asking : MessageType → Bool
is_asking Request = true
is_asking Confirm = false
is_asking Indication = false

-- an identifier is empty or longer than 1,024 bytes
abbrev pub is_bad_id : List ℕ → Bool
is_bad_id text = is_empty text || nat_lt 1024 (length text)

-- first rank: the message is no request that can be answered
abbrev pub is_no_request : Heads → Bool
is_no_request heads = not (is_asking heads.message) || is_bad_id heads.transaction_id || is_bad_id heads.node_id || is_bad_id heads.space_id

-- next: a parameter that the request must have is missing
abbrev pub is_incomplete : Envelope → Bool
is_incomplete envelope = list_any (λ name. not (has envelope.params name)) (required envelope.heads.transaction)

-- as many of the parameters have this name
abbrev pub count_of : List ℕ → List Param → ℕ
count_of name params = count_by (λ other. bytes_eq other.name name) params

-- a parameter's name is had by others too
abbrev pub is_doubled : List Param → Param → Bool
is_doubled params param = nat_lt 1 (count_of param.name params)

-- the parameter is a subscription's number that is no text
abbrev pub is_wrong_number : Param → Bool
is_wrong_number param = is_named SubscriptionId param && not (is_text param.body)

-- a parameter is filled wrongly among these parameters
abbrev pub is_misfilled : List Param → Param → Bool
is_misfilled params param = is_wrong_graph param || is_wrong_flag param || is_wrong_type param || is_wrong_query params param || is_wrong_number param

-- a parameter is unknown, doubled or filled wrongly
abbrev pub is_wrong_param : Transaction → List Param → Param → Bool
is_wrong_param transaction params param = not (is_known transaction param) || is_doubled params param || is_misfilled params param

-- next: a parameter is unknown, doubled or filled wrongly
abbrev pub is_wrong : Envelope → Bool
is_wrong envelope = list_any (is_wrong_param envelope.heads.transaction envelope.params) envelope.params

-- the parameter has terms
abbrev pub has_terms : Param → Bool
has_terms param = is_graph_named param || is_named Query param

-- a parameter asks for what isn't built: a graph in another encoding, another language, or a blank node
abbrev pub asks_unbuilt : Param → Bool
asks_unbuilt param = (is_graph_named param && is_foreign param.encoding)
    || is_other_type param
    || (has_terms param && list_any has_bnode (triples_in param.body))

-- next: a parameter asks for what isn't built
abbrev pub is_unbuilt : Envelope → Bool
is_unbuilt envelope = list_any asks_unbuilt envelope.params

-- a parameter asks for too much: a term is too long, or a query has too many templates
abbrev pub asks_too_much : Param → Bool
asks_too_much param = (has_terms param && list_any has_long_term (triples_in param.body)) || is_wide_query param

-- last: a parameter asks for too much
abbrev pub is_too_much : Envelope → Bool
is_too_much envelope = list_any asks_too_much envelope.params
