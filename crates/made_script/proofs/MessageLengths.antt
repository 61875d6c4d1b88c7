-- The requests of a generated script have at most 4,096 bytes.
use Rattle.std.proofs.Common.{arith, ℕ, ◌+◌, ◌-◌, ◌%◌, ◌<◌, ◌≤◌, ◌^◌, ◌==◌, nat_lt, Bool, true, false, if◌then◌else◌, List, [], ◌∷◌, ◌++◌, length, length-append, flat_map, codes}
use Rattle.std.specs.Fmt.{decimal}
use Rattle.m3_terms.specs.declared.pattern.Pattern.{Pattern}
use Rattle.ssap_items.specs.Canon.{attribute, triple_spelling, triples_spelling, heads_spelling, body_spelling, encoding_spelling, parameter_spelling, canonical}
use Rattle.ssap_items.specs.declared.body.Body as body
use Rattle.ssap_items.specs.declared.envelope.Param.{Param}
use Rattle.ssap_items.specs.declared.heads.Transaction.{Transaction}
use Rattle.ssap_items.specs.declared.heads.Transaction.TheVariants as kind
use Rattle.ssap_shape.specs.Asking.{templates_word, sparql_word, wildcard_word, slot_term, template_triple, templates_body, graph_param, request_of}
use Rattle.ssap_shape.specs.Replies.{sent_param}
use Rattle.ssap_shape.specs.Table.{word}
use Rattle.ssap_shape.specs.declared.name.Name as name
use Rattle.ssap_shape.specs.declared.request.Wish.{Wish}
use Rattle.ssap_shape.specs.declared.request.Wish.TheVariants.{Templates, Sparql}
use Rattle.ssap_shape.specs.declared.request.Ask.TheVariants.{Join, Subscribe}
use Rattle.ssap_shape.specs.declared.request.Request.{Request}
use Rattle.sib_script.specs.Script.{IsEntry}
use Rattle.sib_script.specs.declared.entry.Entry.{Entry}
use Rattle.sib_script.specs.declared.entry.Entry.TheVariants.{NewLink, Bytes}
use Rattle.sib_script.proofs.WrittenLines.{number_short}
use Rattle.made_script.specs.Made.{made_node, made_space, made_heads, made_request, with_predicate, with_subject, one_triple, optional_text, wish_at, update_at, request_at, message_at, entry_at}
use Rattle.made_script.proofs.SpellingLengths.{text_short, heads_short, plain_long, triple_short, attribute_short, param_short, whole_short}

-- a request's message is short
abbrev pub IsShort : Request → Type 0
IsShort request = length (canonical (request_of request)) ≤ 4096

-- the terms of a template are short as a triple spells them
pub record HasShortTerms (template : Pattern) : Type 0 where
  pub subject : length (slot_term template.subject).text ≤ 24
  pub predicate : length (slot_term template.predicate).text ≤ 24
  pub object : length (slot_term template.object).text ≤ 24

wildcard_short : length wildcard_word ≤ 24
unfolding wildcard_word
wildcard_short = omega arith

-- a letter and a number
lettered_short : (letter number : ℕ) → number < 2 ^ 64 → length (letter ∷ decimal number) ≤ 24
lettered_short letter number small = omega (arith, number_short number small)

predicate_terms : (number : ℕ) → HasShortTerms (with_predicate number)
predicate_terms number = record {
  subject = wildcard_short;
  predicate = lettered_short 112 (number % 5) (omega arith);
  object = wildcard_short;
}

subject_terms : (number : ℕ) → HasShortTerms (with_subject number)
subject_terms number = record {
  subject = lettered_short 115 (number % 40) (omega arith);
  predicate = wildcard_short;
  object = wildcard_short;
}

triple_terms : (number : ℕ) → HasShortTerms (one_triple number)
triple_terms number = record {
  subject = lettered_short 115 (number % 40) (omega arith);
  predicate = lettered_short 112 (number % 5) (omega arith);
  object = lettered_short 111 (number % 11) (omega arith);
}

-- the body of one template
template_short : (template : Pattern) → HasShortTerms template → length (body_spelling (templates_body (template ∷ []))) ≤ 900
unfolding body_spelling triples_spelling
template_short template short =
    let triple = triple_spelling (template_triple template) in
    omega (
      arith,
      plain_long (codes "triple_list") (triple ++ []),
      length-append triple [],
      triple_short (template_triple template) short.subject short.predicate short.object,
    )

-- the parameter of a graph of one template
graph_short : (which : name.Name) (template : Pattern) → length (word which) ≤ 16 → HasShortTerms template
    → length (parameter_spelling (graph_param which (template ∷ []))) ≤ 1200
unfolding parameter_spelling encoding_spelling templates_word
graph_short which template named short =
    param_short (word which) (attribute (codes "encoding") (codes "RDF-M3")) _ named
    (omega (arith, attribute_short (codes "encoding") (codes "RDF-M3"))) (template_short template short)

-- a parameter without an encoding
sent_short : (which : name.Name) (content : body.Body) → length (word which) ≤ 16 → length (body_spelling content) ≤ 900
    → length (parameter_spelling (sent_param which content)) ≤ 1200
unfolding parameter_spelling encoding_spelling
sent_short which content named short = param_short (word which) [] _ named (omega arith) short

-- a text as the content of a parameter
text_content : (text : List ℕ) → length text ≤ 150 → length (body_spelling (body.TheVariants.Text text)) ≤ 900
unfolding body_spelling
text_content text short = omega (arith, text_short text)

-- two parameters
two_params : (first second : Param) → length (parameter_spelling first) ≤ 1200 → length (parameter_spelling second) ≤ 1200
    → length (flat_map parameter_spelling (first ∷ second ∷ [])) ≤ 2400
two_params first second p q = omega (
  arith,
  length-append (parameter_spelling first) (parameter_spelling second ++ []),
  length-append (parameter_spelling second) [],
)

-- the heads of a request
made_heads_short : (transaction : Transaction) (position : ℕ) → position < 2 ^ 64 → length (heads_spelling (made_heads transaction position)) ≤ 800
unfolding made_node made_space
made_heads_short transaction position small =
    heads_short (made_heads transaction position) (omega (arith, number_short position small)) (omega arith) (omega arith)

-- the JOIN
join_short : (position : ℕ) → position < 2 ^ 64 → IsShort (made_request kind.Join position Join)
unfolding canonical
join_short position small = whole_short _ [] (made_heads_short kind.Join position small) (omega arith)

name_short : (which : name.Name) → length (word which) ≤ 16
unfolding word
name_short name.TheVariants.Credentials = omega arith
name_short name.TheVariants.InsertGraph = omega arith
name_short name.TheVariants.RemoveGraph = omega arith
name_short name.TheVariants.Confirm = omega arith
name_short name.TheVariants.QueryType = omega arith
name_short name.TheVariants.Query = omega arith
name_short name.TheVariants.SubscriptionId = omega arith
name_short name.TheVariants.Status = omega arith
name_short name.TheVariants.Results = omega arith
name_short name.TheVariants.Sequence = omega arith
name_short name.TheVariants.NewResults = omega arith
name_short name.TheVariants.ObsoleteResults = omega arith

-- a SUBSCRIBE for one template
templates_short : (position : ℕ) (template : Pattern) → position < 2 ^ 64 → HasShortTerms template
    → IsShort (made_request kind.Subscribe position (Subscribe (Templates (template ∷ []))))
unfolding canonical templates_word
templates_short position template small short =
    whole_short _ _ (made_heads_short kind.Subscribe position small) (two_params _ _
    (sent_short name.TheVariants.QueryType (body.TheVariants.Text templates_word) (name_short name.TheVariants.QueryType) (text_content templates_word (omega arith)))
    (sent_short name.TheVariants.Query (templates_body (template ∷ [])) (name_short name.TheVariants.Query) (template_short template short)))

-- a SUBSCRIBE for a query in SPARQL
sparql_short : (position : ℕ) (text : List ℕ) → position < 2 ^ 64 → length text ≤ 150
    → IsShort (made_request kind.Subscribe position (Subscribe (Sparql text)))
unfolding canonical sparql_word
sparql_short position text small short =
    whole_short _ _ (made_heads_short kind.Subscribe position small) (two_params _ _
    (sent_short name.TheVariants.QueryType (body.TheVariants.Text sparql_word) (name_short name.TheVariants.QueryType) (text_content sparql_word (omega arith)))
    (sent_short name.TheVariants.Query (body.TheVariants.Text text) (name_short name.TheVariants.Query) (text_content text short)))

-- the text of such a query
optional_short : (number : ℕ) → length (optional_text number) ≤ 150
unfolding optional_text
optional_short number =
    let start = codes "SELECT DISTINCT ?s ?o ?z { ?s <p" in
    let middle = codes "> ?o OPTIONAL { ?s <p" in
    let first = decimal (number % 5) in
    let next = decimal ((number + 1) % 5) in
    omega (
      arith,
      number_short (number % 5) (omega arith),
      number_short ((number + 1) % 5) (omega arith),
      length-append start first,
      length-append (start ++ first) middle,
      length-append (start ++ first ++ middle) next,
      length-append (start ++ first ++ middle ++ next) (codes "> ?z } }"),
    )

-- a SUBSCRIBE for either
either_wish : (c : Bool) (position : ℕ) (first second : Wish) → IsShort (made_request kind.Subscribe position (Subscribe first))
    → IsShort (made_request kind.Subscribe position (Subscribe second)) → IsShort (made_request kind.Subscribe position (Subscribe (if c then first else second)))
either_wish true position first second p q = p
either_wish false position first second p q = q

wish_short : (position number : ℕ) → position < 2 ^ 64 → IsShort (made_request kind.Subscribe position (Subscribe (wish_at number)))
wish_short position number small =
    either_wish (number % 2 == 0) position (Templates (with_predicate number ∷ [])) (Sparql (optional_text number))
    (templates_short position (with_predicate number) small (predicate_terms number)) (sparql_short position (optional_text number) small (optional_short number))

-- an UPDATE
update_short : (position number : ℕ) → position < 2 ^ 64 → IsShort (made_request kind.Update position (update_at number))
unfolding canonical
update_short position number small =
    whole_short _ _ (made_heads_short kind.Update position small) (two_params _ _
    (graph_short name.TheVariants.InsertGraph (one_triple number) (name_short name.TheVariants.InsertGraph) (triple_terms number))
    (graph_short name.TheVariants.RemoveGraph (with_subject (number + 20)) (name_short name.TheVariants.RemoveGraph) (subject_terms (number + 20))))

either_request : (c : Bool) (first second : Request) → IsShort first → IsShort second → IsShort (if c then first else second)
either_request true first second p q = p
either_request false first second p q = q

-- the request at each position
pub request_short : (position : ℕ) → position < 2 ^ 64 → IsShort (request_at position)
request_short position small =
    either_request (nat_lt position 2) _ _ (join_short position small)
    (either_request (nat_lt position 52) _ _ (wish_short position (position - 2) small) (update_short position (position - 52) small))

-- so each message fits into a delivery
pub message_fits : (position : ℕ) → position < 2 ^ 64 → length (message_at position) ≤ 65536
unfolding message_at
message_fits position small = omega (arith, request_short position small)

either_entry : (c : Bool) (first second : Entry) → IsEntry first → IsEntry second → IsEntry (if c then first else second)
either_entry true first second p q = p
either_entry false first second p q = q

-- and each entry may stand in a script
pub entry_allowed : (position : ℕ) → position < 2 ^ 64 → IsEntry (entry_at position)
entry_allowed position small =
    either_entry (position == 0) NewLink (Bytes 1 (message_at position)) tt ((omega arith, omega arith), message_fits position small)
