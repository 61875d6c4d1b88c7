-- Standing queries: what each asks for, what it is answered over a graph, and the indications that it is sent.
use Rattle.std.specs.Prelude.{ℕ, ◌+◌, ◌==◌, Bool, ◌&&◌, List, length, map, Option, Some, None, Result, Ok, Err}
use Rattle.std.specs.List.{find}
use Rattle.std.specs.Fmt.{decimal}
use Rattle.std.specs.Str.{bytes_eq}
use Rattle.m3_terms.specs.declared.term.Term.{Term}
use Rattle.m3_terms.specs.declared.triple.Triple.{Triple}
use Rattle.m3_terms.specs.declared.pattern.Pattern.{Pattern}
use Rattle.ssap_items.specs.Canon.{canonical}
use Rattle.ssap_items.specs.declared.heads.MessageType as message
use Rattle.ssap_items.specs.declared.heads.Transaction.{Transaction}
use Rattle.ssap_items.specs.declared.heads.Transaction as transaction
use Rattle.ssap_items.specs.declared.heads.Heads.{Heads}
use Rattle.answer_bodies.specs.declared.answer.Answer.{Answer}
use Rattle.answer_bodies.specs.declared.answer.Answer.TheVariants.{Triples, Table}
use Rattle.answer_bodies.specs.declared.answer.Difference.{Difference}
use Rattle.sparql_algebra.specs.Listed.{rows_of, width_of as pattern_width}
use Rattle.sparql_algebra.specs.Constants.{constants_of}
use Rattle.sparql_algebra.specs.declared.algebra.Query.{Query}
use Rattle.sparql_text.specs.declared.fault.ReadFault.{ReadFault}
use Rattle.sparql_read.specs.Reading.{reading_of}
use Rattle.ssap_shape.specs.Replies.{indication_of}
use Rattle.ssap_shape.specs.declared.reply.Indication.{Indication}
use Rattle.ssap_shape.specs.declared.reply.Indication.TheVariants.{Changes, Ended}
use Rattle.ssap_shape.specs.declared.request.Wish.{Wish}
use Rattle.ssap_shape.specs.declared.request.Wish.TheVariants.{Templates, Sparql}
use Rattle.ssap_shape.specs.declared.status.Status.{Status}
use Rattle.session_core.specs.Answers.{fitting, column_names}
use Rattle.session_core.specs.Graph.{terms_of}

-- what a standing query asks for: the triples that fit one of some templates, or the answer to a query in SPARQL
pub data Wanted : Type 0 where
  Fitting : (templates : List Pattern) → Wanted
  Selected : (query : Query) → Wanted

-- what a text asks for, where it says a query
abbrev pub wanted_of : Result Query ReadFault → Option Wanted
wanted_of (Ok query) = Some (Selected query)
wanted_of (Err fault) = None

-- what a wish asks for, where it says a query
abbrev pub wanted_by : Wish → Option Wanted
wanted_by (Templates templates) = Some (Fitting templates)
wanted_by (Sparql text) = wanted_of (reading_of text)

-- the answer over a graph
abbrev pub answer_over : List Triple → Wanted → Answer
answer_over graph (Fitting templates) = Triples (fitting graph templates)
answer_over graph (Selected query) = Table (column_names query) (rows_of query graph)

-- the width over a graph
abbrev pub width_over : List Triple → Wanted → ℕ
width_over graph (Fitting templates) = length (fitting graph templates)
width_over graph (Selected query) = pattern_width query.pattern graph

-- the terms that are named: those of the templates, or those of the query's patterns and conditions
abbrev pub constants_in : Wanted → List Term
constants_in (Fitting templates) = terms_of templates
constants_in (Selected query) = constants_of query.pattern

-- a subscription: its number, its link, its node, the transaction that made it, what it asks for, and the number of the
-- last change that was told, 0 before the first
pub record Subscription : Type 0 where
  pub number : ℕ
  pub link : ℕ
  pub node : List ℕ
  pub transaction : List ℕ
  pub wanted : Wanted
  pub sequence : ℕ

-- a subscription has this number
abbrev pub has_number : ℕ → Subscription → Bool
has_number number subscription = subscription.number == number

-- the numbers of subscriptions
abbrev pub numbers_of : List Subscription → List ℕ
numbers_of subscriptions = map (λ subscription. subscription.number) subscriptions

-- the subscription of a number
abbrev pub subscription_at : List Subscription → ℕ → Option Subscription
subscription_at subscriptions number = find (has_number number) subscriptions

-- a subscription is of this node
abbrev pub is_of : List ℕ → Subscription → Bool
is_of node subscription = bytes_eq subscription.node node

-- a text names a subscription of a node: it is its number in decimal
abbrev pub is_named : List ℕ → List ℕ → Subscription → Bool
is_named node text subscription = is_of node subscription && bytes_eq (decimal subscription.number) text

-- the heads of an indication: the node and the transaction are those of the subscription
abbrev pub heads_for : List ℕ → Subscription → Transaction → Heads
heads_for space subscription kind = record {
  message = message.TheVariants.Indication;
  transaction = kind;
  transaction_id = subscription.transaction;
  node_id = subscription.node;
  space_id = space;
}

-- an indication as it is sent
abbrev pub indication_bytes : Indication → List ℕ
indication_bytes indication = canonical (indication_of indication)

-- the indication that a subscription ended, with this status
abbrev pub ended_by : List ℕ → Subscription → Status → Indication
ended_by space subscription status = Ended (heads_for space subscription transaction.TheVariants.Unsubscribe) subscription.number status

-- the indication that its answer changed, under the next number
abbrev pub changed_by : List ℕ → Subscription → Difference → Indication
changed_by space subscription difference =
    Changes (heads_for space subscription transaction.TheVariants.Subscribe) subscription.number (subscription.sequence + 1) difference
