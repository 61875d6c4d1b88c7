-- How many rows of the graph a call may read.
use Rattle.std.specs.Prelude.{ℕ, ◌+◌, List, [], ◌∷◌, sum_by, Result, Ok, Err}
use Rattle.m3_terms.specs.declared.pattern.Pattern.{Pattern}
use Rattle.m3_terms.specs.declared.triple.Triple.{Triple}
use Rattle.ssap_shape.specs.declared.request.Wish.{Wish}
use Rattle.ssap_shape.specs.declared.request.Wish.TheVariants.{Templates, Sparql}
use Rattle.ssap_shape.specs.declared.request.Ask.{Ask}
use Rattle.ssap_shape.specs.declared.request.Ask.TheVariants.{Join, Leave, Update, Query, Subscribe, Unsubscribe}
use Rattle.ssap_shape.specs.declared.request.Arrived.{Arrived}
use Rattle.ssap_shape.specs.declared.request.Arrived.TheVariants.{Request, Wrong, NotRequest}
use Rattle.sparql_algebra.specs.declared.algebra.Query.{Query as Said}
use Rattle.sparql_text.specs.declared.fault.ReadFault.{ReadFault}
use Rattle.sparql_read.specs.Reading.{reading_of}
use Rattle.query_eval.specs.Reads.{reads}
use Rattle.session_core.specs.Space.{Space}
use Rattle.session_core.specs.Subscriptions.{Wanted, Fitting, Selected}
use Rattle.session_core.specs.Graph.{fits, graph_after}
use Rattle.triple_index.specs.Graphs.{count_fitting}
use Rattle.session_core.specs.Steps.{step}
use Rattle.session_core.specs.declared.call.Call.{Call}
use Rattle.session_core.specs.declared.call.Call.TheVariants.{NewLink, Deliver, End, Lost, Take}

-- for what a text comes to: the triples that are read for its query's pattern
abbrev pub reading_cost : List Triple → Result Said ReadFault → ℕ
reading_cost graph (Ok query) = reads query.pattern graph
reading_cost graph (Err fault) = 0

-- for a query: the triples that fit a template, counted for each template, or those that are read for its text
abbrev pub query_cost : List Triple → Wish → ℕ
query_cost graph (Templates templates) = count_fitting fits graph templates
query_cost graph (Sparql text) = reading_cost graph (reading_of text)

-- for a standing query that is evaluated over a graph
abbrev pub wanted_cost : List Triple → Wanted → ℕ
wanted_cost graph (Fitting templates) = count_fitting fits graph templates
wanted_cost graph (Selected query) = reads query.pattern graph

-- for an update: the triples that fit a pattern that it removes, counted for each pattern, and what each subscription reads
-- where it is evaluated over the new graph
abbrev pub update_cost : Space → List Pattern → List Pattern → ℕ
update_cost space remove insert = count_fitting fits space.graph remove
    + sum_by (λ subscription. wanted_cost (graph_after space.graph remove insert) subscription.wanted) space.subscriptions

-- for what is asked for
abbrev pub ask_cost : Space → Ask → ℕ
ask_cost space Join = 0
ask_cost space Leave = 0
ask_cost space (Update remove insert confirm) = update_cost space remove insert
ask_cost space (Query wish) = query_cost space.graph wish
ask_cost space (Subscribe wish) = query_cost space.graph wish
ask_cost space (Unsubscribe text) = 0

-- for what arrived: no row but for a request
abbrev pub arrived_cost : Space → Arrived → ℕ
arrived_cost space (Request request) = ask_cost space request.ask
arrived_cost space (Wrong heads status) = 0
arrived_cost space NotRequest = 0

-- for a call: no row but for what is delivered
abbrev pub cost : Space → Call → ℕ
cost space NewLink = 0
cost space (Deliver link arrived) = arrived_cost space arrived
cost space (End link) = 0
cost space (Lost link) = 0
cost space (Take link) = 0

-- for calls, one after another
abbrev pub costs : Space → List Call → ℕ
costs space [] = 0
costs space (call ∷ calls) = cost space call + costs (step space call).space calls
