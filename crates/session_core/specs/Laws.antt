-- What holds of graphs after updates, and of runs.
use Rattle.std.specs.Prelude.{◌≡◌, ◌≢◌, ◌⊎◌, ◌↔◌, ℕ, false, List, [], ◌∷◌, ◌++◌, length, Contains}
use Rattle.std.specs.List.Sorted.{IsStrictlySortedBy}
use Rattle.m3_terms.specs.Order.{text_cmp, triple_cmp}
use Rattle.m3_terms.specs.Pattern.{Fits}
use Rattle.m3_terms.specs.declared.pattern.Pattern.{Pattern}
use Rattle.m3_terms.specs.declared.triple.Triple.{Triple}
use Rattle.link_table.specs.Links.{link_at, pending_of}
use Rattle.ssap_shape.specs.declared.request.Ask.{Ask}
use Rattle.ssap_shape.specs.declared.request.Ask.TheVariants.{Join, Leave, Update, Query, Subscribe, Unsubscribe}
use Rattle.ssap_shape.specs.declared.request.Arrived.{Arrived}
use Rattle.ssap_shape.specs.declared.request.Arrived.TheVariants.{Request, Wrong, NotRequest}
use Rattle.session_core.specs.Graph.{graph_after, triples_of}
use Rattle.session_core.specs.Space.{Space}
use Rattle.session_core.specs.Subscriptions.{Subscription}
use Rattle.session_core.specs.Steps.{delivered}
use Rattle.session_core.specs.Runs.{run, updates, sent, taken, loses}
use Rattle.session_core.specs.declared.call.Call.{Call}
use Rattle.session_core.specs.declared.call.Call.TheVariants.{NewLink, Deliver, End, Lost, Take}

-- after an update a graph has the triples that were inserted, and those that it had and that fit no pattern that was removed
abbrev pub UpdatesAreExact : Type 0
UpdatesAreExact = (graph : List Triple) (remove insert : List Pattern) (triple : Triple)
    → Contains (graph_after graph remove insert) triple
    ↔ (Contains (triples_of insert) triple ⊎ (Contains graph triple × ((pattern : Pattern) → Contains remove pattern → Fits pattern triple → ⊥)))

-- and they are in order, each once, where they were so
abbrev pub UpdatesKeepOrder : Type 0
UpdatesKeepOrder = (graph : List Triple) (remove insert : List Pattern) → IsStrictlySortedBy triple_cmp graph → IsStrictlySortedBy triple_cmp (graph_after graph remove insert)

-- no call changes the name of a space
abbrev pub NameStays : Type 0
NameStays = (name : List ℕ) (history : List Call) → (run name history).name ≡ name

-- the nodes of a run are in order, each once
abbrev pub NodesInOrder : Type 0
NodesInOrder = (name : List ℕ) (history : List Call) → IsStrictlySortedBy text_cmp (run name history).joined

-- the triples of a run are in order, each once
abbrev pub TriplesInOrder : Type 0
TriplesInOrder = (name : List ℕ) (history : List Call) → IsStrictlySortedBy triple_cmp (run name history).graph

-- a run counts its accepted updates
abbrev pub UpdatesCounted : Type 0
UpdatesCounted = (name : List ℕ) (history : List Call) → (run name history).updates ≡ length (updates name history)

-- the graph after what is asked for was granted
abbrev pub graph_by_ask : List Triple → Ask → List Triple
graph_by_ask graph Join = graph
graph_by_ask graph Leave = graph
graph_by_ask graph (Update remove insert confirm) = graph_after graph remove insert
graph_by_ask graph (Query wish) = graph
graph_by_ask graph (Subscribe wish) = graph
graph_by_ask graph (Unsubscribe text) = graph

-- the graph after what arrived was accepted
abbrev pub graph_by_arrived : List Triple → Arrived → List Triple
graph_by_arrived graph (Request request) = graph_by_ask graph request.ask
graph_by_arrived graph (Wrong heads status) = graph
graph_by_arrived graph NotRequest = graph

-- the graph after a call that was accepted
abbrev pub graph_by_call : List Triple → Call → List Triple
graph_by_call graph NewLink = graph
graph_by_call graph (Deliver link arrived) = graph_by_arrived graph arrived
graph_by_call graph (End link) = graph
graph_by_call graph (Lost link) = graph
graph_by_call graph (Take link) = graph

-- the graph after updates, one after another
abbrev pub graph_by : List Triple → List Call → List Triple
graph_by graph [] = graph
graph_by graph (call ∷ calls) = graph_by (graph_by_call graph call) calls

-- the graph of a run is that of its accepted updates, one after another, and no call but those changes it
abbrev pub GraphOfUpdates : Type 0
GraphOfUpdates = (name : List ℕ) (history : List Call) → (run name history).graph ≡ graph_by [] (updates name history)

-- what was sent on a link that no call loses was taken from it, in the same order, and the rest waits
abbrev pub SentTakenWaiting : Type 0
SentTakenWaiting = (name : List ℕ) (history : List Call) (number : ℕ) → loses history number ≡ false
    → sent name history number ≡ taken name history number ++ pending_of (run name history).links number

-- on every link, lost or not, what was taken is a prefix of what was sent
abbrev pub TakenOfSent : Type 0
TakenOfSent = (name : List ℕ) (history : List Call) (number : ℕ) → (rest : List (List ℕ)) × (sent name history number ≡ taken name history number ++ rest)

-- what comes on a link changes no other link but those of subscriptions
abbrev pub OtherLinksStay : Type 0
OtherLinksStay = (space : Space) (link : ℕ) (arrived : Arrived) (other : ℕ) → other ≢ link
    → ((subscription : Subscription) → Contains space.subscriptions subscription → subscription.link ≢ other)
    → link_at (delivered space link arrived).links other ≡ link_at space.links other
