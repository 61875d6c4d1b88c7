-- What a call does to the graph, to the nodes and to the count of updates.
use Rattle.std.proofs.Common.{◌≡◌, ℕ, ◌+◌, ◌≤◌, Bool, true, false, ◌&&◌, not, List, [], ◌∷◌, ◌++◌, length, Option, Some, None, refl, sym, ap, subst, ◌∙◌, arith, if◌then◌else◌, length-append}
use Rattle.std.proofs.lemmas.List.Kept.{IsStrictlySortedBy-filter}
use Rattle.std.specs.List.Sorted.{IsStrictlySortedBy}
use Rattle.std.specs.Str.{bytes_eq}
use Rattle.m3_terms.specs.InsertedLaws.{inserted_sorted}
use Rattle.m3_terms.specs.Order.{text_cmp, triple_cmp}
use Rattle.m3_terms.specs.OrderLaws.{text_cmp_total}
use Rattle.m3_terms.specs.declared.triple.Triple.{Triple}
use Rattle.link_table.specs.Links.{Link, new_link, is_open, is_full, state_of, link_at, changed, ended, lost, taken}
use Rattle.link_table.specs.declared.state.LinkState.{LinkState}
use Rattle.link_table.specs.declared.state.LinkState.TheVariants.{Never, Open, Ended, Overrun, Gone}
use Rattle.ssap_items.specs.declared.heads.Heads.{Heads}
use Rattle.ssap_shape.specs.declared.request.Ask.{Ask}
use Rattle.ssap_shape.specs.declared.request.Ask.TheVariants.{Join, Leave, Update, Query, Subscribe, Unsubscribe}
use Rattle.ssap_shape.specs.declared.request.Arrived.{Arrived}
use Rattle.ssap_shape.specs.declared.request.Arrived.TheVariants.{Request, Wrong, NotRequest}
use Rattle.session_core.specs.Space.{Space, empty_space}
use Rattle.session_core.specs.Subscriptions.{Wanted, wanted_by}
use Rattle.session_core.specs.Requests.{verdict, is_success, granted, subscribed, done_with, due_with}
use Rattle.session_core.specs.Queues.{with_links, queue}
use Rattle.session_core.specs.Following.{follow_with}
use Rattle.session_core.specs.Steps.{Step, delivered, on_open, on_opened, take_step, taken_from, step}
use Rattle.session_core.specs.Runs.{run_from, is_update, accepts, is_accepted, updates, updates_from}
use Rattle.session_core.specs.Laws.{graph_by_ask, graph_by_arrived, graph_by_call, graph_by, NameStays, NodesInOrder, TriplesInOrder, UpdatesCounted, GraphOfUpdates}
use Rattle.session_core.specs.declared.call.Call.{Call}
use Rattle.session_core.specs.declared.call.Call.TheVariants as call
use Rattle.session_core.proofs.Fitting.{updates_keep_order}
use Rattle.session_core.proofs.NumbersCountOnce.{nil_ordered}
use Rattle.session_core.proofs.Members.{text_one, none_joined}
use Rattle.session_core.proofs.WhatFollowsHolds.{HoldsOfTelling, queue_holds, follow_holds}

-- the updates grew by so many, the graph is this, the name stays, and the nodes stay in order
pub record Grows (old new : Space) (count : ℕ) (triples : List Triple) : Type 0 where
  pub name : new.name ≡ old.name
  pub updates : new.updates ≡ old.updates + count
  pub graph : new.graph ≡ triples
  pub joined : IsStrictlySortedBy text_cmp old.joined → IsStrictlySortedBy text_cmp new.joined

-- a space that changes in its links alone
linked : (space : Space) (links : List Link) → Grows space (with_links space links) 0 space.graph
linked space links = record { name = refl; updates = omega arith; graph = refl; joined = λ s. s }

-- a space is as it was but for its links and its subscriptions
pub record IsAlike (old new : Space) : Type 0 where
  pub name : new.name ≡ old.name
  pub joined : new.joined ≡ old.joined
  pub graph : new.graph ≡ old.graph
  pub updates : new.updates ≡ old.updates
  pub numbered : new.numbered ≡ old.numbered

-- it is so whatever follows from a request
pub alike_holds : HoldsOfTelling IsAlike
alike_holds = record {
  sending = record {
    same = λ space. record { name = refl; joined = refl; graph = refl; updates = refl; numbered = refl };
    chain = λ a b c (p : IsAlike a b) (q : IsAlike b c). record {
      name = q.name ∙ p.name;
      joined = q.joined ∙ p.joined;
      graph = q.graph ∙ p.graph;
      updates = q.updates ∙ p.updates;
      numbered = q.numbered ∙ p.numbered;
    };
    sends = λ space link message. record { name = refl; joined = refl; graph = refl; updates = refl; numbered = refl };
  };
  drops = λ space number. record { name = refl; joined = refl; graph = refl; updates = refl; numbered = refl };
  counts = λ space number. record { name = refl; joined = refl; graph = refl; updates = refl; numbered = refl };
}

-- what grew is no less where links and subscriptions change
grows_on : (old new after : Space) (count : ℕ) (graph : List Triple) → IsAlike new after → Grows old new count graph → Grows old after count graph
grows_on old new after count graph a g = record {
  name = a.name ∙ g.name;
  updates = a.updates ∙ g.updates;
  graph = a.graph ∙ g.graph;
  joined = λ s. subst (IsStrictlySortedBy text_cmp) (sym a.joined) (g.joined s);
}

-- the accepted calls of one
abbrev accepted : Bool → Call → List Call
accepted granted one = if granted then one ∷ [] else []

-- a space grew by the calls that were accepted
abbrev pub GrowsBy : Space → Space → List Call → Type 0
GrowsBy old new calls = Grows old new (length calls) (graph_by old.graph calls)

still : (space : Space) → GrowsBy space space []
still space = record { name = refl; updates = omega arith; graph = refl; joined = λ s. s }

-- a subscription leaves what grows
subscribed_by : (space : Space) (link : ℕ) (heads : Heads) (wanted : Option Wanted) → GrowsBy space (subscribed space link heads wanted) []
subscribed_by space link heads None = still space
subscribed_by space link heads (Some wanted) = record { name = refl; updates = omega arith; graph = refl; joined = λ s. s }

-- what a request that is granted does
granted_by : (space : Space) (link : ℕ) (heads : Heads) (ask : Ask)
    → GrowsBy space (granted space link heads ask) (accepted (is_update ask && true) (call.Deliver link (Request (record { heads = heads; ask = ask }))))
granted_by space link heads Join = record {
  name = refl;
  updates = omega arith;
  graph = refl;
  joined = inserted_sorted text_cmp_total text_one heads.node_id space.joined;
}
granted_by space link heads Leave = record {
  name = refl;
  updates = omega arith;
  graph = refl;
  joined = IsStrictlySortedBy-filter text_cmp (λ other. not (bytes_eq other heads.node_id)) space.joined;
}
granted_by space link heads (Update remove insert confirm) = record { name = refl; updates = refl; graph = refl; joined = λ s. s }
granted_by space link heads (Query wish) = still space
granted_by space link heads (Subscribe wish) = subscribed_by space link heads (wanted_by wish)
granted_by space link heads (Unsubscribe text) = record { name = refl; updates = omega arith; graph = refl; joined = λ s. s }

-- what is refused is accepted by no rank
refused_by : (space : Space) (one : Call) (update : Bool) → GrowsBy space space (accepted (update && false) one)
refused_by space one true = still space
refused_by space one false = still space

-- what a request does, by whether it is granted
pub grant_by : (space : Space) (link : ℕ) (heads : Heads) (ask : Ask) (success : Bool)
    → GrowsBy space (if success then granted space link heads ask else space)
    (accepted (is_update ask && success) (call.Deliver link (Request (record { heads = heads; ask = ask }))))
grant_by space link heads ask true = granted_by space link heads ask
grant_by space link heads ask false = refused_by space (call.Deliver link (Request (record { heads = heads; ask = ask }))) (is_update ask)

-- what arrives on an open link
arrived_by : (space : Space) (link : ℕ) (arrived : Arrived) → GrowsBy space (delivered space link arrived) (accepted (accepts space arrived) (call.Deliver link arrived))
arrived_by space link (Request request) =
    let status = verdict space request in
    let done = done_with space link request status in
    let queued = queue done link (due_with space request status) in
    grows_on space queued (follow_with space request status queued) _ _ (follow_holds IsAlike alike_holds space request status queued)
    (grows_on space done queued _ _ (queue_holds IsAlike alike_holds.sending done link (due_with space request status))
    (grant_by space link request.heads request.ask (is_success status)))
arrived_by space link (Wrong heads status) = linked space _
arrived_by space link NotRequest = linked space _

-- what is delivered, by the state of its link
deliver_by : (state : LinkState) (space new : Space) (granted : Bool) (one : Call) → GrowsBy space new (accepted granted one)
    → GrowsBy space (on_open state space new).space (accepted (is_open state && granted) one)
deliver_by Never space new granted one g = still space
deliver_by Open space new granted one g = g
deliver_by Ended space new granted one g = still space
deliver_by Overrun space new granted one g = still space
deliver_by Gone space new granted one g = still space

-- what changes links alone, by the state of the link
on_open_by : (state : LinkState) (space new : Space) → GrowsBy space new [] → GrowsBy space (on_open state space new).space []
on_open_by Never space new g = still space
on_open_by Open space new g = g
on_open_by Ended space new g = still space
on_open_by Overrun space new g = still space
on_open_by Gone space new g = still space

on_opened_by : (state : LinkState) (space new : Space) → GrowsBy space new [] → GrowsBy space (on_opened state space new).space []
on_opened_by Never space new g = still space
on_opened_by Open space new g = g
on_opened_by Ended space new g = g
on_opened_by Overrun space new g = g
on_opened_by Gone space new g = g

open_by : (full : Bool) (space : Space) (refused opened : Step) → refused.space ≡ space → GrowsBy space opened.space []
    → GrowsBy space (if full then refused else opened).space []
open_by true space refused opened e g = subst (λ s. GrowsBy space s []) (sym e) (still space)
open_by false space refused opened e g = g

taken_by : (space : Space) (number : ℕ) (state : LinkState) (pending : List (List ℕ)) → GrowsBy space (taken_from space number state pending).space []
taken_by space number state [] = still space
taken_by space number state (message ∷ pending) = linked space (changed taken space.links number)

take_by : (space : Space) (number : ℕ) (found : Option Link) → GrowsBy space (take_step space number found).space []
take_by space number None = still space
take_by space number (Some link) = taken_by space number link.state link.pending

-- a call lets a space grow by itself where it is an accepted update, and else not at all
pub call_grows : (space : Space) (one : Call) → GrowsBy space (step space one).space (accepted (is_accepted space one) one)
call_grows space call.NewLink = open_by (is_full space.links) space _ _ refl (linked space (space.links ++ new_link ∷ []))
call_grows space (call.Deliver link arrived) =
    deliver_by (state_of space.links link) space (delivered space link arrived) (accepts space arrived) (call.Deliver link arrived) (arrived_by space link arrived)
call_grows space (call.End link) = on_open_by (state_of space.links link) space _ (linked space (changed ended space.links link))
call_grows space (call.Lost link) = on_opened_by (state_of space.links link) space _ (linked space (changed lost space.links link))
call_grows space (call.Take link) = take_by space link (link_at space.links link)

one_at_most : (granted : Bool) (one : Call) → length (accepted granted one) ≤ 1
one_at_most true one = omega arith
one_at_most false one = omega arith

-- a call counts one update at most
pub at_most_one_more : (space : Space) (one : Call) → (step space one).space.updates ≤ space.updates + 1
at_most_one_more space one =
    let g = (call_grows space one).updates in
    let few = one_at_most (is_accepted space one) one in
    omega arith

graph_by-append : (graph : List Triple) (xs ys : List Call) → graph_by graph (xs ++ ys) ≡ graph_by (graph_by graph xs) ys
graph_by-append graph [] ys = refl
graph_by-append graph (x ∷ xs) ys = graph_by-append (graph_by_call graph x) xs ys

chain : (a b c : Space) (xs ys : List Call) → GrowsBy a b xs → GrowsBy b c ys → GrowsBy a c (xs ++ ys)
chain a b c xs ys p q = record {
  name = q.name ∙ p.name;
  updates = omega (arith, p.updates, q.updates, length-append xs ys);
  graph = q.graph ∙ ap (λ graph. graph_by graph ys) p.graph ∙ sym (graph_by-append a.graph xs ys);
  joined = λ s. q.joined (p.joined s);
}

-- calls let a space grow by those of them that are accepted updates
pub run_grows : (space : Space) (calls : List Call) → GrowsBy space (run_from space calls) (updates_from space calls)
run_grows space [] = still space
run_grows space (one ∷ calls) =
    chain space (step space one).space (run_from (step space one).space calls) (accepted (is_accepted space one) one) (updates_from (step space one).space calls)
    (call_grows space one) (run_grows (step space one).space calls)

-- updates keep a graph in order
ask_ordered : (graph : List Triple) (ask : Ask) → IsStrictlySortedBy triple_cmp graph → IsStrictlySortedBy triple_cmp (graph_by_ask graph ask)
ask_ordered graph Join s = s
ask_ordered graph Leave s = s
ask_ordered graph (Update remove insert confirm) s = updates_keep_order graph remove insert s
ask_ordered graph (Query wish) s = s
ask_ordered graph (Subscribe wish) s = s
ask_ordered graph (Unsubscribe text) s = s

arrived_ordered : (graph : List Triple) (arrived : Arrived) → IsStrictlySortedBy triple_cmp graph → IsStrictlySortedBy triple_cmp (graph_by_arrived graph arrived)
arrived_ordered graph (Request request) s = ask_ordered graph request.ask s
arrived_ordered graph (Wrong heads status) s = s
arrived_ordered graph NotRequest s = s

call_ordered : (graph : List Triple) (one : Call) → IsStrictlySortedBy triple_cmp graph → IsStrictlySortedBy triple_cmp (graph_by_call graph one)
call_ordered graph call.NewLink s = s
call_ordered graph (call.Deliver link arrived) s = arrived_ordered graph arrived s
call_ordered graph (call.End link) s = s
call_ordered graph (call.Lost link) s = s
call_ordered graph (call.Take link) s = s

calls_ordered : (graph : List Triple) (calls : List Call) → IsStrictlySortedBy triple_cmp graph → IsStrictlySortedBy triple_cmp (graph_by graph calls)
calls_ordered graph [] s = s
calls_ordered graph (one ∷ calls) s = calls_ordered (graph_by_call graph one) calls (call_ordered graph one s)

pub name_stays : NameStays
name_stays name history = (run_grows (empty_space name) history).name

pub nodes_in_order : NodesInOrder
nodes_in_order name history = (run_grows (empty_space name) history).joined none_joined

pub graph_of_updates : GraphOfUpdates
graph_of_updates name history = (run_grows (empty_space name) history).graph

pub triples_in_order : TriplesInOrder
triples_in_order name history =
    subst (IsStrictlySortedBy triple_cmp) (sym (graph_of_updates name history)) (calls_ordered [] (updates name history) (nil_ordered triple_cmp))

pub updates_counted : UpdatesCounted
updates_counted name history = (run_grows (empty_space name) history).updates ∙ omega arith
