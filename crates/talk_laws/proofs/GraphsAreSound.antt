-- Where messages of texts are delivered, the triples of the graph are sound.
use Rattle.std.proofs.Common.{ℕ, Bool, true, false, List, [], ◌∷◌, Contains, refl, sym, subst}
use Rattle.std.specs.Prelude.{if◌then◌else◌, ⊤}
use Rattle.std.specs.List.{AllByRecursion, IsDistinct}
use Rattle.std.proofs.lemmas.List.{length-map}
use mathlib.Core.Logic.{⊎_elim}
use Rattle.m3_terms.specs.Order.{text_eq}
use Rattle.m3_terms.specs.OrderLaws.{triple_cmp_total}
use Rattle.m3_terms.specs.Pattern.{triple_of}
use Rattle.m3_terms.specs.declared.pattern.Pattern.{Pattern}
use Rattle.m3_terms.specs.declared.triple.Triple.{Triple}
use Rattle.triple_index.specs.GraphLaws.{none_in, after_has}
use Rattle.ssap_grammar.proofs.SpelledTexts.{all_append}
use Rattle.sparql_algebra.proofs.ListMembers.{all_in, in_all_of, mapped_from}
use Rattle.sparql_algebra.specs.Listed.{rows_of}
use Rattle.sparql_algebra.specs.declared.algebra.Query.{Query as Said}
use Rattle.sparql_algebra.proofs.ListedAnswers.{answer_exact}
use Rattle.answer_bodies.specs.Laws.{IsSoundTriple, IsSound}
use Rattle.ssap_shape.specs.declared.request.Ask.{Ask}
use Rattle.ssap_shape.specs.declared.request.Ask.TheVariants.{Join, Leave, Update, Query, Subscribe, Unsubscribe}
use Rattle.ssap_shape.specs.declared.request.Arrived.{Arrived}
use Rattle.ssap_shape.specs.declared.request.Arrived.TheVariants.{Request, Wrong, NotRequest}
use Rattle.session_core.specs.Answers.{name_in, column_names}
use Rattle.session_core.specs.Graph.{fits, triples_of}
use Rattle.session_core.specs.Laws.{graph_by_ask, graph_by_call, graph_by}
use Rattle.session_core.specs.Runs.{run, is_accepted, updates, updates_from}
use Rattle.session_core.specs.Space.{Space, empty_space}
use Rattle.session_core.specs.Steps.{step}
use Rattle.session_core.specs.Subscriptions.{Selected, answer_over}
use Rattle.session_core.specs.declared.call.Call.{Call}
use Rattle.session_core.specs.declared.call.Call.TheVariants.{NewLink, Deliver, End, Lost, Take}
use Rattle.session_core.proofs.Fitting.{triple_one}
use Rattle.session_core.proofs.Growing.{graph_of_updates}
use Rattle.talk_laws.specs.Truth.{AreHandled}
use Rattle.talk_laws.proofs.CellsAreOfGraphs.{rows_sound}
use Rattle.talk_laws.proofs.InsertsAreSound.{IsShortTemplate, InsertsShort, inserts_short, triple_sound}

-- what arrives inserts terms within their limits
abbrev pub ArrivesShort : Arrived → Type 0
ArrivesShort (Request request) = InsertsShort request.ask
ArrivesShort (Wrong heads status) = ⊤
ArrivesShort NotRequest = ⊤

-- a call delivers what inserts terms within their limits, if it delivers anything
abbrev pub DeliversShort : Call → Type 0
DeliversShort NewLink = ⊤
DeliversShort (Deliver link arrived) = ArrivesShort arrived
DeliversShort (End link) = ⊤
DeliversShort (Lost link) = ⊤
DeliversShort (Take link) = ⊤

-- each triple of a graph is sound
abbrev pub HasSound : List Triple → Type 0
HasSound graph = (triple : Triple) → Contains graph triple → IsSoundTriple triple

-- so is what is inserted
triples_sound : (insert : List Pattern) → AllByRecursion IsShortTemplate insert → HasSound (triples_of insert)
triples_sound insert short triple c =
    let from = mapped_from triple_of insert triple c in
    triple_sound from.0 triple (in_all_of IsShortTemplate insert from.0 short from.1) from.2

ask_sound : (graph : List Triple) (ask : Ask) → InsertsShort ask → HasSound graph → HasSound (graph_by_ask graph ask)
ask_sound graph Join short sound = sound
ask_sound graph Leave short sound = sound
ask_sound graph (Update remove insert confirm) short sound = λ triple c.
    ⊎_elim (λ old. sound triple old.0) (λ new. triples_sound insert short triple new)
    ((after_has triple_cmp_total triple_one fits graph remove (triples_of insert) triple).0 c)
ask_sound graph (Query wish) short sound = sound
ask_sound graph (Subscribe wish) short sound = sound
ask_sound graph (Unsubscribe text) short sound = sound

call_sound : (graph : List Triple) (call : Call) → DeliversShort call → HasSound graph → HasSound (graph_by_call graph call)
call_sound graph NewLink short sound = sound
call_sound graph (Deliver link (Request request)) short sound = ask_sound graph request.ask short sound
call_sound graph (Deliver link (Wrong heads status)) short sound = sound
call_sound graph (Deliver link NotRequest) short sound = sound
call_sound graph (End link) short sound = sound
call_sound graph (Lost link) short sound = sound
call_sound graph (Take link) short sound = sound

calls_sound : (graph : List Triple) (calls : List Call) → AllByRecursion DeliversShort calls → HasSound graph → HasSound (graph_by graph calls)
calls_sound graph [] short sound = sound
calls_sound graph (call ∷ calls) short sound = calls_sound (graph_by_call graph call) calls short.1 (call_sound graph call short.0 sound)

-- what holds of each call holds of each accepted update
accepted_at : (P : Call → Type 0) (b : Bool) (call : Call) → P call → AllByRecursion P (if b then call ∷ [] else [])
accepted_at P true call h = (h, tt)
accepted_at P false call h = tt

updates_among : (P : Call → Type 0) (space : Space) (calls : List Call) → AllByRecursion P calls → AllByRecursion P (updates_from space calls)
updates_among P space [] h = tt
updates_among P space (call ∷ calls) h =
    all_append P (if is_accepted space call then call ∷ [] else []) (updates_from (step space call).space calls)
    (accepted_at P (is_accepted space call) call h.0) (updates_among P (step space call).space calls h.1)

-- each call of a history of messages of texts delivers such a thing
calls_short : (history : List Call) → AreHandled history → (call : Call) → Contains history call → DeliversShort call
calls_short history handled NewLink c = tt
calls_short history handled (Deliver link (Request request)) c =
    let from = handled link (Request request) c in
    inserts_short from.0 request.ask from.1 from.2.2 from.2.3
calls_short history handled (Deliver link (Wrong heads status)) c = tt
calls_short history handled (Deliver link NotRequest) c = tt
calls_short history handled (End link) c = tt
calls_short history handled (Lost link) c = tt
calls_short history handled (Take link) c = tt

-- so each triple of the graph of a run is sound
pub graphs_sound : (name : List ℕ) (history : List Call) → AreHandled history → AllByRecursion IsSoundTriple (run name history).graph
graphs_sound name history handled =
    let short = updates_among DeliversShort (empty_space name) history (all_in DeliversShort history (calls_short history handled)) in
    let sound = calls_sound [] (updates name history) short (λ triple c. absurd (none_in triple c)) in
    all_in IsSoundTriple (run name history).graph (subst HasSound (sym (graph_of_updates name history)) sound)

-- and the answer to a query whose columns differ is sound
pub tables_sound : (name : List ℕ) (history : List Call) (query : Said) → AreHandled history → IsDistinct text_eq (column_names query)
    → IsSound (answer_over (run name history).graph (Selected query))
tables_sound name history query handled distinct = record {
  distinct = distinct;
  rises = ((answer_exact query (run name history).graph (rows_of query (run name history).graph)).1 refl).ordered;
  each = rows_sound query (run name history).graph (column_names query) (length-map query.columns (name_in query.names)) (graphs_sound name history handled);
}
