-- What is prepared of an update before it is made.
use Rattle.std.specs.Prelude.{◌≡◌, ◌≢◌, ◌≤◌, ◌<◌, ◌⊎◌, ℕ, false, List, ◌++◌, length, filter_map, Contains, Some, None, slice_get}
use Rattle.std.specs.List.Sorted.{IsPermutation, IsStrictlySortedBy}
use Rattle.m3_terms.specs.Order.{triple_cmp}
use Rattle.m3_terms.specs.declared.triple.Triple.{Triple}
use Rattle.m3_terms.specs.declared.term.Term.{Term}
use Rattle.m3_terms.specs.declared.pattern.Pattern.{Pattern}
use Rattle.triple_index.specs.Changes.{Net, AreOrdered, IsNet, changed}
use Rattle.triple_index.specs.Fits.{fits as fits_ids}
use Rattle.triple_index.specs.Graphs.{after}
use Rattle.triple_index.specs.IdOrder.{id_triple_cmp}
use Rattle.session_core.specs.Graph.{graph_after, terms_of, with_named}
use Rattle.triple_index.specs.declared.triple.IdTriple.{IdTriple}
use Rattle.ssap_items.specs.declared.heads.Heads.{Heads}
use Rattle.answer_bodies.specs.declared.answer.Answer.{Answer}
use Rattle.answer_bodies.specs.declared.answer.Answer.TheVariants.{Triples, Table}
use Rattle.answer_bodies.specs.Writing.{IsFull}
use Rattle.sparql_algebra.specs.Listed.{rows_of, width_of}
use Rattle.sparql_algebra.specs.declared.algebra.Query.{Query}
use Rattle.sparql_algebra.specs.declared.mapping.Binding.{Binding}
use Rattle.pattern_join.specs.Meaning.{graph_in}
use Rattle.query_eval.specs.Answered.{AreAnswer}
use Rattle.sparql_text.specs.declared.fault.ReadFault.{ReadFault}
use Rattle.sparql_text.specs.declared.fault.ReadFault.TheVariants.{NoMemory}
use Rattle.ssap_shape.specs.declared.status.Status.{Status}
use Rattle.ssap_shape.specs.declared.status.Status.TheVariants.{Success}
use Rattle.ssap_shape.specs.declared.reply.Confirm.{Confirm}
use Rattle.session_core.specs.Answers.{fitting, text_bytes, column_names}
use Rattle.session_core.specs.Numbers.{Numbers, triples_in, graph_of, ids_of, pattern_in, bytes_in, made, CanBeMade}
use Rattle.session_core.specs.Requests.{is_overfull, status_of_fault}

-- this is the net change of an update whose patterns have their numbers
pub record IsChange (old : Numbers) (terms : List Term) (remove insert : List Pattern) (change : Net) : Type 0 where
  pub net : IsNet old.triples change
  pub makes : changed old.triples change
      ≡ after id_triple_cmp fits_ids old.triples (filter_map (pattern_in (old.terms ++ terms)) remove) (filter_map (ids_of (old.terms ++ terms)) insert)

-- these terms and this change are an update that no limit refuses
pub record IsUpdateOf (old : Numbers) (remove insert : List Pattern) (terms : List Term) (change : Net) : Type 0 where
  pub can : CanBeMade old terms change
  pub graph : graph_of (made old terms change) ≡ graph_after (graph_of old) remove insert
  pub named : old.terms ++ terms ≡ with_named old.terms (terms_of insert)
  pub within : is_overfull (graph_of old) old.terms remove insert ≡ false

-- triples in order that means what triples of numbers mean: the answer of them
pub record IsMeant (terms : List Term) (triples : List IdTriple) (answer : Answer) : Type 0 where
  pub meant : List Triple
  pub is : answer ≡ Triples meant
  pub rises : IsStrictlySortedBy triple_cmp meant
  pub same : IsPermutation (triples_in terms triples) meant

-- the answer is that of templates, of no more triples than an answer may have, and no more bytes of texts than a confirm
pub record IsAnswer (graph : List Triple) (templates : List Pattern) (answer : Answer) : Type 0 where
  pub is : answer ≡ Triples (fitting graph templates)
  pub few : length (fitting graph templates) ≤ 65536
  pub brief : text_bytes (fitting graph templates) ≤ 4194304

-- templates have no answer: too many triples fit, or their texts alone are longer than a confirm may be
abbrev pub IsUnanswerable : List Triple → List Pattern → Type 0
IsUnanswerable graph templates = (65536 < length (fitting graph templates)) ⊎ (4194304 < text_bytes (fitting graph templates))

-- triples of numbers are of the graph, in order and no more than an answer may have: what they mean is the answer to
-- templates, and their texts have as many bytes
pub record AreMatching (numbers : Numbers) (templates : List Pattern) (triples : List IdTriple) : Type 0 where
  pub ordered : AreOrdered triples
  pub there : (t : IdTriple) → Contains triples t → Contains numbers.triples t
  pub few : length (fitting (graph_of numbers) templates) ≤ 65536
  pub answers : (reply : Answer) → IsMeant numbers.terms triples reply → reply ≡ Triples (fitting (graph_of numbers) templates)
  pub bytes : bytes_in numbers.terms triples ≡ text_bytes (fitting (graph_of numbers) templates)

-- the rows of numbers answer a query over what the numbers mean, whose width is within its limit
pub record AreRows (numbers : Numbers) (query : Query) (rows : List (List Binding)) : Type 0 where
  pub answer : AreAnswer (slice_get numbers.terms) query (graph_in (slice_get numbers.terms) numbers.triples) rows
  pub narrow : width_of query.pattern (graph_of numbers) ≤ 65536

-- the answer is the table of a query, whose width is within its limit; each row has a cell for each column
pub record IsTable (graph : List Triple) (query : Query) (answer : Answer) : Type 0 where
  pub is : answer ≡ Table (column_names query) (rows_of query graph)
  pub narrow : width_of query.pattern graph ≤ 65536
  pub full : IsFull answer

-- the status that refuses a text for a fault, and the fault is not that of memory
pub record IsRefusal (fault : ReadFault) (status : Status) : Type 0 where
  pub is : status ≡ status_of_fault fault
  pub said : fault ≢ NoMemory

-- the confirm of success that brings an answer
abbrev pub answering : Heads → Answer → Confirm
answering heads answer = record { heads = heads; status = Success; subscription = None; answer = Some answer }

-- this is a message of these bytes, no longer than a message may be
pub record IsShort (bytes message : List ℕ) : Type 0 where
  pub is : message ≡ bytes
  pub short : length bytes ≤ 4194304
