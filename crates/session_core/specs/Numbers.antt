-- A graph by the numbers of its terms: what a triple of numbers means, read through a list of terms.
use Rattle.std.specs.Prelude.{◌≡◌, ℕ, ◌+◌, ◌≤◌, List, [], ◌∷◌, ◌++◌, length, filter_map, sum_by, Contains, Option, Some, None, IsSome, slice_get, if◌then◌else◌, codes, refl}
use Rattle.std.specs.List.{IsDistinct}
use Rattle.std.specs.Option.{option_map_or}
use Rattle.m3_terms.specs.Order.{text_of, term_eq, triple_cmp}
use Rattle.m3_terms.specs.Pattern.{triple_with}
use Rattle.m3_terms.specs.declared.term.Term.{Term}
use Rattle.m3_terms.specs.declared.term.Term.TheVariants.{Uri, Literal}
use Rattle.m3_terms.specs.declared.table.TermId.{TermId}
use Rattle.m3_terms.specs.declared.triple.Triple.{Triple}
use Rattle.m3_terms.specs.declared.pattern.Slot.{Slot}
use Rattle.m3_terms.specs.declared.pattern.Slot.TheVariants.{Any, Is}
use Rattle.m3_terms.specs.declared.pattern.Pattern.{Pattern}
use Rattle.m3_intern.specs.Interned.{bytes_of_terms}
use Rattle.triple_index.specs.Changes.{Net, AreOrdered, IsNet, changed}
use Rattle.triple_index.specs.Graphs.{with_all}
use Rattle.triple_index.specs.declared.triple.IdTriple.{IdTriple}
use Rattle.triple_index.specs.declared.triple.IdPattern.{IdPattern}

-- terms, each under the number of those before it, and triples of numbers
pub record Numbers : Type 0 where
  pub terms : List Term
  pub triples : List IdTriple

-- the triple that three numbers mean: that of their terms
abbrev pub triple_in : List Term → IdTriple → Option Triple
triple_in terms t = triple_with (slice_get terms t.subject.0) (slice_get terms t.predicate.0) (slice_get terms t.object.0)

-- the triples that triples of numbers mean
abbrev pub triples_in : List Term → List IdTriple → List Triple
triples_in terms triples = filter_map (triple_in terms) triples

-- the graph that numbers mean: its triples in order
unfoldable pub graph_of : Numbers → List Triple
graph_of numbers = with_all triple_cmp [] (triples_in numbers.terms numbers.triples)

-- numbers of a graph: no term stands twice, the triples are in order, each once, and each means a triple
pub record AreNumbers (numbers : Numbers) : Type 0 where
  pub once : IsDistinct term_eq numbers.terms
  pub ordered : AreOrdered numbers.triples
  pub named : (t : IdTriple) → Contains numbers.triples t → IsSome (triple_in numbers.terms t)

-- the numbers after more terms and a change
abbrev pub made : Numbers → List Term → Net → Numbers
made numbers terms change = record { terms = numbers.terms ++ terms; triples = changed numbers.triples change }

-- more terms and a change lead from numbers of a graph to numbers of a graph, within the limit of named terms
pub record CanBeMade (old : Numbers) (terms : List Term) (change : Net) : Type 0 where
  pub within : bytes_of_terms (old.terms ++ terms) ≤ 268435456
  pub net : IsNet old.triples change
  pub numbers : AreNumbers (made old terms change)

-- the number of a term in a list whose first term has this number
abbrev pub number_from : ℕ → List Term → Term → Option TermId
number_from first [] term = None
number_from first (other ∷ terms) term = if term_eq term other then Some (record { 0 = first }) else number_from (first + 1) terms term

-- the number of a term in a list
abbrev pub number_in : List Term → Term → Option TermId
number_in terms term = number_from 0 terms term

-- the number of the term of a slot; the wildcard has none
abbrev pub number_of_slot : List Term → Slot → Option TermId
number_of_slot terms Any = None
number_of_slot terms (Is term) = number_in terms term

-- the triple of three numbers, where all are there
abbrev pub ids_with : Option TermId → Option TermId → Option TermId → Option IdTriple
ids_with (Some subject) (Some predicate) (Some object) = Some (record { subject = subject; predicate = predicate; object = object })
ids_with subject predicate object = None

-- a pattern that is a triple, by numbers
abbrev pub ids_of : List Term → Pattern → Option IdTriple
ids_of terms pattern = ids_with (number_of_slot terms pattern.subject) (number_of_slot terms pattern.predicate) (number_of_slot terms pattern.object)

-- a triple by the numbers of its terms
abbrev pub ids_of_triple : List Term → Triple → Option IdTriple
ids_of_triple terms triple = ids_with (number_in terms triple.subject) (number_in terms triple.predicate) (number_in terms triple.object)

-- the place of a pattern that is this number
abbrev pub place_of : Option TermId → Option (Option TermId)
place_of None = None
place_of (Some id) = Some (Some id)

-- a slot as the place of a pattern of numbers: none where its term has no number
abbrev pub place_in : List Term → Slot → Option (Option TermId)
place_in terms Any = Some None
place_in terms (Is term) = place_of (number_in terms term)

-- the pattern of three places, where all are there
abbrev pub pattern_with : Option (Option TermId) → Option (Option TermId) → Option (Option TermId) → Option IdPattern
pattern_with (Some subject) (Some predicate) (Some object) = Some (record { subject = subject; predicate = predicate; object = object })
pattern_with subject predicate object = None

-- a pattern by numbers: none where a term has no number, so that nothing fits it
abbrev pub pattern_in : List Term → Pattern → Option IdPattern
pattern_in terms pattern = pattern_with (place_in terms pattern.subject) (place_in terms pattern.predicate) (place_in terms pattern.object)

-- how many bytes the text of a number's term has: none where no term has the number
abbrev pub bytes_at : List Term → TermId → ℕ
bytes_at terms id = option_map_or (λ term. length (text_of term)) (slice_get terms id.0) 0

-- how many bytes the three texts of a triple of numbers have
abbrev pub bytes_of_ids : List Term → IdTriple → ℕ
bytes_of_ids terms t = bytes_at terms t.subject + bytes_at terms t.predicate + bytes_at terms t.object

-- how many bytes the texts of triples of numbers have
abbrev pub bytes_in : List Term → List IdTriple → ℕ
bytes_in terms triples = sum_by (bytes_of_ids terms) triples

-- the numbers 0, 1 and 2 mean that the lamp has the state on
example_means : triple_in (Uri (codes "lamp") ∷ Uri (codes "state") ∷ Literal (codes "on") ∷ [])
    (record { subject = record { 0 = 0 }; predicate = record { 0 = 1 }; object = record { 0 = 2 } })
    ≡ Some (record { subject = Uri (codes "lamp"); predicate = Uri (codes "state"); object = Literal (codes "on") })
example_means = refl

-- the state is number 1
example_number : number_in (Uri (codes "lamp") ∷ Uri (codes "state") ∷ []) (Uri (codes "state")) ≡ Some (record { 0 = 1 })
example_number = refl

-- a pattern of a term that has no number is left out
example_unknown : pattern_in (Uri (codes "lamp") ∷ []) (record { subject = Is (Uri (codes "lamp")); predicate = Is (Uri (codes "state")); object = Any }) ≡ None
example_unknown = refl

-- the numbers 0, 1 and 2 have texts of 4, 5 and 2 bytes
example_bytes : bytes_in (Uri (codes "lamp") ∷ Uri (codes "state") ∷ Literal (codes "on") ∷ [])
    (record { subject = record { 0 = 0 }; predicate = record { 0 = 1 }; object = record { 0 = 2 } } ∷ []) ≡ 11
example_bytes = refl

-- a number that no term has counts nothing
example_no_bytes : bytes_at (Uri (codes "lamp") ∷ []) (record { 0 = 1 }) ≡ 0
example_no_bytes = refl
