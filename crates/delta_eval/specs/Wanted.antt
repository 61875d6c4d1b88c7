-- What is wanted of a graph again and again, and what it is over the graph of some triples of numbers.
use Rattle.std.specs.Prelude.{◌≡◌, ℕ, List, [], ◌∷◌, map, Contains, Option, Some, None, ⊤, refl}
use Rattle.m3_terms.specs.declared.term.Term.{Term}
use Rattle.sparql_algebra.specs.declared.algebra.Algebra.{Bgp}
use Rattle.sparql_algebra.specs.declared.mapping.Binding.{Binding}
use Rattle.sparql_algebra.specs.Evaluation.{IsSolution}
use Rattle.sparql_algebra.specs.Listed.{width_of}
use Rattle.sparql_algebra.specs.RowSets.{IsProjectedRow}
use Rattle.sparql_algebra.specs.Solutions.{binding}
use Rattle.sparql_algebra.specs.Valid.{IsValid}
use Rattle.triple_index.specs.declared.triple.IdTriple.{IdTriple}
use Rattle.triple_index.specs.declared.triple.IdPattern.{IdPattern}
use Rattle.triple_index.specs.Fits.{fits}
use Rattle.triple_index.specs.Graphs.{count_fitting}
use Rattle.pattern_join.specs.Answers.{answer, width}
use Rattle.pattern_join.specs.Bgp.{StandsFor}
use Rattle.pattern_join.specs.Meaning.{graph_in}
use Rattle.pattern_join.specs.Rows.{row}
use Rattle.query_eval.specs.Reads.{reads}
use Rattle.delta_eval.specs.declared.wanted.Wanted.{Wanted}
use Rattle.delta_eval.specs.declared.wanted.Wanted.TheVariants.{Templates, Select}

-- what is wanted may be asked for: a query is valid, and of templates nothing is asked
abbrev pub MayBeWanted : Wanted → Type 0
MayBeWanted (Templates templates) = ⊤
MayBeWanted (Select query) = IsValid query

-- the rows of the triples that fit at least one of some templates
abbrev pub matching_rows : List IdPattern → List IdTriple → List (List Binding)
matching_rows templates triples = map row (answer templates triples)

-- a row answers what is wanted: it is the row of a triple that fits a template, or the projection of a row that stands for a solution
abbrev pub IsWanted : (ℕ → Option Term) → Wanted → List IdTriple → List Binding → Type 0
IsWanted terms (Templates templates) triples found = Contains (matching_rows templates triples) found
IsWanted terms (Select query) triples found = IsProjectedRow query.columns (StandsFor terms (IsSolution query.pattern (graph_in terms triples))) found

-- a row is wanted over some triples and not over others
abbrev pub IsWantedOnly : (ℕ → Option Term) → Wanted → List IdTriple → List IdTriple → List Binding → Type 0
IsWantedOnly terms wanted triples others found = IsWanted terms wanted triples found × (IsWanted terms wanted others found → ⊥)

-- the width of what is wanted: the number of triples that fit, or the width of the query's pattern
abbrev pub wanted_width : (ℕ → Option Term) → Wanted → List IdTriple → ℕ
wanted_width terms (Templates templates) triples = width templates triples
wanted_width terms (Select query) triples = width_of query.pattern (graph_in terms triples)

-- how many triples are read for what is wanted from scratch
abbrev pub wanted_reads : (ℕ → Option Term) → Wanted → List IdTriple → ℕ
wanted_reads terms (Templates templates) triples = count_fitting fits triples templates
wanted_reads terms (Select query) triples = reads query.pattern (graph_in terms triples)

-- the triple of these numbers
abbrev numbers : ℕ → ℕ → ℕ → IdTriple
numbers subject predicate object = record { subject = record { 0 = subject }; predicate = record { 0 = predicate }; object = record { 0 = object } }

-- everything that has the predicate 7
abbrev sevens : Wanted
sevens = Templates (record { subject = None; predicate = Some (record { 0 = 7 }); object = None } ∷ [])

-- two of three triples have the predicate 7: they are the width, and each is read
example_width : wanted_width (λ n. None) sevens (numbers 1 7 2 ∷ numbers 1 8 2 ∷ numbers 2 7 1 ∷ []) ≡ 2
example_width = refl

example_reads : wanted_reads (λ n. None) sevens (numbers 1 7 2 ∷ numbers 1 8 2 ∷ numbers 2 7 1 ∷ []) ≡ 2
example_reads = refl

-- the empty pattern has one solution over each graph, and nothing is read for it
example_empty : wanted_width (λ n. None) (Select (record { names = []; columns = []; pattern = Bgp [] })) [] ≡ 1
example_empty = refl

-- the row of the triple that fits
example_rows : matching_rows (record { subject = None; predicate = Some (record { 0 = 7 }); object = None } ∷ []) (numbers 1 7 2 ∷ numbers 1 8 2 ∷ [])
    ≡ (binding 0 1 ∷ binding 1 7 ∷ binding 2 2 ∷ []) ∷ []
example_rows = refl
