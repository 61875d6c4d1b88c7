-- Standing queries: what is kept of them, when they stand over a graph, and what a step makes of them.
use Rattle.std.specs.Prelude.{◌≡◌, ℕ, ◌≤◌, List, [], Contains, Option, None, refl}
use Rattle.std.proofs.Common.{lit≤}
use Rattle.std.specs.List.{AllZip}
use Rattle.m3_terms.specs.declared.term.Term.{Term}
use Rattle.m3_terms.specs.declared.triple.Triple.{Triple}
use Rattle.sparql_algebra.specs.declared.algebra.Query.{Query}
use Rattle.sparql_algebra.specs.RowSets.{AreExactly}
use Rattle.sparql_algebra.specs.Solutions.{RowList}
use Rattle.sparql_algebra.specs.Valid.{IsValid}
use Rattle.triple_index.specs.declared.triple.IdTriple.{IdTriple}
use Rattle.triple_index.specs.declared.triple.IdPattern.{IdPattern}
use Rattle.pattern_join.specs.Meaning.{graph_in}
use Rattle.query_eval.specs.Answered.{AreAnswer}
use Rattle.query_eval.specs.PartRows.{ArePartRows}
use Rattle.delta_eval.specs.declared.changed.Changed.{Changed}
use Rattle.delta_eval.specs.declared.wanted.Wanted.{Wanted}
use Rattle.delta_eval.specs.declared.wanted.Wanted.TheVariants.{Templates, Select}
use Rattle.delta_eval.specs.Changed.{AllInThrees, LeadsTo, IsChangeOf, HasRoomFor, HasSameRows}
use Rattle.delta_eval.specs.Wanted.{matching_rows, wanted_width}

-- what contracts see of a standing query: what is wanted, the rows of each part of its pattern, and those of its answer
pub record Kept : Type 0 where
  pub wanted : Wanted
  pub parts : List RowList
  pub answer : RowList

-- what contracts see of a step: the change of each part, and that of the answer
pub record Changes : Type 0 where
  pub parts : List Changed
  pub answer : Changed

-- rows are those of templates: no parts, and the rows of the triples that fit
pub record AreOfTemplates (triples : List IdTriple) (templates : List IdPattern) (parts : List RowList) (answer : RowList) : Type 0 where
  pub no_parts : parts ≡ []
  pub answer_rows : AreExactly (Contains (matching_rows templates triples)) answer.rows

-- rows are those of a valid query over a graph: the solutions of each part of its pattern, and the answer
pub record AreOfQuery (terms : ℕ → Option Term) (graph : List Triple) (query : Query) (parts : List RowList) (answer : RowList) : Type 0 where
  pub valid : IsValid query
  pub part_rows : ArePartRows terms graph query.pattern parts
  pub answer_rows : AreAnswer terms query graph answer.rows

-- rows are those of what is wanted, over the graph of some triples
abbrev pub AreOf : (ℕ → Option Term) → List IdTriple → Wanted → List RowList → RowList → Type 0
AreOf terms triples (Templates templates) parts answer = AreOfTemplates triples templates parts answer
AreOf terms triples (Select query) parts answer = AreOfQuery terms (graph_in terms triples) query parts answer

-- a standing query stands over some triples: it keeps the rows of what is wanted over their graph, which is not too wide
pub record StandsOver (terms : ℕ → Option Term) (triples : List IdTriple) (standing : Kept) : Type 0 where
  pub rows : AreOf terms triples standing.wanted standing.parts standing.answer
  pub narrow : wanted_width terms standing.wanted triples ≤ 65536

-- a step is one of a standing query: each of its changes is one of the rows in its place
pub record IsStepOf (standing : Kept) (step : Changes) : Type 0 where
  pub parts : AllZip IsChangeOf standing.parts step.parts
  pub answer : IsChangeOf standing.answer step.answer

-- a standing query has room for a step: each of its lists has room for the change in its place
pub record HasRoom (standing : Kept) (step : Changes) : Type 0 where
  pub parts : AllZip HasRoomFor standing.parts step.parts
  pub answer : HasRoomFor standing.answer step.answer

-- a standing query keeps what it kept: it wants the same, and each of its lists has the same rows
pub record KeepsRows (old new : Kept) : Type 0 where
  pub wanted : new.wanted ≡ old.wanted
  pub parts : AllZip HasSameRows old.parts new.parts
  pub answer : HasSameRows old.answer new.answer

-- a standing query is what a step makes of another: it wants the same, and each change leads to the rows in its place
pub record IsAfter (old : Kept) (step : Changes) (new : Kept) : Type 0 where
  pub wanted : new.wanted ≡ old.wanted
  pub parts : AllInThrees LeadsTo old.parts step.parts new.parts
  pub answer : LeadsTo old.answer step.answer new.answer

-- a step leads to some triples: whatever it makes of a standing query stands over them
abbrev pub StepsTo : (ℕ → Option Term) → List IdTriple → Kept → Changes → Type 0
StepsTo terms triples standing step = (after : Kept) → IsAfter standing step after → StandsOver terms triples after

-- where nothing is wanted, nothing stands over the empty graph
example_nothing : StandsOver (λ n. None) [] (record { wanted = Templates []; parts = []; answer = record { rows = []; room = 0 } })
example_nothing = record { rows = record { no_parts = refl; answer_rows = λ row. (λ c. c, λ c. c) }; narrow = lit≤ tt }
