-- Standing queries as they are kept: over which numbers one stands, and what it comes to where these change.
use Rattle.std.specs.Prelude.{◌≡◌, ◌<◌, ◌≤◌, ◌++◌, ◌||◌, ℕ, Bool, nat_lt, true, false, List, Option, Some, IsSome, slice_get, filter_map, Contains, ⊤}
use Rattle.m3_terms.specs.declared.term.Term.{Term}
use Rattle.m3_terms.specs.declared.pattern.Pattern.{Pattern}
use Rattle.answer_bodies.specs.Differences.{is_empty_difference}
use Rattle.answer_bodies.specs.Writing.{IsFull}
use Rattle.answer_bodies.specs.OfRows.{AreTripleRows, AreBoundAmong, AreNamed, IsOfTriples, IsOfRows}
use Rattle.answer_bodies.specs.declared.answer.Answer.{Answer}
use Rattle.std.specs.List.{IsDistinct}
use Rattle.m3_terms.specs.Order.{term_eq}
use Rattle.m3_intern.specs.Interned.{bytes_of_terms, fresh}
use Rattle.sparql_algebra.specs.RowSets.{AreExactly}
use Rattle.sparql_algebra.specs.Valid.{IsValid}
use Rattle.sparql_algebra.specs.declared.mapping.Binding.{Binding}
use Rattle.delta_eval.specs.Wanted.{IsWantedOnly, MayBeWanted}
use Rattle.session_core.specs.Answers.{column_names}
use Rattle.delta_eval.specs.Standing.{Kept, Changes, StandsOver, IsAfter, IsStepOf, HasRoom as HasRoomIn, KeepsRows}
use Rattle.delta_eval.specs.declared.wanted.Wanted as kept
use Rattle.session_core.specs.Numbers.{Numbers, pattern_in, graph_of}
use Rattle.session_core.specs.Subscriptions.{Wanted, Fitting, Selected, width_over, constants_in}
use Rattle.session_core.specs.Requests.{is_overnamed}
use Rattle.session_core.specs.Following.{difference_over}
use Rattle.session_core.specs.declared.watch.Asked.{Asked}
use Rattle.session_core.specs.declared.watch.Asked.TheVariants.{Templates, Select}
use Rattle.session_core.specs.declared.watch.Watch.{Watch}
use Rattle.session_core.specs.declared.watch.Prepared.{Prepared}
use Rattle.session_core.specs.declared.watch.Prepared.TheVariants.{Wide, Same, Differs}

-- what a standing query asks for, by its templates where it has any
abbrev pub asked_by : List Pattern → kept.Wanted → Wanted
asked_by templates (kept.TheVariants.Templates ids) = Fitting templates
asked_by templates (kept.TheVariants.Select query) = Selected query

-- what a watch asks for
abbrev pub wanted_in : Watch → Wanted
wanted_in watch = asked_by watch.templates watch.standing.wanted

-- templates have these numbers: each of their terms has one
abbrev pub HaveNumbers : List Term → List Pattern → kept.Wanted → Type 0
HaveNumbers terms templates (kept.TheVariants.Templates ids) = (ids ≡ filter_map (pattern_in terms) templates)
    × ((template : Pattern) → Contains templates template → IsSome (pattern_in terms template))
HaveNumbers terms templates (kept.TheVariants.Select query) = ⊤

-- rows of numbers may be put into words: those of templates are triples, and those of a query bind its columns to numbers that
-- have terms
abbrev pub MayBeAnswered : (ℕ → Option Term) → kept.Wanted → List (List Binding) → Type 0
MayBeAnswered terms (kept.TheVariants.Templates ids) rows = AreTripleRows terms rows
MayBeAnswered terms (kept.TheVariants.Select query) rows = IsValid query × AreBoundAmong query.columns rows × AreNamed terms rows

-- the answer is that of rows of numbers: their triples, or the table of the query's columns
abbrev pub IsAnswerOf : (ℕ → Option Term) → kept.Wanted → List (List Binding) → Answer → Type 0
IsAnswerOf terms (kept.TheVariants.Templates ids) rows answer = IsOfTriples terms rows answer
IsAnswerOf terms (kept.TheVariants.Select query) rows answer = IsOfRows terms (column_names query) query.columns rows answer

-- a watch stands over numbers: its standing query does, and its templates have their numbers
pub record Stands (numbers : Numbers) (watch : Watch) : Type 0 where
  pub standing : StandsOver (slice_get numbers.terms) numbers.triples watch.standing
  pub numbered : HaveNumbers numbers.terms watch.templates watch.standing.wanted

-- a step takes a watch to one over other numbers
pub record Leads (watch : Watch) (step : Changes) (numbers : Numbers) : Type 0 where
  pub step_of : IsStepOf watch.standing step
  pub after : (standing : Kept) → IsAfter watch.standing step standing → StandsOver (slice_get numbers.terms) numbers.triples standing
  pub numbered : HaveNumbers numbers.terms watch.templates watch.standing.wanted

-- a step takes a watch to other numbers, over which its width is within the limit: it brings the rows that are wanted over
-- these and not over the numbers before, and takes away the others
pub record IsStepTo (old new : Numbers) (watch : Watch) (step : Changes) : Type 0 where
  pub leads : Leads watch step new
  pub narrow : width_over (graph_of new) (wanted_in watch) ≤ 65536
  pub added : AreExactly (IsWantedOnly (slice_get new.terms) watch.standing.wanted new.triples old.triples) step.answer.added.rows
  pub obsolete : AreExactly (IsWantedOnly (slice_get new.terms) watch.standing.wanted old.triples new.triples) step.answer.obsolete.rows

-- a watch has room for a step
abbrev pub HasRoom : Watch → Changes → Type 0
HasRoom watch step = HasRoomIn watch.standing step

-- a step is one for a watch: what it takes out is there, and what it adds is not
abbrev pub IsStepFor : Watch → Changes → Type 0
IsStepFor watch step = IsStepOf watch.standing step

-- two watches are of one standing query, but for the room that they have
pub record IsSameWatch (old new : Watch) : Type 0 where
  pub templates : new.templates ≡ old.templates
  pub standing : KeepsRows old.standing new.standing

-- what is asked for, as contracts see it
abbrev pub asked_of : Asked → Wanted
asked_of (Templates templates) = Fitting templates
asked_of (Select query) = Selected query

-- a query that is asked for is valid
abbrev pub IsAskedRightly : Asked → Type 0
IsAskedRightly (Templates templates) = ⊤
IsAskedRightly (Select query) = IsValid query

-- numbers with more terms
abbrev pub with_terms : Numbers → List Term → Numbers
with_terms numbers terms = record numbers { terms = numbers.terms ++ terms }

-- these are the new terms among some, within the limit of named terms
pub record IsNamedBy (numbers : Numbers) (wanted terms : List Term) : Type 0 where
  pub new : terms ≡ fresh numbers.terms wanted
  pub once : IsDistinct term_eq (numbers.terms ++ terms)
  pub within : bytes_of_terms (numbers.terms ++ terms) ≤ 268435456
  pub named : (term : Term) → Contains wanted term → Contains (numbers.terms ++ terms) term

-- all terms that are named have numbers
abbrev pub HasNamed : List Term → Wanted → Type 0
HasNamed terms wanted = (term : Term) → Contains (constants_in wanted) term → Contains terms term

-- templates by terms and what is wanted by numbers are what was asked for
pub record IsAim (terms : List Term) (wanted : Wanted) (templates : List Pattern) (aim : kept.Wanted) : Type 0 where
  pub is : asked_by templates aim ≡ wanted
  pub numbered : HaveNumbers terms templates aim
  pub may : MayBeWanted aim

-- a watch was started: it stands for what was asked, within the limit on its width
pub record IsStarted (numbers : Numbers) (wanted : Wanted) (watch : Watch) : Type 0 where
  pub stands : Stands numbers watch
  pub wants : wanted_in watch ≡ wanted
  pub narrow : width_over (graph_of numbers) wanted ≤ 65536

-- no watch may be started for what is asked: its terms are too many, or its width is too great
abbrev pub is_unstartable : Numbers → Wanted → Bool
is_unstartable numbers wanted = is_overnamed numbers.terms (Some wanted) || nat_lt 65536 (width_over (graph_of numbers) wanted)

-- a watch was started for what was asked, with these as its new terms
pub record IsNewWatch (numbers : Numbers) (wanted : Wanted) (terms : List Term) (watch : Watch) : Type 0 where
  pub named : IsNamedBy numbers (constants_in wanted) terms
  pub started : IsStarted (with_terms numbers terms) wanted watch

-- what a watch comes to where the numbers change: its width passes the limit, or a step takes it on, with the difference of
-- its answers where there is one
abbrev pub IsPrepared : Numbers → Numbers → Watch → Prepared → Type 0
IsPrepared old new watch Wide = 65536 < width_over (graph_of new) (wanted_in watch)
IsPrepared old new watch (Same step) = (width_over (graph_of new) (wanted_in watch) ≤ 65536) × Leads watch step new
    × (is_empty_difference (difference_over (graph_of old) (graph_of new) (wanted_in watch)) ≡ true)
IsPrepared old new watch (Differs step difference) = (width_over (graph_of new) (wanted_in watch) ≤ 65536) × Leads watch step new
    × (difference ≡ difference_over (graph_of old) (graph_of new) (wanted_in watch))
    × (is_empty_difference (difference_over (graph_of old) (graph_of new) (wanted_in watch)) ≡ false)
    × IsFull difference.added × IsFull difference.obsolete
