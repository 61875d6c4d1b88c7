-- What a subscription was answered at first, and the changes that it was told since.
use Rattle.std.specs.Prelude.{◌≡◌, ℕ, ◌+◌, false, ◌==◌, if◌then◌else◌, List, [], ◌∷◌, ◌++◌, length, map, Contains, Option, Some, None, ⊤}
use Rattle.link_table.specs.Links.{is_open, state_of}
use Rattle.answer_bodies.specs.Differences.{folds, is_empty_difference, HaveNothingInCommon}
use Rattle.answer_bodies.specs.declared.answer.Answer.{Answer}
use Rattle.m3_terms.specs.declared.triple.Triple.{Triple}
use Rattle.ssap_shape.specs.declared.request.Ask.{Ask}
use Rattle.ssap_shape.specs.declared.request.Ask.TheVariants.{Join, Leave, Update, Query, Subscribe, Unsubscribe}
use Rattle.ssap_shape.specs.declared.request.Request.{Request}
use Rattle.ssap_shape.specs.declared.request.Arrived.{Arrived}
use Rattle.ssap_shape.specs.declared.request.Arrived.TheVariants as arrived
use Rattle.session_core.specs.Space.{Space, empty_space}
use Rattle.session_core.specs.Subscriptions.{Subscription, Wanted, wanted_by, answer_over, subscription_at, numbers_of}
use Rattle.session_core.specs.Requests.{verdict, is_success, done_with, due_with}
use Rattle.session_core.specs.Queues.{queue}
use Rattle.session_core.specs.Following.{Change, change_among}
use Rattle.session_core.specs.Steps.{step}
use Rattle.session_core.specs.Runs.{run}
use Rattle.session_core.specs.declared.call.Call.{Call}
use Rattle.session_core.specs.declared.call.Call.TheVariants.{NewLink, Deliver, End, Lost, Take}

-- how a subscription began: what it asks for, and its first answer
pub record Beginning : Type 0 where
  pub wanted : Wanted
  pub answer : Answer

-- the beginning of what a wish asks for, over a graph
abbrev pub beginning_of : List Triple → Option Wanted → List Beginning
beginning_of graph None = []
beginning_of graph (Some wanted) = record { wanted = wanted; answer = answer_over graph wanted } ∷ []

-- the beginning of the subscription of a number, where this is granted and makes it
abbrev pub begun_by_ask : Space → Ask → ℕ → List Beginning
begun_by_ask space Join number = []
begun_by_ask space Leave number = []
begun_by_ask space (Update remove insert confirm) number = []
begun_by_ask space (Query wish) number = []
begun_by_ask space (Subscribe wish) number = if (space.numbered + 1) == number then beginning_of space.graph (wanted_by wish) else []
begun_by_ask space (Unsubscribe text) number = []

-- the changes that the subscription of a number is told, where this is granted to a request on a link
abbrev pub changes_by_ask : Space → ℕ → Request → Ask → ℕ → List Change
changes_by_ask space link request Join number = []
changes_by_ask space link request Leave number = []
changes_by_ask space link request (Update remove insert confirm) number =
    change_among space.graph (queue (done_with space link request (verdict space request)) link (due_with space request (verdict space request)))
    (numbers_of space.subscriptions) number
changes_by_ask space link request (Query wish) number = []
changes_by_ask space link request (Subscribe wish) number = []
changes_by_ask space link request (Unsubscribe text) number = []

-- the beginning that what arrived on an open link makes
abbrev pub begun_by_arrived : Space → Arrived → ℕ → List Beginning
begun_by_arrived space (arrived.Request request) number = if is_success (verdict space request) then begun_by_ask space request.ask number else []
begun_by_arrived space (arrived.Wrong heads status) number = []
begun_by_arrived space arrived.NotRequest number = []

-- the changes that are told for what arrived on an open link
abbrev pub changes_by_arrived : Space → ℕ → Arrived → ℕ → List Change
changes_by_arrived space link (arrived.Request request) number = if is_success (verdict space request) then changes_by_ask space link request request.ask number else []
changes_by_arrived space link (arrived.Wrong heads status) number = []
changes_by_arrived space link arrived.NotRequest number = []

-- the beginning of the subscription of a number, where a call makes it
abbrev pub begun_by : Space → Call → ℕ → List Beginning
begun_by space NewLink number = []
begun_by space (Deliver link arrived) number = if is_open (state_of space.links link) then begun_by_arrived space arrived number else []
begun_by space (End link) number = []
begun_by space (Lost link) number = []
begun_by space (Take link) number = []

-- the changes that a call tells the subscription of a number
abbrev pub changes_by : Space → Call → ℕ → List Change
changes_by space NewLink number = []
changes_by space (Deliver link arrived) number = if is_open (state_of space.links link) then changes_by_arrived space link arrived number else []
changes_by space (End link) number = []
changes_by space (Lost link) number = []
changes_by space (Take link) number = []

-- the beginnings of a number among calls, one after another
abbrev pub begun_from : Space → List Call → ℕ → List Beginning
begun_from space [] number = []
begun_from space (call ∷ calls) number = begun_by space call number ++ begun_from (step space call).space calls number

-- the changes that calls tell the subscription of a number, one after another
abbrev pub changes_from : Space → List Call → ℕ → List Change
changes_from space [] number = []
changes_from space (call ∷ calls) number = changes_by space call number ++ changes_from (step space call).space calls number

-- how the subscription of a number began in a history: one beginning, or none
abbrev pub begun : List ℕ → List Call → ℕ → List Beginning
begun name history number = begun_from (empty_space name) history number

-- the changes that the subscription of a number was told in a history, in order
abbrev pub changes : List ℕ → List Call → ℕ → List Change
changes name history number = changes_from (empty_space name) history number

-- changes are numbered from this on, each by one more than the one before
abbrev pub AreNumberedFrom : ℕ → List Change → Type 0
AreNumberedFrom first [] = ⊤
AreNumberedFrom first (change ∷ changes) = (change.sequence ≡ first) × AreNumberedFrom (first + 1) changes

-- a subscription that lives was followed: what it was told, folded over its first answer, gives the answer over the graph
pub record IsFollowed (graph : List Triple) (subscription : Subscription) (beginnings : List Beginning) (changes : List Change) : Type 0 where
  pub first : Answer
  pub began : beginnings ≡ record { wanted = subscription.wanted; answer = first } ∷ []
  pub folded : folds first (map (λ change. change.difference) changes) ≡ answer_over graph subscription.wanted
  pub numbered : AreNumberedFrom 1 changes
  pub last : subscription.sequence ≡ length changes
  pub filled : (change : Change) → Contains changes change → is_empty_difference change.difference ≡ false
  pub apart : (change : Change) → Contains changes change → HaveNothingInCommon change.difference.added change.difference.obsolete

-- whatever the history, each subscription that lives after it was followed
abbrev pub AnswersAreFollowed : Type 0
AnswersAreFollowed = (name : List ℕ) (history : List Call) (number : ℕ) (subscription : Subscription)
    → subscription_at (run name history).subscriptions number ≡ Some subscription
    → IsFollowed (run name history).graph subscription (begun name history number) (changes name history number)
