-- How a talk that was told all that was sent on its link fits the space.
use Rattle.std.specs.Prelude.{◌≡◌, ◌⊎◌, ℕ, zero, suc, ◌+◌, ◌≤◌, ◌<◌, List, [], ◌∷◌, ◌++◌, length, map, Option, Some, None, ⊤}
use Rattle.std.specs.List.{AllByRecursion}
use Rattle.std.specs.Fmt.{decimal}
use Rattle.m3_terms.specs.declared.triple.Triple.{Triple}
use Rattle.link_table.specs.Links.{Link}
use Rattle.ssap_shape.specs.declared.request.Wish.TheVariants.{Sparql}
use Rattle.ssap_shape.specs.declared.request.Request.{Request as Asked}
use Rattle.ssap_shape.specs.declared.request.Arrived.{Arrived}
use Rattle.ssap_shape.specs.declared.request.Arrived.TheVariants.{Request}
use Rattle.session_core.specs.Space.{Space}
use Rattle.session_core.specs.Steps.{step}
use Rattle.session_core.specs.Runs.{run, sent_by}
use Rattle.session_core.specs.Subscriptions.{Subscription, wanted_by, answer_over}
use Rattle.session_core.specs.declared.call.Call.{Call}
use Rattle.ssap_shape.specs.declared.reply.Incoming.{Incoming}
use Rattle.kp_client.specs.Mirroring.{Mirroring}
use Rattle.kp_talk.specs.declared.errand.Task.{Task}
use Rattle.kp_talk.specs.declared.errand.Task.TheVariants.{Insert, Query, Watch}
use Rattle.kp_talk.specs.declared.errand.Errand.{Errand}
use Rattle.talk_laws.specs.Truth.{delivered_on, IsTrueLine, IsUnbroken}
use Rattle.talk_laws.proofs.Stages.{Point, Joins, Asks, Follows, Unsubscribes, LeavesAsked, LeavesWatched, Stage, At, Closed, join, second, unsubscribe, leave, written, point_of, through, lines_on}
use Rattle.talk_laws.proofs.Plain.{IsPlain, spelled}
use Rattle.talk_laws.proofs.LinksTakeOrClose.{IsShut}
use Rattle.talk_laws.proofs.QuietSteps.{Vacant, Housed}

-- a subscription is the one that the errand's request made
pub record IsOurs (name : List ℕ) (errand : Errand) (text : List ℕ) (s : Subscription) : Type 0 where
  pub named : name ≡ errand.space
  pub node : s.node ≡ errand.node
  pub transaction : s.transaction ≡ decimal 2
  pub asks : wanted_by (Sparql text) ≡ Some s.wanted

-- who lives on the link, behind so many deliveries on it
abbrev pub Holds : List ℕ → Errand → List ℕ → ℕ → Space → ℕ → Option Subscription → Type 0
Holds name errand text link space count None = Vacant link space
Holds name errand text link space count (Some s) = Housed link space s × IsOurs name errand text s × (2 ≤ count)

-- a mirror has the number, the count and the answer of a subscription
pub record Mirrors (graph : List Triple) (s : Subscription) (mirror : Mirroring) : Type 0 where
  pub subscription : mirror.subscription ≡ s.number
  pub applied : mirror.applied ≡ s.sequence
  pub answer : mirror.answer ≡ answer_over graph s.wanted

-- while indications are awaited, the subscription lives, or the link is shut
abbrev pub FitsMirror : List Triple → List Link → ℕ → ℕ → Mirroring → Option Subscription → Type 0
FitsMirror graph links link count mirror None = IsShut links link
FitsMirror graph links link count mirror (Some s) = Mirrors graph s mirror × (count ≡ 2)

-- while a confirm is awaited, all requests but the last were delivered, or more
abbrev pub FitsAt : Errand → List Triple → List Link → ℕ → ℕ → Option Subscription → Point → Type 0
FitsAt errand graph links link count s Joins = ⊤
FitsAt errand graph links link count s Asks = 1 ≤ count
FitsAt errand graph links link count s (Follows left mirror) = FitsMirror graph links link count mirror s
FitsAt errand graph links link count s (Unsubscribes number) = 2 ≤ count
FitsAt errand graph links link count s LeavesAsked = 2 ≤ count
FitsAt errand graph links link count s (LeavesWatched number) = 3 ≤ count

-- what is over is not broken, or more was delivered than was written
abbrev pub Fits : Errand → List Triple → List Link → ℕ → ℕ → Option Subscription → Stage → Type 0
Fits errand graph links link count s (At point) = FitsAt errand graph links link count s point
Fits errand graph links link count s (Closed point finish) = IsUnbroken finish ⊎ (length (written errand point) < count)

-- a talk on this task comes to this point
abbrev pub Suits : Task → Point → Type 0
Suits (Insert triple) point = ⊥
Suits (Query text) Joins = ⊤
Suits (Query text) Asks = ⊤
Suits (Query text) (Follows left mirror) = ⊥
Suits (Query text) (Unsubscribes number) = ⊥
Suits (Query text) LeavesAsked = ⊤
Suits (Query text) (LeavesWatched number) = ⊥
Suits (Watch text count) Joins = ⊤
Suits (Watch text count) Asks = ⊤
Suits (Watch text count) (Follows left mirror) = ⊤
Suits (Watch text count) (Unsubscribes number) = ⊤
Suits (Watch text count) LeavesAsked = ⊥
Suits (Watch text count) (LeavesWatched number) = ⊤

-- what is delivered as the third message and as the fourth
abbrev pub IsThird : Errand → Task → Arrived → Type 0
IsThird errand (Insert triple) arrived = ⊥
IsThird errand (Query text) arrived = arrived ≡ Request (leave errand 3)
IsThird errand (Watch text count) arrived = (number : ℕ) × (arrived ≡ Request (unsubscribe errand number))

abbrev pub IsFourth : Errand → Task → Arrived → Type 0
IsFourth errand (Insert triple) arrived = ⊥
IsFourth errand (Query text) arrived = ⊥
IsFourth errand (Watch text count) arrived = arrived ≡ Request (leave errand 4)

-- what is delivered behind so many messages
abbrev pub IsDue : Errand → List Asked → ℕ → Arrived → Type 0
IsDue errand requests zero arrived = arrived ≡ Request (join errand)
IsDue errand requests (suc zero) arrived = (arrived ≡ Request (second errand)) × ((others : List Asked) × (requests ≡ join errand ∷ second errand ∷ others))
IsDue errand requests (suc (suc zero)) arrived = IsThird errand errand.task arrived
IsDue errand requests (suc (suc (suc zero))) arrived = IsFourth errand errand.task arrived
IsDue errand requests (suc (suc (suc (suc count)))) arrived = ⊥

abbrev pub AreDue : Errand → List Asked → ℕ → List Arrived → Type 0
AreDue errand requests count [] = ⊤
AreDue errand requests count (arrived ∷ later) = IsDue errand requests count arrived × AreDue errand requests (suc count) later

-- what is fixed: the name of the space, the history, the link, the errand with its text, and the requests of the talk
pub record Given : Type 0 where
  pub name : List ℕ
  pub history : List Call
  pub link : ℕ
  pub errand : Errand
  pub text : List ℕ
  pub requests : List Asked

-- from a space, with who lives on the link, to another what is told is plain, what is printed is true, and the talk fits again
pub record Goes (given : Given) (count : ℕ) (stage : Stage) (sent : List (List ℕ)) (new : Space) : Type 0 where
  pub told : List Incoming
  pub sends : sent ≡ map spelled told
  pub plain : AllByRecursion IsPlain told
  pub lines : AllByRecursion (IsTrueLine given.name given.history given.link given.text given.requests) (lines_on given.errand stage told)
  pub lives : Option Subscription
  pub holds : Holds given.name given.errand given.text given.link new count lives
  pub fits : Fits given.errand new.graph new.links given.link count lives (through given.errand stage told)
  pub suits : Suits given.errand.task (point_of (through given.errand stage told))

-- a call in the history goes so
abbrev pub CallGoes : Given → Type 0
CallGoes given = (past later : List Call) (call : Call) (count : ℕ) (stage : Stage) (lives : Option Subscription)
    → given.history ≡ past ++ call ∷ later
    → AreDue given.errand given.requests count (delivered_on (call ∷ []) given.link)
    → Holds given.name given.errand given.text given.link (run given.name past) count lives
    → Fits given.errand (run given.name past).graph (run given.name past).links given.link count lives stage
    → Suits given.errand.task (point_of stage)
    → Goes given (count + length (delivered_on (call ∷ []) given.link)) stage (sent_by (run given.name past) call given.link) (step (run given.name past) call).space
