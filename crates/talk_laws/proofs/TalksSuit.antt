-- A talk comes to the points of its task alone.
use Rattle.std.proofs.Common.{ℕ, zero, suc, ◌==◌, Bool, true, false, List, [], ◌∷◌, Option, Some, None, if◌then◌else◌}
use Rattle.answer_bodies.specs.declared.answer.Answer.{Answer}
use Rattle.answer_bodies.specs.declared.answer.Difference.{Difference}
use Rattle.ssap_shape.specs.declared.reply.Confirm.{Confirm}
use Rattle.ssap_shape.specs.declared.reply.Indication.{Indication}
use Rattle.ssap_shape.specs.declared.reply.Indication.TheVariants.{Changes, Ended}
use Rattle.ssap_shape.specs.Told.{is_success}
use Rattle.ssap_shape.specs.declared.reply.Incoming.{Incoming}
use Rattle.ssap_shape.specs.declared.reply.Incoming.TheVariants.{Confirm as Confirmed, Indication as Indicated, Other}
use Rattle.kp_client.specs.Asked.{is_awaited}
use Rattle.kp_client.specs.Mirroring.{Mirroring, mirrored, refusal}
use Rattle.kp_client.specs.declared.fault.MirrorFault.{MirrorFault}
use Rattle.kp_talk.specs.declared.errand.Task.{Task}
use Rattle.kp_talk.specs.declared.errand.Task.TheVariants.{Insert, Query, Watch}
use Rattle.kp_talk.specs.declared.errand.Errand.{Errand}
use Rattle.kp_talk.specs.declared.finish.Finish.TheVariants.{Ended as End}
use Rattle.talk_laws.proofs.Stages.{Point, Joins, Asks, Follows, Unsubscribes, LeavesAsked, LeavesWatched, Stage, At, Closed, point_of, following, performed, watched, queried, succeeds, awaited, judged, by_confirm, applied, by_indication, move, to, through}
use Rattle.talk_laws.proofs.Fits.{Suits}

unsubscribes_so : (task : Task) (count : ℕ) (mirror : Mirroring) (number : ℕ) → Suits task (Follows count mirror) → Suits task (Unsubscribes number)
unsubscribes_so (Insert triple) count mirror number s = s
unsubscribes_so (Query text) count mirror number s = s
unsubscribes_so (Watch text most) count mirror number s = tt

follows_so : (task : Task) (count : ℕ) (mirror : Mirroring) (more : ℕ) (other : Mirroring) → Suits task (Follows count mirror) → Suits task (Follows more other)
follows_so (Insert triple) count mirror more other s = s
follows_so (Query text) count mirror more other s = s
follows_so (Watch text most) count mirror more other s = tt

leaves_so : (task : Task) (number : ℕ) → Suits task (Unsubscribes number) → Suits task (LeavesWatched number)
leaves_so (Insert triple) number s = s
leaves_so (Query text) number s = s
leaves_so (Watch text most) number s = tt

asks_so : (task : Task) → Suits task Joins → Suits task Asks
asks_so (Insert triple) s = s
asks_so (Query text) s = tt
asks_so (Watch text most) s = tt

following_suits : (task : Task) (count : ℕ) (mirror : Mirroring) (left : ℕ) (first : Mirroring) → Suits task (Follows left first) → Suits task (point_of (following count mirror))
following_suits task zero mirror left first s = unsubscribes_so task left first mirror.subscription s
following_suits task (suc count) mirror left first s = follows_so task left first count mirror s

watched_suits : (text : List ℕ) (most count : ℕ) (subscription : Option ℕ) (answer : Option Answer)
    → Suits (Watch text most) (point_of (watched Asks count subscription answer).stage)
watched_suits text most count None answer = tt
watched_suits text most count (Some number) None = tt
watched_suits text most zero (Some number) (Some answer) = tt
watched_suits text most (suc count) (Some number) (Some answer) = tt

queried_suits : (text : List ℕ) (answer : Option Answer) → Suits (Query text) (point_of (queried Asks answer).stage)
queried_suits text None = tt
queried_suits text (Some answer) = tt

performed_suits : (task : Task) (confirm : Confirm) → Suits task Asks → Suits task (point_of (performed task confirm).stage)
performed_suits (Insert triple) confirm s = s
performed_suits (Query text) confirm s = queried_suits text confirm.answer
performed_suits (Watch text count) confirm s = watched_suits text count count confirm.subscription confirm.answer

succeeds_suits : (task : Task) (point : Point) (confirm : Confirm) → Suits task point → Suits task (point_of (succeeds task point confirm).stage)
succeeds_suits task Joins confirm s = asks_so task s
succeeds_suits task Asks confirm s = performed_suits task confirm s
succeeds_suits task (Follows count mirror) confirm s = s
succeeds_suits task (Unsubscribes number) confirm s = leaves_so task number s
succeeds_suits task LeavesAsked confirm s = s
succeeds_suits task (LeavesWatched number) confirm s = s

judged_suits : (awaits_it success : Bool) (task : Task) (point : Point) (confirm : Confirm) → Suits task point → Suits task (point_of (judged awaits_it success task point confirm).stage)
judged_suits true true task point confirm s = succeeds_suits task point confirm s
judged_suits true false task point confirm s = s
judged_suits false success task point confirm s = s

confirmed_suits : (errand : Errand) (point : Point) (confirm : Confirm) → Suits errand.task point → Suits errand.task (point_of (by_confirm errand point confirm).stage)
confirmed_suits errand point confirm s =
    judged_suits (is_awaited (awaited errand point).heads confirm.heads) (is_success confirm.status) errand.task point confirm s

applied_suits : (task : Task) (count : ℕ) (mirror : Mirroring) (difference : Difference) (fault : Option MirrorFault) → Suits task (Follows count mirror)
    → Suits task (point_of (applied count mirror difference fault).stage)
applied_suits task count mirror difference None s = following_suits task count (mirrored mirror difference) count mirror s
applied_suits task count mirror difference (Some fault) s = s

indicated_suits : (task : Task) (count : ℕ) (mirror : Mirroring) (indication : Indication) → Suits task (Follows count mirror)
    → Suits task (point_of (by_indication count mirror indication).stage)
indicated_suits task count mirror (Changes heads subscription sequence difference) s = applied_suits task count mirror difference (refusal mirror subscription sequence difference) s
indicated_suits task count mirror (Ended heads subscription status) s = by (subscription == mirror.subscription)
  where
    by : (b : Bool) → Suits task (point_of (if b then to (Closed (Follows count mirror) (End status)) else to (At (Follows count mirror))).stage)
    by true = s
    by false = s

pub move_suits : (errand : Errand) (stage : Stage) (one : Incoming) → Suits errand.task (point_of stage) → Suits errand.task (point_of (move errand stage one).stage)
move_suits errand (At Joins) (Confirmed confirm) s = confirmed_suits errand Joins confirm s
move_suits errand (At Asks) (Confirmed confirm) s = confirmed_suits errand Asks confirm s
move_suits errand (At (Follows count mirror)) (Confirmed confirm) s = s
move_suits errand (At (Unsubscribes number)) (Confirmed confirm) s = confirmed_suits errand (Unsubscribes number) confirm s
move_suits errand (At LeavesAsked) (Confirmed confirm) s = confirmed_suits errand LeavesAsked confirm s
move_suits errand (At (LeavesWatched number)) (Confirmed confirm) s = confirmed_suits errand (LeavesWatched number) confirm s
move_suits errand (At Joins) (Indicated indication) s = s
move_suits errand (At Asks) (Indicated indication) s = s
move_suits errand (At (Follows count mirror)) (Indicated indication) s = indicated_suits errand.task count mirror indication s
move_suits errand (At (Unsubscribes number)) (Indicated indication) s = s
move_suits errand (At LeavesAsked) (Indicated indication) s = s
move_suits errand (At (LeavesWatched number)) (Indicated indication) s = s
move_suits errand (At point) (Other heads) s = s
move_suits errand (Closed point finish) one s = s

-- whatever is told
pub suits_through : (errand : Errand) (stage : Stage) (told : List Incoming) → Suits errand.task (point_of stage) → Suits errand.task (point_of (through errand stage told))
suits_through errand stage [] s = s
suits_through errand stage (one ∷ told) s = suits_through errand (move errand stage one).stage told (move_suits errand stage one s)
