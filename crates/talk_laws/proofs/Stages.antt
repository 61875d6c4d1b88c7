-- A talk on a query as a walk from stage to stage, one for each message that is told.
use Rattle.std.proofs.Common.{◌≡◌, ℕ, zero, suc, ◌+◌, ◌==◌, Bool, true, false, List, [], ◌∷◌, ◌++◌, Option, Some, None, if◌then◌else◌, refl, sym, ap, ◌∙◌, append_assoc}
use Rattle.std.specs.Fmt.{decimal}
use Rattle.ssap_items.specs.declared.heads.Transaction as transaction
use Rattle.answer_bodies.specs.declared.answer.Answer.{Answer}
use Rattle.answer_bodies.specs.declared.answer.Difference.{Difference}
use Rattle.ssap_shape.specs.declared.request.Wish as wish
use Rattle.ssap_shape.specs.declared.request.Ask as ask
use Rattle.ssap_shape.specs.declared.request.Request.{Request}
use Rattle.ssap_shape.specs.declared.reply.Confirm.{Confirm}
use Rattle.ssap_shape.specs.declared.reply.Indication.{Indication}
use Rattle.ssap_shape.specs.declared.reply.Indication.TheVariants.{Changes, Ended}
use Rattle.ssap_shape.specs.Told.{is_success}
use Rattle.ssap_shape.specs.declared.reply.Incoming.{Incoming}
use Rattle.ssap_shape.specs.declared.reply.Incoming.TheVariants.{Confirm as Confirmed, Indication as Indicated, Other}
use Rattle.kp_client.specs.Asked.{is_awaited}
use Rattle.kp_client.specs.Mirroring.{Mirroring, mirror_of, mirrored, refusal}
use Rattle.kp_client.specs.declared.fault.MirrorFault.{MirrorFault}
use Rattle.kp_talk.specs.declared.errand.Task.{Task}
use Rattle.kp_talk.specs.declared.errand.Task.TheVariants.{Insert, Query, Watch}
use Rattle.kp_talk.specs.declared.errand.Errand.{Errand}
use Rattle.kp_talk.specs.declared.finish.Finish.{Finish}
use Rattle.kp_talk.specs.declared.finish.Finish.TheVariants.{Done, Refused, Ended as End, BrokenMessage}
use Rattle.kp_talk.specs.Talk.{Line, Answered, request_at, broken}

-- what a talk awaits
pub data Point : Type 0 where
  Joins : Point
  Asks : Point
  Follows : (count : ℕ) (mirror : Mirroring) → Point
  Unsubscribes : (number : ℕ) → Point
  LeavesAsked : Point
  LeavesWatched : (number : ℕ) → Point

-- a talk awaits something, or is over, and then what it awaited last
pub data Stage : Type 0 where
  At : (point : Point) → Stage
  Closed : (point : Point) (finish : Finish) → Stage

-- a stage that a message leads to, and the lines that are printed on the way
pub record Move : Type 0 where
  pub stage : Stage
  pub lines : List Line

-- the four kinds of requests
abbrev pub join : Errand → Request
join errand = request_at errand 1 transaction.TheVariants.Join ask.TheVariants.Join

abbrev pub second_of : Errand → Task → Request
second_of errand (Insert triple) = join errand
second_of errand (Query text) = request_at errand 2 transaction.TheVariants.Query (ask.TheVariants.Query (wish.TheVariants.Sparql text))
second_of errand (Watch text count) = request_at errand 2 transaction.TheVariants.Subscribe (ask.TheVariants.Subscribe (wish.TheVariants.Sparql text))

abbrev pub second : Errand → Request
second errand = second_of errand errand.task

abbrev pub unsubscribe : Errand → ℕ → Request
unsubscribe errand number = request_at errand 3 transaction.TheVariants.Unsubscribe (ask.TheVariants.Unsubscribe (decimal number))

abbrev pub leave : Errand → ℕ → Request
leave errand number = request_at errand number transaction.TheVariants.Leave ask.TheVariants.Leave

-- the requests that were written by then
abbrev pub written : Errand → Point → List Request
written errand Joins = join errand ∷ []
written errand Asks = join errand ∷ second errand ∷ []
written errand (Follows count mirror) = join errand ∷ second errand ∷ []
written errand (Unsubscribes number) = join errand ∷ second errand ∷ unsubscribe errand number ∷ []
written errand LeavesAsked = join errand ∷ second errand ∷ leave errand 3 ∷ []
written errand (LeavesWatched number) = join errand ∷ second errand ∷ unsubscribe errand number ∷ leave errand 4 ∷ []

abbrev pub point_of : Stage → Point
point_of (At point) = point
point_of (Closed point finish) = point

-- how a talk at this stage finishes where the input ends
abbrev pub finish_at : Finish → Stage → Finish
finish_at last (At point) = last
finish_at last (Closed point finish) = finish

-- the stage behind an answer, with so many changes to be awaited
abbrev pub following : ℕ → Mirroring → Stage
following zero mirror = At (Unsubscribes mirror.subscription)
following (suc count) mirror = At (Follows count mirror)

abbrev pub to : Stage → Move
to stage = record { stage = stage; lines = [] }

abbrev pub watched : Point → ℕ → Option ℕ → Option Answer → Move
watched point count None answer = to (Closed point BrokenMessage)
watched point count (Some number) None = to (Closed point BrokenMessage)
watched point count (Some number) (Some answer) = record { stage = following count (mirror_of number answer); lines = Answered 0 answer ∷ [] }

abbrev pub queried : Point → Option Answer → Move
queried point None = to (Closed point BrokenMessage)
queried point (Some answer) = record { stage = At LeavesAsked; lines = Answered 0 answer ∷ [] }

-- the move at the confirm with success of the second request
abbrev pub performed : Task → Confirm → Move
performed (Insert triple) confirm = to (Closed Asks BrokenMessage)
performed (Query text) confirm = queried Asks confirm.answer
performed (Watch text count) confirm = watched Asks count confirm.subscription confirm.answer

-- the move at a confirm with success
abbrev pub succeeds : Task → Point → Confirm → Move
succeeds task Joins confirm = to (At Asks)
succeeds task Asks confirm = performed task confirm
succeeds task (Follows count mirror) confirm = to (Closed (Follows count mirror) BrokenMessage)
succeeds task (Unsubscribes number) confirm = to (At (LeavesWatched number))
succeeds task LeavesAsked confirm = to (Closed LeavesAsked Done)
succeeds task (LeavesWatched number) confirm = to (Closed (LeavesWatched number) Done)

-- the request whose confirm is awaited
abbrev pub awaited : Errand → Point → Request
awaited errand Joins = join errand
awaited errand Asks = second errand
awaited errand (Follows count mirror) = second errand
awaited errand (Unsubscribes number) = unsubscribe errand number
awaited errand LeavesAsked = leave errand 3
awaited errand (LeavesWatched number) = leave errand 4

-- the move at a confirm, by whether it is the one that is awaited and tells success
abbrev pub judged : Bool → Bool → Task → Point → Confirm → Move
judged true true task point confirm = succeeds task point confirm
judged true false task point confirm = to (Closed point (Refused confirm.status))
judged false success task point confirm = to (Closed point BrokenMessage)

abbrev pub by_confirm : Errand → Point → Confirm → Move
by_confirm errand point confirm = judged (is_awaited (awaited errand point).heads confirm.heads) (is_success confirm.status) errand.task point confirm

abbrev pub applied : ℕ → Mirroring → Difference → Option MirrorFault → Move
applied count mirror difference None = record {
  stage = following count (mirrored mirror difference);
  lines = Answered (mirror.applied + 1) (mirrored mirror difference).answer ∷ [];
}
applied count mirror difference (Some refused) = to (Closed (Follows count mirror) (broken refused))

-- the move at an indication while indications are awaited
abbrev pub by_indication : ℕ → Mirroring → Indication → Move
by_indication count mirror (Changes heads subscription sequence difference) = applied count mirror difference (refusal mirror subscription sequence difference)
by_indication count mirror (Ended heads subscription status) =
    if subscription == mirror.subscription then to (Closed (Follows count mirror) (End status)) else to (At (Follows count mirror))

-- indications are passed over while a confirm is awaited
abbrev pub indicated : Point → Indication → Move
indicated Joins indication = to (At Joins)
indicated Asks indication = to (At Asks)
indicated (Follows count mirror) indication = by_indication count mirror indication
indicated (Unsubscribes number) indication = to (At (Unsubscribes number))
indicated LeavesAsked indication = to (At LeavesAsked)
indicated (LeavesWatched number) indication = to (At (LeavesWatched number))

abbrev pub confirmed_at : Errand → Point → Confirm → Move
confirmed_at errand Joins confirm = by_confirm errand Joins confirm
confirmed_at errand Asks confirm = by_confirm errand Asks confirm
confirmed_at errand (Follows count mirror) confirm = to (Closed (Follows count mirror) BrokenMessage)
confirmed_at errand (Unsubscribes number) confirm = by_confirm errand (Unsubscribes number) confirm
confirmed_at errand LeavesAsked confirm = by_confirm errand LeavesAsked confirm
confirmed_at errand (LeavesWatched number) confirm = by_confirm errand (LeavesWatched number) confirm

-- the move at what is told
abbrev pub move : Errand → Stage → Incoming → Move
move errand (At point) (Confirmed confirm) = confirmed_at errand point confirm
move errand (At point) (Indicated indication) = indicated point indication
move errand (At point) (Other heads) = to (Closed point BrokenMessage)
move errand (Closed point finish) told = to (Closed point finish)

-- the stage behind what is told
abbrev pub through : Errand → Stage → List Incoming → Stage
through errand stage [] = stage
through errand stage (one ∷ told) = through errand (move errand stage one).stage told

-- the lines that are printed on the way
abbrev pub lines_on : Errand → Stage → List Incoming → List Line
lines_on errand stage [] = []
lines_on errand stage (one ∷ told) = (move errand stage one).lines ++ lines_on errand (move errand stage one).stage told

pub through_more : (errand : Errand) (stage : Stage) (xs ys : List Incoming) → through errand stage (xs ++ ys) ≡ through errand (through errand stage xs) ys
through_more errand stage [] ys = refl
through_more errand stage (x ∷ xs) ys = through_more errand (move errand stage x).stage xs ys

pub lines_more : (errand : Errand) (stage : Stage) (xs ys : List Incoming)
    → lines_on errand stage (xs ++ ys) ≡ lines_on errand stage xs ++ lines_on errand (through errand stage xs) ys
lines_more errand stage [] ys = refl
lines_more errand stage (x ∷ xs) ys =
    let next = (move errand stage x).stage in
    ap (λ l. (move errand stage x).lines ++ l) (lines_more errand next xs ys)
    ∙ sym (append_assoc (move errand stage x).lines (lines_on errand next xs) (lines_on errand (through errand next xs) ys))

-- what is over stays so
pub over_stays : (errand : Errand) (point : Point) (finish : Finish) (told : List Incoming) → through errand (Closed point finish) told ≡ Closed point finish
over_stays errand point finish [] = refl
over_stays errand point finish (one ∷ told) = over_stays errand point finish told
