-- What a task asks for, and what follows from its confirm.
use Rattle.std.proofs.Common.{◌≡◌, ap, refl, ℕ, List}
use Rattle.ssap_shape.specs.declared.reply.Incoming.{Incoming}
use Rattle.ssap_shape.specs.declared.reply.Confirm.{Confirm}
use Rattle.kp_talk.specs.Talk.{Inserted, performs, asks, request_at, prints, leaves, answered, subscribed}
use Rattle.kp_talk.specs.Stages.{ask_of, transaction_of, goal_of, goal_transaction, task_next}
use Rattle.kp_talk.specs.declared.errand.Errand.{Errand}
use Rattle.kp_talk.specs.declared.errand.Task.{Task}
use Rattle.kp_talk.specs.declared.errand.Task.TheVariants.{Insert, Query, Watch}
use Rattle.kp_talk.specs.declared.finish.Finish.{Finish}
use Rattle.kp_talk.specs.declared.stage.Goal.TheVariants as goal

-- the transaction of a goal is that of its task
pub goal_task : (task : Task) → goal_transaction (goal_of task) ≡ transaction_of task
goal_task (Insert triple) = refl
goal_task (Query text) = refl
goal_task (Watch text count) = refl

-- a task is performed by its request, and what follows from its confirm
pub performs_is : (last : Finish) (errand : Errand) (task : Task) (more : List Incoming)
    → performs last errand task more ≡ asks last (request_at errand 2 (transaction_of task) (ask_of task)) (task_next last errand task) more
performs_is last errand (Insert triple) more = refl
performs_is last errand (Query text) more = refl
performs_is last errand (Watch text count) more = refl

-- what follows from the confirm of an insert
pub next_insert : (last : Finish) (errand : Errand) (task : Task) (confirm : Confirm) (more : List Incoming) → goal_of task ≡ goal.Insert
    → task_next last errand task confirm more ≡ prints Inserted (leaves last errand 3 more)
next_insert last errand (Insert triple) confirm more is = refl
next_insert last errand (Query text) confirm more is = absurd (cc)
next_insert last errand (Watch text count) confirm more is = absurd (cc)

-- what follows from the confirm of a query
pub next_query : (last : Finish) (errand : Errand) (task : Task) (confirm : Confirm) (more : List Incoming) → goal_of task ≡ goal.Query
    → task_next last errand task confirm more ≡ answered last errand confirm.answer more
next_query last errand (Insert triple) confirm more is = absurd (cc)
next_query last errand (Query text) confirm more is = refl
next_query last errand (Watch text count) confirm more is = absurd (cc)

-- what follows from the confirm of a subscription
pub next_watch : (last : Finish) (errand : Errand) (task : Task) (count : ℕ) (confirm : Confirm) (more : List Incoming) → goal_of task ≡ goal.Watch count
    → task_next last errand task confirm more ≡ subscribed last errand count confirm.subscription confirm.answer more
next_watch last errand (Insert triple) count confirm more is = absurd (cc)
next_watch last errand (Query text) count confirm more is = absurd (cc)
next_watch last errand (Watch text counted) count confirm more is =
    let same : counted ≡ count = cc in ap (λ n. subscribed last errand n confirm.subscription confirm.answer more) same
