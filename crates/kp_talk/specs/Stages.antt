-- The stages of a talk, and what is left of it at each.
use Rattle.std.specs.Prelude.{◌≡◌, ℕ, ◌+◌, ◌<◌, ◌^◌, true, ◌∷◌, ◌++◌, List, [], Some, None, ⊤}
use Rattle.std.specs.Fmt.{decimal}
use Rattle.m3_terms.specs.Term.{IsUri}
use Rattle.ssap_items.specs.declared.heads.Transaction.{Transaction}
use Rattle.ssap_items.specs.declared.heads.Transaction as transaction
use Rattle.ssap_shape.specs.declared.request.Ask.{Ask}
use Rattle.ssap_shape.specs.declared.request.Ask as ask
use Rattle.ssap_shape.specs.declared.request.Wish as wish
use Rattle.ssap_shape.specs.declared.request.Request.{Request}
use Rattle.ssap_shape.specs.declared.reply.Confirm.{Confirm}
use Rattle.ssap_shape.specs.declared.reply.Incoming.{Incoming}
use Rattle.kp_client.specs.Asked.{Asking}
use Rattle.kp_talk.specs.Talk.{Line, Inserted, Talk, finished, request_at, template_of, awaits, leaves, follows, answered, subscribed, performs, prints}
use Rattle.kp_talk.specs.declared.errand.Errand.{Errand}
use Rattle.kp_talk.specs.declared.errand.Task.{Task}
use Rattle.kp_talk.specs.declared.errand.Task.TheVariants.{Insert, Query, Watch}
use Rattle.kp_talk.specs.declared.finish.Finish.{Finish}
use Rattle.kp_talk.specs.declared.finish.Finish.TheVariants as finish
use Rattle.kp_talk.specs.declared.stage.Goal.{Goal}
use Rattle.kp_talk.specs.declared.stage.Goal.TheVariants as goal
use Rattle.kp_talk.specs.declared.stage.Stage.{Stage}
use Rattle.kp_talk.specs.declared.stage.Stage.TheVariants.{Joining, Asking as Performing, Following, Unsubscribing, Leaving}
use Rattle.kp_talk.specs.declared.party.Party.{Party}

-- what a task asks for
abbrev pub ask_of : Task → Ask
ask_of (Insert triple) = ask.TheVariants.Update [] (template_of triple ∷ []) true
ask_of (Query text) = ask.TheVariants.Query (wish.TheVariants.Sparql text)
ask_of (Watch text count) = ask.TheVariants.Subscribe (wish.TheVariants.Sparql text)

-- the transaction of a task
abbrev pub transaction_of : Task → Transaction
transaction_of (Insert triple) = transaction.TheVariants.Insert
transaction_of (Query text) = transaction.TheVariants.Query
transaction_of (Watch text count) = transaction.TheVariants.Subscribe

-- a task without what it asks for
abbrev pub goal_of : Task → Goal
goal_of (Insert triple) = goal.Insert
goal_of (Query text) = goal.Query
goal_of (Watch text count) = goal.Watch count

-- the transaction of its request
abbrev pub goal_transaction : Goal → Transaction
goal_transaction goal.Insert = transaction.TheVariants.Insert
goal_transaction goal.Query = transaction.TheVariants.Query
goal_transaction (goal.Watch count) = transaction.TheVariants.Subscribe

-- the subject and the predicate of what a task inserts are uris
abbrev pub HasUris : Task → Type 0
HasUris (Insert triple) = IsUri triple.subject × IsUri triple.predicate
HasUris (Query text) = ⊤
HasUris (Watch text count) = ⊤

-- what follows from the confirm of a task's request
abbrev pub task_next : Finish → Errand → Task → Confirm → List Incoming → Talk
task_next last errand (Insert triple) confirm rest = prints Inserted (leaves last errand 3 rest)
task_next last errand (Query text) confirm rest = answered last errand confirm.answer rest
task_next last errand (Watch text count) confirm rest = subscribed last errand count confirm.subscription confirm.answer rest

-- what is left of a talk behind so many requests, at a stage, over what is told from then on
abbrev pub rest_at : Errand → ℕ → Stage → List Incoming → Finish → Talk
rest_at errand made Joining told last =
    awaits last (request_at errand 1 transaction.TheVariants.Join ask.TheVariants.Join) (λ confirm rest. performs last errand errand.task rest) told
rest_at errand made Performing told last =
    awaits last (request_at errand 2 (transaction_of errand.task) (ask_of errand.task)) (task_next last errand errand.task) told
rest_at errand made (Following left mirror) told last = follows last errand left mirror told
rest_at errand made (Unsubscribing number) told last =
    awaits last (request_at errand 3 transaction.TheVariants.Unsubscribe (ask.TheVariants.Unsubscribe (decimal number))) (λ confirm rest. leaves last errand 4 rest) told
rest_at errand made Leaving told last =
    awaits last (request_at errand made transaction.TheVariants.Leave ask.TheVariants.Leave) (λ confirm rest. finished finish.Done) told

-- what is left of the talk of a party
abbrev pub rest_of : Errand → Party → List Incoming → Finish → Talk
rest_of errand party told last = rest_at errand party.client.made party.stage told last

-- a client awaits the confirm of its last request, which is of this number and transaction
abbrev pub Awaits : Asking → ℕ → Transaction → Type 0
Awaits client number kind = (client.made ≡ number) × (client.awaited ≡ Some (record { transaction = kind; id = number }))

-- a client is at a stage of an errand
abbrev pub IsStage : Errand → Asking → Stage → Type 0
IsStage errand client Joining = Awaits client 1 transaction.TheVariants.Join
IsStage errand client Performing = Awaits client 2 (transaction_of errand.task)
IsStage errand client (Following left mirror) = (client.made ≡ 2) × (client.awaited ≡ None) × (0 < left) × (mirror.applied + left < 2 ^ 63)
IsStage errand client (Unsubscribing number) = Awaits client 3 transaction.TheVariants.Unsubscribe
IsStage errand client Leaving = Awaits client client.made transaction.TheVariants.Leave

-- a party is for an errand: its space, its node and its task are those of the errand
pub record IsFor (errand : Errand) (party : Party) : Type 0 where
  pub space : party.client.space ≡ errand.space
  pub node : party.client.node ≡ errand.node
  pub ask : party.ask ≡ ask_of errand.task
  pub goal : party.goal ≡ goal_of errand.task
  pub uris : HasUris errand.task

-- and it is at its stage of it
abbrev pub IsOn : Errand → Party → Type 0
IsOn errand party = IsFor errand party × IsStage errand party.client party.stage

-- a talk behind some requests and lines
abbrev pub behind : List Request → List Line → Talk → Talk
behind requests lines talk = record { requests = requests ++ talk.requests; lines = lines ++ talk.lines; finish = talk.finish }

-- a talk that depends on what is told from now on, and on what comes behind the last message
abbrev pub Future : Type 0
Future = List Incoming → Finish → Talk

-- a talk goes on as that of a party, behind some requests and lines
abbrev pub LeadsTo : Errand → Future → List Request → List Line → Party → Type 0
LeadsTo errand talk requests lines party = (more : List Incoming) (last : Finish) → talk more last ≡ behind requests lines (rest_of errand party more last)

-- a talk is finished, behind some lines
abbrev pub IsDone : Future → List Line → Finish → Type 0
IsDone talk lines finish = (more : List Incoming) (last : Finish) → talk more last ≡ behind [] lines (finished finish)

-- what is left of the talk of a party that is told this
abbrev pub told_to : Errand → Party → Incoming → Future
told_to errand party incoming more last = rest_of errand party (incoming ∷ more) last

-- a party that awaits nothing has made as many requests as belong before what comes behind its stage
abbrev pub AreMade : ℕ → Stage → Type 0
AreMade made Joining = made ≡ 1
AreMade made Performing = made ≡ 2
AreMade made (Following left mirror) = ⊥
AreMade made (Unsubscribing number) = made ≡ 3
AreMade made Leaving = ⊤

-- what it awaited at its stage came
pub record IsPast (errand : Errand) (party : Party) : Type 0 where
  pub is_for : IsFor errand party
  pub idle : party.client.awaited ≡ None
  pub made : AreMade party.client.made party.stage

-- what follows from the confirm that was awaited at a stage
abbrev pub next_at : Errand → Stage → Confirm → Future
next_at errand Joining confirm more last = performs last errand errand.task more
next_at errand Performing confirm more last = task_next last errand errand.task confirm more
next_at errand (Following left mirror) confirm more last = finished last
next_at errand (Unsubscribing number) confirm more last = leaves last errand 4 more
next_at errand Leaving confirm more last = finished finish.Done

-- a party awaits a confirm, at a stage where it does
abbrev pub AwaitsConfirm : Stage → Type 0
AwaitsConfirm Joining = ⊤
AwaitsConfirm Performing = ⊤
AwaitsConfirm (Following left mirror) = ⊥
AwaitsConfirm (Unsubscribing number) = ⊤
AwaitsConfirm Leaving = ⊤

-- a party is ready for a request of this number
pub record IsReady (errand : Errand) (party : Party) (number : ℕ) : Type 0 where
  pub is_for : IsFor errand party
  pub idle : party.client.awaited ≡ None
  pub made : party.client.made + 1 ≡ number
