-- A talk finishes as its input does, or what it was told finishes it.
use Rattle.std.proofs.Common.{◌≡◌, ◌⊎◌, ap, refl, inl, inr, ℕ, zero, suc, ◌+◌, ◌==◌, Bool, true, false, List, [], ◌∷◌, ◌++◌, Option, Some, None}
use Rattle.std.specs.Prelude.{if◌then◌else◌}
use Rattle.std.specs.Fmt.{decimal}
use Rattle.ssap_items.specs.declared.heads.Transaction.TheVariants as transaction
use Rattle.answer_bodies.specs.declared.answer.Answer.{Answer}
use Rattle.answer_bodies.specs.declared.answer.Difference.{Difference}
use Rattle.ssap_shape.specs.Told.{is_success}
use Rattle.ssap_shape.specs.declared.request.Wish.TheVariants as wish
use Rattle.ssap_shape.specs.declared.request.Ask.TheVariants as ask
use Rattle.ssap_shape.specs.declared.request.Request.{Request}
use Rattle.ssap_shape.specs.declared.reply.Confirm.{Confirm}
use Rattle.ssap_shape.specs.declared.reply.Indication.TheVariants.{Changes, Ended}
use Rattle.ssap_shape.specs.declared.reply.Incoming.{Incoming}
use Rattle.ssap_shape.specs.declared.reply.Incoming.TheVariants as incoming
use Rattle.kp_client.specs.Asked.{is_awaited}
use Rattle.kp_client.specs.Mirroring.{Mirroring, mirror_of, mirrored, refusal}
use Rattle.kp_client.specs.declared.fault.MirrorFault.{MirrorFault}
use Rattle.kp_talk.specs.Talk.{Line, Inserted, Answered, Talk, finished, writes, prints, request_at, template_of, awaits, asks, leaves, applies, follows, answered, subscribed, performs, talk_over}
use Rattle.kp_talk.specs.declared.errand.Errand.{Errand}
use Rattle.kp_talk.specs.declared.errand.Task.{Task}
use Rattle.kp_talk.specs.declared.errand.Task.TheVariants.{Insert, Query, Watch}
use Rattle.kp_talk.specs.declared.finish.Finish.{Finish}
use Rattle.kp_talk.specs.declared.finish.Finish.TheVariants as finish

-- a talk finishes as its input does, or stays the same whatever else is told
abbrev pub Settles : (Finish → List Incoming → Talk) → Finish → List Incoming → Type 0
Settles talk last told = ((talk last told).finish ≡ last) ⊎ ((more : List Incoming) (other : Finish) → talk other (told ++ more) ≡ talk last told)

-- so does a talk behind a request
written_settles : (request : Request) (talk : Finish → List Incoming → Talk) (last : Finish) (told : List Incoming) → Settles talk last told
    → Settles (λ other all. writes request (talk other all)) last told
written_settles request talk last told (inl same) = inl same
written_settles request talk last told (inr stays) = inr (λ more other. ap (writes request) (stays more other))

-- so does a talk behind a line
printed_settles : (line : Line) (talk : Finish → List Incoming → Talk) (last : Finish) (told : List Incoming) → Settles talk last told
    → Settles (λ other all. prints line (talk other all)) last told
printed_settles line talk last told (inl same) = inl same
printed_settles line talk last told (inr stays) = inr (λ more other. ap (prints line) (stays more other))

-- so does a talk that goes on where two tests say so
tested_settles : (awaited success : Bool) (refused : Finish) (talk : Finish → List Incoming → Talk) (last : Finish) (told : List Incoming) → Settles talk last told
    → Settles (λ other all. if awaited then (if success then talk other all else finished refused) else finished finish.BrokenMessage) last told
tested_settles true true refused talk last told s = s
tested_settles true false refused talk last told s = inr (λ more other. refl)
tested_settles false success refused talk last told s = inr (λ more other. refl)

-- so does the talk while a confirm is awaited
awaited_settles : (request : Request) (next : Finish → Confirm → List Incoming → Talk)
    → ((confirm : Confirm) (last : Finish) (told : List Incoming) → Settles (λ other. next other confirm) last told)
    → (last : Finish) (told : List Incoming) → Settles (λ other. awaits other request (next other)) last told
awaited_settles request next settles last [] = inl refl
awaited_settles request next settles last (incoming.Confirm confirm ∷ rest) =
    tested_settles (is_awaited request.heads confirm.heads) (is_success confirm.status) (finish.Refused confirm.status) (λ other. next other confirm) last rest (settles confirm last rest)
awaited_settles request next settles last (incoming.Indication indication ∷ rest) = awaited_settles request next settles last rest
awaited_settles request next settles last (incoming.Other heads ∷ rest) = inr (λ more other. refl)

-- so does the talk from a request on
asked_settles : (request : Request) (next : Finish → Confirm → List Incoming → Talk)
    → ((confirm : Confirm) (last : Finish) (told : List Incoming) → Settles (λ other. next other confirm) last told)
    → (last : Finish) (told : List Incoming) → Settles (λ other. asks other request (next other)) last told
asked_settles request next settles last told =
    written_settles request (λ other. awaits other request (next other)) last told (awaited_settles request next settles last told)

module _ (errand : Errand) where
  -- so does the talk from the last request on
  left_settles : (number : ℕ) (last : Finish) (told : List Incoming) → Settles (λ other. leaves other errand number) last told
  left_settles number = asked_settles (request_at errand number transaction.Leave ask.Leave) (λ other confirm rest. finished finish.Done)
      (λ confirm last told. inr (λ more other. refl))

  -- so does the talk behind a difference
  applied_settles : (mirror : Mirroring) (difference : Difference) (fault : Option MirrorFault) (next : Finish → Mirroring → List Incoming → Talk) (last : Finish) (told : List Incoming)
      → ((after : Mirroring) → Settles (λ other. next other after) last told)
      → Settles (λ other all. applies mirror difference fault (λ after. next other after all)) last told
  applied_settles mirror difference None next last told settles =
      printed_settles (Answered (mirror.applied + 1) (mirrored mirror difference).answer) (λ other. next other (mirrored mirror difference)) last told
      (settles (mirrored mirror difference))
  applied_settles mirror difference (Some refused) next last told settles = inr (λ more other. refl)

  -- so does the talk behind the end of a subscription, which may be another's
  ended_settles : (own : Bool) (end : Finish) (talk : Finish → List Incoming → Talk) (last : Finish) (told : List Incoming) → Settles talk last told
      → Settles (λ other all. if own then finished end else talk other all) last told
  ended_settles true end talk last told s = inr (λ more other. refl)
  ended_settles false end talk last told s = s

  -- so does the talk while one indication more is awaited
  next_settles : (count : ℕ) → ((mirror : Mirroring) (last : Finish) (told : List Incoming) → Settles (λ other. follows other errand count mirror) last told)
      → (mirror : Mirroring) (last : Finish) (told : List Incoming) → Settles (λ other. follows other errand (suc count) mirror) last told
  next_settles count settles mirror last [] = inl refl
  next_settles count settles mirror last (incoming.Confirm confirm ∷ rest) = inr (λ more other. refl)
  next_settles count settles mirror last (incoming.Indication (Changes heads subscription sequence difference) ∷ rest) =
      applied_settles mirror difference (refusal mirror subscription sequence difference) (λ other after. follows other errand count after) last rest
      (λ after. settles after last rest)
  next_settles count settles mirror last (incoming.Indication (Ended heads subscription status) ∷ rest) =
      ended_settles (subscription == mirror.subscription) (finish.Ended status) (λ other. follows other errand (suc count) mirror) last rest
      (next_settles count settles mirror last rest)
  next_settles count settles mirror last (incoming.Other heads ∷ rest) = inr (λ more other. refl)

  -- so does the talk while indications are awaited
  followed_settles : (count : ℕ) (mirror : Mirroring) (last : Finish) (told : List Incoming) → Settles (λ other. follows other errand count mirror) last told
  followed_settles zero mirror last told =
      asked_settles (request_at errand 3 transaction.Unsubscribe (ask.Unsubscribe (decimal mirror.subscription))) (λ other confirm. leaves other errand 4)
      (λ confirm. left_settles 4) last told
  followed_settles (suc count) mirror last told = next_settles count (followed_settles count) mirror last told

  -- so does the talk behind the confirm of a query
  answered_settles : (answer : Option Answer) (last : Finish) (told : List Incoming) → Settles (λ other. answered other errand answer) last told
  answered_settles None last told = inr (λ more other. refl)
  answered_settles (Some answer) last told = printed_settles (Answered 0 answer) (λ other. leaves other errand 3) last told (left_settles 3 last told)

  -- so does the talk behind the confirm of a subscription
  subscribed_settles : (count : ℕ) (number : Option ℕ) (answer : Option Answer) (last : Finish) (told : List Incoming)
      → Settles (λ other. subscribed other errand count number answer) last told
  subscribed_settles count None answer last told = inr (λ more other. refl)
  subscribed_settles count (Some number) None last told = inr (λ more other. refl)
  subscribed_settles count (Some number) (Some answer) last told =
      printed_settles (Answered 0 answer) (λ other. follows other errand count (mirror_of number answer)) last told
      (followed_settles count (mirror_of number answer) last told)

  -- so does the talk from a task on
  performed_settles : (task : Task) (last : Finish) (told : List Incoming) → Settles (λ other. performs other errand task) last told
  performed_settles (Insert triple) = asked_settles (request_at errand 2 transaction.Insert (ask.Update [] (template_of triple ∷ []) true))
      (λ other confirm rest. prints Inserted (leaves other errand 3 rest))
      (λ confirm last told. printed_settles Inserted (λ other. leaves other errand 3) last told (left_settles 3 last told))
  performed_settles (Query text) = asked_settles (request_at errand 2 transaction.Query (ask.Query (wish.Sparql text)))
      (λ other confirm. answered other errand confirm.answer) (λ confirm. answered_settles confirm.answer)
  performed_settles (Watch text count) = asked_settles (request_at errand 2 transaction.Subscribe (ask.Subscribe (wish.Sparql text)))
      (λ other confirm. subscribed other errand count confirm.subscription confirm.answer)
      (λ confirm. subscribed_settles count confirm.subscription confirm.answer)

  -- so does the talk
  pub talk_settles : (last : Finish) (told : List Incoming) → Settles (λ other. talk_over other errand) last told
  talk_settles = asked_settles (request_at errand 1 transaction.Join ask.Join) (λ other confirm. performs other errand errand.task)
      (λ confirm. performed_settles errand.task)
