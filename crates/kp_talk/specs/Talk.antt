-- What a client says and prints on an errand: a function of the messages that it is told.
use Rattle.std.specs.Prelude.{ℕ, zero, suc, ◌+◌, ◌==◌, true, if◌then◌else◌, List, [], ◌∷◌, Option, Some, None}
use Rattle.std.specs.Fmt.{decimal}
use Rattle.m3_terms.specs.declared.pattern.Pattern.{Pattern}
use Rattle.m3_terms.specs.declared.pattern.Slot.TheVariants.{Is}
use Rattle.m3_terms.specs.declared.triple.Triple.{Triple}
use Rattle.ssap_items.specs.declared.heads.MessageType as message
use Rattle.ssap_items.specs.declared.heads.Transaction.{Transaction}
use Rattle.ssap_items.specs.declared.heads.Transaction as transaction
use Rattle.answer_bodies.specs.declared.answer.Answer.{Answer}
use Rattle.answer_bodies.specs.declared.answer.Difference.{Difference}
use Rattle.ssap_shape.specs.declared.request.Wish as wish
use Rattle.ssap_shape.specs.declared.request.Ask.{Ask}
use Rattle.ssap_shape.specs.declared.request.Ask as ask
use Rattle.ssap_shape.specs.declared.request.Request.{Request}
use Rattle.ssap_shape.specs.declared.reply.Confirm.{Confirm}
use Rattle.ssap_shape.specs.declared.reply.Indication.TheVariants.{Changes, Ended}
use Rattle.ssap_shape.specs.declared.reply.Incoming.{Incoming}
use Rattle.ssap_shape.specs.declared.reply.Incoming.TheVariants as incoming
use Rattle.ssap_shape.specs.Told.{is_success}
use Rattle.kp_client.specs.Asked.{is_awaited}
use Rattle.kp_client.specs.Mirroring.{Mirroring, mirror_of, mirrored, refusal}
use Rattle.kp_client.specs.declared.fault.MirrorFault.{MirrorFault}
use Rattle.kp_client.specs.declared.fault.MirrorFault.TheVariants as fault
use Rattle.kp_talk.specs.declared.errand.Errand.{Errand}
use Rattle.kp_talk.specs.declared.errand.Task.{Task}
use Rattle.kp_talk.specs.declared.errand.Task.TheVariants.{Insert, Query, Watch}
use Rattle.kp_talk.specs.declared.finish.Finish.{Finish}
use Rattle.kp_talk.specs.declared.finish.Finish.TheVariants as finish

-- a line that is printed before the last: an insert was confirmed, or an answer after so many changes
pub data Line : Type 0 where
  Inserted : Line
  Answered : (count : ℕ) (answer : Answer) → Line

-- a talk: the requests that are written, the lines that are printed before the last, and how it finishes
pub record Talk : Type 0 where
  pub requests : List Request
  pub lines : List Line
  pub finish : Finish

-- a talk that finishes at once
abbrev pub finished : Finish → Talk
finished finish = record { requests = []; lines = []; finish = finish }

-- a request is written, and then the talk goes on
abbrev pub writes : Request → Talk → Talk
writes request talk = record talk { requests = request ∷ talk.requests }

-- a line is printed, and then the talk goes on
abbrev pub prints : Line → Talk → Talk
prints line talk = record talk { lines = line ∷ talk.lines }

-- the client's request of this number
abbrev pub request_at : Errand → ℕ → Transaction → Ask → Request
request_at errand number kind ask = record {
  heads = record {
    message = message.TheVariants.Request;
    transaction = kind;
    transaction_id = decimal number;
    node_id = errand.node;
    space_id = errand.space;
  };
  ask = ask;
}

-- what follows from a confirm with success that answers a request, or else the talk is over: the confirm is another's, or it
-- refuses the request
abbrev pub confirmed : Request → (Confirm → List Incoming → Talk) → Confirm → List Incoming → Talk
confirmed request next confirm rest =
    if is_awaited request.heads confirm.heads
    then (if is_success confirm.status then next confirm rest else finished (finish.Refused confirm.status))
    else finished finish.BrokenMessage

-- the talk while the confirm of a request is awaited: indications are passed over
abbrev pub awaits : Finish → Request → (Confirm → List Incoming → Talk) → List Incoming → Talk
awaits last request next [] = finished last
awaits last request next (incoming.Confirm confirm ∷ rest) = confirmed request next confirm rest
awaits last request next (incoming.Indication indication ∷ rest) = awaits last request next rest
awaits last request next (incoming.Other heads ∷ rest) = finished finish.BrokenMessage

-- a request is written, and its confirm is awaited
abbrev pub asks : Finish → Request → (Confirm → List Incoming → Talk) → List Incoming → Talk
asks last request next told = writes request (awaits last request next told)

-- the last request, behind whose confirm the talk is done
abbrev pub leaves : Finish → Errand → ℕ → List Incoming → Talk
leaves last errand number told =
    asks last (request_at errand number transaction.TheVariants.Leave ask.TheVariants.Leave) (λ confirm rest. finished finish.Done) told

-- how a talk finishes at a difference that a mirror refuses (`refusal` never is out of memory)
abbrev pub broken : MirrorFault → Finish
broken (fault.OtherSubscription want got) = finish.BrokenSubscription want got
broken (fault.Gap want got) = finish.BrokenGap want got
broken (fault.OtherForm want got) = finish.BrokenForm
broken (fault.Conflict row) = finish.BrokenConflict
broken fault.NoMemory = finish.BrokenMessage

-- the answer of a mirror after one more difference is printed and the talk goes on, or the mirror refuses it
abbrev pub applies : Mirroring → Difference → Option MirrorFault → (Mirroring → Talk) → Talk
applies mirror difference None next = prints (Answered (mirror.applied + 1) (mirrored mirror difference).answer) (next (mirrored mirror difference))
applies mirror difference (Some refused) next = finished (broken refused)

-- the talk while so many indications are awaited: each is applied, and the end of another subscription is passed over
abbrev pub follows : Finish → Errand → ℕ → Mirroring → List Incoming → Talk
follows last errand zero mirror told =
    asks last (request_at errand 3 transaction.TheVariants.Unsubscribe (ask.TheVariants.Unsubscribe (decimal mirror.subscription)))
    (λ confirm rest. leaves last errand 4 rest) told
follows last errand (suc count) mirror [] = finished last
follows last errand (suc count) mirror (incoming.Confirm confirm ∷ rest) = finished finish.BrokenMessage
follows last errand (suc count) mirror (incoming.Indication (Changes heads subscription sequence difference) ∷ rest) =
    applies mirror difference (refusal mirror subscription sequence difference) (λ after. follows last errand count after rest)
follows last errand (suc count) mirror (incoming.Indication (Ended heads subscription status) ∷ rest) =
    if subscription == mirror.subscription then finished (finish.Ended status) else follows last errand (suc count) mirror rest
follows last errand (suc count) mirror (incoming.Other heads ∷ rest) = finished finish.BrokenMessage

-- the talk behind the confirm of a query, which must have an answer
abbrev pub answered : Finish → Errand → Option Answer → List Incoming → Talk
answered last errand None rest = finished finish.BrokenMessage
answered last errand (Some answer) rest = prints (Answered 0 answer) (leaves last errand 3 rest)

-- the talk behind the confirm of a subscription, which must have its number and its first answer
abbrev pub subscribed : Finish → Errand → ℕ → Option ℕ → Option Answer → List Incoming → Talk
subscribed last errand count None answer rest = finished finish.BrokenMessage
subscribed last errand count (Some number) None rest = finished finish.BrokenMessage
subscribed last errand count (Some number) (Some answer) rest =
    prints (Answered 0 answer) (follows last errand count (mirror_of number answer) rest)

-- a triple as a template of its three terms
abbrev pub template_of : Triple → Pattern
template_of triple = record { subject = Is triple.subject; predicate = Is triple.predicate; object = Is triple.object }

-- the talk behind the confirm of the first request, which joins
abbrev pub performs : Finish → Errand → Task → List Incoming → Talk
performs last errand (Insert triple) told =
    asks last (request_at errand 2 transaction.TheVariants.Insert (ask.TheVariants.Update [] (template_of triple ∷ []) true))
    (λ confirm rest. prints Inserted (leaves last errand 3 rest)) told
performs last errand (Query text) told =
    asks last (request_at errand 2 transaction.TheVariants.Query (ask.TheVariants.Query (wish.TheVariants.Sparql text)))
    (λ confirm rest. answered last errand confirm.answer rest) told
performs last errand (Watch text count) told =
    asks last (request_at errand 2 transaction.TheVariants.Subscribe (ask.TheVariants.Subscribe (wish.TheVariants.Sparql text)))
    (λ confirm rest. subscribed last errand count confirm.subscription confirm.answer rest) told

-- the talk on an errand, over the messages that are told; `last` is how the input finishes behind the last of them
abbrev pub talk_over : Finish → Errand → List Incoming → Talk
talk_over last errand told =
    asks last (request_at errand 1 transaction.TheVariants.Join ask.TheVariants.Join) (λ confirm rest. performs last errand errand.task rest) told
