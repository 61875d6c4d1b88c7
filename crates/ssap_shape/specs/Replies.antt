-- The messages that answer requests, as envelopes.
use Rattle.std.specs.Prelude.{ℕ, List, [], ◌∷◌, ◌++◌, Option, Some, None, codes, ⊤}
use Rattle.std.specs.Fmt.{decimal}
use Rattle.ssap_items.specs.declared.heads.MessageType.{MessageType}
use Rattle.ssap_items.specs.declared.heads.MessageType as message
use Rattle.ssap_items.specs.declared.heads.Heads.{Heads}
use Rattle.ssap_items.specs.declared.body.Body.{Body}
use Rattle.ssap_items.specs.declared.body.Body.TheVariants.{Text}
use Rattle.ssap_items.specs.declared.envelope.Param.{Param}
use Rattle.ssap_items.specs.declared.envelope.Envelope.{Envelope}
use Rattle.answer_bodies.specs.declared.answer.Answer.{Answer}
use Rattle.answer_bodies.specs.declared.answer.Difference.{Difference}
use Rattle.answer_bodies.specs.Writing.{body_of, IsFull}
use Rattle.ssap_shape.specs.declared.name.Name.{Name}
use Rattle.ssap_shape.specs.declared.name.Name as name
use Rattle.ssap_shape.specs.declared.status.Status.{Status}
use Rattle.ssap_shape.specs.declared.status.Status.TheVariants.{Success, AccessDenied, OutOfResources, NotImplemented, Request, Incomplete, Syntax}
use Rattle.ssap_shape.specs.declared.reply.Confirm.{Confirm}
use Rattle.ssap_shape.specs.declared.reply.Indication.{Indication}
use Rattle.ssap_shape.specs.declared.reply.Indication.TheVariants.{Changes, Ended}
use Rattle.ssap_shape.specs.Table.{word}

-- a status as it is written
unfoldable pub status_word : Status → List ℕ
status_word Success = codes "m3:Success"
status_word AccessDenied = codes "m3:SIB.Error.AccessDenied"
status_word OutOfResources = codes "m3:SIB.Failure.OutOfResources"
status_word NotImplemented = codes "m3:SIB.Failure.NotImplemented"
status_word Request = codes "m3:KP.Error.Request"
status_word Incomplete = codes "m3:KP.Error.Message.Incomplete"
status_word Syntax = codes "m3:KP.Error.Message.Syntax"

-- the heads of a message of this type
abbrev pub heads_with : MessageType → Heads → Heads
heads_with message heads = record heads { message = message }

-- a parameter of this name, without an encoding
abbrev pub sent_param : Name → Body → Param
sent_param name body = record { name = word name; encoding = None; body = body }

-- the parameter of a status
abbrev pub status_param : Status → Param
status_param status = sent_param name.TheVariants.Status (Text (status_word status))

-- the parameter of a number, which is written in decimal
abbrev pub number_param : Name → ℕ → Param
number_param name number = sent_param name (Text (decimal number))

-- the parameter of an answer
abbrev pub answer_param : Name → Answer → Param
answer_param name answer = sent_param name (body_of answer)

-- the parameter of a subscription, where there is one
abbrev pub subscription_params : Option ℕ → List Param
subscription_params None = []
subscription_params (Some number) = number_param name.TheVariants.SubscriptionId number ∷ []

-- the parameter of the results, where there are any
abbrev pub results_params : Option Answer → List Param
results_params None = []
results_params (Some answer) = answer_param name.TheVariants.Results answer ∷ []

-- the envelope of a confirm
abbrev pub confirm_of : Confirm → Envelope
confirm_of confirm = record {
  heads = heads_with message.TheVariants.Confirm confirm.heads;
  params = (status_param confirm.status ∷ []) ++ subscription_params confirm.subscription ++ results_params confirm.answer;
}

-- the parameters that tell a change
abbrev pub changes_params_of : ℕ → ℕ → Difference → List Param
changes_params_of subscription sequence difference = number_param name.TheVariants.SubscriptionId subscription
    ∷ number_param name.TheVariants.Sequence sequence
    ∷ answer_param name.TheVariants.NewResults difference.added
    ∷ answer_param name.TheVariants.ObsoleteResults difference.obsolete
    ∷ []

-- the parameters that tell an end
abbrev pub ended_params_of : ℕ → Status → List Param
ended_params_of subscription status = number_param name.TheVariants.SubscriptionId subscription ∷ status_param status ∷ []

-- the envelope of an indication
abbrev pub indication_of : Indication → Envelope
indication_of (Changes heads subscription sequence difference) = record {
  heads = heads_with message.TheVariants.Indication heads;
  params = changes_params_of subscription sequence difference;
}
indication_of (Ended heads subscription status) = record {
  heads = heads_with message.TheVariants.Indication heads;
  params = ended_params_of subscription status;
}

-- the answer of a confirm, where it has one, has a cell for each column in each row
abbrev pub HasFullAnswer : Option Answer → Type 0
HasFullAnswer None = ⊤
HasFullAnswer (Some answer) = IsFull answer

-- so have both answers of an indication of changes
abbrev pub HasFullAnswers : Indication → Type 0
HasFullAnswers (Changes heads subscription sequence difference) = IsFull difference.added × IsFull difference.obsolete
HasFullAnswers (Ended heads subscription status) = ⊤
