-- What a message from a broker tells a client: a confirm, an indication, or neither. Only the parameters that such a message is
-- sent with are looked at.
use Rattle.std.specs.Prelude.{◌≡◌, ℕ, ◌<◌, ◌^◌, Bool, true, false, ◌&&◌, List, [], ◌∷◌, filter, Option, Some, None}
use Rattle.std.specs.Fmt.{decimal}
use Rattle.ssap_items.specs.declared.heads.MessageType as message
use Rattle.ssap_items.specs.declared.heads.Transaction.{Transaction}
use Rattle.ssap_items.specs.declared.heads.Transaction.TheVariants.{Join, Leave, Insert, Remove, Update, Query, Subscribe, Unsubscribe}
use Rattle.ssap_items.specs.declared.body.Body.{Body}
use Rattle.ssap_items.specs.declared.body.Body.TheVariants.{Text}
use Rattle.ssap_items.specs.declared.envelope.Param.{Param}
use Rattle.ssap_items.specs.declared.envelope.Envelope.{Envelope}
use Rattle.answer_bodies.specs.Reading.{IsReadAs}
use Rattle.ssap_shape.specs.declared.name.Name.{Name}
use Rattle.ssap_shape.specs.declared.name.Name as name
use Rattle.ssap_shape.specs.declared.status.Status.{Status}
use Rattle.ssap_shape.specs.declared.status.Status as status
use Rattle.ssap_shape.specs.declared.reply.Confirm.{Confirm}
use Rattle.ssap_shape.specs.declared.reply.Indication.{Indication}
use Rattle.ssap_shape.specs.declared.reply.Indication.TheVariants.{Changes, Ended}
use Rattle.ssap_shape.specs.declared.reply.Incoming.{Incoming}
use Rattle.ssap_shape.specs.declared.reply.Incoming.TheVariants as incoming
use Rattle.ssap_shape.specs.Table.{is_named}
use Rattle.ssap_shape.specs.Replies.{status_word}

-- a body is the text of a status
abbrev pub IsStatus : Body → Status → Type 0
IsStatus body status = body ≡ Text (status_word status)

-- a body is the text of a number of at most 64 bits, in decimal and without a leading zero
abbrev pub IsNumber : Body → ℕ → Type 0
IsNumber body number = (body ≡ Text (decimal number)) × (number < 2 ^ 64)

-- the parameters of this name
abbrev pub all_named : List Param → Name → List Param
all_named params name = filter (is_named name) params

-- one parameter has this name, and its body is read as the value
abbrev pub StandsOnce : {A : Type 0} → (Body → A → Type 0) → List Param → Name → A → Type 0
StandsOnce IsRead params name value = (param : Param) × (all_named params name ≡ param ∷ []) × IsRead param.body value

-- one parameter has this name, and its body is read as the value that there is, or none has it
abbrev pub MayStand : {A : Type 0} → (Body → A → Type 0) → List Param → Name → Option A → Type 0
MayStand IsRead params name None = all_named params name ≡ []
MayStand IsRead params name (Some value) = StandsOnce IsRead params name value

-- a parameter that the message is sent with may stand; any other is not looked at
abbrev pub StandsWhere : {A : Type 0} → Bool → (Body → A → Type 0) → List Param → Name → Option A → Type 0
StandsWhere true IsRead params name value = MayStand IsRead params name value
StandsWhere false IsRead params name value = value ≡ None

-- a status tells success
abbrev pub is_success : Status → Bool
is_success status.TheVariants.Success = true
is_success status.TheVariants.AccessDenied = false
is_success status.TheVariants.OutOfResources = false
is_success status.TheVariants.NotImplemented = false
is_success status.TheVariants.Request = false
is_success status.TheVariants.Incomplete = false
is_success status.TheVariants.Syntax = false

-- a confirm of this transaction is sent with the number of a subscription, where it tells success
abbrev pub has_number : Transaction → Bool
has_number Join = false
has_number Leave = false
has_number Insert = false
has_number Remove = false
has_number Update = false
has_number Query = false
has_number Subscribe = true
has_number Unsubscribe = false

-- a confirm of this transaction is sent with results, where it tells success
abbrev pub has_results : Transaction → Bool
has_results Join = false
has_results Leave = false
has_results Insert = false
has_results Remove = false
has_results Update = false
has_results Query = true
has_results Subscribe = true
has_results Unsubscribe = false

-- a message tells this confirm: its status stands once, and what success is sent with stands at most once
pub record IsConfirm (envelope : Envelope) (confirm : Confirm) : Type 0 where
  pub kind : envelope.heads.message ≡ message.TheVariants.Confirm
  pub heads : confirm.heads ≡ envelope.heads
  pub status : StandsOnce IsStatus envelope.params name.TheVariants.Status confirm.status
  pub subscription : StandsWhere (is_success confirm.status && has_number envelope.heads.transaction) IsNumber
      envelope.params name.TheVariants.SubscriptionId confirm.subscription
  pub answer : StandsWhere (is_success confirm.status && has_results envelope.heads.transaction) IsReadAs
      envelope.params name.TheVariants.Results confirm.answer

-- a message tells this indication: each parameter that it is sent with stands once
abbrev pub IsIndication : Envelope → Indication → Type 0
IsIndication envelope (Changes heads subscription sequence difference) = (envelope.heads.message ≡ message.TheVariants.Indication)
    × (envelope.heads.transaction ≡ Subscribe)
    × (heads ≡ envelope.heads)
    × StandsOnce IsNumber envelope.params name.TheVariants.SubscriptionId subscription
    × StandsOnce IsNumber envelope.params name.TheVariants.Sequence sequence
    × StandsOnce IsReadAs envelope.params name.TheVariants.NewResults difference.added
    × StandsOnce IsReadAs envelope.params name.TheVariants.ObsoleteResults difference.obsolete
IsIndication envelope (Ended heads subscription status) = (envelope.heads.message ≡ message.TheVariants.Indication)
    × (envelope.heads.transaction ≡ Unsubscribe)
    × (heads ≡ envelope.heads)
    × StandsOnce IsNumber envelope.params name.TheVariants.SubscriptionId subscription
    × StandsOnce IsStatus envelope.params name.TheVariants.Status status

-- a message tells this to a client: a confirm, an indication, or nothing that is either
abbrev pub IsTold : Envelope → Incoming → Type 0
IsTold envelope (incoming.Confirm confirm) = IsConfirm envelope confirm
IsTold envelope (incoming.Indication indication) = IsIndication envelope indication
IsTold envelope (incoming.Other heads) = (heads ≡ envelope.heads)
    × ((confirm : Confirm) → ¬ (IsConfirm envelope confirm))
    × ((indication : Indication) → ¬ (IsIndication envelope indication))
