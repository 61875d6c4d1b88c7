-- What holds of shapes.
use Rattle.std.specs.Prelude.{◌≡◌, ℕ, List}
use Rattle.ssap_items.specs.declared.envelope.Envelope.{Envelope}
use Rattle.ssap_grammar.specs.Message.{Spells}
use Rattle.ssap_grammar.specs.Sayable.{IsSayable}
use Rattle.ssap_shape.specs.declared.request.Arrived.{Arrived}
use Rattle.ssap_shape.specs.declared.request.Arrived.TheVariants as arrived
use Rattle.ssap_shape.specs.declared.request.Request.{Request}
use Rattle.ssap_shape.specs.declared.reply.Confirm.{Confirm}
use Rattle.ssap_shape.specs.declared.reply.Indication.{Indication}
use Rattle.ssap_shape.specs.declared.reply.Incoming.{Incoming}
use Rattle.ssap_shape.specs.declared.reply.Incoming.TheVariants as incoming
use Rattle.ssap_shape.specs.Shape.{IsShape}
use Rattle.ssap_shape.specs.Sound.{IsSoundArrived}
use Rattle.ssap_shape.specs.Replies.{confirm_of, indication_of}
use Rattle.ssap_shape.specs.Told.{IsTold}
use Rattle.ssap_shape.specs.Asking.{request_of}
use Rattle.ssap_shape.specs.Sendable.{MayBeSent, MayBeIndicated, confirm_told, indication_told, IsSoundIncoming, CanBeAsked, request_told}

-- a message comes to at most one thing
abbrev pub ShapesOnce : Type 0
ShapesOnce = (envelope : Envelope) (arrived other : Arrived) → IsShape envelope arrived → IsShape envelope other → arrived ≡ other

-- a message comes to something
abbrev pub ShapesSome : Type 0
ShapesSome = (envelope : Envelope) → (arrived : Arrived) × IsShape envelope arrived

-- what a message comes to that some bytes spell is sound. Bytes spell exactly the envelopes of texts in which no subject
-- is a literal, and an envelope of another kind may come to a template whose subject is one.
abbrev pub ShapesAreSound : Type 0
ShapesAreSound = (bytes : List ℕ) (envelope : Envelope) (arrived : Arrived) → Spells bytes envelope → IsShape envelope arrived
    → IsSoundArrived arrived

-- a message tells a client at most one thing
abbrev pub ToldOnce : Type 0
ToldOnce = (envelope : Envelope) (told other : Incoming) → IsTold envelope told → IsTold envelope other → told ≡ other

-- the message of a confirm that may be sent tells that confirm
abbrev pub ConfirmsAreTold : Type 0
ConfirmsAreTold = (confirm : Confirm) → MayBeSent confirm → IsTold (confirm_of confirm) (incoming.Confirm (confirm_told confirm))

-- the message of an indication that may be sent tells that indication
abbrev pub IndicationsAreTold : Type 0
IndicationsAreTold = (indication : Indication) → MayBeIndicated indication
    → IsTold (indication_of indication) (incoming.Indication (indication_told indication))

-- what a message tells has sound answers, and its numbers have at most 64 bits
abbrev pub ToldIsSound : Type 0
ToldIsSound = (envelope : Envelope) (told : Incoming) → IsTold envelope told → IsSoundIncoming told

-- the message of a request that can be asked comes to that request
abbrev pub RequestsAreUnderstood : Type 0
RequestsAreUnderstood = (request : Request) → CanBeAsked request → IsShape (request_of request) (arrived.Request (request_told request))

-- it can be written
abbrev pub RequestsAreSayable : Type 0
RequestsAreSayable = (request : Request) → CanBeAsked request → IsSayable (request_of request)
