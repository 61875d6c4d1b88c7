-- Confirms, indications and requests that are understood as they were meant.
use Rattle.std.specs.Prelude.{◌≡◌, ℕ, ◌<◌, ◌^◌, Bool, true, false, ◌&&◌, Option, Some, None, IfSome, ⊤}
use Rattle.std.specs.List.{AllByRecursion}
use Rattle.m3_terms.specs.declared.term.Term as term
use Rattle.m3_terms.specs.declared.pattern.Slot.{Slot}
use Rattle.m3_terms.specs.declared.pattern.Slot.TheVariants.{Any, Is}
use Rattle.m3_terms.specs.declared.pattern.Pattern.{Pattern}
use Rattle.ssap_items.specs.declared.heads.MessageType as message
use Rattle.ssap_items.specs.declared.heads.Transaction as transaction
use Rattle.answer_bodies.specs.Laws.{IsSound}
use Rattle.ssap_shape.specs.declared.request.Wish.{Wish}
use Rattle.ssap_shape.specs.declared.request.Wish.TheVariants.{Templates, Sparql}
use Rattle.ssap_shape.specs.declared.request.Ask.{Ask}
use Rattle.ssap_shape.specs.declared.request.Ask.TheVariants.{Join, Leave, Update, Query, Subscribe, Unsubscribe}
use Rattle.ssap_shape.specs.declared.request.Request.{Request}
use Rattle.ssap_shape.specs.declared.reply.Confirm.{Confirm}
use Rattle.ssap_shape.specs.declared.reply.Indication.{Indication}
use Rattle.ssap_shape.specs.declared.reply.Indication.TheVariants.{Changes, Ended}
use Rattle.ssap_shape.specs.declared.reply.Incoming.{Incoming}
use Rattle.ssap_shape.specs.declared.reply.Incoming.TheVariants as incoming
use Rattle.ssap_shape.specs.Templates.{is_wildcard}
use Rattle.ssap_shape.specs.Replies.{heads_with}
use Rattle.ssap_shape.specs.Told.{is_success, has_number, has_results}
use Rattle.ssap_shape.specs.Sound.{AreSoundHeads, IsSoundAsk}
use Rattle.ssap_shape.specs.Asking.{MayAsk}

-- a number has at most 64 bits
abbrev pub IsShort : ℕ → Type 0
IsShort number = number < 2 ^ 64

-- a value that is there is one that such a message is sent with, and is right
abbrev pub MaySend : {A : Type 0} → Bool → (A → Type 0) → Option A → Type 0
MaySend sent IsRight None = ⊤
MaySend true IsRight (Some value) = IsRight value
MaySend false IsRight (Some value) = ⊥

-- a confirm has a number only where success of a subscription is told, and a sound answer only where success of a query is
pub record MayBeSent (confirm : Confirm) : Type 0 where
  pub subscription : MaySend (is_success confirm.status && has_number confirm.heads.transaction) IsShort confirm.subscription
  pub answer : MaySend (is_success confirm.status && has_results confirm.heads.transaction) IsSound confirm.answer

-- an indication is of the transaction that its event has, and its numbers and answers are right
abbrev pub MayBeIndicated : Indication → Type 0
MayBeIndicated (Changes heads subscription sequence difference) = (heads.transaction ≡ transaction.TheVariants.Subscribe)
    × IsShort subscription
    × IsShort sequence
    × IsSound difference.added
    × IsSound difference.obsolete
MayBeIndicated (Ended heads subscription status) = (heads.transaction ≡ transaction.TheVariants.Unsubscribe) × IsShort subscription

-- a confirm as it arrives: its heads have its type
abbrev pub confirm_told : Confirm → Confirm
confirm_told confirm = record confirm { heads = heads_with message.TheVariants.Confirm confirm.heads }

-- an indication as it arrives
abbrev pub indication_told : Indication → Indication
indication_told (Changes heads subscription sequence difference) =
    Changes (heads_with message.TheVariants.Indication heads) subscription sequence difference
indication_told (Ended heads subscription status) = Ended (heads_with message.TheVariants.Indication heads) subscription status

-- the number and the answer of a confirm, where they are there, are right
pub record IsSoundConfirm (confirm : Confirm) : Type 0 where
  pub subscription : IfSome confirm.subscription IsShort
  pub answer : IfSome confirm.answer IsSound

-- so are those of an indication
abbrev pub IsSoundIndication : Indication → Type 0
IsSoundIndication (Changes heads subscription sequence difference) = IsShort subscription
    × IsShort sequence
    × IsSound difference.added
    × IsSound difference.obsolete
IsSoundIndication (Ended heads subscription status) = IsShort subscription

-- and those of whatever is told
abbrev pub IsSoundIncoming : Incoming → Type 0
IsSoundIncoming (incoming.Confirm confirm) = IsSoundConfirm confirm
IsSoundIncoming (incoming.Indication indication) = IsSoundIndication indication
IsSoundIncoming (incoming.Other heads) = ⊤

-- a slot is no uri that spells the wildcard
abbrev pub IsPlainSlot : Slot → Type 0
IsPlainSlot Any = ⊤
IsPlainSlot (Is (term.TheVariants.Uri text)) = is_wildcard text ≡ false
IsPlainSlot (Is (term.TheVariants.Literal text)) = ⊤

-- no slot of a template is one
pub record IsPlainTemplate (template : Pattern) : Type 0 where
  pub subject : IsPlainSlot template.subject
  pub predicate : IsPlainSlot template.predicate
  pub object : IsPlainSlot template.object

-- nor is one of a wish
abbrev pub IsPlainWish : Wish → Type 0
IsPlainWish (Templates templates) = AllByRecursion IsPlainTemplate templates
IsPlainWish (Sparql text) = ⊤

-- nor is one of what is asked for
abbrev pub IsPlainAsk : Ask → Type 0
IsPlainAsk Join = ⊤
IsPlainAsk Leave = ⊤
IsPlainAsk (Update remove insert confirm) = AllByRecursion IsPlainTemplate remove × AllByRecursion IsPlainTemplate insert
IsPlainAsk (Query wish) = IsPlainWish wish
IsPlainAsk (Subscribe wish) = IsPlainWish wish
IsPlainAsk (Unsubscribe text) = ⊤

-- a request that can be written and understood: its identifiers, terms and texts are within their limits, its transaction is
-- that of what it asks for, and no uri of its templates spells the wildcard
pub record CanBeAsked (request : Request) : Type 0 where
  pub heads : AreSoundHeads request.heads
  pub sound : IsSoundAsk request.ask
  pub asks : MayAsk request.heads.transaction request.ask
  pub plain : IsPlainAsk request.ask

-- a request as it arrives: its heads have its type
abbrev pub request_told : Request → Request
request_told request = record request { heads = heads_with message.TheVariants.Request request.heads }
