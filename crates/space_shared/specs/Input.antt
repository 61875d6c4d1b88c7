-- What a pump of input does: it reads the bytes of a link, and delivers their messages.
use Rattle.std.specs.Prelude.{◌≡◌, ◌≢◌, ◌⊎◌, ℕ, ◌<◌, ◌≤◌, List, [], ◌∷◌, ◌++◌, length, Option, Some, ⊤}
use Rattle.std.specs.Io.KnownBytes.{Consumes, IsAtEnd}
use Rattle.sib_io.specs.Causes.{Rose}
use Rattle.sib_io.specs.declared.reading.TheConstants.{INPUT_LIMIT}
use Rattle.ssap_grammar.specs.Stream.{Placed, Stream, IsInside}
use Rattle.ssap_hearing.specs.Hearing.{AreLet, Fronted}
use Rattle.ssap_decode.specs.declared.framed.Stop.{Stop}
use Rattle.ssap_decode.specs.declared.framed.Stop.TheVariants as stop
use Rattle.ssap_shape.specs.Shape.{IsShape}
use Rattle.ssap_shape.specs.declared.request.Arrived.{Arrived}
use Rattle.ssap_shape.specs.declared.request.Arrived.TheVariants as arrived
use Rattle.session_core.specs.declared.call.Call.TheVariants.{Deliver, End}
use Rattle.session_core.specs.declared.call.Reply.{Reply}
use Rattle.session_core.specs.declared.call.Reply.TheVariants as reply
use Rattle.space_shared.specs.Exchanges.{SeatSight, Exchange, exchange, Makes}
use Rattle.space_shared.specs.declared.ends.InEnd.{InEnd}
use Rattle.space_shared.specs.declared.ends.InEnd.TheVariants.{Ended, Syntax, TooLong, Cut, NotRequest, Closed, ReadFault, Spent, Worn, NoMemory}

-- what is seen of a source: what it has left, where it tells that, and its count of faults
pub record Inlet : Type 0 where
  pub left : Option (List ℕ)
  pub faults : ℕ

abbrev pub inlet : Option (List ℕ) → ℕ → Inlet
inlet left faults = record { left = left; faults = faults }

-- a message of the link was delivered as what it comes to
pub record IsDelivery (link : ℕ) (message : Placed) (arrived : Arrived) (one : Exchange) : Type 0 where
  pub shape : IsShape message.envelope arrived
  pub call : one.call ≡ Deliver link arrived

-- the call was done
abbrev pub IsDone : Reply → Type 0
IsDone answer = (ring : List ℕ) × (answer ≡ reply.Done ring)

-- a message was delivered to the open link, and is a request
abbrev pub IsTaken : ℕ → Placed → Exchange → Type 0
IsTaken link message one = (shaped : Arrived) × IsDelivery link message shaped one × (shaped ≢ arrived.NotRequest) × IsDone one.reply

-- these messages were delivered, one exchange each, in their order, and all were taken
abbrev pub AreTaken : ℕ → List Placed → List Exchange → Type 0
AreTaken link [] [] = ⊤
AreTaken link [] (one ∷ said) = ⊥
AreTaken link (message ∷ messages) [] = ⊥
AreTaken link (message ∷ messages) (one ∷ said) = IsTaken link message one × AreTaken link messages said

-- the last of these messages is no request, which the open link was told
pub record EndsWithNoRequest (link : ℕ) (messages : List Placed) (last : Placed) (said : List Exchange) : Type 0 where
  pub before : List Placed
  pub taken : List Exchange
  pub one : Exchange
  pub split : messages ≡ before ++ last ∷ []
  pub are : AreTaken link before taken
  pub delivery : IsDelivery link last arrived.NotRequest one
  pub done : IsDone one.reply
  pub said_is : said ≡ taken ++ one ∷ []

-- the link was found closed when the last of these messages was delivered
pub record EndsClosed (link : ℕ) (messages : List Placed) (said : List Exchange) : Type 0 where
  pub before : List Placed
  pub last : Placed
  pub taken : List Exchange
  pub arrived : Arrived
  pub one : Exchange
  pub split : messages ≡ before ++ last ∷ []
  pub are : AreTaken link before taken
  pub delivery : IsDelivery link last arrived one
  pub closed : one.reply ≡ reply.Closed
  pub said_is : said ≡ taken ++ one ∷ []

-- the deliveries of a link came to an end before its messages did: at one that is no request, or where the link was found closed
abbrev pub StopsEarly : ℕ → List Placed → List Exchange → Type 0
StopsEarly link messages said = ((last : Placed) × EndsWithNoRequest link messages last said) ⊎ EndsClosed link messages said

-- the messages of these bytes up to some place, and what may stop them there, were delivered as far as they could be
abbrev pub DeliversAll : ℕ → List ℕ → List Exchange → Type 0
DeliversAll link bytes said = (messages : List Placed) × (stop : Option Stop) × Fronted bytes messages stop × AreTaken link messages said

-- a prefix of these bytes has messages that were delivered, and no more was
pub record DeliversFront (link : ℕ) (bytes : List ℕ) (Said : List Placed → Type 0) : Type 0 where
  pub front : List ℕ
  pub rest : List ℕ
  pub messages : List Placed
  pub split : bytes ≡ front ++ rest
  pub through : AreLet front messages
  pub are : Said messages

-- the last of the calls ends the link
abbrev pub AndEnds : ℕ → List Exchange → (List Exchange → Type 0) → Type 0
AndEnds link said Before = (before : List Exchange) × (answer : Reply) × (said ≡ before ++ exchange (End link) answer ∷ []) × Before before

-- deliveries of the first of these messages, all taken
abbrev pub AreTakenOf : ℕ → List Exchange → List Placed → Type 0
AreTakenOf link said messages = (some : List Placed) × (others : List Placed) × (messages ≡ some ++ others) × AreTaken link some said

-- deliveries of the first of these messages, all taken, and perhaps a last one that ended them
abbrev pub AreSaidOf : ℕ → List Exchange → List Placed → Type 0
AreSaidOf link said messages = AreTakenOf link said messages ⊎ StopsEarly link messages said

-- what holds at each end, of the bytes that were read and the calls that were made
abbrev pub EndsSo : ℕ → Inlet → Inlet → List ℕ → List Exchange → InEnd → Type 0
EndsSo link old new read said Ended = (new.faults ≡ old.faults) × (length read < INPUT_LIMIT) × IsAtEnd new.left
    × (messages : List Placed) × Stream read messages × AreLet read messages × AndEnds link said (AreTaken link messages)
EndsSo link old new read said (Syntax place) = (new.faults ≡ old.faults) × (length read < INPUT_LIMIT)
    × (messages : List Placed) × Fronted read messages (Some (stop.Syntax place)) × AndEnds link said (AreTaken link messages)
EndsSo link old new read said (TooLong start) = (new.faults ≡ old.faults) × (length read < INPUT_LIMIT)
    × (messages : List Placed) × Fronted read messages (Some (stop.TooLong start)) × AndEnds link said (AreTaken link messages)
EndsSo link old new read said (Cut start) = (new.faults ≡ old.faults) × (length read < INPUT_LIMIT) × IsAtEnd new.left
    × IsInside read start × (messages : List Placed) × AreLet read messages × AndEnds link said (AreTaken link messages)
EndsSo link old new read said (NotRequest start) = (new.faults ≡ old.faults) × (length read < INPUT_LIMIT)
    × AndEnds link said (λ before. DeliversFront link read (λ messages. (last : Placed) × (last.start ≡ start) × EndsWithNoRequest link messages last before))
EndsSo link old new read said Closed = (new.faults ≡ old.faults) × (length read < INPUT_LIMIT)
    × DeliversFront link read (λ messages. EndsClosed link messages said)
EndsSo link old new read said ReadFault = Rose old.faults new.faults × (length read < INPUT_LIMIT)
    × (messages : List Placed) × AreLet read messages × AndEnds link said (AreTaken link messages)
EndsSo link old new read said Spent = (new.faults ≡ old.faults) × (length read ≡ INPUT_LIMIT)
    × AndEnds link said (λ before. DeliversAll link read before ⊎ DeliversFront link read (λ messages. StopsEarly link messages before))
EndsSo link old new read said (Worn count) = (old.faults ≤ new.faults) × DeliversFront link read (AreSaidOf link said)
EndsSo link old new read said NoMemory = (new.faults ≡ old.faults)
    × AndEnds link said (λ before. DeliversFront link read (AreTakenOf link before))

-- a pump of input read some bytes, made some calls, and ended so
pub record PumpsIn (link : ℕ) (seat : SeatSight) (old new : Inlet) (end : InEnd) (later : SeatSight) : Type 0 where
  pub read : List ℕ
  pub said : List Exchange
  pub consumed : Consumes old.left new.left read
  pub limited : length read ≤ INPUT_LIMIT
  pub makes : Makes seat said later
  pub ends : EndsSo link old new read said end
