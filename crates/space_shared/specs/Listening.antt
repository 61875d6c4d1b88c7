-- What an intake stands for between two messages, and what a call does to that.
use Rattle.std.specs.Prelude.{◌≡◌, ◌⊎◌, ℕ, Bool, true, false, List, ◌++◌, take, Result, Ok, Err, Some, ⊤}
use Rattle.space_turn.specs.Sights.{HasSameHistory, HasCalled}
use Rattle.ssap_grammar.specs.Stream.{Placed, Stream, IsInside}
use Rattle.ssap_hearing.specs.Hearing.{AreLet, Fronted, Follows}
use Rattle.ssap_decode.specs.declared.framed.Stop.{Stop}
use Rattle.ssap_decode.specs.declared.framed.Stop.TheVariants as stop
use Rattle.ssap_shape.specs.declared.request.Arrived.{Arrived}
use Rattle.ssap_shape.specs.declared.request.Arrived.TheVariants as arrived
use Rattle.session_core.specs.Runs.{reply_to}
use Rattle.session_core.specs.declared.call.Reply.TheVariants as reply
use Rattle.space_shared.specs.Exchanges.{SeatSight, Exchange, Makes}
use Rattle.space_shared.specs.Input.{IsDone, IsDelivery, IsTaken, AreTaken, EndsWithNoRequest, EndsClosed, StopsEarly, DeliversAll, DeliversFront, AreTakenOf, AreSaidOf}
use Rattle.space_shared.specs.Calling.{FoundFull, FoundRoom}
use Rattle.space_shared.specs.declared.intake.Intake.{Intake}
use Rattle.space_shared.specs.declared.ends.InEnd.{InEnd}
use Rattle.space_shared.specs.declared.ends.InEnd.TheVariants.{Ended, Syntax, TooLong, Cut, NotRequest, Closed, ReadFault, Spent, Worn, NoMemory}

-- a link is still to be ended where its input ends so
abbrev pub wants_end : InEnd → Bool
wants_end Ended = true
wants_end (Syntax place) = true
wants_end (TooLong start) = true
wants_end (Cut start) = true
wants_end (NotRequest start) = true
wants_end Closed = false
wants_end ReadFault = true
wants_end Spent = true
wants_end (Worn count) = false
wants_end NoMemory = true

-- how an input ends whose decoder stopped
abbrev pub end_at : Stop → InEnd
end_at (stop.Syntax place) = Syntax place
end_at (stop.TooLong start) = TooLong start
end_at (stop.Cut start) = Cut start
end_at stop.NoMemory = NoMemory

-- what arrived is no request
abbrev pub is_refused : Arrived → Bool
is_refused (arrived.Request request) = false
is_refused (arrived.Wrong heads status) = false
is_refused arrived.NotRequest = true

-- the calls that were made of the bytes that were read, at each end, before the link is ended
abbrev pub Delivered : ℕ → List ℕ → List Exchange → InEnd → Type 0
Delivered link read said Ended = (messages : List Placed) × Stream read messages × AreLet read messages × AreTaken link messages said
Delivered link read said (Syntax place) = (messages : List Placed) × Fronted read messages (Some (stop.Syntax place)) × AreTaken link messages said
Delivered link read said (TooLong start) = (messages : List Placed) × Fronted read messages (Some (stop.TooLong start)) × AreTaken link messages said
Delivered link read said (Cut start) = IsInside read start × (messages : List Placed) × AreLet read messages × AreTaken link messages said
Delivered link read said (NotRequest start) = DeliversFront link read (λ messages. (last : Placed) × (last.start ≡ start) × EndsWithNoRequest link messages last said)
Delivered link read said Closed = DeliversFront link read (λ messages. EndsClosed link messages said)
Delivered link read said ReadFault = (messages : List Placed) × AreLet read messages × AreTaken link messages said
Delivered link read said Spent = DeliversAll link read said ⊎ DeliversFront link read (λ messages. StopsEarly link messages said)
Delivered link read said (Worn count) = DeliversFront link read (AreSaidOf link said)
Delivered link read said NoMemory = DeliversFront link read (AreTakenOf link said)

-- what the last call found, where no other follows
abbrev pub FoundLast : InEnd → SeatSight → Type 0
FoundLast Ended seat = ⊤
FoundLast (Syntax place) seat = ⊤
FoundLast (TooLong start) seat = ⊤
FoundLast (Cut start) seat = ⊤
FoundLast (NotRequest start) seat = ⊤
FoundLast Closed seat = FoundRoom seat
FoundLast ReadFault seat = ⊤
FoundLast Spent seat = ⊤
FoundLast (Worn count) seat = FoundFull count seat
FoundLast NoMemory seat = ⊤

-- a call that takes bytes may end so
abbrev pub is_of_bytes : InEnd → Bool
is_of_bytes Ended = false
is_of_bytes (Syntax place) = true
is_of_bytes (TooLong start) = true
is_of_bytes (Cut start) = false
is_of_bytes (NotRequest start) = true
is_of_bytes Closed = true
is_of_bytes ReadFault = false
is_of_bytes Spent = false
is_of_bytes (Worn count) = true
is_of_bytes NoMemory = true

-- a call that takes none, since none follows, may end so
abbrev pub is_of_end : InEnd → Bool
is_of_end Ended = true
is_of_end (Syntax place) = false
is_of_end (TooLong start) = false
is_of_end (Cut start) = true
is_of_end (NotRequest start) = false
is_of_end Closed = false
is_of_end ReadFault = false
is_of_end Spent = false
is_of_end (Worn count) = false
is_of_end NoMemory = false

-- a decoder took these bytes, their messages were delivered by the calls of a seat, and all were taken
pub record Listens (link : ℕ) (first : SeatSight) (read : List ℕ) (intake : Intake) (now : SeatSight) : Type 0 where
  pub same : intake.link ≡ link
  pub came : ℕ
  pub said : List Exchange
  pub follows : Follows intake.decoder read came
  pub makes : Makes first said now
  pub taken : AreTaken link follows.messages said

-- an intake stands for something
abbrev pub IsListening : Intake → SeatSight → Type 0
IsListening intake now = (link : ℕ) × (first : SeatSight) × (read : List ℕ) × Listens link first read intake now

-- the input ended so, of these bytes, after some calls of a seat
pub record Stops (link : ℕ) (first : SeatSight) (bytes : List ℕ) (end : InEnd) (now : SeatSight) : Type 0 where
  pub said : List Exchange
  pub makes : Makes first said now
  pub delivered : Delivered link bytes said end
  pub found : FoundLast end now

-- bytes were taken and their messages delivered, or the input ended
abbrev pub Feeds : ℕ → SeatSight → List ℕ → Result (Unit {0}) InEnd → Intake → SeatSight → Type 0
Feeds link first bytes (Ok done) intake now = Listens link first bytes intake now
Feeds link first bytes (Err end) intake now = Stops link first bytes end now × (is_of_bytes end ≡ true)

-- a call took so many of these bytes, or is the last
abbrev pub FeedsSome : ℕ → SeatSight → List ℕ → List ℕ → Result ℕ InEnd → Intake → SeatSight → Type 0
FeedsSome link first read bytes (Ok count) intake now = Listens link first (read ++ take count bytes) intake now
FeedsSome link first read bytes (Err end) intake now = Stops link first (read ++ bytes) end now × (is_of_bytes end ≡ true)

-- an input that was taken whole ended so
abbrev pub Finishes : ℕ → SeatSight → List ℕ → InEnd → SeatSight → Type 0
Finishes link first read end now = Stops link first read end now × (is_of_end end ≡ true)

-- a message was delivered to the open link, and is a request or the last; or found it closed; or was not delivered
abbrev pub Delivers : ℕ → Placed → SeatSight → Result (Unit {0}) InEnd → SeatSight → Type 0
Delivers link message old (Ok done) new = (one : Exchange) × IsTaken link message one × HasCalled reply_to old one.call one.reply new
Delivers link message old (Err Ended) new = ⊥
Delivers link message old (Err (Syntax place)) new = ⊥
Delivers link message old (Err (TooLong start)) new = ⊥
Delivers link message old (Err (Cut start)) new = ⊥
Delivers link message old (Err (NotRequest start)) new = (message.start ≡ start) × (one : Exchange) × IsDelivery link message arrived.NotRequest one × IsDone one.reply
    × HasCalled reply_to old one.call one.reply new
Delivers link message old (Err Closed) new = (arrived : Arrived) × (one : Exchange) × IsDelivery link message arrived one × (one.reply ≡ reply.Closed)
    × HasCalled reply_to old one.call one.reply new × FoundRoom new
Delivers link message old (Err ReadFault) new = ⊥
Delivers link message old (Err Spent) new = ⊥
Delivers link message old (Err (Worn count)) new = HasSameHistory old new × FoundFull count new
Delivers link message old (Err NoMemory) new = HasSameHistory old new
