-- What a decoder is seen as, and what a call of it does.
use Rattle.std.specs.Prelude.{◌≡◌, ◌≢◌, ◌⊎◌, ℕ, ◌+◌, ◌<◌, ◌≤◌, List, [], ◌∷◌, ◌++◌, length, take, drop, Option, Some, None, Result, Ok, Err, ⊤}
use Rattle.std.specs.List.{AllByRecursion}
use Rattle.ssap_items.specs.declared.envelope.Envelope.{Envelope}
use Rattle.ssap_grammar.specs.Characters.{IsWhite}
use Rattle.ssap_grammar.specs.Message.{Spells}
use Rattle.ssap_grammar.specs.Laws.{IsPart, IsDeadEnd}
use Rattle.ssap_decode.specs.declared.framed.Framed.{Framed}
use Rattle.ssap_decode.specs.declared.framed.Stop.{Stop}
use Rattle.ssap_decode.specs.declared.framed.Stop.TheVariants.{Syntax, TooLong, Cut, NoMemory}

-- the most bytes of a message
abbrev pub message_limit : ℕ
message_limit = 4194304

-- a decoder: the bytes of the message that is not whole yet, the message that waits, how many bytes were taken, and the
-- stop that it met
pub record Decoding : Type 0 where
  pub unread : List ℕ
  pub waiting : Option Framed
  pub taken : ℕ
  pub stopped : Option Stop

-- a decoder that has taken nothing
abbrev pub fresh : Decoding
fresh = record { unread = []; waiting = None; taken = 0; stopped = None }

-- a message begins with these bytes, and is perhaps no longer
abbrev pub BeginMessage : List ℕ → Type 0
BeginMessage bytes = (more : List ℕ) × (envelope : Envelope) × Spells (bytes ++ more) envelope

-- the stop of a byte behind the unread ones: no message goes on with it, or it is the first above the limit and one does
abbrev pub StopsAt : Decoding → ℕ → Stop → Type 0
StopsAt old byte (Syntax place) = (place ≡ old.taken) × IsDeadEnd old.unread byte
StopsAt old byte (TooLong start) = (start + length old.unread ≡ old.taken) × (length old.unread ≡ message_limit)
    × BeginMessage (old.unread ++ byte ∷ [])
StopsAt old byte (Cut start) = ⊥
StopsAt old byte NoMemory = ⊥

-- the stop stands at the first of these bytes
abbrev pub FirstStops : Decoding → List ℕ → Stop → Type 0
FirstStops old [] stop = ⊥
FirstStops old (byte ∷ bytes) stop = StopsAt old byte stop

-- a stop stands at the first of these bytes: the message has as many as it may, or does not go on with it
abbrev pub StopStands : Decoding → List ℕ → Type 0
StopStands old [] = ⊥
StopStands old (byte ∷ bytes) = (length old.unread ≡ message_limit) ⊎ IsDeadEnd old.unread byte

-- this part of the piece ends a message, which then waits
pub record EndsMessage (old : Decoding) (piece part : List ℕ) (framed : Framed) (new : Decoding) : Type 0 where
  pub some : 0 < length part
  pub spelled : Spells (old.unread ++ part) framed.envelope
  pub within : length (old.unread ++ part) ≤ message_limit
  pub start : framed.start + length (old.unread ++ part) ≡ framed.end
  pub end : framed.end ≡ old.taken + length piece
  pub is : new ≡ record old { unread = []; waiting = Some framed; taken = old.taken + length piece }

-- this part of the piece is part of a message, and a stop stands at the first byte that is left
pub record EndsPart (old : Decoding) (piece part rest : List ℕ) (new : Decoding) : Type 0 where
  pub begins : IsPart (old.unread ++ part)
  pub within : length (old.unread ++ part) ≤ message_limit
  pub is : new ≡ record old { unread = old.unread ++ part; taken = old.taken + length piece }
  pub stop : rest ≢ [] → (0 < length piece) × StopStands new rest

-- this part of the piece ends a message, or is part of one
abbrev pub Reaches : Decoding → List ℕ → List ℕ → List ℕ → Option Framed → Decoding → Type 0
Reaches old piece part rest (Some framed) new = EndsMessage old piece part framed new
Reaches old piece part rest None new = EndsPart old piece part rest new

-- a decoder in which no message waits takes the piece, of which white space in front stands between two messages
pub record Takes (old : Decoding) (piece rest : List ℕ) (new : Decoding) : Type 0 where
  pub white : List ℕ
  pub part : List ℕ
  pub split : piece ≡ white ++ part
  pub each : AllByRecursion IsWhite white
  pub between : (white ≡ []) ⊎ (old.unread ≡ [])
  pub reaches : Reaches old piece part rest new.waiting new

-- while a message waits nothing is taken
abbrev pub FeedsWaiting : Decoding → Option Framed → List ℕ → ℕ → Decoding → Type 0
FeedsWaiting old (Some framed) bytes count new = (count ≡ 0) × (new ≡ old)
FeedsWaiting old None bytes count new = (old.stopped ≡ None) × Takes old (take count bytes) (drop count bytes) new

-- a call with these bytes took so many of them
pub record Feeds (old : Decoding) (bytes : List ℕ) (count : ℕ) (new : Decoding) : Type 0 where
  pub within : count ≤ length bytes
  pub does : FeedsWaiting old old.waiting bytes count new

-- no stop stands at the first of these bytes: it is white space between two messages, or the unread message has room for
-- it and goes on with it; or there is no byte
abbrev pub GoesOn : Decoding → List ℕ → Type 0
GoesOn old [] = ⊤
GoesOn old (byte ∷ bytes) = ((old.unread ≡ []) × IsWhite byte)
    ⊎ ((length old.unread < message_limit) × BeginMessage (old.unread ++ byte ∷ []))

-- no message waits and no stop was met, and so bytes are taken
pub record IsReady (old : Decoding) : Type 0 where
  pub idle : old.waiting ≡ None
  pub sound : old.stopped ≡ None

-- a call met the stop now, or it was met before
abbrev pub Stays : Decoding → List ℕ → Stop → Type 0
Stays old bytes stop = (old.stopped ≡ Some stop) ⊎ (IsReady old × FirstStops old bytes stop)

-- a call was refused: a stop stands from then on, or none stood at the next byte and the system was out of memory, and
-- nothing changed
abbrev pub Refuses : Decoding → List ℕ → Decoding → Stop → Type 0
Refuses old bytes new (Syntax place) = (new ≡ record old { stopped = Some (Syntax place) }) × Stays old bytes (Syntax place)
Refuses old bytes new (TooLong start) = (new ≡ record old { stopped = Some (TooLong start) }) × Stays old bytes (TooLong start)
Refuses old bytes new (Cut start) = (new ≡ old) × (old.stopped ≡ Some (Cut start))
Refuses old bytes new NoMemory = (new ≡ old) × IsReady old × GoesOn old bytes

-- the end of the bytes: fine where no message is unfinished, and a cut inside one, which stands from then on
abbrev pub Ends : Decoding → Result (Unit {0}) Stop → Decoding → Type 0
Ends old (Ok done) new = (old.unread ≡ []) × (old.stopped ≡ None) × (new ≡ old)
Ends old (Err (Syntax place)) new = (new ≡ old) × (old.stopped ≡ Some (Syntax place))
Ends old (Err (TooLong start)) new = (new ≡ old) × (old.stopped ≡ Some (TooLong start))
Ends old (Err (Cut start)) new = (new ≡ record old { stopped = Some (Cut start) })
    × ((old.stopped ≡ Some (Cut start)) ⊎ ((old.stopped ≡ None) × (0 < length old.unread) × (start + length old.unread ≡ old.taken)))
Ends old (Err NoMemory) new = ⊥
