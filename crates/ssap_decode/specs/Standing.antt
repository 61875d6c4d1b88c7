-- What a decoder stands for: the bytes that were taken, and how many of their messages were given.
use Rattle.std.specs.Prelude.{◌≡◌, ◌≢◌, ◌⊎◌, ℕ, ◌+◌, ◌<◌, ◌≤◌, List, [], ◌∷◌, ◌++◌, length, take, drop, Option, Some, None, Result, Ok, Err, ⊤}
use Rattle.std.specs.List.{AllByRecursion}
use Rattle.ssap_grammar.specs.Stream.{Placed, Stream, IsViable, IsPlace, IsWhole, AreMessages, IsInside}
use Rattle.ssap_grammar.specs.Laws.{IsPart}
use Rattle.ssap_decode.specs.Decoding.{Decoding, message_limit}
use Rattle.ssap_decode.specs.declared.framed.Framed.{Framed}
use Rattle.ssap_decode.specs.declared.framed.Stop.{Stop}
use Rattle.ssap_decode.specs.declared.framed.Stop.TheVariants.{Syntax, TooLong, Cut, NoMemory}

-- a message with its places, as one of a stream
abbrev pub placed_of : Framed → Placed
placed_of framed = record { start = framed.start; end = framed.end; envelope = framed.envelope }

-- all of the messages were given, or all but the last, which waits
abbrev pub Waits : Option Framed → ℕ → List Placed → Type 0
Waits None given messages = given ≡ length messages
Waits (Some framed) given messages = (front : List Placed) × (messages ≡ front ++ placed_of framed ∷ []) × (given ≡ length front)

-- the message has no more bytes than it may
abbrev pub IsShort : Placed → Type 0
IsShort message = message.end ≤ message.start + message_limit

-- the decoder has taken these bytes, and has given so many of their messages: a stream, whose last message perhaps waits,
-- and then the unread part of a message; none has more bytes than it may
pub record Stands (decoding : Decoding) (bytes : List ℕ) (given : ℕ) : Type 0 where
  pub whole : List ℕ
  pub messages : List Placed
  pub split : bytes ≡ whole ++ decoding.unread
  pub stream : Stream whole messages
  pub part : IsPart decoding.unread
  pub short : AllByRecursion IsShort messages
  pub fits : length decoding.unread ≤ message_limit
  pub alone : (decoding.waiting ≡ None) ⊎ ((decoding.unread ≡ []) × (decoding.stopped ≡ None))
  pub taken : decoding.taken ≡ length bytes
  pub waits : Waits decoding.waiting given messages

-- the message is the next one of the bytes, behind so many
pub record IsNextOf (bytes : List ℕ) (given : ℕ) (framed : Framed) : Type 0 where
  pub messages : List Placed
  pub are : AreMessages bytes messages
  pub front : List Placed
  pub back : List Placed
  pub split : messages ≡ front ++ placed_of framed ∷ back
  pub behind : length front ≡ given

-- so many messages are all of the bytes
abbrev pub AreAll : List ℕ → ℕ → Type 0
AreAll bytes given = (messages : List Placed) × AreMessages bytes messages × (given ≡ length messages)

-- behind these bytes the stop stands at the first of the others: with it no stream goes on, or one does and it is the
-- first byte above the limit of the message that begins at start
abbrev pub StopIs : List ℕ → List ℕ → Stop → Type 0
StopIs read [] stop = ⊥
StopIs read (byte ∷ bytes) (Syntax place) = (¬ (IsViable (read ++ byte ∷ []))) × (place ≡ length read)
    × ((more : List ℕ) → IsPlace (read ++ byte ∷ more) place)
StopIs read (byte ∷ bytes) (TooLong start) = IsViable (read ++ byte ∷ []) × (length read ≡ start + message_limit) × IsWhole read start
StopIs read (byte ∷ bytes) (Cut start) = ⊥
StopIs read (byte ∷ bytes) NoMemory = ⊥

-- behind these bytes no stop stands at the first of the others: with it a stream goes on, and an unfinished message has
-- room for it
abbrev pub HasRoom : List ℕ → List ℕ → Type 0
HasRoom read [] = ⊤
HasRoom read (byte ∷ bytes) = IsViable (read ++ byte ∷ []) × ((start : ℕ) → IsWhole read start → length read < start + message_limit)

-- what was met is known: the stop was met before, or stands here, or none stands here and the system was out of memory
abbrev pub IsMet : Decoding → List ℕ → List ℕ → Stop → Type 0
IsMet old read bytes (Syntax place) = (old.stopped ≡ Some (Syntax place)) ⊎ StopIs read bytes (Syntax place)
IsMet old read bytes (TooLong start) = (old.stopped ≡ Some (TooLong start)) ⊎ StopIs read bytes (TooLong start)
IsMet old read bytes (Cut start) = old.stopped ≡ Some (Cut start)
IsMet old read bytes NoMemory = HasRoom read bytes

-- all were taken, or a message waits, or some were taken and a stop stands at the next: the message has as many as it may,
-- or no stream goes on with it
abbrev pub IsLeft : Decoding → List ℕ → ℕ → List ℕ → Type 0
IsLeft new read count [] = ⊤
IsLeft new read count (byte ∷ rest) = (new.waiting ≢ None)
    ⊎ ((0 < count) × ((length new.unread ≡ message_limit) ⊎ (¬ (IsViable (read ++ byte ∷ [])))))

-- a call that was fed bytes stands for those that it took too
abbrev pub FeedStands : Decoding → List ℕ → Result ℕ Stop → Decoding → Type 0
FeedStands old bytes (Ok count) new = (read : List ℕ) (given : ℕ) → Stands old read given
    → Stands new (read ++ take count bytes) given × IsLeft new (read ++ take count bytes) count (drop count bytes)
FeedStands old bytes (Err stop) new = (read : List ℕ) (given : ℕ) → Stands old read given → Stands new read given × IsMet old read bytes stop

-- a message that is given is the next one, and none is given exactly where all were
abbrev pub NextStands : Decoding → Option Framed → Decoding → Type 0
NextStands old (Some framed) new = (read : List ℕ) (given : ℕ) → Stands old read given → Stands new read (given + 1) × IsNextOf read given framed
NextStands old None new = (read : List ℕ) (given : ℕ) → Stands old read given → Stands new read given × AreAll read given

-- at the end the bytes are a stream, or end inside a message
abbrev pub EndStands : Decoding → Result (Unit {0}) Stop → Decoding → Type 0
EndStands old (Ok done) new = (read : List ℕ) (given : ℕ) → Stands old read given → Stands new read given × ((messages : List Placed) × Stream read messages)
EndStands old (Err (Syntax place)) new = (read : List ℕ) (given : ℕ) → Stands old read given → Stands new read given × (old.stopped ≡ Some (Syntax place))
EndStands old (Err (TooLong start)) new = (read : List ℕ) (given : ℕ) → Stands old read given → Stands new read given × (old.stopped ≡ Some (TooLong start))
EndStands old (Err (Cut start)) new = (read : List ℕ) (given : ℕ) → Stands old read given
    → Stands new read given × ((old.stopped ≡ Some (Cut start)) ⊎ IsInside read start)
EndStands old (Err NoMemory) new = ⊥
