-- What holds of the grammar.
use Rattle.std.specs.Prelude.{◌≡◌, ◌⊎◌, ℕ, ◌+◌, ◌<◌, List, [], ◌∷◌, ◌++◌, length}
use Rattle.ssap_items.specs.declared.envelope.Envelope.{Envelope}
use Rattle.ssap_items.specs.Canon.{canonical}
use Rattle.ssap_grammar.specs.Characters.{IsWhite, Spaces}
use Rattle.ssap_grammar.specs.Sayable.{IsSayable}
use Rattle.ssap_grammar.specs.Message.{ReadsMessage, Spells}
use Rattle.ssap_grammar.specs.Stream.{Placed, Stream, IsViable, IsPlace, IsWhole, IsWholeOf, AreMessages, IsInside}

-- bytes begin with at most one message, which ends at one offset
abbrev pub MessagesAreTold : Type 0
MessagesAreTold = (bytes rest left : List ℕ) (envelope other : Envelope) → ReadsMessage envelope bytes rest
    → ReadsMessage other bytes left → (envelope ≡ other) × (rest ≡ left)

-- bytes spell at most one envelope
abbrev pub SpellsOnce : Type 0
SpellsOnce = (bytes : List ℕ) (envelope other : Envelope) → Spells bytes envelope → Spells bytes other → envelope ≡ other

-- no spelling is a proper prefix of another
abbrev pub NoneBegins : Type 0
NoneBegins = (bytes more : List ℕ) (envelope other : Envelope) → Spells bytes envelope → Spells (bytes ++ more) other → more ≡ []

-- bytes are a stream of at most one list of messages, at one offset each
abbrev pub StreamsOnce : Type 0
StreamsOnce = (bytes : List ℕ) (messages others : List Placed) → Stream bytes messages → Stream bytes others → messages ≡ others

-- as more bytes follow, the messages stay and others may follow
abbrev pub MessagesStay : Type 0
MessagesStay = (bytes more : List ℕ) (messages others : List Placed) → AreMessages bytes messages
    → AreMessages (bytes ++ more) others → (tail : List Placed) × (others ≡ messages ++ tail)

-- a message is some bytes of its own, which spell its envelope
abbrev pub MessagesAreSpelled : Type 0
MessagesAreSpelled = (bytes rest : List ℕ) (envelope : Envelope) → ReadsMessage envelope bytes rest
    → (word : List ℕ) × (bytes ≡ word ++ rest) × Spells word envelope

-- and what spells an envelope is read as it, whatever follows
abbrev pub SpellingsAreRead : Type 0
SpellingsAreRead = (word rest : List ℕ) (envelope : Envelope) → Spells word envelope → ReadsMessage envelope (word ++ rest) rest

-- white space behind a stream adds no message
abbrev pub SpacesAddNone : Type 0
SpacesAddNone = (bytes more : List ℕ) (messages : List Placed) → Stream bytes messages → Spaces more [] → Stream (bytes ++ more) messages

-- a message behind a stream is one more, and stands at the stream's end
abbrev pub MessagesAddOne : Type 0
MessagesAddOne = (bytes word : List ℕ) (messages : List Placed) (envelope : Envelope) → Stream bytes messages → Spells word envelope
    → Stream (bytes ++ word) (messages ++ record { start = length bytes; end = length bytes + length word; envelope = envelope } ∷ [])

-- of these messages one begins at start and ends behind the bytes, and those before it are the messages of the bytes
pub record Unfinished (bytes : List ℕ) (start : ℕ) (messages : List Placed) : Type 0 where
  pub before : List Placed
  pub message : Placed
  pub after : List Placed
  pub split : messages ≡ before ++ message ∷ after
  pub whole : IsWholeOf bytes start before
  pub begins : message.start ≡ start
  pub ends : length bytes < message.end

-- the unfinished message of bytes begins where the whole ones end, in each stream that goes on from them
abbrev pub UnfinishedBegins : Type 0
UnfinishedBegins = (bytes : List ℕ) (start : ℕ) (more : List ℕ) (messages : List Placed) → IsInside bytes start
    → Stream (bytes ++ more) messages → Unfinished bytes start messages

-- the canonical spelling of a sayable envelope spells it
abbrev pub CanonicalSpells : Type 0
CanonicalSpells = (envelope : Envelope) → IsSayable envelope → Spells (canonical envelope) envelope

-- what the canonical spelling of a sayable envelope is read as is that envelope, and has the same canonical spelling
abbrev pub CanonicalStays : Type 0
CanonicalStays = (envelope other : Envelope) → IsSayable envelope → Spells (canonical envelope) other
    → (other ≡ envelope) × (canonical other ≡ canonical envelope)

-- what bytes spell is sayable
abbrev pub SpellingsAreSayable : Type 0
SpellingsAreSayable = (bytes : List ℕ) (envelope : Envelope) → Spells bytes envelope → IsSayable envelope

-- so whatever bytes spell is spelled canonically too
abbrev pub SpellingsAreCanonical : Type 0
SpellingsAreCanonical = (bytes : List ℕ) (envelope : Envelope) → Spells bytes envelope → Spells (canonical envelope) envelope

-- the longest viable prefix of bytes has one length
abbrev pub PlacesOnce : Type 0
PlacesOnce = (bytes : List ℕ) (m n : ℕ) → IsPlace bytes m → IsPlace bytes n → m ≡ n

-- so has the longest prefix that is a stream
abbrev pub WholesOnce : Type 0
WholesOnce = (bytes : List ℕ) (m n : ℕ) → IsWhole bytes m → IsWhole bytes n → m ≡ n

-- a stream is whole
abbrev pub StreamsAreWhole : Type 0
StreamsAreWhole = (bytes : List ℕ) (messages : List Placed) → Stream bytes messages → IsWholeOf bytes (length bytes) messages

-- the bytes are a proper prefix of the spelling of a message
abbrev pub IsPart : List ℕ → Type 0
IsPart part = (more : List ℕ) × (envelope : Envelope) × (0 < length more) × Spells (part ++ more) envelope

-- a stream and then a part of a message end inside that message
abbrev pub PartsAreInside : Type 0
PartsAreInside = (bytes part : List ℕ) (messages : List Placed) → Stream bytes messages → IsPart part → 0 < length part
    → IsWholeOf (bytes ++ part) (length bytes) messages × IsInside (bytes ++ part) (length bytes)

-- behind a part of a message the byte goes on with none, and it is no white space between two messages
pub record IsDeadEnd (part : List ℕ) (byte : ℕ) : Type 0 where
  pub solid : (0 < length part) ⊎ (¬ (IsWhite byte))
  pub none : (more : List ℕ) (envelope : Envelope) → ¬ (Spells (part ++ byte ∷ more) envelope)

-- so no stream goes on with it, and the longest viable prefix ends before it, whatever follows
abbrev pub DeadEnds : Type 0
DeadEnds = (bytes part more : List ℕ) (byte : ℕ) (messages : List Placed) → Stream bytes messages → IsPart part → IsDeadEnd part byte
    → ¬ (IsViable (bytes ++ (part ++ byte ∷ []))) × IsPlace (bytes ++ (part ++ byte ∷ more)) (length (bytes ++ part))
