-- Streams: messages one after another with white space around them, and the offsets where they begin and end.
use Rattle.std.specs.Prelude.{◌≡◌, ℕ, ◌+◌, ◌≤◌, List, [], ◌∷◌, ◌++◌, length, take}
use Rattle.ssap_items.specs.declared.envelope.Envelope.{Envelope}
use Rattle.ssap_grammar.specs.Characters.{Spaces}
use Rattle.ssap_grammar.specs.Message.{ReadsMessage}

-- a message of a stream: it begins at the byte `start`, counted from 0, and its last byte is the one before `end`
pub record Placed : Type 0 where
  pub start : ℕ
  pub end : ℕ
  pub envelope : Envelope

-- in a stream of so many bytes this message begins here, and others follow after white space
pub record MessageThen (total : ℕ) (message : Placed) (Others : List ℕ → Type 0) (bytes : List ℕ) : Type 0 where
  pub behind : List ℕ
  pub next : List ℕ
  pub reads : ReadsMessage message.envelope bytes behind
  pub start : message.start + length bytes ≡ total
  pub end : message.end + length behind ≡ total
  pub spaces : Spaces behind next
  pub others : Others next

-- ( message WS* )*: in a stream of so many bytes these messages are what is left
abbrev pub Messages : ℕ → List Placed → List ℕ → Type 0
Messages total [] bytes = bytes ≡ []
Messages total (message ∷ messages) bytes = MessageThen total message (Messages total messages) bytes

-- stream: white space, and then messages, each with white space behind it
pub record Stream (bytes : List ℕ) (messages : List Placed) : Type 0 where
  pub first : List ℕ
  pub spaces : Spaces bytes first
  pub reads : Messages (length bytes) messages first

-- the bytes are a prefix of some stream
abbrev pub IsViable : List ℕ → Type 0
IsViable bytes = (more : List ℕ) × (messages : List Placed) × Stream (bytes ++ more) messages

-- place is the length of the longest viable prefix of the bytes
pub record IsPlace (bytes : List ℕ) (place : ℕ) : Type 0 where
  pub within : place ≤ length bytes
  pub viable : IsViable (take place bytes)
  pub longest : (n : ℕ) → n ≤ length bytes → IsViable (take n bytes) → n ≤ place

-- whole is the length of the longest prefix of the bytes that is a stream, of these messages
pub record IsWholeOf (bytes : List ℕ) (whole : ℕ) (messages : List Placed) : Type 0 where
  pub within : whole ≤ length bytes
  pub stream : Stream (take whole bytes) messages
  pub longest : (n : ℕ) (others : List Placed) → n ≤ length bytes → Stream (take n bytes) others → n ≤ whole

-- whole is the length of the longest prefix of the bytes that is a stream
abbrev pub IsWhole : List ℕ → ℕ → Type 0
IsWhole bytes whole = (messages : List Placed) × IsWholeOf bytes whole messages

-- these are the messages of the bytes: those of the longest prefix that is a stream
abbrev pub AreMessages : List ℕ → List Placed → Type 0
AreMessages bytes messages = (whole : ℕ) × IsWholeOf bytes whole messages

-- the bytes end inside a message, which begins at start: they are viable and no stream, and start is whole
pub record IsInside (bytes : List ℕ) (start : ℕ) : Type 0 where
  pub viable : IsViable bytes
  pub unfinished : (messages : List Placed) → ¬ (Stream bytes messages)
  pub whole : IsWhole bytes start
