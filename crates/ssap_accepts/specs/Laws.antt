-- The machine and the grammar say the same of which bytes are a message, and what is so found of all bytes.
use Rattle.std.specs.Prelude.{◌⊎◌, ℕ, List}
use Rattle.ssap_items.specs.declared.envelope.Envelope.{Envelope}
use Rattle.ssap_grammar.specs.Message.{Spells}
use Rattle.ssap_grammar.specs.Stream.{Placed, Stream, IsViable, IsPlace, IsWhole, AreMessages, IsInside}
use Rattle.ssap_machine.specs.Machine.{IsMessage}

-- what spells an envelope the machine accepts as a message
abbrev pub AcceptsSpelled : Type 0
AcceptsSpelled = (bytes : List ℕ) (envelope : Envelope) → Spells bytes envelope → IsMessage bytes

-- and what it accepts spells an envelope
abbrev pub AcceptedSpells : Type 0
AcceptedSpells = (bytes : List ℕ) → IsMessage bytes → (envelope : Envelope) × Spells bytes envelope

-- all bytes are a prefix of some stream or of none
abbrev pub ViabilityIsDecided : Type 0
ViabilityIsDecided = (bytes : List ℕ) → IsViable bytes ⊎ (IsViable bytes → ⊥)

-- all bytes have a longest prefix that is a stream
abbrev pub WholesExist : Type 0
WholesExist = (bytes : List ℕ) → (whole : ℕ) × IsWhole bytes whole

-- so they have messages
abbrev pub MessagesExist : Type 0
MessagesExist = (bytes : List ℕ) → (messages : List Placed) × AreMessages bytes messages

-- and a longest prefix that is viable
abbrev pub PlacesExist : Type 0
PlacesExist = (bytes : List ℕ) → (place : ℕ) × IsPlace bytes place

-- viable bytes are a stream or end inside a message
abbrev pub EndsExist : Type 0
EndsExist = (bytes : List ℕ) → IsViable bytes → ((messages : List Placed) × Stream bytes messages) ⊎ ((start : ℕ) × IsInside bytes start)
