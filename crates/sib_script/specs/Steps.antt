-- How far the reading of one entry has come, and what bytes were read then.
use Rattle.std.specs.Prelude.{◌≡◌, ℕ, ◌+◌, ◌-◌, ◌*◌, ◌<◌, ◌≤◌, List, [], ◌∷◌, ◌++◌, length, codes, Option, Some, None, ⊤, take, drop}
use Rattle.std.specs.Fmt.{decimal}
use Rattle.sib_script.specs.Script.{IsLink}
use Rattle.sib_script.specs.Reading.{IsNoPart}
use Rattle.sib_script.specs.declared.entry.TheConstants.{PIECE_LIMIT}
use Rattle.sib_script.specs.declared.entry.Entry.{Entry}
use Rattle.sib_script.specs.declared.entry.Entry.TheVariants.{NewLink, Bytes, End}
use Rattle.sib_script.specs.declared.step.Step.{Step}
use Rattle.sib_script.specs.declared.step.Step.TheVariants.{Start, Plus, Sign, Link, Space, Count, Inside, Close, Minus, Ended}

-- the first bytes of a delivery on a link, up to the space behind the link, and then others
abbrev pub delivery_prefix : ℕ → List ℕ → List ℕ
delivery_prefix link rest = 62 ∷ (decimal link ++ 32 ∷ rest)

-- the bytes of an entry so far, of which the piece is the delivery's
abbrev pub unread_of : Step → List ℕ → List ℕ
unread_of Start piece = []
unread_of Plus piece = codes "+"
unread_of Sign piece = codes ">"
unread_of (Link link) piece = codes ">" ++ decimal link
unread_of (Space link) piece = delivery_prefix link []
unread_of (Count link count) piece = delivery_prefix link (decimal count)
unread_of (Inside link left) piece = delivery_prefix link (decimal (length piece + left) ++ 10 ∷ piece)
unread_of (Close link) piece = delivery_prefix link (decimal (length piece) ++ 10 ∷ piece)
unread_of Minus piece = codes "-"
unread_of (Ended link) piece = codes "-" ++ decimal link

-- a step that an entry can come to, with so much of the delivery's piece
abbrev pub IsStep : Step → List ℕ → Type 0
IsStep Start piece = piece ≡ []
IsStep Plus piece = piece ≡ []
IsStep Sign piece = piece ≡ []
IsStep (Link link) piece = (piece ≡ []) × IsLink link
IsStep (Space link) piece = (piece ≡ []) × IsLink link
IsStep (Count link count) piece = (piece ≡ []) × IsLink link × (count ≤ PIECE_LIMIT)
IsStep (Inside link left) piece = IsLink link × (0 < left) × (length piece + left ≤ PIECE_LIMIT)
IsStep (Close link) piece = IsLink link × (length piece ≤ PIECE_LIMIT)
IsStep Minus piece = piece ≡ []
IsStep (Ended link) piece = (piece ≡ []) × IsLink link

-- the next byte is none of a delivery's own
abbrev pub IsHeader : Step → Type 0
IsHeader (Inside link left) = ⊥
IsHeader step = ⊤

-- a number of at least so much begins with the byte
pub record Begins (byte least : ℕ) : Type 0 where
  pub low : 48 + least ≤ byte
  pub high : byte ≤ 57

-- a number goes on with the byte: with a digit, if it is not 0 and stays within the limit
pub record Lengthens (value byte limit : ℕ) : Type 0 where
  pub filled : 0 < value
  pub low : 48 ≤ byte
  pub high : byte ≤ 57
  pub within : value * 10 + (byte - 48) ≤ limit

-- these bytes lead from a step to the next, and leave the piece as it is
abbrev pub Walks : Step → List ℕ → Step → Type 0
Walks step bytes next = (piece : List ℕ) → IsStep step piece
    → IsStep next piece × (unread_of next piece ≡ unread_of step piece ++ bytes)

-- no entry goes on with the byte
abbrev pub Sticks : Step → ℕ → Type 0
Sticks step byte = (piece : List ℕ) → IsStep step piece → IsNoPart (unread_of step piece ++ byte ∷ [])

-- a line end would end the entry
abbrev pub IsLast : Step → Type 0
IsLast Plus = ⊤
IsLast (Close link) = ⊤
IsLast (Ended link) = ⊤
IsLast step = ⊥

-- the next byte ends an entry
abbrev pub IsEnd : Step → List ℕ → Type 0
IsEnd step [] = ⊥
IsEnd step (byte ∷ rest) = IsLast step × (byte ≡ 10)

-- no byte is left, or the next one ends the entry, or no entry goes on with it
abbrev pub Halts : Step → List ℕ → Type 0
Halts step [] = ⊤
Halts step (byte ∷ rest) = ¬ (IsLast step × (byte ≡ 10)) → Sticks step byte

-- the same, or a delivery's own bytes are due
abbrev pub Stops : Step → List ℕ → Type 0
Stops step bytes = IsHeader step → Halts step bytes

-- the step that a byte of the header leads to, or none
abbrev pub Moves : Step → ℕ → Option Step → Type 0
Moves step byte (Some next) = Walks step (byte ∷ []) next
Moves step byte None = Stops step (byte ∷ [])

-- some of the bytes lead from a step and a piece to others: as many as there are before an entry's last line end or a
-- byte that no entry goes on with
pub record Leads (step : Step) (piece bytes : List ℕ) (count : ℕ) (next : Step) (new : List ℕ) : Type 0 where
  pub within : count ≤ length bytes
  pub allowed : IsStep step piece → IsStep next new
  pub grows : IsStep step piece → unread_of next new ≡ unread_of step piece ++ take count bytes
  pub halts : Halts next (drop count bytes)

-- the entry that a line end ends
abbrev pub entry_of : Step → List ℕ → Entry
entry_of (Close link) piece = Bytes link piece
entry_of (Ended link) piece = End link
entry_of step piece = NewLink

-- there is a byte, and a delivery's own bytes are due
abbrev pub IsRoomWanted : Step → List ℕ → Type 0
IsRoomWanted step [] = ⊥
IsRoomWanted step (byte ∷ rest) = (link left : ℕ) × (step ≡ Inside link left)

-- some entry goes on with the first byte
abbrev pub GoesOn : Step → List ℕ → List ℕ → Type 0
GoesOn step piece [] = ⊥
GoesOn step piece (byte ∷ rest) = ¬ IsNoPart (unread_of step piece ++ byte ∷ [])
