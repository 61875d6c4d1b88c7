-- What a reader stands for: the bytes that it ever took, and how many of their entries it gave.
use mathlib.Core.Logic.{inr}
use Rattle.std.specs.Prelude.{◌≡◌, ◌≢◌, ◌⊎◌, ℕ, ◌+◌, ◌<◌, List, [], ◌∷◌, ◌++◌, length, take, drop, Option, Some, None, Result, Ok, Err, true, false, ⊤, refl}
use Rattle.sib_script.specs.Script.{entry_spelling, script_spelling, AreEntries, IsScript, BeginsScript, Splits, IsPlace}
use Rattle.sib_script.specs.Reading.{Reading, IsPart}
use Rattle.sib_script.specs.declared.entry.Entry.{Entry}
use Rattle.sib_script.specs.declared.entry.Entry.TheVariants.{NewLink}
use Rattle.sib_script.specs.declared.reader.ScriptFault.{ScriptFault}
use Rattle.sib_script.specs.declared.reader.ScriptFault.TheVariants.{BadScript, NoMemory}

-- these are the whole entries of the bytes
abbrev pub AreEntriesOf : List ℕ → List Entry → Type 0
AreEntriesOf bytes entries = (rest : List ℕ) × Splits bytes entries rest

-- all of the entries were given, or all but the last, which waits
abbrev pub Waits : Option Entry → ℕ → List Entry → Type 0
Waits None given entries = given ≡ length entries
Waits (Some entry) given entries = (before : List Entry) × (entries ≡ before ++ entry ∷ []) × (given ≡ length before)

-- the reader took these bytes, and gave so many of their entries: whole entries, of which the last may wait, and behind
-- them the unread part of one
pub record Stands (reading : Reading) (bytes : List ℕ) (given : ℕ) : Type 0 where
  pub entries : List Entry
  pub allowed : AreEntries entries
  pub spelled : bytes ≡ script_spelling entries ++ reading.unread
  pub part : IsPart reading.unread ⊎ (reading.unread ≡ [])
  pub taken : reading.taken ≡ length bytes
  pub waits : Waits reading.waiting given entries

-- behind so many entries of the bytes this is the next one
abbrev pub IsNextOf : List ℕ → ℕ → Entry → Type 0
IsNextOf bytes given entry = (before after : List Entry) × AreEntriesOf bytes (before ++ entry ∷ after) × (given ≡ length before)

-- so many entries are all of the bytes
abbrev pub AreAll : List ℕ → ℕ → Type 0
AreAll bytes given = (entries : List Entry) × AreEntriesOf bytes entries × (given ≡ length entries)

-- behind these bytes no script goes on with the first of the others, and the offset is the length of the longest prefix of
-- all of them that begins some script, whatever follows that byte
abbrev pub FaultIs : List ℕ → List ℕ → ℕ → Type 0
FaultIs read [] place = ⊥
FaultIs read (byte ∷ bytes) place = ¬ (BeginsScript (read ++ byte ∷ [])) × ((more : List ℕ) → IsPlace (read ++ byte ∷ more) place)

-- why a call was refused: a fault was met before, at the end of these bytes, or is met at the next one; or there was no
-- memory
abbrev pub IsMet : Reading → List ℕ → List ℕ → ScriptFault → Type 0
IsMet old read bytes (BadScript place) = ((old.stopped ≡ true) × IsPlace read place) ⊎ FaultIs read bytes place
IsMet old read bytes NoMemory = ⊤

-- why bytes are left: an entry waits, or some bytes were taken and no script goes on with the next
abbrev pub IsLeftOver : Reading → List ℕ → ℕ → List ℕ → Type 0
IsLeftOver new read count [] = ⊤
IsLeftOver new read count (byte ∷ rest) = (new.waiting ≢ None) ⊎ ((0 < count) × ¬ (BeginsScript (read ++ byte ∷ [])))

-- a reader that was fed bytes took so many more of them, and one that was refused took none
abbrev pub FeedStands : Reading → List ℕ → Result ℕ ScriptFault → Reading → Type 0
FeedStands old bytes (Ok count) new = (read : List ℕ) (given : ℕ) → Stands old read given
    → Stands new (read ++ take count bytes) given × IsLeftOver new (read ++ take count bytes) count (drop count bytes)
FeedStands old bytes (Err fault) new = (read : List ℕ) (given : ℕ) → Stands old read given → Stands new read given × IsMet old read bytes fault

-- an entry that is given is the next one and counts as given, and none is given exactly where all were
abbrev pub NextStands : Reading → Option Entry → Reading → Type 0
NextStands old (Some entry) new = (read : List ℕ) (given : ℕ) → Stands old read given → Stands new read (given + 1) × IsNextOf read given entry
NextStands old None new = (read : List ℕ) (given : ℕ) → Stands old read given → Stands new read given × AreAll read given

-- at the end the bytes are a script. Or they are none or a fault was met before, and then the offset is the length of their
-- longest prefix that begins some script
abbrev pub EndStands : Reading → Result (Unit {0}) ScriptFault → Reading → Type 0
EndStands old (Ok done) new = (read : List ℕ) (given : ℕ) → Stands old read given → Stands new read given × ((entries : List Entry) × IsScript read entries)
EndStands old (Err (BadScript place)) new = (read : List ℕ) (given : ℕ) → Stands old read given
    → Stands new read given × IsPlace read place × ((old.stopped ≡ true) ⊎ ((entries : List Entry) → ¬ (IsScript read entries)))
EndStands old (Err NoMemory) new = ⊥

-- of `+` and a line end one entry waits, and none was given
example_waits : Stands (record { unread = []; waiting = Some NewLink; taken = 2; stopped = false }) (43 ∷ 10 ∷ []) 0
unfolding entry_spelling
example_waits = record { entries = NewLink ∷ []; allowed = (tt, tt); spelled = refl; part = inr refl; taken = refl; waits = ([], refl, refl) }

-- then it is given
example_given : Stands (record { unread = []; waiting = None; taken = 2; stopped = false }) (43 ∷ 10 ∷ []) 1
unfolding entry_spelling
example_given = record { entries = NewLink ∷ []; allowed = (tt, tt); spelled = refl; part = inr refl; taken = refl; waits = refl }
