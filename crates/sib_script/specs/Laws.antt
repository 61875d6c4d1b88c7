-- What holds of the format of a script.
use Rattle.std.specs.Prelude.{◌≡◌, ◌⊎◌, ℕ, ◌<◌, List, [], ◌∷◌, ◌++◌, length}
use Rattle.sib_script.specs.Script.{entry_spelling, script_spelling, IsEntry, AreEntries, IsScript, BeginsScript, Splits, IsPlace}
use Rattle.sib_script.specs.Reading.{IsPart, IsNoPart}
use Rattle.sib_script.specs.Standing.{IsNextOf, AreAll}
use Rattle.sib_script.specs.declared.entry.Entry.{Entry}

-- bytes begin with at most one entry, so no entry's spelling begins another's
abbrev pub EntriesAreTold : Type 0
EntriesAreTold = (entry other : Entry) (rest left : List ℕ) → IsEntry entry → IsEntry other
    → entry_spelling entry ++ rest ≡ entry_spelling other ++ left → (entry ≡ other) × (rest ≡ left)

-- bytes are split into whole entries and a rest in one way
abbrev pub SplitsOnce : Type 0
SplitsOnce = (bytes : List ℕ) (entries others : List Entry) (rest left : List ℕ) → Splits bytes entries rest
    → Splits bytes others left → (entries ≡ others) × (rest ≡ left)

-- where more bytes follow, the entries so far stay and others may follow
abbrev pub SplitsGrow : Type 0
SplitsGrow = (bytes more : List ℕ) (entries others : List Entry) (rest left : List ℕ) → Splits bytes entries rest
    → Splits (bytes ++ more) others left → (tail : List Entry) × (others ≡ entries ++ tail)

-- nothing is left of a script
abbrev pub ScriptsSplit : Type 0
ScriptsSplit = (bytes : List ℕ) (entries : List Entry) → IsScript bytes entries → Splits bytes entries []

-- bytes of which something is left are no script
abbrev pub RestIsNoScript : Type 0
RestIsNoScript = (bytes : List ℕ) (entries : List Entry) (rest : List ℕ) → Splits bytes entries rest → 0 < length rest
    → (others : List Entry) → ¬ IsScript bytes others

-- entries and then nothing or a part of one are so split, and some script begins with them
abbrev pub PartsSplit : Type 0
PartsSplit = (bytes : List ℕ) (entries : List Entry) (unread : List ℕ) → AreEntries entries
    → bytes ≡ script_spelling entries ++ unread → (IsPart unread ⊎ (unread ≡ []))
    → Splits bytes entries unread × BeginsScript bytes

-- where a byte follows that no entry goes on with, no script begins so, and no entry is added, whatever follows
abbrev pub DeadEnds : Type 0
DeadEnds = (bytes : List ℕ) (entries : List Entry) (unread : List ℕ) (byte : ℕ) (more : List ℕ) → AreEntries entries
    → bytes ≡ script_spelling entries ++ unread → (IsPart unread ⊎ (unread ≡ []))
    → IsNoPart (unread ++ byte ∷ [])
    → ¬ (BeginsScript (bytes ++ byte ∷ more)) × Splits (bytes ++ byte ∷ more) entries (unread ++ byte ∷ more)

-- an entry may be put after any others, and its spelling comes after theirs
abbrev pub EntriesGrow : Type 0
EntriesGrow = (entries : List Entry) (entry : Entry)
    → (AreEntries (entries ++ entry ∷ []) → AreEntries entries × IsEntry entry)
    × (AreEntries entries → IsEntry entry → AreEntries (entries ++ entry ∷ []))
    × (script_spelling (entries ++ entry ∷ []) ≡ script_spelling entries ++ entry_spelling entry)

-- all bytes split into whole entries and a rest
abbrev pub SplitsExist : Type 0
SplitsExist = (bytes : List ℕ) → (entries : List Entry) × (rest : List ℕ) × Splits bytes entries rest

-- some script begins with the bytes or none does
abbrev pub BeginningIsDecided : Type 0
BeginningIsDecided = (bytes : List ℕ) → BeginsScript bytes ⊎ (BeginsScript bytes → ⊥)

-- at most one offset is the length of the longest prefix of the bytes that begins some script
abbrev pub PlacesOnce : Type 0
PlacesOnce = (bytes : List ℕ) (place other : ℕ) → IsPlace bytes place → IsPlace bytes other → place ≡ other

-- all bytes have such an offset
abbrev pub PlacesExist : Type 0
PlacesExist = (bytes : List ℕ) → (place : ℕ) × IsPlace bytes place

-- entries that a script may have are written, one behind another, as a script of these entries and of no others
abbrev pub WrittenIsScript : Type 0
WrittenIsScript = (entries : List Entry) → AreEntries entries
    → IsScript (script_spelling entries) entries × ((others : List Entry) → IsScript (script_spelling entries) others → others ≡ entries)

-- a script behind which one more entry is written is a script of one entry more
abbrev pub ScriptsGrow : Type 0
ScriptsGrow = (bytes : List ℕ) (entries : List Entry) (entry : Entry) → IsScript bytes entries → IsEntry entry
    → IsScript (bytes ++ entry_spelling entry) (entries ++ entry ∷ [])

-- a reader of a prefix of what was written meets no fault, since some script begins with it
abbrev pub PrefixesBegin : Type 0
PrefixesBegin = (bytes more : List ℕ) (entries : List Entry) → IsScript (bytes ++ more) entries → BeginsScript bytes

-- behind so many entries of what was read so far, the next one is the next that was written
abbrev pub NextIsWritten : Type 0
NextIsWritten = (bytes more : List ℕ) (entries : List Entry) (given : ℕ) (entry : Entry) → IsScript (bytes ++ more) entries → IsNextOf bytes given entry
    → (before after : List Entry) × (entries ≡ before ++ entry ∷ after) × (given ≡ length before)

-- a reader that read all of it and gave all entries gave as many as were written
abbrev pub AllAreWritten : Type 0
AllAreWritten = (bytes : List ℕ) (entries : List Entry) (given : ℕ) → IsScript bytes entries → AreAll bytes given → given ≡ length entries
