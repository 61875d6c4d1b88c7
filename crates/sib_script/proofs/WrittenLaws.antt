-- What is written for entries is read back as these entries.
use Rattle.std.proofs.Common.{◌≡◌, ◌∙◌, ap, sym, refl, ℕ, List, [], ◌∷◌, ◌++◌, length, append_assoc}
use Rattle.sib_script.specs.Script.{entry_spelling, script_spelling, IsEntry, AreEntries, IsScript, BeginsScript}
use Rattle.sib_script.specs.Standing.{IsNextOf, AreAll}
use Rattle.sib_script.specs.declared.entry.Entry.{Entry}
use Rattle.sib_script.proofs.ScriptLaws.{entries_push, script_spelling-push, splits_script, splits_front, splits_unique}

-- one more entry is written behind a script
pub script_longer : (bytes : List ℕ) (entries : List Entry) (entry : Entry) → IsScript bytes entries → IsEntry entry
    → IsScript (bytes ++ entry_spelling entry) (entries ++ entry ∷ [])
script_longer bytes entries entry script one = record {
  allowed = entries_push entries entry script.allowed one;
  spelled = ap (λ l. l ++ entry_spelling entry) script.spelled ∙ sym (script_spelling-push entries entry);
}

-- some script begins with a prefix of one
pub prefix_begins : (bytes more : List ℕ) (entries : List Entry) → IsScript (bytes ++ more) entries → BeginsScript bytes
prefix_begins bytes more entries script = (more, entries, script)

-- the next entry of a prefix of a script is the script's next
pub next_is : (bytes more : List ℕ) (entries : List Entry) (given : ℕ) (entry : Entry) → IsScript (bytes ++ more) entries → IsNextOf bytes given entry
    → (before after : List Entry) × (entries ≡ before ++ entry ∷ after) × (given ≡ length before)
next_is bytes more entries given entry script (before, after, (rest, splits), counted) =
    let front = splits_front bytes more (before ++ entry ∷ after) entries rest [] splits (splits_script (bytes ++ more) entries script) in
    (before, after ++ front.0, front.1 ∙ append_assoc before (entry ∷ after) front.0, counted)

-- all entries of a script are those that it was written for
pub all_are : (bytes : List ℕ) (entries : List Entry) (given : ℕ) → IsScript bytes entries → AreAll bytes given → given ≡ length entries
all_are bytes entries given script (others, (rest, splits), counted) =
    counted ∙ ap length ((splits_unique bytes others entries rest [] splits (splits_script bytes entries script)).0)

-- entries are written as a script of theirs
pub script_of : (entries : List Entry) → AreEntries entries → IsScript (script_spelling entries) entries
script_of entries allowed = record { allowed = allowed; spelled = refl }

-- and of no others
pub entries_of : (entries : List Entry) → AreEntries entries → (others : List Entry) → IsScript (script_spelling entries) others → others ≡ entries
entries_of entries allowed others script =
    let bytes = script_spelling entries in
    (splits_unique bytes others entries [] [] (splits_script bytes others script) (splits_script bytes entries (script_of entries allowed))).0
