-- What holds of a generated script.
use Rattle.std.specs.Prelude.{◌≡◌, ℕ, ◌+◌, ◌<◌, ◌^◌, length}
use Rattle.sib_script.specs.Script.{IsEntry, IsScript}
use Rattle.made_script.specs.Made.{entry_at, made_len, made_entries, made_script}

-- each entry may stand in a script: its link has a number, and its delivery is no longer than the limit
abbrev pub MadeEntriesAreAllowed : Type 0
MadeEntriesAreAllowed = (position : ℕ) → position < 2 ^ 64 → IsEntry (entry_at position)

-- a generated script is a script of its entries
abbrev pub MadeScriptsAreScripts : Type 0
MadeScriptsAreScripts = (updates : ℕ) → updates + 52 < 2 ^ 64 → IsScript (made_script updates) (made_entries updates)

-- it has one entry for the link, one for the JOIN, fifty for the subscriptions, and one for each update
abbrev pub MadeEntriesAreCounted : Type 0
MadeEntriesAreCounted = (updates : ℕ) → length (made_entries updates) ≡ made_len updates
