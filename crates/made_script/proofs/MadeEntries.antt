-- The entries of a generated script, one after another.
use Rattle.std.proofs.Common.{◌≡◌, ◌∙◌, ap, refl, sym, subst, arith, ℕ, zero, suc, ◌+◌, ◌<◌, ◌≤◌, ◌^◌, List, ◌++◌, length, map, take, drop, take-append-drop, Option}
use Rattle.std.specs.Io.KnownBytes.{Appends}
use Rattle.std.proofs.KnownBytes.{Appends-trans}
use Rattle.std.specs.List.{range_with_len}
use Rattle.std.proofs.lemmas.List.FromFn.{length-map-range_with_len, take-map-range_with_len, map-range_with_len_more}
use Rattle.sib_script.specs.Script.{entry_spelling, script_spelling, AreEntries, IsScript}
use Rattle.sib_script.specs.declared.entry.Entry.{Entry}
use Rattle.sib_script.proofs.ScriptLaws.{script_spelling-push, script_spelling-append}
use Rattle.sib_io.specs.Causes.{AppendsPart}
use Rattle.sib_io.proofs.KnownLemmas.{part_after, part_of_more}
use Rattle.made_script.specs.Made.{entry_at, made_len, made_entries, made_script}
use Rattle.made_script.proofs.MessageLengths.{entry_allowed}

-- the first entries
abbrev pub first_entries : ℕ → List Entry
first_entries count = map entry_at (range_with_len 0 count)

-- entries from a position on may stand in a script
entries_allowed : (start count : ℕ) → start + count < 2 ^ 64 → AreEntries (map entry_at (range_with_len start count))
entries_allowed start zero small = tt
entries_allowed start (suc count) small = (entry_allowed start (omega arith), entries_allowed (start + 1) count (omega arith))

-- a generated script is a script of its entries
pub made_is_script : (updates : ℕ) → updates + 52 < 2 ^ 64 → IsScript (made_script updates) (made_entries updates)
unfolding made_script made_entries
made_is_script updates small = record { allowed = entries_allowed 0 (52 + updates) (omega arith); spelled = refl }

-- it has as many as it should
pub made_counted : (updates : ℕ) → length (made_entries updates) ≡ made_len updates
unfolding made_entries
made_counted updates = length-map-range_with_len entry_at 0 (52 + updates)

-- one more entry is written behind the first ones
pub spelled_more : (count : ℕ) → script_spelling (first_entries (count + 1)) ≡ script_spelling (first_entries count) ++ entry_spelling (entry_at count)
spelled_more count =
    ap script_spelling (map-range_with_len_more entry_at 0 count count (omega arith)) ∙ script_spelling-push (first_entries count) (entry_at count)

-- the first entries are a prefix of the script
first_spelled : (count updates : ℕ) → count ≤ made_len updates
    → script_spelling (first_entries count) ++ script_spelling (drop count (made_entries updates)) ≡ made_script updates
unfolding made_script made_entries
first_spelled count updates within =
    let all = first_entries (made_len updates) in
    ap (λ l. script_spelling l ++ script_spelling (drop count all)) (sym (take-map-range_with_len entry_at 0 (made_len updates) count within))
    ∙ sym (script_spelling-append (take count all) (drop count all)) ∙ ap script_spelling (take-append-drop count all)

-- the whole script was written where all entries were
pub all_written : (a b : Option (List ℕ)) (count updates : ℕ) → count ≡ made_len updates → Appends a b (script_spelling (first_entries count)) → Appends a b (made_script updates)
unfolding made_script made_entries
all_written a b count updates e p = subst (λ n. Appends a b (script_spelling (first_entries n))) e p

-- one more entry was written behind the first ones
pub more_written : (a b c : Option (List ℕ)) (count : ℕ) → Appends a b (script_spelling (first_entries count)) → Appends b c (entry_spelling (entry_at count))
    → Appends a c (script_spelling (first_entries (count + 1)))
more_written a b c count p q =
    subst (Appends a c) (sym (spelled_more count)) (Appends-trans a b c (script_spelling (first_entries count)) (entry_spelling (entry_at count)) p q)

-- a prefix of the next entry behind the first ones is a prefix of the script
pub part_written : (a b c : Option (List ℕ)) (count updates : ℕ) → count < made_len updates → Appends a b (script_spelling (first_entries count))
    → AppendsPart b c (entry_spelling (entry_at count)) → AppendsPart a c (made_script updates)
part_written a b c count updates within p q =
    let behind = part_after a b c (script_spelling (first_entries count)) (entry_spelling (entry_at count)) p q in
    let more = subst (AppendsPart a c) (sym (spelled_more count)) behind in
    subst (AppendsPart a c) (first_spelled (count + 1) updates (omega arith))
    (part_of_more a c (script_spelling (first_entries (count + 1))) (script_spelling (drop (count + 1) (made_entries updates))) more)
