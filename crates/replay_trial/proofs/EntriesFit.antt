-- What came on a link, with one delivery of the script more, can be counted.
use Rattle.std.proofs.Common.{arith, ℕ, zero, suc, ◌+◌, ◌*◌, ◌<◌, ◌≤◌, ◌^◌, ◌==◌, true, false, cond, List, [], ◌∷◌, ◌++◌, length, length-append, map, codes}
use Rattle.std.specs.Fmt.{decimal}
use Rattle.std.specs.List.{range_with_len}
use Rattle.sib_script.specs.declared.entry.Entry.TheVariants.{NewLink, Bytes}
use Rattle.sib_script.specs.Script.{entry_spelling, script_spelling}
use Rattle.sib_script.proofs.WrittenLines.{number_short}
use Rattle.sib_replay.specs.Output.{Event, AreTaken}
use Rattle.sib_replay.specs.Session.{Fits}
use Rattle.sib_replay.proofs.ReplayLemmas.{heard_read}
use Rattle.made_script.specs.Made.{made_space, message_at, entry_at}
use Rattle.made_script.proofs.MessageLengths.{message_fits}
use Rattle.replay_trial.specs.Playing.{first_entries}

-- a delivery of the script is short as it is written
delivery_short : (bytes : List ℕ) → length bytes ≤ 65536 → length (entry_spelling (Bytes 1 bytes)) ≤ 70000
unfolding entry_spelling
delivery_short bytes short =
    let front = codes ">" ++ decimal 1 ++ codes " " in
    omega (
      arith,
      short,
      number_short 1 (omega arith),
      number_short (length bytes) (omega (arith, short)),
      length-append (codes ">") (decimal 1),
      length-append (codes ">" ++ decimal 1) (codes " "),
      length-append front (decimal (length bytes)),
      length-append (front ++ decimal (length bytes)) (10 ∷ []),
      length-append (front ++ decimal (length bytes) ++ 10 ∷ []) bytes,
      length-append (front ++ decimal (length bytes) ++ 10 ∷ [] ++ bytes) (10 ∷ []),
    )

opening_short : length (entry_spelling NewLink) ≤ 70000
unfolding entry_spelling
opening_short = omega arith

entry_short : (position : ℕ) → position < 2 ^ 64 → length (entry_spelling (entry_at position)) ≤ 70000
entry_short position small =
    elim (position == 0) as (λ b. length (entry_spelling (cond b NewLink (Bytes 1 (message_at position)))) ≤ 70000)
    [ true ↦ opening_short | false ↦ delivery_short (message_at position) (message_fits position small) ]

-- so are some entries
entries_short : (start count : ℕ) → start + count < 2 ^ 64 → length (script_spelling (map entry_at (range_with_len start count))) ≤ count * 70000
entries_short start zero small = omega arith
entries_short start (suc count) small =
    omega (
      arith,
      entry_short start (omega (arith, small)),
      entries_short (start + 1) count (omega (arith, small)),
      length-append (entry_spelling (entry_at start)) (script_spelling (map entry_at (range_with_len (start + 1) count))),
    )

-- behind the entries before it an entry can be answered
pub entry_fits : (count : ℕ) (events : List Event) → count < 2 ^ 32 → AreTaken made_space (first_entries count) events → Fits events (entry_at count)
entry_fits count events few taken =
    elim (count == 0) as (λ b. Fits events (cond b NewLink (Bytes 1 (message_at count)))) [
      | true ↦ tt
      | false ↦ omega (
        arith,
        few,
        message_fits count (omega (arith, few)),
        heard_read made_space [] 1 (first_entries count) events taken,
        entries_short 0 count (omega (arith, few)),
      )
    ]
