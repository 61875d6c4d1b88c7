-- How many messages may wait.
use Rattle.std.proofs.Common.{◌≡◌, ℕ, ◌+◌, ◌^◌, ◌<◌, ◌≤◌, Bool, true, ◌&&◌, nat_lt, List, [], ◌∷◌, length, arith}
use Rattle.std.proofs.lemmas.Grind.{common_steps}
use Rattle.std.proofs.lemmas.Bool.{ltb-true, leb-true}
use Rattle.std.proofs.lemmas.List.Sums.{sum_by-cons}
use Rattle.link_table.specs.Links.{bytes_of, all_filled}
use Rattle.link_table.specs.Table.{IsEntry}
use Rattle.link_table.specs.declared.entry.Entry.{Entry}

both : (b c : Bool) → (b && c) ≡ true → (b ≡ true) × (c ≡ true)
both b c are = grind (arith, common_steps)

-- of messages that have bytes there are no more than bytes
pub length-le-bytes_of : (pending : List (List ℕ)) → all_filled pending ≡ true → length pending ≤ bytes_of pending
length-le-bytes_of [] filled = omega arith
length-le-bytes_of (message ∷ pending) filled =
    let parts = both (nat_lt 0 (length message)) (all_filled pending) filled in
    omega (arith, ltb-true 0 (length message) parts.0, length-le-bytes_of pending parts.1, sum_by-cons {X = List ℕ} length message pending)

-- one message more may be put behind those of an entry
pub IsEntry-room : (entry : Entry) → IsEntry entry → length entry.pending + 1 < 2 ^ 63
IsEntry-room entry is = omega (arith, length-le-bytes_of entry.pending is.filled, leb-true (bytes_of entry.pending) (2 ^ 23) is.in_limit)
