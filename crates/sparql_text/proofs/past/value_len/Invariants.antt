use Rattle.std.proofs.Common.{◌≡◌, ◌+◌, ◌≤◌, false, length}
use Rattle.sparql_text.proofs.StringValues.{value_len}
use Rattle.sparql_text.proofs.past.value_len.Given as goal

abbrev pub invariant-bytes : goal.invariant-bytes
invariant-bytes l = record {
  counted : l.count + value_len l.escaped l.left ≡ value_len false l.raw;
  within : l.count + length l.left ≤ length l.raw;
}

abbrev pub decreases-bytes : goal.decreases-bytes
decreases-bytes l = length l.left
