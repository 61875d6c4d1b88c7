use Rattle.std.proofs.Common.{◌≡◌, ◌≤◌, ℕ, length, take, false}
use Rattle.sparql_text.specs.Tokens.{ends_in_dot}
use Rattle.sparql_text.proofs.runs.undotted_len.Given as goal

abbrev pub invariant-dots : goal.invariant-dots
invariant-dots l = record {
  within : l.count ≤ length l.bytes;
  longest : (n : ℕ) → n ≤ length l.bytes → ends_in_dot (take n l.bytes) ≡ false → n ≤ l.count;
}

abbrev pub decreases-dots : goal.decreases-dots
decreases-dots l = l.count
