use Rattle.std.proofs.Common.{◌≡◌, ◌+◌, ◌-◌, ◌≤◌, ℕ, List, length, take, drop}
use Rattle.sparql_text.specs.Tokens.{Unescapes}
use Rattle.sparql_text.specs.Cutting.{piece_len, PassesPieces}
use Rattle.sparql_text.proofs.raw.pieces_len.Given as goal

abbrev pub invariant-pieces : goal.invariant-pieces
invariant-pieces l = record {
  within : l.at + l.piece ≤ length l.bytes;
  next : l.piece ≡ piece_len l.quote (drop l.at l.bytes);
  value : (value : List ℕ) × Unescapes l.quote (take l.at l.bytes) value;
  passes : PassesPieces l.quote l.bytes (drop l.at l.bytes);
}

abbrev pub decreases-pieces : goal.decreases-pieces
decreases-pieces l = length l.bytes - l.at
