-- Plain words, whose bytes are printable ASCII.
use Rattle.std.specs.Prelude.{ℕ, Bool, true, ◌&&◌, nat_le, List, [], ◌∷◌}

-- the bytes are printable ASCII characters, each of which has one byte
abbrev pub is_plain : List ℕ → Bool
is_plain [] = true
is_plain (byte ∷ bytes) = (nat_le 0x20 byte && nat_le byte 0x7E) && is_plain bytes
