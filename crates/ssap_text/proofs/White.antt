-- White space is passed byte by byte.
use Rattle.std.proofs.Common.{◌≡◌, ℕ, ◌<◌, ◌-◌, true, List, [], ◌∷◌, length, take, drop, get_or, refl, sym, subst, arith}
use Rattle.std.proofs.lemmas.List.{take_rest}
use Rattle.ssap_grammar.specs.Characters.{is_white, Spaces}
use Rattle.ssap_grammar.proofs.Characters.{spaces_join}

-- one more byte of white space
pub spaces_more : (bytes rest : List ℕ) → Spaces bytes rest → 0 < length rest → is_white (get_or rest 0 0) ≡ true
    → Spaces bytes (take (length rest - 1) (drop 1 rest))
spaces_more bytes [] s some white = absurd (omega arith)
spaces_more bytes (byte ∷ rest) s some white =
    subst (Spaces bytes) (sym (take_rest (byte ∷ rest) 1))
    (spaces_join bytes (byte ∷ rest) rest s (record { white = byte ∷ []; each = (white, tt); reads = refl }))
