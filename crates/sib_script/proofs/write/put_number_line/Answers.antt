-- A number is put before a line end.
use Rattle.std.proofs.Common.{◌≡◌, ◌∙◌, ap, arith, ℕ, List, [], ◌∷◌, ◌++◌, drop, length, length-set, set}
use Rattle.std.proofs.lemmas.List.{drop-set, drop_all}
use Rattle.std.specs.Fmt.{decimal}
use Rattle.sib_script.proofs.WrittenLines.{number_short}
use Rattle.sib_script.proofs.write.put_number_line.Goals as goal

-- the last byte of a room
last_byte : (room : List ℕ) (byte : ℕ) → length room ≡ 43 → drop 42 (set room 42 byte) ≡ byte ∷ []
last_byte room byte e = drop-set room 42 byte (omega (arith, e)) ∙ ap (λ l. byte ∷ l) (drop_all 43 room (omega (arith, e)))

pub write_digits-requires : goal.write_digits-requires
write_digits-requires c =
    let short = number_short c.args.number c.ranges.number.fits in
    (omega (arith, short), omega (arith, length-set c.args.line.now 42 10, c.told-line))

pub returns-clause-room : goal.returns-clause-room
returns-clause-room c =
    let short = number_short c.args.number c.ranges.number.fits in
    omega (arith, short, c.write_digits.ensures.start)

pub returns-clause-line : goal.returns-clause-line
returns-clause-line c =
    c.write_digits.ensures.written ∙ ap (λ l. decimal c.args.number ++ l) (last_byte c.args.line.now 10 c.told-line)
