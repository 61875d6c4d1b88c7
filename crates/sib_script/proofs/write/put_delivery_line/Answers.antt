-- A delivery's line is put into the room from its end.
use Rattle.std.proofs.Common.{◌∙◌, ap, arith, ◌-◌, ◌≤◌, [], ◌∷◌, ◌++◌, length-set}
use Rattle.std.specs.Fmt.{decimal}
use Rattle.sib_script.proofs.WrittenLines.{number_short, put_before, number_then}
use Rattle.sib_script.proofs.write.put_delivery_line.Goals as goal

pub write_digits-link_at-requires : goal.write_digits-link_at-requires
write_digits-link_at-requires c =
    let at = c.put_number_line-count_at in
    let short = number_short c.from.result c.from.type_inv in (
      omega (arith, short, at.ensures.room),
      omega (arith, at.ensures.within, at.array_long, length-set at.new.line (at.result - 1) 32),
    )

pub overflow_sub-line-2 : goal.overflow_sub-line-2
overflow_sub-line-2 c =
    omega (arith, number_short c.from.result c.from.type_inv, c.write_digits-link_at.ensures.start, c.put_number_line-count_at.ensures.room)

pub overflow_sub-result : goal.overflow_sub-result
overflow_sub-result c =
    omega (arith, number_short c.from.result c.from.type_inv, c.write_digits-link_at.ensures.start, c.put_number_line-count_at.ensures.room)

pub returns-clause-line : goal.returns-clause-line
returns-clause-line c =
    let at = c.put_number_line-count_at in
    let some : 1 ≤ c.write_digits-link_at.result = omega (arith, number_short c.from.result c.from.type_inv, c.write_digits-link_at.ensures.start, at.ensures.room) in
    let behind = put_before at.new.line (decimal c.args.count ++ 10 ∷ []) at.result 32 (omega (arith, at.ensures.room)) (number_then (decimal c.args.count) [] 10) at.ensures.line in
    let line = c.write_digits-link_at.ensures.written ∙ ap (λ l. decimal c.from.result ++ l) behind ∙ ap (λ n. decimal n ++ 32 ∷ (decimal c.args.count ++ 10 ∷ [])) c.from.ensures in
    put_before c.write_digits-link_at.new.buf (decimal c.args.link ++ 32 ∷ (decimal c.args.count ++ 10 ∷ [])) c.write_digits-link_at.result 62 some (number_then (decimal c.args.link) (decimal c.args.count ++ 10 ∷ []) 32) line
