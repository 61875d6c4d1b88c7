-- The rows bind the variables 0 and 1 alone, and both are among the variables.
use Rattle.std.proofs.Common.{◌<◌, Contains, sym, subst, refl, arith}
use Rattle.answer_bodies.specs.OfRows.{variable, AreBoundAmong}
use Rattle.tests_messages.specs.Rows.{pair_rows, variables}
use Rattle.tests_messages.proofs.rows.rows_are_tables_in_order.Goals as goal

first : Contains variables (variable 0)
first = let within : 1 < 3 = omega arith in (1, within, refl)

second : Contains variables (variable 1)
second = let within : 0 < 3 = omega arith in (0, within, refl)

bound : AreBoundAmong variables pair_rows
bound = ((first, (second, tt)), ((first, (second, tt)), ((first, tt), tt)))

pub of_rows-requires-clause-bound : goal.of_rows-requires-clause-bound
of_rows-requires-clause-bound g c =
    subst (λ among. AreBoundAmong among c.in_ok-pair_rows.field-0.rows) (sym c.in_ok-variables.ensures)
    (subst (AreBoundAmong variables) (sym c.in_ok-pair_rows.ensures) bound)
