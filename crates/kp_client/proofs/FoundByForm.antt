-- The row that is found, where an answer and the rows that are asked for are triples.
use Rattle.std.proofs.Common.{◌≡◌, not, List, Option, Result, Ok, Err, IfOk, sym, ap, ◌∙◌}
use Rattle.std.specs.List.{find}
use Rattle.std.specs.Option.{option_map}
use Rattle.m3_terms.specs.Order.{triple_cmp}
use Rattle.m3_terms.specs.declared.memory.NoMemory.{NoMemory}
use Rattle.m3_terms.specs.declared.term.Term.{Term}
use Rattle.m3_terms.specs.declared.triple.Triple.{Triple}
use Rattle.answer_bodies.specs.declared.answer.Answer.{Answer}
use Rattle.answer_bodies.specs.declared.answer.Answer.TheVariants.{Triples}
use Rattle.answer_bodies.specs.Lists.{is_among}
use Rattle.kp_client.specs.Mirroring.{triple_row, first_missing, first_present}
use Rattle.kp_client.proofs.FoundRows.{missing_rows, present_rows}

-- what is told of one value is told of an equal one
told_as : {X E : Type 0} (result : Result X E) (x y : X) → x ≡ y → IfOk result (λ found. found ≡ x) → IfOk result (λ found. found ≡ y)
told_as (Ok found) x y e told = told ∙ e
told_as (Err fault) x y e told = told

-- the first of some triples that others lack, as a row
pub triples_missing : (result : Result (Option (List (Option Term))) NoMemory) (answer rows : Answer) (triples others : List Triple) (found : Option Triple)
    → answer ≡ Triples triples → rows ≡ Triples others → found ≡ find (λ t. not (is_among triple_cmp triples t)) others
    → IfOk result (λ row. row ≡ option_map triple_row found) → IfOk result (λ row. row ≡ first_missing answer rows)
triples_missing result answer rows triples others found is are e told = told_as result _ _
    (ap (option_map triple_row) e ∙ sym (missing_rows triples others) ∙ sym (λ i. first_missing (is i) (are i))) told

-- the first of some triples that others have, as a row
pub triples_present : (result : Result (Option (List (Option Term))) NoMemory) (answer rows : Answer) (triples others : List Triple) (found : Option Triple)
    → answer ≡ Triples triples → rows ≡ Triples others → found ≡ find (λ t. is_among triple_cmp triples t) others
    → IfOk result (λ row. row ≡ option_map triple_row found) → IfOk result (λ row. row ≡ first_present answer rows)
triples_present result answer rows triples others found is are e told = told_as result _ _
    (ap (option_map triple_row) e ∙ sym (present_rows triples others) ∙ sym (λ i. first_present (is i) (are i))) told
