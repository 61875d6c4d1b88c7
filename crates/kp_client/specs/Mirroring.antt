-- A mirror: the answer of a subscription as its indications leave it, and why one may be refused.
use Rattle.std.specs.Prelude.{ℕ, ◌+◌, ◌==◌, Bool, true, false, not, if◌then◌else◌, List, [], ◌∷◌, map, codes, Option, Some, None}
use Rattle.std.specs.List.{find}
use Rattle.m3_terms.specs.Order.{text_eq, row_cmp}
use Rattle.m3_terms.specs.declared.term.Term.{Term}
use Rattle.m3_terms.specs.declared.triple.Triple.{Triple}
use Rattle.answer_bodies.specs.declared.answer.Answer.{Answer}
use Rattle.answer_bodies.specs.declared.answer.Answer.TheVariants.{Triples, Table}
use Rattle.answer_bodies.specs.declared.answer.Difference.{Difference}
use Rattle.answer_bodies.specs.Lists.{is_among}
use Rattle.answer_bodies.specs.Differences.{folded}
use Rattle.kp_client.specs.declared.fault.MirrorFault.{MirrorFault}
use Rattle.kp_client.specs.declared.fault.MirrorFault.TheVariants.{OtherSubscription, Gap, OtherForm, Conflict}

-- a mirror: the number of its subscription, how many differences were applied, and the answer after them
pub record Mirroring : Type 0 where
  pub subscription : ℕ
  pub applied : ℕ
  pub answer : Answer

-- the form of triples, told as columns
unfoldable pub triple_columns : List (List ℕ)
triple_columns = codes "subject" ∷ codes "predicate" ∷ codes "object" ∷ codes "object" ∷ []

-- the form of an answer, told as columns: those of a table, or four of which two are equal
abbrev pub form_of : Answer → List (List ℕ)
form_of (Triples triples) = triple_columns
form_of (Table columns rows) = columns

-- two lists of columns are equal
abbrev pub are_columns : List (List ℕ) → List (List ℕ) → Bool
are_columns [] [] = true
are_columns [] (name ∷ names) = false
are_columns (column ∷ columns) [] = false
are_columns (column ∷ columns) (name ∷ names) = if text_eq column name then are_columns columns names else false

-- two answers have one form: both are triples, or both are tables of equal columns
abbrev pub have_one_form : Answer → Answer → Bool
have_one_form (Triples triples) (Triples others) = true
have_one_form (Triples triples) (Table names others) = false
have_one_form (Table columns rows) (Triples others) = false
have_one_form (Table columns rows) (Table names others) = are_columns columns names

-- a triple as a row of three cells
abbrev pub triple_row : Triple → List (Option Term)
triple_row triple = Some triple.subject ∷ Some triple.predicate ∷ Some triple.object ∷ []

-- the rows of an answer, where a triple is a row of three cells
abbrev pub rows_in : Answer → List (List (Option Term))
rows_in (Triples triples) = map triple_row triples
rows_in (Table columns rows) = rows

-- the first row of one answer that another lacks
abbrev pub first_missing : Answer → Answer → Option (List (Option Term))
first_missing answer rows = find (λ row. not (is_among row_cmp (rows_in answer) row)) (rows_in rows)

-- the first row of one answer that another has
abbrev pub first_present : Answer → Answer → Option (List (Option Term))
first_present answer rows = find (λ row. is_among row_cmp (rows_in answer) row) (rows_in rows)

-- the row that there is, as a conflict; or what comes where there is none
abbrev pub conflict_or : Option MirrorFault → Option (List (Option Term)) → Option MirrorFault
conflict_or otherwise None = otherwise
conflict_or otherwise (Some row) = Some (Conflict row)

-- a difference of the answer's form is refused where a row is obsolete and not there, or else where one is added and there
abbrev pub conflict : Answer → Difference → Option MirrorFault
conflict answer difference = conflict_or (conflict_or None (first_present answer difference.added)) (first_missing answer difference.obsolete)

-- the first of these that applies refuses a difference: it is of another subscription, its number is not the next, or one of
-- its sides is of another form, or it is in conflict with the answer
abbrev pub refusal : Mirroring → ℕ → ℕ → Difference → Option MirrorFault
refusal mirror subscription sequence difference =
    if not (subscription == mirror.subscription) then Some (OtherSubscription mirror.subscription subscription)
    else if not (sequence == mirror.applied + 1) then Some (Gap (mirror.applied + 1) sequence)
    else if not (have_one_form mirror.answer difference.obsolete) then Some (OtherForm (form_of mirror.answer) (form_of difference.obsolete))
    else if not (have_one_form mirror.answer difference.added) then Some (OtherForm (form_of mirror.answer) (form_of difference.added))
    else conflict mirror.answer difference

-- the mirror after one more difference
abbrev pub mirrored : Mirroring → Difference → Mirroring
mirrored mirror difference = record mirror { applied = mirror.applied + 1; answer = folded mirror.answer difference }

-- a mirror at its beginning
abbrev pub mirror_of : ℕ → Answer → Mirroring
mirror_of subscription first = record { subscription = subscription; applied = 0; answer = first }
