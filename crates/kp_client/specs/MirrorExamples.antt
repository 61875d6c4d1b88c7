-- Worked examples: a mirror of one column with the rows `a` and `b`.
use Rattle.std.specs.Prelude.{◌≡◌, ℕ, List, [], ◌∷◌, map, Option, Some, None}
use Rattle.m3_terms.specs.declared.term.Term.{Term}
use Rattle.m3_terms.specs.declared.term.Term.TheVariants.{Uri}
use Rattle.answer_bodies.specs.declared.answer.Answer.{Answer}
use Rattle.answer_bodies.specs.declared.answer.Answer.TheVariants.{Table}
use Rattle.answer_bodies.specs.declared.answer.Difference.{Difference}
use Rattle.kp_client.specs.declared.fault.MirrorFault.TheVariants.{OtherSubscription, Gap, OtherForm, Conflict}
use Rattle.kp_client.specs.Mirroring.{Mirroring, refusal, mirrored, mirror_of}

-- a row of one cell, which has the uri of this byte
abbrev pub uri_row : ℕ → List (Option Term)
uri_row byte = Some (Uri (byte ∷ [])) ∷ []

-- a table of the column `x` with such rows
abbrev pub table_of : List ℕ → Answer
table_of bytes = Table ((120 ∷ []) ∷ []) (map uri_row bytes)

-- the difference that adds these rows and makes those obsolete
abbrev pub change : List ℕ → List ℕ → Difference
change added obsolete = record { added = table_of added; obsolete = table_of obsolete }

-- the mirror of the subscription 7 with the rows `a` and `b`
abbrev pub two_rows : Mirroring
two_rows = mirror_of 7 (table_of (97 ∷ 98 ∷ []))

-- the first difference adds `c` and makes `a` obsolete: it is applied, and leaves `b` and `c`
abbrev pub Applied : Type 0
Applied = (refusal two_rows 7 1 (change (99 ∷ []) (97 ∷ [])) ≡ None)
    × (mirrored two_rows (change (99 ∷ []) (97 ∷ [])) ≡ record { subscription = 7; applied = 1; answer = table_of (98 ∷ 99 ∷ []) })

-- the same under the number 2 leaves a gap
abbrev pub Skipped : Type 0
Skipped = refusal two_rows 7 2 (change (99 ∷ []) (97 ∷ [])) ≡ Some (Gap 1 2)

-- the same of the subscription 8 is refused, whatever its number
abbrev pub Foreign : Type 0
Foreign = refusal two_rows 8 2 (change (99 ∷ []) (97 ∷ [])) ≡ Some (OtherSubscription 7 8)

-- an obsolete row that is not there is refused
abbrev pub Absent : Type 0
Absent = refusal two_rows 7 1 (change [] (97 ∷ 99 ∷ [])) ≡ Some (Conflict (uri_row 99))

-- an added row that is there is refused, also where it is obsolete
abbrev pub Doubled : Type 0
Doubled = refusal two_rows 7 1 (change (97 ∷ []) (97 ∷ [])) ≡ Some (Conflict (uri_row 97))

-- a table of another column is of another form
abbrev pub Reshaped : Type 0
Reshaped = refusal two_rows 7 1 (record { added = table_of []; obsolete = Table ((121 ∷ []) ∷ []) [] })
    ≡ Some (OtherForm ((120 ∷ []) ∷ []) ((121 ∷ []) ∷ []))
