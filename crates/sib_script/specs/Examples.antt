-- What entries are written as, on small scripts.
use native.Mathlib.Omega.{arith}
use Rattle.std.specs.Prelude.{[], ◌∷◌, codes, Some, Ok, Err, refl}
use Rattle.std.specs.Fmt.{digits}
use Rattle.sib_io.specs.Causes.{Writes}
use Rattle.sib_io.specs.declared.outside.Failed.{Failed}
use Rattle.sib_script.specs.Script.{entry_spelling, IsScript}
use Rattle.sib_script.specs.declared.entry.Entry.TheVariants.{NewLink, Bytes, End}

-- a sink that has `+` and a line end has the line of an end behind it, once that is written
end_is_written : Writes {T = Unit {0}} {E = Failed} (Some (43 ∷ 10 ∷ [])) (Some (43 ∷ 10 ∷ 45 ∷ 55 ∷ 10 ∷ [])) (Ok tt) (entry_spelling (End 7))
unfolding entry_spelling digits
end_is_written = refl

-- a sink that failed after two bytes of a delivery has these two alone
part_is_written : (fault : Failed) → Writes {T = Unit {0}} {E = Failed} (Some []) (Some (62 ∷ 49 ∷ [])) (Err fault) (entry_spelling (Bytes 1 (codes "hi")))
unfolding entry_spelling digits
part_is_written fault = (62 ∷ 49 ∷ [], 32 ∷ 50 ∷ 10 ∷ 104 ∷ 105 ∷ 10 ∷ [], refl, refl)

-- `+`, a line end, `-7` and a line end are a script of two entries
two_entries : IsScript (43 ∷ 10 ∷ 45 ∷ 55 ∷ 10 ∷ []) (NewLink ∷ End 7 ∷ [])
unfolding entry_spelling digits
two_entries = record { allowed = (tt, ((omega arith, omega arith), tt)); spelled = refl }
