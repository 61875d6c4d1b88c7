-- Which triples fit a pattern.
use Rattle.std.specs.Prelude.{◌≡◌, Bool, true, false, ◌&&◌, Option, Some, None, nat_eq, refl}
use Rattle.m3_terms.specs.declared.table.TermId.{TermId}
use Rattle.triple_index.specs.declared.triple.IdTriple.{IdTriple}
use Rattle.triple_index.specs.declared.triple.IdPattern.{IdPattern}

-- a place of a pattern admits each term where it is the wildcard, and else its own term alone
abbrev pub admits : Option TermId → TermId → Bool
admits None id = true
admits (Some wanted) id = nat_eq wanted.0 id.0

-- a triple fits a pattern where each place admits the term in that place
abbrev pub fits : IdPattern → IdTriple → Bool
fits pattern triple = admits pattern.subject triple.subject && admits pattern.predicate triple.predicate && admits pattern.object triple.object

-- the triple (1 2 3) fits the pattern (1 * 3)
fits_wildcard : fits (record { subject = Some (record { 0 = 1 }); predicate = None; object = Some (record { 0 = 3 }) })
    (record { subject = record { 0 = 1 }; predicate = record { 0 = 2 }; object = record { 0 = 3 } }) ≡ true
fits_wildcard = refl

-- and not the pattern (1 * 4)
unfit_object : fits (record { subject = Some (record { 0 = 1 }); predicate = None; object = Some (record { 0 = 4 }) })
    (record { subject = record { 0 = 1 }; predicate = record { 0 = 2 }; object = record { 0 = 3 } }) ≡ false
unfit_object = refl
