-- Worked examples: the body of one triple, and of a row with an unbound cell.
use Rattle.std.specs.Prelude.{◌≡◌, [], ◌∷◌, codes, Some, None}
use Rattle.m3_terms.specs.declared.term.Term.TheVariants.{Uri, Literal}
use Rattle.m3_terms.specs.declared.triple.Triple.{Triple}
use Rattle.ssap_items.specs.declared.body.Kind as kind
use Rattle.ssap_items.specs.declared.body.RawTriple.{RawTriple}
use Rattle.ssap_items.specs.declared.body.RawTable.{RawTable}
use Rattle.ssap_items.specs.declared.body.Body as body
use Rattle.answer_bodies.specs.declared.answer.Answer.{Answer}
use Rattle.answer_bodies.specs.declared.answer.Answer.TheVariants.{Triples, Table}
use Rattle.answer_bodies.specs.Reading.{IsReadAs, HasNoAnswer}
use Rattle.answer_bodies.specs.Writing.{body_of}

-- the triple that a lamp's state is on
abbrev pub lamp_is_on : Triple
lamp_is_on = record { subject = Uri (codes "lamp"); predicate = Uri (codes "state"); object = Literal (codes "on") }

-- the same as a body spells it
abbrev pub raw_lamp_is_on : RawTriple
raw_lamp_is_on = record {
  subject = record { kind = kind.TheVariants.Uri; text = codes "lamp" };
  predicate = codes "state";
  object = record { kind = kind.TheVariants.Literal; text = codes "on" };
}

-- the body of one triple, which is read back
abbrev pub OneTriple : Type 0
OneTriple = (body_of (Triples (lamp_is_on ∷ [])) ≡ body.TheVariants.Triples (raw_lamp_is_on ∷ []))
    × IsReadAs (body.TheVariants.Triples (raw_lamp_is_on ∷ [])) (Triples (lamp_is_on ∷ []))

-- the same triple twice is no answer
abbrev pub NoDouble : Type 0
NoDouble = HasNoAnswer (body.TheVariants.Triples (raw_lamp_is_on ∷ raw_lamp_is_on ∷ []))

-- the same with a blank node as its object
abbrev pub raw_blank : RawTriple
raw_blank = record {
  subject = record { kind = kind.TheVariants.Uri; text = codes "lamp" };
  predicate = codes "state";
  object = record { kind = kind.TheVariants.Bnode; text = codes "on" };
}

-- which is no answer
abbrev pub NoBlank : Type 0
NoBlank = HasNoAnswer (body.TheVariants.Triples (raw_blank ∷ []))

-- a table of the columns `x` and `y`, with one row that binds `y` alone
abbrev pub raw_half_row : RawTable
raw_half_row = record {
  columns = codes "x" ∷ codes "y" ∷ [];
  rows = (record { name = codes "y"; value = record { kind = kind.TheVariants.Literal; text = codes "L" } } ∷ []) ∷ [];
}

-- its answer
abbrev pub half_row : Answer
half_row = Table (codes "x" ∷ codes "y" ∷ []) ((None ∷ Some (Literal (codes "L")) ∷ []) ∷ [])

-- an unbound cell is not written, and is read back
abbrev pub UnboundCell : Type 0
UnboundCell = (body_of half_row ≡ body.TheVariants.Table raw_half_row) × IsReadAs (body.TheVariants.Table raw_half_row) half_row

-- the same without the column `y`
abbrev pub raw_unknown : RawTable
raw_unknown = record { columns = codes "x" ∷ []; rows = raw_half_row.rows }

-- which is no answer
abbrev pub NoUnknown : Type 0
NoUnknown = HasNoAnswer (body.TheVariants.Table raw_unknown)
