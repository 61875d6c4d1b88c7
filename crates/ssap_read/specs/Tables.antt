-- The parts of tables.
use Rattle.std.specs.Prelude.{Bool, ⊤, codes}
use Rattle.ssap_items.specs.declared.body.RawTerm.{RawTerm}
use Rattle.ssap_items.specs.declared.body.RawTable.{RawTable}
use Rattle.ssap_grammar.specs.Front.{Front, ◌then◌, Optional}
use Rattle.ssap_grammar.specs.Characters.{Spaces}
use Rattle.ssap_grammar.specs.Table.{ReadsHead, ReadsTerm, ReadsResults, ReadsNamespace}
use Rattle.ssap_read.specs.Tags.{ReadsStart}

-- the starting tag of a table
abbrev pub ReadsTableStart : Bool → Front
ReadsTableStart closed = ReadsStart {A = ⊤} (codes "sparql") (λ _. Optional ReadsNamespace) (tt, closed)

-- the content of a binding
abbrev pub ReadsBound : RawTerm → Front
ReadsBound value = Spaces then ReadsTerm value then Spaces

-- the content of a table
abbrev pub ReadsTableParts : RawTable → Front
ReadsTableParts table = Spaces then ReadsHead table.columns then Spaces then ReadsResults table.rows then Spaces
