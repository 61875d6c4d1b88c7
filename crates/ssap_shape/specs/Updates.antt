-- The parameters of an update: its graphs, and whether it asks for a confirm.
use Rattle.std.specs.Prelude.{ℕ, Bool, true, false, ◌||◌, ◌&&◌, not, List, Option, Some, None, codes}
use Rattle.std.specs.Str.{bytes_eq, str_eq_ignore_ascii_case}
use Rattle.ssap_items.specs.declared.body.Body.{Body}
use Rattle.ssap_items.specs.declared.body.Body.TheVariants.{Text, Triples, Table}
use Rattle.ssap_items.specs.declared.envelope.Param.{Param}
use Rattle.ssap_shape.specs.declared.name.Name.TheVariants.{InsertGraph, RemoveGraph, Confirm}
use Rattle.ssap_shape.specs.Table.{is_named}
use Rattle.ssap_shape.specs.Templates.{is_graph}

-- a text names the template language, in letters of either case
unfoldable pub names_templates : List ℕ → Bool
names_templates text = str_eq_ignore_ascii_case text (codes "RDF-M3")

-- the parameter is a graph to insert or to remove
abbrev pub is_graph_named : Param → Bool
is_graph_named param = is_named InsertGraph param || is_named RemoveGraph param

-- an encoding is there and is another one
abbrev pub is_foreign : Option (List ℕ) → Bool
is_foreign None = false
is_foreign (Some encoding) = not (names_templates encoding)

-- a text says that a confirm is wanted
unfoldable pub says_yes : List ℕ → Bool
says_yes text = bytes_eq text (codes "TRUE") || bytes_eq text (codes "true")

-- a text says that a confirm of success is not wanted
unfoldable pub says_no : List ℕ → Bool
says_no text = bytes_eq text (codes "FALSE") || bytes_eq text (codes "false")

-- the body says one of the two
abbrev pub is_flag : Body → Bool
is_flag (Text text) = says_yes text || says_no text
is_flag (Triples triples) = false
is_flag (Table table) = false

-- the parameter is a graph that is looked at and is none
abbrev pub is_wrong_graph : Param → Bool
is_wrong_graph param = is_graph_named param && not (is_foreign param.encoding) && not (is_graph param.body)

-- the parameter is a flag that says neither
abbrev pub is_wrong_flag : Param → Bool
is_wrong_flag param = is_named Confirm param && not (is_flag param.body)

-- what the body of a flag says: a confirm is wanted where it doesn't say no
abbrev pub is_wanted_by : Body → Bool
is_wanted_by (Text text) = not (says_no text)
is_wanted_by (Triples triples) = true
is_wanted_by (Table table) = true

-- a confirm is wanted, which is so where there is no flag
abbrev pub is_wanted : Option Param → Bool
is_wanted None = true
is_wanted (Some param) = is_wanted_by param.body
