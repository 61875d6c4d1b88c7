-- Result tables (SPARQL Query Results XML Format, section 2).
use Rattle.std.specs.Prelude.{ℕ, List, codes}
use Rattle.ssap_items.specs.declared.body.RawTerm.{RawTerm}
use Rattle.ssap_items.specs.declared.body.RawCell.{RawCell}
use Rattle.ssap_items.specs.declared.body.RawTable.{RawTable}
use Rattle.ssap_items.specs.Canon.{kind_word}
use Rattle.ssap_grammar.specs.Front.{Front, Word, Nothing, ◌then◌, Many, Optional}
use Rattle.ssap_grammar.specs.Characters.{Spaces, Quoted}
use Rattle.ssap_grammar.specs.Text.{ReadsText}
use Rattle.ssap_grammar.specs.Attribute.{ReadsAttribute, ReadsAttvalue}
use Rattle.ssap_grammar.specs.Element.{ReadsElement}

-- the attribute `name`
abbrev pub ReadsName : List ℕ → Front
ReadsName value = ReadsAttribute (codes "name") (ReadsAttvalue value)

-- variable: white space alone, with its name
abbrev pub ReadsVariable : List ℕ → Front
ReadsVariable name = ReadsElement (codes "variable") (ReadsName name) Spaces

-- head: any number of variables
abbrev pub ReadsHead : List (List ℕ) → Front
ReadsHead names = ReadsElement (codes "head") Nothing (Spaces then Many (λ name. ReadsVariable name then Spaces) names)

-- uri, literal, bnode: a text
abbrev pub ReadsTerm : RawTerm → Front
ReadsTerm value = ReadsElement (kind_word value.kind) Nothing (ReadsText value.text)

-- binding: a uri, a literal or a bnode, with the name of its variable
abbrev pub ReadsBinding : RawCell → Front
ReadsBinding cell = ReadsElement (codes "binding") (ReadsName cell.name) (Spaces then ReadsTerm cell.value then Spaces)

-- result: any number of bindings
abbrev pub ReadsResult : List RawCell → Front
ReadsResult cells = ReadsElement (codes "result") Nothing (Spaces then Many (λ cell. ReadsBinding cell then Spaces) cells)

-- results: any number of results
abbrev pub ReadsResults : List (List RawCell) → Front
ReadsResults rows = ReadsElement (codes "results") Nothing (Spaces then Many (λ row. ReadsResult row then Spaces) rows)

-- the attribute `xmlns`, which has one value
abbrev pub ReadsNamespace : Front
ReadsNamespace = ReadsAttribute (codes "xmlns") (Quoted (λ quote. Word (codes "http://www.w3.org/2005/sparql-results#")))

-- sparql: a head and results
abbrev pub ReadsSparql : RawTable → Front
ReadsSparql table = ReadsElement (codes "sparql") (Optional ReadsNamespace)
    (Spaces then ReadsHead table.columns then Spaces then ReadsResults table.rows then Spaces)
