-- The parameters of a query, whose type says how the query is written.
use Rattle.std.specs.Prelude.{ℕ, Bool, true, false, ◌&&◌, not, nat_lt, List, if◌then◌else◌, length, Option, Some, None, codes}
use Rattle.std.specs.Str.{str_eq_ignore_ascii_case}
use Rattle.ssap_items.specs.declared.body.Body.{Body}
use Rattle.ssap_items.specs.declared.body.Body.TheVariants.{Text, Triples, Table}
use Rattle.ssap_items.specs.declared.envelope.Param.{Param}
use Rattle.ssap_shape.specs.declared.name.Name.TheVariants.{QueryType, Query}
use Rattle.ssap_shape.specs.declared.query.Language.{Language}
use Rattle.ssap_shape.specs.declared.query.Language.TheVariants.{Templates, Sparql, Other}
use Rattle.ssap_shape.specs.Table.{is_named, given}
use Rattle.ssap_shape.specs.Templates.{is_graph, is_text, triples_in}
use Rattle.ssap_shape.specs.Updates.{names_templates}

-- a text names SPARQL, in letters of either case
unfoldable pub names_sparql : List ℕ → Bool
names_sparql text = str_eq_ignore_ascii_case text (codes "sparql")

-- the language that a body names
abbrev pub language_in : Body → Language
language_in (Text text) = if names_templates text then Templates else (if names_sparql text then Sparql else Other)
language_in (Triples triples) = Other
language_in (Table table) = Other

-- the language that the parameter of the type names
abbrev pub language_of : Option Param → Language
language_of None = Other
language_of (Some param) = language_in param.body

-- a language is neither of the two
abbrev pub is_other : Language → Bool
is_other Templates = false
is_other Sparql = false
is_other Other = true

-- the body is a query in this language: a graph, or a text; in another language it is not looked at
abbrev pub is_query_in : Language → Body → Bool
is_query_in Templates body = is_graph body
is_query_in Sparql body = is_text body
is_query_in Other body = true

-- the parameter is a type that is no text
abbrev pub is_wrong_type : Param → Bool
is_wrong_type param = is_named QueryType param && not (is_text param.body)

-- the parameter is a query that isn't written in the language of the type
abbrev pub is_wrong_query : List Param → Param → Bool
is_wrong_query params param = is_named Query param && not (is_query_in (language_of (given params QueryType)) param.body)

-- the parameter is a type that names another language
abbrev pub is_other_type : Param → Bool
is_other_type param = is_named QueryType param && is_other (language_in param.body)

-- the parameter is a query of more than 32 templates
abbrev pub is_wide_query : Param → Bool
is_wide_query param = is_named Query param && nat_lt 32 (length (triples_in param.body))
