-- Parameters: a name, perhaps an encoding, and a text, a triple list or a table.
use Rattle.std.specs.Prelude.{◌≡◌, ℕ, List, [], ◌∷◌, flat_map, Option, option_to_list, codes}
use Rattle.ssap_items.specs.declared.body.Body.{Body}
use Rattle.ssap_items.specs.declared.body.Body.TheVariants.{Text, Triples, Table}
use Rattle.ssap_items.specs.declared.envelope.Param.{Param}
use Rattle.ssap_grammar.specs.Front.{Front, ◌then◌, Many}
use Rattle.ssap_grammar.specs.Characters.{Spaces}
use Rattle.ssap_grammar.specs.Text.{ReadsText}
use Rattle.ssap_grammar.specs.Attribute.{ReadsAttribute, ReadsAttvalue}
use Rattle.ssap_grammar.specs.Element.{ReadsElement}
use Rattle.ssap_grammar.specs.Triples.{ReadsTripleList}
use Rattle.ssap_grammar.specs.Table.{ReadsSparql}

-- an attribute of a parameter, with its value
pub data ParameterAttribute : Type 0 where
  Name Encoding : List ℕ → ParameterAttribute

-- the name, where the attribute is one
abbrev pub name_of : ParameterAttribute → List (List ℕ)
name_of (Name value) = value ∷ []
name_of (Encoding value) = []

-- the encoding, where the attribute is one
abbrev pub encoding_of : ParameterAttribute → List (List ℕ)
encoding_of (Name value) = []
encoding_of (Encoding value) = value ∷ []

-- an attribute of a parameter
abbrev pub ReadsParameterAttribute : ParameterAttribute → Front
ReadsParameterAttribute (Name value) = ReadsAttribute (codes "name") (ReadsAttvalue value)
ReadsParameterAttribute (Encoding value) = ReadsAttribute (codes "encoding") (ReadsAttvalue value)

-- the attributes of a parameter in either order: the name once, and the encoding at most once
pub record ReadsParameterAttributes (name : List ℕ) (encoding : Option (List ℕ)) (bytes rest : List ℕ) : Type 0 where
  pub attributes : List ParameterAttribute
  pub names : flat_map name_of attributes ≡ name ∷ []
  pub encodings : flat_map encoding_of attributes ≡ option_to_list encoding
  pub reads : Many ReadsParameterAttribute attributes bytes rest

-- the content of a parameter: a text, or a triple list or a table with white space around it
abbrev pub ReadsBody : Body → Front
ReadsBody (Text value) = ReadsText value
ReadsBody (Triples values) = Spaces then ReadsTripleList values then Spaces
ReadsBody (Table table) = Spaces then ReadsSparql table then Spaces

-- parameter: a body, with a name and perhaps an encoding
abbrev pub ReadsParameter : Param → Front
ReadsParameter param = ReadsElement (codes "parameter") (ReadsParameterAttributes param.name param.encoding) (ReadsBody param.body)
