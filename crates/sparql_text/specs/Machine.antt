-- The grammar as a machine: a stack of symbols that are still to come, the first of which takes the next token.
use Rattle.std.specs.Prelude.{◌≡◌, Bool, List, [], ◌∷◌, ◌++◌, Option, Some, None, IsSome, ◌↔◌, map}
use Rattle.std.specs.Option.{option_map}
use Rattle.sparql_algebra.specs.declared.algebra.Query.{Query}
use Rattle.sparql_text.specs.declared.word.Word.TheVariants as word
use Rattle.sparql_text.specs.declared.symbol.Kind.{Kind}
use Rattle.sparql_text.specs.declared.symbol.Kind.TheVariants as kind
use Rattle.sparql_text.specs.declared.symbol.Symbol.{Symbol}
use Rattle.sparql_text.specs.declared.symbol.Symbol.TheVariants.{Start, Prefix, Iri, Select, Columns, MoreColumns, Where, Open, Group, Behind, Alts, Verb, Object, Objects, Said, Filter, Condition, Joined, Compared, Prim, Operand, Argument, Variable, OpenParen, CloseParen, Comma}
use Rattle.sparql_text.specs.Tokens.{Token}
use Rattle.sparql_text.specs.Queries.{IsQuery, IsViable}

-- what the grammar sees of a token
abbrev pub kind_of : Token → Kind
kind_of (Token.Iri iri) = kind.Iri
kind_of (Token.Name prefix []) = kind.Bare
kind_of (Token.Name prefix (byte ∷ local)) = kind.Name
kind_of (Token.Variable name) = kind.Variable
kind_of (Token.String value) = kind.String
kind_of (Token.Fixed word) = kind.Fixed word

-- the symbols that then stand in the place of one that takes a token; none where it takes none
abbrev pub Step : Type 0
Step = Option (List Symbol)

-- a variable, an IRI or a prefixed name, with which these symbols follow
abbrev pub at_subject : List Symbol → Kind → Step
at_subject symbols kind.Iri = Some symbols
at_subject symbols kind.Bare = Some symbols
at_subject symbols kind.Name = Some symbols
at_subject symbols kind.Variable = Some symbols
at_subject symbols kind.String = None
at_subject symbols (kind.Fixed word) = None

-- a verb
abbrev pub at_verb : List Symbol → Kind → Step
at_verb symbols (kind.Fixed word.A) = Some symbols
at_verb symbols kind = at_subject symbols kind

-- an object, or another argument
abbrev pub at_argument : List Symbol → Kind → Step
at_argument symbols kind.String = Some symbols
at_argument symbols kind = at_subject symbols kind

-- an element of a group, or the group's end
abbrev pub at_element : Kind → Step
at_element (kind.Fixed word.OpenBrace) = Some (Group ∷ Alts ∷ [])
at_element (kind.Fixed word.Optional) = Some (Open ∷ Behind ∷ [])
at_element (kind.Fixed word.Filter) = Some (Filter ∷ Behind ∷ [])
at_element (kind.Fixed word.CloseBrace) = Some []
at_element other = None

-- triple patterns, an element, or the group's end
abbrev pub at_content : Kind → Step
at_content (kind.Fixed word) = at_element (kind.Fixed word)
at_content kind = at_subject (Verb ∷ Object ∷ Objects ∷ []) kind

-- the same, or a dot before it
abbrev pub at_dot : Kind → Step
at_dot (kind.Fixed word.Dot) = Some (Group ∷ [])
at_dot kind = at_content kind

-- behind an object or a `;`: a further `;`, the end of the triple patterns, or what may follow them
abbrev pub at_said : Kind → Step
at_said (kind.Fixed word.Semicolon) = Some (Said ∷ [])
at_said (kind.Fixed word.Dot) = Some (Group ∷ [])
at_said kind = at_element kind

-- an operand, with which these symbols follow
abbrev pub at_operand : List Symbol → Kind → Step
at_operand symbols (kind.Fixed word.Str) = Some (OpenParen ∷ Argument ∷ CloseParen ∷ symbols)
at_operand symbols kind = at_argument symbols kind

-- a call, with which these symbols follow
abbrev pub at_call : List Symbol → Kind → Step
at_call symbols (kind.Fixed word.Bound) = Some (OpenParen ∷ Variable ∷ CloseParen ∷ symbols)
at_call symbols (kind.Fixed word.IsIri) = Some (OpenParen ∷ Operand ∷ CloseParen ∷ symbols)
at_call symbols (kind.Fixed word.IsUri) = Some (OpenParen ∷ Operand ∷ CloseParen ∷ symbols)
at_call symbols (kind.Fixed word.IsLiteral) = Some (OpenParen ∷ Operand ∷ CloseParen ∷ symbols)
at_call symbols (kind.Fixed word.SameTerm) = Some (OpenParen ∷ Operand ∷ Comma ∷ Operand ∷ CloseParen ∷ symbols)
at_call symbols (kind.Fixed word.Contains) = Some (OpenParen ∷ Operand ∷ Comma ∷ Operand ∷ CloseParen ∷ symbols)
at_call symbols (kind.Fixed word.StrStarts) = Some (OpenParen ∷ Operand ∷ Comma ∷ Operand ∷ CloseParen ∷ symbols)
at_call symbols other = None

-- what is joined to a condition, or the `)` behind it
abbrev pub at_joined : Kind → Step
at_joined (kind.Fixed word.And) = Some (Condition ∷ [])
at_joined (kind.Fixed word.Or) = Some (Condition ∷ [])
at_joined (kind.Fixed word.CloseParen) = Some []
at_joined other = None

-- a condition, with which these symbols follow behind an operand, and those behind anything else
abbrev pub at_condition : List Symbol → List Symbol → Kind → Step
at_condition operand other (kind.Fixed word.OpenParen) = Some (Condition ∷ other)
at_condition operand other (kind.Fixed word.Str) = at_operand operand (kind.Fixed word.Str)
at_condition operand other (kind.Fixed word) = at_call other (kind.Fixed word)
at_condition operand other kind = at_operand operand kind

-- what stands in the place of a symbol when it takes a token
unfoldable pub step : Symbol → Kind → Step
step Start (kind.Fixed word.Prefix) = Some (Prefix ∷ Iri ∷ Start ∷ [])
step Start (kind.Fixed word.Select) = Some (Select ∷ [])
step Prefix kind.Bare = Some []
step Iri kind.Iri = Some []
step Select (kind.Fixed word.Distinct) = Some (Columns ∷ [])
step Select (kind.Fixed word.Star) = Some (Where ∷ [])
step Select kind.Variable = Some (MoreColumns ∷ [])
step Columns (kind.Fixed word.Star) = Some (Where ∷ [])
step Columns kind.Variable = Some (MoreColumns ∷ [])
step MoreColumns kind.Variable = Some (MoreColumns ∷ [])
step MoreColumns (kind.Fixed word.Where) = Some (Open ∷ [])
step MoreColumns (kind.Fixed word.OpenBrace) = Some (Group ∷ [])
step Where (kind.Fixed word.Where) = Some (Open ∷ [])
step Where (kind.Fixed word.OpenBrace) = Some (Group ∷ [])
step Open (kind.Fixed word.OpenBrace) = Some (Group ∷ [])
step Group kind = at_content kind
step Behind kind = at_dot kind
step Alts (kind.Fixed word.Union) = Some (Open ∷ Alts ∷ [])
step Alts kind = at_dot kind
step Verb kind = at_verb [] kind
step Object kind = at_argument [] kind
step Objects (kind.Fixed word.Comma) = Some (Object ∷ Objects ∷ [])
step Objects kind = at_said kind
step Said (kind.Fixed word.A) = Some (Object ∷ Objects ∷ [])
step Said (kind.Fixed word) = at_said (kind.Fixed word)
step Said kind = at_subject (Object ∷ Objects ∷ []) kind
step Filter (kind.Fixed word.OpenParen) = Some (Condition ∷ [])
step Filter kind = at_call [] kind
step Condition (kind.Fixed word.Not) = Some (Prim ∷ Joined ∷ [])
step Condition kind = at_condition (Compared ∷ []) (Joined ∷ []) kind
step Joined kind = at_joined kind
step Compared (kind.Fixed word.Equal) = Some (Operand ∷ Joined ∷ [])
step Compared (kind.Fixed word.NotEqual) = Some (Operand ∷ Joined ∷ [])
step Compared (kind.Fixed word.Less) = Some (Operand ∷ Joined ∷ [])
step Compared (kind.Fixed word.Greater) = Some (Operand ∷ Joined ∷ [])
step Compared (kind.Fixed word.LessEqual) = Some (Operand ∷ Joined ∷ [])
step Compared (kind.Fixed word.GreaterEqual) = Some (Operand ∷ Joined ∷ [])
step Compared kind = at_joined kind
step Prim kind = at_condition [] [] kind
step Operand kind = at_operand [] kind
step Argument kind = at_argument [] kind
step Variable kind.Variable = Some []
step OpenParen (kind.Fixed word.OpenParen) = Some []
step CloseParen (kind.Fixed word.CloseParen) = Some []
step Comma (kind.Fixed word.Comma) = Some []
step symbol kind = None

-- the stack when its first symbol takes a token; none where it takes none, or where no symbol is left
abbrev pub take_one : Option (List Symbol) → Kind → Option (List Symbol)
take_one None kind = None
take_one (Some []) kind = None
take_one (Some (symbol ∷ symbols)) kind = option_map (λ pushed. pushed ++ symbols) (step symbol kind)

-- the stack when tokens of these kinds were taken, one after another
abbrev pub run : Option (List Symbol) → List Kind → Option (List Symbol)
run stack [] = stack
run stack (kind ∷ kinds) = run (take_one stack kind) kinds

-- what is still to come of a query behind these tokens; none where one of them was not taken
abbrev pub stack_behind : List Token → Option (List Symbol)
stack_behind tokens = run (Some (Start ∷ [])) (map kind_of tokens)

-- tokens begin a query exactly where the machine takes each of them
abbrev pub TakesViable : Type 0
TakesViable = (tokens : List Token) → IsViable tokens ↔ IsSome (stack_behind tokens)

-- and they are a query exactly where nothing is then to come
abbrev pub EndsWhole : Type 0
EndsWhole = (tokens : List Token) → ((distinct : Bool) × (query : Query) × IsQuery distinct query tokens) ↔ (stack_behind tokens ≡ Some [])
