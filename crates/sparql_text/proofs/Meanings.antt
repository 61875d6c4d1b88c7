-- What the machine takes is a query: each symbol stands for what the grammar reads in its place.
use Rattle.std.proofs.Common.{◌⊎◌, List, [], ◌∷◌, Some, None}
use Rattle.sparql_algebra.specs.declared.expr.Operand.{Operand as AlgebraOperand}
use Rattle.sparql_algebra.specs.declared.expr.Expr.{Expr}
use Rattle.sparql_algebra.specs.declared.expr.Expr.TheVariants as expr
use Rattle.sparql_text.specs.declared.word.Word.TheVariants as word
use Rattle.sparql_text.specs.declared.symbol.Symbol.{Symbol}
use Rattle.sparql_text.specs.declared.symbol.Symbol.TheVariants.{Start, Prefix, Iri, Select, Columns, MoreColumns, Where, Open, Group, Behind, Alts, Verb, Object, Objects, Said, Filter, Condition, Joined, Compared, Prim, Operand, Argument, Variable, OpenParen, CloseParen, Comma}
use Rattle.sparql_text.specs.Tokens.{Token}
use Rattle.sparql_text.specs.Front.{Front, The, One, Nothing, ◌then◌, Many, Given, Perhaps}
use Rattle.sparql_text.specs.Scope.{Scope, as_variable, as_verb, as_object, as_argument}
use Rattle.sparql_text.specs.Conditions.{ReadsOperand, ReadsCall, ReadsOr, ReadsAnd, ReadsCond, ReadsPrim}
use Rattle.sparql_text.specs.Conditions.ReadsOr.{OneAnd, OrMore}
use Rattle.sparql_text.specs.Conditions.ReadsAnd.{OneCond, AndMore}
use Rattle.sparql_text.specs.Triples.{ReadsSaying}
use Rattle.sparql_text.specs.Groups.{Group as ReadGroup, Groups, ReadsGroup, ReadsContent, ReadsElements, ReadsAlts}
use Rattle.sparql_text.specs.Queries.{as_prefix, as_whole_iri, ReadsDeclaration, ReadsDistinct, ReadsColumns}
use Rattle.sparql_text.specs.Machine.{Step}

-- a thing with some value
abbrev pub Any : {A : Type 0} → (A → Front) → Front
Any {A} Each tokens rest = (value : A) × Each value tokens rest

-- the content of a group and its `}`
abbrev pub Content : Scope → Front
Content scope tokens rest = (group : ReadGroup) × ReadsContent scope group tokens (Token.Fixed word.CloseBrace ∷ rest)

-- the elements of a group and its `}`
abbrev pub Elements : Scope → Front
Elements scope tokens rest = (group : ReadGroup) × ReadsElements scope group tokens (Token.Fixed word.CloseBrace ∷ rest)

-- what follows the triple patterns of one subject
abbrev pub Tail : Scope → Front
Tail scope tokens rest = Elements scope tokens rest ⊎ (The word.Dot then Content scope) tokens rest

-- what else is said of a subject, and what follows
abbrev pub Sayings : Scope → Front
Sayings scope = Any (Many (λ saying. The word.Semicolon then Given (ReadsSaying scope) saying)) then Tail scope

-- a condition and the `)` behind it
abbrev pub Closed : Scope → Front
Closed scope tokens rest = (value : Expr) × ReadsOr scope value tokens (Token.Fixed word.CloseParen ∷ rest)

-- the pattern of a query, perhaps with WHERE before it
abbrev pub Pattern : Scope → Front
Pattern scope = Perhaps (The word.Where) then Any (ReadsGroup scope)

-- what a symbol stands for; behind a left part, what turns any reading of that part into one of the whole
abbrev pub Meaning : Scope → Symbol → Front
Meaning scope Start = Any (Many ReadsDeclaration) then The word.Select then Any ReadsDistinct then Any (ReadsColumns scope) then Pattern scope
Meaning scope Prefix = Any (One as_prefix)
Meaning scope Iri = Any (One as_whole_iri)
Meaning scope Select = Any ReadsDistinct then Any (ReadsColumns scope) then Pattern scope
Meaning scope Columns = Any (ReadsColumns scope) then Pattern scope
Meaning scope MoreColumns = Any (Many (One (as_variable scope))) then Pattern scope
Meaning scope Where = Pattern scope
Meaning scope Open = Any (ReadsGroup scope)
Meaning scope Group = Content scope
Meaning scope Behind = Perhaps (The word.Dot) then Content scope
Meaning scope Alts = λ tokens rest. (start : List Token) (groups : Groups) → ReadsAlts scope groups start tokens → Elements scope start rest
Meaning scope Verb = Any (One (as_verb scope))
Meaning scope Object = Any (One (as_object scope))
Meaning scope Objects = Any (Many (λ object. The word.Comma then One (as_object scope) object)) then Sayings scope
Meaning scope Said = Any (Given (ReadsSaying scope)) then Sayings scope
Meaning scope Filter = λ tokens rest. (value : Expr)
    × ((The word.OpenParen then ReadsOr scope value then The word.CloseParen) tokens rest ⊎ ReadsCall scope value tokens rest)
Meaning scope Condition = Closed scope
Meaning scope Joined = λ tokens rest. (start : List Token) (value : Expr) → ReadsCond scope value start tokens → Closed scope start rest
Meaning scope Compared = λ tokens rest. (start : List Token) (a : AlgebraOperand) → ReadsOperand scope a start tokens → Closed scope start rest
Meaning scope Prim = Any (ReadsPrim scope)
Meaning scope Operand = Any (ReadsOperand scope)
Meaning scope Argument = Any (One (as_argument scope))
Meaning scope Variable = Any (One (as_variable scope))
Meaning scope OpenParen = The word.OpenParen
Meaning scope CloseParen = The word.CloseParen
Meaning scope Comma = The word.Comma

-- what symbols stand for, one behind another
abbrev pub Meanings : Scope → List Symbol → Front
Meanings scope [] = Nothing
Meanings scope (symbol ∷ symbols) = Meaning scope symbol then Meanings scope symbols

-- a symbol takes a token, and this holds of the symbols in its place
abbrev pub Takes : Step → (List Symbol → Type 0) → Type 0
Takes None P = ⊥
Takes (Some pushed) P = P pushed

-- a condition joined to one by `||`, and one joined by `&&`
pub or_joined : (scope : Scope) (a b : Expr) (start middle rest : List Token) → ReadsOr scope a start (Token.Fixed word.Or ∷ middle) → ReadsOr scope b middle rest
    → (value : Expr) × ReadsOr scope value start rest
or_joined scope a b start middle rest x (OneAnd e tokens end y) = (expr.Or a e, OrMore a e start tokens end x y)
or_joined scope a b start middle rest x (OrMore e f tokens next end y z) =
    let first = or_joined scope a e start tokens (Token.Fixed word.Or ∷ next) x y in
    (expr.Or first.0 f, OrMore first.0 f start next end first.1 z)

and_and_joined : (scope : Scope) (a b : Expr) (start middle rest : List Token) → ReadsAnd scope a start (Token.Fixed word.And ∷ middle) → ReadsAnd scope b middle rest
    → (value : Expr) × ReadsAnd scope value start rest
and_and_joined scope a b start middle rest x (OneCond e tokens end y) = (expr.And a e, AndMore a e start tokens end x y)
and_and_joined scope a b start middle rest x (AndMore e f tokens next end y z) =
    let first = and_and_joined scope a e start tokens (Token.Fixed word.And ∷ next) x y in
    (expr.And first.0 f, AndMore first.0 f start next end first.1 z)

pub and_joined : (scope : Scope) (a b : Expr) (start middle rest : List Token) → ReadsAnd scope a start (Token.Fixed word.And ∷ middle) → ReadsOr scope b middle rest
    → (value : Expr) × ReadsOr scope value start rest
and_joined scope a b start middle rest x (OneAnd e tokens end y) =
    let both = and_and_joined scope a e start tokens end x y in (both.0, OneAnd both.0 start end both.1)
and_joined scope a b start middle rest x (OrMore e f tokens next end y z) =
    let first = and_joined scope a e start tokens (Token.Fixed word.Or ∷ next) x y in
    (expr.Or first.0 f, OrMore first.0 f start next end first.1 z)
