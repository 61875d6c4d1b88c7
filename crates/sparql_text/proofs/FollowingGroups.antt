-- Whatever the grammar reads as groups and queries the machine takes.
use Rattle.std.proofs.Common.{ℕ, ◌≡◌, inl, inr, Bool, true, false, List, [], ◌∷◌, ◌++◌, refl, ◌∙◌, ap, subst, Option, Some, None}
use Rattle.sparql_algebra.specs.declared.var.Var.{Var}
use Rattle.sparql_algebra.specs.declared.pattern.Place.{Place}
use Rattle.sparql_algebra.specs.declared.expr.Expr.{Expr}
use Rattle.sparql_text.specs.declared.word.Word.TheVariants as word
use Rattle.sparql_text.specs.declared.symbol.Symbol.{Symbol}
use Rattle.sparql_text.specs.declared.symbol.Symbol.TheVariants.{Start, Prefix, Iri, Select, Columns, MoreColumns, Where, Open, Group, Behind, Alts, Verb, Object, Objects, Said, Filter, Condition, Joined, Prim}
use Rattle.sparql_text.specs.Tokens.{Token}
use Rattle.sparql_text.specs.Front.{The, One, ◌then◌, Many, Given, Perhaps}
use Rattle.sparql_text.specs.Scope.{Declaration, Scope, scope_of, as_variable, as_subject, as_object}
use Rattle.sparql_text.specs.Conditions.{ReadsOr, ReadsFilter}
use Rattle.sparql_text.specs.Conditions.ReadsFilter.{FilterWithin, FilterCalled}
use Rattle.sparql_text.specs.Triples.{Saying, ReadsSaying, ReadsSame, ReadsTriples}
use Rattle.sparql_text.specs.Triples.ReadsTriples.{Last, Dotted, More}
use Rattle.sparql_text.specs.Groups.{Group as ReadGroup, Groups, ReadsGroup, ReadsContent, ReadsElements, ReadsAlts}
use Rattle.sparql_text.specs.Groups.ReadsGroup.{Braces}
use Rattle.sparql_text.specs.Groups.ReadsContent.{With, Without}
use Rattle.sparql_text.specs.Groups.ReadsElements.{NoMore, OfAlts, OfOptional, OfFilter}
use Rattle.sparql_text.specs.Groups.ReadsAlts.{OneGroup, OrGroup}
use Rattle.sparql_text.specs.Queries.{as_prefix, as_whole_iri, ReadsDeclaration, ReadsDistinct, ReadsColumns}
use Rattle.sparql_text.specs.Machine.{kind_of, step}
use Rattle.sparql_algebra.specs.declared.algebra.Query.{Query}
use Rattle.sparql_algebra.specs.declared.pattern.PatternTriple.{PatternTriple}
use Rattle.sparql_text.specs.declared.symbol.Kind.TheVariants as kind
use Rattle.sparql_text.specs.Queries.{IsQuery}
use Rattle.sparql_text.proofs.Following.{after, taking, object_step, verb_step, variable_step, call_goes, CallFilter, or_goes, close_ends, joined_close_step, filter_within_step}

-- symbols at which an element of a group may begin, or its end come
data ElementState : Symbol → Type 0 where
  InGroup : ElementState Group
  InBehind : ElementState Behind
  InAlts : ElementState Alts
  InObjects : ElementState Objects
  InSaid : ElementState Said

-- those at which triple patterns may begin too
data ContentState : Symbol → Type 0 where
  AtGroup : ContentState Group
  AtBehind : ContentState Behind
  AtAlts : ContentState Alts

-- those behind an object or a `;`
data SaidState : Symbol → Type 0 where
  BehindObject : SaidState Objects
  BehindSemicolon : SaidState Said

content_element : (symbol : Symbol) → ContentState symbol → ElementState symbol
content_element symbol AtGroup = InGroup
content_element symbol AtBehind = InBehind
content_element symbol AtAlts = InAlts

said_element : (symbol : Symbol) → SaidState symbol → ElementState symbol
said_element symbol BehindObject = InObjects
said_element symbol BehindSemicolon = InSaid

close_step : (symbol : Symbol) → ElementState symbol → step symbol (kind.Fixed word.CloseBrace) ≡ Some []
unfolding step
close_step symbol InGroup = refl
close_step symbol InBehind = refl
close_step symbol InAlts = refl
close_step symbol InObjects = refl
close_step symbol InSaid = refl

brace_step : (symbol : Symbol) → ElementState symbol → step symbol (kind.Fixed word.OpenBrace) ≡ Some (Group ∷ Alts ∷ [])
unfolding step
brace_step symbol InGroup = refl
brace_step symbol InBehind = refl
brace_step symbol InAlts = refl
brace_step symbol InObjects = refl
brace_step symbol InSaid = refl

optional_step : (symbol : Symbol) → ElementState symbol → step symbol (kind.Fixed word.Optional) ≡ Some (Open ∷ Behind ∷ [])
unfolding step
optional_step symbol InGroup = refl
optional_step symbol InBehind = refl
optional_step symbol InAlts = refl
optional_step symbol InObjects = refl
optional_step symbol InSaid = refl

filter_step : (symbol : Symbol) → ElementState symbol → step symbol (kind.Fixed word.Filter) ≡ Some (Filter ∷ Behind ∷ [])
unfolding step
filter_step symbol InGroup = refl
filter_step symbol InBehind = refl
filter_step symbol InAlts = refl
filter_step symbol InObjects = refl
filter_step symbol InSaid = refl

semicolon_step : (symbol : Symbol) → SaidState symbol → step symbol (kind.Fixed word.Semicolon) ≡ Some (Said ∷ [])
unfolding step
semicolon_step symbol BehindObject = refl
semicolon_step symbol BehindSemicolon = refl

said_dot_step : (symbol : Symbol) → SaidState symbol → step symbol (kind.Fixed word.Dot) ≡ Some (Group ∷ [])
unfolding step
said_dot_step symbol BehindObject = refl
said_dot_step symbol BehindSemicolon = refl

behind_dot_step : step Behind (kind.Fixed word.Dot) ≡ Some (Group ∷ [])
unfolding step
behind_dot_step = refl

alts_dot_step : step Alts (kind.Fixed word.Dot) ≡ Some (Group ∷ [])
unfolding step
alts_dot_step = refl

union_step : step Alts (kind.Fixed word.Union) ≡ Some (Open ∷ Alts ∷ [])
unfolding step
union_step = refl

open_step : step Open (kind.Fixed word.OpenBrace) ≡ Some (Group ∷ [])
unfolding step
open_step = refl

comma_object_step : step Objects (kind.Fixed word.Comma) ≡ Some (Object ∷ Objects ∷ [])
unfolding step
comma_object_step = refl

content_step : (scope : Scope) (place : Place) (symbol : Symbol) → ContentState symbol → (token : Token) → as_subject scope token ≡ Some place
    → step symbol (kind_of token) ≡ Some (Verb ∷ Object ∷ Objects ∷ [])
unfolding step
content_step scope place symbol AtGroup token e = plain token e
  where
    plain : (token : Token) → as_subject scope token ≡ Some place → step Group (kind_of token) ≡ Some (Verb ∷ Object ∷ Objects ∷ [])
    plain (Token.Iri iri) e = refl
    plain (Token.Name prefix []) e = refl
    plain (Token.Name prefix (byte ∷ local)) e = refl
    plain (Token.Variable name) e = refl
    plain (Token.String value) e = absurd (cc)
    plain (Token.Fixed word) e = absurd (cc)
content_step scope place symbol AtBehind token e = plain token e
  where
    plain : (token : Token) → as_subject scope token ≡ Some place → step Behind (kind_of token) ≡ Some (Verb ∷ Object ∷ Objects ∷ [])
    plain (Token.Iri iri) e = refl
    plain (Token.Name prefix []) e = refl
    plain (Token.Name prefix (byte ∷ local)) e = refl
    plain (Token.Variable name) e = refl
    plain (Token.String value) e = absurd (cc)
    plain (Token.Fixed word) e = absurd (cc)
content_step scope place symbol AtAlts token e = plain token e
  where
    plain : (token : Token) → as_subject scope token ≡ Some place → step Alts (kind_of token) ≡ Some (Verb ∷ Object ∷ Objects ∷ [])
    plain (Token.Iri iri) e = refl
    plain (Token.Name prefix []) e = refl
    plain (Token.Name prefix (byte ∷ local)) e = refl
    plain (Token.Variable name) e = refl
    plain (Token.String value) e = absurd (cc)
    plain (Token.Fixed word) e = absurd (cc)

-- an object
object_goes : (scope : Scope) (place : Place) (symbols : List Symbol) (tokens rest : List Token) → One (as_object scope) place tokens rest
    → after (Object ∷ symbols) tokens ≡ after symbols rest
unfolding step
object_goes scope place symbols tokens rest (token, is, e) =
    ap (after (Object ∷ symbols)) e ∙ taking Object symbols [] token rest (object_step scope place [] token is)

-- further objects
objects_goes : (scope : Scope) (objects : List Place) (symbols : List Symbol) (tokens rest : List Token)
    → Many (λ object. The word.Comma then One (as_object scope) object) objects tokens rest → after (Objects ∷ symbols) tokens ≡ after (Objects ∷ symbols) rest
objects_goes scope [] symbols tokens rest x = ap (after (Objects ∷ symbols)) x
objects_goes scope (object ∷ objects) symbols tokens rest x =
    ap (after (Objects ∷ symbols)) x.first.first ∙ (taking Objects symbols (Object ∷ Objects ∷ []) (Token.Fixed word.Comma) x.first.middle comma_object_step
    ∙ (object_goes scope object (Objects ∷ symbols) x.first.middle x.middle x.first.second ∙ objects_goes scope objects symbols x.middle rest x.second))

-- a verb with its objects, behind a subject and behind `;`
saying_goes : (scope : Scope) (saying : Saying) (symbols : List Symbol) (tokens rest : List Token) → ReadsSaying scope saying tokens rest
    → (after (Verb ∷ Object ∷ Objects ∷ symbols) tokens ≡ after (Objects ∷ symbols) rest) × (after (Said ∷ symbols) tokens ≡ after (Objects ∷ symbols) rest)
saying_goes scope saying symbols tokens rest x =
    let verb = verb_step scope saying.verb x.first.0 x.first.1 in
    let others = object_goes scope saying.first (Objects ∷ symbols) x.middle x.second.middle x.second.first
    ∙ objects_goes scope saying.others symbols x.second.middle rest x.second.second in (
      ap (after (Verb ∷ Object ∷ Objects ∷ symbols)) x.first.2 ∙ (taking Verb (Object ∷ Objects ∷ symbols) [] x.first.0 x.middle verb.0 ∙ others),
      ap (after (Said ∷ symbols)) x.first.2 ∙ (taking Said symbols (Object ∷ Objects ∷ []) x.first.0 x.middle verb.1 ∙ others),
    )

-- where the tokens lead within a group
record Led (State : Symbol → Type 0) (symbol : Symbol) (symbols : List Symbol) (tokens rest : List Token) : Type 0 where
  to : Symbol
  state : State to
  goes : after (symbol ∷ symbols) tokens ≡ after (to ∷ symbols) rest

-- what else is said
sayings_goes : (scope : Scope) (others : List (Option Saying)) (symbols : List Symbol) (symbol : Symbol) (tokens rest : List Token) → SaidState symbol
    → Many (λ saying. The word.Semicolon then Given (ReadsSaying scope) saying) others tokens rest → Led SaidState symbol symbols tokens rest
sayings_goes scope [] symbols symbol tokens rest state x = record { to = symbol; state = state; goes = ap (after (symbol ∷ symbols)) x }
sayings_goes scope (None ∷ others) symbols symbol tokens rest state x =
    let more = sayings_goes scope others symbols Said x.middle rest BehindSemicolon x.second in record {
      to = more.to;
      state = more.state;
      goes = ap (after (symbol ∷ symbols)) x.first.first ∙ (taking symbol symbols (Said ∷ []) (Token.Fixed word.Semicolon) x.first.middle (semicolon_step symbol state)
          ∙ (ap (after (Said ∷ symbols)) x.first.second ∙ more.goes));
    }
sayings_goes scope (Some saying ∷ others) symbols symbol tokens rest state x =
    let more = sayings_goes scope others symbols Objects x.middle rest BehindObject x.second in record {
      to = more.to;
      state = more.state;
      goes = ap (after (symbol ∷ symbols)) x.first.first ∙ (taking symbol symbols (Said ∷ []) (Token.Fixed word.Semicolon) x.first.middle (semicolon_step symbol state)
          ∙ ((saying_goes scope saying symbols x.first.middle x.middle x.first.second).1 ∙ more.goes));
    }

-- the triple patterns of one subject
same_goes : (scope : Scope) (patterns : List PatternTriple) (symbol : Symbol) (symbols : List Symbol) (tokens rest : List Token) → ContentState symbol
    → ReadsSame scope patterns tokens rest → Led SaidState symbol symbols tokens rest
same_goes scope patterns symbol symbols tokens rest state x =
    let y = x.reads in
    let more = sayings_goes scope x.others symbols Objects y.second.middle rest BehindObject y.second.second in record {
      to = more.to;
      state = more.state;
      goes = ap (after (symbol ∷ symbols)) y.first.2
          ∙ (taking symbol symbols (Verb ∷ Object ∷ Objects ∷ []) y.first.0 y.middle (content_step scope x.subject symbol state y.first.0 y.first.1)
          ∙ ((saying_goes scope x.first symbols y.middle y.second.middle y.second.first).0 ∙ more.goes));
    }

-- triple patterns
triples_goes : (scope : Scope) (patterns : List PatternTriple) (tokens rest : List Token) → ReadsTriples scope patterns tokens rest
    → (symbol : Symbol) (symbols : List Symbol) → ContentState symbol → Led ElementState symbol symbols tokens rest
triples_goes scope patterns tokens rest (Last value t r same) symbol symbols state =
    let led = same_goes scope value symbol symbols t r state same in record { to = led.to; state = said_element led.to led.state; goes = led.goes }
triples_goes scope patterns tokens rest (Dotted value t r same) symbol symbols state =
    let led = same_goes scope value symbol symbols t (Token.Fixed word.Dot ∷ r) state same in record {
      to = Group;
      state = InGroup;
      goes = led.goes ∙ taking led.to symbols (Group ∷ []) (Token.Fixed word.Dot) r (said_dot_step led.to led.state);
    }
triples_goes scope patterns tokens rest (More value values t middle r same triples) symbol symbols state =
    let led = same_goes scope value symbol symbols t (Token.Fixed word.Dot ∷ middle) state same in
    let more = triples_goes scope values middle r triples Group symbols AtGroup in record {
      to = more.to;
      state = more.state;
      goes = led.goes ∙ (taking led.to symbols (Group ∷ []) (Token.Fixed word.Dot) middle (said_dot_step led.to led.state) ∙ more.goes);
    }

-- a FILTER
filter_goes : (scope : Scope) (condition : Expr) (symbol : Symbol) (symbols : List Symbol) (tokens rest : List Token) → ElementState symbol
    → ReadsFilter scope condition tokens rest → after (symbol ∷ symbols) tokens ≡ after (Behind ∷ symbols) rest
filter_goes scope condition symbol symbols tokens rest state (FilterWithin x) =
    let y = x.second in
    ap (after (symbol ∷ symbols)) x.first ∙ (taking symbol symbols (Filter ∷ Behind ∷ []) (Token.Fixed word.Filter) x.middle (filter_step symbol state)
    ∙ (ap (after (Filter ∷ Behind ∷ symbols)) y.first ∙ (taking Filter (Behind ∷ symbols) (Condition ∷ []) (Token.Fixed word.OpenParen) y.middle filter_within_step
    ∙ (or_goes scope condition y.middle (Token.Fixed word.CloseParen ∷ rest) (subst (ReadsOr scope condition y.middle) y.second.second y.second.first) (close_ends rest) (Behind ∷ symbols)
    ∙ taking Joined (Behind ∷ symbols) [] (Token.Fixed word.CloseParen) rest joined_close_step))))
filter_goes scope condition symbol symbols tokens rest state (FilterCalled x) =
    ap (after (symbol ∷ symbols)) x.first ∙ (taking symbol symbols (Filter ∷ Behind ∷ []) (Token.Fixed word.Filter) x.middle (filter_step symbol state)
    ∙ call_goes scope Filter [] condition x.middle rest CallFilter x.second (Behind ∷ symbols))

-- a dot perhaps, behind an element
dotted : (symbol : Symbol) (symbols : List Symbol) (middle next rest : List Token) → Perhaps (The word.Dot) middle next → step symbol (kind.Fixed word.Dot) ≡ Some (Group ∷ [])
    → after (Group ∷ symbols) next ≡ after symbols rest → after (symbol ∷ symbols) next ≡ after symbols rest → after (symbol ∷ symbols) middle ≡ after symbols rest
dotted symbol symbols middle next rest (inl dot) e f g = ap (after (symbol ∷ symbols)) dot ∙ (taking symbol symbols (Group ∷ []) (Token.Fixed word.Dot) next e ∙ f)
dotted symbol symbols middle next rest (inr same) e f g = ap (after (symbol ∷ symbols)) same ∙ g

mutual
  -- a group, at a symbol that leads into it at `{`
  group_goes : (scope : Scope) (group : ReadGroup) (tokens rest : List Token) → ReadsGroup scope group tokens rest
      → (symbol : Symbol) (follows symbols : List Symbol) → step symbol (kind.Fixed word.OpenBrace) ≡ Some (Group ∷ follows)
      → after (symbol ∷ symbols) tokens ≡ after (follows ++ symbols) rest
  group_goes scope group tokens rest (Braces value t r x) symbol follows symbols e =
      taking symbol symbols (Group ∷ follows) (Token.Fixed word.OpenBrace) t e
      ∙ content_goes scope value t (Token.Fixed word.CloseBrace ∷ r) x r refl Group (follows ++ symbols) AtGroup

  -- the content of a group and its `}`
  content_goes : (scope : Scope) (group : ReadGroup) (tokens end : List Token) → ReadsContent scope group tokens end → (rest : List Token) → end ≡ Token.Fixed word.CloseBrace ∷ rest
      → (symbol : Symbol) (symbols : List Symbol) → ContentState symbol → after (symbol ∷ symbols) tokens ≡ after symbols rest
  content_goes scope group tokens end (With patterns value t middle r triples x) rest e symbol symbols state =
      let led = triples_goes scope patterns t middle triples symbol symbols state in led.goes ∙ elements_goes scope value middle r x rest e led.to symbols led.state
  content_goes scope group tokens end (Without value t r x) rest e symbol symbols state = elements_goes scope value t r x rest e symbol symbols (content_element symbol state)

  -- the elements of a group and its `}`
  elements_goes : (scope : Scope) (group : ReadGroup) (tokens end : List Token) → ReadsElements scope group tokens end → (rest : List Token) → end ≡ Token.Fixed word.CloseBrace ∷ rest
      → (symbol : Symbol) (symbols : List Symbol) → ElementState symbol → after (symbol ∷ symbols) tokens ≡ after symbols rest
  elements_goes scope group tokens end (NoMore t) rest e symbol symbols state =
      ap (after (symbol ∷ symbols)) e ∙ taking symbol symbols [] (Token.Fixed word.CloseBrace) rest (close_step symbol state)
  elements_goes scope group tokens end (OfAlts groups value t middle next r alts dot x) rest e symbol symbols state =
      alts_goes scope groups t middle alts symbol symbols state
      ∙ dotted Alts symbols middle next rest dot alts_dot_step (content_goes scope value next r x rest e Group symbols AtGroup) (content_goes scope value next r x rest e Alts symbols AtAlts)
  elements_goes scope group tokens end (OfOptional inner value t middle next r g dot x) rest e symbol symbols state =
      taking symbol symbols (Open ∷ Behind ∷ []) (Token.Fixed word.Optional) t (optional_step symbol state)
      ∙ (group_goes scope inner t middle g Open [] (Behind ∷ symbols) open_step
      ∙ dotted Behind symbols middle next rest dot behind_dot_step (content_goes scope value next r x rest e Group symbols AtGroup) (content_goes scope value next r x rest e Behind symbols AtBehind))
  elements_goes scope group tokens end (OfFilter condition value t middle next r filter dot x) rest e symbol symbols state =
      filter_goes scope condition symbol symbols t middle state filter
      ∙ dotted Behind symbols middle next rest dot behind_dot_step (content_goes scope value next r x rest e Group symbols AtGroup) (content_goes scope value next r x rest e Behind symbols AtBehind)

  -- groups joined by UNION
  alts_goes : (scope : Scope) (groups : Groups) (tokens rest : List Token) → ReadsAlts scope groups tokens rest → (symbol : Symbol) (symbols : List Symbol) → ElementState symbol
      → after (symbol ∷ symbols) tokens ≡ after (Alts ∷ symbols) rest
  alts_goes scope groups tokens rest (OneGroup group t r g) symbol symbols state = group_goes scope group t r g symbol (Alts ∷ []) symbols (brace_step symbol state)
  alts_goes scope groups tokens rest (OrGroup others group t middle r alts g) symbol symbols state =
      alts_goes scope others t (Token.Fixed word.Union ∷ middle) alts symbol symbols state
      ∙ (taking Alts symbols (Open ∷ Alts ∷ []) (Token.Fixed word.Union) middle union_step ∙ group_goes scope group middle r g Open [] (Alts ∷ symbols) open_step)

-- the steps at the head of a query
prefix_step : step Start (kind.Fixed word.Prefix) ≡ Some (Prefix ∷ Iri ∷ Start ∷ [])
unfolding step
prefix_step = refl

select_step : step Start (kind.Fixed word.Select) ≡ Some (Select ∷ [])
unfolding step
select_step = refl

bare_step : (prefix : List ℕ) (token : Token) → as_prefix token ≡ Some prefix → step Prefix (kind_of token) ≡ Some []
unfolding step
bare_step prefix (Token.Iri iri) e = absurd (cc)
bare_step prefix (Token.Name other []) e = refl
bare_step prefix (Token.Name other (byte ∷ local)) e = absurd (cc)
bare_step prefix (Token.Variable name) e = absurd (cc)
bare_step prefix (Token.String value) e = absurd (cc)
bare_step prefix (Token.Fixed word) e = absurd (cc)

iri_step : (iri : List ℕ) (token : Token) → as_whole_iri token ≡ Some iri → step Iri (kind_of token) ≡ Some []
unfolding step
iri_step iri (Token.Iri other) e = refl
iri_step iri (Token.Name prefix local) e = absurd (cc)
iri_step iri (Token.Variable name) e = absurd (cc)
iri_step iri (Token.String value) e = absurd (cc)
iri_step iri (Token.Fixed word) e = absurd (cc)

-- declarations
declarations_go : (declarations : List Declaration) (symbols : List Symbol) (tokens rest : List Token) → Many ReadsDeclaration declarations tokens rest
    → after (Start ∷ symbols) tokens ≡ after (Start ∷ symbols) rest
declarations_go [] symbols tokens rest x = ap (after (Start ∷ symbols)) x
declarations_go (declaration ∷ declarations) symbols tokens rest x =
    let y = x.first in
    ap (after (Start ∷ symbols)) y.first ∙ (taking Start symbols (Prefix ∷ Iri ∷ Start ∷ []) (Token.Fixed word.Prefix) y.middle prefix_step
    ∙ (ap (after (Prefix ∷ Iri ∷ Start ∷ symbols)) y.second.first.2
    ∙ (taking Prefix (Iri ∷ Start ∷ symbols) [] y.second.first.0 y.second.middle (bare_step declaration.prefix y.second.first.0 y.second.first.1)
    ∙ (ap (after (Iri ∷ Start ∷ symbols)) y.second.second.2
    ∙ (taking Iri (Start ∷ symbols) [] y.second.second.0 x.middle (iri_step declaration.iri y.second.second.0 y.second.second.1)
    ∙ declarations_go declarations symbols x.middle rest x.second)))))

-- columns, behind which the pattern comes
column_steps : (step Select kind.Variable ≡ Some (MoreColumns ∷ [])) × (step Columns kind.Variable ≡ Some (MoreColumns ∷ [])) × (step MoreColumns kind.Variable ≡ Some (MoreColumns ∷ []))
unfolding step
column_steps = (refl, refl, refl)

star_steps : (step Select (kind.Fixed word.Star) ≡ Some (Where ∷ [])) × (step Columns (kind.Fixed word.Star) ≡ Some (Where ∷ []))
unfolding step
star_steps = (refl, refl)

distinct_step : step Select (kind.Fixed word.Distinct) ≡ Some (Columns ∷ [])
unfolding step
distinct_step = refl

-- symbols at which the pattern may begin
data PatternState : Symbol → Type 0 where
  AtWhere : PatternState Where
  AtColumns : PatternState MoreColumns

where_step : (symbol : Symbol) → PatternState symbol → step symbol (kind.Fixed word.Where) ≡ Some (Open ∷ [])
unfolding step
where_step symbol AtWhere = refl
where_step symbol AtColumns = refl

pattern_step : (symbol : Symbol) → PatternState symbol → step symbol (kind.Fixed word.OpenBrace) ≡ Some (Group ∷ [])
unfolding step
pattern_step symbol AtWhere = refl
pattern_step symbol AtColumns = refl

-- further columns
more_columns_go : (scope : Scope) (vars : List Var) (tokens rest : List Token) → Many (One (as_variable scope)) vars tokens rest
    → after (MoreColumns ∷ []) tokens ≡ after (MoreColumns ∷ []) rest
more_columns_go scope [] tokens rest x = ap (after (MoreColumns ∷ [])) x
more_columns_go scope (var ∷ vars) tokens rest x =
    ap (after (MoreColumns ∷ [])) x.first.2 ∙ (taking MoreColumns [] (MoreColumns ∷ []) x.first.0 x.middle (ap (step MoreColumns) (variable_step scope var x.first.0 x.first.1) ∙ column_steps.2)
    ∙ more_columns_go scope vars x.middle rest x.second)

-- columns, at a symbol at which they may begin
columns_go : (scope : Scope) (columns : Option (List Var)) (symbol : Symbol) (tokens rest : List Token) → step symbol kind.Variable ≡ Some (MoreColumns ∷ [])
    → step symbol (kind.Fixed word.Star) ≡ Some (Where ∷ []) → ReadsColumns scope columns tokens rest → Led PatternState symbol [] tokens rest
columns_go scope None symbol tokens rest e f x =
    record { to = Where; state = AtWhere; goes = ap (after (symbol ∷ [])) x ∙ taking symbol [] (Where ∷ []) (Token.Fixed word.Star) rest f }
columns_go scope (Some []) symbol tokens rest e f x = absurd x
columns_go scope (Some (var ∷ vars)) symbol tokens rest e f x = record {
  to = MoreColumns;
  state = AtColumns;
  goes = ap (after (symbol ∷ [])) x.first.2 ∙ (taking symbol [] (MoreColumns ∷ []) x.first.0 x.middle (ap (step symbol) (variable_step scope var x.first.0 x.first.1) ∙ e)
      ∙ more_columns_go scope vars x.middle rest x.second);
}

-- the pattern
pattern_goes : (scope : Scope) (group : ReadGroup) (symbol : Symbol) (tokens middle rest : List Token) → PatternState symbol → Perhaps (The word.Where) tokens middle
    → ReadsGroup scope group middle rest → after (symbol ∷ []) tokens ≡ after [] rest
pattern_goes scope group symbol tokens middle rest state (inl e) g =
    ap (after (symbol ∷ [])) e ∙ (taking symbol [] (Open ∷ []) (Token.Fixed word.Where) middle (where_step symbol state) ∙ group_goes scope group middle rest g Open [] [] open_step)
pattern_goes scope group symbol tokens middle rest state (inr e) g =
    ap (after (symbol ∷ [])) e ∙ group_goes scope group middle rest g symbol [] [] (pattern_step symbol state)

-- what stands behind SELECT
selected_goes : (scope : Scope) (distinct : Bool) (columns : Option (List Var)) (tokens middle rest : List Token) → ReadsDistinct distinct tokens middle
    → ReadsColumns scope columns middle rest → Led PatternState Select [] tokens rest
selected_goes scope true columns tokens middle rest d x =
    let led = columns_go scope columns Columns middle rest column_steps.1 star_steps.1 x in record {
      to = led.to;
      state = led.state;
      goes = ap (after (Select ∷ [])) d ∙ (taking Select [] (Columns ∷ []) (Token.Fixed word.Distinct) middle distinct_step ∙ led.goes);
    }
selected_goes scope false columns tokens middle rest d x =
    let led = columns_go scope columns Select middle rest column_steps.0 star_steps.0 x in
    record { to = led.to; state = led.state; goes = ap (after (Select ∷ [])) d ∙ led.goes }

-- a query
pub query_goes : (distinct : Bool) (query : Query) (tokens : List Token) → IsQuery distinct query tokens → after (Start ∷ []) tokens ≡ Some []
query_goes distinct query tokens q =
    let x = q.reads in
    let y = x.second in
    let z = y.second in
    let led = selected_goes (scope_of tokens) distinct q.columns y.middle z.middle z.second.middle z.first z.second.first in
    declarations_go q.declarations [] tokens x.middle x.first ∙ (ap (after (Start ∷ [])) y.first ∙ (taking Start [] (Select ∷ []) (Token.Fixed word.Select) y.middle select_step
    ∙ (led.goes ∙ pattern_goes (scope_of tokens) q.group led.to z.second.middle z.second.second.middle [] led.state z.second.second.first z.second.second.second)))
