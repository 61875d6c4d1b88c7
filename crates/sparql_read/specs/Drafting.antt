-- A query as its tokens come: what a draft becomes by one more token. Tokens that lead to no query are passed over in some way;
-- what counts is that the tokens of a query make it.
use Rattle.std.specs.Prelude.{◌≡◌, ℕ, Bool, true, false, List, [], ◌∷◌, ◌++◌, Option, Some, None, if◌then◌else◌, fold, nat_eq}
use Rattle.std.specs.List.{list_any}
use Rattle.sparql_algebra.specs.declared.var.Var.{Var}
use Rattle.sparql_algebra.specs.declared.pattern.Place.{Place}
use Rattle.sparql_algebra.specs.declared.pattern.PatternTriple.{PatternTriple}
use Rattle.sparql_algebra.specs.declared.expr.Operand.{Operand}
use Rattle.sparql_algebra.specs.declared.expr.Operand.TheVariants as operand
use Rattle.sparql_algebra.specs.declared.expr.Compare.{Compare}
use Rattle.sparql_algebra.specs.declared.expr.Expr.{Expr}
use Rattle.sparql_algebra.specs.declared.expr.Expr.TheVariants as expr
use Rattle.sparql_algebra.specs.declared.algebra.Algebra.{Algebra}
use Rattle.sparql_algebra.specs.declared.algebra.Algebra.TheVariants.{Bgp, Union, LeftJoin}
use Rattle.sparql_algebra.specs.declared.algebra.Query.{Query}
use Rattle.sparql_text.specs.declared.word.Word.{Word}
use Rattle.sparql_text.specs.declared.word.Word.TheVariants as word
use Rattle.sparql_text.specs.Tokens.{Token, Fixed}
use Rattle.sparql_text.specs.Scope.{Scope, scope_of, names_of, as_variable, as_argument, as_subject, as_verb, as_object}
use Rattle.sparql_text.specs.Queries.{IsQuery}
use Rattle.sparql_text.specs.Translation.{join, filtered, variables_of}
use Rattle.sparql_read.specs.declared.draft.Call.{Call}
use Rattle.sparql_read.specs.declared.draft.Call.TheVariants as call
use Rattle.sparql_read.specs.declared.draft.Latest.{Latest}
use Rattle.sparql_read.specs.declared.draft.Latest.TheVariants.{Nothing, Alone, Compared, Called, One, Two, Whole}
use Rattle.sparql_read.specs.declared.draft.Level.{Level}
use Rattle.sparql_read.specs.declared.draft.Condition.{Condition}
use Rattle.sparql_read.specs.declared.draft.Role.{Role}
use Rattle.sparql_read.specs.declared.draft.Role.TheVariants as role
use Rattle.sparql_read.specs.declared.draft.Inside.{Inside}
use Rattle.sparql_read.specs.declared.draft.Said.{Said}
use Rattle.sparql_read.specs.declared.draft.Said.TheVariants as said
use Rattle.sparql_read.specs.declared.draft.Draft.{Draft}

-- two conditions joined by `&&`, where both are there
abbrev pub and_of : Option Expr → Option Expr → Option Expr
and_of None b = b
and_of (Some a) None = Some a
and_of (Some a) (Some b) = Some (expr.And a b)

-- two conditions joined by `||`, where both are there
abbrev pub or_of : Option Expr → Option Expr → Option Expr
or_of None b = b
or_of (Some a) None = Some a
or_of (Some a) (Some b) = Some (expr.Or a b)

-- the condition that stands last, where it is whole
abbrev pub condition_at : Latest → Option Expr
condition_at (Alone a) = Some (expr.Value a)
condition_at (Whole e) = Some e
condition_at other = None

-- what stands behind the last `||`
abbrev pub both_at : Level → Option Expr
both_at level = and_of level.both (condition_at level.latest)

-- the conditions of a level, joined
abbrev pub either_at : Level → Option Expr
either_at level = or_of level.either (both_at level)

-- a level before its first token
abbrev pub blank_level : Level
blank_level = record { either = None; both = None; negated = false; latest = Nothing }

-- a whole condition comes last, behind `!` its negation
abbrev pub with_whole : Level → Expr → Level
with_whole level e = record level { negated = false; latest = Whole (if level.negated then expr.Not e else e) }

-- an operand that is no argument and not compared comes last
abbrev pub with_value : Level → Operand → Level
with_value level a = if level.negated then with_whole level (expr.Value a) else (record level { latest = Alone a })

-- an operand comes behind the word of a call
abbrev pub in_call : Latest → Operand → Latest
in_call (Called call) a = One call a
in_call (One call b) a = Two call b a
in_call other a = other

-- an operand comes
abbrev pub with_operand : Level → Latest → Operand → Level
with_operand level Nothing a = with_value level a
with_operand level (Compared b sign) a = with_whole level (expr.Compare sign b a)
with_operand level latest a = record level { latest = in_call latest a }

-- a sign comes
abbrev pub with_sign : Level → Latest → Compare → Level
with_sign level (Alone a) sign = record level { latest = Compared a sign }
with_sign level other sign = level

-- `&&` comes
abbrev pub with_and : Level → Level
with_and level = record { either = level.either; both = both_at level; negated = false; latest = Nothing }

-- `||` comes
abbrev pub with_or : Level → Level
with_or level = record { either = either_at level; both = None; negated = false; latest = Nothing }

-- the call that a word begins
abbrev pub as_call : Word → Option Call
as_call word.Bound = Some call.Bound
as_call word.IsIri = Some call.IsIri
as_call word.IsUri = Some call.IsIri
as_call word.IsLiteral = Some call.IsLiteral
as_call word.SameTerm = Some call.SameTerm
as_call word.Contains = Some call.Contains
as_call word.StrStarts = Some call.StartsWith
as_call other = None

-- BOUND of what should be a variable
abbrev pub bound_of : Operand → Expr
bound_of (operand.Var var) = expr.Bound var
bound_of other = expr.Value other

-- a call of one operand
abbrev pub call_of_one : Call → Operand → Expr
call_of_one call.Bound a = bound_of a
call_of_one call.IsIri a = expr.IsIri a
call_of_one call.IsLiteral a = expr.IsLiteral a
call_of_one call.SameTerm a = expr.Value a
call_of_one call.Contains a = expr.Value a
call_of_one call.StartsWith a = expr.Value a

-- a call of two operands
abbrev pub call_of_two : Call → Operand → Operand → Expr
call_of_two call.Bound a b = expr.Value a
call_of_two call.IsIri a b = expr.Value a
call_of_two call.IsLiteral a b = expr.Value a
call_of_two call.SameTerm a b = expr.SameTerm a b
call_of_two call.Contains a b = expr.Contains a b
call_of_two call.StartsWith a b = expr.StartsWith a b

-- the conditions of a level that is closed are one condition of the level around it
abbrev pub with_closed : Option Expr → Level → Level
with_closed None level = level
with_closed (Some e) level = with_whole level e

-- a level is closed, where there is one
abbrev pub closed_into : Option Expr → Condition → List Level → Condition
closed_into closed condition [] = condition
closed_into closed condition (level ∷ outer) = record { level = with_closed closed level; outer = outer; text = false }

-- `)` comes, which ends a call or a level
abbrev pub with_end : Condition → Latest → Condition
with_end condition (One call a) = record condition { level = with_whole condition.level (call_of_one call a) }
with_end condition (Two call a b) = record condition { level = with_whole condition.level (call_of_two call a b) }
with_end condition other = closed_into (either_at condition.level) condition condition.outer

-- `)` comes, which may end STR
abbrev pub with_close : Condition → Condition
with_close condition = if condition.text then (record condition { text = false }) else with_end condition condition.level.latest

-- a level begins
abbrev pub begun : Condition → Condition
begun condition = record { level = blank_level; outer = condition.level ∷ condition.outer; text = false }

-- `(` comes, behind the word of a call or where a level begins
abbrev pub with_begin : Condition → Latest → Condition
with_begin condition (Called call) = condition
with_begin condition other = begun condition

-- `(` comes, perhaps behind STR
abbrev pub with_open : Condition → Condition
with_open condition = if condition.text then condition else with_begin condition condition.level.latest

-- an argument comes, perhaps in STR
abbrev pub with_argument : Condition → Operand → Condition
with_argument condition a =
    record condition { level = with_operand condition.level condition.level.latest (if condition.text then operand.Str a else a) }

-- the word of a call comes
abbrev pub with_call : Condition → Option Call → Condition
with_call condition None = condition
with_call condition (Some call) = record condition { level = record condition.level { latest = Called call } }

-- a word comes in a condition
abbrev pub with_word : Condition → Word → Condition
with_word condition word.OpenParen = with_open condition
with_word condition word.CloseParen = with_close condition
with_word condition word.Not = record condition { level = record condition.level { negated = true } }
with_word condition word.And = record condition { level = with_and condition.level }
with_word condition word.Or = record condition { level = with_or condition.level }
with_word condition word.Str = record condition { text = true }
with_word condition word.Equal = record condition { level = with_sign condition.level condition.level.latest Compare.Equal }
with_word condition word.NotEqual = record condition { level = with_sign condition.level condition.level.latest Compare.NotEqual }
with_word condition word.Less = record condition { level = with_sign condition.level condition.level.latest Compare.Less }
with_word condition word.Greater = record condition { level = with_sign condition.level condition.level.latest Compare.Greater }
with_word condition word.LessEqual = record condition { level = with_sign condition.level condition.level.latest Compare.LessEqual }
with_word condition word.GreaterEqual = record condition { level = with_sign condition.level condition.level.latest Compare.GreaterEqual }
with_word condition other = with_call condition (as_call other)

-- an operand comes in a condition, where a token is one
abbrev pub with_operand_of : Condition → Option Operand → Condition
with_operand_of condition None = condition
with_operand_of condition (Some a) = with_argument condition a

-- a token comes in a condition
abbrev pub in_condition : Scope → Condition → Token → Condition
in_condition scope condition (Fixed word) = with_word condition word
in_condition scope condition token = with_operand_of condition (as_argument scope token)

-- a FILTER before its condition
abbrev pub blank_condition : Condition
blank_condition = record { level = blank_level; outer = []; text = false }

-- the condition of a FILTER, where it is whole
abbrev pub whole_at : List Level → Latest → Option Expr
whole_at [] (Whole e) = Some e
whole_at outer latest = None

-- a group before its first token
abbrev pub blank_group : Inside
blank_group = record { before = Bgp []; run = []; conditions = None; alternatives = None; next = role.Element }

-- groups that no UNION follows are an element
abbrev pub settled_by : Option Algebra → Inside → Inside
settled_by None group = group
settled_by (Some a) group = record group { before = join group.before a; alternatives = None }

-- the groups that stand last in a group are an element, since no UNION follows
abbrev pub settled : Inside → Inside
settled group = settled_by group.alternatives group

-- the triple patterns that stand last in a group, or the groups that do, are an element
abbrev pub broken : Inside → Inside
broken group = let now = settled group in record now { before = join now.before (Bgp now.run); run = [] }

-- groups are joined by UNION
abbrev pub united : Option Algebra → Algebra → Algebra
united None a = a
united (Some groups) a = Union groups a

-- a group in a group was read: what its elements make, and its conditions
abbrev pub with_group : Inside → Role → Algebra → Option Expr → Inside
with_group group role.Optional pattern conditions =
    record group { before = LeftJoin group.before pattern conditions; next = role.Element }
with_group group other pattern conditions =
    record group { alternatives = Some (united group.alternatives (filtered conditions pattern)); next = role.Element }

-- the group in which a group begins: unless UNION stands before that, what stands last is an element
abbrev pub around : Inside → Role → Inside
around group role.Union = group
around group other = broken group

-- a column comes, unless it is one
abbrev pub with_column : List Var → Var → List Var
with_column columns var = if list_any (λ known. nat_eq known.0 var.0) columns then columns else (columns ++ var ∷ [])

-- a triple pattern comes
abbrev pub with_triple : Draft → PatternTriple → Draft
with_triple draft triple =
    let group = settled draft.group in
    record draft {
      group = record group { run = group.run ++ triple ∷ [] };
      columns = if draft.all then fold with_column draft.columns (variables_of triple) else draft.columns;
    }

-- the subject of a triple pattern comes, where a token is one
abbrev pub with_subject : Draft → Option Place → Draft
with_subject draft None = draft
with_subject draft (Some subject) = record draft { said = said.Subject subject }

-- its verb
abbrev pub with_verb : Draft → Place → Option Place → Draft
with_verb draft subject None = draft
with_verb draft subject (Some verb) = record draft { said = said.Verb subject verb }

-- its object
abbrev pub with_object : Draft → Place → Place → Option Place → Draft
with_object draft subject verb None = draft
with_object draft subject verb (Some object) = with_triple draft (record { subject = subject; predicate = verb; object = object })

-- a part of a triple pattern comes
abbrev pub with_part : Scope → Draft → Said → Token → Draft
with_part scope draft said.Nothing token = with_subject draft (as_subject scope token)
with_part scope draft (said.Subject subject) token = with_verb draft subject (as_verb scope token)
with_part scope draft (said.Verb subject verb) token = with_object draft subject verb (as_object scope token)

-- a variable comes behind SELECT
abbrev pub with_selected : Draft → Option Var → Draft
with_selected draft None = draft
with_selected draft (Some var) = record draft { columns = with_column draft.columns var }

-- `;` comes
abbrev pub same_subject : Said → Said
same_subject (said.Verb subject verb) = said.Subject subject
same_subject other = other

-- `{` comes
abbrev pub with_brace : Draft → Draft
with_brace draft = record draft { group = blank_group; outer = around draft.group draft.group.next ∷ draft.outer; said = said.Nothing }

-- `}` comes
abbrev pub with_end_of_group : Draft → List Inside → Draft
with_end_of_group draft [] = draft
with_end_of_group draft (group ∷ outer) =
    record draft { group = with_group group group.next (broken draft.group).before draft.group.conditions; outer = outer; said = said.Nothing }

-- how the next group goes into the one that is open
abbrev pub with_role : Draft → Role → Draft
with_role draft role = record draft { group = record draft.group { next = role }; said = said.Nothing }

-- a word comes among the elements of a group, or before the first
abbrev pub with_element : Scope → Draft → Word → Draft
with_element scope draft word.OpenBrace = with_brace draft
with_element scope draft word.CloseBrace = with_end_of_group draft draft.outer
with_element scope draft word.Union = with_role draft role.Union
with_element scope draft word.Optional = with_role draft role.Optional
with_element scope draft word.Filter = record draft { condition = Some blank_condition; said = said.Nothing }
with_element scope draft word.Dot = record draft { said = said.Nothing }
with_element scope draft word.Semicolon = record draft { said = same_subject draft.said }
with_element scope draft word.Star = record draft { all = true }
with_element scope draft word.A = with_part scope draft draft.said (Fixed word.A)
with_element scope draft other = draft

-- a token that is no word comes: behind SELECT, or among the elements of a group
abbrev pub with_value_token : Scope → Draft → List Inside → Token → Draft
with_value_token scope draft [] token = with_selected draft (as_variable scope token)
with_value_token scope draft (group ∷ outer) token = with_part scope draft draft.said token

-- a token comes outside of conditions
abbrev pub in_group : Scope → Draft → Token → Draft
in_group scope draft (Fixed word) = with_element scope draft word
in_group scope draft token = with_value_token scope draft draft.outer token

-- the condition that is open is one of the group's, where it is whole
abbrev pub with_closed_condition : Draft → Option Expr → Draft
with_closed_condition draft None = draft
with_closed_condition draft (Some e) =
    record draft { group = record draft.group { conditions = and_of draft.group.conditions (Some e) }; condition = None }

-- the condition that is open goes on, or it is whole and one of the group's
abbrev pub with_condition : Draft → Condition → Option Expr → Draft
with_condition draft condition whole = with_closed_condition (record draft { condition = Some condition }) whole

-- a token comes, perhaps in a condition
abbrev pub with_token_in : Option Condition → Scope → Draft → Token → Draft
with_token_in None scope draft token = in_group scope draft token
with_token_in (Some condition) scope draft token =
    let now = in_condition scope condition token in with_condition draft now (whole_at now.outer now.level.latest)

-- a token comes
abbrev pub with_token : Scope → Draft → Token → Draft
with_token scope draft token = with_token_in draft.condition scope draft token

-- before the first token
abbrev pub blank_draft : Draft
blank_draft = record { group = blank_group; outer = []; condition = None; said = said.Nothing; columns = []; all = false }

-- what tokens make of a draft
abbrev pub drafted : Scope → Draft → List Token → Draft
drafted scope draft [] = draft
drafted scope draft (token ∷ tokens) = drafted scope (with_token scope draft token) tokens

-- the query that a draft is, where its outermost group was read
abbrev pub query_in : List (List ℕ) → List Var → Option Algebra → Option Query
query_in names columns None = None
query_in names columns (Some pattern) = Some (record { names = names; columns = columns; pattern = pattern })

-- the query of tokens
abbrev pub query_of : List Token → Option Query
query_of tokens = let draft = drafted (scope_of tokens) blank_draft tokens in query_in (names_of tokens) draft.columns draft.group.alternatives

-- the tokens of a query make it, and it alone
abbrev pub QueriesAreDrafted : Type 0
QueriesAreDrafted = (distinct : Bool) (query : Query) (tokens : List Token) → IsQuery distinct query tokens → query_of tokens ≡ Some query
