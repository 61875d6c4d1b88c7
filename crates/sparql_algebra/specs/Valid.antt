-- Valid queries: each variable has a name, and no count passes its limit (limits of this broker).
-- A boxed pattern p is spelled `_ (more_of-Algebra p _)`, and a boxed condition e `_ (more_of-Expr e _)`.
use Rattle.std.specs.Prelude.{ℕ, ◌+◌, ◌<◌, ◌≤◌, length, Option, Some, None, ⊤}
use Rattle.std.specs.List.{AllByRecursion}
use Rattle.sparql_algebra.specs.declared.var.Var.{Var as Variable}
use Rattle.sparql_algebra.specs.declared.pattern.Place.{Place}
use Rattle.sparql_algebra.specs.declared.pattern.Place.TheVariants.{Var as VarAt, Is as TermAt}
use Rattle.sparql_algebra.specs.declared.pattern.PatternTriple.{PatternTriple}
use Rattle.sparql_algebra.specs.declared.expr.Operand.{Operand, more_of-Operand, Var, Is, Str'}
use Rattle.sparql_algebra.specs.declared.expr.Expr.{Expr, more_of-Expr, Or', And', Not', Value, Compare as Compares, Bound, IsIri, IsLiteral, SameTerm, Contains, StartsWith}
use Rattle.sparql_algebra.specs.declared.algebra.Algebra.{Algebra, more_of-Algebra, Bgp, Join', Union', LeftJoin', Filter'}
use Rattle.sparql_algebra.specs.declared.algebra.Query.{Query}

-- a variable has a name: its number is below that of the names
abbrev pub IsNamed : ℕ → Variable → Type 0
IsNamed names var = var.0 < names

-- the variable in a position, if it is one, has a name
abbrev pub HasNamedPlace : ℕ → Place → Type 0
HasNamedPlace names (VarAt var) = IsNamed names var
HasNamedPlace names (TermAt term) = ⊤

-- each variable of a triple pattern has a name
pub record HasNamedTriple (names : ℕ) (pattern : PatternTriple) : Type 0 where
  pub subject : HasNamedPlace names pattern.subject
  pub predicate : HasNamedPlace names pattern.predicate
  pub object : HasNamedPlace names pattern.object

-- the variable in an operand, if there is one, has a name
abbrev pub HasNamedOperand : ℕ → Operand → Type 0
HasNamedOperand names (Var var) = IsNamed names var
HasNamedOperand names (Is term) = ⊤
HasNamedOperand names (Str' _ (more_of-Operand operand _)) = HasNamedOperand names operand

-- each variable of a condition has a name
abbrev pub HasNamedExpr : ℕ → Expr → Type 0
HasNamedExpr names (Or' _ (more_of-Expr left _) _ (more_of-Expr right _)) = HasNamedExpr names left × HasNamedExpr names right
HasNamedExpr names (And' _ (more_of-Expr left _) _ (more_of-Expr right _)) = HasNamedExpr names left × HasNamedExpr names right
HasNamedExpr names (Not' _ (more_of-Expr inner _)) = HasNamedExpr names inner
HasNamedExpr names (Value operand) = HasNamedOperand names operand
HasNamedExpr names (Compares sign left right) = HasNamedOperand names left × HasNamedOperand names right
HasNamedExpr names (Bound var) = IsNamed names var
HasNamedExpr names (IsIri operand) = HasNamedOperand names operand
HasNamedExpr names (IsLiteral operand) = HasNamedOperand names operand
HasNamedExpr names (SameTerm left right) = HasNamedOperand names left × HasNamedOperand names right
HasNamedExpr names (Contains left right) = HasNamedOperand names left × HasNamedOperand names right
HasNamedExpr names (StartsWith left right) = HasNamedOperand names left × HasNamedOperand names right

-- each variable of a condition that there may be has a name
abbrev pub HasNamedCondition : ℕ → Option Expr → Type 0
HasNamedCondition names None = ⊤
HasNamedCondition names (Some condition) = HasNamedExpr names condition

-- each variable of a graph pattern has a name
abbrev pub HasNamedPattern : ℕ → Algebra → Type 0
HasNamedPattern names (Bgp patterns) = AllByRecursion (HasNamedTriple names) patterns
HasNamedPattern names (Join' _ (more_of-Algebra left _) _ (more_of-Algebra right _)) = HasNamedPattern names left × HasNamedPattern names right
HasNamedPattern names (Union' _ (more_of-Algebra left _) _ (more_of-Algebra right _)) = HasNamedPattern names left × HasNamedPattern names right
HasNamedPattern names (LeftJoin' _ (more_of-Algebra left _) _ (more_of-Algebra right _) condition) =
    HasNamedPattern names left × HasNamedPattern names right × HasNamedCondition names condition
HasNamedPattern names (Filter' condition _ (more_of-Algebra inner _)) = HasNamedExpr names condition × HasNamedPattern names inner

-- how many `&&` and `||` a condition has
abbrev pub sign_count : Expr → ℕ
sign_count (Or' _ (more_of-Expr left _) _ (more_of-Expr right _)) = 1 + sign_count left + sign_count right
sign_count (And' _ (more_of-Expr left _) _ (more_of-Expr right _)) = 1 + sign_count left + sign_count right
sign_count (Not' _ (more_of-Expr inner _)) = sign_count inner
sign_count (Value operand) = 0
sign_count (Compares sign left right) = 0
sign_count (Bound var) = 0
sign_count (IsIri operand) = 0
sign_count (IsLiteral operand) = 0
sign_count (SameTerm left right) = 0
sign_count (Contains left right) = 0
sign_count (StartsWith left right) = 0

-- the same for a condition that there may be
abbrev pub option_sign_count : Option Expr → ℕ
option_sign_count None = 0
option_sign_count (Some condition) = sign_count condition

-- how many triple patterns a graph pattern has
abbrev pub triple_count : Algebra → ℕ
triple_count (Bgp patterns) = length patterns
triple_count (Join' _ (more_of-Algebra left _) _ (more_of-Algebra right _)) = triple_count left + triple_count right
triple_count (Union' _ (more_of-Algebra left _) _ (more_of-Algebra right _)) = triple_count left + triple_count right
triple_count (LeftJoin' _ (more_of-Algebra left _) _ (more_of-Algebra right _) condition) = triple_count left + triple_count right
triple_count (Filter' condition _ (more_of-Algebra inner _)) = triple_count inner

-- how many Unions and LeftJoins a graph pattern has
abbrev pub operator_count : Algebra → ℕ
operator_count (Bgp patterns) = 0
operator_count (Join' _ (more_of-Algebra left _) _ (more_of-Algebra right _)) = operator_count left + operator_count right
operator_count (Union' _ (more_of-Algebra left _) _ (more_of-Algebra right _)) = 1 + operator_count left + operator_count right
operator_count (LeftJoin' _ (more_of-Algebra left _) _ (more_of-Algebra right _) condition) = 1 + operator_count left + operator_count right
operator_count (Filter' condition _ (more_of-Algebra inner _)) = operator_count inner

-- how many Filters a graph pattern has, and `&&` and `||` in all its conditions
abbrev pub condition_count : Algebra → ℕ
condition_count (Bgp patterns) = 0
condition_count (Join' _ (more_of-Algebra left _) _ (more_of-Algebra right _)) = condition_count left + condition_count right
condition_count (Union' _ (more_of-Algebra left _) _ (more_of-Algebra right _)) = condition_count left + condition_count right
condition_count (LeftJoin' _ (more_of-Algebra left _) _ (more_of-Algebra right _) condition) =
    option_sign_count condition + condition_count left + condition_count right
condition_count (Filter' condition _ (more_of-Algebra inner _)) = 1 + sign_count condition + condition_count inner

-- a query is valid: at most 16 variables, each with a name, 32 triple patterns, 16 Unions and LeftJoins, 256 Filters, `&&` and `||`
pub record IsValid (query : Query) : Type 0 where
  pub names : length query.names ≤ 16
  pub columns : AllByRecursion (IsNamed (length query.names)) query.columns
  pub variables : HasNamedPattern (length query.names) query.pattern
  pub triples : triple_count query.pattern ≤ 32
  pub operators : operator_count query.pattern ≤ 16
  pub conditions : condition_count query.pattern ≤ 256
