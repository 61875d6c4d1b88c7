-- Basic graph patterns (SPARQL 1.1, section 18.3): which solutions one has over a graph.
use Rattle.std.specs.Prelude.{◌≡◌, ◌⊎◌, ◌↔◌, List, Contains, Some, IsSome}
use Rattle.std.specs.List.{AllByRecursion}
use Rattle.m3_terms.specs.declared.term.Term.{Term}
use Rattle.m3_terms.specs.declared.triple.Triple.{Triple}
use Rattle.sparql_algebra.specs.declared.var.Var.{Var as Variable}
use Rattle.sparql_algebra.specs.declared.pattern.Place.{Place}
use Rattle.sparql_algebra.specs.declared.pattern.Place.TheVariants.{Var, Is}
use Rattle.sparql_algebra.specs.declared.pattern.PatternTriple.{PatternTriple}
use Rattle.sparql_algebra.specs.TermSolutions.{Solution, IsOrdered, term_at}

-- a position is this variable
abbrev pub IsVariable : Place → Variable → Type 0
IsVariable (Var own) var = own ≡ var
IsVariable (Is term) var = ⊥

-- a triple pattern has this variable in some position
abbrev pub Mentions : PatternTriple → Variable → Type 0
Mentions pattern var = IsVariable pattern.subject var ⊎ IsVariable pattern.predicate var ⊎ IsVariable pattern.object var

-- a solution makes this term of a position: the variable is bound to it, or the position is the term itself
abbrev pub MakesTerm : Solution → Place → Term → Type 0
MakesTerm solution (Var var) term = term_at solution var ≡ Some term
MakesTerm solution (Is own) term = own ≡ term

-- a solution makes this triple of a triple pattern, position by position
pub record MakesTriple (solution : Solution) (pattern : PatternTriple) (triple : Triple) : Type 0 where
  pub subject : MakesTerm solution pattern.subject triple.subject
  pub predicate : MakesTerm solution pattern.predicate triple.predicate
  pub object : MakesTerm solution pattern.object triple.object

-- a solution makes some triple of the graph of a triple pattern
abbrev pub Meets : List Triple → Solution → PatternTriple → Type 0
Meets graph solution pattern = (triple : Triple) × Contains graph triple × MakesTriple solution pattern triple

-- a solution of a basic graph pattern binds exactly its variables, and makes each of its patterns a triple of the graph
pub record IsBgpSolution (patterns : List PatternTriple) (graph : List Triple) (solution : Solution) : Type 0 where
  pub ordered : IsOrdered solution
  pub exactly : (var : Variable) → IsSome (term_at solution var) ↔ ((pattern : PatternTriple) × Contains patterns pattern × Mentions pattern var)
  pub triples : AllByRecursion (Meets graph solution) patterns
