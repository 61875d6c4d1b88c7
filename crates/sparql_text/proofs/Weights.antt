-- What a part of a query counts for.
use Rattle.std.proofs.Common.{ℕ, ◌+◌, ◌≤◌, length}
use Rattle.sparql_algebra.specs.Valid.{HasNamedTriple, HasNamedExpr, sign_count}
use Rattle.std.specs.List.{AllByRecursion}
use Rattle.sparql_text.specs.Groups.{Group, Groups}

-- how many operators, conditions and triple patterns
pub record Weight : Type 0 where
  pub operators : ℕ
  pub conditions : ℕ
  pub patterns : ℕ

-- none of them
abbrev pub nothing : Weight
nothing = record { operators = 0; conditions = 0; patterns = 0 }

-- so many operators
abbrev pub of_operators : ℕ → Weight
of_operators n = record { operators = n; conditions = 0; patterns = 0 }

-- so many conditions
abbrev pub of_conditions : ℕ → Weight
of_conditions n = record { operators = 0; conditions = n; patterns = 0 }

-- so many triple patterns
abbrev pub of_patterns : ℕ → Weight
of_patterns n = record { operators = 0; conditions = 0; patterns = n }

-- those of two parts
abbrev pub both : Weight → Weight → Weight
both a b = record { operators = a.operators + b.operators; conditions = a.conditions + b.conditions; patterns = a.patterns + b.patterns }

-- no more of any of them
pub record Fits (part whole : Weight) : Type 0 where
  pub operators : part.operators ≤ whole.operators
  pub conditions : part.conditions ≤ whole.conditions
  pub patterns : part.patterns ≤ whole.patterns

abbrev mutual
  -- what stands in a group counts for so much
  pub group_weight : Group → Weight
  group_weight Group.Empty = nothing
  group_weight (Group.Patterns patterns more) = both (of_patterns (length patterns)) (group_weight more)
  group_weight (Group.Alternatives groups more) = both (groups_weight groups) (group_weight more)
  group_weight (Group.Optional group more) = both (of_operators 1) (both (group_weight group) (group_weight more))
  group_weight (Group.Filter condition more) = both (of_conditions (1 + sign_count condition)) (group_weight more)

  -- and groups joined by UNION
  pub groups_weight : Groups → Weight
  groups_weight (Groups.Only group) = group_weight group
  groups_weight (Groups.Union groups group) = both (of_operators 1) (both (groups_weight groups) (group_weight group))

abbrev mutual
  -- each variable in a group has a name
  pub HasNamedGroup : ℕ → Group → Type 0
  HasNamedGroup names Group.Empty = Unit {0}
  HasNamedGroup names (Group.Patterns patterns more) = AllByRecursion (HasNamedTriple names) patterns × HasNamedGroup names more
  HasNamedGroup names (Group.Alternatives groups more) = HasNamedGroups names groups × HasNamedGroup names more
  HasNamedGroup names (Group.Optional group more) = HasNamedGroup names group × HasNamedGroup names more
  HasNamedGroup names (Group.Filter condition more) = HasNamedExpr names condition × HasNamedGroup names more

  -- and in groups joined by UNION
  pub HasNamedGroups : ℕ → Groups → Type 0
  HasNamedGroups names (Groups.Only group) = HasNamedGroup names group
  HasNamedGroups names (Groups.Union groups group) = HasNamedGroups names groups × HasNamedGroup names group
