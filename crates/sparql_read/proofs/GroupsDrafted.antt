-- What the tokens of a group make of a draft: the group goes into the one around it, as its translation says.
use Rattle.std.proofs.Common.{◌≡◌, Bool, inl, inr, List, [], ◌∷◌, ◌++◌, Option, Some, None, refl, sym, ◌∙◌, ap}
use Rattle.std.specs.Prelude.{fold}
use Rattle.std.proofs.lemmas.List.{append-nil, append_assoc}
use Rattle.std.proofs.lemmas.List.Sums.{fold-append}
use Rattle.sparql_algebra.specs.declared.var.Var.{Var}
use Rattle.sparql_algebra.specs.declared.pattern.PatternTriple.{PatternTriple}
use Rattle.sparql_algebra.specs.declared.expr.Expr.{Expr}
use Rattle.sparql_algebra.specs.declared.expr.Expr.TheVariants as expr
use Rattle.sparql_algebra.specs.declared.algebra.Algebra.{Algebra}
use Rattle.sparql_algebra.specs.declared.algebra.Algebra.TheVariants.{Bgp, LeftJoin}
use Rattle.sparql_text.specs.declared.word.Word.TheVariants as word
use Rattle.sparql_text.specs.Tokens.{Token, Fixed}
use Rattle.sparql_text.specs.Front.{The, Perhaps}
use Rattle.sparql_text.specs.Scope.{Scope}
use Rattle.sparql_text.specs.Conditions.{ReadsFilter}
use Rattle.sparql_text.specs.Groups.{Group, Groups, ReadsGroup, ReadsContent, ReadsElements, ReadsAlts}
use Rattle.sparql_text.specs.Groups.ReadsGroup.{Braces}
use Rattle.sparql_text.specs.Groups.ReadsContent.{With, Without}
use Rattle.sparql_text.specs.Groups.ReadsElements.{NoMore, OfAlts, OfOptional, OfFilter}
use Rattle.sparql_text.specs.Groups.ReadsAlts.{OneGroup, OrGroup}
use Rattle.sparql_text.specs.Translation.{all_of, conditions_in, pattern_from, union_of, patterns_in, patterns_of}
use Rattle.sparql_read.specs.declared.draft.Role.TheVariants as role
use Rattle.sparql_read.specs.declared.draft.Inside.{Inside}
use Rattle.sparql_read.specs.declared.draft.Said.{Said}
use Rattle.sparql_read.specs.declared.draft.Said.TheVariants as said
use Rattle.sparql_read.specs.declared.draft.Draft.{Draft}
use Rattle.sparql_read.specs.Drafting.{and_of, blank_group, settled_by, settled, broken, with_group, around, drafted}
use Rattle.sparql_read.proofs.TriplesDrafted.{reading, with_pattern, with_variables, triples_drafted}

-- a FILTER makes its condition one of the group's
abbrev pub FiltersAreDrafted : Type 0
FiltersAreDrafted = (scope : Scope) (condition : Expr) (tokens rest : List Token) → ReadsFilter scope condition tokens rest → (draft : Draft)
    → drafted scope (record draft { condition = None }) tokens
    ≡ drafted scope (record draft { condition = None; said = said.Nothing; group = record draft.group { conditions = and_of draft.group.conditions (Some condition) } }) rest

-- a condition comes behind others
abbrev pub with_one : Option Expr → Expr → Option Expr
with_one given condition = and_of given (Some condition)

-- groups joined by UNION were read in a group
abbrev pub with_groups : Inside → Groups → Inside
with_groups group groups = record (broken group) { alternatives = Some (union_of groups); next = role.Element }

-- an optional group was read in a group
abbrev pub with_optional : Inside → Group → Inside
with_optional group value =
    let now = broken group in
    record now { before = LeftJoin now.before (pattern_from value (Bgp []) []) (all_of (conditions_in value)); next = role.Element }

-- what stands in a group makes this of it
abbrev pub with_content : Group → Inside → Inside
with_content Group.Empty group = group
with_content (Group.Patterns patterns more) group = with_content more (fold with_pattern group patterns)
with_content (Group.Alternatives groups more) group = with_content more (with_groups group groups)
with_content (Group.Optional value more) group = with_content more (with_optional group value)
with_content (Group.Filter condition more) group = with_content more (record group { conditions = with_one group.conditions condition })

-- what settling leaves as it was
next_settled : (a : Option Algebra) (group : Inside) → (settled_by a group).next ≡ group.next
next_settled None group = refl
next_settled (Some groups) group = refl

conditions_settled : (a : Option Algebra) (group : Inside) → (settled_by a group).conditions ≡ group.conditions
conditions_settled None group = refl
conditions_settled (Some groups) group = refl

-- no groups are left that UNION could follow
none_settled : (a : Option Algebra) (group : Inside) → (settled_by a (record group { alternatives = a })).alternatives ≡ None
none_settled None group = refl
none_settled (Some groups) group = refl

-- the next group is an element again behind triple patterns
next_patterns : (group : Inside) (patterns : List PatternTriple) → (fold with_pattern group patterns).next ≡ group.next
next_patterns group [] = refl
next_patterns group (triple ∷ patterns) = next_patterns (with_pattern group triple) patterns ∙ next_settled group.alternatives group

-- triple patterns are no conditions
conditions_patterns : (group : Inside) (patterns : List PatternTriple) → (fold with_pattern group patterns).conditions ≡ group.conditions
conditions_patterns group [] = refl
conditions_patterns group (triple ∷ patterns) = conditions_patterns (with_pattern group triple) patterns ∙ conditions_settled group.alternatives group

-- what stands in a group joins its conditions to those before, one by one
content_conditions : (value : Group) (group : Inside) → (with_content value group).conditions ≡ fold with_one group.conditions (conditions_in value)
content_conditions Group.Empty group = refl
content_conditions (Group.Patterns patterns more) group =
    content_conditions more (fold with_pattern group patterns) ∙ ap (λ c. fold with_one c (conditions_in more)) (conditions_patterns group patterns)
content_conditions (Group.Alternatives groups more) group =
    content_conditions more (with_groups group groups) ∙ ap (λ c. fold with_one c (conditions_in more)) (conditions_settled group.alternatives group)
content_conditions (Group.Optional value more) group =
    content_conditions more (with_optional group value) ∙ ap (λ c. fold with_one c (conditions_in more)) (conditions_settled group.alternatives group)
content_conditions (Group.Filter condition more) group = content_conditions more (record group { conditions = with_one group.conditions condition })

-- conditions that are joined one by one are joined from the left
some_joined : (first : Expr) (conditions : List Expr) → fold with_one (Some first) conditions ≡ Some (fold (λ a b. expr.And a b) first conditions)
some_joined first [] = refl
some_joined first (condition ∷ conditions) = some_joined (expr.And first condition) conditions

all_joined : (conditions : List Expr) → fold with_one None conditions ≡ all_of conditions
all_joined [] = refl
all_joined (condition ∷ conditions) = some_joined condition conditions

-- what the elements of a group make of a settled group
abbrev pattern_in : Group → Inside → Algebra
pattern_in value group = pattern_from value group.before group.run

-- a settled group stays as it is
settled_twice : (a : Option Algebra) (group : Inside) (run : List PatternTriple)
    → let now = settled_by a (record group { alternatives = a }) in settled (record now { run = run }) ≡ record now { run = run }
settled_twice None group run = refl
settled_twice (Some groups) group run = refl

-- triple patterns make a run longer
patterns_pattern : (more : Group) (group : Inside) (patterns : List PatternTriple)
    → pattern_in more (settled (fold with_pattern group patterns)) ≡ pattern_from more (settled group).before ((settled group).run ++ patterns)
patterns_pattern more group [] = ap (pattern_from more (settled group).before) (sym (append-nil (settled group).run))
patterns_pattern more group (triple ∷ patterns) =
    let now = settled group in
    patterns_pattern more (with_pattern group triple) patterns
    ∙ (ap (λ g. pattern_from more g.before (g.run ++ patterns)) (settled_twice group.alternatives group (now.run ++ triple ∷ []))
    ∙ ap (pattern_from more now.before) (append_assoc now.run (triple ∷ []) patterns))

-- conditions change no pattern
conditions_pattern : (more : Group) (a : Option Algebra) (group : Inside) (conditions : Option Expr)
    → pattern_in more (settled_by a (record group { conditions = conditions })) ≡ pattern_in more (settled_by a group)
conditions_pattern more None group conditions = refl
conditions_pattern more (Some groups) group conditions = refl

-- what stands in a group makes the pattern that its translation says
content_pattern : (value : Group) (group : Inside) → (broken (with_content value group)).before ≡ pattern_in value (settled group)
content_pattern Group.Empty group = refl
content_pattern (Group.Patterns patterns more) group = content_pattern more (fold with_pattern group patterns) ∙ patterns_pattern more group patterns
content_pattern (Group.Alternatives groups more) group = content_pattern more (with_groups group groups)
content_pattern (Group.Optional value more) group =
    content_pattern more (with_optional group value)
    ∙ ap (λ a. pattern_in more (settled_by a (with_optional group value))) (none_settled group.alternatives group)
content_pattern (Group.Filter condition more) group =
    let conditions = with_one group.conditions condition in
    content_pattern more (record group { conditions = conditions }) ∙ conditions_pattern more group.alternatives group conditions

-- a group was read in a group
abbrev pub grouped : Inside → Group → Inside
grouped group value =
    let now = around group group.next in
    with_group now now.next (pattern_from value (Bgp []) []) (all_of (conditions_in value))

-- behind OPTIONAL it is optional
optional_grouped : (a : Option Algebra) (group : Inside) (value : Group)
    → grouped (record group { alternatives = a; next = role.Optional }) value ≡ with_optional (record group { alternatives = a }) value
optional_grouped None group value = refl
optional_grouped (Some groups) group value = refl

-- as an element it is the first of groups that UNION may join
first_grouped : (a : Option Algebra) (group : Inside) (value : Group)
    → grouped (record group { alternatives = a; next = role.Element }) value ≡ with_groups (record group { alternatives = a }) (Groups.Only value)
first_grouped None group value = refl
first_grouped (Some groups) group value = refl

-- a `.` that may lack comes
dot_drafted : (scope : Scope) (group : Inside) (outer : List Inside) (columns : List Var) (all : Bool) (tokens rest : List Token) → Perhaps (The word.Dot) tokens rest
    → drafted scope (reading group outer said.Nothing columns all) tokens ≡ drafted scope (reading group outer said.Nothing columns all) rest
dot_drafted scope group outer columns all tokens rest (inl f) = ap (drafted scope (reading group outer said.Nothing columns all)) f
dot_drafted scope group outer columns all tokens rest (inr f) = ap (drafted scope (reading group outer said.Nothing columns all)) f

-- what stands in a group was read, behind which anything may be left of the last triple pattern
abbrev pub Contained : Scope → Inside → List Inside → Said → List Var → Bool → Group → List Token → List Token → Type 0
Contained scope group outer before columns all value tokens rest = (said : Said)
    × (drafted scope (reading group outer before columns all) tokens
    ≡ drafted scope (reading (with_content value group) outer said (fold (with_variables all) columns (patterns_in value)) all) rest)

-- the columns grow by the variables of some triple patterns and then of others
columns-append : (scope : Scope) (group : Inside) (outer : List Inside) (said : Said) (columns : List Var) (all : Bool) (first second : List PatternTriple) (rest : List Token)
    → drafted scope (reading group outer said (fold (with_variables all) (fold (with_variables all) columns first) second) all) rest
    ≡ drafted scope (reading group outer said (fold (with_variables all) columns (first ++ second)) all) rest
columns-append scope group outer said columns all first second rest =
    ap (λ c. drafted scope (reading group outer said c all) rest) (sym (fold-append (with_variables all) columns first second))

mutual
  -- a group comes
  pub group_drafted : FiltersAreDrafted → (scope : Scope) (value : Group) (tokens rest : List Token) → ReadsGroup scope value tokens rest
      → (group : Inside) (outer : List Inside) (before : Said) (columns : List Var) (all : Bool)
      → drafted scope (reading group outer before columns all) tokens
      ≡ drafted scope (reading (grouped group value) outer said.Nothing (fold (with_variables all) columns (patterns_in value)) all) rest
  group_drafted filters scope value tokens rest (Braces v t r read) group outer before columns all =
      let x = around group group.next in
      let now = with_content v blank_group in
      let grown = fold (with_variables all) columns (patterns_in v) in
      (content_drafted filters scope v t (Fixed word.CloseBrace ∷ r) read blank_group x outer columns all refl).1
      ∙ (ap (λ p. drafted scope (reading (with_group x x.next p now.conditions) outer said.Nothing grown all) r) (content_pattern v blank_group)
      ∙ ap (λ c. drafted scope (reading (with_group x x.next (pattern_from v (Bgp []) []) c) outer said.Nothing grown all) r)
      (content_conditions v blank_group ∙ all_joined (conditions_in v)))

  -- what stands in a group comes
  content_drafted : FiltersAreDrafted → (scope : Scope) (value : Group) (tokens rest : List Token) → ReadsContent scope value tokens rest
      → (group x : Inside) (outer : List Inside) (columns : List Var) (all : Bool) → group.next ≡ role.Element
      → Contained scope group (x ∷ outer) said.Nothing columns all value tokens rest
  content_drafted filters scope value tokens rest (With patterns v t middle r triples elements) group x outer columns all is =
      let a = triples_drafted scope x outer all patterns t middle triples group columns in
      let now = fold with_pattern group patterns in
      let b = elements_drafted filters scope v middle r elements now x outer a.0 (fold (with_variables all) columns patterns) all (next_patterns group patterns ∙ is) in
      (b.0, a.1 ∙ (b.1 ∙ columns-append scope (with_content v now) (x ∷ outer) b.0 columns all patterns (patterns_in v) r))
  content_drafted filters scope value tokens rest (Without v t r elements) group x outer columns all is =
      elements_drafted filters scope v t r elements group x outer said.Nothing columns all is

  -- elements of a group come
  elements_drafted : FiltersAreDrafted → (scope : Scope) (value : Group) (tokens rest : List Token) → ReadsElements scope value tokens rest
      → (group x : Inside) (outer : List Inside) (before : Said) (columns : List Var) (all : Bool) → group.next ≡ role.Element
      → Contained scope group (x ∷ outer) before columns all value tokens rest
  elements_drafted filters scope value tokens rest (NoMore t) group x outer before columns all is = (before, refl)
  elements_drafted filters scope value tokens rest (OfAlts groups v t middle next r alts dot content) group x outer before columns all is =
      let now = with_groups group groups in
      let grown = fold (with_variables all) columns (patterns_of groups) in
      let a = content_drafted filters scope v next r content now x outer grown all refl in (
        a.0,
        alts_drafted filters scope groups t middle alts group (x ∷ outer) before columns all is
            ∙ (dot_drafted scope now (x ∷ outer) grown all middle next dot
            ∙ (a.1 ∙ columns-append scope (with_content v now) (x ∷ outer) a.0 columns all (patterns_of groups) (patterns_in v) r)),
      )
  elements_drafted filters scope value tokens rest (OfOptional optional v t middle next r read dot content) group x outer before columns all is =
      let now = with_optional group optional in
      let grown = fold (with_variables all) columns (patterns_in optional) in
      let a = content_drafted filters scope v next r content now x outer grown all refl in (
        a.0,
        group_drafted filters scope optional t middle read (record group { next = role.Optional }) (x ∷ outer) said.Nothing columns all
            ∙ (ap (λ g. drafted scope (reading g (x ∷ outer) said.Nothing grown all) middle) (optional_grouped group.alternatives group optional)
            ∙ (dot_drafted scope now (x ∷ outer) grown all middle next dot
            ∙ (a.1 ∙ columns-append scope (with_content v now) (x ∷ outer) a.0 columns all (patterns_in optional) (patterns_in v) r))),
      )
  elements_drafted filters scope value tokens rest (OfFilter condition v t middle next r read dot content) group x outer before columns all is =
      let now : Inside = record group { conditions = with_one group.conditions condition } in
      let a = content_drafted filters scope v next r content now x outer columns all is in
      (a.0, filters scope condition t middle read (reading group (x ∷ outer) before columns all) ∙ (dot_drafted scope now (x ∷ outer) columns all middle next dot ∙ a.1))

  -- groups joined by UNION come
  alts_drafted : FiltersAreDrafted → (scope : Scope) (groups : Groups) (tokens rest : List Token) → ReadsAlts scope groups tokens rest
      → (group : Inside) (outer : List Inside) (before : Said) (columns : List Var) (all : Bool) → group.next ≡ role.Element
      → drafted scope (reading group outer before columns all) tokens
      ≡ drafted scope (reading (with_groups group groups) outer said.Nothing (fold (with_variables all) columns (patterns_of groups)) all) rest
  alts_drafted filters scope groups tokens rest (OneGroup v t r read) group outer before columns all is =
      let grown = fold (with_variables all) columns (patterns_in v) in
      group_drafted filters scope v t r read group outer before columns all
      ∙ ap (λ g. drafted scope (reading g outer said.Nothing grown all) r)
      (ap (λ n. grouped (record group { next = n }) v) is ∙ first_grouped group.alternatives group v)
  alts_drafted filters scope groups tokens rest (OrGroup gs v t middle r alts read) group outer before columns all is =
      let now : Inside = record (with_groups group gs) { next = role.Union } in
      let grown = fold (with_variables all) columns (patterns_of gs) in
      alts_drafted filters scope gs t (Fixed word.Union ∷ middle) alts group outer before columns all is
      ∙ (group_drafted filters scope v middle r read now outer said.Nothing grown all
      ∙ columns-append scope (grouped now v) outer said.Nothing columns all (patterns_of gs) (patterns_in v) r)
