-- The algebra of a group counts for no more than the group.
use Rattle.std.proofs.Common.{ℕ, ◌≡◌, ◌+◌, ◌≤◌, Bool, true, false, cond, List, [], ◌∷◌, ◌++◌, length, refl, Option, Some, None, arith}
use Rattle.std.specs.Prelude.{fold}
use Rattle.std.proofs.lemmas.List.{length-append}
use Rattle.sparql_algebra.specs.declared.pattern.PatternTriple.{PatternTriple}
use Rattle.sparql_algebra.specs.declared.expr.Expr.{Expr}
use Rattle.sparql_algebra.specs.declared.expr.Expr.TheVariants as expr
use Rattle.sparql_algebra.specs.declared.algebra.Algebra.{Algebra, Bgp, Join', Union', LeftJoin', Filter'}
use Rattle.sparql_algebra.specs.declared.algebra.Algebra.TheVariants.{Join, LeftJoin}
use Rattle.sparql_algebra.specs.Valid.{sign_count, option_sign_count, triple_count, operator_count, condition_count}
use Rattle.sparql_text.specs.Groups.{Group, Groups}
use Rattle.sparql_algebra.specs.declared.algebra.Algebra.TheBlock.{hidden-the_row-Algebra-0}
use Rattle.sparql_algebra.specs.declared.expr.Expr.TheBlock.{hidden-the_row-Expr-0}
use denote.Hole.Carrier.{hidden}
use Rattle.sparql_text.specs.Translation.{is_empty_bgp, join, conditions_in, all_of, filtered, pattern_from, union_of, algebra_of}
use Rattle.sparql_text.proofs.Weights.{Weight, of_conditions, of_patterns, both, Fits, group_weight, groups_weight}

-- what an algebra counts for
abbrev pub algebra_weight : Algebra → Weight
algebra_weight pattern = record { operators = operator_count pattern; conditions = condition_count pattern; patterns = triple_count pattern }

-- the only empty BGP is that without triple patterns
empty_is : (a : Algebra) → is_empty_bgp a ≡ true → a ≡ Bgp []
empty_is (Bgp []) e = refl
empty_is (Bgp (pattern ∷ patterns)) e = absurd cc
empty_is (Join' a b c d) e = absurd cc
empty_is (Union' a b c d) e = absurd cc
empty_is (LeftJoin' a b c d f) e = absurd cc
empty_is (Filter' a b c) e = absurd cc

-- a count of a Join that is the sum of its sides'
join_counts : (count : Algebra → ℕ) → count (Bgp []) ≡ 0 → ((a b : Algebra) → count (Join a b) ≡ count a + count b) → (a b : Algebra)
    → count (join a b) ≡ count a + count b
join_counts count zero sum a b = go (is_empty_bgp a) refl (is_empty_bgp b) refl
  where
    go : (x : Bool) → is_empty_bgp a ≡ x → (y : Bool) → is_empty_bgp b ≡ y → count (cond x b (cond y a (Join a b))) ≡ count a + count b
    go true e y f = rw (empty_is a e) (omega (arith, zero))
    go false e true f = rw (empty_is b f) (omega (arith, zero))
    go false e false f = sum a b

join_operators : (a b : Algebra) → operator_count (join a b) ≡ operator_count a + operator_count b
unfolding hidden-the_row-Algebra-0 hidden
join_operators = join_counts operator_count refl (λ a b. refl)

join_conditions : (a b : Algebra) → condition_count (join a b) ≡ condition_count a + condition_count b
unfolding hidden-the_row-Algebra-0 hidden
join_conditions = join_counts condition_count refl (λ a b. refl)

join_triples : (a b : Algebra) → triple_count (join a b) ≡ triple_count a + triple_count b
unfolding hidden-the_row-Algebra-0 hidden
join_triples = join_counts triple_count refl (λ a b. refl)

-- what conditions count for, each as a Filter of its own
total : List Expr → ℕ
total [] = 0
total (condition ∷ conditions) = 1 + sign_count condition + total conditions

-- joined by `&&` they count for no more
joined_signs : (conditions : List Expr) (first : Expr) → sign_count (fold (λ a b. expr.And a b) first conditions) ≡ sign_count first + total conditions
unfolding total hidden-the_row-Algebra-0 hidden-the_row-Expr-0 hidden
joined_signs [] first = omega arith
joined_signs (condition ∷ conditions) first =
    let more = joined_signs conditions (expr.And first condition) in omega (arith, more)

all_signs : (conditions : List Expr) → option_sign_count (all_of conditions) ≤ total conditions
unfolding total hidden-the_row-Algebra-0 hidden-the_row-Expr-0 hidden
all_signs [] = omega arith
all_signs (condition ∷ conditions) = let e = joined_signs conditions condition in omega (arith, e)

filtered_conditions : (conditions : List Expr) (pattern : Algebra) → condition_count (filtered (all_of conditions) pattern) ≡ total conditions + condition_count pattern
unfolding total hidden-the_row-Algebra-0 hidden-the_row-Expr-0 hidden
filtered_conditions [] pattern = omega arith
filtered_conditions (condition ∷ conditions) pattern = let e = joined_signs conditions condition in omega (arith, e)

filtered_operators : (condition : Option Expr) (pattern : Algebra) → operator_count (filtered condition pattern) ≡ operator_count pattern
unfolding hidden-the_row-Algebra-0 hidden
filtered_operators None pattern = refl
filtered_operators (Some condition) pattern = refl

filtered_triples : (condition : Option Expr) (pattern : Algebra) → triple_count (filtered condition pattern) ≡ triple_count pattern
unfolding hidden-the_row-Algebra-0 hidden
filtered_triples None pattern = refl
filtered_triples (Some condition) pattern = refl

-- the same of a group's algebra with its FILTERs, from that without them
abbrev Weighs : Group → Algebra → List PatternTriple → Type 0
Weighs group before run =
    Fits (both (algebra_weight (pattern_from group before run)) (of_conditions (total (conditions_in group))))
    (both (both (algebra_weight before) (of_patterns (length run))) (group_weight group))

whole_weighs : (group : Group) → Weighs group (Bgp []) [] → Fits (algebra_weight (algebra_of group)) (group_weight group)
whole_weighs group w =
    let inner = pattern_from group (Bgp []) [] in
    let o = filtered_operators (all_of (conditions_in group)) inner in
    let c = filtered_conditions (conditions_in group) inner in
    let t = filtered_triples (all_of (conditions_in group)) inner in
    record { operators = omega (arith, w.operators, o); conditions = omega (arith, w.conditions, c); patterns = omega (arith, w.patterns, t) }

mutual
  unfolding total hidden-the_row-Algebra-0 hidden

  -- the elements of a group
  pattern_weighs : (group : Group) (before : Algebra) (run : List PatternTriple) → Weighs group before run
  pattern_weighs Group.Empty before run =
      let o = join_operators before (Bgp run) in
      let c = join_conditions before (Bgp run) in
      let t = join_triples before (Bgp run) in
      record { operators = omega (arith, o); conditions = omega (arith, c); patterns = omega (arith, t) }
  pattern_weighs (Group.Patterns patterns more) before run =
      let w = pattern_weighs more before (run ++ patterns) in
      let len = length-append run patterns in
      record { operators = omega (arith, w.operators); conditions = omega (arith, w.conditions); patterns = omega (arith, w.patterns, len) }
  pattern_weighs (Group.Alternatives groups more) before run =
      let one = join before (Bgp run) in
      let w = pattern_weighs more (join one (union_of groups)) [] in
      let u = groups_weigh groups in
      let o = join_operators before (Bgp run) in
      let c = join_conditions before (Bgp run) in
      let t = join_triples before (Bgp run) in
      let oo = join_operators one (union_of groups) in
      let cc' = join_conditions one (union_of groups) in
      let tt' = join_triples one (union_of groups) in
      record {
        operators = omega (arith, w.operators, u.operators, o, oo);
        conditions = omega (arith, w.conditions, u.conditions, c, cc');
        patterns = omega (arith, w.patterns, u.patterns, t, tt');
      }
  pattern_weighs (Group.Optional group more) before run =
      let one = join before (Bgp run) in
      let w = pattern_weighs more (LeftJoin one (pattern_from group (Bgp []) []) (all_of (conditions_in group))) [] in
      let u = pattern_weighs group (Bgp []) [] in
      let o = join_operators before (Bgp run) in
      let c = join_conditions before (Bgp run) in
      let t = join_triples before (Bgp run) in
      let signs = all_signs (conditions_in group) in
      record {
        operators = omega (arith, w.operators, u.operators, o);
        conditions = omega (arith, w.conditions, u.conditions, c, signs);
        patterns = omega (arith, w.patterns, u.patterns, t);
      }
  pattern_weighs (Group.Filter condition more) before run =
      let w = pattern_weighs more before run in
      record { operators = omega (arith, w.operators); conditions = omega (arith, w.conditions); patterns = omega (arith, w.patterns) }

  -- and groups joined by UNION
  groups_weigh : (groups : Groups) → Fits (algebra_weight (union_of groups)) (groups_weight groups)
  groups_weigh (Groups.Only group) = whole_weighs group (pattern_weighs group (Bgp []) [])
  groups_weigh (Groups.Union groups group) =
      let a = groups_weigh groups in
      let b = whole_weighs group (pattern_weighs group (Bgp []) []) in
      record { operators = omega (arith, a.operators, b.operators); conditions = omega (arith, a.conditions, b.conditions); patterns = omega (arith, a.patterns, b.patterns) }

-- the algebra of a group counts for no more than the group
pub algebra_weighs : (group : Group) → Fits (algebra_weight (algebra_of group)) (group_weight group)
algebra_weighs group = whole_weighs group (pattern_weighs group (Bgp []) [])
