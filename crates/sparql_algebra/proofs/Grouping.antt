-- Rows in groups by what they bind the columns to: how a group grows, and that compatible rows are in one group.
use Rattle.std.proofs.Common.{◌≡◌, ◌∙◌, inl, inr, ℕ, ◌+◌, ◌<◌, Bool, true, false, cond, ◌&&◌, ◌||◌, List, [], ◌∷◌, ◌++◌, filter, length, take, get_or, Contains, nat_eq, Option, None, Some, refl, sym, ap, subst}
use Rattle.std.proofs.lemmas.Bool.{eqb-true}
use Rattle.std.proofs.lemmas.Option.{none-some}
use Rattle.std.proofs.lemmas.List.Elements.{Contains-push, Contains-push_cases, Contains-append_left}
use Rattle.std.proofs.lemmas.List.Kept.{IsStrictlySortedBy-filter}
use Rattle.std.specs.List.{list_any}
use Rattle.std.specs.Option.{IsSome, is_some, unwrap_or, option_map}
use Rattle.std.specs.Cmp.{first_so, second_so}
use Rattle.m3_terms.specs.InsertedLaws.{cons_cases, head_in, tail_in}
use Rattle.sparql_algebra.specs.declared.var.Var.{Var}
use Rattle.sparql_algebra.specs.declared.mapping.Binding.{Binding}
use Rattle.sparql_algebra.specs.Merged.{by_var, IsRising, lookup}
use Rattle.sparql_algebra.specs.Projected.{is_column, projected}
use Rattle.sparql_algebra.specs.Solutions.{solution_eq, bound}
use Rattle.sparql_algebra.specs.SolutionLaws.{solution_exact}
use Rattle.sparql_algebra.specs.TermSolutions.{id_var, IdCompatible}
use Rattle.sparql_algebra.specs.Near.{Grouping, group_at, HasJoined, IsWithout, AreGrouped, BindAll, all_bound, AreNear}
use Rattle.sparql_algebra.proofs.Gathered.{taken, none_in}
use Rattle.sparql_algebra.proofs.Lookups.{rising_exact}

-- ---- how a group grows

-- a group that was taken out and put back with a row more has been joined by it
joined_at : (same : Bool) (w : Option (List (List Binding))) (mid old : Option (List (List Binding))) → mid ≡ cond same None old → cond same w mid ≡ cond same w old
joined_at true w mid old e = refl
joined_at false w mid old e = e

pub put_back : (old mid new : Grouping) (key row : List Binding) (group : List (List Binding)) → IsWithout old key mid → group ≡ group_at old key ++ row ∷ []
    → ((other : List Binding) → new other ≡ cond (solution_eq key other) (Some group) (mid other)) → HasJoined old key row new
put_back old mid new key row group out grown back other =
    back other ∙ joined_at (solution_eq key other) (Some group) (mid other) (old other) (out other)
    ∙ ap (λ g. cond (solution_eq key other) (Some g) (old other)) grown

-- with no rows there are no groups
pub none_grouped : (columns : List Var) (groups : Grouping) → ((key : List Binding) → groups key ≡ None) → AreGrouped columns [] groups
none_grouped columns groups none = record {
  rising = λ row c. absurd (none_in row c);
  found = λ row c. absurd (none_in row c);
  only = λ key group row e c. absurd (none-some group (sym (none key) ∙ e));
}

module _ (columns : List Var) (rows : List (List Binding)) (i : ℕ) (x : List Binding) (h : i < length rows) (is : x ≡ get_or rows i x)
    (old new : Grouping) (key : List Binding) (own : key ≡ projected columns x) (step : HasJoined old key x new) (g : AreGrouped columns (take i rows) old) where
  -- the new row is in the group under its key
  last_found : (row : List Binding) → x ≡ row → (group : List (List Binding)) × (new (projected columns row) ≡ Some group) × Contains group row
  last_found row e =
      let here : solution_eq key (projected columns row) ≡ true = (solution_exact key (projected columns row)).1 (own ∙ ap (projected columns) e) in (
        group_at old key ++ x ∷ [],
        step (projected columns row) ∙ ap (λ b. cond b (Some (group_at old key ++ x ∷ [])) (old (projected columns row))) here,
        subst (Contains (group_at old key ++ x ∷ [])) e (Contains-push (group_at old key) x),
      )

  -- an old row is in the group under its key still
  old_found : (row : List Binding) (group : List (List Binding)) → old (projected columns row) ≡ Some group → Contains group row
      → (same : Bool) → solution_eq key (projected columns row) ≡ same
      → (group : List (List Binding)) × (new (projected columns row) ≡ Some group) × Contains group row
  old_found row group e c true s =
      let one : key ≡ projected columns row = (solution_exact key (projected columns row)).0 s in
      let there : group_at old key ≡ group = ap (λ k. group_at old k) one ∙ ap (λ o. unwrap_or o []) e in (
        group_at old key ++ x ∷ [],
        step (projected columns row) ∙ ap (λ b. cond b (Some (group_at old key ++ x ∷ [])) (old (projected columns row))) s,
        Contains-append_left (group_at old key) (x ∷ []) row (subst (λ l. Contains l row) (sym there) c),
      )
  old_found row group e c false s =
      (group, step (projected columns row) ∙ ap (λ b. cond b (Some (group_at old key ++ x ∷ [])) (old (projected columns row))) s ∙ e, c)

  -- what is in the old group under a key is an old row
  in_old : (row : List Binding) (o : Option (List (List Binding))) → old key ≡ o → Contains (unwrap_or o []) row → Contains (take i rows) row
  in_old row None e c = absurd (none_in row c)
  in_old row (Some group) e c = g.only key group row e c

  -- what is in a group is a row
  only_at : (other : List Binding) (group : List (List Binding)) (row : List Binding) (same : Bool)
      → cond same (Some (group_at old key ++ x ∷ [])) (old other) ≡ Some group → Contains group row → Contains (take (i + 1) rows) row
  only_at other group row true e c =
      let whole : group_at old key ++ x ∷ [] ≡ group = ap (λ o. unwrap_or o []) e in
      elim (Contains-push_cases (group_at old key) x row (subst (λ l. Contains l row) (sym whole) c)) [
        | inl k ↦ (taken rows i x h row).1 (inl (in_old row (old key) refl k))
        | inr f ↦ (taken rows i x h row).1 (inr (sym is ∙ f))
      ]
  only_at other group row false e c = (taken rows i x h row).1 (inl (g.only other group row e c))

  -- one row more is grouped
  pub grouped_more : IsRising id_var x → AreGrouped columns (take (i + 1) rows) new
  grouped_more r = record {
    rising = λ row c. elim ((taken rows i x h row).0 c) [ inl k ↦ g.rising row k | inr e ↦ subst (IsRising id_var) (is ∙ e) r ];
    found = λ row c. elim ((taken rows i x h row).0 c) [
      | inl k ↦ (let f = g.found row k in old_found row f.0 f.1 f.2 _ refl)
      | inr e ↦ last_found row (is ∙ e)
    ];
    only = λ other group row e c. only_at other group row (solution_eq key other) (sym (step other) ∙ e) c;
  }

-- ---- columns that every row binds

all_at : (row : List Binding) (rows : List (List Binding)) (var : Var) → all_bound rows var ≡ true → Contains rows row → IsSome (bound row var)
all_at row [] var h c = absurd (none_in row c)
all_at row (r ∷ rows) var h c = elim (cons_cases r rows row c) [
  | inl e ↦ subst (λ q. IsSome (bound q var)) e (first_so (is_some (bound r var)) (all_bound rows var) h)
  | inr k ↦ all_at row rows var (second_so (is_some (bound r var)) (all_bound rows var) h) k
]

pub none_bind : (rows : List (List Binding)) → BindAll [] rows
none_bind rows column c = absurd (none_in column c)

pub bind_more : (columns : List Var) (var : Var) (rows : List (List Binding)) → BindAll columns rows → all_bound rows var ≡ true → BindAll (columns ++ var ∷ []) rows
bind_more columns var rows b h column c row k = elim (Contains-push_cases columns var column c) [
  | inl o ↦ b column o row k
  | inr e ↦ subst (λ v. IsSome (bound row v)) e (all_at row rows var h k)
]

pub both_first : (a b : Bool) (both : Bool) → both ≡ (a && b) → both ≡ true → a ≡ true
both_first a b both e h = first_so a b (sym e ∙ h)

pub both_second : (a b : Bool) (both : Bool) → both ≡ (a && b) → both ≡ true → b ≡ true
both_second a b both e h = second_so a b (sym e ∙ h)

-- ---- compatible rows are in one group

-- a lookup in the bindings of columns: one step
kept_at : (columns : List Var) (b : Binding) (bs : List Binding) (v : ℕ) (kept own : Bool) → is_column columns b.var ≡ kept → nat_eq b.var.0 v ≡ own
    → lookup id_var (filter (λ x. is_column columns x.var) bs) v ≡ cond (is_column columns (record { 0 = v })) (lookup id_var bs v) None
    → lookup id_var (cond kept (b ∷ filter (λ x. is_column columns x.var) bs) (filter (λ x. is_column columns x.var) bs)) v
    ≡ cond (is_column columns (record { 0 = v })) (cond own (Some b) (lookup id_var bs v)) None
kept_at columns b bs v true true k o e =
    let here : is_column columns (record { 0 = v }) ≡ true = subst (λ n. is_column columns (record { 0 = n }) ≡ true) (eqb-true b.var.0 v o) k in
    rw (o, here) refl
kept_at columns b bs v true false k o e = rw o e
kept_at columns b bs v false true k o e =
    let here : is_column columns (record { 0 = v }) ≡ false = subst (λ n. is_column columns (record { 0 = n }) ≡ false) (eqb-true b.var.0 v o) k in
    e ∙ ap (λ c. cond c (lookup id_var bs v) None) here ∙ sym (ap (λ c. cond c (Some b) None) here)
kept_at columns b bs v false false k o e = e

none_either : (c : Bool) → ◌≡◌ {A = Option Binding} None (cond c None None)
none_either true = refl
none_either false = refl

-- a projection binds the columns as before, and nothing else
pub lookup_projected : (columns : List Var) (bs : List Binding) (v : ℕ)
    → lookup id_var (projected columns bs) v ≡ cond (is_column columns (record { 0 = v })) (lookup id_var bs v) None
lookup_projected columns [] v = none_either (is_column columns (record { 0 = v }))
lookup_projected columns (b ∷ bs) v = kept_at columns b bs v _ _ refl refl (lookup_projected columns bs v)

-- a variable that is a column is among the columns
column_at : (var first : Var) (rest : List Var) (same : Bool) → nat_eq first.0 var.0 ≡ same → (list_any (λ c. nat_eq c.0 var.0) rest ≡ true → Contains rest var)
    → (same || list_any (λ c. nat_eq c.0 var.0) rest) ≡ true → Contains (first ∷ rest) var
column_at var first rest true e next h = subst (Contains (first ∷ rest)) (λ i. record { 0 = eqb-true first.0 var.0 e i }) (head_in first rest)
column_at var first rest false e next h = tail_in first rest var (next h)

pub is_among : (columns : List Var) (var : Var) → is_column columns var ≡ true → Contains columns var
is_among [] var h = absurd (cc)
is_among (c ∷ columns) var h = column_at var c columns _ refl (is_among columns var) h

found_both : (o p : Option Binding) → IsSome (option_map (λ b. b.term) o) → IsSome (option_map (λ b. b.term) p) → ((b c : Binding) → o ≡ Some b → p ≡ Some c → b ≡ c) → o ≡ p
found_both None p h k e = absurd (cc)
found_both (Some b) None h k e = absurd (cc)
found_both (Some b) (Some c) h k e = ap Some (e b c refl refl)

same_at : (columns : List Var) (left right : List Binding) (v : ℕ) (c : Bool) → is_column columns (record { 0 = v }) ≡ c
    → ((column : Var) → Contains columns column → IsSome (bound left column)) → ((column : Var) → Contains columns column → IsSome (bound right column))
    → IdCompatible left right → cond c (lookup id_var left v) None ≡ cond c (lookup id_var right v) None
same_at columns left right v true e l r agree =
    let there = is_among columns (record { 0 = v }) e in
    found_both (lookup id_var left v) (lookup id_var right v) (l (record { 0 = v }) there) (r (record { 0 = v }) there) (agree v)
same_at columns left right v false e l r agree = refl

-- compatible rows that bind all columns have one projection to them
pub same_projection : (columns : List Var) (left right : List Binding) → IsRising id_var left → IsRising id_var right
    → ((column : Var) → Contains columns column → IsSome (bound left column)) → ((column : Var) → Contains columns column → IsSome (bound right column))
    → IdCompatible left right → projected columns left ≡ projected columns right
same_projection columns left right r s l m agree =
    rising_exact id_var _ _ (IsStrictlySortedBy-filter (by_var id_var) (λ b. is_column columns b.var) left r) (IsStrictlySortedBy-filter (by_var id_var) (λ b. is_column columns b.var) right s)
    (λ v. lookup_projected columns left v ∙ same_at columns left right v _ refl l m agree ∙ sym (lookup_projected columns right v))

near_only : (columns : List Var) (right : List (List Binding)) (groups : Grouping) (key : List Binding) → AreGrouped columns right groups
    → (o : Option (List (List Binding))) → groups key ≡ o → (row : List Binding) → Contains (unwrap_or o []) row → Contains right row
near_only columns right groups key g None e row c = absurd (none_in row c)
near_only columns right groups key g (Some group) e row c = g.only key group row e c

-- the group of a left row is near it
pub group_near : (columns : List Var) (lefts right : List (List Binding)) (groups : Grouping) (left : List Binding) → AreGrouped columns right groups → BindAll columns lefts
    → BindAll columns right → Contains lefts left → IsRising id_var left → AreNear right left (group_at groups (projected columns left))
group_near columns lefts right groups left g l r c s = record {
  only = near_only columns right groups (projected columns left) g (groups (projected columns left)) refl;
  all = λ row k agree.
      let f = g.found row k in
      let one = same_projection columns left row s (g.rising row k) (λ column m. l column m left c) (λ column m. r column m row k) agree in
      subst (λ o. Contains (unwrap_or o []) row) (sym (ap groups one ∙ f.1)) f.2;
}
