-- The columns of a query that a text says differ.
use Rattle.std.proofs.Common.{◌≡◌, ◌∙◌, ◌⊎◌, inl, inr, ℕ, ◌<◌, ◌≤◌, Bool, true, false, not, cond, List, [], ◌∷◌, length, filter, flat_map, map, get_or, slice_get, Option, Some, None, Ok, refl, sym, ap, subst, arith, true≢false}
use Rattle.std.specs.Prelude.{nat_eq, unwrap_or}
use Rattle.std.proofs.lemmas.Bool.{cases_lt, not-true}
use Rattle.std.proofs.lemmas.Option.{slice_get-get_or}
use Rattle.std.proofs.lemmas.Map.Keys.{IsDistinct-cons, IsDistinct-head, IsDistinct-tail, apart_from_distinct}
use Rattle.std.specs.List.{AllByRecursion, IsDistinct}
use Rattle.m3_terms.specs.Order.{text_eq}
use Rattle.m3_terms.specs.OrderLaws.{text_exact}
use Rattle.sparql_algebra.specs.declared.var.Var.{Var}
use Rattle.sparql_algebra.specs.declared.algebra.Query.{Query}
use Rattle.sparql_algebra.specs.Valid.{IsNamed}
use Rattle.sparql_text.specs.Faults.{Says, alone}
use Rattle.sparql_text.specs.Groups.{Group}
use Rattle.sparql_text.specs.Scope.{firsts, name_of}
use Rattle.sparql_text.specs.Translation.{columns_of}
use Rattle.sparql_read.specs.Reading.{reading_of}
use Rattle.sparql_read.proofs.QueriesMade.{queries_made}
use Rattle.sparql_read.proofs.ReadingsExact.{readings_exact}
use Rattle.sparql_read.proofs.TextsRead.{is_valid}

-- two variables have one number
abbrev pub same_var : Var → Var → Bool
same_var a b = nat_eq a.0 b.0

module _ {K : Type 0} (E : K → K → Bool) where
  nil_distinct : IsDistinct E []
  unfolding IsDistinct
  nil_distinct = tt

  -- what holds of each item holds of those that pass, and these differ where all do
  keeps_at : (P : K → Type 0) (b : Bool) (x : K) (xs : List K) → P x → AllByRecursion P xs → AllByRecursion P (cond b (x ∷ xs) xs)
  keeps_at P true x xs h k = (h, k)
  keeps_at P false x xs h k = k

  keeps : (P : K → Type 0) (test : K → Bool) (xs : List K) → AllByRecursion P xs → AllByRecursion P (filter test xs)
  keeps P test [] h = tt
  keeps P test (x ∷ xs) h = keeps_at P (test x) x (filter test xs) h.0 (keeps P test xs h.1)

  passing_at : (test : K → Bool) (b : Bool) (x : K) (xs : List K) → test x ≡ b → AllByRecursion (λ y. test y ≡ true) xs
      → AllByRecursion (λ y. test y ≡ true) (cond b (x ∷ xs) xs)
  passing_at test true x xs h k = (h, k)
  passing_at test false x xs h k = k

  passing : (test : K → Bool) (xs : List K) → AllByRecursion (λ y. test y ≡ true) (filter test xs)
  passing test [] = tt
  passing test (x ∷ xs) = passing_at test (test x) x (filter test xs) refl (passing test xs)

  kept_at : (b : Bool) (x : K) (xs : List K) → AllByRecursion (λ y. E x y ≡ false) xs → IsDistinct E xs → IsDistinct E (cond b (x ∷ xs) xs)
  kept_at true x xs h k = IsDistinct-cons E x xs h k
  kept_at false x xs h k = k

  kept_distinct : (test : K → Bool) (xs : List K) → IsDistinct E xs → IsDistinct E (filter test xs)
  kept_distinct test [] d = nil_distinct
  kept_distinct test (x ∷ xs) d =
      kept_at (test x) x (filter test xs) (keeps (λ y. E x y ≡ false) test xs (IsDistinct-head E x xs d)) (kept_distinct test xs (IsDistinct-tail E x xs d))

  -- none equals the first where all pass a test that no equal passes
  differing : (x : K) (xs : List K) → AllByRecursion (λ y. not (E x y) ≡ true) xs → AllByRecursion (λ y. E x y ≡ false) xs
  differing x [] h = tt
  differing x (y ∷ xs) h = (not-true (E x y) h.0, differing x xs h.1)

  -- each value once differs from the others
  pub firsts_distinct : (xs : List K) → IsDistinct E (firsts E xs)
  firsts_distinct [] = nil_distinct
  firsts_distinct (x ∷ xs) =
      IsDistinct-cons E x (filter (λ other. not (E x other)) (firsts E xs))
      (differing x (filter (λ other. not (E x other)) (firsts E xs)) (passing (λ other. not (E x other)) (firsts E xs)))
      (kept_distinct (λ other. not (E x other)) (firsts E xs) (firsts_distinct xs))

-- the columns have different numbers
columns_distinct : (columns : Option (List Var)) (group : Group) → IsDistinct same_var (columns_of columns group)
columns_distinct (Some vars) group = firsts_distinct same_var vars
columns_distinct None group = firsts_distinct same_var _

-- two texts differ both ways
back : (a b : List ℕ) → text_eq b a ≡ false → text_eq a b ≡ false
back a b h = go (text_eq a b) refl
  where
    go : (one : Bool) → text_eq a b ≡ one → text_eq a b ≡ false
    go true e = absurd (true≢false (sym ((text_exact b a).1 (sym ((text_exact a b).0 e))) ∙ h))
    go false e = e

-- different numbers have different names
module _ (names : List (List ℕ)) (once : IsDistinct text_eq names) where
  apart : (m n : ℕ) → m < length names → n < length names → nat_eq m n ≡ false → text_eq (get_or names m []) (get_or names n []) ≡ false
  apart m n h k other = by (cases_lt m n) (cases_lt n m)
    where
      by : (m < n) ⊎ (n ≤ m) → (n < m) ⊎ (m ≤ n) → text_eq (get_or names m []) (get_or names n []) ≡ false
      by (inl less) r = apart_from_distinct text_eq names m n [] once less k
      by (inr le) (inl more) = back (get_or names m []) (get_or names n []) (apart_from_distinct text_eq names n m [] once more h)
      by (inr le) (inr ge) = let e : m ≡ n = omega arith in absurd (true≢false (sym (itself n) ∙ (ap (λ k. nat_eq k n) (sym e) ∙ other)))
        where
          itself : (k : ℕ) → nat_eq k k ≡ true
          itself k = grind arith

  is_name : (var : Var) → IsNamed (length names) var → unwrap_or (slice_get names var.0) [] ≡ get_or names var.0 []
  is_name var h = ap (λ o. unwrap_or o []) (slice_get-get_or names var.0 [] h)

  others : (column : Var) (columns : List Var) → IsNamed (length names) column → AllByRecursion (IsNamed (length names)) columns
      → AllByRecursion (λ y. same_var column y ≡ false) columns
      → AllByRecursion (λ y. text_eq (unwrap_or (slice_get names column.0) []) y ≡ false) (map (λ var. unwrap_or (slice_get names var.0) []) columns)
  others column [] h k d = tt
  others column (y ∷ columns) h k d = (
    ap (λ x. text_eq x (unwrap_or (slice_get names y.0) [])) (is_name column h)
        ∙ (ap (λ x. text_eq (get_or names column.0 []) x) (is_name y k.0) ∙ apart column.0 y.0 h k.0 d.0),
    others column columns h k.1 d.1,
  )

  pub named_distinct : (columns : List Var) → AllByRecursion (IsNamed (length names)) columns → IsDistinct same_var columns
      → IsDistinct text_eq (map (λ var. unwrap_or (slice_get names var.0) []) columns)
  named_distinct [] h d = nil_distinct text_eq
  named_distinct (column ∷ columns) h d =
      IsDistinct-cons text_eq (unwrap_or (slice_get names column.0) []) (map (λ var. unwrap_or (slice_get names var.0) []) columns)
      (others column columns h.0 h.1 (IsDistinct-head same_var column columns d))
      (named_distinct columns h.1 (IsDistinct-tail same_var column columns d))

-- the names of the columns of a query that a text says differ
pub columns_differ : (text : List ℕ) (query : Query) → reading_of text ≡ Ok query
    → IsDistinct text_eq (map (λ var. unwrap_or (slice_get query.names var.0) []) query.columns)
columns_differ text query reading =
    let says : Says text query = ((readings_exact queries_made).says text query).1 reading in
    let is = says.reads.is in
    let names : IsDistinct text_eq query.names =
    subst (λ (q : Query). IsDistinct text_eq q.names) (sym is) (firsts_distinct text_eq (flat_map name_of (alone says.tokens))) in
    let columns : IsDistinct same_var query.columns =
    subst (λ (q : Query). IsDistinct same_var q.columns) (sym is) (columns_distinct says.reads.columns says.reads.group) in
    named_distinct query.names names query.columns (is_valid text query says).columns columns
