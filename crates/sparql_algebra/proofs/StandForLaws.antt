-- Rows that operators give stand for what the operators of SPARQL give, where no two numbers of the table have one term.
use Rattle.std.proofs.Common.{◌≡◌, ◌∙◌, ◌⊎◌, inl, inr, ℕ, Bool, true, false, cond, List, [], ◌∷◌, ◌++◌, filter, Contains, Option, refl, sym, ap, subst}
use Rattle.std.specs.List.{AllByRecursion}
use Rattle.std.specs.Option.{IsSome}
use Rattle.std.specs.Ordering.{is_lt, is_gt}
use Rattle.m3_terms.specs.Inserted.{inserted}
use Rattle.m3_terms.specs.TermTable.{NamesOnce}
use Rattle.m3_terms.specs.declared.term.Term.{Term}
use Rattle.sparql_algebra.specs.declared.expr.Expr.{Expr}
use Rattle.sparql_algebra.specs.declared.expr.Truth.TheVariants.{True}
use Rattle.sparql_algebra.specs.declared.mapping.Binding.{Binding}
use Rattle.sparql_algebra.specs.Evaluation.{Passes}
use Rattle.sparql_algebra.specs.Merged.{by_var, IsRising, IsJoined, IsAlone, IsLeftJoined}
use Rattle.sparql_algebra.specs.RowSets.{AreExactly, IsOfEither, IsFiltered, RowPasses}
use Rattle.sparql_algebra.specs.StandFor.{StandFor}
use Rattle.sparql_algebra.specs.TermSolutions.{Solution, id_var, term_var, HasTerms, solution_in, IdCompatible, Compatible, id_merge, merge}
use Rattle.sparql_algebra.specs.Truth.{truth}
use Rattle.sparql_algebra.proofs.Lookups.{rising_merged}
use Rattle.sparql_algebra.proofs.Naming.{compatible_named, named_compatible, merge_named}

-- ---- what holds of each binding of two solutions holds of each of their merge

module _ (P : Binding → Type 0) where
  kept_at : (b : Binding) (bs : List Binding) (kept : Bool) → P b → AllByRecursion P bs → AllByRecursion P (cond kept (b ∷ bs) bs)
  kept_at b bs true h a = (h, a)
  kept_at b bs false h a = a

  all_kept : (test : Binding → Bool) (bs : List Binding) → AllByRecursion P bs → AllByRecursion P (filter test bs)
  all_kept test [] a = tt
  all_kept test (b ∷ bs) a = kept_at b (filter test bs) (test b) a.0 (all_kept test bs a.1)

  all_both : (xs ys : List Binding) → AllByRecursion P xs → AllByRecursion P ys → AllByRecursion P (xs ++ ys)
  all_both [] ys a b = b
  all_both (x ∷ xs) ys a b = (a.0, all_both xs ys a.1 b)

  all_inserted : (b : Binding) (bs : List Binding) → P b → AllByRecursion P bs → AllByRecursion P (inserted (by_var id_var) b bs)
  all_inserted b bs h a = all_both (filter (λ y. is_lt (by_var id_var y b)) bs) (b ∷ filter (λ y. is_gt (by_var id_var y b)) bs)
      (all_kept (λ y. is_lt (by_var id_var y b)) bs a) (h, all_kept (λ y. is_gt (by_var id_var y b)) bs a)

  all_merged : (left right : List Binding) → AllByRecursion P left → AllByRecursion P right → AllByRecursion P (id_merge left right)
  all_merged [] right a b = b
  all_merged (x ∷ left) right a b = all_merged left (inserted (by_var id_var) x right) a.1 (all_inserted x right a.0 b)

-- ---- the operators

module _ (terms : ℕ → Option Term) where
  -- the rows of either list stand for the solutions of either side
  pub union_stands : (L R : Solution → Type 0) (left right rows : List (List Binding)) → StandFor terms left L → StandFor terms right R
      → AreExactly (IsOfEither left right) rows → StandFor terms rows (λ s. L s ⊎ R s)
  union_stands L R left right rows l r p = record {
    rising = λ row c. elim ((p row).0 c) [ inl k ↦ l.rising row k | inr k ↦ r.rising row k ];
    named = λ row c. elim ((p row).0 c) [ inl k ↦ l.named row k | inr k ↦ r.named row k ];
    sound = λ row c. elim ((p row).0 c) [ inl k ↦ inl (l.sound row k) | inr k ↦ inr (r.sound row k) ];
    whole = λ s h. elim h [
      | inl k ↦ (let w = l.whole s k in (w.0, (p w.0).1 (inl w.1), w.2))
      | inr k ↦ (let w = r.whole s k in (w.0, (p w.0).1 (inr w.1), w.2))
    ];
  }

  -- the rows on which a condition is true stand for the solutions on which it is
  pub filter_stands : (H : Solution → Type 0) (condition : Expr) (rows kept : List (List Binding)) → StandFor terms rows H
      → AreExactly (IsFiltered terms condition (Contains rows)) kept → StandFor terms kept (λ s. H s × (truth condition s ≡ True))
  filter_stands H condition rows kept r p = record {
    rising = λ row c. r.rising row ((p row).0 c).0;
    named = λ row c. r.named row ((p row).0 c).0;
    sound = λ row c. (r.sound row ((p row).0 c).0, ((p row).0 c).1);
    whole = λ s h. (let w = r.whole s h.0 in (w.0, (p w.0).1 (w.1, subst (λ x. truth condition x ≡ True) w.2 h.1), w.2));
  }

  module _ (once : NamesOnce terms) (L R : Solution → Type 0) (left right : List (List Binding)) (l : StandFor terms left L) (r : StandFor terms right R) where
    -- a merge by numbers stands for the merge
    merge_over : (a b : List Binding) → Contains left a → Contains right b → solution_in terms (id_merge a b) ≡ merge (solution_in terms a) (solution_in terms b)
    merge_over a b c d = merge_named terms a b (l.rising a c) (r.rising b d) (l.named a c)

    -- rows for compatible solutions are compatible
    agree_over : (a b : List Binding) → Contains left a → Contains right b → Compatible (solution_in terms a) (solution_in terms b) → IdCompatible a b
    agree_over a b c d e = named_compatible terms once a b (l.rising a c) (r.rising b d) (l.named a c) (r.named b d) e

    joined_rising : (row : List Binding) → IsJoined id_var (Contains left) (Contains right) row → IsRising id_var row
    joined_rising row j = subst (IsRising id_var) (sym j.merges) (rising_merged id_var j.left j.right (r.rising j.right j.in_right))

    joined_named : (row : List Binding) → IsJoined id_var (Contains left) (Contains right) row → HasTerms terms row
    joined_named row j = subst (HasTerms terms) (sym j.merges)
        (all_merged (λ b. IsSome (terms b.term.0)) j.left j.right (l.named j.left j.in_left) (r.named j.right j.in_right))

    joined_sound : (row : List Binding) → IsJoined id_var (Contains left) (Contains right) row → IsJoined term_var L R (solution_in terms row)
    joined_sound row j = record {
      left = solution_in terms j.left;
      right = solution_in terms j.right;
      in_left = l.sound j.left j.in_left;
      in_right = r.sound j.right j.in_right;
      compatible = compatible_named terms j.left j.right (l.rising j.left j.in_left) (r.rising j.right j.in_right) j.compatible;
      merges = ap (solution_in terms) j.merges ∙ merge_over j.left j.right j.in_left j.in_right;
    }

    joined_whole : (s : Solution) → IsJoined term_var L R s → (row : List Binding) × IsJoined id_var (Contains left) (Contains right) row × (s ≡ solution_in terms row)
    joined_whole s j =
        let a = l.whole j.left j.in_left in
        let b = r.whole j.right j.in_right in
        let agree : Compatible (solution_in terms a.0) (solution_in terms b.0) =
        subst (λ x. Compatible (solution_in terms a.0) x) b.2 (subst (λ x. Compatible x j.right) a.2 j.compatible) in (
          id_merge a.0 b.0,
          record { left = a.0; right = b.0; in_left = a.1; in_right = b.1; compatible = agree_over a.0 b.0 a.1 b.1 agree; merges = refl },
          j.merges ∙ ap (λ x. merge x j.right) a.2 ∙ ap (merge (solution_in terms a.0)) b.2 ∙ sym (merge_over a.0 b.0 a.1 b.1),
        )

    -- the merges of compatible rows stand for the merges of compatible solutions
    pub join_stands : (rows : List (List Binding)) → AreExactly (IsJoined id_var (Contains left) (Contains right)) rows → StandFor terms rows (IsJoined term_var L R)
    join_stands rows p = record {
      rising = λ row c. joined_rising row ((p row).0 c);
      named = λ row c. joined_named row ((p row).0 c);
      sound = λ row c. joined_sound row ((p row).0 c);
      whole = λ s j. (let w = joined_whole s j in (w.0, (p w.0).1 w.1, w.2));
    }

    -- a left row is alone exactly where its solution is
    alone_sound : (condition : Option Expr) (row : List Binding) → Contains left row → IsAlone id_var (Contains right) (RowPasses terms condition) row
        → IsAlone term_var R (Passes condition) (solution_in terms row)
    alone_sound condition row c alone other is agree pass =
        let b = r.whole other is in
        let with_b : Compatible (solution_in terms row) (solution_in terms b.0) = subst (Compatible (solution_in terms row)) b.2 agree in
        let passes : Passes condition (merge (solution_in terms row) (solution_in terms b.0)) = subst (λ x. Passes condition (merge (solution_in terms row) x)) b.2 pass in
        alone b.0 b.1 (agree_over row b.0 c b.1 with_b) (subst (Passes condition) (sym (merge_over row b.0 c b.1)) passes)

    alone_whole : (condition : Option Expr) (row : List Binding) → Contains left row → IsAlone term_var R (Passes condition) (solution_in terms row)
        → IsAlone id_var (Contains right) (RowPasses terms condition) row
    alone_whole condition row c alone other is agree pass =
        alone (solution_in terms other) (r.sound other is) (compatible_named terms row other (l.rising row c) (r.rising other is) agree)
        (subst (Passes condition) (merge_over row other c is) pass)

    left_sound : (condition : Option Expr) (row : List Binding) → IsLeftJoined id_var (Contains left) (Contains right) (RowPasses terms condition) row
        → IsLeftJoined term_var L R (Passes condition) (solution_in terms row)
    left_sound condition row (inl j) = inl (joined_sound row j.0, j.1)
    left_sound condition row (inr a) = inr (l.sound row a.0, alone_sound condition row a.0 a.1)

    left_whole : (condition : Option Expr) (s : Solution) → IsLeftJoined term_var L R (Passes condition) s
        → (row : List Binding) × IsLeftJoined id_var (Contains left) (Contains right) (RowPasses terms condition) row × (s ≡ solution_in terms row)
    left_whole condition s (inl j) =
        let w = joined_whole s j.0 in (w.0, inl (w.1, subst (Passes condition) w.2 j.1), w.2)
    left_whole condition s (inr a) =
        let w = l.whole s a.0 in (w.0, inr (w.1, alone_whole condition w.0 w.1 (subst (IsAlone term_var R (Passes condition)) w.2 a.1)), w.2)

    left_rising : (condition : Option Expr) (row : List Binding) → IsLeftJoined id_var (Contains left) (Contains right) (RowPasses terms condition) row → IsRising id_var row
    left_rising condition row (inl j) = joined_rising row j.0
    left_rising condition row (inr a) = l.rising row a.0

    left_named : (condition : Option Expr) (row : List Binding) → IsLeftJoined id_var (Contains left) (Contains right) (RowPasses terms condition) row → HasTerms terms row
    left_named condition row (inl j) = joined_named row j.0
    left_named condition row (inr a) = l.named row a.0

    -- the rows of a left join stand for its solutions
    pub left_join_stands : (condition : Option Expr) (rows : List (List Binding)) → AreExactly (IsLeftJoined id_var (Contains left) (Contains right) (RowPasses terms condition)) rows
        → StandFor terms rows (IsLeftJoined term_var L R (Passes condition))
    left_join_stands condition rows p = record {
      rising = λ row c. left_rising condition row ((p row).0 c);
      named = λ row c. left_named condition row ((p row).0 c);
      sound = λ row c. left_sound condition row ((p row).0 c);
      whole = λ s j. (let w = left_whole condition s j in (w.0, (p w.0).1 w.1, w.2));
    }
