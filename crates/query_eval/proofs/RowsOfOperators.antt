-- What an operator makes of rows that stand for the solutions of its sides stands for its own solutions.
use Rattle.std.proofs.Common.{◌≡◌, ◌∙◌, ◌⊎◌, inl, inr, ℕ, List, [], ◌∷◌, ◌++◌, filter, Contains, Option, refl, sym, ap, subst}
use Rattle.std.proofs.lemmas.List.Elements.{Contains-append_cases}
use Rattle.std.specs.Option.{IsSome}
use Rattle.std.specs.Ordering.{is_lt, is_gt}
use Rattle.m3_terms.specs.Inserted.{inserted}
use Rattle.m3_terms.specs.InsertedLaws.{cons_cases, was_there}
use Rattle.m3_terms.specs.TermTable.{NamesOnce}
use Rattle.m3_terms.specs.declared.term.Term.{Term}
use Rattle.sparql_algebra.specs.declared.expr.Expr.{Expr}
use Rattle.sparql_algebra.specs.declared.expr.Truth.TheVariants.{True}
use Rattle.sparql_algebra.specs.declared.mapping.Binding.{Binding}
use Rattle.sparql_algebra.specs.Evaluation.{Passes}
use Rattle.sparql_algebra.specs.Merged.{by_var, IsRising, IsJoined, IsLeftJoined, IsAlone}
use Rattle.sparql_algebra.specs.RowSets.{IsOfEither, IsFiltered, RowPasses}
use Rattle.sparql_algebra.specs.Solutions.{AreRising}
use Rattle.sparql_algebra.specs.TermSolutions.{Solution, term_var, id_var, solution_in, HasTerms, IdCompatible, Compatible, id_merge, merge}
use Rattle.sparql_algebra.specs.Truth.{truth}
use Rattle.sparql_algebra.proofs.ListMembers.{all_in, in_all_of}
use Rattle.sparql_algebra.proofs.Naming.{compatible_named, named_compatible, merge_named}
use Rattle.pattern_join.specs.Bgp.{StandsFor, AreSolutions}

-- the rows that have a property stand for the solutions that have one: each row stands for one, and some row for each
pub record AreNames (terms : ℕ → Option Term) (Rows : List Binding → Type 0) (Holds : Solution → Type 0) : Type 0 where
  pub each : (row : List Binding) → Rows row → StandsFor terms Holds row
  pub all : (solution : Solution) → Holds solution → (row : List Binding) × Rows row × (solution_in terms row ≡ solution)

module _ (terms : ℕ → Option Term) where
  inserted_has_term : (b : Binding) (bs : List Binding) → IsSome (terms b.term.0) → HasTerms terms bs → HasTerms terms (inserted (by_var id_var) b bs)
  inserted_has_term b bs h has =
      let cmp = by_var id_var in
      let low = filter (λ k. is_lt (cmp k b)) bs in
      let high = filter (λ k. is_gt (cmp k b)) bs in
      all_in (λ x. IsSome (terms x.term.0)) (low ++ b ∷ high) (λ q c. elim (Contains-append_cases low (b ∷ high) q c) [
        | inl l ↦ in_all_of (λ x. IsSome (terms x.term.0)) bs q has (was_there (λ k. is_lt (cmp k b)) bs q l)
        | inr r ↦ elim (cons_cases b high q r) [
          | inl e ↦ subst (λ x. IsSome (terms x.term.0)) e h
          | inr g ↦ in_all_of (λ x. IsSome (terms x.term.0)) bs q has (was_there (λ k. is_gt (cmp k b)) bs q g)
        ]
      ])

  -- a merge of rows that have terms has terms
  pub merge_has_terms : (left right : List Binding) → HasTerms terms left → HasTerms terms right → HasTerms terms (id_merge left right)
  merge_has_terms [] right h k = k
  merge_has_terms (b ∷ bs) right h k = merge_has_terms bs (inserted (by_var id_var) b right) h.1 (inserted_has_term b right h.0 k)

  module _ (once : NamesOnce terms) (left right : List (List Binding)) (low : AreRising left) (high : AreRising right)
      (L R : Solution → Type 0) (lefts : AreSolutions terms L left) (rights : AreSolutions terms R right) where
    rise : (rows : List (List Binding)) (row : List Binding) → AreRising rows → Contains rows row → IsRising id_var row
    rise rows row a c = in_all_of (IsRising id_var) rows row a c

    -- the merge of two rows stands for the merge of what they stand for
    merges_stand : (l r : List Binding) → Contains left l → Contains right r → solution_in terms (id_merge l r) ≡ merge (solution_in terms l) (solution_in terms r)
    merges_stand l r cl cr = merge_named terms l r (rise left l low cl) (rise right r high cr) (lefts.each l cl).0

    compatible_rows : (l r : List Binding) → Contains left l → Contains right r → Compatible (solution_in terms l) (solution_in terms r) → IdCompatible l r
    compatible_rows l r cl cr agree = named_compatible terms once l r (rise left l low cl) (rise right r high cr) (lefts.each l cl).0 (rights.each r cr).0 agree

    join_stands : (row : List Binding) → IsJoined id_var (Contains left) (Contains right) row → StandsFor terms (IsJoined term_var L R) row
    join_stands row j = (
      subst (HasTerms terms) (sym j.merges) (merge_has_terms j.left j.right (lefts.each j.left j.in_left).0 (rights.each j.right j.in_right).0),
      record {
        left = solution_in terms j.left;
        right = solution_in terms j.right;
        in_left = (lefts.each j.left j.in_left).1;
        in_right = (rights.each j.right j.in_right).1;
        compatible = compatible_named terms j.left j.right (rise left j.left low j.in_left) (rise right j.right high j.in_right) j.compatible;
        merges = ap (solution_in terms) j.merges ∙ merges_stand j.left j.right j.in_left j.in_right;
      },
    )

    join_stood : (s : Solution) → IsJoined term_var L R s → (row : List Binding) × IsJoined id_var (Contains left) (Contains right) row × (solution_in terms row ≡ s)
    join_stood s j =
        let l = lefts.all j.left j.in_left in
        let r = rights.all j.right j.in_right in
        let agree : Compatible (solution_in terms l.0) (solution_in terms r.0) =
        subst (λ x. Compatible x (solution_in terms r.0)) (sym l.2) (subst (Compatible j.left) (sym r.2) j.compatible) in (
          id_merge l.0 r.0,
          record { left = l.0; right = r.0; in_left = l.1; in_right = r.1; compatible = compatible_rows l.0 r.0 l.1 r.1 agree; merges = refl },
          merges_stand l.0 r.0 l.1 r.1 ∙ ap (λ x. merge x (solution_in terms r.0)) l.2 ∙ ap (merge j.left) r.2 ∙ sym j.merges,
        )

    -- the joined rows stand for the joined solutions
    pub join_names : AreNames terms (IsJoined id_var (Contains left) (Contains right)) (IsJoined term_var L R)
    join_names = record { each = join_stands; all = join_stood }

    -- the rows of either list stand for the solutions of either side
    pub union_names : AreNames terms (IsOfEither left right) (λ s. L s ⊎ R s)
    union_names = record {
      each = λ row s. elim s [ inl c ↦ ((lefts.each row c).0, inl (lefts.each row c).1) | inr c ↦ ((rights.each row c).0, inr (rights.each row c).1) ];
      all = λ s h. elim h [
        | inl l ↦ let p = lefts.all s l in (p.0, inl p.1, p.2)
        | inr r ↦ let p = rights.all s r in (p.0, inr p.1, p.2)
      ];
    }

    module _ (condition : Option Expr) where
      -- a row that stays alone stands for a solution that does
      alone_stands : (l : List Binding) → Contains left l → IsAlone id_var (Contains right) (RowPasses terms condition) l
          → IsAlone term_var R (Passes condition) (solution_in terms l)
      alone_stands l cl alone q inq agree passes =
          let r = rights.all q inq in
          let both : Compatible (solution_in terms l) (solution_in terms r.0) = subst (Compatible (solution_in terms l)) (sym r.2) agree in
          alone r.0 r.1 (compatible_rows l r.0 cl r.1 both)
          (subst (Passes condition) (ap (merge (solution_in terms l)) (sym r.2) ∙ sym (merges_stand l r.0 cl r.1)) passes)

      alone_stood : (l : List Binding) → Contains left l → IsAlone term_var R (Passes condition) (solution_in terms l)
          → IsAlone id_var (Contains right) (RowPasses terms condition) l
      alone_stood l cl alone r cr agree passes =
          alone (solution_in terms r) (rights.each r cr).1 (compatible_named terms l r (rise left l low cl) (rise right r high cr) agree)
          (subst (Passes condition) (merges_stand l r cl cr) passes)

      -- the left joined rows stand for the left joined solutions
      pub left_join_names : AreNames terms (IsLeftJoined id_var (Contains left) (Contains right) (RowPasses terms condition)) (IsLeftJoined term_var L R (Passes condition))
      left_join_names = record {
        each = λ row s. elim s [
          | inl j ↦ let p = join_stands row j.0 in (p.0, inl (p.1, j.1))
          | inr a ↦ ((lefts.each row a.0).0, inr ((lefts.each row a.0).1, alone_stands row a.0 a.1))
        ];
        all = λ s h. elim h [
          | inl j ↦ let p = join_stood s j.0 in (p.0, inl (p.1, subst (Passes condition) (sym p.2) j.1), p.2)
          | inr a ↦
              let p = lefts.all s a.0 in
              (p.0, inr (p.1, alone_stood p.0 p.1 (subst (IsAlone term_var R (Passes condition)) (sym p.2) a.1)), p.2)
        ];
      }

  -- the rows on which a condition is true stand for the solutions on which it is
  pub filter_names : (condition : Expr) (rows : List (List Binding)) (I : Solution → Type 0) → AreSolutions terms I rows
      → AreNames terms (IsFiltered terms condition (Contains rows)) (λ s. I s × (truth condition s ≡ True))
  filter_names condition rows I inner = record {
    each = λ row c. ((inner.each row c.0).0, ((inner.each row c.0).1, c.1));
    all = λ s h. let p = inner.all s h.0 in (p.0, (p.1, subst (λ x. truth condition x ≡ True) (sym p.2) h.1), p.2);
  }
