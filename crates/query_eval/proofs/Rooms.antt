-- A part is evaluated from its sides, within what is left of the limit on the width.
use Rattle.std.proofs.Common.{◌≡◌, ◌∙◌, ℕ, ◌+◌, ◌<◌, ◌≤◌, List, [], ◌∷◌, ◌++◌, length, Option, Result, MatchResult, sym, subst, arith}
use Rattle.std.proofs.lemmas.Result.{MatchResult-weaker}
use Rattle.std.specs.List.{IsDistinct, AllZip}
use Rattle.m3_terms.specs.TermTable.{NamesOnce}
use Rattle.m3_terms.specs.declared.term.Term.{Term}
use Rattle.m3_terms.specs.declared.triple.Triple.{Triple}
use Rattle.sparql_algebra.specs.declared.algebra.Algebra.{Algebra, Bgp}
use Rattle.sparql_algebra.specs.declared.mapping.Binding.{Binding}
use Rattle.sparql_algebra.specs.declared.pattern.PatternTriple.{PatternTriple}
use Rattle.sparql_algebra.specs.Evaluation.{IsSolution}
use Rattle.sparql_algebra.specs.Patterns.{IsBgpSolution}
use Rattle.sparql_algebra.specs.RowSets.{AreExactly, AreMoreThan}
use Rattle.sparql_algebra.specs.Solutions.{RowList, solution_eq, AreRising}
use Rattle.sparql_algebra.specs.TermSolutions.{Solution}
use Rattle.sparql_algebra.specs.Width.{HasCount, parts}
use Rattle.sparql_algebra.proofs.Gathered.{more_than}
use Rattle.pattern_join.specs.declared.fault.EvalFault.{EvalFault}
use Rattle.pattern_join.specs.declared.fault.EvalFault.TheVariants.{TooWide, NoMemory}
use Rattle.pattern_join.specs.Bgp.{StandsFor, AreSolutions, WhyNoRows}
use Rattle.query_eval.specs.PartRows.{AreRowsOf}
use Rattle.query_eval.specs.Parts.{AreTaken, WhyNotTaken, AreEvaluated, WhyNotEvaluated}
use Rattle.query_eval.proofs.Counts.{as_many, too_many}
use Rattle.query_eval.proofs.ListsOfRows.{zip_both, count_first, count_both}
use Rattle.query_eval.proofs.RowsOfOperators.{AreNames}
use Rattle.query_eval.proofs.Sides.{HasSides, HasSide, bgp_width}

module _ (terms : ℕ → Option Term) (once : NamesOnce terms) (graph : List Triple) where
  -- rows that stand for the solutions of a pattern, each once, are as many as it has
  count_own : (self : Algebra) (own : ℕ) (rows : List (List Binding)) → HasCount self graph own → IsDistinct solution_eq rows → AreSolutions terms (IsSolution self graph) rows
      → length rows ≡ own
  count_own self own rows h d s = as_many terms once (IsSolution self graph) h.0 h.1 rows d s ∙ h.2

  -- more rows than the room stand for more solutions than the room
  over_count : (self : Algebra) (own room : ℕ) → HasCount self graph own → AreMoreThan room (StandsFor terms (IsSolution self graph)) → room < own
  over_count self own room h m = let over = too_many terms once (IsSolution self graph) h.0 h.1 room m in omega (arith, over, h.2)

  -- the rows that have a property, where these stand for the solutions
  named_rows : (Rows : List Binding → Type 0) (Holds : Solution → Type 0) (rows : List (List Binding)) → AreNames terms Rows Holds
      → AreExactly Rows rows → AreSolutions terms Holds rows
  named_rows Rows Holds rows n exactly = record {
    each = λ row c. n.each row ((exactly row).0 c);
    all = λ s h. let p = n.all s h in (p.0, (exactly p.0).1 p.1, p.2);
  }

  module _ {self left right : Algebra} (sides : HasSides graph self left right) where
    -- where the first side is too wide, the part is
    pub first_fails : (room : ℕ) (fault : EvalFault) → WhyNotEvaluated graph left room fault → WhyNotEvaluated graph self room fault
    first_fails room TooWide f = λ w h. let s = sides.width w h in let over = f s.low s.left_width in omega (arith, over, s.total)
    first_fails room NoMemory f = tt

    module _ {lefts : List RowList} {r0 r1 : ℕ} (l : AreEvaluated terms graph left r0 r1 lefts) where
      -- where the second side is too wide for what the first one left, the part is
      pub second_fails : (fault : EvalFault) → WhyNotEvaluated graph right r1 fault → WhyNotEvaluated graph self r0 fault
      second_fails TooWide f = λ w h.
          let s = sides.width w h in
          let over = f s.high s.right_width in
          let taken = l.room s.low s.left_width in
          omega (arith, over, taken, s.total)
      second_fails NoMemory f = tt

      module _ {rights : List RowList} {r2 : ℕ} (r : AreEvaluated terms graph right r1 r2 rights) (Rows : List Binding → Type 0) (names : AreNames terms Rows (IsSolution self graph)) where
        evaluated : (r3 : ℕ) (lists : List RowList) → AreTaken r2 r3 Rows (lefts ++ rights) lists → AreEvaluated terms graph self r0 r3 lists
        evaluated r3 lists t =
            let stand = named_rows Rows (IsSolution self graph) t.own.rows names t.exactly in
            let both = zip_both (AreRowsOf terms graph) (parts left) (parts right) lefts rights l.rows r.rows in
            let longer = count_first t.own (lefts ++ rights) in
            let joined = count_both lefts rights in
            subst (AreEvaluated terms graph self r0 r3) (sym t.first) (record {
              rows = subst (λ ps. AllZip (AreRowsOf terms graph) ps (t.own ∷ (lefts ++ rights))) (sym sides.parts_are) (record { solutions = stand; rising = t.rising }, both);
              count = omega (arith, l.count, r.count, t.room, longer, joined);
              room = λ w h.
                  let s = sides.width w h in
                  let own = count_own self s.own t.own.rows s.count t.distinct stand in
                  let low = l.room s.low s.left_width in
                  let high = r.room s.high s.right_width in
                  omega (arith, own, low, high, t.room, s.total);
            })

        over : (fault : EvalFault) → WhyNotTaken r2 Rows fault → WhyNotEvaluated graph self r0 fault
        over TooWide m = λ w h.
            let s = sides.width w h in
            let own = over_count self s.own r2 s.count (more_than r2 Rows (StandsFor terms (IsSolution self graph)) names.each m) in
            let low = l.room s.low s.left_width in
            let high = r.room s.high s.right_width in
            omega (arith, own, low, high, s.total)
        over NoMemory m = tt

        -- the part from both sides
        pub finished : {V : Type 0} (r3 : ℕ) (result : Result V EvalFault) (items : V → List RowList) → MatchResult result (λ v. AreTaken r2 r3 Rows (lefts ++ rights) (items v)) (WhyNotTaken r2 Rows)
            → MatchResult result (λ v. AreEvaluated terms graph self r0 r3 (items v)) (WhyNotEvaluated graph self r0)
        finished r3 result items m = MatchResult-weaker result m (λ v. evaluated r3 (items v)) over

  module _ {self inner : Algebra} (side : HasSide graph self inner) where
    -- where the side is too wide, the part is
    pub inner_fails : (room : ℕ) (fault : EvalFault) → WhyNotEvaluated graph inner room fault → WhyNotEvaluated graph self room fault
    inner_fails room TooWide f = λ w h. let s = side.width w h in let over = f s.1 s.3 in omega (arith, over, s.4)
    inner_fails room NoMemory f = tt

    module _ {inners : List RowList} {r0 r1 : ℕ} (i : AreEvaluated terms graph inner r0 r1 inners) (Rows : List Binding → Type 0) (names : AreNames terms Rows (IsSolution self graph)) where
      evaluated_inner : (r2 : ℕ) (lists : List RowList) → AreTaken r1 r2 Rows inners lists → AreEvaluated terms graph self r0 r2 lists
      evaluated_inner r2 lists t =
          let stand = named_rows Rows (IsSolution self graph) t.own.rows names t.exactly in
          let longer = count_first t.own inners in
          subst (AreEvaluated terms graph self r0 r2) (sym t.first) (record {
            rows = subst (λ ps. AllZip (AreRowsOf terms graph) ps (t.own ∷ inners)) (sym side.parts_are) (record { solutions = stand; rising = t.rising }, i.rows);
            count = omega (arith, i.count, t.room, longer);
            room = λ w h.
                let s = side.width w h in
                let own = count_own self s.0 t.own.rows s.2 t.distinct stand in
                let low = i.room s.1 s.3 in
                omega (arith, own, low, t.room, s.4);
          })

      over_inner : (fault : EvalFault) → WhyNotTaken r1 Rows fault → WhyNotEvaluated graph self r0 fault
      over_inner TooWide m = λ w h.
          let s = side.width w h in
          let own = over_count self s.0 r1 s.2 (more_than r1 Rows (StandsFor terms (IsSolution self graph)) names.each m) in
          let low = i.room s.1 s.3 in
          omega (arith, own, low, s.4)
      over_inner NoMemory m = tt

      -- the part from its side
      pub finished_inner : {V : Type 0} (r2 : ℕ) (result : Result V EvalFault) (items : V → List RowList) → MatchResult result (λ v. AreTaken r1 r2 Rows inners (items v)) (WhyNotTaken r1 Rows)
          → MatchResult result (λ v. AreEvaluated terms graph self r0 r2 (items v)) (WhyNotEvaluated graph self r0)
      finished_inner r2 result items m = MatchResult-weaker result m (λ v. evaluated_inner r2 (items v)) over_inner

  module _ (patterns : List PatternTriple) where
    -- a basic graph pattern, where its rows fit into the room
    pub bgp_evaluated : (before after : ℕ) (own : RowList) (lists : List RowList) → AreSolutions terms (IsBgpSolution patterns graph) own.rows → IsDistinct solution_eq own.rows
        → AreRising own.rows → after + length own.rows ≡ before → lists ≡ own ∷ [] → AreEvaluated terms graph (Bgp patterns) before after lists
    bgp_evaluated before after own lists s d r e f =
        let longer = count_first own [] in
        subst (AreEvaluated terms graph (Bgp patterns) before after) (sym f) (record {
          rows = (record { solutions = s; rising = r }, tt);
          count = omega (arith, e, longer);
          room = λ w h. let own = count_own (Bgp patterns) w own.rows (bgp_width graph patterns w h) d s in omega (arith, own, e);
        })

    -- and where they are more
    pub bgp_over : (room : ℕ) (rows : List (List Binding)) → AreSolutions terms (IsBgpSolution patterns graph) rows → IsDistinct solution_eq rows → room < length rows
        → WhyNotEvaluated graph (Bgp patterns) room TooWide
    bgp_over room rows s d over w h = let own = count_own (Bgp patterns) w rows (bgp_width graph patterns w h) d s in omega (arith, own, over)

    -- and where they were not given
    pub bgp_fails : (room : ℕ) (fault : EvalFault) → room ≤ 65536 → WhyNoRows (StandsFor terms (IsBgpSolution patterns graph)) fault
        → WhyNotEvaluated graph (Bgp patterns) room fault
    bgp_fails room TooWide few m = λ w h. let own = over_count (Bgp patterns) w 65536 (bgp_width graph patterns w h) m in omega (arith, own, few)
    bgp_fails room NoMemory few m = tt
