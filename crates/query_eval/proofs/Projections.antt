-- The projections of the solutions of a pattern answer the query.
use Rattle.std.proofs.Common.{◌≡◌, ℕ, ◌≤◌, List, Contains, Option, Result, Ok, Err, MatchResult, IfOk, IfErr, OnOk, refl, arith}
use Rattle.m3_terms.specs.declared.term.Term.{Term}
use Rattle.m3_terms.specs.declared.triple.Triple.{Triple}
use Rattle.sparql_algebra.specs.declared.algebra.Algebra.{Algebra}
use Rattle.sparql_algebra.specs.declared.algebra.Query.{Query}
use Rattle.sparql_algebra.specs.declared.mapping.Binding.{Binding}
use Rattle.sparql_algebra.specs.Evaluation.{IsSolution}
use Rattle.sparql_algebra.specs.Listed.{width_of}
use Rattle.sparql_algebra.specs.Projected.{projected}
use Rattle.sparql_algebra.specs.RowSets.{AreExactly, IsProjectedRow}
use Rattle.sparql_algebra.specs.Solutions.{RowList}
use Rattle.sparql_algebra.proofs.ListedWidths.{width_exact}
use Rattle.pattern_join.specs.declared.fault.EvalFault.{EvalFault}
use Rattle.pattern_join.specs.declared.fault.EvalFault.TheVariants.{TooWide, NoMemory}
use Rattle.pattern_join.specs.Answers.{IsOverwide}
use Rattle.pattern_join.specs.Bgp.{AreSolutions}
use Rattle.query_eval.specs.Answered.{AreAnswer}
use Rattle.query_eval.specs.PartRows.{row_count}
use Rattle.query_eval.specs.Parts.{AreEvaluated, WhyNotEvaluated}

module _ (terms : ℕ → Option Term) (query : Query) (graph : List Triple) where
  -- the projections of the solutions are the answer
  pub answered : (rows projections : List (List Binding)) → AreSolutions terms (IsSolution query.pattern graph) rows
      → AreExactly (IsProjectedRow query.columns (Contains rows)) projections → AreAnswer terms query graph projections
  answered rows projections s exact = record {
    each = λ row c. let p = (exact row).0 c in (p.0, s.each p.0 p.1, p.2);
    all = λ solution h.
        let p = s.all solution h in
        record { full = p.0; has_terms = (s.each p.0 p.1).0; stands = p.2; there = (exact (projected query.columns p.0)).1 (p.0, p.1, refl) };
  }

module _ (pattern : Algebra) (graph : List Triple) where
  -- the width that was taken off the limit is within it, and is how many rows there are
  pub narrow : (terms : ℕ → Option Term) (after : ℕ) (lists : List RowList) → AreEvaluated terms graph pattern 65536 after lists
      → (width_of pattern graph ≤ 65536) × (row_count lists ≡ width_of pattern graph)
  narrow terms after lists e =
      let total = e.room (width_of pattern graph) ((width_exact pattern graph (width_of pattern graph)).1 refl) in
      (omega (arith, total), omega (arith, total, e.count))

  -- a pattern that was not evaluated is too wide, or memory ran out
  pub overwide : (fault : EvalFault) → WhyNotEvaluated graph pattern 65536 fault → IsOverwide (width_of pattern graph) fault
  overwide TooWide f = f (width_of pattern graph) ((width_exact pattern graph (width_of pattern graph)).1 refl)
  overwide NoMemory f = tt

  -- what a result of the evaluation within the limit says of the width
  module _ {V : Type 0} (terms : ℕ → Option Term) (after : ℕ) (result : Result V EvalFault) (items : V → List RowList)
      (e : MatchResult result (λ v. AreEvaluated terms graph pattern 65536 after (items v)) (WhyNotEvaluated graph pattern 65536)) where
    counted_at : (r : Result V EvalFault) → MatchResult r (λ v. AreEvaluated terms graph pattern 65536 after (items v)) (WhyNotEvaluated graph pattern 65536)
        → IfOk r (λ v. row_count (items v) ≡ width_of pattern graph)
    counted_at (Ok v) h = (narrow terms after (items v) h).1
    counted_at (Err fault) h = tt

    pub counted : IfOk result (λ v. row_count (items v) ≡ width_of pattern graph)
    counted = counted_at result e

    narrow_at : (r : Result V EvalFault) → MatchResult r (λ v. AreEvaluated terms graph pattern 65536 after (items v)) (WhyNotEvaluated graph pattern 65536)
        → OnOk r (width_of pattern graph ≤ 65536)
    narrow_at (Ok v) h = (narrow terms after (items v) h).0
    narrow_at (Err fault) h = tt

    pub narrow_result : OnOk result (width_of pattern graph ≤ 65536)
    narrow_result = narrow_at result e

    wide_at : (r : Result V EvalFault) → MatchResult r (λ v. AreEvaluated terms graph pattern 65536 after (items v)) (WhyNotEvaluated graph pattern 65536)
        → IfErr r (IsOverwide (width_of pattern graph))
    wide_at (Ok v) h = tt
    wide_at (Err fault) h = overwide fault h

    pub wide_result : IfErr result (IsOverwide (width_of pattern graph))
    wide_result = wide_at result e
