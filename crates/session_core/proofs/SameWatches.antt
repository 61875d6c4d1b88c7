-- A watch that keeps its rows asks for the same, stands over the same numbers, and takes the same steps.
use Rattle.std.proofs.Common.{◌≡◌, ◌≤◌, ◌∙◌, ℕ, List, [], ◌∷◌, Contains, Option, Some, None, Result, Ok, Err, OnOk, slice_get, sym, ap, subst}
use Rattle.m3_terms.specs.declared.memory.NoMemory.{NoMemory}
use Rattle.std.specs.List.{AllZip}
use Rattle.m3_terms.specs.declared.term.Term.{Term}
use Rattle.m3_terms.specs.declared.pattern.Pattern.{Pattern}
use Rattle.m3_terms.specs.declared.triple.Triple.{Triple}
use Rattle.triple_index.specs.declared.triple.IdTriple.{IdTriple}
use Rattle.pattern_join.specs.Meaning.{graph_in}
use Rattle.sparql_algebra.specs.declared.algebra.Algebra.{Algebra}
use Rattle.sparql_algebra.specs.Evaluation.{IsSolution}
use Rattle.sparql_algebra.specs.RowSets.{AreExactly}
use Rattle.sparql_algebra.specs.Solutions.{RowList, AreRising}
use Rattle.sparql_algebra.specs.Width.{parts}
use Rattle.pattern_join.specs.Bgp.{AreSolutions}
use Rattle.query_eval.specs.Answered.{AreAnswer}
use Rattle.query_eval.specs.PartRows.{AreRowsOf}
use Rattle.delta_eval.specs.declared.changed.Changed.{Changed}
use Rattle.delta_eval.specs.declared.wanted.Wanted.{Wanted}
use Rattle.delta_eval.specs.declared.wanted.Wanted.TheVariants.{Templates, Select}
use Rattle.delta_eval.specs.Changed.{AllInThrees, IsThereAfter, LeadsTo, IsChangeOf, HasSameRows}
use Rattle.delta_eval.specs.Standing.{Kept, Changes, AreOf, IsStepOf, KeepsRows, IsAfter}
use Rattle.delta_eval.specs.Wanted.{matching_rows, wanted_width}
use Rattle.session_core.specs.Watches.{asked_by, wanted_in, HaveNumbers, Stands, Leads, HasRoom, IsSameWatch}
use Rattle.session_core.specs.Entries.{IsNext, IsStepNext, HasRoomForNext}
use Rattle.session_core.specs.declared.entry.Due.{Due}
use Rattle.session_core.specs.declared.entry.Due.TheVariants.{Nothing, Change, End}
use Rattle.session_core.specs.Numbers.{Numbers}
use Rattle.session_core.specs.declared.watch.Watch.{Watch}

-- what relates items of a list to those of another relates those that take their place, where they may
zip_moved : {X Y : Type 0} (R : X → Y → Type 0) (S : X → X → Type 0) → ((x z : X) (y : Y) → S x z → R x y → R z y)
    → (xs zs : List X) (ys : List Y) → AllZip S xs zs → AllZip R xs ys → AllZip R zs ys
zip_moved R S f [] [] ys s h = h
zip_moved R S f [] (z ∷ zs) ys s h = absurd s
zip_moved R S f (x ∷ xs) [] ys s h = absurd s
zip_moved R S f (x ∷ xs) (z ∷ zs) [] s h = absurd h
zip_moved R S f (x ∷ xs) (z ∷ zs) (y ∷ ys) s h = (f x z y s.0 h.0, zip_moved R S f xs zs ys s.1 h.1)

threes_moved : {X Y Z : Type 0} (R : X → Y → Z → Type 0) (S : X → X → Type 0) → ((x w : X) (y : Y) (z : Z) → S x w → R w y z → R x y z)
    → (xs ws : List X) (ys : List Y) (zs : List Z) → AllZip S xs ws → AllInThrees R ws ys zs → AllInThrees R xs ys zs
threes_moved R S f [] [] ys zs s h = h
threes_moved R S f [] (w ∷ ws) ys zs s h = absurd s
threes_moved R S f (x ∷ xs) [] ys zs s h = absurd s
threes_moved R S f (x ∷ xs) (w ∷ ws) [] zs s h = absurd h
threes_moved R S f (x ∷ xs) (w ∷ ws) (y ∷ ys) [] s h = absurd h
threes_moved R S f (x ∷ xs) (w ∷ ws) (y ∷ ys) (z ∷ zs) s h = (f x w y z s.0 h.0, threes_moved R S f xs ws ys zs s.1 h.1)

change_moved : (old new : RowList) (change : Changed) → HasSameRows old new → IsChangeOf old change → IsChangeOf new change
change_moved old new change same h = record {
  obsolete_there = λ row c. subst (λ rows. Contains rows row) (sym same) (h.obsolete_there row c);
  added_new = λ row c there. h.added_new row c (subst (λ rows. Contains rows row) same there);
}

leads_moved : (old new : RowList) (change : Changed) (after : RowList) → HasSameRows old new → LeadsTo new change after → LeadsTo old change after
leads_moved old new change after same h = subst (λ rows. AreExactly (IsThereAfter rows change) after.rows) same h

-- a step of a standing query is one of what keeps its rows
pub step_kept : (old new : Kept) (step : Changes) → KeepsRows old new → IsStepOf old step → IsStepOf new step
step_kept old new step same h = record {
  parts = zip_moved IsChangeOf HasSameRows (λ x z y s r. change_moved x z y s r) old.parts new.parts step.parts same.parts h.parts;
  answer = change_moved old.answer new.answer step.answer same.answer h.answer;
}

-- and what it makes of the one it makes of the other
pub after_kept : (old new : Kept) (step : Changes) (after : Kept) → KeepsRows old new → IsAfter new step after → IsAfter old step after
after_kept old new step after same h = record {
  wanted = h.wanted ∙ same.wanted;
  parts = threes_moved LeadsTo HasSameRows leads_moved old.parts new.parts step.parts after.parts same.parts h.parts;
  answer = leads_moved old.answer new.answer step.answer after.answer same.answer h.answer;
}

module _ (numbers : Numbers) where
  numbers_kept : (templates : List Pattern) (old new : Wanted) → new ≡ old → HaveNumbers numbers.terms templates old → HaveNumbers numbers.terms templates new
  numbers_kept templates old new same h = subst (HaveNumbers numbers.terms templates) (sym same) h

  watch_numbers : (old new : Watch) → IsSameWatch old new → HaveNumbers numbers.terms old.templates old.standing.wanted → HaveNumbers numbers.terms new.templates new.standing.wanted
  watch_numbers old new same h =
      subst (λ templates. HaveNumbers numbers.terms templates new.standing.wanted) (sym same.templates)
      (numbers_kept old.templates old.standing.wanted new.standing.wanted same.standing.wanted h)

-- there is room for the step that is next, where there is room for the step
pub room_for : (old new : Watch) (next : Option Changes) (step : Changes) → next ≡ Some step → IsStepNext old next → IsSameWatch old new
    → (result : Result (Unit {0}) NoMemory) → OnOk result (HasRoom new step) → OnOk result (HasRoomForNext new next)
room_for old new next step is h same result room =
    subst (λ found. OnOk result (HasRoomForNext new found)) (sym is)
    (on_ok result (HasRoom new step) (HasRoomForNext new (Some step)) room (λ r. (r, step_kept old.standing new.standing step same.standing (subst (IsStepNext old) is h))))
  where
    on_ok : (result : Result (Unit {0}) NoMemory) (P Q : Type 0) → OnOk result P → (P → Q) → OnOk result Q
    on_ok (Ok x) P Q p f = f p
    on_ok (Err e) P Q p f = tt

-- a watch asks for what it asked for
pub wanted_kept : (old new : Watch) → IsSameWatch old new → wanted_in new ≡ wanted_in old
wanted_kept old new same = ap (λ templates. asked_by templates new.standing.wanted) same.templates ∙ ap (asked_by old.templates) same.standing.wanted

-- a step leads to the numbers to which it led
pub leads_kept : (old new : Watch) (step : Changes) (numbers : Numbers) → IsSameWatch old new → Leads old step numbers → Leads new step numbers
leads_kept old new step numbers same h = record {
  step_of = step_kept old.standing new.standing step same.standing h.step_of;
  after = λ standing is. h.after standing (after_kept old.standing new.standing step standing same.standing is);
  numbered = watch_numbers numbers old new same h.numbered;
}

-- so does the step that is next
pub next_kept : (old new : Watch) (next : Option Changes) (due : Due) (numbers : Numbers) → IsSameWatch old new → IsNext numbers old next due → IsNext numbers new next due
next_kept old new (Some step) due numbers same h = leads_kept old new step numbers same h
next_kept old new None Nothing numbers same h = absurd h
next_kept old new None (Change message) numbers same h = absurd h
next_kept old new None (End message) numbers same h = tt

module _ (terms : ℕ → Option Term) where
  rows_kept : (graph : List Triple) (pattern : Algebra) (old new : RowList) → HasSameRows old new → AreRowsOf terms graph pattern old → AreRowsOf terms graph pattern new
  rows_kept graph pattern old new same h = record {
    solutions = subst (AreSolutions terms (IsSolution pattern graph)) (sym same) h.solutions;
    rising = subst AreRising (sym same) h.rising;
  }

  parts_kept : (graph : List Triple) (patterns : List Algebra) (old new : List RowList) → AllZip HasSameRows old new
      → AllZip (AreRowsOf terms graph) patterns old → AllZip (AreRowsOf terms graph) patterns new
  parts_kept graph [] [] [] s h = tt
  parts_kept graph [] [] (z ∷ zs) s h = absurd s
  parts_kept graph [] (y ∷ ys) zs s h = absurd h
  parts_kept graph (p ∷ ps) [] zs s h = absurd h
  parts_kept graph (p ∷ ps) (y ∷ ys) [] s h = absurd s
  parts_kept graph (p ∷ ps) (y ∷ ys) (z ∷ zs) s h = (rows_kept graph p y z s.0 h.0, parts_kept graph ps ys zs s.1 h.1)

  none_kept : (old new : List RowList) → AllZip HasSameRows old new → old ≡ [] → new ≡ []
  none_kept [] [] s e = e
  none_kept [] (z ∷ zs) s e = absurd s
  none_kept (y ∷ ys) [] s e = absurd s
  none_kept (y ∷ ys) (z ∷ zs) s e = absurd (cc)

  answers_kept : (triples : List IdTriple) (wanted : Wanted) (old new : List RowList) (answer other : RowList) → AllZip HasSameRows old new → HasSameRows answer other
      → AreOf terms triples wanted old answer → AreOf terms triples wanted new other
  answers_kept triples (Templates templates) old new answer other s e h = record {
    no_parts = none_kept old new s h.no_parts;
    answer_rows = subst (AreExactly (Contains (matching_rows templates triples))) (sym e) h.answer_rows;
  }
  answers_kept triples (Select query) old new answer other s e h = record {
    valid = h.valid;
    part_rows = parts_kept (graph_in terms triples) (parts query.pattern) old new s h.part_rows;
    answer_rows = subst (AreAnswer terms query (graph_in terms triples)) (sym e) h.answer_rows;
  }

-- a watch stands over the numbers over which it stood
pub stands_kept : (numbers : Numbers) (old new : Watch) → IsSameWatch old new → Stands numbers old → Stands numbers new
stands_kept numbers old new same h =
    let terms = slice_get numbers.terms in
    record {
      standing = record {
        rows = subst (λ wanted. AreOf terms numbers.triples wanted new.standing.parts new.standing.answer) (sym same.standing.wanted)
            (answers_kept terms numbers.triples old.standing.wanted old.standing.parts new.standing.parts old.standing.answer new.standing.answer
            same.standing.parts same.standing.answer h.standing.rows);
        narrow = subst (λ wanted. wanted_width terms wanted numbers.triples ≤ 65536) (sym same.standing.wanted) h.standing.narrow;
      };
      numbered = watch_numbers numbers old new same h.numbered;
    }
