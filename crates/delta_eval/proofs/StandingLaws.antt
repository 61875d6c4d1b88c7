-- The laws of standing queries, by what is wanted.
use Rattle.std.proofs.Common.{◌≡◌, ◌∙◌, ℕ, ◌≤◌, List, length, Contains, Option, refl, sym, ap, subst}
use Rattle.std.specs.List.{AllZip}
use Rattle.m3_terms.specs.TermTable.{NamesOnce}
use Rattle.m3_terms.specs.declared.term.Term.{Term}
use Rattle.sparql_algebra.specs.RowSets.{AreExactly}
use Rattle.sparql_algebra.specs.Solutions.{RowList}
use Rattle.sparql_algebra.specs.Width.{parts as parts_of}
use Rattle.sparql_algebra.specs.Listed.{width_of}
use Rattle.triple_index.specs.declared.triple.IdTriple.{IdTriple}
use Rattle.pattern_join.specs.Meaning.{graph_in, AreMeant}
use Rattle.query_eval.specs.PartRows.{AreRowsOf}
use Rattle.delta_eval.specs.declared.changed.Changed.{Changed}
use Rattle.delta_eval.specs.declared.wanted.Wanted.{Wanted}
use Rattle.delta_eval.specs.declared.wanted.Wanted.TheVariants.{Templates, Select}
use Rattle.delta_eval.specs.Changed.{AllInThrees, LeadsTo, IsChangeOf, IsDifference, HasSameRows}
use Rattle.delta_eval.specs.Laws.{HasAllOf}
use Rattle.delta_eval.specs.Standing.{Kept, Changes, AreOfQuery, AreOf, StandsOver, IsStepOf, KeepsRows, IsAfter, StepsTo}
use Rattle.delta_eval.specs.Wanted.{IsWanted, matching_rows, wanted_width}
use Rattle.delta_eval.proofs.DifferencesLead.{difference_of, difference_leads, leads_once, leads_before, change_kept}
use Rattle.delta_eval.proofs.GrownTables.{same_graph, rows_grown, answer_grown}
use Rattle.delta_eval.proofs.PlaceByPlace.{zip_long, zip_weaker, zip_through, zip_across, zip_none, threes_zip, threes_before, threes_carry, threes_none}
use Rattle.delta_eval.proofs.SameRows.{equal_same, exactly_same, rows_same, answer_same, answer_exact}

-- ---- answers

-- the answer among the rows of what is wanted is exactly what is wanted
pub wanted_exact : (terms : ℕ → Option Term) → NamesOnce terms → (triples : List IdTriple) (wanted : Wanted) (parts : List RowList) (answer : RowList)
    → AreOf terms triples wanted parts answer → AreExactly (IsWanted terms wanted triples) answer.rows
wanted_exact terms once triples (Templates templates) parts answer h = h.answer_rows
wanted_exact terms once triples (Select query) parts answer h = answer_exact terms (graph_in terms triples) once query answer.rows h.answer_rows

-- there are as many parts over one graph as over another
pub as_many_parts : (terms : ℕ → Option Term) (triples others : List IdTriple) (wanted : Wanted) (parts lists : List RowList) (answer other : RowList)
    → AreOf terms triples wanted parts answer → AreOf terms others wanted lists other → length parts ≡ length lists
as_many_parts terms triples others (Templates templates) parts lists answer other h k = ap length (h.no_parts ∙ sym k.no_parts)
as_many_parts terms triples others (Select query) parts lists answer other h k =
    sym (zip_long (AreRowsOf terms (graph_in terms triples)) (parts_of query.pattern) parts h.part_rows)
    ∙ zip_long (AreRowsOf terms (graph_in terms others)) (parts_of query.pattern) lists k.part_rows

-- ---- tables that grow

module _ (old new : ℕ → Option Term) (grown : HasAllOf old new) (triples : List IdTriple) (meant : AreMeant old triples) where
  grown_rows : (wanted : Wanted) (lists : List RowList) (answer : RowList) → AreOf old triples wanted lists answer → AreOf new triples wanted lists answer
  grown_rows (Templates templates) lists answer h = record { no_parts = h.no_parts; answer_rows = h.answer_rows }
  grown_rows (Select query) lists answer h =
      let graph = graph_in old triples in
      subst (λ g. AreOfQuery new g query lists answer) (same_graph old new grown triples meant) (record {
        valid = h.valid;
        part_rows = zip_weaker (AreRowsOf old graph) (AreRowsOf new graph) (rows_grown old new grown graph) (parts_of query.pattern) lists h.part_rows;
        answer_rows = answer_grown old new grown graph query answer.rows h.answer_rows;
      })

  grown_width : (wanted : Wanted) → wanted_width old wanted triples ≡ wanted_width new wanted triples
  grown_width (Templates templates) = refl
  grown_width (Select query) = ap (width_of query.pattern) (same_graph old new grown triples meant)

  -- what stands over triples stands over them as the table grows
  pub still_stands : (standing : Kept) → StandsOver old triples standing → StandsOver new triples standing
  still_stands standing s = record {
    rows = grown_rows standing.wanted standing.parts standing.answer s.rows;
    narrow = subst (λ w. w ≤ 65536) (grown_width standing.wanted) s.narrow;
  }

-- ---- rows that stay, and rows that change

module _ (terms : ℕ → Option Term) (triples : List IdTriple) where
  same_lists : (wanted : Wanted) (old new : List RowList) (answer other : RowList) → AllZip HasSameRows old new → HasSameRows answer other
      → AreOf terms triples wanted old answer → AreOf terms triples wanted new other
  same_lists (Templates templates) old new answer other s e h = record {
    no_parts = zip_none HasSameRows old new s h.no_parts;
    answer_rows = exactly_same (Contains (matching_rows templates triples)) answer.rows other.rows (equal_same answer.rows other.rows (sym e)) h.answer_rows;
  }
  same_lists (Select query) old new answer other s e h =
      let graph = graph_in terms triples in
      record {
        valid = h.valid;
        part_rows = zip_through (AreRowsOf terms graph) HasSameRows (AreRowsOf terms graph)
            (λ pattern one two r k. rows_same terms graph pattern one two (equal_same one.rows two.rows (sym k)) r) (parts_of query.pattern) old new h.part_rows s;
        answer_rows = answer_same terms graph query answer.rows other.rows (equal_same answer.rows other.rows (sym e)) h.answer_rows;
      }

  -- what stands over triples stands over them while it keeps its rows
  pub keeps_standing : (old new : Kept) → KeepsRows old new → StandsOver terms triples old → StandsOver terms triples new
  keeps_standing old new k s = record {
    rows = subst (λ w. AreOf terms triples w new.parts new.answer) (sym k.wanted) (same_lists old.wanted old.parts new.parts old.answer new.answer k.parts k.answer s.rows);
    narrow = subst (λ w. wanted_width terms w triples ≤ 65536) (sym k.wanted) s.narrow;
  }

  module _ (olds : List RowList) (changes : List Changed) (fresh : List RowList) (apart : AllInThrees IsDifference olds changes fresh)
      (old : RowList) (change : Changed) (new : RowList) (differ : IsDifference old change new) where
    stepped : (wanted : Wanted) (lists : List RowList) (answer : RowList) → AreOf terms triples wanted fresh new → AllInThrees LeadsTo olds changes lists
        → LeadsTo old change answer → AreOf terms triples wanted lists answer
    stepped (Templates templates) lists answer h ls l = record {
      no_parts = threes_none IsDifference LeadsTo olds changes fresh lists apart ls h.no_parts;
      answer_rows = exactly_same (Contains (matching_rows templates triples)) new.rows answer.rows (leads_once old change new answer (difference_leads old change new differ) l) h.answer_rows;
    }
    stepped (Select query) lists answer h ls l =
        let graph = graph_in terms triples in
        record {
          valid = h.valid;
          part_rows = threes_carry IsDifference LeadsTo (AreRowsOf terms graph) (AreRowsOf terms graph)
              (λ o c f n pattern d k r. rows_same terms graph pattern f n (leads_once o c f n (difference_leads o c f d) k) r)
              olds changes fresh lists (parts_of query.pattern) apart ls h.part_rows;
          answer_rows = answer_same terms graph query new.rows answer.rows (leads_once old change new answer (difference_leads old change new differ) l) h.answer_rows;
        }

  -- a step of differences leads to what stands over the triples
  pub steps_to : (standing : Kept) (step : Changes) (fresh : List RowList) (answer : RowList) → AllInThrees IsDifference standing.parts step.parts fresh
      → IsDifference standing.answer step.answer answer → AreOf terms triples standing.wanted fresh answer → wanted_width terms standing.wanted triples ≤ 65536
      → StepsTo terms triples standing step
  steps_to standing step fresh answer ds d h narrow after is = record {
    rows = subst (λ w. AreOf terms triples w after.parts after.answer) (sym is.wanted)
        (stepped standing.parts step.parts fresh ds standing.answer step.answer answer d standing.wanted after.parts after.answer h is.parts is.answer);
    narrow = subst (λ w. wanted_width terms w triples ≤ 65536) (sym is.wanted) narrow;
  }

-- and is a step of the standing query
pub differences_of : (standing : Kept) (step : Changes) (fresh : List RowList) (answer : RowList) → AllInThrees IsDifference standing.parts step.parts fresh
    → IsDifference standing.answer step.answer answer → IsStepOf standing step
differences_of standing step fresh answer ds d = record {
  parts = threes_zip IsDifference IsChangeOf difference_of standing.parts step.parts fresh ds;
  answer = difference_of standing.answer step.answer answer d;
}

-- a step of a standing query is one of another that keeps its rows
pub still_step : (old new : Kept) (step : Changes) → KeepsRows old new → IsStepOf old step → IsStepOf new step
still_step old new step k s = record {
  parts = zip_across IsChangeOf HasSameRows IsChangeOf change_kept old.parts step.parts new.parts s.parts k.parts;
  answer = change_kept old.answer step.answer new.answer s.answer k.answer;
}

-- what it makes of the other, it makes of the one
pub steps_outlast : (old kept : Kept) (step : Changes) (new : Kept) → KeepsRows old kept → IsAfter kept step new → IsAfter old step new
steps_outlast old kept step new k is = record {
  wanted = is.wanted ∙ k.wanted;
  parts = threes_before HasSameRows LeadsTo LeadsTo leads_before old.parts kept.parts step.parts new.parts k.parts is.parts;
  answer = leads_before old.answer kept.answer step.answer new.answer k.answer is.answer;
}
