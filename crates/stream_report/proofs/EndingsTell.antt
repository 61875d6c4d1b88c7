-- What each ending of a report says of a source that tells its bytes.
use Rattle.std.proofs.Common.{◌≡◌, ◌≢◌, ◌⊎◌, ◌∙◌, ap, sym, refl, subst, arith, inl, inr, ℕ, ◌<◌, ◌≤◌, List, ◌++◌, length, Option, Some, None, append-nil, length-append}
use Rattle.std.specs.Io.KnownBytes.{Appends, Consumes, IsAtEnd}
use Rattle.sib_io.specs.Causes.{Rose, AppendsPart}
use Rattle.sib_io.proofs.KnownLemmas.{whole_part}
use Rattle.stream_report.specs.Report.{IsFine, IsJudged, lines_of, IsReport}
use Rattle.stream_report.specs.Ending.{Outside, GivesReport, GivesPart, Outcome, Ended}
use Rattle.sib_io.specs.declared.reading.TheConstants.{INPUT_LIMIT}
use Rattle.stream_report.specs.declared.ending.Ending.{Ending}
use Rattle.stream_report.specs.declared.ending.Ending.TheVariants.{Done, Stopped, ReadFault, WriteFault, NoMemory, Spent}
use Rattle.stream_report.specs.declared.verdict.Report.{Report}
use Rattle.stream_report.specs.declared.verdict.Fault.{Fault}
use Rattle.stream_report.specs.declared.verdict.Fault.TheVariants.{Syntax, Long, Cut}
use Rattle.stream_report.specs.declared.verdict.Verdict.TheVariants.{Fine, Stops}
use Rattle.stream_report.proofs.InputsJudged.{judged_stays, report_is}
use Rattle.stream_report.proofs.FineInputs.{judged_fine, stops_not_fine}
use Rattle.stream_report.proofs.MessagesGiven.{front_of_lines, front_of_more}
use Rattle.stream_report.specs.Feeding.{GivesFront}

-- what is left behind the bytes that were read, of a source that tells
pub left_behind : (old new : Option (List ℕ)) (read input : List ℕ) → Consumes old new read → old ≡ Some input → (more : List ℕ) × (new ≡ Some more) × (input ≡ read ++ more)
left_behind None new read input c e = absurd (cc)
left_behind (Some xs) None read input c e = absurd c
left_behind (Some xs) (Some ys) read input c e = (ys, refl, same input xs e ∙ c)
  where
    same : (a x : List ℕ) → ◌≡◌ {A = Option (List ℕ)} (Some x) (Some a) → a ≡ x
    same a x e = cc

-- nothing is left behind an input that was read to its end
at_end : (left : Option (List ℕ)) (read more : List ℕ) → IsAtEnd left → left ≡ Some more → read ++ more ≡ read
at_end left read more end is = ap (λ b. read ++ b) (subst IsAtEnd is end) ∙ append-nil read

-- a stop in the bytes that were read stands in the input
module _ (report : Report) (old new : Outside) (read : List ℕ) (place : ℕ) (fault : Fault) (end : fault ≡ Cut → IsAtEnd new.left)
    (g : GivesReport report old.outlet new.outlet read (Stops place fault)) (more : List ℕ) (left : new.left ≡ Some more) where
  stopped_judged : IsJudged (read ++ more) g.messages (Stops place fault)
  stopped_judged = by_fault fault end g.judged
    where
      by_fault : (f : Fault) → (f ≡ Cut → IsAtEnd new.left) → IsJudged read g.messages (Stops place f) → IsJudged (read ++ more) g.messages (Stops place f)
      by_fault Syntax e x = judged_stays read more g.messages place Syntax (λ s. absurd (cc)) x
      by_fault Long e x = judged_stays read more g.messages place Long (λ s. absurd (cc)) x
      by_fault Cut e x = subst (λ b. IsJudged b g.messages (Stops place Cut)) (sym (at_end new.left read more (e refl) left)) x

  stopped_whole : (output : List ℕ) → IsReport report (read ++ more) output → Appends old.outlet.given new.outlet.given output
  stopped_whole output is = subst (Appends old.outlet.given new.outlet.given) (sym (report_is report (read ++ more) output g.messages (Stops place fault) stopped_judged is)) g.given

-- what was given begins the report on the bytes that were read and those that are left
pub given_left : (report : Report) (old new : Outside) (ending : Ending) → (e : Ended report old new ending) → GivesPart report old.outlet new.outlet e.read new.left
given_left report old new ending e = by_outcome ending e.outcome
  where
    by_outcome : (x : Ending) → Outcome report old new e.read x → GivesPart report old.outlet new.outlet e.read new.left
    by_outcome Done (kept, below, end, g) more output left is =
        let here = subst (λ b. IsReport report b output) (at_end new.left e.read more end left) is in
        whole_part old.outlet.given new.outlet.given output
        (subst (Appends old.outlet.given new.outlet.given) (sym (report_is report e.read output g.messages Fine g.judged here)) g.given)
    by_outcome Stopped (kept, below, place, fault, end, g) more output left is =
        whole_part old.outlet.given new.outlet.given output (stopped_whole report old new e.read place fault end g more left output is)
    by_outcome ReadFault (rose, writes, below, g) more output left is =
        front_of_lines report old.outlet new.outlet e.read g.messages g.through (whole_part old.outlet.given new.outlet.given (lines_of report g.messages) g.given) more output is
    by_outcome WriteFault (rose, part) more output left is = part more output left is
    by_outcome NoMemory (kept, below, part) more output left is = part more output left is
    by_outcome Spent (kept, full, g) more output left is =
        let front = front_of_lines report old.outlet new.outlet g.front g.gives.messages g.gives.through
        (whole_part old.outlet.given new.outlet.given (lines_of report g.gives.messages) g.gives.given) in
        subst (GivesFront report old.outlet new.outlet) (sym g.split) (front_of_more report old.outlet new.outlet g.front g.last front) more output is

module _ (report : Report) (old new : Outside) where
  -- a report that is done has read all of an input that is fine, and has given all of the report
  pub done_fine : Ended report old new Done → IsAtEnd new.left × ((input : List ℕ) → old.left ≡ Some input
      → IsFine input × (length input < INPUT_LIMIT) × ((output : List ℕ) → IsReport report input output → Appends old.outlet.given new.outlet.given output))
  done_fine e =
      let (kept, below, end, g) = e.outcome in (
        end,
        λ input is.
            let (more, left, all) = left_behind old.left new.left e.read input e.consumed is in
            let same : input ≡ e.read = all ∙ at_end new.left e.read more end left in (
              subst IsFine (sym same) (g.messages, judged_fine e.read g.messages g.judged),
              subst (λ b. length b < INPUT_LIMIT) (sym same) below,
              λ output here. subst (Appends old.outlet.given new.outlet.given)
                  (sym (report_is report e.read output g.messages Fine g.judged (subst (λ b. IsReport report b output) same here))) g.given,
            ),
      )

  -- a report that stopped has given all of the report on an input that is not fine
  pub stopped_not_fine : (input : List ℕ) → Ended report old new Stopped → old.left ≡ Some input
      → (¬ (IsFine input)) × ((output : List ℕ) → IsReport report input output → Appends old.outlet.given new.outlet.given output)
  stopped_not_fine input e is =
      let (kept, below, place, fault, end, g) = e.outcome in
      let (more, left, all) = left_behind old.left new.left e.read input e.consumed is in (
        subst (λ b. ¬ (IsFine b)) (sym all) (stops_not_fine (e.read ++ more) g.messages place fault (stopped_judged report old new e.read place fault end g more left)),
        λ output here. stopped_whole report old new e.read place fault end g more left output (subst (λ b. IsReport report b output) all here),
      )

  -- what was given begins the report on the whole input
  pub parts_given : (ending : Ending) (input output : List ℕ) → Ended report old new ending → old.left ≡ Some input → IsReport report input output
      → AppendsPart old.outlet.given new.outlet.given output
  parts_given ending input output e is here =
      let (more, left, all) = left_behind old.left new.left e.read input e.consumed is in
      given_left report old new ending e more output left (subst (λ b. IsReport report b output) all here)

  -- so many bytes were there
  pub spent_full : (input : List ℕ) → Ended report old new Spent → old.left ≡ Some input → INPUT_LIMIT ≤ length input
  spent_full input e is =
      let (more, left, all) = left_behind old.left new.left e.read input e.consumed is in
      omega (arith, e.outcome.1, ap length all, length-append e.read more)

  -- without a fault, and with memory, an input is reported by what it is
  pub faultless_complete : (ending : Ending) (input : List ℕ) → Ended report old new ending → old.left ≡ Some input → ¬ (Rose old.reads new.reads)
      → ¬ (Rose old.outlet.faults new.outlet.faults)
      → (ending ≡ NoMemory) ⊎ ((ending ≡ Done) × IsFine input × (length input < INPUT_LIMIT))
      ⊎ ((ending ≡ Stopped) × (¬ (IsFine input))) ⊎ ((ending ≡ Spent) × (INPUT_LIMIT ≤ length input))
  faultless_complete NoMemory input e is reads writes = inl refl
  faultless_complete Done input e is reads writes = let d = (done_fine e).1 input is in inr (inl (refl, d.0, d.1))
  faultless_complete Stopped input e is reads writes = inr (inr (inl (refl, (stopped_not_fine input e is).0)))
  faultless_complete Spent input e is reads writes = inr (inr (inr (refl, spent_full input e is)))
  faultless_complete ReadFault input e is reads writes = absurd (reads e.outcome.0)
  faultless_complete WriteFault input e is reads writes = absurd (writes e.outcome.0)

  -- the source is blamed only where its count rose, and the sink where its count did
  pub failures_caused : ((e : Ended report old new ReadFault) → Rose old.reads new.reads) × ((e : Ended report old new WriteFault) → Rose old.outlet.faults new.outlet.faults)
  failures_caused = (λ e. e.outcome.0, λ e. e.outcome.0)

  -- at the other endings neither rose
  pub others_none : (ending : Ending) → Ended report old new ending → ending ≢ ReadFault → ending ≢ WriteFault
      → (new.reads ≡ old.reads) × (new.outlet.faults ≡ old.outlet.faults)
  others_none Done e read write = (e.outcome.0.reads, e.outcome.0.writes)
  others_none Stopped e read write = (e.outcome.0.reads, e.outcome.0.writes)
  others_none ReadFault e read write = absurd (read refl)
  others_none WriteFault e read write = absurd (write refl)
  others_none NoMemory e read write = (e.outcome.0.reads, e.outcome.0.writes)
  others_none Spent e read write = (e.outcome.0.reads, e.outcome.0.writes)
