-- How one read of the source goes on with a report or ends it.
use Rattle.std.proofs.Common.{◌≡◌, ◌∙◌, ap, sym, refl, subst, arith, ℕ, ◌+◌, ◌-◌, ◌<◌, ◌≤◌, List, [], ◌++◌, length, take, Option, Some, None, Result, Ok, Err, append-nil, length-append}
use Rattle.std.specs.Io.KnownBytes.{Consumes, IsAtEnd, Keeps}
use Rattle.std.proofs.KnownBytes.{Consumes-nil, Consumes-trans, Consumes-kept}
use Rattle.sib_io.specs.Causes.{Rose}
use Rattle.sib_io.proofs.KnownLemmas.{appends_kept, part_kept}
use Rattle.ssap_decode.specs.Decoding.{fresh}
use Rattle.stream_report.specs.Report.{lines_of, report_of, IsReport}
use Rattle.stream_report.specs.Giving.{Outlet, outlet}
use Rattle.stream_report.specs.Ending.{Outside, outside, KeepsCounts, GivesReport, GivesLines, GivesPart, Outcome, Ended}
use Rattle.stream_report.specs.Feeding.{Reports, GivesFront, GivesEnd, Feeds, Finishes}
use Rattle.stream_report.specs.Turn.{Reading, ReadsPiece}
use Rattle.sib_io.specs.declared.reading.TheConstants.{INPUT_LIMIT}
use Rattle.stream_report.specs.declared.run.TheConstants.{BUFFER}
use Rattle.stream_report.specs.declared.ending.Ending.{Ending}
use Rattle.stream_report.specs.declared.ending.Ending.TheVariants.{Done, Stopped, ReadFault, WriteFault, NoMemory, Spent}
use Rattle.stream_report.specs.declared.reporter.Reporter.{Reporter}
use Rattle.stream_report.specs.declared.verdict.Report.{Report}
use Rattle.stream_report.specs.declared.verdict.Verdict.{Verdict}
use Rattle.stream_report.specs.declared.verdict.Verdict.TheVariants.{Fine, Stops}
use Rattle.stream_report.proofs.MessagesGiven.{reports_nothing, reports_kept, reported_front}
use Rattle.stream_report.proofs.EndingsTell.{given_left}

-- the same with another outlet
abbrev pub with_outlet : Outside → Outlet → Outside
with_outlet outside outlet = record { left = outside.left; reads = outside.reads; outlet = outlet }

-- a prefix of the report on whatever follows begins that on what is left
part_of_front : (report : Report) (old new : Outlet) (read : List ℕ) (left : Option (List ℕ)) → GivesFront report old new read → GivesPart report old new read left
part_of_front report old new read left front more output is here = front more output here

some_same : (a b : List ℕ) → ◌≡◌ {A = Option (List ℕ)} (Some a) (Some b) → b ≡ a
some_same a b e = cc

-- at the end nothing is left
part_of_end : (report : Report) (old new : Outlet) (read : List ℕ) (left : Option (List ℕ)) → IsAtEnd left → GivesEnd report old new read → GivesPart report old new read left
part_of_end report old new read None end gives more output is here = absurd (cc)
part_of_end report old new read (Some xs) end gives more output is here =
    let none : more ≡ [] = some_same xs more is ∙ end in
    gives output (subst (λ b. IsReport report b output) (ap (λ b. read ++ b) none ∙ append-nil read) here)

-- what messages give was given
reported_lines : (report : Report) (old now : Outlet) (read : List ℕ) (r : Reporter) → Reports report old now read r → GivesLines report old now read
reported_lines report old now read r x = record { messages = x.follows.messages; through = x.follows.through; given = x.gives.given }

-- a piece was read behind what was reported
pub record ReadOn (report : Report) (old mid : Outside) (read piece : List ℕ) (r : Reporter) : Type 0 where
  pub consumed : Consumes old.left mid.left (read ++ piece)
  pub reads : mid.reads ≡ old.reads
  pub reports : Reports report old.outlet mid.outlet read r

module _ (report : Report) (old now mid : Outside) (read : List ℕ) (left : ℕ) (r : Reporter) (buffer : List ℕ) (t : Reading report old now read left r) where
  -- the source failed, or the sink
  pub turn_failed : (ending : Ending) → 0 < left → ReadsPiece now mid buffer (Err ending) → Ended report old mid ending
  turn_failed Done some p = absurd p
  turn_failed Stopped some p = absurd p
  turn_failed NoMemory some p = absurd p
  turn_failed Spent some p = absurd p
  turn_failed ReadFault some (kept, writes, rose, stays) =
      let x = reports_kept report old.outlet now.outlet mid.outlet read r t.reports kept writes in
      record {
        read = read;
        consumed = Consumes-kept old.left now.left mid.left read t.consumed stays;
        limited = omega (arith, t.counted);
        outcome = (
          subst (λ n. Rose n mid.reads) t.reads rose,
          x.gives.faults,
          omega (arith, t.counted, some),
          reported_lines report old.outlet mid.outlet read r x,
        );
      }
  turn_failed WriteFault some (kept, rose, same) =
      let front = reported_front report old.outlet now.outlet read r t.reports in
      record {
        read = read;
        consumed = subst (λ o. Consumes old.left o read) (sym same) t.consumed;
        limited = omega (arith, t.counted);
        outcome = (
          subst (λ n. Rose n mid.outlet.faults) t.reports.gives.faults rose,
          λ more output is here. part_kept old.outlet.given now.outlet.given mid.outlet.given output (front more output here) kept,
        );
      }

  -- a piece was read
  pub turn_read : (count : ℕ) → ReadsPiece now mid buffer (Ok count) → ReadOn report old mid read (take count buffer) r
  turn_read count (kept, counts, consumed, end) = record {
    consumed = Consumes-trans old.left now.left mid.left read (take count buffer) t.consumed consumed;
    reads = counts.reads ∙ t.reads;
    reports = reports_kept report old.outlet now.outlet mid.outlet read r t.reports kept counts.writes;
  }

module _ (report : Report) (old mid : Outside) (read piece : List ℕ) (r : Reporter) (m : ReadOn report old mid read piece r) where
  -- the source has nothing left
  pub turn_over : (next : Outlet) (ending : Ending) → piece ≡ [] → IsAtEnd mid.left → length read < INPUT_LIMIT → Finishes report old.outlet next read ending
      → Ended report old (with_outlet mid next) ending
  turn_over next ending none end below f = record {
    read = read;
    consumed = subst (Consumes old.left mid.left) (ap (λ b. read ++ b) none ∙ append-nil read) m.consumed;
    limited = omega (arith, below);
    outcome = outcome ending f;
  }
    where
      outcome : (e : Ending) → Finishes report old.outlet next read e → Outcome report old (with_outlet mid next) read e
      outcome Done (kept, gives) = (record { reads = m.reads; writes = kept }, below, end, gives)
      outcome Stopped (kept, place, fault, gives) = (record { reads = m.reads; writes = kept }, below, place, fault, λ cut. end, gives)
      outcome ReadFault f = absurd f
      outcome WriteFault (gives, cause) = (cause, part_of_end report old.outlet next read mid.left end gives)
      outcome NoMemory (gives, cause) = (record { reads = m.reads; writes = cause }, below, part_of_end report old.outlet next read mid.left end gives)
      outcome Spent f = absurd f

  -- what was read could not all be reported
  pub turn_ends : (next : Outlet) (ending : Ending) (after : Reporter) → length (read ++ piece) < INPUT_LIMIT
      → Feeds {T = Unit {0}} report old.outlet next (read ++ piece) (read ++ piece) (Err ending) after → Ended report old (with_outlet mid next) ending
  turn_ends next ending after below f = record { read = read ++ piece; consumed = m.consumed; limited = omega (arith, below); outcome = outcome ending f }
    where
      outcome : (e : Ending) → Feeds {T = Unit {0}} report old.outlet next (read ++ piece) (read ++ piece) (Err e) after → Outcome report old (with_outlet mid next) (read ++ piece) e
      outcome Done f = absurd f
      outcome Stopped f = (record { reads = m.reads; writes = f.faults }, below, f.place, f.fault, λ cut. absurd (f.early cut), f.gives)
      outcome ReadFault f = absurd f
      outcome WriteFault (front, cause) = (cause, part_of_front report old.outlet next (read ++ piece) mid.left front)
      outcome NoMemory (front, cause) = (record { reads = m.reads; writes = cause }, below, part_of_front report old.outlet next (read ++ piece) mid.left front)
      outcome Spent f = absurd f

  -- as many bytes were taken as may be
  pub turn_spends : length (read ++ piece) ≡ INPUT_LIMIT → length piece ≤ BUFFER → Ended report old mid Spent
  turn_spends all small = record {
    read = read ++ piece;
    consumed = m.consumed;
    limited = omega (arith, all);
    outcome = (
      record { reads = m.reads; writes = m.reports.gives.faults },
      all,
      record { front = read; last = piece; split = refl; small = small; gives = reported_lines report old.outlet mid.outlet read r m.reports },
    );
  }

  -- what was read was reported
  pub turn_goes_on : (next : Outlet) (left count : ℕ) (after : Reporter) → length read + left ≡ INPUT_LIMIT → length piece ≡ count → count < left
      → Reports report old.outlet next (read ++ piece) after → Reading report old (with_outlet mid next) (read ++ piece) (left - count) after
  turn_goes_on next left count after all counted short x = record {
    consumed = m.consumed;
    reads = m.reads;
    counted = omega (arith, all, counted, short, length-append read piece);
    reports = x;
  }

-- what a piece gave, written in another way
pub feeds_as : (report : Report) (old new : Outlet) (read piece other : List ℕ) (result : Result (Unit {0}) Ending) (after : Reporter)
    → Feeds {T = Unit {0}} report old new (read ++ piece) (read ++ piece) result after → piece ≡ other
    → Feeds {T = Unit {0}} report old new (read ++ other) (read ++ other) result after
feeds_as report old new read piece other result after f same = subst (λ b. Feeds {T = Unit {0}} report old new (read ++ b) (read ++ b) result after) same f

-- a report that has read nothing
pub turns_start : (report : Report) (now : Outside) → Reading report now now [] INPUT_LIMIT (record { report = report; decoder = fresh; messages = 0 })
turns_start report now = record { consumed = Consumes-nil now.left; reads = refl; counted = omega arith; reports = reports_nothing report now.outlet }

-- a flush that hands all on leaves an ending as it is
pub ended_flushed : (report : Report) (old mid : Outside) (next : Outlet) (ending : Ending) → Keeps mid.outlet.given next.given → next.faults ≡ mid.outlet.faults
    → Ended report old mid ending → Ended report old (with_outlet mid next) ending
ended_flushed report old mid next ending kept writes e = record { read = e.read; consumed = e.consumed; limited = e.limited; outcome = outcome ending e.outcome }
  where
    counts : KeepsCounts old mid → KeepsCounts old (with_outlet mid next)
    counts k = record { reads = k.reads; writes = writes ∙ k.writes }

    whole : (v : Verdict) → GivesReport report old.outlet mid.outlet e.read v → GivesReport report old.outlet next e.read v
    whole v g = record {
      messages = g.messages;
      judged = g.judged;
      given = appends_kept old.outlet.given mid.outlet.given next.given (report_of report g.messages v) g.given kept;
    }

    lines : (read : List ℕ) → GivesLines report old.outlet mid.outlet read → GivesLines report old.outlet next read
    lines read g = record {
      messages = g.messages;
      through = g.through;
      given = appends_kept old.outlet.given mid.outlet.given next.given (lines_of report g.messages) g.given kept;
    }

    part : GivesPart report old.outlet mid.outlet e.read mid.left → GivesPart report old.outlet next e.read mid.left
    part p more output is here = part_kept old.outlet.given mid.outlet.given next.given output (p more output is here) kept

    outcome : (x : Ending) → Outcome report old mid e.read x → Outcome report old (with_outlet mid next) e.read x
    outcome Done (k, below, end, g) = (counts k, below, end, whole Fine g)
    outcome Stopped (k, below, place, fault, end, g) = (counts k, below, place, fault, end, whole (Stops place fault) g)
    outcome ReadFault (rose, w, below, g) = (rose, writes ∙ w, below, lines e.read g)
    outcome WriteFault (rose, p) = (subst (λ n. Rose old.outlet.faults n) (sym writes) rose, part p)
    outcome NoMemory (k, below, p) = (counts k, below, part p)
    outcome Spent (k, full, g) = (counts k, full, record { front = g.front; last = g.last; split = g.split; small = g.small; gives = lines g.front g.gives })

-- a count of faults that rose behind an ending rose
ended_rose : (report : Report) (old mid : Outside) (risen : ℕ) (ending : Ending) → Ended report old mid ending → Rose mid.outlet.faults risen → Rose old.outlet.faults risen
ended_rose report old mid risen Done e rose = subst (λ n. Rose n risen) e.outcome.0.writes rose
ended_rose report old mid risen Stopped e rose = subst (λ n. Rose n risen) e.outcome.0.writes rose
ended_rose report old mid risen ReadFault e rose = subst (λ n. Rose n risen) e.outcome.1 rose
ended_rose report old mid risen WriteFault e rose = omega (arith, e.outcome.0, rose)
ended_rose report old mid risen NoMemory e rose = subst (λ n. Rose n risen) e.outcome.0.writes rose
ended_rose report old mid risen Spent e rose = subst (λ n. Rose n risen) e.outcome.0.writes rose

-- a flush that fails makes a fault of the sink of any ending
pub ended_unflushed : (report : Report) (old mid : Outside) (next : Outlet) (ending : Ending) → Keeps mid.outlet.given next.given → Rose mid.outlet.faults next.faults
    → Ended report old mid ending → Ended report old (with_outlet mid next) WriteFault
ended_unflushed report old mid next ending kept rose e = record {
  read = e.read;
  consumed = e.consumed;
  limited = e.limited;
  outcome = (
    ended_rose report old mid next.faults ending e rose,
    λ more output is here. part_kept old.outlet.given mid.outlet.given next.given output (given_left report old mid ending e more output is here) kept,
  );
}
