-- What the exit status of a command means, by how the command came to it.
use Rattle.std.proofs.Common.{◌≡◌, ◌⊎◌, ◌∙◌, ap, sym, refl, subst, arith, inl, inr, ℕ, ◌<◌, ◌≤◌, List, length}
use Rattle.std.specs.Io.KnownBytes.{Appends}
use Rattle.sib_io.specs.Causes.{AppendsPart}
use Rattle.sib_io.specs.declared.reading.TheConstants.{INPUT_LIMIT}
use Rattle.sib_io.proofs.KnownLemmas.{whole_part}
use Rattle.made_script.specs.Made.{made_script}
use Rattle.stream_report.specs.Report.{IsFine}
use Rattle.stream_report.specs.Ending as reports
use Rattle.stream_report.specs.declared.verdict.Report.{Report}
use Rattle.stream_report.specs.declared.ending.Ending.{Ending as ReportEnding}
use Rattle.stream_report.specs.declared.ending.Ending.TheVariants as report_ending
use Rattle.stream_report.proofs.EndingsTell.{done_fine, stopped_not_fine, parts_given, spent_full, faultless_complete}
use Rattle.sib_replay.specs.Ending.{Outside, Ended, Ends, status_of}
use Rattle.sib_replay.specs.declared.ending.Ending.{Ending}
use Rattle.sib_replay.specs.declared.ending.Ending.TheVariants.{Done, BadScript, ReadFault, WriteFault, NoMemory, Spent}
use Rattle.sib_replay.proofs.RunLemmas.{done_told, bad_told, spent_told, ended_part, ended_rows, ended_complete}
use Rattle.sib_app.specs.Commands.{Command, Replay, Reports, Make, Trial}
use Rattle.sib_app.specs.Ending.{for_report, MakesScript, EndsReport, EndsMake, Comes}
use Rattle.sib_app.specs.Means.{NoneRose, MeansReplay, MeansReport, MeansMake, Means}
use Rattle.sib_app.proofs.TrialsMean.{trial_means}

-- ---- a replay

-- without a fault and with memory an input is read to its end, is no script, or is too long to be read to its end
replay_answered : (name : List ℕ) (old new : Outside) (ending : Ending) (status : ℕ) → status ≡ status_of ending → Ended name old new ending → NoneRose old new
    → (status ≡ 0) ⊎ (status ≡ 3) ⊎ (status ≡ 7) ⊎ (status ≡ 6)
replay_answered name old new Done status is e none = inl is
replay_answered name old new BadScript status is e none = inr (inl is)
replay_answered name old new Spent status is e none = inr (inr (inl is))
replay_answered name old new NoMemory status is e none = inr (inr (inr is))
replay_answered name old new ReadFault status is e none = absurd (none.reads e.outcome.1)
replay_answered name old new WriteFault status is e none = absurd (none.writes e.outcome.0)

replay_means : (name : List ℕ) (old new : Outside) (status : ℕ) → Ends name old new status → MeansReplay name old new status
replay_means name old new status (ending, is, e) = record {
  done = λ z. done_told name old new ending status e is z;
  bad = λ z. bad_told name old new ending status e is z;
  spent = λ z. spent_told name old new ending status e is z;
  part = λ all output tells whole. ended_part name old new ending all output e tells whole;
  cost = λ all entries rest events tells splits told. ended_rows name old new ending all entries rest events e tells splits told;
  complete = λ all entries tells script short none. subst (λ (n : ℕ). (n ≡ 0) ⊎ (n ≡ 6)) (sym is)
      (ended_complete name old new ending all entries e tells script short none.reads none.writes);
  answered = λ none. replay_answered name old new ending status is e none;
}

-- ---- a report

-- the ending of a report, by its status
is_done : (ending : ReportEnding) → reports.status_of ending ≡ 0 → ending ≡ report_ending.Done
is_done report_ending.Done z = refl
is_done report_ending.Stopped z = absurd (omega (arith, z))
is_done report_ending.ReadFault z = absurd (omega (arith, z))
is_done report_ending.WriteFault z = absurd (omega (arith, z))
is_done report_ending.NoMemory z = absurd (omega (arith, z))
is_done report_ending.Spent z = absurd (omega (arith, z))

is_stopped : (ending : ReportEnding) → reports.status_of ending ≡ 1 → ending ≡ report_ending.Stopped
is_stopped report_ending.Done z = absurd (omega (arith, z))
is_stopped report_ending.Stopped z = refl
is_stopped report_ending.ReadFault z = absurd (omega (arith, z))
is_stopped report_ending.WriteFault z = absurd (omega (arith, z))
is_stopped report_ending.NoMemory z = absurd (omega (arith, z))
is_stopped report_ending.Spent z = absurd (omega (arith, z))

is_spent : (ending : ReportEnding) → reports.status_of ending ≡ 7 → ending ≡ report_ending.Spent
is_spent report_ending.Done z = absurd (omega (arith, z))
is_spent report_ending.Stopped z = absurd (omega (arith, z))
is_spent report_ending.ReadFault z = absurd (omega (arith, z))
is_spent report_ending.WriteFault z = absurd (omega (arith, z))
is_spent report_ending.NoMemory z = absurd (omega (arith, z))
is_spent report_ending.Spent z = refl

report_means : (kind : Report) (old new : Outside) (status : ℕ) → EndsReport kind old new status → MeansReport kind old new status
report_means kind old new status (ending, is, e, rows) = record {
  done = λ z.
      let d = done_fine kind (for_report old) (for_report new) (subst (reports.Ended kind (for_report old) (for_report new)) (is_done ending (sym is ∙ z)) e) in
      (d.0, λ all output tells here. let fine = d.1 all tells in (fine.0, fine.2 output here));
  stopped = λ z all output tells here.
      let s = stopped_not_fine kind (for_report old) (for_report new) all (subst (reports.Ended kind (for_report old) (for_report new)) (is_stopped ending (sym is ∙ z)) e) tells in
      (s.0, s.1 output here);
  spent = λ z all tells. spent_full kind (for_report old) (for_report new) all (subst (reports.Ended kind (for_report old) (for_report new)) (is_spent ending (sym is ∙ z)) e) tells;
  part = λ all output tells here. parts_given kind (for_report old) (for_report new) ending all output e tells here;
  complete = λ all tells none. by_kind all (faultless_complete kind (for_report old) (for_report new) ending all e tells none.reads none.writes);
}
  where
    by_kind : (all : List ℕ) → (ending ≡ report_ending.NoMemory) ⊎ ((ending ≡ report_ending.Done) × IsFine all × (length all < INPUT_LIMIT))
        ⊎ ((ending ≡ report_ending.Stopped) × (¬ (IsFine all))) ⊎ ((ending ≡ report_ending.Spent) × (INPUT_LIMIT ≤ length all))
        → (status ≡ 6) ⊎ ((status ≡ 0) × IsFine all) ⊎ ((status ≡ 1) × (¬ (IsFine all))) ⊎ ((status ≡ 7) × (INPUT_LIMIT ≤ length all))
    by_kind all (inl memory) = inl (is ∙ ap reports.status_of memory)
    by_kind all (inr (inl (done, fine, below))) = inr (inl (is ∙ ap reports.status_of done, fine))
    by_kind all (inr (inr (inl (stopped, not)))) = inr (inr (inl (is ∙ ap reports.status_of stopped, not)))
    by_kind all (inr (inr (inr (spent, full)))) = inr (inr (inr (is ∙ ap reports.status_of spent, full)))

-- ---- a make

make_done : (updates : ℕ) (old new : Outside) (ending : Ending) → status_of ending ≡ 0 → MakesScript updates old new ending → Appends old.given new.given (made_script updates)
make_done updates old new Done z made = made.0
make_done updates old new BadScript z made = absurd made
make_done updates old new ReadFault z made = absurd made
make_done updates old new WriteFault z made = absurd (omega (arith, z))
make_done updates old new NoMemory z made = absurd (omega (arith, z))
make_done updates old new Spent z made = absurd made

make_part : (updates : ℕ) (old new : Outside) (ending : Ending) → MakesScript updates old new ending → AppendsPart old.given new.given (made_script updates)
make_part updates old new Done made = whole_part old.given new.given (made_script updates) made.0
make_part updates old new BadScript made = absurd made
make_part updates old new ReadFault made = absurd made
make_part updates old new WriteFault made = made.0
make_part updates old new NoMemory made = made.0
make_part updates old new Spent made = absurd made

make_complete : (updates : ℕ) (old new : Outside) (ending : Ending) (status : ℕ) → status ≡ status_of ending → MakesScript updates old new ending → NoneRose old new → (status ≡ 0) ⊎ (status ≡ 6)
make_complete updates old new Done status is made none = inl is
make_complete updates old new BadScript status is made none = absurd made
make_complete updates old new ReadFault status is made none = absurd made
make_complete updates old new WriteFault status is made none = absurd (none.writes made.1)
make_complete updates old new NoMemory status is made none = inr is
make_complete updates old new Spent status is made none = absurd made

make_means : (updates : ℕ) (old new : Outside) (status : ℕ) → EndsMake updates old new status → MeansMake updates old new status
make_means updates old new status (ending, is, made, source, rows) = record {
  done = λ z. make_done updates old new ending (sym is ∙ z) made;
  part = make_part updates old new ending made;
  complete = λ none. make_complete updates old new ending status is made none;
}

-- ---- any command

pub statuses_mean : (command : Command) (old new : Outside) (status : ℕ) → Comes command old new status → Means command old new status
statuses_mean (Replay name) old new status comes = replay_means name old new status comes
statuses_mean (Reports kind) old new status comes = report_means kind old new status comes
statuses_mean (Make updates) old new status comes = make_means updates old new status comes
statuses_mean (Trial updates) old new status comes = trial_means updates old new status comes
