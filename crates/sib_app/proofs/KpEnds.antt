-- What each status of a client's run means.
use Rattle.std.proofs.Common.{◌≡◌, ◌∙◌, ap, sym, refl, subst, arith, ℕ, ◌<◌, ◌≤◌, List, [], ◌⊎◌, inl, inr, length, Some, length-append}
use Rattle.std.proofs.KnownBytes.{Consumes-nil, Keeps-refl}
use Rattle.sib_io.specs.Causes.{Rose}
use Rattle.sib_io.proofs.KnownLemmas.{whole_part, kept_part, part_of_more}
use Rattle.ssap_shape.specs.declared.status.Status.{Status}
use Rattle.kp_talk.specs.declared.errand.Errand.{Errand}
use Rattle.kp_talk.specs.declared.ending.Ending.{Ending}
use Rattle.kp_talk.specs.declared.ending.Ending.TheVariants.{Finished, ReadFault, WriteFault, NoMemory, Spent}
use Rattle.sib_io.specs.declared.reading.TheConstants.{INPUT_LIMIT}
use Rattle.kp_talk.specs.declared.finish.Finish.{Finish}
use Rattle.kp_talk.specs.declared.finish.Finish.TheVariants.{Done, Refused, Ended as End, BrokenSubscription, BrokenGap, BrokenForm, BrokenConflict, BrokenMessage, BrokenStream, Over}
use Rattle.kp_talk.specs.declared.finish.Break.TheVariants.{Syntax, Long, Cut}
use Rattle.kp_talk.specs.Talk.{Talk}
use Rattle.kp_talk.specs.Lines.{status_of, written, printed, output, finish_line}
use Rattle.kp_talk.specs.Reading.{IsTalk, IsClean}
use Rattle.kp_talk.specs.Saying.{SaysPart}
use Rattle.kp_talk.specs.Ending.{Outside, Ended, ending_status, Outcome, GivesAll, GivesTalk, GivesPart}
use Rattle.kp_talk.proofs.TalksOnce.{one_talk}
use Rattle.kp_talk.proofs.TalksStay.{same_talk}
use Rattle.sib_app.specs.KpRun.{IsWhole, IsRefused, IsBroken, IsOver, IsSpent, IsPart, NoneRose, IsComplete, Means}
use Rattle.sib_replay.proofs.RunLemmas.{left_behind, all_read}

-- the status of a finish is none of those of a run that failed
finish_status : (finish : Finish) → (status_of finish ≡ 0) ⊎ (8 ≤ status_of finish)
finish_status Done = inl refl
finish_status (Refused status) = inr (omega arith)
finish_status (End status) = inr (omega arith)
finish_status (BrokenSubscription want got) = inr (omega arith)
finish_status (BrokenGap want got) = inr (omega arith)
finish_status BrokenForm = inr (omega arith)
finish_status BrokenConflict = inr (omega arith)
finish_status BrokenMessage = inr (omega arith)
finish_status (BrokenStream place kind) = inr (omega arith)
finish_status Over = inr (omega arith)

-- a run with such a status finished
finished_run : (ending : Ending) (status : ℕ) → status ≡ ending_status ending → (status ≡ 0) ⊎ (8 ≤ status) → (finish : Finish) × (ending ≡ Finished finish) × (status ≡ status_of finish)
finished_run (Finished finish) status is so = (finish, refl, is)
finished_run ReadFault status is so = absurd (omega (arith, is, so))
finished_run WriteFault status is so = absurd (omega (arith, is, so))
finished_run NoMemory status is so = absurd (omega (arith, is, so))
finished_run Spent status is so = absurd (omega (arith, is, so))

-- how a talk finishes at each status
done_finish : (finish : Finish) → status_of finish ≡ 0 → finish ≡ Done
done_finish Done e = refl
done_finish (Refused status) e = absurd (cc)
done_finish (End status) e = absurd (cc)
done_finish (BrokenSubscription want got) e = absurd (cc)
done_finish (BrokenGap want got) e = absurd (cc)
done_finish BrokenForm e = absurd (cc)
done_finish BrokenConflict e = absurd (cc)
done_finish BrokenMessage e = absurd (cc)
done_finish (BrokenStream place kind) e = absurd (cc)
done_finish Over e = absurd (cc)

over_finish : (finish : Finish) → status_of finish ≡ 10 → finish ≡ Over
over_finish Done e = absurd (cc)
over_finish (Refused status) e = absurd (cc)
over_finish (End status) e = absurd (cc)
over_finish (BrokenSubscription want got) e = absurd (cc)
over_finish (BrokenGap want got) e = absurd (cc)
over_finish BrokenForm e = absurd (cc)
over_finish BrokenConflict e = absurd (cc)
over_finish BrokenMessage e = absurd (cc)
over_finish (BrokenStream place kind) e = absurd (cc)
over_finish Over e = refl

refused_finish : (finish : Finish) → status_of finish ≡ 8 → (status : Status) × ((finish ≡ Refused status) ⊎ (finish ≡ End status))
refused_finish Done e = absurd (cc)
refused_finish (Refused status) e = (status, inl refl)
refused_finish (End status) e = (status, inr refl)
refused_finish (BrokenSubscription want got) e = absurd (cc)
refused_finish (BrokenGap want got) e = absurd (cc)
refused_finish BrokenForm e = absurd (cc)
refused_finish BrokenConflict e = absurd (cc)
refused_finish BrokenMessage e = absurd (cc)
refused_finish (BrokenStream place kind) e = absurd (cc)
refused_finish Over e = absurd (cc)

-- whether nothing was broken
clean_or : (finish : Finish) → IsClean finish ⊎ ¬ (IsClean finish)
clean_or Done = inr (λ c. c)
clean_or (Refused status) = inr (λ c. c)
clean_or (End status) = inr (λ c. c)
clean_or (BrokenSubscription want got) = inr (λ c. c)
clean_or (BrokenGap want got) = inr (λ c. c)
clean_or BrokenForm = inr (λ c. c)
clean_or BrokenConflict = inr (λ c. c)
clean_or BrokenMessage = inr (λ c. c)
clean_or (BrokenStream place Syntax) = inr (λ c. c)
clean_or (BrokenStream place Long) = inr (λ c. c)
clean_or (BrokenStream place Cut) = inl tt
clean_or Over = inl tt

-- without memory nothing was read, written or printed
pub unstarted_run : (errand : Errand) (now : Outside) → Ended errand now now NoMemory
unstarted_run errand now = record {
  read = [];
  consumed = Consumes-nil now.left;
  limited = omega arith;
  outcome = (
    record { reads = refl; writes = refl; prints = refl },
    λ talk talks.
        record {
          written = kept_part now.outlets.written now.outlets.written (written talk) (Keeps-refl now.outlets.written);
          printed = kept_part now.outlets.printed now.outlets.printed (output talk) (Keeps-refl now.outlets.printed);
        },
  );
}

module _ (errand : Errand) (old new : Outside) where
  -- a talk that finished is whole
  whole_run : (finish : Finish) → Ended errand old new (Finished finish) → IsWhole errand old new finish
  whole_run finish e =
      let (kept, talk, talks, finishes, given, over) = e.outcome in
      record { read = e.read; consumed = e.consumed; talk = talk; talks = talks; finishes = finishes; given = given }

  -- what a run that finished was
  finished_at : (ending : Ending) (status : ℕ) → Ended errand old new ending → status ≡ ending_status ending → (status ≡ 0) ⊎ (8 ≤ status)
      → (finish : Finish) × (status ≡ status_of finish) × Ended errand old new (Finished finish)
  finished_at ending status e is so =
      let (finish, same, at) = finished_run ending status is so in
      (finish, at, subst (Ended errand old new) same e)

  -- all confirms came
  done_run : (ending : Ending) (status : ℕ) → Ended errand old new ending → status ≡ ending_status ending → status ≡ 0 → IsWhole errand old new Done
  done_run ending status e is z =
      let (finish, at, f) = finished_at ending status e is (inl z) in
      subst (IsWhole errand old new) (done_finish finish (sym at ∙ z)) (whole_run finish f)

  -- a request was refused, or the subscription ended
  refused_run : (ending : Ending) (status : ℕ) → Ended errand old new ending → status ≡ ending_status ending → status ≡ 8 → IsRefused errand old new
  refused_run ending status e is z =
      let (finish, at, f) = finished_at ending status e is (inr (omega (arith, z))) in
      let (why, which) = refused_finish finish (sym at ∙ z) in (
        why,
        elim which as (λ _. IsWhole errand old new (Refused why) ⊎ IsWhole errand old new (End why)) [
          | inl s ↦ inl (subst (IsWhole errand old new) s (whole_run finish f))
          | inr s ↦ inr (subst (IsWhole errand old new) s (whole_run finish f))
        ],
      )

  -- something was broken
  broken_run : (ending : Ending) (status : ℕ) → Ended errand old new ending → status ≡ ending_status ending → status ≡ 9 → IsBroken errand old new
  broken_run ending status e is z =
      let (finish, at, f) = finished_at ending status e is (inr (omega (arith, z))) in
      (finish, sym at ∙ z, whole_run finish f)

  -- the input ended between messages
  over_run : (ending : Ending) (status : ℕ) → Ended errand old new ending → status ≡ ending_status ending → status ≡ 10 → IsOver errand old new
  over_run ending status e is z =
      let (finish, at, f) = finished_at ending status e is (inr (omega (arith, z))) in
      let o : Ended errand old new (Finished Over) = subst (λ (x : Finish). Ended errand old new (Finished x)) (over_finish finish (sym at ∙ z)) f in
      let (kept, talk, talks, finishes, given, over) = o.outcome in
      (whole_run Over o, (over tt).0)

  -- as many bytes were taken as may be
  spent_run : (ending : Ending) (status : ℕ) → Ended errand old new ending → status ≡ ending_status ending → status ≡ 7 → IsSpent errand old new
  spent_run Spent status e is z =
      let (kept, full, talk, waits, given) = e.outcome in
      record { read = e.read; consumed = e.consumed; full = full; talk = talk; waits = waits; given = given }
  spent_run (Finished finish) status e is z = absurd (omega (arith, is, z, finish_status finish))
  spent_run ReadFault status e is z = absurd (omega (arith, is, z))
  spent_run WriteFault status e is z = absurd (omega (arith, is, z))
  spent_run NoMemory status e is z = absurd (omega (arith, is, z))

  -- what was given of the talk over the bytes is a part of it
  part_of_all : (read : List ℕ) (talk : Talk) → IsTalk errand read talk → GivesAll old new talk → GivesPart errand old new read
  part_of_all read talk talks given other is =
      let same : talk ≡ other = one_talk errand read talk other talks is in
      let part : SaysPart old.outlets new.outlets (written talk) (output talk) = record {
        written = whole_part old.outlets.written new.outlets.written (written talk) given.written;
        printed = whole_part old.outlets.printed new.outlets.printed (output talk) given.printed;
      } in
      subst (λ (t : Talk). SaysPart old.outlets new.outlets (written t) (output t)) same part

  part_of_talk : (read : List ℕ) (talk : Talk) → IsTalk errand read talk → GivesTalk old new talk → GivesPart errand old new read
  part_of_talk read talk talks given other is =
      let same : talk ≡ other = one_talk errand read talk other talks is in
      let part : SaysPart old.outlets new.outlets (written talk) (output talk) = record {
        written = whole_part old.outlets.written new.outlets.written (written talk) given.written;
        printed = part_of_more old.outlets.printed new.outlets.printed (printed talk) (finish_line talk.finish)
            (whole_part old.outlets.printed new.outlets.printed (printed talk) given.printed);
      } in
      subst (λ (t : Talk). SaysPart old.outlets new.outlets (written t) (output t)) same part

  -- whatever the ending, no more was written and printed
  pub part_run : (ending : Ending) → Ended errand old new ending → IsPart errand old new
  part_run ending e = record { read = e.read; consumed = e.consumed; part = by_outcome ending e.outcome }
    where
      by_outcome : (x : Ending) → Outcome errand old new e.read x → GivesPart errand old new e.read
      by_outcome (Finished finish) (kept, talk, talks, finishes, given, over) = part_of_all e.read talk talks given
      by_outcome ReadFault (rose, writes, prints, talk, waits, given, below) = part_of_talk e.read talk waits.talks given
      by_outcome WriteFault (rose, part) = part
      by_outcome NoMemory (kept, part) = part
      by_outcome Spent (kept, full, talk, waits, given) = part_of_talk e.read talk waits.talks given

  -- where nothing fails, the talk over all bytes is the talk over those that were read
  whole_finish : (finish : Finish) (all : List ℕ) (talk : Talk) → Ended errand old new (Finished finish) → old.left ≡ Some all → IsTalk errand all talk
      → (status_of finish ≡ status_of talk.finish) × GivesAll old new talk
  whole_finish finish all talk e is talks =
      let (kept, mine, my_talks, finishes, given, over) = e.outcome in
      let (more, left, split) = left_behind old.left new.left e.read all e.consumed is in
      let over_all : IsTalk errand all mine =
      elim (clean_or finish) as (λ _. IsTalk errand all mine) [
        | inl clean ↦ subst (λ (l : List ℕ). IsTalk errand l mine) (sym (all_read old.left new.left e.read all e.consumed (over clean).0 is)) my_talks
        | inr broken ↦ subst (λ (l : List ℕ). IsTalk errand l mine) (sym split)
            (same_talk errand e.read more mine my_talks (λ c. broken (subst IsClean finishes c)))
      ] in
      let same : mine ≡ talk = one_talk errand all mine talk over_all talks in
      (ap status_of (sym finishes) ∙ ap (λ (t : Talk). status_of t.finish) same, subst (GivesAll old new) same given)

  complete_run : (ending : Ending) (status : ℕ) → Ended errand old new ending → status ≡ ending_status ending → (all : List ℕ) (talk : Talk) → old.left ≡ Some all → IsTalk errand all talk
      → length all < INPUT_LIMIT → NoneRose old new → IsComplete old new talk status
  complete_run (Finished finish) status e is all talk tells talks short none =
      let (same, given) = whole_finish finish all talk e tells talks in
      inr (is ∙ same, given)
  complete_run ReadFault status e is all talk tells talks short none = absurd (none.reads e.outcome.0)
  complete_run WriteFault status e is all talk tells talks short none = absurd (not_both e.outcome.0)
    where
      not_both : Rose old.outlets.writes new.outlets.writes ⊎ Rose old.outlets.prints new.outlets.prints → ⊥
      not_both (inl rose) = none.writes rose
      not_both (inr rose) = none.prints rose
  complete_run NoMemory status e is all talk tells talks short none = inl is
  complete_run Spent status e is all talk tells talks short none =
      let (more, left, split) = left_behind old.left new.left e.read all e.consumed tells in
      absurd (omega (arith, e.outcome.1, short, ap length split, length-append e.read more))

  -- what the status of a run means
  pub run_means : (ending : Ending) (status : ℕ) → Ended errand old new ending → status ≡ ending_status ending → Means errand old new status
  run_means ending status e is = record {
    done = done_run ending status e is;
    refused = refused_run ending status e is;
    broken = broken_run ending status e is;
    over = over_run ending status e is;
    spent = spent_run ending status e is;
    part = part_run ending e;
    complete = complete_run ending status e is;
  }
