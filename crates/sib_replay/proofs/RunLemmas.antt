-- What each status of a replay says of a source that tells its bytes.
use Rattle.std.proofs.Common.{◌≡◌, ◌≢◌, ◌∙◌, ap, sym, refl, subst, arith, ℕ, ◌+◌, ◌<◌, ◌≤◌, List, [], ◌∷◌, ◌++◌, ◌⊎◌, length, Option, Some, None, IfSome, append-nil, length-append, inl, inr}
use Rattle.std.specs.Io.KnownBytes.{Appends, Consumes, IsAtEnd, Keeps}
use Rattle.std.proofs.KnownBytes.{Consumes-nil, Keeps-refl}
use Rattle.sib_io.specs.Causes.{Rose, AppendsPart}
use Rattle.sib_io.proofs.KnownLemmas.{whole_part, kept_part, part_kept}
use Rattle.sib_script.specs.declared.entry.Entry.{Entry}
use Rattle.sib_script.specs.Script.{IsScript, Splits}
use Rattle.sib_script.proofs.ScriptLaws.{splits_script, splits_unique, inside_no_script}
use Rattle.sib_script.proofs.Places.{place_stays}
use Rattle.sib_replay.specs.Output.{Event, answers, farewell, rows, AreTaken, IsOutput}
use Rattle.sib_replay.specs.Ending.{Outside, outside, Ended, Outcome, GivesPart, GivesAnswers, GivesAll, GivesBefore, status_of}
use Rattle.sib_replay.specs.Session.{GivesFront}
use Rattle.sib_io.specs.declared.reading.TheConstants.{INPUT_LIMIT}
use Rattle.sib_replay.specs.declared.ending.Ending.{Ending}
use Rattle.sib_replay.specs.declared.ending.Ending.TheVariants.{Done, BadScript, ReadFault, WriteFault, NoMemory, Spent}
use Rattle.sib_replay.proofs.OutputLemmas.{told_same}
use Rattle.sib_replay.proofs.ReplayLemmas.{front_of_output}
use Rattle.sib_replay.proofs.FaultLemmas.{dead_stays, output_of_fault, output_of_dead}

-- what is left behind the bytes that were read, of a source that tells
pub left_behind : (old new : Option (List ℕ)) (read all : List ℕ) → Consumes old new read → old ≡ Some all → (more : List ℕ) × (new ≡ Some more) × (all ≡ read ++ more)
left_behind None new read all c e = absurd (cc)
left_behind (Some xs) None read all c e = absurd c
left_behind (Some xs) (Some ys) read all c e = (ys, refl, same all xs e ∙ c)
  where
    same : (a x : List ℕ) → ◌≡◌ {A = Option (List ℕ)} (Some x) (Some a) → a ≡ x
    same a x e = cc

-- nothing is left behind all that was read
pub all_read : (old new : Option (List ℕ)) (read all : List ℕ) → Consumes old new read → IsAtEnd new → old ≡ Some all → all ≡ read
all_read old new read all c end e =
    let (more, is, whole) = left_behind old new read all c e in
    whole ∙ ap (λ l. read ++ l) (subst IsAtEnd is end) ∙ append-nil read

-- a claim on what a source tells
told : (P : List ℕ → Type 0) (o : Option (List ℕ)) → ((all : List ℕ) → o ≡ Some all → P all) → IfSome o P
told P None f = tt
told P (Some all) f = f all refl

-- all that was given is a front of the output where the answers to the whole entries were
front_of_answers : (name : List ℕ) (old new : Option (List ℕ)) (read rest : List ℕ) → GivesAnswers name old new read rest → GivesFront name old new read
front_of_answers name old new read rest g =
    front_of_output name old new read rest g.entries g.events g.splits g.taken (whole_part old new (answers name g.events) g.given)

-- the whole output of a script is what was given
all_of_output : (name : List ℕ) (old new : Option (List ℕ)) (read output : List ℕ) → GivesAll name old new read → IsOutput name read output → Appends old new output
all_of_output name old new read output g (fs, left, gs, place, splits, at, taken, is) =
    let same = splits_unique read g.entries fs [] left (splits_script read g.entries g.script) splits in
    let gone : gs ≡ g.events = told_same name g.entries g.events gs g.taken (subst (λ l. AreTaken name l gs) (sym same.0) taken) in
    subst (Appends old new) (ap (λ l. answers name g.events ++ farewell name g.events place l) same.1
    ∙ ap (λ ds. answers name ds ++ farewell name ds place left) (sym gone) ∙ sym is) g.given

module _ (name : List ℕ) (old new : Outside) where
  -- an input that is a script was answered whole
  pub ended_done : Ended name old new Done → IsAtEnd new.left × IfSome old.left (GivesAll name old.given new.given)
  ended_done e =
      let (kept, below, end, gives) = e.outcome in
      (end, told (GivesAll name old.given new.given) old.left (λ all is. subst (GivesAll name old.given new.given) (sym (all_read old.left new.left e.read all e.consumed end is)) gives))

  -- an input that is no script was answered up to its first fault
  pub ended_bad : Ended name old new BadScript → IfSome old.left (GivesBefore name old.given new.given)
  ended_bad e =
      let (kept, below, where_, rest, gives) = e.outcome in
      told (GivesBefore name old.given new.given) old.left (λ all is.
      elim where_ as (λ _. GivesBefore name old.given new.given all) [
        | inl dead ↦
            let (more, left, whole) = left_behind old.left new.left e.read all e.consumed is in
            subst (GivesBefore name old.given new.given) (sym whole) (
              λ es s. dead (more, es, s),
              rest ++ more,
              record {
                entries = gives.entries;
                events = gives.events;
                place = gives.place;
                splits = dead_stays e.read gives.entries rest more gives.splits dead;
                some = omega (arith, gives.some, length-append rest more);
                at = place_stays e.read more gives.place gives.at dead;
                taken = gives.taken;
                given = gives.given;
              },
            )
        | inr end ↦ subst (GivesBefore name old.given new.given) (sym (all_read old.left new.left e.read all e.consumed end is))
            (λ es s. inside_no_script e.read gives.entries rest gives.splits gives.some es s, rest, gives)
      ])

  -- what was given is a front of all that is written for the bytes that were read and those that are left
  pub ended_left : (ending : Ending) → (e : Ended name old new ending) → GivesPart name old.given new.given e.read new.left
  ended_left ending e = by_outcome ending e.outcome
    where
      by_outcome : (x : Ending) → Outcome name old new e.read x → GivesPart name old.given new.given e.read new.left
      by_outcome Done (kept, below, end, gives) more output left here =
          whole_part old.given new.given output (all_of_output name old.given new.given e.read output gives
          (subst (λ l. IsOutput name l output) (ap (λ l. e.read ++ l) (subst IsAtEnd left end) ∙ append-nil e.read) here))
      by_outcome BadScript (kept, below, inl dead, rest, g) more output left here =
          whole_part old.given new.given output (subst (Appends old.given new.given)
          (output_of_dead name e.read rest more g.entries g.events g.place output g.splits g.some g.taken g.at dead here) g.given)
      by_outcome BadScript (kept, below, inr end, rest, g) more output left here =
          whole_part old.given new.given output (subst (Appends old.given new.given)
          (output_of_fault name e.read rest g.entries g.events g.place output g.splits g.some g.taken g.at
          (subst (λ l. IsOutput name l output) (ap (λ l. e.read ++ l) (subst IsAtEnd left end) ∙ append-nil e.read) here)) g.given)
      by_outcome ReadFault (writes, rose, below, begins, rest, gives) more output left here = front_of_answers name old.given new.given e.read rest gives more output here
      by_outcome WriteFault (rose, part) more output left here = part more output left here
      by_outcome NoMemory (kept, part) more output left here = part more output left here
      by_outcome Spent (kept, full, part) more output left here = part more output left here

  -- what was given is a front of the whole output
  pub ended_part : (ending : Ending) (all output : List ℕ) → Ended name old new ending → old.left ≡ Some all → IsOutput name all output → AppendsPart old.given new.given output
  ended_part ending all output e is o =
      let (more, left, whole) = left_behind old.left new.left e.read all e.consumed is in
      ended_left ending e more output left (subst (λ l. IsOutput name l output) whole o)

  -- so many bytes were there
  pub ended_spent : Ended name old new Spent → IfSome old.left (λ all. INPUT_LIMIT ≤ length all)
  ended_spent e =
      told (λ all. INPUT_LIMIT ≤ length all) old.left (λ all is.
      let (more, left, whole) = left_behind old.left new.left e.read all e.consumed is in
      omega (arith, e.outcome.1, ap length whole, length-append e.read more))

  -- a script is answered whole where the outside is honest and memory is found
  pub ended_complete : (ending : Ending) (all : List ℕ) (entries : List Entry) → Ended name old new ending → old.left ≡ Some all → IsScript all entries → length all < INPUT_LIMIT
      → ¬ (Rose old.read_faults new.read_faults) → ¬ (Rose old.write_faults new.write_faults) → (status_of ending ≡ 0) ⊎ (status_of ending ≡ 6)
  ended_complete Done all entries e is s short reads writes = inl refl
  ended_complete NoMemory all entries e is s short reads writes = inr refl
  ended_complete ReadFault all entries e is s short reads writes = absurd (reads e.outcome.1)
  ended_complete WriteFault all entries e is s short reads writes = absurd (writes e.outcome.0)
  ended_complete BadScript all entries e is s short reads writes = absurd (not_bad (ended_bad e))
    where
      not_bad : IfSome old.left (GivesBefore name old.given new.given) → ⊥
      not_bad b = (subst (λ o. IfSome o (GivesBefore name old.given new.given)) is b).0 entries s
  ended_complete Spent all entries e is s short reads writes = absurd (not_spent (ended_spent e))
    where
      not_spent : IfSome old.left (λ all. INPUT_LIMIT ≤ length all) → ⊥
      not_spent b = let full = subst (λ o. IfSome o (λ all. INPUT_LIMIT ≤ length all)) is b in omega (arith, full)

-- no count of faults rose but at these statuses
pub ended_faultless : (name : List ℕ) (old new : Outside) (ending : Ending) (status : ℕ) → Ended name old new ending → status ≡ status_of ending → status ≢ 4 → status ≢ 5
    → (new.read_faults ≡ old.read_faults) × (new.write_faults ≡ old.write_faults)
ended_faultless name old new Done status e is f w = (e.outcome.0.reads, e.outcome.0.writes)
ended_faultless name old new BadScript status e is f w = (e.outcome.0.reads, e.outcome.0.writes)
ended_faultless name old new Spent status e is f w = (e.outcome.0.reads, e.outcome.0.writes)
ended_faultless name old new NoMemory status e is f w = (e.outcome.0.reads, e.outcome.0.writes)
ended_faultless name old new ReadFault status e is f w = absurd (f is)
ended_faultless name old new WriteFault status e is f w = absurd (w is)

-- only a failed write has status 5
pub handed_on : (ending : Ending) (status : ℕ) (P : Type 0) → status ≡ status_of ending → (ending ≡ WriteFault) ⊎ P → status ≢ 5 → P
handed_on ending status P is (inr p) w = p
handed_on ending status P is (inl e) w = absurd (w (is ∙ ap status_of e))

-- the rows of a source that tells are within those of all its whole entries
pub ended_rows : (name : List ℕ) (old new : Outside) (ending : Ending) (all : List ℕ) (entries : List Entry) (rest : List ℕ) (events : List Event) → Ended name old new ending → old.left ≡ Some all
    → Splits all entries rest → AreTaken name entries events → new.steps ≤ old.steps + rows name events
ended_rows name old new ending all entries rest events e is splits told =
    let (more, left, whole) = left_behind old.left new.left e.read all e.consumed is in
    e.counts more entries rest events (subst (λ l. Splits l entries rest) whole splits) told

-- a count of faults that rose behind an ending rose
ended_rose : (name : List ℕ) (old new : Outside) (ending : Ending) (risen : ℕ) → Ended name old new ending → Rose new.write_faults risen → Rose old.write_faults risen
ended_rose name old new Done risen e rose = omega (arith, e.outcome.0.writes, rose)
ended_rose name old new BadScript risen e rose = omega (arith, e.outcome.0.writes, rose)
ended_rose name old new ReadFault risen e rose = omega (arith, e.outcome.0, rose)
ended_rose name old new WriteFault risen e rose = omega (arith, e.outcome.0, rose)
ended_rose name old new NoMemory risen e rose = omega (arith, e.outcome.0.writes, rose)
ended_rose name old new Spent risen e rose = omega (arith, e.outcome.0.writes, rose)

-- a flush that fails makes a fault of the sink of any ending
pub ended_unflushed : (name : List ℕ) (old mid : Outside) (given : Option (List ℕ)) (risen : ℕ) (ending : Ending) → Ended name old mid ending → Keeps mid.given given
    → Rose mid.write_faults risen → Ended name old (outside mid.left given mid.read_faults risen mid.steps) WriteFault
ended_unflushed name old mid given risen ending e kept rose = record {
  read = e.read;
  consumed = e.consumed;
  limited = e.limited;
  counts = e.counts;
  outcome = (
    ended_rose name old mid ending risen e rose,
    λ more output l o.
        part_kept old.given mid.given given output (ended_left name old mid ending e more output l o) kept,
  );
}

-- only a bad script has status 3
bad_status : (ending : Ending) → status_of ending ≡ 3 → ending ≡ BadScript
bad_status Done e = absurd (cc)
bad_status BadScript e = refl
bad_status ReadFault e = absurd (cc)
bad_status WriteFault e = absurd (cc)
bad_status NoMemory e = absurd (cc)
bad_status Spent e = absurd (cc)

-- what status 3 says
pub bad_told : (name : List ℕ) (old new : Outside) (ending : Ending) (status : ℕ) → Ended name old new ending → status ≡ status_of ending → status ≡ 3
    → IfSome old.left (GivesBefore name old.given new.given)
bad_told name old new ending status e is three = ended_bad name old new (subst (Ended name old new) (bad_status ending (sym is ∙ three)) e)

-- what status 0 says
pub done_told : (name : List ℕ) (old new : Outside) (ending : Ending) (status : ℕ) → Ended name old new ending → status ≡ status_of ending → status ≡ 0
    → IsAtEnd new.left × IfSome old.left (GivesAll name old.given new.given)
done_told name old new Done status e is z = ended_done name old new e
done_told name old new BadScript status e is z = absurd (omega (arith, is, z))
done_told name old new ReadFault status e is z = absurd (omega (arith, is, z))
done_told name old new WriteFault status e is z = absurd (omega (arith, is, z))
done_told name old new NoMemory status e is z = absurd (omega (arith, is, z))
done_told name old new Spent status e is z = absurd (omega (arith, is, z))

-- what status 7 says
pub spent_told : (name : List ℕ) (old new : Outside) (ending : Ending) (status : ℕ) → Ended name old new ending → status ≡ status_of ending → status ≡ 7
    → IfSome old.left (λ all. INPUT_LIMIT ≤ length all)
spent_told name old new Spent status e is z = ended_spent name old new e
spent_told name old new Done status e is z = absurd (omega (arith, is, z))
spent_told name old new BadScript status e is z = absurd (omega (arith, is, z))
spent_told name old new ReadFault status e is z = absurd (omega (arith, is, z))
spent_told name old new WriteFault status e is z = absurd (omega (arith, is, z))
spent_told name old new NoMemory status e is z = absurd (omega (arith, is, z))

-- what the statuses 4 and 5 say
pub read_told : (name : List ℕ) (old new : Outside) (ending : Ending) (status : ℕ) → Ended name old new ending → status ≡ status_of ending → status ≡ 4 → Rose old.read_faults new.read_faults
read_told name old new ReadFault status e is z = e.outcome.1
read_told name old new Done status e is z = absurd (omega (arith, is, z))
read_told name old new BadScript status e is z = absurd (omega (arith, is, z))
read_told name old new Spent status e is z = absurd (omega (arith, is, z))
read_told name old new WriteFault status e is z = absurd (omega (arith, is, z))
read_told name old new NoMemory status e is z = absurd (omega (arith, is, z))

pub write_told : (name : List ℕ) (old new : Outside) (ending : Ending) (status : ℕ) → Ended name old new ending → status ≡ status_of ending → status ≡ 5 → Rose old.write_faults new.write_faults
write_told name old new WriteFault status e is z = e.outcome.0
write_told name old new Done status e is z = absurd (omega (arith, is, z))
write_told name old new BadScript status e is z = absurd (omega (arith, is, z))
write_told name old new Spent status e is z = absurd (omega (arith, is, z))
write_told name old new ReadFault status e is z = absurd (omega (arith, is, z))
write_told name old new NoMemory status e is z = absurd (omega (arith, is, z))

-- no ending has status 2
pub not_two : (ending : Ending) (status : ℕ) → status ≡ status_of ending → status ≡ 2 → ⊥
not_two Done status is z = omega (arith, is, z)
not_two BadScript status is z = omega (arith, is, z)
not_two ReadFault status is z = omega (arith, is, z)
not_two WriteFault status is z = omega (arith, is, z)
not_two NoMemory status is z = omega (arith, is, z)
not_two Spent status is z = omega (arith, is, z)

-- without memory nothing was read and nothing written
pub unstarted : (name : List ℕ) (now : Outside) → Ended name now now NoMemory
unstarted name now = record {
  read = [];
  consumed = Consumes-nil now.left;
  limited = omega arith;
  counts = λ more entries rest events splits told. omega arith;
  outcome = (record { reads = refl; writes = refl }, λ more output l o. kept_part now.given now.given output (Keeps-refl now.given));
}
