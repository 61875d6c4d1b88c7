-- What a call of the reader does to a replay.
use Rattle.std.proofs.Common.{◌≡◌, ◌∙◌, ap, sym, refl, subst, arith, ℕ, zero, suc, ◌+◌, ◌<◌, ◌^◌, false, List, [], ◌∷◌, ◌++◌, length, take, drop, Option, Some, None, append_assoc, append-nil, length-append, inl, inr, length-take}
use Rattle.std.proofs.lemmas.Bool.{false≢true}
use Rattle.std.proofs.KnownBytes.{Appends-trans}
use Rattle.sib_io.specs.Causes.{AppendsPart}
use Rattle.sib_io.proofs.KnownLemmas.{whole_part, part_after}
use Rattle.sib_script.specs.declared.entry.Entry.{Entry}
use Rattle.sib_script.specs.declared.reader.ScriptFault as fault
use Rattle.sib_script.specs.Script.{entry_spelling, script_spelling, BeginsScript, Splits, IsPlace}
use Rattle.sib_script.specs.Reading.{Reading, IsNoPart, TakesPiece, FeedsWaiting, Feeds, Refuses}
use Rattle.sib_script.proofs.ScriptLaws.{entry_filled, part_no_entry, left_splits, left_begins, stuck_splits, dead_end}
use Rattle.sib_script.proofs.Places.{place_dead}
use Rattle.sib_replay.specs.declared.ending.Fault.{Fault}
use Rattle.sib_replay.specs.declared.ending.Fault.TheVariants as failed
use Rattle.sib_replay.specs.Doing.{Seen, seen}
use Rattle.sib_replay.specs.Ending.{ReadsWithin, ending_of}
use Rattle.sib_replay.specs.Output.{answers, fault_line, IsOutput}
use Rattle.sib_replay.specs.Session.{Replays, Holds, Parts, Fails, Stops, GivesFront, WritesLast, unseen}
use Rattle.sib_replay.specs.declared.session.Session.{Session}
use Rattle.sib_replay.specs.declared.ending.Ending.{Ending}
use Rattle.sib_replay.specs.declared.ending.Ending.TheVariants.{Done, BadScript, ReadFault, WriteFault, NoMemory, Spent}
use Rattle.sib_replay.proofs.FaultLemmas.{output_of_dead}
use Rattle.sib_replay.proofs.ReplayLemmas.{front_of_output, rows_of_output}

module _ (name : List ℕ) (old given : Seen) (read bytes : List ℕ) (reader mid : Reading) (session : Session) where
  -- what a call took, where no entry waited
  took : (count : ℕ) → Replays name old given read reader session → Feeds reader bytes count mid → (reader.stopped ≡ false) × TakesPiece reader (take count bytes) (drop count bytes) mid.waiting mid
  took count h f = subst (λ w. FeedsWaiting reader w bytes count mid) h.waiting f.does

  -- a call that ended no entry goes on
  pub feeds_on : (count : ℕ) → Replays name old given read reader session → Feeds reader bytes count mid → mid.waiting ≡ None
      → Replays name old given (read ++ take count bytes) (record mid { waiting = None }) session
  feeds_on count h f none =
      let t = subst (λ w. TakesPiece reader (take count bytes) (drop count bytes) w mid) none (took count h f).1 in
      let piece = take count bytes in
      record {
        entries = h.entries;
        events = h.events;
        allowed = h.allowed;
        spelled = ap (λ l. l ++ piece) h.spelled ∙ append_assoc (script_spelling h.entries) reader.unread piece
            ∙ ap (λ l. script_spelling h.entries ++ l) (sym (ap (λ r. r.unread) t.0));
        part = f.part;
        waiting = refl;
        running = ap (λ r. r.stopped) t.0 ∙ h.running;
        taken = ap (λ r. r.taken) t.0 ∙ ap (λ n. n + length piece) h.taken ∙ sym (length-append read piece);
        told = h.told;
        stands = h.stands;
        does = h.does;
      }

  -- a call that ended an entry holds it
  pub feeds_entry : (count : ℕ) (entry : Entry) → Replays name old given read reader session → Feeds reader bytes count mid → mid.waiting ≡ Some entry
      → length read + length bytes < 2 ^ 60 → Holds name old given (read ++ take count bytes) entry (record mid { waiting = None }) session
  feeds_entry count entry h f some small =
      let t = subst (λ w. TakesPiece reader (take count bytes) (drop count bytes) w mid) some (took count h f).1 in
      let piece = take count bytes in
      record {
        entries = h.entries;
        events = h.events;
        allowed = h.allowed;
        comes = t.0;
        small = omega (arith, length-append read piece, length-take count bytes);
        spelled = ap (λ l. l ++ piece) h.spelled ∙ append_assoc (script_spelling h.entries) reader.unread piece
            ∙ ap (λ l. script_spelling h.entries ++ l) t.1;
        unread = ap (λ r. r.unread) t.2;
        waiting = refl;
        running = ap (λ r. r.stopped) t.2 ∙ h.running;
        taken = ap (λ r. r.taken) t.2 ∙ ap (λ n. n + length piece) h.taken ∙ sym (length-append read piece);
        told = h.told;
        stands = h.stands;
        does = h.does;
      }

  -- how many bytes a call took is added to those that were taken
  pub feeds_taken : (count : ℕ) → Replays name old given read reader session → Feeds reader bytes count mid → mid.taken ≡ reader.taken + count
  feeds_taken count h f =
      let counted : length (take count bytes) ≡ count = omega (arith, length-take count bytes, f.within) in
      elim mid.waiting as (λ w. TakesPiece reader (take count bytes) (drop count bytes) w mid → mid.taken ≡ reader.taken + count) [
        | None ↦ λ t. ap (λ r. r.taken) t.0 ∙ ap (λ n. reader.taken + n) counted
        | Some e ↦ λ t. ap (λ r. r.taken) t.2 ∙ ap (λ n. reader.taken + n) counted
      ]
      (took count h f).1

  -- a call that is given some bytes takes some
  pub feeds_some : (count : ℕ) → 0 < length bytes → Replays name old given read reader session → Feeds reader bytes count mid → 0 < count
  feeds_some zero some h f =
      elim mid.waiting as (λ w. TakesPiece reader [] bytes w mid → 0 < 0) [
        | None ↦ λ t. (t.1 (λ e. omega (arith, ap length e))).0
        | Some e ↦ λ t. absurd (elim h.part as (λ _. ⊥) [
          | inl p ↦ part_no_entry reader.unread e [] p t.0 (sym (append-nil reader.unread) ∙ t.1 ∙ sym (append-nil (entry_spelling e)))
          | inr n ↦ entry_filled e [] (append-nil (entry_spelling e) ∙ sym t.1 ∙ append-nil reader.unread ∙ n)
        ])
      ]
      (took 0 h f).1
  feeds_some (suc count) some h f = omega arith

  -- where a replay stands a prefix of all that is written was given, within the rows of all calls
  pub parts_of_replay : Replays name old given read reader session → Parts name old given read
  parts_of_replay h =
      let splits = left_splits read h.entries reader.unread h.allowed h.spelled h.part in
      record {
        gives = front_of_output name old.given given.given read reader.unread h.entries h.events splits h.told (whole_part old.given given.given (answers name h.events) h.does.given);
        counts = rows_of_output name old.steps given.steps read reader.unread h.entries h.events splits h.told h.does.steps;
      }

-- what holds of some bytes holds of more
pub rows_of_more : (name : List ℕ) (old new : ℕ) (read bytes : List ℕ) → ReadsWithin name old new read → ReadsWithin name old new (read ++ bytes)
rows_of_more name old new read bytes f more entries rest events splits told = f (bytes ++ more) entries rest events (subst (λ l. Splits l entries rest) (append_assoc read bytes more) splits) told

pub front_of_more : (name : List ℕ) (old new : Option (List ℕ)) (read bytes : List ℕ) → GivesFront name old new read → GivesFront name old new (read ++ bytes)
front_of_more name old new read bytes f more output is =
    f (bytes ++ more) output (subst (λ l. IsOutput name l output) (append_assoc read bytes more) is)

pub parts_of_more : (name : List ℕ) (old new : Seen) (read bytes : List ℕ) → Parts name old new read → Parts name old new (read ++ bytes)
parts_of_more name old new read bytes p = record { gives = front_of_more name old.given new.given read bytes p.gives; counts = rows_of_more name old.steps new.steps read bytes p.counts }

-- an entry that could not be answered stops the replay of more bytes too
pub fails_stop : (name : List ℕ) (old new : Seen) (read bytes : List ℕ) (f : Fault) → Fails name old new read f → Stops name old new (read ++ bytes) (ending_of f)
fails_stop name old new read bytes failed.NoMemory (p, cause) = (cause, parts_of_more name old new read bytes p)
fails_stop name old new read bytes failed.WriteFault (p, cause) = (cause, parts_of_more name old new read bytes p)

-- a call that was refused stops the replay
module _ (name : List ℕ) (old given : Seen) (now : Option (List ℕ)) (risen : ℕ) (read : List ℕ) (reader mid : Reading) (session : Session) (ending : Ending)
    (h : Replays name old given read reader session) where
  -- the rows are those of the entries that were answered
  counts : (bytes : List ℕ) → ReadsWithin name old.steps given.steps (read ++ bytes)
  counts bytes = rows_of_more name old.steps given.steps read bytes (parts_of_replay name old given read bytes reader mid session h).counts

  -- where nothing more was given
  still_parts : (bytes : List ℕ) → now ≡ given.given → Parts name old (seen now risen given.steps) (read ++ bytes)
  still_parts bytes same = record {
    gives = subst (λ n. GivesFront name old.given n (read ++ bytes)) (sym same) (front_of_more name old.given given.given read bytes (parts_of_replay name old given read bytes reader mid session h).gives);
    counts = counts bytes;
  }

  -- where no script goes on with the next byte
  stuck_stops : (c : ℕ) (more : List ℕ) (place : ℕ) → IsNoPart (reader.unread ++ c ∷ []) → place ≡ reader.taken → WritesLast given.given now given.faults risen (fault_line place) BadScript ending
      → Stops name old (seen now risen given.steps) (read ++ c ∷ more) ending
  stuck_stops c more place here place_is w = by_ending ending w
    where
      dead : ¬ (BeginsScript (read ++ c ∷ more))
      dead = dead_end read h.entries reader.unread c more h.allowed h.spelled h.part here

      some : 0 < length (reader.unread ++ c ∷ more)
      some = omega (arith, length-append reader.unread (c ∷ more))

      splits : Splits (read ++ c ∷ more) h.entries (reader.unread ++ c ∷ more)
      splits = stuck_splits read h.entries reader.unread c more h.allowed h.spelled h.part here

      at : IsPlace (read ++ c ∷ more) place
      at = subst (IsPlace (read ++ c ∷ more)) (sym (place_is ∙ h.taken))
          (place_dead read c more (left_begins read h.entries reader.unread h.allowed h.spelled h.part)
          (λ rest. dead_end read h.entries reader.unread c rest h.allowed h.spelled h.part here))

      by_ending : (e : Ending) → WritesLast given.given now given.faults risen (fault_line place) BadScript e → Stops name old (seen now risen given.steps) (read ++ c ∷ more) e
      by_ending BadScript (same, p, kept) = (
        kept ∙ h.does.faults,
        dead,
        counts (c ∷ more),
        reader.unread ++ c ∷ more,
        record {
          entries = h.entries;
          events = h.events;
          place = place;
          splits = splits;
          some = some;
          at = at;
          taken = h.told;
          given = Appends-trans old.given given.given now (answers name h.events) (fault_line place) h.does.given p;
        },
      )
      by_ending WriteFault (rose, p) = (
        omega (arith, rose, h.does.faults),
        record {
          gives = λ others output o. subst (AppendsPart old.given now)
              (output_of_dead name (read ++ c ∷ more) (reader.unread ++ c ∷ more) others h.entries h.events place output splits some h.told at dead o)
              (part_after old.given given.given now (answers name h.events) (fault_line place) h.does.given p);
          counts = counts (c ∷ more);
        },
      )
      by_ending NoMemory (same, kept) = (kept ∙ h.does.faults, still_parts (c ∷ more) same)
      by_ending Done (same, p, kept) = absurd (no_end same)
        where
          no_end : BadScript ≡ Done → ⊥
          no_end e = cc
      by_ending ReadFault w = absurd w
      by_ending Spent w = absurd w

  pub refused_stops : (bytes : List ℕ) (f : fault.ScriptFault) → Refuses reader bytes mid f
      → ((place : ℕ) → f ≡ fault.TheVariants.BadScript place → WritesLast given.given now given.faults risen (fault_line place) BadScript ending)
      → (f ≡ fault.TheVariants.NoMemory → (ending ≡ NoMemory) × (now ≡ given.given) × (risen ≡ given.faults)) → Stops name old (seen now risen given.steps) (read ++ bytes) ending
  refused_stops bytes fault.TheVariants.NoMemory r w m =
      let (no_room, same, kept) = m refl in
      subst (Stops name old (seen now risen given.steps) (read ++ bytes)) (sym no_room) (kept ∙ h.does.faults, still_parts bytes same)
  refused_stops [] (fault.TheVariants.BadScript place) r w m = absurd (elim r.2 as (λ _. ⊥) [ inl s ↦ false≢true (sym h.running ∙ s) | inr s ↦ s.1 ])
  refused_stops (c ∷ more) (fault.TheVariants.BadScript place) r w m =
      let here : IsNoPart (reader.unread ++ c ∷ []) =
      elim r.2 as (λ _. IsNoPart (reader.unread ++ c ∷ [])) [ inl s ↦ absurd (false≢true (sym h.running ∙ s)) | inr s ↦ s.1 ]
      in
      stuck_stops c more place here r.0 (w place refl)

-- where nothing is seen, it does not matter what was
pub untold : (name : List ℕ) (old new : Seen) (read : List ℕ) (reader : Reading) (session : Session) → Replays name old new read reader session
    → Replays name unseen unseen read reader session
untold name old new read reader session h = record {
  entries = h.entries;
  events = h.events;
  allowed = h.allowed;
  spelled = h.spelled;
  part = h.part;
  waiting = h.waiting;
  running = h.running;
  taken = h.taken;
  told = h.told;
  stands = h.stands;
  does = record { given = tt; faults = refl; steps = omega arith };
}

-- and it is as if nothing had been done up to now
pub anew : (name : List ℕ) (read : List ℕ) (reader : Reading) (session : Session) (faults steps : ℕ) (given : Option (List ℕ)) → Replays name unseen unseen read reader session
    → Replays name (seen None faults steps) (seen given faults steps) read reader session
anew name read reader session faults steps given h = record {
  entries = h.entries;
  events = h.events;
  allowed = h.allowed;
  spelled = h.spelled;
  part = h.part;
  waiting = h.waiting;
  running = h.running;
  taken = h.taken;
  told = h.told;
  stands = h.stands;
  does = record { given = tt; faults = refl; steps = omega arith };
}

-- an entry that the reader ended is held once it was taken out
pub held_entry : (name : List ℕ) (old given : Seen) (read bytes : List ℕ) (reader mid next : Reading) (session : Session) (count : ℕ) (entry : Entry)
    → Replays name old given read reader session → Feeds reader bytes count mid → mid.waiting ≡ Some entry → next ≡ record mid { waiting = None }
    → reader.taken + length bytes < 2 ^ 60 → Holds name old given (read ++ take count bytes) entry next session
held_entry name old given read bytes reader mid next session count entry h f some is fits =
    subst (λ r. Holds name old given (read ++ take count bytes) entry r session) (sym is)
    (feeds_entry name old given read bytes reader mid session count entry h f some (omega (arith, h.taken)))

-- where the reader ended no entry, the replay goes on
pub goes_on : (name : List ℕ) (old given : Seen) (read bytes : List ℕ) (reader mid next : Reading) (session : Session) (count : ℕ)
    → Replays name old given read reader session → Feeds reader bytes count mid → mid.waiting ≡ None → next ≡ record mid { waiting = None }
    → Replays name old given (read ++ take count bytes) next session
goes_on name old given read bytes reader mid next session count h f none is =
    subst (λ r. Replays name old given (read ++ take count bytes) r session) (sym is) (feeds_on name old given read bytes reader mid session count h f none)
