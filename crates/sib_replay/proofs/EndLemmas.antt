-- How a replay ends after which no byte follows.
use Rattle.std.proofs.Common.{◌≡◌, ◌∙◌, ap, sym, refl, subst, arith, ℕ, ◌<◌, List, [], ◌++◌, length, Option, Ok, Err, append-nil, inl, inr}
use Rattle.std.proofs.lemmas.Bool.{false≢true}
use Rattle.std.specs.Io.KnownBytes.{Appends}
use Rattle.std.proofs.KnownBytes.{Appends-trans}
use Rattle.sib_io.specs.Causes.{AppendsPart}
use Rattle.sib_io.proofs.KnownLemmas.{part_after}
use Rattle.sib_script.specs.declared.reader.ScriptFault as fault
use Rattle.sib_script.specs.Script.{script_spelling, IsScript, Splits, IsPlace}
use Rattle.sib_script.specs.Reading.{Reading, Ends}
use Rattle.sib_script.proofs.ScriptLaws.{left_splits, left_begins, splits_script, splits_unique}
use Rattle.sib_script.proofs.Places.{place_whole}
use Rattle.session_core.specs.Space.{Space}
use Rattle.sib_replay.specs.Output.{answers, farewell, last_line, fault_line, AreTaken, IsOutput}
use Rattle.sib_replay.specs.Doing.{Seen}
use Rattle.sib_replay.specs.Session.{Replays, Finishes, WritesLast, GivesEnd}
use Rattle.sib_replay.specs.declared.session.Session.{Session}
use Rattle.sib_replay.specs.declared.ending.Ending.{Ending}
use Rattle.sib_replay.specs.declared.ending.Ending.TheVariants.{Done, BadScript, ReadFault, WriteFault, NoMemory, Spent}
use Rattle.sib_replay.proofs.OutputLemmas.{told_same}
use Rattle.sib_replay.proofs.FaultLemmas.{output_of_fault}
use Rattle.sib_replay.proofs.FeedLemmas.{parts_of_replay}

-- the end of a script is granted only between entries
granted_between : (reader mid : Reading) (done : Unit {0}) → Ends reader (Ok done) mid → reader.unread ≡ []
granted_between reader mid done h = h.0

-- one ending is no other
pub not_done : BadScript ≡ Done → ⊥
not_done e = cc

pub not_bad : Done ≡ BadScript → ⊥
not_bad e = cc

module _ (name : List ℕ) (old given : Seen) (read : List ℕ) (reader mid : Reading) (session : Session) where
  -- where nothing more was given
  still_end : Replays name old given read reader session → (now : Option (List ℕ)) → now ≡ given.given → GivesEnd name old.given now read
  still_end h now same output o =
      subst (λ n. AppendsPart old.given n output) (sym same)
      ((parts_of_replay name old given read [] reader mid session h).gives [] output (subst (λ l. IsOutput name l output) (sym (append-nil read)) o))

  -- an input that ends inside an entry is no script
  ends_inside : (place : ℕ) (now : Option (List ℕ)) (risen : ℕ) (ending : Ending) → Replays name old given read reader session → Ends reader (Err (fault.TheVariants.BadScript place)) mid
      → WritesLast given.given now given.faults risen (fault_line place) BadScript ending → Finishes name old now risen read ending
  ends_inside place now risen ending h ends w = by_ending ending w
    where
      some : 0 < length reader.unread
      some = elim ends.2 as (λ _. 0 < length reader.unread) [ inl s ↦ absurd (false≢true (sym h.running ∙ s)) | inr l ↦ l ]

      splits : Splits read h.entries reader.unread
      splits = left_splits read h.entries reader.unread h.allowed h.spelled h.part

      at : IsPlace read place
      at = subst (IsPlace read) (sym (ends.0 ∙ h.taken)) (place_whole read (left_begins read h.entries reader.unread h.allowed h.spelled h.part))

      by_ending : (e : Ending) → WritesLast given.given now given.faults risen (fault_line place) BadScript e → Finishes name old now risen read e
      by_ending BadScript (same, p, kept) = (
        kept ∙ h.does.faults,
        reader.unread,
        record {
          entries = h.entries;
          events = h.events;
          place = place;
          splits = splits;
          some = some;
          at = at;
          taken = h.told;
          given = Appends-trans old.given given.given now (answers name h.events) (fault_line place) h.does.given p;
        },
      )
      by_ending WriteFault (rose, p) = (
        omega (arith, rose, h.does.faults),
        λ output o. subst (AppendsPart old.given now) (output_of_fault name read reader.unread h.entries h.events place output splits some h.told at o)
            (part_after old.given given.given now (answers name h.events) (fault_line place) h.does.given p),
      )
      by_ending NoMemory (same, kept) = (kept ∙ h.does.faults, still_end h now same)
      by_ending Done (same, p, kept) = absurd (not_done same)
      by_ending ReadFault w = absurd w
      by_ending Spent w = absurd w

  -- the end of the input is refused
  pub ends_refused : (f : fault.ScriptFault) (now : Option (List ℕ)) (risen : ℕ) (ending : Ending) → Replays name old given read reader session → Ends reader (Err f) mid
      → ((place : ℕ) → f ≡ fault.TheVariants.BadScript place → WritesLast given.given now given.faults risen (fault_line place) BadScript ending) → Finishes name old now risen read ending
  ends_refused fault.TheVariants.NoMemory now risen ending h ends w = absurd ends
  ends_refused (fault.TheVariants.BadScript place) now risen ending h ends w = ends_inside place now risen ending h ends (w place refl)

  -- an input that ends between entries is a script
  script_read : (h : Replays name old given read reader session) → reader.unread ≡ [] → IsScript read h.entries
  script_read h none = record {
    allowed = h.allowed;
    spelled = h.spelled ∙ ap (λ l. script_spelling h.entries ++ l) none ∙ append-nil (script_spelling h.entries);
  }

  -- all that is written for a script
  script_output : (h : Replays name old given read reader session) → reader.unread ≡ [] → (output : List ℕ) → IsOutput name read output
      → answers name h.events ++ last_line session.core.space ≡ output
  script_output h none output (fs, left, gs, place, splits, at, told, is) =
      let same = splits_unique read h.entries fs [] left (splits_script read h.entries (script_read h none)) splits in
      let gone : gs ≡ h.events = told_same name h.entries h.events gs h.told (subst (λ l. AreTaken name l gs) (sym same.0) told) in
      ap (λ (s : Space). answers name h.events ++ last_line s) h.stands.core
      ∙ ap (λ l. answers name h.events ++ farewell name h.events place l) same.1
      ∙ ap (λ ds. answers name ds ++ farewell name ds place left) (sym gone) ∙ sym is

  -- the last line is written behind the answers
  pub ends_script : (done : Unit {0}) (now : Option (List ℕ)) (risen : ℕ) (line : List ℕ) (ending : Ending) → Replays name old given read reader session
      → Ends reader (Ok done) mid → line ≡ last_line session.core.space → WritesLast given.given now given.faults risen line Done ending
      → Finishes name old now risen read ending
  ends_script done now risen line Done h ends is (same, w, kept) =
      let none = granted_between reader mid done ends in (
        kept ∙ h.does.faults,
        record {
          entries = h.entries;
          events = h.events;
          script = script_read h none;
          taken = h.told;
          given = subst (Appends old.given now) (ap (λ l. answers name h.events ++ l) (is ∙ ap last_line h.stands.core))
              (Appends-trans old.given given.given now (answers name h.events) line h.does.given w);
        },
      )
  ends_script done now risen line WriteFault h ends is w =
      let none = granted_between reader mid done ends in (
        omega (arith, w.0, h.does.faults),
        λ output o. subst (AppendsPart old.given now) (ap (λ l. answers name h.events ++ l) is ∙ script_output h none output o)
            (part_after old.given given.given now (answers name h.events) line h.does.given w.1),
      )
  ends_script done now risen line NoMemory h ends is (same, kept) = (kept ∙ h.does.faults, still_end h now same)
  ends_script done now risen line BadScript h ends is w = absurd (not_bad w.0)
  ends_script done now risen line ReadFault h ends is w = absurd w
  ends_script done now risen line Spent h ends is w = absurd w

  -- without memory for the last line the answers alone were given
  pub ends_unwritten : Replays name old given read reader session → (given.faults ≡ old.faults) × GivesEnd name old.given given.given read
  ends_unwritten h = (h.does.faults, still_end h given.given refl)
