-- What a reader stands for after each call.
use Rattle.std.proofs.Common.{◌≡◌, inl, inr, ℕ, ◌+◌, ◌<◌, Bool, true, List, [], ◌∷◌, ◌++◌, length, take, drop, refl, sym, ◌∙◌, ap, subst, append_assoc, length-append}
use Rattle.std.proofs.lemmas.List.{append-nil, length-take-le}
use Rattle.std.specs.Prelude.{Option, Some, None, Result, Ok, Err, IfOk, IfErr}
use Rattle.sib_script.specs.Script.{script_spelling, BeginsScript, Splits, IsPlace}
use Rattle.sib_script.specs.Reading.{Reading, fresh, FaultStands, TakesPiece, FeedsWaiting, Feeds, Refuses, Ends}
use Rattle.sib_script.specs.Standing.{Waits, Stands, FaultIs, IsLeftOver, FeedStands, NextStands, EndStands}
use Rattle.sib_script.specs.declared.entry.Entry.{Entry}
use Rattle.sib_script.specs.declared.reader.ScriptFault.{ScriptFault}
use Rattle.sib_script.specs.declared.reader.ScriptFault.TheVariants.{BadScript, NoMemory}
use Rattle.sib_script.proofs.ScriptLaws.{IsLeft, entries_push, script_spelling-push, left_splits, left_begins, dead_end, inside_no_script}
use Rattle.sib_script.proofs.Places.{place_whole, place_dead}

-- a reader that took nothing stands for no bytes and no entry
pub fresh_stands : Stands fresh [] 0
fresh_stands = record {
  entries = [];
  allowed = tt;
  spelled = refl;
  part = inr refl;
  taken = refl;
  waits = refl;
}

-- the bytes split into the entries and what is unread, and begin some script
stands_splits : (r : Reading) (read : List ℕ) (given : ℕ) (s : Stands r read given) → Splits read s.entries r.unread
stands_splits r read given s = left_splits read s.entries r.unread s.allowed s.spelled s.part

stands_place : (r : Reading) (read : List ℕ) (given place : ℕ) → Stands r read given → place ≡ r.taken → IsPlace read place
stands_place r read given place s at =
    subst (IsPlace read) (sym (at ∙ s.taken)) (place_whole read (left_begins read s.entries r.unread s.allowed s.spelled s.part))

-- whether a fault was met does not tell what a reader stands for
stops_stand : (r : Reading) (read : List ℕ) (given : ℕ) (stopped : Bool) → Stands r read given → Stands (record r { stopped = stopped }) read given
stops_stand r read given stopped s = record {
  entries = s.entries;
  allowed = s.allowed;
  spelled = s.spelled;
  part = s.part;
  taken = s.taken;
  waits = s.waits;
}

-- the entry that waits is given
pub next_stands : (old : Reading) (result : Option Entry) → result ≡ old.waiting → NextStands old result (record old { waiting = None })
next_stands old None e = λ read given s.
    let all : given ≡ length s.entries = subst (λ o. Waits o given s.entries) (sym e) s.waits in (
      record { entries = s.entries; allowed = s.allowed; spelled = s.spelled; part = s.part; taken = s.taken; waits = all },
      (s.entries, (old.unread, stands_splits old read given s), all),
    )
next_stands old (Some entry) e = λ read given s.
    let last : Waits (Some entry) given s.entries = subst (λ o. Waits o given s.entries) (sym e) s.waits in (
      record {
        entries = s.entries;
        allowed = s.allowed;
        spelled = s.spelled;
        part = s.part;
        taken = s.taken;
        waits = ap (λ n. n + 1) last.2 ∙ (sym (length-append last.0 (entry ∷ [])) ∙ sym (ap length last.1));
      },
      (last.0, [], (old.unread, subst (λ l. Splits read l old.unread) last.1 (stands_splits old read given s)), last.2),
    )

-- a piece was taken where no entry waits
takes_stand : (old new : Reading) (read piece rest : List ℕ) (given : ℕ) → old.waiting ≡ None → IsLeft new.unread → TakesPiece old piece rest new.waiting new
    → Stands old read given → Stands new (read ++ piece) given
takes_stand old new read piece rest given idle part t s = by_waiting new.waiting refl t
  where
    all : given ≡ length s.entries
    all = subst (λ o. Waits o given s.entries) idle s.waits

    spelled : read ++ piece ≡ script_spelling s.entries ++ (old.unread ++ piece)
    spelled = ap (λ l. l ++ piece) s.spelled ∙ append_assoc (script_spelling s.entries) old.unread piece

    total : old.taken + length piece ≡ length (read ++ piece)
    total = ap (λ n. n + length piece) s.taken ∙ sym (length-append read piece)

    by_waiting : (o : Option Entry) → new.waiting ≡ o → TakesPiece old piece rest o new → Stands new (read ++ piece) given
    by_waiting None e t = record {
      entries = s.entries;
      allowed = s.allowed;
      spelled = spelled ∙ ap (λ l. script_spelling s.entries ++ l) (sym (ap (λ (r : Reading). r.unread) t.0));
      part = part;
      taken = ap (λ (r : Reading). r.taken) t.0 ∙ total;
      waits = subst (λ o. Waits o given s.entries) (sym e) all;
    }
    by_waiting (Some entry) e t = record {
      entries = s.entries ++ entry ∷ [];
      allowed = entries_push s.entries entry s.allowed t.0;
      spelled = spelled ∙ (ap (λ l. script_spelling s.entries ++ l) t.1 ∙ (sym (script_spelling-push s.entries entry) ∙ (sym (append-nil (script_spelling (s.entries ++ entry ∷ []))) ∙ ap (λ l. script_spelling (s.entries ++ entry ∷ []) ++ l) (sym (ap (λ (r : Reading). r.unread) t.2)))));
      part = part;
      taken = ap (λ (r : Reading). r.taken) t.2 ∙ total;
      waits = subst (λ o. Waits o given (s.entries ++ entry ∷ [])) (sym e) (s.entries, refl, all);
    }

-- where a fault stands at the next byte no script goes on with it, whatever follows
fault_dead : (r : Reading) (read : List ℕ) (given byte : ℕ) → Stands r read given → FaultStands r (byte ∷ []) → (more : List ℕ) → ¬ (BeginsScript (read ++ byte ∷ more))
fault_dead r read given byte s f more = dead_end read s.entries r.unread byte more s.allowed s.spelled s.part f

fault_is : (r : Reading) (read bytes : List ℕ) (given place : ℕ) → Stands r read given → place ≡ r.taken → FaultStands r bytes → FaultIs read bytes place
fault_is r read [] given place s at f = absurd f
fault_is r read (byte ∷ bytes) given place s at f = (
  fault_dead r read given byte s f [],
  λ more.
      subst (IsPlace (read ++ byte ∷ more)) (sym (at ∙ s.taken))
      (place_dead read byte more (left_begins read s.entries r.unread s.allowed s.spelled s.part) (fault_dead r read given byte s f)),
)

-- why bytes are left
left_over : (old new : Reading) (read piece rest : List ℕ) (given count : ℕ) → length piece ≡ count → TakesPiece old piece rest new.waiting new
    → Stands new read given → IsLeftOver new read count rest
left_over old new read piece [] given count n t s = tt
left_over old new read piece (byte ∷ rest) given count n t s = by_waiting new.waiting refl t
  where
    by_waiting : (o : Option Entry) → new.waiting ≡ o → TakesPiece old piece (byte ∷ rest) o new → IsLeftOver new read count (byte ∷ rest)
    by_waiting None e t =
        let fault = t.1 (λ z. absurd (cc)) in
        inr (subst (λ k. 0 < k) n fault.0, fault_dead new read given byte s fault.1 [])
    by_waiting (Some entry) e t = inl (λ z. let no : Some entry ≡ None = sym e ∙ z in absurd (cc))

-- bytes were taken, or an entry waits and none were
feeds_stand : (old new : Reading) (bytes : List ℕ) (count : ℕ) → Feeds old bytes count new → FeedStands old bytes (Ok count) new
feeds_stand old new bytes count f = λ read given s. by_waiting old.waiting refl f.does read given s
  where
    waits : (entry : Entry) (read rest : List ℕ) → new.waiting ≡ Some entry → IsLeftOver new read count rest
    waits entry read [] e = tt
    waits entry read (byte ∷ rest) e = inl (λ z. let no : Some entry ≡ None = sym e ∙ z in absurd (cc))

    by_waiting : (o : Option Entry) → old.waiting ≡ o → FeedsWaiting old o bytes count new → (read : List ℕ) (given : ℕ) → Stands old read given
        → Stands new (read ++ take count bytes) given × IsLeftOver new (read ++ take count bytes) count (drop count bytes)
    by_waiting None e h read given s =
        let t = takes_stand old new read (take count bytes) (drop count bytes) given e f.part h.1 s in
        (t, left_over old new (read ++ take count bytes) (take count bytes) (drop count bytes) given count (length-take-le count bytes f.within) h.1 t)
    by_waiting (Some entry) e h read given s =
        let none : read ++ take count bytes ≡ read = ap (λ n. read ++ take n bytes) h.0 ∙ append-nil read in (
          subst (λ l. Stands new l given) (sym none) (subst (λ r. Stands r read given) (sym h.1) s),
          waits entry (read ++ take count bytes) (drop count bytes) (ap (λ (r : Reading). r.waiting) h.1 ∙ e),
        )

-- a call that is refused takes nothing
refuses_stand : (old new : Reading) (bytes : List ℕ) (fault : ScriptFault) → Refuses old bytes new fault → FeedStands old bytes (Err fault) new
refuses_stand old new bytes (BadScript place) h = λ read given s. (
  subst (λ r. Stands r read given) (sym h.1) (stops_stand old read given true s),
  elim h.2 [
    | inl met ↦ inl (met, stands_place old read given place s h.0)
    | inr f ↦ inr (fault_is old read bytes given place s h.0 f.1)
  ],
)
refuses_stand old new bytes NoMemory h = λ read given s. (subst (λ r. Stands r read given) (sym h) s, tt)

-- so a call keeps the relation, whatever it answers
pub fed_stand : (old new : Reading) (bytes : List ℕ) (result : Result ℕ ScriptFault) → IfOk result (λ count. Feeds old bytes count new)
    → IfErr result (Refuses old bytes new) → FeedStands old bytes result new
fed_stand old new bytes (Ok count) f r = feeds_stand old new bytes count f
fed_stand old new bytes (Err fault) f r = refuses_stand old new bytes fault r

-- the end is that of a script, or of bytes that are none
pub ends_stand : (old new : Reading) (result : Result (Unit {0}) ScriptFault) → Ends old result new → EndStands old result new
ends_stand old new (Ok done) h = λ read given s. (
  subst (λ r. Stands r read given) (sym h.2) s,
  (
    s.entries,
    record {
      allowed = s.allowed;
      spelled = s.spelled ∙ (ap (λ l. script_spelling s.entries ++ l) h.0 ∙ append-nil (script_spelling s.entries));
    },
  ),
)
ends_stand old new (Err (BadScript place)) h = λ read given s. (
  subst (λ r. Stands r read given) (sym h.1) (stops_stand old read given true s),
  stands_place old read given place s h.0,
  elim h.2 [
    | inl met ↦ inl met
    | inr inside ↦ inr (inside_no_script read s.entries old.unread (stands_splits old read given s) inside)
  ],
)
ends_stand old new (Err NoMemory) h = h

-- the same for the fields of the reader, of which what waited is taken
pub next_at : (v old : Reading) (result left : Option Entry) → v ≡ old → result ≡ v.waiting → left ≡ None
    → NextStands old result (record v { waiting = left })
next_at v old result left e w n =
    subst (λ l. NextStands old result (record v { waiting = l })) (sym n)
    (subst (λ r. NextStands r result (record v { waiting = None })) e (next_stands v result w))
