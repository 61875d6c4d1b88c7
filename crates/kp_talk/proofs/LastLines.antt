-- What the last line and the last flush make of an ending.
use Rattle.std.proofs.Common.{◌≡◌, ◌⊎◌, ◌∙◌, ap, sym, subst, arith, inl, inr, ℕ, ◌≤◌, List, [], Result, Ok, Err, append-nil}
use Rattle.std.specs.Io.KnownBytes.{Appends}
use Rattle.std.proofs.KnownBytes.{Appends-trans}
use Rattle.sib_io.specs.Causes.{Rose, AppendsPart}
use Rattle.sib_io.proofs.KnownLemmas.{appends_kept, part_after}
use Rattle.kp_talk.specs.Talk.{Talk}
use Rattle.kp_talk.specs.Lines.{written, printed, output, finish_line}
use Rattle.kp_talk.specs.Saying.{Outlets, Says, SaysPart, IsCause}
use Rattle.kp_talk.specs.Ending.{Outside, Ended, Outcome, KeepsCounts, GivesTalk, GivesAll, GivesPart}
use Rattle.kp_talk.specs.Turn.{Stays, HandsOn, IsNearly, ComesTo, PrintsLast, last_bytes}
use Rattle.kp_talk.specs.declared.errand.Errand.{Errand}
use Rattle.kp_talk.specs.declared.ending.Ending.{Ending}
use Rattle.kp_talk.specs.declared.ending.Ending.TheVariants.{Finished, ReadFault, WriteFault, NoMemory, Spent}
use Rattle.kp_talk.proofs.OutletsGrow.{cause_then, says_kept, part_stays, part_more, whole_says, nothing_part, nothing_stays}
use Rattle.kp_talk.proofs.TalksOnce.{one_talk}
use Rattle.kp_talk.proofs.TurnsGoOn.{with_outlets}

-- a count that rose and did not fall then rose
rose_on : (a b c : ℕ) → Rose a b → b ≤ c → Rose a c
rose_on a b c rose later = omega (arith, rose, later)

-- so does one of two
rises_on : (a b c : Outlets) → Rose a.writes b.writes ⊎ Rose a.prints b.prints → b.writes ≤ c.writes → b.prints ≤ c.prints → Rose a.writes c.writes ⊎ Rose a.prints c.prints
rises_on a b c (inl rose) writes prints = inl (rose_on a.writes b.writes c.writes rose writes)
rises_on a b c (inr rose) writes prints = inr (rose_on a.prints b.prints c.prints rose prints)

-- the requests of a talk, and its lines before the last, stay
gives_kept : (old mid : Outside) (new : Outlets) (talk : Talk) → GivesTalk old mid talk → Stays mid.outlets new → GivesTalk old (with_outlets mid new) talk
gives_kept old mid new talk gives kept = record {
  written = appends_kept old.outlets.written mid.outlets.written new.written (written talk) gives.written kept.written;
  printed = appends_kept old.outlets.printed mid.outlets.printed new.printed (printed talk) gives.printed kept.printed;
}

-- the last line behind them makes them all
gives_last : (old mid : Outside) (new : Outlets) (talk : Talk) → GivesTalk old mid talk → Says mid.outlets new [] (finish_line talk.finish) → GivesAll old (with_outlets mid new) talk
gives_last old mid new talk gives says = record {
  written = subst (Appends old.outlets.written new.written) (append-nil (written talk))
      (Appends-trans old.outlets.written mid.outlets.written new.written (written talk) [] gives.written says.written);
  printed = Appends-trans old.outlets.printed mid.outlets.printed new.printed (printed talk) (finish_line talk.finish) gives.printed says.printed;
}

-- a part of the last line behind them makes a part of all
part_last : (old mid : Outside) (new : Outlets) (talk : Talk) → GivesTalk old mid talk → SaysPart mid.outlets new [] (finish_line talk.finish)
    → SaysPart old.outlets new (written talk) (output talk)
part_last old mid new talk gives part = record {
  written = subst (AppendsPart old.outlets.written new.written) (append-nil (written talk))
      (part_after old.outlets.written mid.outlets.written new.written (written talk) [] gives.written part.written);
  printed = part_after old.outlets.printed mid.outlets.printed new.printed (printed talk) (finish_line talk.finish) gives.printed part.printed;
}

-- what was printed of the last line is a part of it
line_part : (old new : Outlets) (ending : Ending) (printed : Result (Unit {0}) Ending) → PrintsLast old new ending printed → SaysPart old new [] (last_bytes ending)
line_part old new (Finished finish) (Ok done) does = whole_says old new [] (finish_line finish) does
line_part old new (Finished finish) (Err failed) does = does.0
line_part old new ReadFault printed (same, is) = subst (λ o. SaysPart old o [] []) (sym same) (nothing_part old [] [])
line_part old new WriteFault printed (same, is) = subst (λ o. SaysPart old o [] []) (sym same) (nothing_part old [] [])
line_part old new NoMemory printed (same, is) = subst (λ o. SaysPart old o [] []) (sym same) (nothing_part old [] [])
line_part old new Spent printed (same, is) = subst (λ o. SaysPart old o [] []) (sym same) (nothing_part old [] [])

module _ (errand : Errand) (old mid : Outside) (read : List ℕ) where
  -- with a part of the last line, a part was given of whatever is said over the bytes
  nearly_part : (ending : Ending) (new : Outlets) → IsNearly errand old mid read ending → SaysPart mid.outlets new [] (last_bytes ending) → GivesPart errand old (with_outlets mid new) read
  nearly_part (Finished finish) new (kept, talk, is, finishes, gives, over) part other it =
      subst (λ t. SaysPart old.outlets new (written t) (output t)) (one_talk errand read talk other is it)
      (part_last old mid new talk gives (subst (λ f. SaysPart mid.outlets new [] (finish_line f)) (sym finishes) part))
  nearly_part ReadFault new (rose, writes, prints, talk, waits, gives, below) part other it =
      subst (λ t. SaysPart old.outlets new (written t) (output t)) (one_talk errand read talk other waits.talks it)
      (part_last old mid new talk gives (part_more mid.outlets new [] [] (finish_line talk.finish) part))
  nearly_part Spent new (kept, all, talk, waits, gives) part other it =
      subst (λ t. SaysPart old.outlets new (written t) (output t)) (one_talk errand read talk other waits.talks it)
      (part_last old mid new talk gives (part_more mid.outlets new [] [] (finish_line talk.finish) part))
  nearly_part WriteFault new (rose, gives) part other it =
      part_stays old.outlets mid.outlets new (written other) (output other) (gives other it) (nothing_stays mid.outlets new part)
  nearly_part NoMemory new (kept, gives) part other it =
      part_stays old.outlets mid.outlets new (written other) (output other) (gives other it) (nothing_stays mid.outlets new part)

  -- a count of faults that rises behind an ending has risen
  nearly_rose : (ending : Ending) (new : Outlets) → IsNearly errand old mid read ending → mid.outlets.writes ≤ new.writes → mid.outlets.prints ≤ new.prints
      → Rose mid.outlets.writes new.writes ⊎ Rose mid.outlets.prints new.prints → Rose old.outlets.writes new.writes ⊎ Rose old.outlets.prints new.prints
  nearly_rose (Finished finish) new near writes prints rose = cause_then old.outlets mid.outlets new WriteFault near.0.writes near.0.prints rose
  nearly_rose ReadFault new near writes prints rose = cause_then old.outlets mid.outlets new WriteFault near.1 near.2 rose
  nearly_rose WriteFault new near writes prints rose = rises_on old.outlets mid.outlets new near.0 writes prints
  nearly_rose NoMemory new near writes prints rose = cause_then old.outlets mid.outlets new WriteFault near.0.writes near.0.prints rose
  nearly_rose Spent new near writes prints rose = cause_then old.outlets mid.outlets new WriteFault near.0.writes near.0.prints rose

module _ (errand : Errand) (old mid : Outside) (next new : Outlets) where
  -- what was read stays as it is
  ended : (ending other : Ending) (c : ComesTo errand old mid ending) → Outcome errand old (with_outlets mid new) c.read other → Ended errand old (with_outlets mid new) other
  ended ending other c outcome = record { read = c.read; consumed = c.consumed; limited = c.limited; outcome = outcome }

  -- a part was given of whatever is said
  part : (ending : Ending) (printed : Result (Unit {0}) Ending) (c : ComesTo errand old mid ending) → PrintsLast mid.outlets next ending printed → Stays next new
      → GivesPart errand old (with_outlets mid new) c.read
  part ending printed c prints kept =
      nearly_part errand old mid c.read ending new c.nearly (part_stays mid.outlets next new [] (last_bytes ending) (line_part mid.outlets next ending printed prints) kept)

  -- the last line was printed, and all was handed on
  pub ended_whole : (ending : Ending) → ComesTo errand old mid ending → PrintsLast mid.outlets next ending (Ok (tt {0}))
      → HandsOn {T = Unit {0}} {E = Unit {0}} next new (Ok (tt {0})) → Ended errand old (with_outlets mid new) ending
  ended_whole ending c prints (kept, writes, prints_same) = ended ending ending c (outcome ending c.nearly prints)
    where
      counts : KeepsCounts old mid → next ≡ mid.outlets → KeepsCounts old (with_outlets mid new)
      counts k same = record {
        reads = k.reads;
        writes = writes ∙ ap (λ (o : Outlets). o.writes) same ∙ k.writes;
        prints = prints_same ∙ ap (λ (o : Outlets). o.prints) same ∙ k.prints;
      }

      stays : next ≡ mid.outlets → Stays mid.outlets new
      stays same = subst (λ o. Stays o new) same kept

      parts : GivesPart errand old mid c.read → next ≡ mid.outlets → GivesPart errand old (with_outlets mid new) c.read
      parts gives same talk it = part_stays old.outlets mid.outlets new (written talk) (output talk) (gives talk it) (stays same)

      outcome : (e : Ending) → IsNearly errand old mid c.read e → PrintsLast mid.outlets next e (Ok (tt {0})) → Outcome errand old (with_outlets mid new) c.read e
      outcome (Finished finish) (k, talk, is, finishes, gives, over) says =
          let all = says_kept mid.outlets next new [] (finish_line finish) says kept writes prints_same in (
            record { reads = k.reads; writes = all.writes ∙ k.writes; prints = all.prints ∙ k.prints },
            talk,
            is,
            finishes,
            gives_last old mid new talk gives (subst (λ f. Says mid.outlets new [] (finish_line f)) (sym finishes) all),
            over,
          )
      outcome ReadFault (rose, w, p, talk, waits, gives, below) (same, is) = (
        rose,
        writes ∙ ap (λ (o : Outlets). o.writes) same ∙ w,
        prints_same ∙ ap (λ (o : Outlets). o.prints) same ∙ p,
        talk,
        waits,
        gives_kept old mid new talk gives (stays same),
        below,
      )
      outcome WriteFault (rose, gives) (same, is) = (
        rises_on old.outlets mid.outlets new rose (omega (arith, writes, ap (λ (o : Outlets). o.writes) same)) (omega (arith, prints_same, ap (λ (o : Outlets). o.prints) same)),
        parts gives same,
      )
      outcome NoMemory (k, gives) (same, is) = (counts k same, parts gives same)
      outcome Spent (k, all, talk, waits, gives) (same, is) = (counts k same, all, talk, waits, gives_kept old mid new talk gives (stays same))

  -- the last line could not be printed
  pub ended_unprinted : (ending failed : Ending) → ComesTo errand old mid ending → PrintsLast mid.outlets next ending (Err failed)
      → HandsOn {T = Unit {0}} {E = Unit {0}} next new (Ok (tt {0})) → Ended errand old (with_outlets mid new) failed
  ended_unprinted ReadFault failed c (same, is) handed = absurd (cc)
  ended_unprinted WriteFault failed c (same, is) handed = absurd (cc)
  ended_unprinted NoMemory failed c (same, is) handed = absurd (cc)
  ended_unprinted Spent failed c (same, is) handed = absurd (cc)
  ended_unprinted (Finished finish) failed c does (kept, writes, prints) =
      ended (Finished finish) failed c (outcome failed does.1)
    where
      given : GivesPart errand old (with_outlets mid new) c.read
      given = part (Finished finish) (Err failed) c does kept

      outcome : (e : Ending) → IsCause mid.outlets next e → Outcome errand old (with_outlets mid new) c.read e
      outcome (Finished finish) cause = absurd cause
      outcome ReadFault cause = absurd cause
      outcome Spent cause = absurd cause
      outcome WriteFault cause = (
        rises_on old.outlets next new (cause_then old.outlets mid.outlets next WriteFault c.nearly.0.writes c.nearly.0.prints cause) (omega (arith, writes)) (omega (arith, prints)),
        given,
      )
      outcome NoMemory (w, p) = (
        record { reads = c.nearly.0.reads; writes = writes ∙ w ∙ c.nearly.0.writes; prints = prints ∙ p ∙ c.nearly.0.prints },
        given,
      )

  -- not all could be handed on
  pub ended_unsent : (ending : Ending) (printed : Result (Unit {0}) Ending) → ComesTo errand old mid ending → PrintsLast mid.outlets next ending printed
      → HandsOn {T = Unit {0}} {E = Unit {0}} next new (Err (tt {0})) → Ended errand old (with_outlets mid new) WriteFault
  ended_unsent ending printed c prints (kept, writes, lines, rose) = ended ending WriteFault c (rises ending printed c.nearly prints, part ending printed c prints kept)
    where
      -- nothing was printed
      unprinted : (e : Ending) → IsNearly errand old mid c.read e → next ≡ mid.outlets → Rose old.outlets.writes new.writes ⊎ Rose old.outlets.prints new.prints
      unprinted e near same = nearly_rose errand old mid c.read e new near
          (subst (λ (o : Outlets). o.writes ≤ new.writes) same writes) (subst (λ (o : Outlets). o.prints ≤ new.prints) same lines)
          (subst (λ (o : Outlets). Rose o.writes new.writes ⊎ Rose o.prints new.prints) same rose)

      rises : (e : Ending) (p : Result (Unit {0}) Ending) → IsNearly errand old mid c.read e → PrintsLast mid.outlets next e p → Rose old.outlets.writes new.writes ⊎ Rose old.outlets.prints new.prints
      rises ReadFault p near (same, is) = unprinted ReadFault near same
      rises WriteFault p near (same, is) = unprinted WriteFault near same
      rises NoMemory p near (same, is) = unprinted NoMemory near same
      rises Spent p near (same, is) = unprinted Spent near same
      rises (Finished finish) (Ok done) near says =
          cause_then old.outlets next new WriteFault (says.writes ∙ near.0.writes) (says.prints ∙ near.0.prints) rose
      rises (Finished finish) (Err failed) near does = failing failed does.1
        where
          failing : (f : Ending) → IsCause mid.outlets next f → Rose old.outlets.writes new.writes ⊎ Rose old.outlets.prints new.prints
          failing (Finished other) cause = absurd cause
          failing ReadFault cause = absurd cause
          failing Spent cause = absurd cause
          failing WriteFault cause = rises_on old.outlets next new (cause_then old.outlets mid.outlets next WriteFault near.0.writes near.0.prints cause) writes lines
          failing NoMemory (w, p) = cause_then old.outlets next new WriteFault (w ∙ near.0.writes) (p ∙ near.0.prints) rose
