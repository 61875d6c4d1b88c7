-- How one read of the source goes on with a talk or ends it.
use Rattle.std.proofs.Common.{◌≡◌, ◌∙◌, ap, sym, refl, subst, arith, ℕ, ◌+◌, ◌-◌, ◌<◌, ◌≤◌, List, [], ◌++◌, length, take, Ok, Err, Result, append-nil, length-append}
use Rattle.std.specs.Io.KnownBytes.{Consumes, IsAtEnd}
use Rattle.std.proofs.KnownBytes.{Consumes-nil, Consumes-trans, Consumes-kept}
use Rattle.sib_io.specs.Causes.{Rose}
use Rattle.ssap_decode.specs.Decoding.{Decoding, fresh}
use Rattle.ssap_hearing.proofs.Letting.{nothing_let}
use Rattle.kp_talk.specs.Talk.{Talk, talk_over}
use Rattle.kp_talk.specs.Lines.{written, printed, finish_line}
use Rattle.kp_talk.specs.Reading.{IsTalk}
use Rattle.kp_talk.specs.Saying.{Outlets, Answers, Fails, IsCause}
use Rattle.kp_talk.specs.Listening.{Listens, Hears, EndsBehind, SaysSome}
use Rattle.kp_talk.specs.Ending.{Outside, IsWaiting, GivesTalk, GivesPart}
use Rattle.kp_talk.specs.Turn.{Talking, ReadsPiece, IsNearly, ComesTo}
use Rattle.kp_talk.specs.declared.errand.Errand.{Errand}
use Rattle.kp_talk.specs.declared.party.Party.{Party}
use Rattle.sib_io.specs.declared.reading.TheConstants.{INPUT_LIMIT}
use Rattle.kp_talk.specs.declared.ending.Ending.{Ending}
use Rattle.kp_talk.specs.declared.ending.Ending.TheVariants.{Finished, ReadFault, WriteFault, NoMemory, Spent}
use Rattle.kp_talk.proofs.OutletsGrow.{cause_then, part_more, part_stays}
use Rattle.kp_talk.proofs.TalksGoOn.{talk_of}
use Rattle.kp_talk.proofs.BytesAreHeard.{whole_talk, heard_part, heard_kept, nothing_heard, part_of_some}
use Rattle.kp_talk.proofs.InputsEnd.{heard_waits}

-- the same with other outlets
abbrev pub with_outlets : Outside → Outlets → Outside
with_outlets outside outlets = record { left = outside.left; reads = outside.reads; outlets = outlets }

-- a part of what is printed before the last line is a part of all that is printed
pub part_given : (errand : Errand) (old new : Outside) (bytes : List ℕ) → SaysSome errand old.outlets new.outlets bytes → GivesPart errand old new bytes
part_given errand old new bytes some talk is = part_more old.outlets new.outlets (written talk) (printed talk) (finish_line talk.finish) (some talk is)

-- bytes were heard that are answered whole, and more may follow them
waits_on : (errand : Errand) (old now : Outside) (bytes : List ℕ) (party : Party) (d : Decoding) → Listens errand old.outlets now.outlets bytes party d
    → (talk : Talk) × IsWaiting errand bytes talk × GivesTalk old now talk
waits_on errand old now bytes party d l =
    let (last, ends, clean) = heard_waits d bytes l.came l.follows in (
      talk_of l.talks.requests l.talks.lines last,
      record {
        talks = subst (λ b. IsTalk errand b (talk_of l.talks.requests l.talks.lines last)) (append-nil bytes)
            (whole_talk errand old.outlets now.outlets bytes [] party d l last ends);
        waits = clean;
      },
      record { written = l.talks.says.written; printed = l.talks.says.printed },
    )

-- a piece was read behind what was answered
pub record ReadOn (errand : Errand) (old mid : Outside) (read piece : List ℕ) (party : Party) (d : Decoding) : Type 0 where
  pub consumed : Consumes old.left mid.left (read ++ piece)
  pub reads : mid.reads ≡ old.reads
  pub listens : Listens errand old.outlets mid.outlets read party d

module _ (errand : Errand) (old now mid : Outside) (read : List ℕ) (left : ℕ) (party : Party) (d : Decoding) (buffer : List ℕ) (t : Talking errand old now read left party d) where
  -- the source failed, or a sink
  pub turn_failed : (ending : Ending) → 0 < left → ReadsPiece now mid buffer (Err ending) → ComesTo errand old mid ending
  turn_failed (Finished finish) some r = absurd r
  turn_failed NoMemory some r = absurd r
  turn_failed Spent some r = absurd r
  turn_failed ReadFault some (kept, writes, prints, rose, stays) =
      let l = heard_kept errand old.outlets now.outlets mid.outlets read party d t.listens kept writes prints in
      let waits = waits_on errand old mid read party d l in
      record {
        read = read;
        consumed = Consumes-kept old.left now.left mid.left read t.consumed stays;
        limited = omega (arith, t.counted);
        nearly = (subst (λ n. Rose n mid.reads) t.reads rose, l.talks.says.writes, l.talks.says.prints, waits.0, waits.1, waits.2, omega (arith, t.counted, some));
      }
  turn_failed WriteFault some (kept, rose, same) =
      let part = subst (SaysSome errand old.outlets now.outlets) (append-nil read) (heard_part errand old.outlets now.outlets read [] party d t.listens) in
      record {
        read = read;
        consumed = subst (λ o. Consumes old.left o read) (sym same) t.consumed;
        limited = omega (arith, t.counted);
        nearly = (
          cause_then old.outlets now.outlets mid.outlets WriteFault t.listens.talks.says.writes t.listens.talks.says.prints rose,
          part_given errand old mid read (λ talk is. part_stays old.outlets now.outlets mid.outlets (written talk) (printed talk) (part talk is) kept),
        );
      }

  -- a piece was read
  pub turn_read : (count : ℕ) → ReadsPiece now mid buffer (Ok count) → ReadOn errand old mid read (take count buffer) party d
  turn_read count (kept, counts, consumed, end) = record {
    consumed = Consumes-trans old.left now.left mid.left read (take count buffer) t.consumed consumed;
    reads = counts.reads ∙ t.reads;
    listens = heard_kept errand old.outlets now.outlets mid.outlets read party d t.listens kept counts.writes counts.prints;
  }

module _ (errand : Errand) (old mid : Outside) (read piece : List ℕ) (party : Party) (d : Decoding) (m : ReadOn errand old mid read piece party d) where
  -- the source has nothing left
  pub turn_over : (ending : Ending) → piece ≡ [] → IsAtEnd mid.left → length read < INPUT_LIMIT → EndsBehind read ending → ComesTo errand old mid ending
  turn_over ReadFault none end below ends = absurd ends
  turn_over WriteFault none end below ends = absurd ends
  turn_over NoMemory none end below ends = absurd ends
  turn_over Spent none end below ends = absurd ends
  turn_over (Finished finish) none end below (ends, clean) =
      let l = m.listens in
      record {
        read = read;
        consumed = subst (Consumes old.left mid.left) (ap (λ b. read ++ b) none ∙ append-nil read) m.consumed;
        limited = omega (arith, below);
        nearly = (
          record { reads = m.reads; writes = l.talks.says.writes; prints = l.talks.says.prints },
          talk_of l.talks.requests l.talks.lines finish,
          subst (λ b. IsTalk errand b (talk_of l.talks.requests l.talks.lines finish)) (append-nil read)
              (whole_talk errand old.outlets mid.outlets read [] party d l finish ends),
          refl,
          record { written = l.talks.says.written; printed = l.talks.says.printed },
          λ is. (end, below),
        );
      }

  -- what was read finished the talk, or an answer to it failed
  pub turn_ends : (next : Outlets) (ending : Ending) (new : Party) (later : Decoding) → length (read ++ piece) ≤ INPUT_LIMIT
      → Hears {T = Unit {0}} errand old.outlets next (read ++ piece) (read ++ piece) (Err ending) new later → ComesTo errand old (with_outlets mid next) ending
  turn_ends next ending new later within h = record { read = read ++ piece; consumed = m.consumed; limited = within; nearly = nearly ending h }
    where
      nearly : (e : Ending) → Hears {T = Unit {0}} errand old.outlets next (read ++ piece) (read ++ piece) (Err e) new later → IsNearly errand old (with_outlets mid next) (read ++ piece) e
      nearly (Finished finish) h = (
        record { reads = m.reads; writes = h.says.writes; prints = h.says.prints },
        h.talk,
        h.is,
        h.finishes,
        record { written = h.says.written; printed = h.says.printed },
        λ clean. absurd (h.unclean clean),
      )
      nearly ReadFault h = absurd h
      nearly Spent h = absurd h
      nearly WriteFault (some, cause) = (cause, part_given errand old (with_outlets mid next) (read ++ piece) some)
      nearly NoMemory (some, cause) =
          (record { reads = m.reads; writes = cause.0; prints = cause.1 }, part_given errand old (with_outlets mid next) (read ++ piece) some)

  -- as many bytes were taken as may be
  pub turn_spends : (next : Outlets) (new : Party) (later : Decoding) → length (read ++ piece) ≡ INPUT_LIMIT → Listens errand old.outlets next (read ++ piece) new later
      → ComesTo errand old (with_outlets mid next) Spent
  turn_spends next new later all l =
      let waits = waits_on errand old (with_outlets mid next) (read ++ piece) new later l in
      record {
        read = read ++ piece;
        consumed = m.consumed;
        limited = omega (arith, all);
        nearly = (record { reads = m.reads; writes = l.talks.says.writes; prints = l.talks.says.prints }, all, waits.0, waits.1, waits.2);
      }

  -- what was read was answered
  pub turn_goes_on : (next : Outlets) (left count : ℕ) (new : Party) (later : Decoding) → length read + left ≡ INPUT_LIMIT → length piece ≡ count → count ≤ left
      → Listens errand old.outlets next (read ++ piece) new later → Talking errand old (with_outlets mid next) (read ++ piece) (left - count) new later
  turn_goes_on next left count new later all counted short l = record {
    consumed = m.consumed;
    reads = m.reads;
    counted = omega (arith, all, counted, short, length-append read piece);
    listens = l;
  }

-- what was heard of a piece, written in another way
pub hears_as : (errand : Errand) (old new : Outlets) (heard piece other : List ℕ) (result : Result (Unit {0}) Ending) (party : Party) (d : Decoding)
    → Hears {T = Unit {0}} errand old new (heard ++ piece) (heard ++ piece) result party d → piece ≡ other → Hears {T = Unit {0}} errand old new (heard ++ other) (heard ++ other) result party d
hears_as errand old new heard piece other result party d h same = subst (λ b. Hears {T = Unit {0}} errand old new (heard ++ b) (heard ++ b) result party d) same h

-- a party that begins its talk has read nothing
pub turns_start : (errand : Errand) (old now : Outside) (party : Party) → Answers errand (λ told last. talk_over last errand told) old.outlets now.outlets (Ok (tt {0})) party
    → now.left ≡ old.left → now.reads ≡ old.reads → Talking errand old now [] INPUT_LIMIT party fresh
turns_start errand old now party (requests, lines, leads, on, says) left reads = record {
  consumed = subst (λ o. Consumes old.left o []) (sym left) (Consumes-nil old.left);
  reads = reads;
  counted = omega arith;
  listens = nothing_heard errand old.outlets now.outlets party (record { requests = requests; lines = lines; leads = leads; on = on; says = says });
}

-- neither has one that cannot begin it
pub turns_fail : (errand : Errand) (old now : Outside) (ending : Ending) → Fails (λ told last. talk_over last errand told) old.outlets now.outlets → IsCause old.outlets now.outlets ending
    → now.left ≡ old.left → now.reads ≡ old.reads → ComesTo errand old now ending
turns_fail errand old now ending fails cause left reads = record {
  read = [];
  consumed = subst (λ o. Consumes old.left o []) (sym left) (Consumes-nil old.left);
  limited = omega arith;
  nearly = nearly ending cause;
}
  where
    part : GivesPart errand old now []
    part = part_given errand old now [] (part_of_some errand old.outlets now.outlets [] [] [] [] nothing_let tt fails)

    nearly : (e : Ending) → IsCause old.outlets now.outlets e → IsNearly errand old now [] e
    nearly (Finished finish) cause = absurd cause
    nearly ReadFault cause = absurd cause
    nearly Spent cause = absurd cause
    nearly WriteFault cause = (cause, part)
    nearly NoMemory (w, p) = (record { reads = reads; writes = w; prints = p }, part)
