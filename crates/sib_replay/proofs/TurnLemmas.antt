-- How one read of the source goes on or ends a replay.
use Rattle.std.proofs.Common.{◌≡◌, ◌∙◌, ap, sym, refl, subst, arith, ℕ, ◌+◌, ◌-◌, ◌<◌, List, [], ◌++◌, length, take, Option, Some, None, Ok, Err, append-nil, length-append, inl, inr}
use Rattle.std.specs.Io.KnownBytes.{Consumes, IsAtEnd, Keeps}
use Rattle.std.proofs.KnownBytes.{Appends-nil, Consumes-nil, Consumes-trans, Consumes-kept}
use Rattle.sib_script.proofs.ScriptLaws.{left_begins, left_splits}
use Rattle.sib_io.proofs.KnownLemmas.{appends_kept, part_kept}
use Rattle.sib_script.specs.Reading.{fresh}
use Rattle.sib_replay.specs.Doing.{seen}
use Rattle.sib_replay.specs.Output.{IsOutput, answers, last_line, fault_line, space_after}
use Rattle.sib_replay.specs.Ending.{Outside, outside, Ended, Outcome, KeepsCounts, ReadsWithin, GivesPart, GivesAnswers, GivesFault}
use Rattle.sib_replay.specs.Session.{Stands, Replays, Parts, Stops, Finishes, GivesFront, GivesEnd}
use Rattle.sib_replay.specs.Turn.{Turns, ReadsPiece, sink_of}
use Rattle.sib_io.specs.declared.reading.TheConstants.{INPUT_LIMIT}
use Rattle.sib_replay.specs.declared.ending.Ending.{Ending}
use Rattle.sib_replay.specs.declared.ending.Ending.TheVariants.{Done, BadScript, ReadFault, WriteFault, NoMemory, Spent}
use Rattle.sib_replay.specs.declared.replay.Replay.{Replay}
use Rattle.sib_replay.proofs.FeedLemmas.{parts_of_replay, parts_of_more}

-- a prefix of what is written for any bytes that follow is one for those that are left
part_of_front : (name : List ℕ) (old new : Option (List ℕ)) (read : List ℕ) (left : Option (List ℕ)) → GivesFront name old new read → GivesPart name old new read left
part_of_front name old new read left f more output e o = f more output o

-- a prefix of what is written at the end is one for those that are left, of which there are none
part_of_end : (name : List ℕ) (old new : Option (List ℕ)) (read : List ℕ) (left : Option (List ℕ)) → IsAtEnd left → GivesEnd name old new read → GivesPart name old new read left
part_of_end name old new read None end f more output e o = absurd (cc)
part_of_end name old new read (Some xs) end f more output e o =
    let none : more ≡ [] = sym (some_same xs more e) ∙ end in
    f output (subst (λ l. IsOutput name l output) (ap (λ l. read ++ l) none ∙ append-nil read) o)
  where
    some_same : (a b : List ℕ) → ◌≡◌ {A = Option (List ℕ)} (Some a) (Some b) → a ≡ b
    some_same a b e = cc

-- what is seen without the counter
abbrev pub bare : Outside → Outside
bare o = outside o.left o.given o.read_faults o.write_faults 0

-- a piece was read behind what was answered
pub record ReadOn (name : List ℕ) (old mid : Outside) (read piece : List ℕ) (replay : Replay) : Type 0 where
  pub consumed : Consumes old.left mid.left (read ++ piece)
  pub reads : mid.read_faults ≡ old.read_faults
  pub replays : Replays name (sink_of old) (sink_of mid) read replay.reader replay.session

module _ (name : List ℕ) (old now mid : Outside) (read : List ℕ) (left : ℕ) (replay : Replay) (buffer : List ℕ) (t : Turns name old now read left replay) (same : mid.steps ≡ now.steps) where
  -- what was given stays as the sink hands it on
  flushed : Keeps now.given mid.given → mid.write_faults ≡ now.write_faults → Replays name (sink_of old) (sink_of mid) read replay.reader replay.session
  flushed kept writes =
      let h = t.replays in
      record {
        entries = h.entries;
        events = h.events;
        allowed = h.allowed;
        spelled = h.spelled;
        part = h.part;
        waiting = h.waiting;
        running = h.running;
        taken = h.taken;
        told = h.told;
        stands = h.stands;
        does = record {
          given = appends_kept old.given now.given mid.given (answers name h.events) h.does.given kept;
          faults = writes ∙ h.does.faults;
          steps = omega (arith, same, h.does.steps);
        };
      }

  -- the rows are those of the entries that were answered
  counted : ReadsWithin name old.steps mid.steps read
  counted = subst (λ n. ReadsWithin name old.steps n read) (sym same) (parts_of_replay name (sink_of old) (sink_of now) read [] replay.reader replay.reader replay.session t.replays).counts

  -- the source failed, or the sink
  pub turn_failed : (ending : Ending) → 0 < left → ReadsPiece (bare now) (bare mid) buffer (Err ending) → Ended name old mid ending
  turn_failed Done some r = absurd r
  turn_failed BadScript some r = absurd r
  turn_failed NoMemory some r = absurd r
  turn_failed Spent some r = absurd r
  turn_failed ReadFault some (kept, writes, rose, stays) =
      let h = flushed kept writes in
      record {
        read = read;
        consumed = Consumes-kept old.left now.left mid.left read t.consumed stays;
        limited = omega (arith, t.counted);
        counts = counted;
        outcome = (
          h.does.faults,
          omega (arith, rose, t.reads),
          omega (arith, t.counted),
          left_begins read h.entries replay.reader.unread h.allowed h.spelled h.part,
          replay.reader.unread,
          record {
            entries = h.entries;
            events = h.events;
            splits = left_splits read h.entries replay.reader.unread h.allowed h.spelled h.part;
            taken = h.told;
            given = h.does.given;
          },
        );
      }
  turn_failed WriteFault some (kept, rose, stays) = record {
    read = read;
    consumed = subst (λ o. Consumes old.left o read) (sym stays) t.consumed;
    limited = omega (arith, t.counted);
    counts = counted;
    outcome = (
      omega (arith, rose, t.replays.does.faults),
      λ more output e o. part_kept old.given now.given mid.given output
          ((parts_of_replay name (sink_of old) (sink_of now) read [] replay.reader replay.reader replay.session t.replays).gives more output o) kept,
    );
  }

  -- a piece was read
  pub turn_read : (count : ℕ) → ReadsPiece (bare now) (bare mid) buffer (Ok count) → ReadOn name old mid read (take count buffer) replay
  turn_read count (kept, counts, consumed, end) = record {
    consumed = Consumes-trans old.left now.left mid.left read (take count buffer) t.consumed consumed;
    reads = counts.reads ∙ t.reads;
    replays = flushed kept counts.writes;
  }

module _ (name : List ℕ) (old mid : Outside) (read piece : List ℕ) (replay : Replay) (m : ReadOn name old mid read piece replay) where
  -- what was given before is a prefix of all
  before_parts : Parts name (sink_of old) (sink_of mid) (read ++ piece)
  before_parts = parts_of_more name (sink_of old) (sink_of mid) read piece (parts_of_replay name (sink_of old) (sink_of mid) read [] replay.reader replay.reader replay.session m.replays)

  -- the source has nothing left
  pub turn_finishes : (given : Option (List ℕ)) (risen : ℕ) (ending : Ending) → piece ≡ [] → IsAtEnd mid.left → length read < INPUT_LIMIT
      → Finishes name (sink_of old) given risen read ending → Ended name old (outside mid.left given mid.read_faults risen mid.steps) ending
  turn_finishes given risen ending none end below f = record {
    read = read;
    consumed = subst (Consumes old.left mid.left) (ap (λ l. read ++ l) none ∙ append-nil read) m.consumed;
    limited = omega (arith, below);
    counts = (parts_of_replay name (sink_of old) (sink_of mid) read [] replay.reader replay.reader replay.session m.replays).counts;
    outcome = outcome ending f;
  }
    where
      next : Outside
      next = outside mid.left given mid.read_faults risen mid.steps

      outcome : (e : Ending) → Finishes name (sink_of old) given risen read e → Outcome name old (outside mid.left given mid.read_faults risen mid.steps) read e
      outcome Done (kept, f) = (record { reads = m.reads; writes = kept }, below, end, f)
      outcome BadScript (kept, rest, f) = (record { reads = m.reads; writes = kept }, below, inr end, rest, f)
      outcome WriteFault (rose, f) = (rose, part_of_end name old.given given read mid.left end f)
      outcome NoMemory (kept, f) = (record { reads = m.reads; writes = kept }, part_of_end name old.given given read mid.left end f)
      outcome ReadFault f = absurd f
      outcome Spent f = absurd f

  -- as many bytes were taken as may be
  pub turn_spends : length (read ++ piece) ≡ INPUT_LIMIT → Ended name old mid Spent
  turn_spends all = record {
    read = read ++ piece;
    consumed = m.consumed;
    limited = omega (arith, all);
    counts = before_parts.counts;
    outcome = (record { reads = m.reads; writes = m.replays.does.faults }, all, part_of_front name old.given mid.given (read ++ piece) mid.left before_parts.gives);
  }

  -- what was read could not all be answered
  pub turn_stops : (given : Option (List ℕ)) (risen steps : ℕ) (ending : Ending) → length (read ++ piece) < INPUT_LIMIT
      → Stops name (sink_of old) (seen given risen steps) (read ++ piece) ending → Ended name old (outside mid.left given mid.read_faults risen steps) ending
  turn_stops given risen steps ending below s = record {
    read = read ++ piece;
    consumed = m.consumed;
    limited = omega (arith, below);
    counts = counts ending s;
    outcome = outcome ending s;
  }
    where
      counts : (e : Ending) → Stops name (sink_of old) (seen given risen steps) (read ++ piece) e → ReadsWithin name old.steps steps (read ++ piece)
      counts Done s = absurd s
      counts BadScript s = s.2
      counts WriteFault s = s.1.counts
      counts NoMemory s = s.1.counts
      counts ReadFault s = absurd s
      counts Spent s = absurd s

      outcome : (e : Ending) → Stops name (sink_of old) (seen given risen steps) (read ++ piece) e → Outcome name old (outside mid.left given mid.read_faults risen steps) (read ++ piece) e
      outcome Done s = absurd s
      outcome BadScript (kept, dead, within, rest, gives) = (record { reads = m.reads; writes = kept }, below, inl dead, rest, gives)
      outcome WriteFault (rose, p) = (rose, part_of_front name old.given given (read ++ piece) mid.left p.gives)
      outcome NoMemory (kept, p) = (record { reads = m.reads; writes = kept }, part_of_front name old.given given (read ++ piece) mid.left p.gives)
      outcome ReadFault s = absurd s
      outcome Spent s = absurd s

  -- what was read was answered
  pub turn_goes_on : (given : Option (List ℕ)) (risen steps left count : ℕ) (new : Replay) → length read + left ≡ INPUT_LIMIT → length piece ≡ count → count < left
      → Replays name (sink_of old) (seen given risen steps) (read ++ piece) new.reader new.session
      → Turns name old (outside mid.left given mid.read_faults risen steps) (read ++ piece) (left - count) new
  turn_goes_on given risen steps left count new all counted short r = record {
    consumed = m.consumed;
    reads = m.reads;
    counted = omega (arith, all, counted, short, length-append read piece);
    replays = r;
  }

-- a replay that has read nothing
pub turns_start : (name : List ℕ) (now : Outside) (replay : Replay) → replay.reader ≡ fresh → Stands name replay.session [] → Turns name now now [] INPUT_LIMIT replay
turns_start name now replay is stands = record {
  consumed = Consumes-nil now.left;
  reads = refl;
  counted = omega arith;
  replays = subst (λ r. Replays name (sink_of now) (sink_of now) [] r replay.session) (sym is) (record {
    entries = [];
    events = [];
    allowed = tt;
    spelled = refl;
    part = inr refl;
    waiting = refl;
    running = refl;
    taken = refl;
    told = refl;
    stands = stands;
    does = record { given = Appends-nil now.given; faults = refl; steps = omega arith };
  });
}

-- a flush that hands all on leaves an ending as it is
module _ (name : List ℕ) (old mid : Outside) (given : Option (List ℕ)) (risen : ℕ) (kept : Keeps mid.given given) (writes : risen ≡ mid.write_faults) where
  pub ended_flushed : (ending : Ending) → Ended name old mid ending → Ended name old (outside mid.left given mid.read_faults risen mid.steps) ending
  ended_flushed ending e = record { read = e.read; consumed = e.consumed; limited = e.limited; counts = e.counts; outcome = outcome ending e.outcome }
    where
      answered : (rest : List ℕ) → GivesAnswers name old.given mid.given e.read rest → GivesAnswers name old.given given e.read rest
      answered rest g = record {
        entries = g.entries;
        events = g.events;
        splits = g.splits;
        taken = g.taken;
        given = appends_kept old.given mid.given given (answers name g.events) g.given kept;
      }

      faulty : (rest : List ℕ) → GivesFault name old.given mid.given e.read rest → GivesFault name old.given given e.read rest
      faulty rest g = record {
        entries = g.entries;
        events = g.events;
        place = g.place;
        splits = g.splits;
        some = g.some;
        at = g.at;
        taken = g.taken;
        given = appends_kept old.given mid.given given (answers name g.events ++ fault_line g.place) g.given kept;
      }

      part : GivesPart name old.given mid.given e.read mid.left → GivesPart name old.given given e.read mid.left
      part p more output l o = part_kept old.given mid.given given output (p more output l o) kept

      counts : KeepsCounts old mid → KeepsCounts old (outside mid.left given mid.read_faults risen mid.steps)
      counts k = record { reads = k.reads; writes = writes ∙ k.writes }

      outcome : (x : Ending) → Outcome name old mid e.read x → Outcome name old (outside mid.left given mid.read_faults risen mid.steps) e.read x
      outcome Done (k, below, at_end, g) = (
        counts k,
        below,
        at_end,
        record {
          entries = g.entries;
          events = g.events;
          script = g.script;
          taken = g.taken;
          given = appends_kept old.given mid.given given (answers name g.events ++ last_line (space_after name g.events)) g.given kept;
        },
      )
      outcome BadScript (k, below, where_, rest, g) = (counts k, below, where_, rest, faulty rest g)
      outcome ReadFault (writes_, rose, below, begins, rest, g) = (writes ∙ writes_, rose, below, begins, rest, answered rest g)
      outcome WriteFault (rose, p) = (omega (arith, rose, writes), part p)
      outcome NoMemory (k, p) = (counts k, part p)
      outcome Spent (k, full, p) = (counts k, full, part p)
