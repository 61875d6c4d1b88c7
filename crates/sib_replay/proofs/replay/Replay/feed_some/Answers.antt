use Rattle.std.proofs.Common.{◌≡◌, ◌∙◌, ap, sym, subst, ℕ, ◌++◌, List, take, drop, append_assoc, take-append-drop}
use Rattle.sib_replay.specs.declared.ending.Ending.{Ending}
use Rattle.sib_replay.specs.Doing.{Seen, seen}
use Rattle.sib_replay.specs.Ending.{ending_of}
use Rattle.sib_replay.specs.Session.{Stops}
use Rattle.sib_replay.proofs.FeedLemmas.{feeds_some, refused_stops, fails_stop, untold, anew, held_entry, goes_on}
use Rattle.sib_replay.proofs.replay.Replay.feed_some.Goals as goal

-- the entry that was read is held
pub answer-requires-clause-held : goal.answer-requires-clause-held
answer-requires-clause-held g c κs within =
    let (name, read, h) = c.requires.ongoing in
    let count = c.in-Ok.count in
    let bytes = c.args.bytes.now in (
      name,
      read ++ take count bytes,
      held_entry name _ _ read bytes c.args.self.now.reader c.feed.new.self c.next.new.self c.args.self.now.session count c.in-Some.entry h
          c.in-Ok.ensures.ok (sym c.next.ensures.entry ∙ c.in-Some.is) c.next.ensures.taken c.requires.fits,
    )

-- a refused call of the reader stops the replay
pub returns-in-Err-clause-fed : goal.returns-in-Err-clause-fed
returns-in-Err-clause-fed g c name old read h =
    refused_stops name old _ (g.K.Sink.given c.refuse.new.sink) (g.K.Sink.faults c.refuse.new.sink) read
    c.args.self.now.reader c.feed.new.self c.args.self.now.session c.refuse.result h c.args.bytes.now c.in-Err.fault c.in-Err.ensures.refused c.refuse.ensures.place c.refuse.ensures.memory

-- the replay goes on inside an entry
pub returns-in_default-clause-ongoing : goal.returns-in_default-clause-ongoing
returns-in_default-clause-ongoing g c =
    let (name, read, h) = c.requires.ongoing in (
      name,
      read ++ take c.in-Ok.count c.args.bytes.now,
      goes_on name _ _ read c.args.bytes.now c.args.self.now.reader c.feed.new.self c.next.new.self c.args.self.now.session c.in-Ok.count h
          c.in-Ok.ensures.ok (sym c.next.ensures.entry ∙ c.in_default.is) c.next.ensures.taken,
    )

pub returns-in_default-clause-fed : goal.returns-in_default-clause-fed
returns-in_default-clause-fed g c name old read h =
    goes_on name old _ read c.args.bytes.now c.args.self.now.reader c.feed.new.self c.next.new.self c.args.self.now.session c.in-Ok.count h
    c.in-Ok.ensures.ok (sym c.next.ensures.entry ∙ c.in_default.is) c.next.ensures.taken

-- some bytes were taken
pub returns-in-Ok-answer-clause-within : goal.returns-in-Ok-answer-clause-within
returns-in-Ok-answer-clause-within g c =
    let (name, read, h) = c.requires.ongoing in (
      feeds_some name _ _ read c.args.bytes.now c.args.self.now.reader c.feed.new.self c.args.self.now.session c.in-Ok.count c.requires.some h c.in-Ok.ensures.ok,
      c.in-Ok.ensures.ok.within,
    )

-- the replay goes on behind an entry
pub returns-in-Ok-answer-clause-ongoing : goal.returns-in-Ok-answer-clause-ongoing
returns-in-Ok-answer-clause-ongoing g c =
    let (name, read, h) = c.requires.ongoing in
    let count = c.in-Ok.count in
    let bytes = c.args.bytes.now in
    let here = anew name read c.args.self.now.reader c.args.self.now.session (g.K.Sink.faults c.args.sink.now) c.args.steps.now (g.K.Sink.given c.args.sink.now) h in
    let held = held_entry name _ _ read bytes c.args.self.now.reader c.feed.new.self c.next.new.self c.args.self.now.session count c.in-Some.entry here
    c.in-Ok.ensures.ok (sym c.next.ensures.entry ∙ c.in-Some.is) c.next.ensures.taken c.requires.fits
    in
    (name, read ++ take count bytes, untold name _ _ (read ++ take count bytes) c.answer.new.self.reader c.answer.new.self.session (c.in-Ok-answer.ensures.settled name _ (read ++ take count bytes) held))

-- an entry that could not be answered stops the replay
pub returns-in-Err-answer-clause-fed : goal.returns-in-Err-answer-clause-fed
returns-in-Err-answer-clause-fed g c name old read h =
    let count = c.in-Ok.count in
    let bytes = c.args.bytes.now in
    let new : Seen = seen (g.K.Sink.given c.answer.new.sink) (g.K.Sink.faults c.answer.new.sink) c.answer.new.steps in
    let held = held_entry name old _ read bytes c.args.self.now.reader c.feed.new.self c.next.new.self c.args.self.now.session count c.in-Some.entry h
    c.in-Ok.ensures.ok (sym c.next.ensures.entry ∙ c.in-Some.is) c.next.ensures.taken c.requires.fits
    in
    let whole : (read ++ take count bytes) ++ drop count bytes ≡ read ++ bytes =
    append_assoc read (take count bytes) (drop count bytes) ∙ ap (λ l. read ++ l) (take-append-drop count bytes)
    in
    let stops = fails_stop name old new (read ++ take count bytes) (drop count bytes) c.in-Err-answer.fault (c.in-Err-answer.ensures.settled name old (read ++ take count bytes) held) in
    subst (λ (e : Ending). Stops name old new (read ++ bytes) e) (sym c.ending.ensures)
    (subst (λ (l : List ℕ). Stops name old new l (ending_of c.in-Err-answer.fault)) whole stops)
