-- How a replay goes on from one entry to the next, and what stands where it stops.
use Rattle.std.proofs.Common.{◌≡◌, ◌∙◌, ap, sym, refl, subst, arith, ℕ, ◌+◌, ◌≤◌, ◌==◌, true, false, cond, List, [], ◌∷◌, ◌++◌, length, drop, Option, Result, Ok, Err, append_assoc, append-nil, length-append, inl, inr}
use Rattle.std.specs.Bool.{MatchBool}
use Rattle.sib_io.specs.Causes.{AppendsPart}
use Rattle.sib_io.proofs.KnownLemmas.{part_of_more}
use Rattle.sib_script.specs.declared.entry.Entry.{Entry}
use Rattle.sib_script.specs.declared.entry.Entry.TheVariants.{NewLink, Bytes, End}
use Rattle.sib_script.specs.Script.{entry_spelling, script_spelling, Splits}
use Rattle.sib_script.specs.Reading.{Reading}
use Rattle.sib_script.proofs.ScriptLaws.{script_spelling-push, entries_push, splits_front, splits_reading}
use Rattle.sib_replay.specs.declared.ending.Fault.{Fault}
use Rattle.sib_replay.specs.Doing.{Seen, DoesPart}
use Rattle.sib_replay.specs.Ending.{ReadsWithin}
use Rattle.sib_replay.specs.Output.{Event, Opens, Hears, Stops, Ends, Closed, is_open_after, heard, arrived_on, IsHeard, IsEnded, IsTaken, AreTakenAfter, AreTaken, answers, answers_after, rows, rows_after, farewell}
use Rattle.sib_replay.specs.Session.{Answers, Replays, Holds, Parts, Settles, GivesFront, Delivers, Fits}
use Rattle.sib_replay.specs.declared.why.Why.TheVariants.{Cut}
use Rattle.sib_replay.specs.declared.session.Session.{Session}
use Rattle.sib_replay.proofs.DoingLemmas.{does_as, does_both, part_more, then_part, cause_after}
use Rattle.sib_replay.proofs.EventLemmas.{heard-append, arrived_quiet, answers_after-append, rows_after-append}
use Rattle.sib_replay.proofs.OutputLemmas.{answers-append, taken-push, told_front, told_entry}

-- a delivery's spelling is longer than its bytes
spelled_longer : (link : ℕ) (bytes : List ℕ) → length bytes ≤ length (entry_spelling (Bytes link bytes))
unfolding entry_spelling
spelled_longer link bytes = simp length-append (omega arith)

-- a delivery brings no more than its bytes
heard_within : (name : List ℕ) (before : List Event) (link other : ℕ) (bytes : List ℕ) (events : List Event) → IsHeard name before other bytes events → length (heard events link) ≤ length bytes
heard_within name before link other bytes events (others, is, h) =
    let quiet = arrived_quiet name (before ++ Hears other bytes ∷ []) link other h.front h.rest (drop (arrived_on before other) h.messages) others h.taken in
    let all : heard events link ≡ cond (other == link) bytes [] = ap (λ vs. heard vs link) is ∙ ap (λ l. cond (other == link) bytes [] ++ l) quiet ∙ append-nil (cond (other == link) bytes []) in
    subst (λ l. length l ≤ length bytes) (sym all) (elim (other == link) as (λ b. length (cond b bytes []) ≤ length bytes) [ true ↦ omega arith | false ↦ omega arith ])

-- an entry that brings nothing
quiet_within : (link : ℕ) (e : Entry) (v w : List Event) → v ≡ w → heard w link ≡ [] → length (heard v link) ≤ length (entry_spelling e)
quiet_within link e v w is none = subst (λ l. length l ≤ length (entry_spelling e)) (sym (ap (λ vs. heard vs link) is ∙ none)) (omega arith)

-- an entry brings no more than its spelling
brought_within : (name : List ℕ) (before : List Event) (link : ℕ) (e : Entry) (v : List Event) → IsTaken name before e v → length (heard v link) ≤ length (entry_spelling e)
brought_within name before link NewLink v t =
    quiet_within link NewLink v (Opens ∷ []) t refl
brought_within name before link (Bytes other bytes) v t =
    elim (is_open_after name before other) as (λ b. MatchBool b (IsHeard name before other bytes v) (v ≡ Closed other ∷ []) → length (heard v link) ≤ length (entry_spelling (Bytes other bytes))) [
      | true ↦ λ h. omega (arith, heard_within name before link other bytes v h, spelled_longer other bytes)
      | false ↦ λ h. quiet_within link (Bytes other bytes) v (Closed other ∷ []) h refl
    ] t
brought_within name before link (End other) v t =
    elim (is_open_after name before other) as (λ b. MatchBool b (IsEnded before other v) (v ≡ Closed other ∷ []) → length (heard v link) ≤ length (entry_spelling (End other))) [
      | true ↦ λ h. ended h
      | false ↦ λ h. quiet_within link (End other) v (Closed other ∷ []) h refl
    ] t
  where
    ended : IsEnded before other v → length (heard v link) ≤ length (entry_spelling (End other))
    ended (inl a) = quiet_within link (End other) v (Ends other ∷ []) a.2 refl
    ended (inr a) = quiet_within link (End other) v (Stops other (Cut a.0) ∷ []) a.2 refl

-- what came on a link is within the bytes that were read
pub heard_read : (name : List ℕ) (before : List Event) (link : ℕ) (es : List Entry) (vs : List Event) → AreTakenAfter name before es vs → length (heard vs link) ≤ length (script_spelling es)
heard_read name before link [] vs t = subst (λ l. length (heard l link) ≤ 0) (sym t) (omega arith)
heard_read name before link (e ∷ es) vs (first, others, is, taken, rest) =
    omega (
      arith,
      ap (λ l. length (heard l link)) is,
      ap length (heard-append first others link),
      length-append (heard first link) (heard others link),
      brought_within name before link e first taken,
      heard_read name (before ++ first) link es others rest,
      length-append (entry_spelling e) (script_spelling es),
    )

-- an entry that was read whole has bytes that, behind those on its link, can be counted
pub fits_of_held : (name : List ℕ) (old new : Seen) (read : List ℕ) (entry : Entry) (reader : Reading) (session : Session)
    → (h : Holds name old new read entry reader session) → Fits h.events entry
fits_of_held name old new read NewLink reader session h = tt
fits_of_held name old new read (Bytes link bytes) reader session h =
    omega (
      arith,
      h.small,
      ap length h.spelled,
      length-append (script_spelling h.entries) (entry_spelling (Bytes link bytes)),
      spelled_longer link bytes,
      heard_read name [] link h.entries h.events h.told,
    )
fits_of_held name old new read (End link) reader session h = tt

-- a prefix of the answers to the entries that were read is a prefix of all that is written
pub front_of_output : (name : List ℕ) (old now : Option (List ℕ)) (read rest : List ℕ) (es : List Entry) (ds : List Event) → Splits read es rest
    → AreTaken name es ds → AppendsPart old now (answers name ds) → GivesFront name old now read
front_of_output name old now read rest es ds s t part more output (fs, left, gs, place, splits, at, told, is) =
    let grown = splits_front read more es fs rest left s splits in
    let same = told_front name es grown.0 ds gs t (subst (λ l. AreTaken name l gs) grown.1 told) in
    let behind : List ℕ = answers_after name ds same.0 ++ farewell name gs place left in
    let whole : answers name ds ++ behind ≡ output =
    sym (append_assoc (answers name ds) (answers_after name ds same.0) (farewell name gs place left))
    ∙ ap (λ l. l ++ farewell name gs place left) (sym (ap (answers name) same.1 ∙ answers_after-append name [] ds same.0))
    ∙ sym is
    in
    subst (AppendsPart old now) whole (part_of_more old now (answers name ds) behind part)

-- the rows of some events and of more
rows-append : (name : List ℕ) (vs ws : List Event) → rows name (vs ++ ws) ≡ rows name vs + rows_after name vs ws
rows-append name vs ws = rows_after-append name [] vs ws

-- within the rows of the entries that were read is within those of these and more
pub rows_of_output : (name : List ℕ) (old now : ℕ) (read rest : List ℕ) (es : List Entry) (ds : List Event) → Splits read es rest → AreTaken name es ds → now ≤ old + rows name ds
    → ReadsWithin name old now read
rows_of_output name old now read rest es ds s t within more fs left gs splits told =
    let grown = splits_front read more es fs rest left s splits in
    let same = told_front name es grown.0 ds gs t (subst (λ l. AreTaken name l gs) grown.1 told) in
    omega (arith, within, rows-append name ds same.0, ap (rows name) same.1)

-- the entries with the one that is held
held_splits : (name : List ℕ) (old new : Seen) (read : List ℕ) (entry : Entry) (reader : Reading) (session : Session)
    → (h : Holds name old new read entry reader session) → Splits read (h.entries ++ entry ∷ []) []
held_splits name old new read entry reader session h =
    (splits_reading read (h.entries ++ entry ∷ []) [] (entries_push h.entries entry h.allowed h.comes)
    (h.spelled ∙ sym (append-nil (script_spelling (h.entries ++ entry ∷ [])) ∙ script_spelling-push h.entries entry)) (inr refl)).0

module _ (name : List ℕ) (old given now : Seen) (read : List ℕ) (entry : Entry) (reader : Reading) (session : Session) (h : Holds name old given read entry reader session) where
  -- an entry that was answered is one more
  replays_entry : (new : Session) → Answers name h.events entry given now new → Replays name old now read reader new
  replays_entry new a = record {
    entries = h.entries ++ entry ∷ [];
    events = h.events ++ a.events;
    allowed = entries_push h.entries entry h.allowed h.comes;
    spelled = h.spelled ∙ sym (script_spelling-push h.entries entry) ∙ sym (ap (λ l. script_spelling (h.entries ++ entry ∷ []) ++ l) h.unread ∙ append-nil (script_spelling (h.entries ++ entry ∷ [])));
    part = inr h.unread;
    waiting = h.waiting;
    running = h.running;
    taken = h.taken;
    told = taken-push name h.entries h.events entry a.events h.told a.taken;
    stands = a.stands;
    does = let more = rows-append name h.events a.events in
        does_as old now (answers name h.events ++ answers_after name h.events a.events) (answers name (h.events ++ a.events))
        (rows name h.events + rows_after name h.events a.events) (rows name (h.events ++ a.events)) (sym (answers-append name h.events a.events)) (omega (arith, more))
        (does_both old given now (answers name h.events) (answers_after name h.events a.events) (rows name h.events) (rows_after name h.events a.events) h.does a.answer);
  }

  module _ (part : (events : List Event) → IsTaken name h.events entry events → DoesPart given now (answers_after name h.events events) (rows_after name h.events events)) where
    -- a part of what the entry answers, behind all that was answered before
    entry_part : (events : List Event) → IsTaken name h.events entry events → DoesPart old now (answers name (h.events ++ events)) (rows name (h.events ++ events))
    entry_part events t =
        let more = rows-append name h.events events in
        part_more old now (answers name h.events ++ answers_after name h.events events) [] (answers name (h.events ++ events))
        (rows name h.events + rows_after name h.events events) (rows name (h.events ++ events))
        (then_part old given now (answers name h.events) (answers_after name h.events events) (rows name h.events) (rows_after name h.events events) h.does (part events t))
        (append-nil (answers name h.events ++ answers_after name h.events events) ∙ sym (answers-append name h.events events)) (omega (arith, more))

    -- what the entry is taken as, among all events
    entry_among : (more : List ℕ) (fs : List Entry) (left : List ℕ) (gs : List Event) → Splits (read ++ more) fs left → AreTaken name fs gs → (events : List Event) × IsTaken name h.events entry events
    entry_among more fs left gs splits told =
        let grown = splits_front read more (h.entries ++ entry ∷ []) fs [] left (held_splits name old given read entry reader session h) splits in
        let all : fs ≡ h.entries ++ entry ∷ grown.0 = grown.1 ∙ append_assoc h.entries (entry ∷ []) grown.0 in
        let t = told_entry name h.entries grown.0 entry h.events gs h.told (subst (λ l. AreTaken name l gs) all told) in
        (t.0, t.3)

    -- a prefix of all that is written was given, within the rows of all calls
    parts_of_entry : Parts name old now read
    parts_of_entry = record {
      gives = λ more output o.
          let (fs, left, gs, place, splits, at, told, is) = o in
          let (events, t) = entry_among more fs left gs splits told in
          front_of_output name old.given now.given read [] (h.entries ++ entry ∷ []) (h.events ++ events) (held_splits name old given read entry reader session h)
          (taken-push name h.entries h.events entry events h.told t) (entry_part events t).given more output o;
      counts = λ more fs left gs splits told.
          let (events, t) = entry_among more fs left gs splits told in
          rows_of_output name old.steps now.steps read [] (h.entries ++ entry ∷ []) (h.events ++ events) (held_splits name old given read entry reader session h)
          (taken-push name h.entries h.events entry events h.told t) (entry_part events t).steps more fs left gs splits told;
    }

  -- an entry was answered, or a fault stopped the answer
  pub entry_settles : (new : Session) (result : Result (Unit {0}) Fault) → Delivers name h.events entry given now new result → Settles name old now read reader new result
  entry_settles new (Ok done) a = replays_entry new a
  entry_settles new (Err fault) (part, cause) = (parts_of_entry part, cause_after old given now fault h.does.faults cause)
