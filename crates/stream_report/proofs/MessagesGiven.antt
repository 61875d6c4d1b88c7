-- What a call of the decoder does to a report.
use Rattle.std.proofs.Common.{◌≡◌, ◌≢◌, ◌∙◌, ap, sym, refl, subst, arith, inl, inr, ℕ, ◌+◌, ◌<◌, ◌≤◌, List, [], ◌∷◌, ◌++◌, length, take, drop, take-append-drop, Option, Some, None, Ok, Err, append_assoc, append-nil, length-append, length-take}
use Rattle.std.specs.Io.KnownBytes.{Appends, Keeps}
use Rattle.std.proofs.KnownBytes.{Appends-nil, Appends-trans}
use Rattle.sib_io.specs.Causes.{Rose, AppendsPart}
use Rattle.sib_io.proofs.KnownLemmas.{appends_kept, whole_part, part_after, part_of_more}
use Rattle.ssap_grammar.specs.Stream.{Placed}
use Rattle.ssap_decode.specs.Decoding.{Decoding, Feeds, fresh}
use Rattle.ssap_decode.specs.Standing as decoding
use Rattle.ssap_decode.proofs.Standing.{fresh_stands}
use Rattle.ssap_decode.specs.declared.framed.Framed.{Framed}
use Rattle.ssap_decode.specs.declared.framed.Stop.{Stop}
use Rattle.ssap_decode.specs.declared.framed.Stop.TheVariants as stop
use Rattle.ssap_hearing.specs.Hearing.{AreLet, StopsBehind, Follows}
use Rattle.ssap_hearing.proofs.Letting.{nothing_let}
use Rattle.ssap_hearing.proofs.Following.{follows_on, follows_next, stop_stands}
use Rattle.stream_report.specs.Report.{EndsBehind, IsJudged, message_line, lines_of, last_line, report_of, IsReport, verdict_at, ending_of}
use Rattle.stream_report.specs.Giving.{Outlet, outlet, Gives, IsCause}
use Rattle.stream_report.specs.Feeding as feeding
use Rattle.stream_report.specs.Feeding.{Reports, GivesFront, GivesEnd, FeedsSome, Finishes, Halts}
use Rattle.stream_report.specs.declared.ending.Ending.{Ending}
use Rattle.stream_report.specs.declared.ending.Ending.TheVariants.{Done, Stopped, ReadFault, WriteFault, NoMemory, Spent}
use Rattle.stream_report.specs.declared.reporter.Reporter.{Reporter}
use Rattle.stream_report.specs.declared.verdict.Report.{Report}
use Rattle.stream_report.specs.declared.verdict.Fault.{Fault}
use Rattle.stream_report.specs.declared.verdict.Fault.TheVariants.{Syntax, Long, Cut}
use Rattle.stream_report.specs.declared.verdict.Verdict.{Verdict}
use Rattle.stream_report.specs.declared.verdict.Verdict.TheVariants.{Fine, Stops}
use Rattle.stream_report.proofs.InputsJudged.{judged_stays, lines_after, lines_begin, report_is}

-- a prefix of what messages give begins the report on these bytes and others
pub front_of_lines : (report : Report) (old new : Outlet) (read : List ℕ) (messages : List Placed) → AreLet read messages
    → AppendsPart old.given new.given (lines_of report messages) → GivesFront report old new read
front_of_lines report old new read messages x part more output is =
    let begins = lines_begin report read more output messages x is in
    subst (AppendsPart old.given new.given) begins.1 (part_of_more old.given new.given (lines_of report messages) begins.0 part)

-- so it begins the report on longer ones
pub front_of_more : (report : Report) (old new : Outlet) (read rest : List ℕ) → GivesFront report old new read → GivesFront report old new (read ++ rest)
front_of_more report old new read rest front more output is = front (rest ++ more) output (subst (λ b. IsReport report b output) (append_assoc read rest more) is)

-- a prefix of the report on bytes with a stop begins the report on these bytes and others
front_of_stop : (report : Report) (old new : Outlet) (read : List ℕ) (messages : List Placed) (place : ℕ) (fault : Fault) → fault ≢ Cut → IsJudged read messages (Stops place fault)
    → AppendsPart old.given new.given (report_of report messages (Stops place fault)) → GivesFront report old new read
front_of_stop report old new read messages place fault early x part more output is =
    subst (AppendsPart old.given new.given) (sym (report_is report (read ++ more) output messages (Stops place fault) (judged_stays read more messages place fault early x) is)) part

-- what follows steps without a fault has the same cause
cause_after : (old now new : Outlet) (ending : Ending) → now.faults ≡ old.faults → IsCause now new ending → IsCause old new ending
cause_after old now new Done kept cause = absurd cause
cause_after old now new Stopped kept cause = absurd cause
cause_after old now new ReadFault kept cause = absurd cause
cause_after old now new Spent kept cause = absurd cause
cause_after old now new WriteFault kept cause = subst (λ n. Rose n new.faults) kept cause
cause_after old now new NoMemory kept cause = cause ∙ kept

-- a step that failed behind a prefix of what is given
failed : (report : Report) (old now new : Outlet) (read bytes : List ℕ) (ending : Ending) (after : Reporter) → now.faults ≡ old.faults → IsCause now new ending
    → GivesFront report old new (read ++ bytes) → FeedsSome report old new read bytes (Err ending) after
failed report old now new read bytes Done after kept cause front = absurd cause
failed report old now new read bytes Stopped after kept cause front = absurd cause
failed report old now new read bytes ReadFault after kept cause front = absurd cause
failed report old now new read bytes Spent after kept cause front = absurd cause
failed report old now new read bytes WriteFault after kept cause front = (front, cause_after old now new WriteFault kept cause)
failed report old now new read bytes NoMemory after kept cause front = (front, cause_after old now new NoMemory kept cause)

-- or at the end
failed_last : (report : Report) (old now new : Outlet) (read : List ℕ) (ending : Ending) → now.faults ≡ old.faults → IsCause now new ending
    → GivesEnd report old new read → Finishes report old new read ending
failed_last report old now new read Done kept cause end = absurd cause
failed_last report old now new read Stopped kept cause end = absurd cause
failed_last report old now new read ReadFault kept cause end = absurd cause
failed_last report old now new read Spent kept cause end = absurd cause
failed_last report old now new read WriteFault kept cause end = (end, cause_after old now new WriteFault kept cause)
failed_last report old now new read NoMemory kept cause end = (end, cause_after old now new NoMemory kept cause)

-- a byte stops the input
syntax_ends : (front rest : List ℕ) (place : ℕ) → StopsBehind front rest (Some (stop.Syntax place)) → EndsBehind front rest (Stops place Syntax)
syntax_ends front [] place stands = stands
syntax_ends front (byte ∷ rest) place stands = stands

long_ends : (front rest : List ℕ) (start : ℕ) → StopsBehind front rest (Some (stop.TooLong start)) → EndsBehind front rest (Stops start Long)
long_ends front [] start stands = stands
long_ends front (byte ∷ rest) start stands = stands

-- no byte cuts a message
none_cut : (front rest : List ℕ) (start : ℕ) → StopsBehind front rest (Some (stop.Cut start)) → ⊥
none_cut front [] start stands = stands
none_cut front (byte ∷ rest) start stands = stands

none_some : (a : Stop) → ◌≡◌ {A = Option Stop} None (Some a) → ⊥
none_some a e = cc

-- a report on no bytes
pub reports_nothing : (report : Report) (now : Outlet) → Reports report now now [] (record { report = report; decoder = fresh; messages = 0 })
reports_nothing report now = record {
  same = refl;
  follows = record { stands = fresh_stands; idle = refl; sound = refl; messages = []; counted = refl; through = nothing_let };
  few = omega arith;
  gives = record { given = Appends-nil now.given; faults = refl };
}

-- what was reported stays so as it is handed on
pub reports_kept : (report : Report) (old now next : Outlet) (read : List ℕ) (r : Reporter) → Reports report old now read r → Keeps now.given next.given → next.faults ≡ now.faults
    → Reports report old next read r
reports_kept report old now next read r x kept writes = record {
  same = x.same;
  follows = x.follows;
  few = x.few;
  gives = record { given = appends_kept old.given now.given next.given (lines_of report x.follows.messages) x.gives.given kept; faults = writes ∙ x.gives.faults };
}

-- what was reported, written in another way
pub reported_as : (report : Report) (old now : Outlet) (read other : List ℕ) (r : Reporter) → Reports report old now read r → read ≡ other → Reports report old now other r
reported_as report old now read other r x same = subst (λ b. Reports report old now b r) same x

-- the sink has no bytes of a report that begins where its messages were given already
pub reported_anew : (report : Report) (old now next : Outlet) (read : List ℕ) (r : Reporter) → Reports report old now read r
    → Reports report (outlet None next.faults) next read r
reported_anew report old now next read r x = record { same = x.same; follows = x.follows; few = x.few; gives = record { given = tt; faults = refl } }

-- an ending stands for the whole of the bytes
feeds_err : (A B : Type 0) (report : Report) (old new : Outlet) (front other bytes : List ℕ) (ending : Ending) (r s : Reporter)
    → feeding.Feeds {T = A} report old new front bytes (Err ending) r → feeding.Feeds {T = B} report old new other bytes (Err ending) s
feeds_err A B report old new front other bytes Done r s f = absurd f
feeds_err A B report old new front other bytes Stopped r s f = f
feeds_err A B report old new front other bytes ReadFault r s f = absurd f
feeds_err A B report old new front other bytes WriteFault r s f = f
feeds_err A B report old new front other bytes NoMemory r s f = f
feeds_err A B report old new front other bytes Spent r s f = absurd f

-- an ending over what was left of longer bytes is one over these
pub feeds_last : (report : Report) (old new : Outlet) (read front rest bytes other : List ℕ) (ending : Ending) (r s : Reporter)
    → FeedsSome report old new (read ++ front) rest (Err ending) r → front ++ rest ≡ bytes → feeding.Feeds {T = Unit {0}} report old new other (read ++ bytes) (Err ending) s
feeds_last report old new read front rest bytes other ending r s f same =
    feeds_err ℕ (Unit {0}) report old new (read ++ front) other (read ++ bytes) ending r s
    (subst (λ b. feeding.Feeds {T = ℕ} report old new (read ++ front) b (Err ending) r) (append_assoc read front rest ∙ ap (λ b. read ++ b) same) f)

module _ (report : Report) (old now : Outlet) (read : List ℕ) (r : Reporter) (x : Reports report old now read r) where
  abbrev messages : List Placed
  messages = x.follows.messages

  -- what was given begins the report on these bytes and others
  pub reported_front : GivesFront report old now read
  reported_front = front_of_lines report old now read messages x.follows.through (whole_part old.given now.given (lines_of report messages) x.gives.given)

  -- the last line that the reporter writes
  last_same : (v : Verdict) → last_line r.report r.messages v ≡ last_line report (length messages) v
  last_same v = ap (λ (q : Report). last_line q r.messages v) x.same ∙ ap (λ n. last_line report n v) x.follows.counted

  -- with the last line the report was given
  whole : (new : Outlet) (v : Verdict) → Gives now new (last_line r.report r.messages v) → Appends old.given new.given (report_of report messages v)
  whole new v gives = subst (λ l. Appends old.given new.given (lines_of report messages ++ l)) (last_same v)
      (Appends-trans old.given now.given new.given (lines_of report messages) (last_line r.report r.messages v) x.gives.given gives.given)

  -- with a prefix of it a prefix was
  part : (new : Outlet) (v : Verdict) → AppendsPart now.given new.given (last_line r.report r.messages v) → AppendsPart old.given new.given (report_of report messages v)
  part new v some = subst (λ l. AppendsPart old.given new.given (lines_of report messages ++ l)) (last_same v)
      (part_after old.given now.given new.given (lines_of report messages) (last_line r.report r.messages v) x.gives.given some)

  -- the input ends behind what was taken
  finishes : (new : Outlet) (v : Verdict) (ending : Ending) → EndsBehind read [] v → Halts r.report r.messages (Some v) now new ending → Finishes report old new read ending
  finishes new v ending ends halts = by_halt halts
    where
      is : IsJudged read messages v
      is = record { front = read; rest = []; split = sym (append-nil read); through = x.follows.through; ends = ends }

      all : (w : Verdict) → IsJudged read messages w → Gives now new (last_line r.report r.messages w) → Finishes report old new read (ending_of w)
      all Fine j gives = (gives.faults ∙ x.gives.faults, record { messages = messages; judged = j; given = whole new Fine gives })
      all (Stops place fault) j gives = (gives.faults ∙ x.gives.faults, place, fault, record { messages = messages; judged = j; given = whole new (Stops place fault) gives })

      by_halt : Halts r.report r.messages (Some v) now new ending → Finishes report old new read ending
      by_halt (inl (named, gives)) = subst (Finishes report old new read) (sym named) (all v is gives)
      by_halt (inr (some, cause)) = failed_last report old now new read ending x.gives.faults cause
          (λ output o. subst (AppendsPart old.given new.given) (sym (report_is report read output messages v is o)) (part new v some))

  -- the decoder says that the input is over between messages
  pub finishes_fine : (new : Outlet) (later : Decoding) (ending : Ending) → decoding.EndStands r.decoder (Ok (tt {0})) later → Halts r.report r.messages (Some Fine) now new ending
      → Finishes report old new read ending
  finishes_fine new later ending ends halts = finishes new Fine ending (ends read r.messages x.follows.stands).1 halts

  -- or inside one
  pub finishes_cut : (new : Outlet) (later : Decoding) (at : Stop) (ending : Ending) → decoding.EndStands r.decoder (Err at) later → Halts r.report r.messages (verdict_at at) now new ending
      → Finishes report old new read ending
  finishes_cut new later (stop.Syntax place) ending ends halts = absurd (none_some (stop.Syntax place) (sym x.follows.sound ∙ (ends read r.messages x.follows.stands).1))
  finishes_cut new later (stop.TooLong start) ending ends halts = absurd (none_some (stop.TooLong start) (sym x.follows.sound ∙ (ends read r.messages x.follows.stands).1))
  finishes_cut new later stop.NoMemory ending ends halts = absurd ends
  finishes_cut new later (stop.Cut start) ending ends halts = elim (ends read r.messages x.follows.stands).1 [
    | inl met ↦ absurd (none_some (stop.Cut start) (sym x.follows.sound ∙ met))
    | inr inside ↦ finishes new (Stops start Cut) ending inside halts
  ]

  module _ (bytes : List ℕ) (mid : Decoding) where
    -- a stop stands in the bytes
    breaks : (new : Outlet) (place : ℕ) (fault : Fault) (ending : Ending) (after : Reporter) → fault ≢ Cut → EndsBehind read bytes (Stops place fault)
        → Halts r.report r.messages (Some (Stops place fault)) now new ending → FeedsSome report old new read bytes (Err ending) after
    breaks new place fault ending after early ends halts = by_halt halts
      where
        is : IsJudged (read ++ bytes) messages (Stops place fault)
        is = record { front = read; rest = bytes; split = refl; through = x.follows.through; ends = ends }

        by_halt : Halts r.report r.messages (Some (Stops place fault)) now new ending → FeedsSome report old new read bytes (Err ending) after
        by_halt (inl (named, gives)) = subst (λ e. FeedsSome report old new read bytes (Err e) after) (sym named) (record {
          place = place;
          fault = fault;
          early = early;
          gives = record { messages = messages; judged = is; given = whole new (Stops place fault) gives };
          faults = gives.faults ∙ x.gives.faults;
        })
        by_halt (inr (some, cause)) = failed report old now new read bytes ending after x.gives.faults cause
            (front_of_stop report old new (read ++ bytes) messages place fault early is (part new (Stops place fault) some))

    stands_at : (at : Stop) → decoding.FeedStands r.decoder bytes (Err at) mid → (at ≡ stop.NoMemory → ⊥) → StopsBehind read bytes (Some at)
    stands_at at fed some = stop_stands r.decoder read bytes at x.follows.sound (fed read r.messages x.follows.stands).1 some

    -- the decoder stopped
    pub fed_halts : (new : Outlet) (at : Stop) (ending : Ending) (after : Reporter) → decoding.FeedStands r.decoder bytes (Err at) mid
        → Halts r.report r.messages (verdict_at at) now new ending → FeedsSome report old new read bytes (Err ending) after
    fed_halts new stop.NoMemory ending after fed (named, same) =
        subst (λ e. FeedsSome report old new read bytes (Err e) after) (sym named)
        (subst (λ (o : Outlet). FeedsSome report old o read bytes (Err NoMemory) after) (sym same)
        (front_of_more report old now read bytes reported_front, x.gives.faults))
    fed_halts new (stop.Cut start) ending after fed halts = absurd (none_cut read bytes start (stands_at (stop.Cut start) fed (λ e. absurd (cc))))
    fed_halts new (stop.Syntax place) ending after fed halts =
        breaks new place Syntax ending after (λ e. absurd (cc)) (syntax_ends read bytes place (stands_at (stop.Syntax place) fed (λ e. absurd (cc)))) halts
    fed_halts new (stop.TooLong start) ending after fed halts =
        breaks new start Long ending after (λ e. absurd (cc)) (long_ends read bytes start (stands_at (stop.TooLong start) fed (λ e. absurd (cc)))) halts

    module _ (later : Decoding) (count : ℕ) (feeds : Feeds r.decoder bytes count mid) (fed : decoding.FeedStands r.decoder bytes (Ok count) mid) (result : Option Framed)
        (waits : result ≡ mid.waiting) (is : later ≡ record mid { waiting = None }) (next : decoding.NextStands mid result later) where
      mid_stands : decoding.Stands mid (read ++ take count bytes) r.messages
      mid_stands = (fed read r.messages x.follows.stands).0

      -- no message was ended
      pub fed_on : result ≡ None → Reports report old now (read ++ take count bytes) (record { report = r.report; decoder = later; messages = r.messages })
      fed_on none =
          let stands = (subst (λ o. decoding.NextStands mid o later) none next (read ++ take count bytes) r.messages mid_stands).0 in
          let g = follows_on r.decoder mid later read bytes r.messages count x.follows feeds fed (sym waits ∙ none) is stands in
          record {
            same = x.same;
            follows = g.0;
            few = omega (arith, x.few, length-append read (take count bytes));
            gives = subst (λ m. Gives old now (lines_of report m)) (sym g.1) x.gives;
          }

      module _ (framed : Framed) (some : result ≡ Some framed) where
        ended : (g : Follows later (read ++ take count bytes) (r.messages + 1)) × (g.messages ≡ messages ++ decoding.placed_of framed ∷ [])
        ended =
            let stands = (subst (λ o. decoding.NextStands mid o later) some next (read ++ take count bytes) r.messages mid_stands).0 in
            follows_next r.decoder mid later read bytes r.messages count x.follows feeds fed framed (sym waits ∙ some) is stands

        -- what the messages give with one more
        longer : lines_of report messages ++ message_line r.report framed.envelope ≡ lines_of report ended.0.messages
        longer = ap (λ (q : Report). lines_of report messages ++ message_line q framed.envelope) x.same
            ∙ (ap (λ l. lines_of report messages ++ l) (sym (append-nil (message_line report framed.envelope)))
            ∙ (sym (lines_after report messages (decoding.placed_of framed ∷ [])) ∙ ap (lines_of report) (sym ended.1)))

        -- a message was ended, and what it gives was given
        pub fed_next : (new : Outlet) → 0 < count → count ≤ length bytes → Gives now new (message_line r.report framed.envelope)
            → Reports report old new (read ++ take count bytes) (record { report = r.report; decoder = later; messages = r.messages + 1 })
        fed_next new taken within gives = record {
          same = x.same;
          follows = ended.0;
          few = omega (arith, x.few, length-append read (take count bytes), length-take count bytes, taken, within);
          gives = record {
            given = subst (Appends old.given new.given) longer (Appends-trans old.given now.given new.given (lines_of report messages)
                (message_line r.report framed.envelope) x.gives.given gives.given);
            faults = gives.faults ∙ x.gives.faults;
          };
        }

        -- a message was ended, and what it gives was not given whole
        pub fed_fails : (new : Outlet) (ending : Ending) (after : Reporter) → AppendsPart now.given new.given (message_line r.report framed.envelope) → IsCause now new ending
            → FeedsSome report old new read bytes (Err ending) after
        fed_fails new ending after part cause =
            let whole : (read ++ take count bytes) ++ drop count bytes ≡ read ++ bytes =
            append_assoc read (take count bytes) (drop count bytes) ∙ ap (λ b. read ++ b) (take-append-drop count bytes) in
            let front = front_of_lines report old new (read ++ take count bytes) ended.0.messages ended.0.through
            (subst (AppendsPart old.given new.given) longer (part_after old.given now.given new.given (lines_of report messages) (message_line r.report framed.envelope) x.gives.given part)) in
            failed report old now new read bytes ending after x.gives.faults cause
            (subst (GivesFront report old new) whole (front_of_more report old new (read ++ take count bytes) (drop count bytes) front))
