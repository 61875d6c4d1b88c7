-- What a call of a link's decoder does to what the link heard.
use Rattle.std.proofs.Common.{◌≡◌, ◌∙◌, ap, sym, refl, subst, arith, inl, inr, ℕ, zero, suc, ◌+◌, ◌<◌, ◌≤◌, Bool, true, false, List, [], ◌∷◌, ◌++◌, length, take, drop, Option, Some, None, Ok, Err, append_assoc, append-nil, length-append}
use Rattle.std.specs.List.{AllByRecursion}
use Rattle.std.proofs.lemmas.List.{drop-append-le, take-append-drop}
use Rattle.link_table.specs.Links.{is_open, state_of}
use Rattle.ssap_grammar.specs.Stream.{Placed, IsViable, IsWhole, IsWholeOf, AreMessages}
use Rattle.ssap_grammar.specs.Message.{Spells}
use Rattle.ssap_grammar.specs.Laws.{IsPart}
use Rattle.ssap_grammar.proofs.Messages.{none_begins}
use Rattle.ssap_grammar.proofs.Streams.{messages_stay}
use Rattle.ssap_grammar.proofs.StreamEnds.{nothing_streams}
use Rattle.ssap_grammar.proofs.StreamParts.{wholes_once, streams_are_whole, part_whole, part_viable}
use Rattle.ssap_decode.specs.Decoding.{Decoding, fresh, message_limit, EndsMessage, Reaches, Takes, FeedsWaiting, Feeds}
use Rattle.ssap_decode.specs.Standing.{IsShort}
use Rattle.ssap_decode.specs.Standing as decoding
use Rattle.ssap_decode.specs.declared.framed.Framed.{Framed}
use Rattle.ssap_decode.specs.declared.framed.Stop as stop
use Rattle.ssap_shape.specs.Shape.{IsShape}
use Rattle.ssap_shape.specs.declared.request.Arrived.{Arrived}
use Rattle.ssap_shape.specs.declared.request.Arrived.TheVariants.{NotRequest, Wrong, Request}
use Rattle.session_core.specs.Space.{Space}
use Rattle.session_core.specs.Runs.{run_from}
use Rattle.sib_script.proofs.ScriptLaws.{fronts_same}
use Rattle.sib_replay.specs.declared.ending.Fault.{Fault}
use Rattle.sib_replay.specs.Doing.{Seen, Does, DoesPart, IsCause}
use Rattle.sib_replay.specs.Output.{Event, Arrives, Stops, StopsBehind, GoesOn, AreArrived, AreHeard, space_after, is_open_after, calls_at, answers_after, rows_after, event_lines, event_rows, reason_of}
use Rattle.sib_replay.specs.Session.{Follows, IsArrival, AreArrivals, Hearing, HearsPart, HearsSome, TakesFramed, Refuses, why_of, reason_in, reason_from}
use Rattle.sib_replay.specs.declared.why.Why.{Why}
use Rattle.sib_replay.specs.declared.why.Why.TheVariants.{Syntax, Long}
use Rattle.sib_replay.proofs.LinkLemmas.{none_some, some_same}
use Rattle.sib_replay.proofs.CallLemmas.{end_closes}
use Rattle.sib_replay.proofs.DoingLemmas.{then_nothing, cause_after}
use Rattle.sib_replay.proofs.EventLemmas.{space-push, event_done, event_part, events_front}
use Rattle.sib_replay.proofs.ReadOnce.{heard_once}
use Rattle.sib_replay.proofs.HeardPrefix.{heard_begins}

-- one item more of which something holds
all_push : {A : Type 0} (P : A → Type 0) (xs : List A) (x : A) → AllByRecursion P xs → P x → AllByRecursion P (xs ++ x ∷ [])
all_push P [] x h p = (p, tt)
all_push P (y ∷ ys) x h p = (h.0, all_push P ys x h.1 p)

-- a call that took bytes stands for them too
fed_on : (d mid : Decoding) (bytes : List ℕ) (count : ℕ) → decoding.FeedStands d bytes (Ok count) mid → (read : List ℕ) (given : ℕ) → decoding.Stands d read given
    → decoding.Stands mid (read ++ take count bytes) given
fed_on d mid bytes count fed read given s = (fed read given s).0

-- the messages of bytes that a decoder took
stands_whole : (d : Decoding) (read : List ℕ) (given : ℕ) (s : decoding.Stands d read given) → IsWholeOf read (length s.whole) s.messages
stands_whole d read given s = subst (λ b. IsWholeOf b (length s.whole) s.messages) (sym s.split) (part_whole s.whole d.unread s.messages s.stream s.part)

stands_messages : (d : Decoding) (read : List ℕ) (given : ℕ) (s : decoding.Stands d read given) → AreMessages read s.messages
stands_messages d read given s = (length s.whole, stands_whole d read given s)

module _ (d mid new : Decoding) (heard bytes : List ℕ) (came count : ℕ) (f : Follows d heard came) (feeds : Feeds d bytes count mid)
    (fed : decoding.FeedStands d bytes (Ok count) mid) where
  -- what the decoder stands for after the call
  fed_stands : decoding.Stands mid (heard ++ take count bytes) came
  fed_stands = fed_on d mid bytes count fed heard came f.stands

  -- what it took
  takes : Takes d (take count bytes) (drop count bytes) mid
  takes = (subst (λ w. FeedsWaiting d w bytes count mid) f.idle feeds.does).1

  -- the unread part is no longer than a message may be, and no stop was met
  fed_short : (length mid.unread ≤ message_limit) × (mid.stopped ≡ None)
  fed_short = go mid.waiting takes.reaches
    where
      go : (o : Option Framed) → Reaches d (take count bytes) takes.part (drop count bytes) o mid → (length mid.unread ≤ message_limit) × (mid.stopped ≡ None)
      go None r = (
        subst (λ l. length l ≤ message_limit) (sym (ap (λ (x : Decoding). x.unread) r.is)) r.within,
        ap (λ (x : Decoding). x.stopped) r.is ∙ f.sound,
      )
      go (Some framed) r = (
        subst (λ l. length l ≤ message_limit) (sym (ap (λ (x : Decoding). x.unread) r.is)) (omega arith),
        ap (λ (x : Decoding). x.stopped) r.is ∙ f.sound,
      )

  -- what is behind the whole messages is short
  fed_rest : (whole : ℕ) → IsWhole (heard ++ take count bytes) whole → length (heard ++ take count bytes) ≤ whole + message_limit
  fed_rest whole w =
      let s = fed_stands in
      let same = wholes_once (heard ++ take count bytes) whole (length s.whole) w (s.messages, stands_whole mid (heard ++ take count bytes) came s) in
      omega (arith, same, fed_short.0, ap length s.split, length-append s.whole mid.unread)

  -- some stream goes on from them
  fed_viable : IsViable (heard ++ take count bytes)
  fed_viable = let s = fed_stands in subst IsViable (sym s.split) (part_viable s.whole mid.unread s.messages s.stream s.part)

  -- the messages are those that were given, and others
  fed_grown : (tail : List Placed) × (fed_stands.messages ≡ f.messages ++ tail)
  fed_grown = messages_stay heard (take count bytes) f.messages fed_stands.messages f.through.are (stands_messages mid (heard ++ take count bytes) came fed_stands)

  -- a call that ended no message
  pub follows_on : mid.waiting ≡ None → new ≡ record mid { waiting = None } → decoding.Stands new (heard ++ take count bytes) came
      → (g : Follows new (heard ++ take count bytes) came) × (g.messages ≡ f.messages)
  follows_on none is stands =
      let s = fed_stands in
      let waits : came ≡ length s.messages = subst (λ o. decoding.Waits o came s.messages) none s.waits in
      let same : s.messages ≡ f.messages =
      (fronts_same s.messages f.messages [] fed_grown.0 (sym waits ∙ f.counted) (append-nil s.messages ∙ fed_grown.1)).0
      in (
        record {
          stands = stands;
          idle = ap (λ (x : Decoding). x.waiting) is;
          sound = ap (λ (x : Decoding). x.stopped) is ∙ fed_short.1;
          messages = f.messages;
          counted = f.counted;
          through = record {
            viable = fed_viable;
            are = subst (AreMessages (heard ++ take count bytes)) same (stands_messages mid (heard ++ take count bytes) came s);
            short = f.through.short;
            rest_short = fed_rest;
          };
        },
        refl,
      )

  -- a call that ended a message
  pub follows_next : (framed : Framed) → mid.waiting ≡ Some framed → new ≡ record mid { waiting = None } → decoding.Stands new (heard ++ take count bytes) (came + 1)
      → (g : Follows new (heard ++ take count bytes) (came + 1)) × (g.messages ≡ f.messages ++ decoding.placed_of framed ∷ [])
  follows_next framed some is stands =
      let s = fed_stands in
      let one = decoding.placed_of framed in
      let waits : decoding.Waits (Some framed) came s.messages = subst (λ o. decoding.Waits o came s.messages) some s.waits in
      let front : waits.0 ≡ f.messages =
      (fronts_same waits.0 f.messages (one ∷ []) fed_grown.0 (sym waits.2 ∙ f.counted) (sym waits.1 ∙ fed_grown.1)).0
      in
      let same : s.messages ≡ f.messages ++ one ∷ [] = waits.1 ∙ ap (λ l. l ++ one ∷ []) front in
      let ends : EndsMessage d (take count bytes) takes.part framed mid = subst (λ o. Reaches d (take count bytes) takes.part (drop count bytes) o mid) some takes.reaches in
      let short : IsShort one = omega (arith, ends.within, ends.start) in (
        record {
          stands = stands;
          idle = ap (λ (x : Decoding). x.waiting) is;
          sound = ap (λ (x : Decoding). x.stopped) is ∙ fed_short.1;
          messages = f.messages ++ one ∷ [];
          counted = ap (λ n. n + 1) f.counted ∙ sym (length-append f.messages (one ∷ []));
          through = record {
            viable = fed_viable;
            are = subst (AreMessages (heard ++ take count bytes)) same (stands_messages mid (heard ++ take count bytes) came s);
            short = all_push IsShort f.messages one f.through.short short;
            rest_short = fed_rest;
          };
        },
        refl,
      )

  -- a call that is given some bytes takes some
  pub feeds_some : 0 < length bytes → 0 < count
  feeds_some some = go count refl
    where
      go : (n : ℕ) → count ≡ n → 0 < count
      go zero none = absurd (nothing mid.waiting takes.reaches)
        where
          empty : take count bytes ≡ []
          empty = ap (λ n. take n bytes) none

          no_part : takes.part ≡ []
          no_part = empty_back takes.white takes.part (sym takes.split ∙ empty)
            where
              empty_back : (a b : List ℕ) → a ++ b ≡ [] → b ≡ []
              empty_back [] b e = e
              empty_back (x ∷ a) b e = absurd (cc)

          left : drop count bytes ≡ bytes
          left = ap (λ n. drop n bytes) none

          nothing : (o : Option Framed) → Reaches d (take count bytes) takes.part (drop count bytes) o mid → ⊥
          nothing None r =
              let stands = r.stop (λ e. omega (arith, some, ap length (sym left ∙ e))) in
              omega (arith, stands.0, ap length empty)
          nothing (Some framed) r =
              let p : IsPart d.unread = f.stands.part in
              let whole : Spells d.unread framed.envelope = subst (λ l. Spells l framed.envelope) (ap (λ l. d.unread ++ l) no_part ∙ append-nil d.unread) r.spelled in
              omega (arith, p.2, ap length (none_begins d.unread p.0 framed.envelope p.1 whole p.3))
      go (suc n) more = omega (arith, more)

-- the events of more messages
arrivals_push : (name : List ℕ) (before : List Event) (link : ℕ) (l : List Placed) (events : List Event) (message : Placed) (event : Event) → AreArrivals name before link l events
    → IsArrival name (before ++ events) link message event → AreArrivals name before link (l ++ message ∷ []) (events ++ event ∷ [])
arrivals_push name before link [] [] message event h t = (subst (λ b. IsArrival name b link message event) (append-nil before) t, tt)
arrivals_push name before link [] (v ∷ events) message event h t = absurd h
arrivals_push name before link (m ∷ l) [] message event h t = absurd h
arrivals_push name before link (m ∷ l) (v ∷ events) message event h t =
    (h.0, arrivals_push name (before ++ v ∷ []) link l events message event h.1 (subst (λ b. IsArrival name b link message event) (sym (append_assoc before (v ∷ []) events)) t))

-- events of messages, and what comes behind them
pub arrivals_then : (name : List ℕ) (before : List Event) (link : ℕ) (front rest : List ℕ) (l others : List Placed) (events behind : List Event) → AreArrivals name before link l events
    → AreArrived name (before ++ events) link front rest others behind → AreArrived name before link front rest (l ++ others) (events ++ behind)
arrivals_then name before link front rest [] others [] behind h a = subst (λ b. AreArrived name b link front rest others behind) (append-nil before) a
arrivals_then name before link front rest [] others (v ∷ events) behind h a = absurd h
arrivals_then name before link front rest (m ∷ l) others [] behind h a = absurd h
arrivals_then name before link front rest (m ∷ l) others (v ∷ events) behind ((arrived, shape, is, on), more) a =
    let event : Event = Arrives link m.start arrived in
    let Others : Event → List Event → Type 0 = λ e. AreArrived name (before ++ e ∷ []) link front rest (l ++ others) in
    let rest_of = arrivals_then name (before ++ v ∷ []) link front rest l others events behind more (subst (λ b. AreArrived name b link front rest others behind) (sym (append_assoc before (v ∷ []) events)) a) in
    let goes : GoesOn (is_open_after name (before ++ v ∷ []) link) v (Others v) (v ∷ (events ++ behind)) =
    subst (λ b. GoesOn b v (Others v) (v ∷ (events ++ behind))) (sym on) (events ++ behind, refl, rest_of)
    in
    (arrived, shape, subst (λ e. GoesOn (is_open_after name (before ++ e ∷ []) link) e (Others e) (v ∷ (events ++ behind))) is goes)

-- a decoder's stop stands behind what it took
stop_stands : (d : Decoding) (heard bytes : List ℕ) (at : stop.Stop) (why : Why) → d.stopped ≡ None → decoding.IsMet d heard bytes at → why_of at ≡ Some why
    → StopsBehind heard bytes (Some why)
stop_stands d heard bytes (stop.TheVariants.Cut start) why sound met is = absurd (none_some (stop.TheVariants.Cut start) (sym sound ∙ met))
stop_stands d heard bytes stop.TheVariants.NoMemory why sound met is = absurd (none_some why is)
stop_stands d heard bytes (stop.TheVariants.Syntax place) why sound (inl met) is = absurd (none_some (stop.TheVariants.Syntax place) (sym sound ∙ met))
stop_stands d heard bytes (stop.TheVariants.TooLong start) why sound (inl met) is = absurd (none_some (stop.TheVariants.TooLong start) (sym sound ∙ met))
stop_stands d heard [] (stop.TheVariants.Syntax place) why sound (inr s) is = absurd s
stop_stands d heard [] (stop.TheVariants.TooLong start) why sound (inr s) is = absurd s
stop_stands d heard (byte ∷ rest) (stop.TheVariants.Syntax place) why sound (inr s) is =
    subst (λ w. StopsBehind heard (byte ∷ rest) (Some w)) (some_same (Syntax place) why is) (s.0, s.1)
stop_stands d heard (byte ∷ rest) (stop.TheVariants.TooLong start) why sound (inr s) is =
    subst (λ w. StopsBehind heard (byte ∷ rest) (Some w)) (some_same (Long start) why is) (s.0, s.2, s.1)

-- the reason that a message gives is that of its event
pub reasons_same : (link start : ℕ) (arrived : Arrived) → reason_in (reason_from link start arrived) ≡ reason_of (Arrives link start arrived)
reasons_same link start NotRequest = refl
reasons_same link start (Wrong heads status) = refl
reasons_same link start (Request request) = refl

-- what a link heard, where the count is another's
pub hearing_of : (name : List ℕ) (before : List Event) (link came n : ℕ) (heard : List ℕ) (events : List Event) (space : Space) (d : Decoding) → n ≡ came + length events
    → (g : Follows d heard n) → AreArrivals name before link (drop came g.messages) events → space ≡ space_after name (before ++ events) → is_open (state_of space.links link) ≡ true
    → Hearing name before link came heard events space d
hearing_of name before link came n heard events space d e g a does on =
    subst (λ n. (g : Follows d heard n) → AreArrivals name before link (drop came g.messages) events → Hearing name before link came heard events space d) (sym e)
    (λ g a. record { follows = g; are = a; does = does; runs = on }) g a

module _ (name : List ℕ) (before : List Event) (link came : ℕ) (heard : List ℕ) (events : List Event) (space : Space) (d mid new : Decoding) (bytes : List ℕ)
    (h : Hearing name before link came heard events space d) where
  -- the messages that came before are among those that were given
  came_within : came ≤ length h.follows.messages
  came_within = omega (arith, h.follows.counted)

  -- one event more
  pushed : (event : Event) (next : Space) → next ≡ run_from space (calls_at space event) → next ≡ space_after name (before ++ (events ++ event ∷ []))
  pushed event next does =
      does ∙ ap (λ s. run_from s (calls_at s event)) h.does ∙ sym (space-push name (before ++ events) event)
      ∙ ap (space_after name) (append_assoc before events (event ∷ []))

  -- a fault came at an event that is among all events of these bytes
  fault_at : (a b c : Seen) (fault : Fault) (event : Event) → Does a b (answers_after name before events) (rows_after name before events)
      → DoesPart b c (event_lines space event) (event_rows space event) → IsCause b c fault
      → ((all : List Event) → AreHeard name before link came (heard ++ bytes) all → (rest : List Event) × (all ≡ (events ++ event ∷ []) ++ rest))
      → HearsPart name before link came (heard ++ bytes) a c × IsCause a c fault
  fault_at a b c fault event p part cause among = (
    λ all t. let (rest, is) = among all t in event_part name before events rest all event space a b c h.does p part is,
    cause_after a b c fault p.faults cause,
  )

  -- a fault came before the next event
  fault_before : (a b c : Seen) (fault : Fault) → Does a b (answers_after name before events) (rows_after name before events) → Does b c [] 0 → IsCause b c fault
      → HearsPart name before link came (heard ++ bytes) a c × IsCause a c fault
  fault_before a b c fault p q cause = (
    λ all t.
        let (rest, is) = heard_begins name before link came heard bytes events all d h.follows h.are t in
        events_front name before events rest all a c (then_nothing a b c (answers_after name before events) (rows_after name before events) p q) is,
    cause_after a b c fault p.faults cause,
  )

  module _ (at : stop.Stop) (why : Why) (fed : decoding.FeedStands d bytes (Err at) mid) (is : why_of at ≡ Some why) where
    -- what is heard of the bytes at which the decoder stopped
    refused_heard : AreHeard name before link came (heard ++ bytes) (events ++ Stops link why ∷ [])
    refused_heard = record {
      front = heard;
      rest = bytes;
      split = refl;
      messages = h.follows.messages;
      through = h.follows.through;
      taken = subst (λ l. AreArrived name before link heard bytes l (events ++ Stops link why ∷ [])) (append-nil (drop came h.follows.messages))
          (arrivals_then name before link heard bytes (drop came h.follows.messages) [] events (Stops link why ∷ []) h.are
          (Some why, stop_stands d heard bytes at why h.follows.sound (fed heard (came + length events) h.follows.stands).1 is, refl));
    }

  -- the decoder stopped
  pub hearing_refused : (at : stop.Stop) (after_ : Decoding) (next : Space) (a b c : Seen) → decoding.FeedStands d bytes (Err at) mid
      → Does a b (answers_after name before events) (rows_after name before events) → Refuses link space at next b c (Ok tt)
      → HearsSome name before link came heard events bytes a c next after_ None
  hearing_refused at after_ next a b c fed p (why, is, does, more) = (
    Stops link why,
    refused_heard at why fed is,
    pushed (Stops link why) next does,
    ap (λ (s : Space). is_open (state_of s.links link)) does ∙ end_closes space link h.runs,
    event_done name before events (Stops link why) space a b c h.does p more,
  )

  -- a fault came where the link was to be stopped
  pub refused_fault : (at : stop.Stop) (next : Space) (a b c : Seen) (fault : Fault) → decoding.FeedStands d bytes (Err at) mid
      → Does a b (answers_after name before events) (rows_after name before events) → Refuses link space at next b c (Err fault)
      → HearsPart name before link came (heard ++ bytes) a c × IsCause a c fault
  refused_fault at next a b c fault fed p (inl (nothing, cause)) = fault_before a b c fault p nothing cause
  refused_fault at next a b c fault fed p (inr (why, is, part, cause)) =
      fault_at a b c fault (Stops link why) p part cause
      (λ all t. ([], heard_once name before link came (heard ++ bytes) all (events ++ Stops link why ∷ []) t (refused_heard at why fed is) ∙ sym (append-nil (events ++ Stops link why ∷ []))))

  module _ (count : ℕ) (feeds : Feeds d bytes count mid) (fed : decoding.FeedStands d bytes (Ok count) mid) (result : Option Framed) (waits : result ≡ mid.waiting)
      (is : new ≡ record mid { waiting = None }) (next : decoding.NextStands mid result new) where
    -- a call that ended no message
    pub hearing_on : (a b : Seen) → result ≡ None → Does a b (answers_after name before events) (rows_after name before events)
        → HearsSome name before link came heard events bytes a b space new (Some count)
    hearing_on a b none p =
        let told : decoding.NextStands mid None new = subst (λ o. decoding.NextStands mid o new) none next in
        let stands = (told (heard ++ take count bytes) (came + length events) (fed_on d mid bytes count fed heard (came + length events) h.follows.stands)).0 in
        let (g, same) = follows_on d mid new heard bytes (came + length events) count h.follows feeds fed (sym waits ∙ none) is stands in
        let still : events ≡ events ++ [] = sym (append-nil events) in (
          [],
          subst (λ r. Hearing name before link came (heard ++ take count bytes) r space new) still (record {
            follows = g;
            are = subst (λ l. AreArrivals name before link (drop came l) events) (sym same) h.are;
            does = h.does;
            runs = h.runs;
          }),
          subst (λ r. Does a b (answers_after name before r) (rows_after name before r)) still p,
        )

    module _ (framed : Framed) (some : result ≡ Some framed) (arrived : Arrived) (shape : IsShape framed.envelope arrived) (done : Space)
        (does : done ≡ run_from space (calls_at space (Arrives link framed.start arrived))) where
      -- a call that ended a message
      followed : (g : Follows new (heard ++ take count bytes) (came + length events + 1)) × (g.messages ≡ h.follows.messages ++ decoding.placed_of framed ∷ [])
      followed =
          let told : decoding.NextStands mid (Some framed) new = subst (λ o. decoding.NextStands mid o new) some next in
          let stands = (told (heard ++ take count bytes) (came + length events) (fed_on d mid bytes count fed heard (came + length events) h.follows.stands)).0 in
          follows_next d mid new heard bytes (came + length events) count h.follows feeds fed framed (sym waits ∙ some) is stands

      -- the messages behind those that came before, with the one that was ended
      one_more : drop came followed.0.messages ≡ drop came h.follows.messages ++ decoding.placed_of framed ∷ []
      one_more = ap (drop came) followed.1 ∙ drop-append-le came h.follows.messages (decoding.placed_of framed ∷ []) came_within

      -- the link is open behind it, or not
      open_then : is_open_after name ((before ++ events) ++ Arrives link framed.start arrived ∷ []) link ≡ is_open (state_of done.links link)
      open_then =
          ap (λ b. is_open_after name b link) (append_assoc before events (Arrives link framed.start arrived ∷ []))
          ∙ ap (λ (s : Space). is_open (state_of s.links link)) (sym (pushed (Arrives link framed.start arrived) done does))

      -- the link goes on
      arrives_on : is_open (state_of done.links link) ≡ true → Hearing name before link came (heard ++ take count bytes) (events ++ Arrives link framed.start arrived ∷ []) done new
      arrives_on on =
          hearing_of name before link came (came + length events + 1) (heard ++ take count bytes) (events ++ Arrives link framed.start arrived ∷ []) done new
          (omega (arith, length-append events (Arrives link framed.start arrived ∷ []))) followed.0
          (subst (λ l. AreArrivals name before link l (events ++ Arrives link framed.start arrived ∷ [])) (sym one_more)
          (arrivals_push name before link (drop came h.follows.messages) events (decoding.placed_of framed) (Arrives link framed.start arrived) h.are
          (arrived, shape, refl, open_then ∙ on)))
          (pushed (Arrives link framed.start arrived) done does) on

      -- or it is open no more
      arrives_off : is_open (state_of done.links link) ≡ false → AreHeard name before link came (heard ++ bytes) (events ++ Arrives link framed.start arrived ∷ [])
      arrives_off off = record {
        front = heard ++ take count bytes;
        rest = drop count bytes;
        split = ap (λ l. heard ++ l) (sym (take-append-drop count bytes)) ∙ sym (append_assoc heard (take count bytes) (drop count bytes));
        messages = followed.0.messages;
        through = followed.0.through;
        taken = subst (λ l. AreArrived name before link (heard ++ take count bytes) (drop count bytes) l (events ++ Arrives link framed.start arrived ∷ [])) (sym one_more)
            (arrivals_then name before link (heard ++ take count bytes) (drop count bytes) (drop came h.follows.messages) (decoding.placed_of framed ∷ []) events
            (Arrives link framed.start arrived ∷ []) h.are (
              arrived,
              shape,
              subst (λ b. GoesOn b (Arrives link framed.start arrived)
                  (AreArrived name ((before ++ events) ++ Arrives link framed.start arrived ∷ []) link (heard ++ take count bytes) (drop count bytes) []) (Arrives link framed.start arrived ∷ []))
                  (sym (open_then ∙ off)) refl,
            ));
      }

      -- all events of the bytes begin with those before it, and it
      arrives_among : (all : List Event) → AreHeard name before link came (heard ++ bytes) all → (rest : List Event) × (all ≡ (events ++ Arrives link framed.start arrived ∷ []) ++ rest)
      arrives_among all t = go (is_open (state_of done.links link)) refl
        where
          go : (b : Bool) → is_open (state_of done.links link) ≡ b → (rest : List Event) × (all ≡ (events ++ Arrives link framed.start arrived ∷ []) ++ rest)
          go true on =
              let whole : heard ++ bytes ≡ (heard ++ take count bytes) ++ drop count bytes =
              ap (λ l. heard ++ l) (sym (take-append-drop count bytes)) ∙ sym (append_assoc heard (take count bytes) (drop count bytes))
              in
              let g = arrives_on on in
              heard_begins name before link came (heard ++ take count bytes) (drop count bytes) (events ++ Arrives link framed.start arrived ∷ []) all new g.follows g.are
              (subst (λ l. AreHeard name before link came l all) whole t)
          go false off = (
            [],
            heard_once name before link came (heard ++ bytes) all (events ++ Arrives link framed.start arrived ∷ []) t (arrives_off off) ∙ sym (append-nil (events ++ Arrives link framed.start arrived ∷ [])),
          )

    module _ (framed : Framed) (some : result ≡ Some framed) (done : Space) (a b c : Seen) (p : Does a b (answers_after name before events) (rows_after name before events)) where
      -- a message was ended and answered, and its link goes on
      pub hearing_arrives : TakesFramed link space framed done b c (Ok true) → HearsSome name before link came heard events bytes a c done new (Some count)
      hearing_arrives (arrived, shape, does, on, more) = (
        Arrives link framed.start arrived ∷ [],
        arrives_on framed some arrived shape done does (sym on),
        event_done name before events (Arrives link framed.start arrived) space a b c h.does p more,
      )

      -- or it is open no more
      pub hearing_stops : (after_ : Decoding) → TakesFramed link space framed done b c (Ok false) → HearsSome name before link came heard events bytes a c done after_ None
      hearing_stops after_ (arrived, shape, does, on, more) = (
        Arrives link framed.start arrived,
        arrives_off framed some arrived shape done does (sym on),
        pushed (Arrives link framed.start arrived) done does,
        sym on,
        event_done name before events (Arrives link framed.start arrived) space a b c h.does p more,
      )

      -- or a fault came
      pub hearing_fault : (fault : Fault) → TakesFramed link space framed done b c (Err fault) → HearsPart name before link came (heard ++ bytes) a c × IsCause a c fault
      hearing_fault fault (inl (nothing, cause)) = fault_before a b c fault p nothing cause
      hearing_fault fault (inr (arrived, shape, part, cause)) =
          fault_at a b c fault (Arrives link framed.start arrived) p part cause
          (arrives_among framed some arrived shape (run_from space (calls_at space (Arrives link framed.start arrived))) refl)

-- a decoder that has taken nothing
pub follows_fresh : (d : Decoding) → d ≡ fresh → decoding.Stands d [] 0 → Follows d [] 0
follows_fresh d is stands = record {
  stands = stands;
  idle = ap (λ (x : Decoding). x.waiting) is;
  sound = ap (λ (x : Decoding). x.stopped) is;
  messages = [];
  counted = refl;
  through = record {
    viable = ([], [], nothing_streams);
    are = (0, streams_are_whole [] [] nothing_streams);
    short = tt;
    rest_short = λ whole w. omega arith;
  };
}
