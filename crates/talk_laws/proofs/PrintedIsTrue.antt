-- What is printed is true where each call of a history goes.
use Rattle.std.proofs.Common.{◌≡◌, ◌⊎◌, ℕ, ◌≤◌, ◌<◌, ◌^◌, List, [], ◌∷◌, ◌++◌, length, map, refl, sym, ap, subst, ◌∙◌, inl, inr, arith, append_assoc, append-nil}
use Rattle.std.specs.Prelude.{flat_map}
use Rattle.std.specs.List.{AllByRecursion, AllZip}
use mathlib.Core.Logic.{⊎_elim}
use Rattle.m3_terms.proofs.Lists.{heads_same, tails_same}
use Rattle.sparql_algebra.proofs.Gathered.{none_in}
use Rattle.ssap_items.specs.Canon.{canonical}
use Rattle.ssap_items.specs.declared.envelope.Envelope.{Envelope}
use Rattle.ssap_grammar.specs.Sayable.{IsSayable}
use Rattle.ssap_shape.specs.declared.request.Request.{Request as Asked}
use Rattle.ssap_shape.specs.declared.request.Arrived.{Arrived}
use Rattle.ssap_shape.specs.declared.request.Arrived.TheVariants.{Request}
use Rattle.session_core.specs.Space.{Space}
use Rattle.session_core.specs.Runs.{run, sent}
use Rattle.session_core.specs.declared.call.Call.{Call}
use Rattle.ssap_shape.specs.declared.reply.Incoming.{Incoming}
use Rattle.ssap_shape.specs.Told.{IsTold}
use Rattle.kp_talk.specs.declared.errand.Errand.{Errand}
use Rattle.kp_talk.specs.declared.errand.Task.{Task}
use Rattle.kp_talk.specs.declared.errand.Task.TheVariants.{Insert, Query, Watch}
use Rattle.kp_talk.specs.Talk.{Talk, Line, talk_over}
use Rattle.kp_talk.specs.declared.finish.Finish.{Finish}
use Rattle.kp_talk.specs.declared.finish.Finish.TheVariants.{Done, Refused, Ended as End, BrokenSubscription, BrokenGap, BrokenForm, BrokenConflict, BrokenMessage, BrokenStream, Over}
use Rattle.kp_talk.specs.declared.finish.Break.TheVariants.{Syntax, Long, Cut}
use Rattle.kp_talk.specs.Reading.{Tells, IsWholeTalk, IsEarlyTalk, IsClean}
use Rattle.talk_laws.specs.Truth.{delivered_on, asks_text, IsErrand, AreOf, AreSentOn, IsTrueLine, IsUnbroken, AreHandled, PrintedAnswersAreTrue}
use Rattle.talk_laws.proofs.Stages.{Point, Joins, Asks, Follows, Unsubscribes, LeavesAsked, LeavesWatched, Stage, At, Closed, written, point_of, finish_at, join, second, unsubscribe, leave, through, lines_on, through_more, lines_more, over_stays}
use Rattle.talk_laws.proofs.TalksAreWalks.{IsQuery, talk_walks}
use Rattle.talk_laws.proofs.Plain.{IsPlain, envelope_of, spelled}
use Rattle.talk_laws.proofs.Fits.{Suits, IsThird, IsFourth, AreDue, Fits, Given, Goes, CallGoes}
use Rattle.talk_laws.proofs.TalksSuit.{suits_through}
use Rattle.talk_laws.proofs.HistoriesGo.{all_front, history_goes}

-- bytes that begin a row of spellings tell the first of what they spell, in order
abbrev pub ToldInOrder : Type 0
ToldInOrder = (envelopes : List Envelope) (bytes more : List ℕ) (told : List Incoming) (last : Finish) → AllByRecursion IsSayable envelopes
    → AllByRecursion (λ e. length (canonical e) ≤ 4194304) envelopes → flat_map canonical envelopes ≡ bytes ++ more → Tells bytes told last
    → (front back : List Envelope) × (envelopes ≡ front ++ back) × AllZip IsTold front told × IsClean last

clean_unbroken : (last : Finish) → IsClean last → IsUnbroken last
clean_unbroken Done c = tt
clean_unbroken (Refused status) c = tt
clean_unbroken (End status) c = tt
clean_unbroken (BrokenSubscription want got) c = c
clean_unbroken (BrokenGap want got) c = c
clean_unbroken BrokenForm c = c
clean_unbroken BrokenConflict c = c
clean_unbroken BrokenMessage c = c
clean_unbroken (BrokenStream place Syntax) c = c
clean_unbroken (BrokenStream place Long) c = c
clean_unbroken (BrokenStream place Cut) c = tt
clean_unbroken Over c = tt

one_flat : (told : List Incoming) → flat_map (λ message. message) (map spelled told) ≡ flat_map canonical (map envelope_of told)
one_flat [] = refl
one_flat (one ∷ told) = ap (λ l. spelled one ++ l) (one_flat told)

all_sayable : (told : List Incoming) → AllByRecursion IsPlain told → AllByRecursion IsSayable (map envelope_of told)
all_sayable [] p = tt
all_sayable (one ∷ told) p = (p.0.sayable, all_sayable told p.1)

all_short : (told : List Incoming) → AllByRecursion IsPlain told → AllByRecursion (λ e. length (canonical e) ≤ 4194304) (map envelope_of told)
all_short [] p = tt
all_short (one ∷ told) p = (p.0.short, all_short told p.1)

-- what plain messages tell are the first of them
told_front : (all : List Incoming) (front back : List Envelope) (told : List Incoming) → map envelope_of all ≡ front ++ back → AllByRecursion IsPlain all
    → AllZip IsTold front told → (rest : List Incoming) × (all ≡ told ++ rest)
told_front all [] back [] e p z = (all, refl)
told_front all [] back (one ∷ told) e p z = elim z [ ]
told_front all (first ∷ front) back [] e p z = elim z [ ]
told_front [] (first ∷ front) back (one ∷ told) e p z = absurd (cc)
told_front (x ∷ all) (first ∷ front) back (one ∷ told) e p z =
    let rest = told_front all front back told (tails_same _ _ _ _ e) p.1 z.1 in
    let is = p.0.alone one (subst (λ e. IsTold e one) (sym (heads_same _ _ _ _ e)) z.0) in
    (rest.0, λ i. sym is i ∷ rest.1 i)

-- a task that asks a text asks a query
query_task : (task : Task) (text : List ℕ) → asks_text task text → IsQuery task × Suits task Joins
query_task (Insert triple) text a = absurd a
query_task (Query asked) text a = (tt, tt)
query_task (Watch asked count) text a = (tt, tt)

module _ (errand : Errand) where
  first_is : (x a : Arrived) (xs later others : List Arrived) → x ∷ xs ≡ (a ∷ later) ++ others → (a ≡ x) × (xs ≡ later ++ others)
  first_is x a xs later others e = (sym (heads_same _ _ _ _ e), tails_same _ _ _ _ e)

  none_left : (requests : List Asked) (count : ℕ) (later others : List Arrived) → [] ≡ later ++ others → AreDue errand requests count later
  none_left requests count [] others e = tt
  none_left requests count (a ∷ later) others e = absurd (cc)

  module _ (requests : List Asked) (more : List Asked) (is : requests ≡ join errand ∷ second errand ∷ more) (others : List Arrived) where
    -- the first two are due, and so are the rest where they are
    due_two : (arrived : List Arrived) (rest : List Arrived) → Request (join errand) ∷ Request (second errand) ∷ rest ≡ arrived ++ others
        → ((left : List Arrived) → rest ≡ left ++ others → AreDue errand requests 2 left) → AreDue errand requests 0 arrived
    due_two [] rest e due = tt
    due_two (a ∷ []) rest e due = ((first_is _ a _ [] others e).0, tt)
    due_two (a ∷ b ∷ left) rest e due =
        let one = first_is _ a _ (b ∷ left) others e in
        let two = first_is _ b _ left others one.1 in
        (one.0, ((two.0, (more, is)), due left two.1))

    due_third : (arrived : Arrived) (rest left : List Arrived) → IsThird errand errand.task arrived → arrived ∷ rest ≡ left ++ others
        → ((left : List Arrived) → rest ≡ left ++ others → AreDue errand requests 3 left) → AreDue errand requests 2 left
    due_third arrived rest [] third e due = tt
    due_third arrived rest (a ∷ left) third e due =
        let one = first_is arrived a rest left others e in
        (subst (IsThird errand errand.task) (sym one.0) third, due left one.1)

    due_fourth : (arrived : Arrived) (left : List Arrived) → IsFourth errand errand.task arrived → arrived ∷ [] ≡ left ++ others → AreDue errand requests 3 left
    due_fourth arrived [] fourth e = tt
    due_fourth arrived (a ∷ left) fourth e =
        let one = first_is arrived a [] left others e in
        (subst (IsFourth errand errand.task) (sym one.0) fourth, none_left requests 4 left others one.1)

  third_leave : (task : Task) → Suits task LeavesAsked → IsThird errand task (Request (leave errand 3))
  third_leave (Insert triple) s = absurd s
  third_leave (Query text) s = refl
  third_leave (Watch text count) s = absurd s

  third_unsubscribe : (task : Task) (number : ℕ) → Suits task (Unsubscribes number) → IsThird errand task (Request (unsubscribe errand number))
  third_unsubscribe (Insert triple) number s = absurd s
  third_unsubscribe (Query text) number s = absurd s
  third_unsubscribe (Watch text count) number s = (number, refl)

  watched_so : (task : Task) (number : ℕ) → Suits task (LeavesWatched number) → Suits task (Unsubscribes number) × IsFourth errand task (Request (leave errand 4))
  watched_so (Insert triple) number s = absurd s
  watched_so (Query text) number s = absurd s
  watched_so (Watch text count) number s = (tt, refl)

  -- the first of what was written is due
  all_due : (point : Point) (arrived others : List Arrived) → Suits errand.task point → map (λ request. Request request) (written errand point) ≡ arrived ++ others
      → AreDue errand (written errand point) 0 arrived
  all_due Joins [] others s e = tt
  all_due Joins (a ∷ left) others s e =
      let one = first_is _ a [] left others e in
      (one.0, none_left (written errand Joins) 1 left others one.1)
  all_due Asks arrived others s e = due_two (written errand Asks) [] refl others arrived [] e (λ left f. none_left (written errand Asks) 2 left others f)
  all_due (Follows count mirror) arrived others s e =
      due_two (written errand (Follows count mirror)) [] refl others arrived [] e (λ left f. none_left (written errand (Follows count mirror)) 2 left others f)
  all_due (Unsubscribes number) arrived others s e =
      let requests = written errand (Unsubscribes number) in
      due_two requests _ refl others arrived _ e
      (λ left f. due_third requests _ refl others _ [] left (third_unsubscribe errand.task number s) f (λ left g. none_left requests 3 left others g))
  all_due LeavesAsked arrived others s e =
      let requests = written errand LeavesAsked in
      due_two requests _ refl others arrived _ e
      (λ left f. due_third requests _ refl others _ [] left (third_leave errand.task s) f (λ left g. none_left requests 3 left others g))
  all_due (LeavesWatched number) arrived others s e =
      let requests = written errand (LeavesWatched number) in
      let so = watched_so errand.task number s in
      due_two requests _ refl others arrived _ e
      (λ left f. due_third requests _ refl others _ _ left (third_unsubscribe errand.task number so.0) f
      (λ left g. due_fourth requests _ refl others _ left so.1 g))

-- the talk over the first of what is told writes no more, and stays where it is over
module _ (errand : Errand) where
  unbroken_by : (last : Finish) (stage : Stage) (rest : List Incoming) (count : ℕ) → IsClean last → count ≤ length (written errand (point_of stage))
      → ((point : Point) (finish : Finish) → through errand stage rest ≡ Closed point finish → IsUnbroken finish ⊎ (length (written errand point) < count))
      → IsUnbroken (finish_at last stage)
  unbroken_by last (At point) rest count clean most fits = clean_unbroken last clean
  unbroken_by last (Closed point finish) rest count clean most fits = ⊎_elim
      (λ (u : IsUnbroken finish). u)
      (λ (late : length (written errand point) < count). absurd (omega (arith, late, most)))
      (fits point finish (over_stays errand point finish rest))

counts : (requests : List Asked) (arrived others : List Arrived) → map (λ request. Request request) requests ≡ arrived ++ others → length arrived ≤ length requests
counts requests [] others e = omega arith
counts [] (a ∷ arrived) others e = absurd (cc)
counts (r ∷ requests) (a ∷ arrived) others e = let more = counts requests arrived others (tails_same _ _ _ _ e) in omega (arith, more)

fits_closed : (given : Given) (count : ℕ) (stage : Stage) (sent : List (List ℕ)) (new : Space) (g : Goes given count stage sent new) (point : Point) (finish : Finish)
    → through given.errand stage g.told ≡ Closed point finish → IsUnbroken finish ⊎ (length (written given.errand point) < count)
fits_closed given count stage sent new g point finish e = subst (Fits given.errand new.graph new.links given.link count g.lives) e g.fits

-- each call of a history goes, where an errand asks a query and what is delivered is what messages of texts come to
abbrev CallsGo : Type 0
CallsGo = (given : Given) → IsErrand given.errand given.text → AreHandled given.history → length given.history < 2 ^ 64 → CallGoes given

-- what the talk over all that bytes tell prints is true, where bytes tell what was sent, and each call goes
whole_true : ToldInOrder → CallsGo → (name : List ℕ) (history : List Call) (link : ℕ) (errand : Errand) (text bytes : List ℕ) (talk : Talk)
    → length history < 2 ^ 64 → IsErrand errand text → AreHandled history → IsWholeTalk errand bytes talk → AreOf (delivered_on history link) talk.requests
    → AreSentOn name history link bytes
    → AllByRecursion (IsTrueLine name history link text talk.requests) talk.lines × IsUnbroken talk.finish
whole_true told_in_order calls name history link errand text bytes talk few is handled t of from =
    (subst (AllByRecursion TrueLine) (sym lines) (all_front TrueLine (lines_on errand (At Joins) t.told) _ all_lines), unbroken)
  where
    given : Given
    given = record { name = name; history = history; link = link; errand = errand; text = text; requests = talk.requests }

    TrueLine : Line → Type 0
    TrueLine line = IsTrueLine name history link text talk.requests line

    asks : IsQuery errand.task × Suits errand.task Joins
    asks = query_task errand.task text is.asked

    stage : Stage
    stage = through errand (At Joins) t.told

    walks : (written errand (point_of stage) ≡ (talk_over t.last errand t.told).requests) × ((talk_over t.last errand t.told).lines ≡ lines_on errand (At Joins) t.told)
        × ((talk_over t.last errand t.told).finish ≡ finish_at t.last stage)
    walks = talk_walks t.last errand asks.0 t.told

    requests : talk.requests ≡ written errand (point_of stage)
    requests = ap (λ (talk : Talk). talk.requests) t.said ∙ sym walks.0

    lines : talk.lines ≡ lines_on errand (At Joins) t.told
    lines = ap (λ (talk : Talk). talk.lines) t.said ∙ walks.1

    suits : Suits errand.task (point_of stage)
    suits = suits_through errand (At Joins) t.told asks.1

    due : AreDue errand talk.requests 0 (delivered_on history link)
    due = subst (λ r. AreDue errand r 0 (delivered_on history link)) (sym requests)
        (all_due errand (point_of stage) (delivered_on history link) of.0 suits (ap (map (λ request. Request request)) (sym requests) ∙ of.1))

    goes : Goes given (length (delivered_on history link)) (At Joins) (sent name history link) (run name history)
    goes = history_goes given (calls given is handled few) (At Joins) due (λ s c on. none_in s c) tt asks.1

    told : (front back : List Envelope) × (map envelope_of goes.told ≡ front ++ back) × AllZip IsTold front t.told × IsClean t.last
    told = told_in_order (map envelope_of goes.told) bytes from.0 t.told t.last (all_sayable goes.told goes.plain) (all_short goes.told goes.plain)
        (sym (one_flat goes.told) ∙ ap (flat_map (λ message. message)) (sym goes.sends) ∙ from.1) t.tells

    rest : (rest : List Incoming) × (goes.told ≡ t.told ++ rest)
    rest = told_front goes.told told.0 told.1 t.told told.2 goes.plain told.3

    all_lines : AllByRecursion TrueLine (lines_on errand (At Joins) t.told ++ lines_on errand stage rest.0)
    all_lines = subst (AllByRecursion TrueLine) (ap (lines_on errand (At Joins)) rest.1 ∙ lines_more errand (At Joins) t.told rest.0) goes.lines

    last : through errand (At Joins) goes.told ≡ through errand stage rest.0
    last = ap (through errand (At Joins)) rest.1 ∙ through_more errand (At Joins) t.told rest.0

    most : length (delivered_on history link) ≤ length (written errand (point_of stage))
    most = counts (written errand (point_of stage)) (delivered_on history link) of.0 (ap (map (λ request. Request request)) (sym requests) ∙ of.1)

    unbroken : IsUnbroken talk.finish
    unbroken = subst IsUnbroken (sym (ap (λ (talk : Talk). talk.finish) t.said ∙ walks.2))
        (unbroken_by errand t.last stage rest.0 (length (delivered_on history link)) told.4 most
        (λ point finish e. fits_closed given (length (delivered_on history link)) (At Joins) (sent name history link) (run name history) goes point finish (last ∙ e)))

-- a talk that the messages of a prefix finish is the talk over all that the prefix tells
early_whole : (errand : Errand) (bytes : List ℕ) (talk : Talk) (e : IsEarlyTalk errand bytes talk) → IsWholeTalk errand e.front talk
early_whole errand bytes talk e = record {
  told = e.told;
  last = Over;
  tells = record {
    front = e.front;
    rest = [];
    split = sym (append-nil e.front);
    messages = e.messages;
    through = e.through;
    each = e.each;
    ends = (e.messages, e.stream);
  };
  said = sym (e.settled [] Over) ∙ ap (talk_over Over errand) (append-nil e.told);
}

-- a prefix of bytes that begin what was sent begins it too
front_sent : (name : List ℕ) (history : List Call) (link : ℕ) (bytes front rest : List ℕ) → bytes ≡ front ++ rest → AreSentOn name history link bytes
    → AreSentOn name history link front
front_sent name history link bytes front rest split from = (rest ++ from.0, from.1 ∙ (ap (λ b. b ++ from.0) split ∙ append_assoc front rest from.0))

-- what is printed is true, where bytes tell what was sent, and each call goes
pub printed_true : ToldInOrder → CallsGo → PrintedAnswersAreTrue
printed_true told_in_order calls name history link errand text bytes talk few is handled (inl e) of from =
    whole_true told_in_order calls name history link errand text e.front talk few is handled (early_whole errand bytes talk e) of
    (front_sent name history link bytes e.front e.rest e.split from)
printed_true told_in_order calls name history link errand text bytes talk few is handled (inr w) of from =
    whole_true told_in_order calls name history link errand text bytes talk few is handled w of from
