-- What entries do to what a session stands for.
use Rattle.std.proofs.Common.{◌≡◌, ◌≢◌, ◌∙◌, ap, sym, refl, subst, arith, ℕ, ◌+◌, ◌<◌, ◌==◌, Bool, true, false, cond, List, [], ◌∷◌, ◌++◌, ⊎_elim, length, drop, Option, Some, None, Result, Ok, Err, OnOk, append_assoc, append-nil, length-append, inl, inr}
use Rattle.std.specs.Bool.{MatchBool}
use Rattle.std.specs.List.{AllByRecursion}
use Rattle.std.specs.Ordering.{nat_cmp, is_eq}
use Rattle.std.specs.Cmp.{unsigned_tied}
use Rattle.std.specs.BTreeMap as tree
use Rattle.std.proofs.lemmas.Bool.{false≢true, cases_eq, eq-eqb}
use Rattle.link_table.specs.Links.{Link, new_link, is_open, is_full, link_at, state_of, state_or_never, pending_of, pending_or_none}
use Rattle.ssap_grammar.specs.Stream.{IsInside}
use Rattle.ssap_decode.specs.Decoding.{Decoding}
use Rattle.ssap_decode.specs.Standing as decoding
use Rattle.ssap_decode.specs.declared.framed.Stop as stop
use Rattle.session_core.specs.Space.{Space}
use Rattle.session_core.specs.Queues.{with_links}
use Rattle.session_core.specs.Steps.{step}
use Rattle.session_core.specs.Runs.{run_from}
use Rattle.session_core.specs.declared.call.Call.TheVariants as call
use Rattle.sib_script.specs.declared.entry.Entry.{Entry}
use Rattle.sib_script.specs.declared.entry.Entry.TheVariants.{NewLink, Bytes, End}
use Rattle.sib_replay.specs.declared.ending.Fault.{Fault}
use Rattle.session_core.specs.Reads.{costs}
use Rattle.sib_replay.specs.Doing.{Seen, Does, DoesPart, IsCause, Acts}
use Rattle.sib_replay.specs.Output.{Event, Opens, Hears, Stops, Ends, Closed, calls_with, calls_at, space_after, is_open_after, heard, arrived_on, IsHeard, IsEnded, IsTaken, answers_after, rows_from, rows_after, event_lines, event_rows, reply_lines, closed_line}
use Rattle.sib_replay.specs.Session.{Follows, HearsPart, HearsWhole, EndsAs, Knows, IsFresh, IsDrained, Stands, Answers, Delivers, reason_in, opened_in, why_of}
use Rattle.sib_replay.specs.declared.acting.Reason.{Reason}
use Rattle.sib_replay.specs.declared.why.Why.{Why}
use Rattle.sib_replay.specs.declared.why.Why.TheVariants.{Cut}
use Rattle.sib_replay.specs.declared.session.Session.{Session}
use Rattle.sib_replay.proofs.LinkLemmas.{none_some, some_same, some_within, at_opened, at_before}
use Rattle.sib_replay.proofs.LinksStayClosed.{open_before}
use Rattle.sib_replay.proofs.RingsDrain.{open_some}
use Rattle.sib_replay.proofs.CallLemmas.{end_closes, opens_not, opens}
use Rattle.sib_replay.proofs.DoingLemmas.{does_nothing, all_part, part_more, then_nothing, cause_after}
use Rattle.sib_replay.proofs.ReadOnce.{heard_once, ended_once}
use Rattle.sib_replay.proofs.EventLemmas.{IsOf, ne-eqb, event_done, event_part, space-push, events_leave, heard-append, arrived-append, arrived-cons, arrived_of, arrived_quiet, others_quiet}

-- the decoder of a link, if it has one
abbrev pub found : Session → ℕ → Option Decoding
found session link = tree.get nat_cmp session.decoders link

-- a number is found at itself, and at no other
key_same : (n m : ℕ) → n ≡ m → is_eq (nat_cmp n m) ≡ true
key_same n m e = unsigned_tied n m ∙ eq-eqb n m e

key_other : (n m : ℕ) → n ≢ m → is_eq (nat_cmp n m) ≡ false
key_other n m e = unsigned_tied n m ∙ ne-eqb n m e

-- what a map has at the number that changed, and at another
pub gets_here : (x a b : Option Decoding) (n : ℕ) → x ≡ cond (is_eq (nat_cmp n n)) a b → x ≡ a
gets_here x a b n e = e ∙ ap (λ t. cond t a b) (key_same n n refl)

pub gets_other : (x a b : Option Decoding) (n m : ℕ) → n ≢ m → x ≡ cond (is_eq (nat_cmp n m)) a b → x ≡ b
gets_other x a b n m apart e = e ∙ ap (λ t. cond t a b) (key_other n m apart)

-- an open link has a decoder, which follows what came there
knows_open : (before : List Event) (link : ℕ) (b : Bool) (o : Option Decoding) → b ≡ true → Knows before link b o → (d : Decoding) × (o ≡ Some d) × Follows d (heard before link) (arrived_on before link)
knows_open before link true None e k = absurd k
knows_open before link true (Some d) e k = (d, refl, k)
knows_open before link false o e k = absurd (false≢true e)

-- whatever a link has that isn't open
knows_closed : (before : List Event) (link : ℕ) (b : Bool) (o : Option Decoding) → b ≡ false → Knows before link b o
knows_closed before link b o off = subst (λ x. Knows before link x o) (sym off) tt

-- what is known stays where nothing came
knows_same : (before now : List Event) (link : ℕ) (b : Bool) (o : Option Decoding) → heard now link ≡ heard before link → arrived_on now link ≡ arrived_on before link → Knows before link b o → Knows now link b o
knows_same before now link true None h a k = absurd k
knows_same before now link true (Some d) h a k = subst (λ l. Follows d l (arrived_on now link)) (sym h) (subst (Follows d (heard before link)) (sym a) k)
knows_same before now link false o h a k = tt

-- what is known of a link stays where nothing came and it did not open
knows_left : (before now : List Event) (link : ℕ) (was on : Bool) (o : Option Decoding) → heard now link ≡ heard before link → arrived_on now link ≡ arrived_on before link → (on ≡ true → was ≡ true)
    → Knows before link was o → Knows now link on o
knows_left before now link was false o h a open_ k = tt
knows_left before now link was true o h a open_ k = knows_same before now link true o h a (subst (λ b. Knows before link b o) (open_ refl) k)

module _ (before vs : List Event) (link : ℕ) (quiet : (heard vs link ≡ []) × (arrived_on vs link ≡ 0)) where
  heard_kept : heard (before ++ vs) link ≡ heard before link
  heard_kept = heard-append before vs link ∙ ap (λ l. heard before link ++ l) quiet.0 ∙ append-nil (heard before link)

  arrived_kept : arrived_on (before ++ vs) link ≡ arrived_on before link
  arrived_kept = arrived-append before vs link ∙ omega (arith, quiet.1)

  fresh_kept : IsFresh before link → IsFresh (before ++ vs) link
  fresh_kept f = record { unheard = heard_kept ∙ f.unheard; unmet = arrived_kept ∙ f.unmet }

-- events of one link
pub stands_after : (name : List ℕ) (before vs : List Event) (link : ℕ) (session new : Session) → Stands name session before → AllByRecursion (IsOf link) vs
    → ((other : ℕ) → length session.core.space.links < other → (heard vs other ≡ []) × (arrived_on vs other ≡ 0)) → new.core.space ≡ space_after name (before ++ vs)
    → Knows (before ++ vs) link (is_open (state_of new.core.space.links link)) (found new link) → ((other : ℕ) → link ≢ other → found new other ≡ found session other)
    → Stands name new (before ++ vs)
stands_after name before vs link session new s of_ quiet core here others =
    let leaves = events_leave name before link vs (subst IsDrained s.core s.drained) of_ in
    record {
      core = core;
      drained = subst IsDrained (sym core) leaves.drained;
      knows = λ other. ⊎_elim
          (λ same. subst (λ n. Knows (before ++ vs) n (is_open (state_of new.core.space.links n)) (found new n)) same here)
          (λ apart.
          let none = others_quiet link other vs apart of_ in
          let was_open : is_open (state_of new.core.space.links other) ≡ true → is_open (state_of session.core.space.links other) ≡ true =
          λ now.
          ap (λ (x : Space). is_open (state_of x.links other)) s.core
          ∙ open_before (space_after name before) (space_after name (before ++ vs)) leaves.closes other (ap (λ (x : Space). is_open (state_of x.links other)) (sym core) ∙ now)
          in
          subst (Knows (before ++ vs) other (is_open (state_of new.core.space.links other))) (sym (others other apart))
          (knows_left before (before ++ vs) other (is_open (state_of session.core.space.links other)) (is_open (state_of new.core.space.links other)) (found session other)
          (heard_kept before vs other none) (arrived_kept before vs other none) was_open (s.knows other)))
          (cases_eq link other);
      fresh = λ other above.
          let as_many : length new.core.space.links ≡ length session.core.space.links = ap (λ (x : Space). length x.links) core ∙ leaves.closes.as_many ∙ ap (λ (x : Space). length x.links) (sym s.core) in
          let past : length session.core.space.links < other = omega (arith, as_many, above) in
          fresh_kept before vs other (quiet other past) (s.fresh other past);
    }

-- what is answered where a link ended
abbrev pub ended_result : Result (Option ℕ) Fault → Result (Unit {0}) Fault
ended_result (Ok opened) = Ok tt
ended_result (Err fault) = Err fault

module _ (name : List ℕ) (before : List Event) (session : Session) (s : Stands name session before) where
  -- whether a link is open is told from the space
  open_is : (link : ℕ) (b : Bool) → is_open (state_of session.core.space.links link) ≡ b → is_open_after name before link ≡ b
  open_is link b e = ap (λ (x : Space). is_open (state_of x.links link)) (sym s.core) ∙ e

  -- one event was answered
  one_done : (event : Event) (a b : Seen) → Does a b (event_lines session.core.space event) (event_rows session.core.space event)
      → Does a b (answers_after name before (event ∷ [])) (rows_after name before (event ∷ []))
  one_done event a b p = event_done name before [] event session.core.space a a b (s.core ∙ ap (space_after name) (sym (append-nil before))) (does_nothing a) p

  -- a part of it was
  one_part : (event : Event) (a b : Seen) (all : List Event) → DoesPart a b (event_lines session.core.space event) (event_rows session.core.space event) → all ≡ event ∷ []
      → DoesPart a b (answers_after name before all) (rows_after name before all)
  one_part event a b all p is = event_part name before [] [] all event session.core.space a a b (s.core ∙ ap (space_after name) (sym (append-nil before))) (does_nothing a) p is

  -- nothing was done
  pub delivers_nothing : (entry : Entry) (a : Seen) (new : Session) (fault : Fault) → IsCause a a fault → Delivers name before entry a a new (Err fault)
  delivers_nothing entry a new fault cause = (
    λ events taken. part_more a a [] (answers_after name before events) (answers_after name before events) 0 (rows_after name before events) (all_part a a [] 0 (does_nothing a)) refl (omega arith),
    cause,
  )

  module _ (link : ℕ) (on : is_open (state_of session.core.space.links link) ≡ true) where
    -- an open link has a decoder
    pub decoder_of : (d : Decoding) × (found session link ≡ Some d) × Follows d (heard before link) (arrived_on before link)
    decoder_of = knows_open before link (is_open (state_of session.core.space.links link)) (found session link) on (s.knows link)

    -- which follows what came on the link
    pub follows_of : (d : Decoding) → found session link ≡ Some d → Follows d (heard before link) (arrived_on before link)
    follows_of d some = subst (λ x. Follows x (heard before link) (arrived_on before link)) (some_same decoder_of.0 d (sym decoder_of.1 ∙ some)) decoder_of.2

    -- a number above the last is another
    others_above : (vs : List Event) → AllByRecursion (IsOf link) vs → (other : ℕ) → length session.core.space.links < other → (heard vs other ≡ []) × (arrived_on vs other ≡ 0)
    others_above vs of_ other above =
        let (l, at, open_) = open_some session.core.space.links link on in
        let within = some_within session.core.space.links link l at in
        others_quiet link other vs (λ e. omega (arith, e, above, within)) of_

  -- an entry of a link that isn't open
  module _ (link : ℕ) (entry : Entry) (off : is_open (state_of session.core.space.links link) ≡ false)
      (only : (events : List Event) → IsTaken name before entry events → events ≡ Closed link ∷ []) (taken : IsTaken name before entry (Closed link ∷ [])) where
    delivers_closed : (a b : Seen) (result : Result (Unit {0}) Fault) → Acts a b result (closed_line link) 0 → Delivers name before entry a b session result
    delivers_closed a b (Ok done) p = record {
      events = Closed link ∷ [];
      taken = taken;
      answer = one_done (Closed link) a b p;
      stands = stands_after name before (Closed link ∷ []) link session session s (refl, tt) (λ other above. (refl, refl))
          (s.core ∙ sym (space-push name before (Closed link)))
          (knows_closed (before ++ Closed link ∷ []) link (is_open (state_of session.core.space.links link)) (found session link) off) (λ other apart. refl);
    }
    delivers_closed a b (Err fault) (p, cause) = (λ events t. one_part (Closed link) a b events p (only events t), cause)

  pub delivers_unheard : (link : ℕ) (bytes : List ℕ) (a b : Seen) (result : Result (Unit {0}) Fault) → is_open (state_of session.core.space.links link) ≡ false → Acts a b result (closed_line link) 0
      → Delivers name before (Bytes link bytes) a b session result
  delivers_unheard link bytes a b result off p =
      let told = open_is link false off in
      delivers_closed link (Bytes link bytes) off
      (λ events t. subst (λ b. MatchBool b (IsHeard name before link bytes events) (events ≡ Closed link ∷ [])) told t)
      (subst (λ b. MatchBool b (IsHeard name before link bytes (Closed link ∷ [])) (◌≡◌ {A = List Event} (Closed link ∷ []) (Closed link ∷ []))) (sym told) refl) a b result p

  pub delivers_unended : (link : ℕ) (a b : Seen) (result : Result (Unit {0}) Fault) → is_open (state_of session.core.space.links link) ≡ false → Acts a b result (closed_line link) 0
      → Delivers name before (End link) a b session result
  delivers_unended link a b result off p =
      let told = open_is link false off in
      delivers_closed link (End link) off
      (λ events t. subst (λ b. MatchBool b (IsEnded before link events) (events ≡ Closed link ∷ [])) told t)
      (subst (λ b. MatchBool b (IsEnded before link (Closed link ∷ [])) (◌≡◌ {A = List Event} (Closed link ∷ []) (Closed link ∷ []))) (sym told) refl) a b result p

  -- the space behind the bytes of a delivery, before its messages
  pub heard_space : (link : ℕ) (bytes : List ℕ) → session.core.space ≡ space_after name (before ++ Hears link bytes ∷ [])
  heard_space link bytes = s.core ∙ sym (space-push name before (Hears link bytes))

  -- a delivery on an open link
  module _ (link : ℕ) (bytes : List ℕ) (on : is_open (state_of session.core.space.links link) ≡ true) where
    -- its rows are those of its messages
    rows_heard : (others : List Event) → rows_after name (before ++ Hears link bytes ∷ []) others ≡ rows_after name before (Hears link bytes ∷ others)
    rows_heard others = ap (λ x. rows_from x others) (space-push name before (Hears link bytes))

    heard_as : (events : List Event) → IsTaken name before (Bytes link bytes) events → IsHeard name before link bytes events
    heard_as events t = subst (λ b. MatchBool b (IsHeard name before link bytes events) (events ≡ Closed link ∷ [])) (open_is link true on) t

    -- a fault came
    pub delivers_part : (a b : Seen) (new : Session) (fault : Fault)
        → HearsPart name (before ++ Hears link bytes ∷ []) link (arrived_on before link) (heard before link ++ bytes) a b × IsCause a b fault
        → Delivers name before (Bytes link bytes) a b new (Err fault)
    delivers_part a b new fault (part, cause) = (
      λ events t.
          let (others, is, h) = heard_as events t in
          subst (λ l. DoesPart a b (answers_after name before l) (rows_after name before l)) (sym is)
          (subst (DoesPart a b (answers_after name (before ++ Hears link bytes ∷ []) others)) (rows_heard others) (part others h)),
      cause,
    )

    module _ (a b : Seen) (space : Space) (next : Decoding) (all : HearsWhole name (before ++ Hears link bytes ∷ []) link (arrived_on before link) (heard before link) bytes a b space next) where
      -- all was given, and then a fault came
      pub delivers_unkept : (c : Seen) (new : Session) (fault : Fault) → Does b c [] 0 → IsCause b c fault → Delivers name before (Bytes link bytes) a c new (Err fault)
      delivers_unkept c new fault nothing cause = delivers_part a c new fault (
        λ others t.
            subst (λ l. DoesPart a c (answers_after name (before ++ Hears link bytes ∷ []) l) (rows_after name (before ++ Hears link bytes ∷ []) l))
            (heard_once name (before ++ Hears link bytes ∷ []) link (arrived_on before link) (heard before link ++ bytes) all.events others all.taken t)
            (then_nothing a b c (answers_after name (before ++ Hears link bytes ∷ []) all.events) (rows_after name (before ++ Hears link bytes ∷ []) all.events) all.written nothing),
        cause_after a b c fault all.written.faults cause,
      )

      module _ (new : Session) (core : new.core.space ≡ space) (others : (other : ℕ) → link ≢ other → found new other ≡ found session other) where
        of_link : AllByRecursion (IsOf link) (Hears link bytes ∷ all.events)
        of_link = (refl, arrived_of name (before ++ Hears link bytes ∷ []) link all.taken.front all.taken.rest (drop (arrived_on before link) all.taken.messages) all.events all.taken.taken)

        bytes_more : heard (before ++ Hears link bytes ∷ all.events) link ≡ heard before link ++ bytes
        bytes_more =
            let quiet = arrived_quiet name (before ++ Hears link bytes ∷ []) link link all.taken.front all.taken.rest (drop (arrived_on before link) all.taken.messages) all.events all.taken.taken in
            heard-append before (Hears link bytes ∷ all.events) link
            ∙ ap (λ l. heard before link ++ (cond (link == link) bytes [] ++ l)) quiet
            ∙ ap (λ b. heard before link ++ (cond b bytes [] ++ [])) (eq-eqb link link refl) ∙ ap (λ l. heard before link ++ l) (append-nil bytes)

        messages_more : arrived_on (before ++ Hears link bytes ∷ all.events) link ≡ arrived_on before link + arrived_on all.events link
        messages_more = let one = arrived-cons (Hears link bytes) all.events link in arrived-append before (Hears link bytes ∷ all.events) link ∙ omega (arith, one)

        answers_heard : Knows (before ++ Hears link bytes ∷ all.events) link (is_open (state_of new.core.space.links link)) (found new link) → Answers name before (Bytes link bytes) a b new
        answers_heard here = record {
          events = Hears link bytes ∷ all.events;
          taken = subst (λ b. MatchBool b (IsHeard name before link bytes (Hears link bytes ∷ all.events)) (Hears link bytes ∷ all.events ≡ Closed link ∷ []))
              (sym (open_is link true on)) (all.events, refl, all.taken);
          answer = subst (Does a b (answers_after name before (Hears link bytes ∷ all.events))) (rows_heard all.events) all.written;
          stands = stands_after name before (Hears link bytes ∷ all.events) link session new s of_link (others_above link on (Hears link bytes ∷ all.events) of_link)
              (core ∙ all.does ∙ ap (space_after name) (append_assoc before (Hears link bytes ∷ []) all.events)) here others;
        }

        -- the link goes on
        pub answers_on : is_open (state_of new.core.space.links link) ≡ true → found new link ≡ Some next → Answers name before (Bytes link bytes) a b new
        answers_on open_ here =
            answers_heard (subst (λ b. Knows (before ++ Hears link bytes ∷ all.events) link b (found new link)) (sym open_)
            (subst (Knows (before ++ Hears link bytes ∷ all.events) link true) (sym here)
            (subst (λ l. Follows next l (arrived_on (before ++ Hears link bytes ∷ all.events) link)) (sym bytes_more) (subst (Follows next (heard before link ++ bytes)) (sym messages_more)
            (all.follows (ap (λ (x : Space). is_open (state_of x.links link)) (sym core) ∙ open_))))))

        -- or it isn't open any more
        pub answers_off : is_open (state_of new.core.space.links link) ≡ false → Answers name before (Bytes link bytes) a b new
        answers_off off = answers_heard (knows_closed (before ++ Hears link bytes ∷ all.events) link (is_open (state_of new.core.space.links link)) (found new link) off)

  -- the end of an open link, as one event
  module _ (link : ℕ) (new : Session) (on : is_open (state_of session.core.space.links link) ≡ true) (others : (other : ℕ) → link ≢ other → found new other ≡ found session other) where
    -- what the end of the link is taken as
    ended_as : (events : List Event) → IsTaken name before (End link) events → IsEnded before link events
    ended_as events t = subst (λ b. MatchBool b (IsEnded before link events) (events ≡ Closed link ∷ [])) (open_is link true on) t

    ended : (event : Event) (a b : Seen) (result : Result (Option ℕ) Fault) → IsEnded before link (event ∷ []) → IsOf link event
        → calls_at session.core.space event ≡ calls_with session.core.space (Some (call.End link))
        → OnOk result (new.core.space ≡ run_from session.core.space (calls_with session.core.space (Some (call.End link))))
        → Acts a b result (event_lines session.core.space event) (event_rows session.core.space event) → Delivers name before (End link) a b new (ended_result result)
    ended event a b (Ok opened) taken of_ calls does p =
        let space : new.core.space ≡ space_after name (before ++ event ∷ []) =
        does ∙ ap (run_from session.core.space) (sym calls) ∙ ap (λ x. run_from x (calls_at x event)) s.core ∙ sym (space-push name before event)
        in
        let off : is_open (state_of new.core.space.links link) ≡ false =
        ap (λ (x : Space). is_open (state_of x.links link)) does ∙ end_closes session.core.space link on
        in
        record {
          events = event ∷ [];
          taken = subst (λ b. MatchBool b (IsEnded before link (event ∷ [])) (event ∷ [] ≡ Closed link ∷ [])) (sym (open_is link true on)) taken;
          answer = one_done event a b p;
          stands = stands_after name before (event ∷ []) link session new s (of_, tt) (others_above link on (event ∷ []) (of_, tt)) space
              (knows_closed (before ++ event ∷ []) link (is_open (state_of new.core.space.links link)) (found new link) off) others;
        }
    ended event a b (Err fault) taken of_ calls does (p, cause) =
        (λ events t. one_part event a b events p (ended_once before link events (event ∷ []) (ended_as events t) taken), cause)

    pub delivers_ended : (reason : Option Reason) (a b : Seen) (result : Result (Option ℕ) Fault) → EndsAs link (heard before link) reason
        → OnOk result (new.core.space ≡ run_from session.core.space (calls_with session.core.space (Some (call.End link))))
        → Acts a b result (reply_lines (reason_in reason) (step session.core.space (call.End link)).space (step session.core.space (call.End link)).reply)
        (costs session.core.space (calls_with session.core.space (Some (call.End link)))) → Delivers name before (End link) a b new (ended_result result)
    delivers_ended None a b result (messages, stream) does p = ended (Ends link) a b result (inl (messages, stream, refl)) refl refl does p
    delivers_ended (Some reason) a b result (start, inside, is) does p =
        ended (Stops link (Cut start)) a b result (inr (start, inside, refl)) refl refl does
        (subst (λ r. Acts a b result (reply_lines (reason_in (Some r)) (step session.core.space (call.End link)).space (step session.core.space (call.End link)).reply)
        (costs session.core.space (calls_with session.core.space (Some (call.End link))))) is p)

  -- a fault came where a link was to open
  pub delivers_unopened : (a b : Seen) (new : Session) (fault : Fault)
      → DoesPart a b (reply_lines (reason_in None) (step session.core.space call.NewLink).space (step session.core.space call.NewLink).reply) (costs session.core.space (calls_with session.core.space (Some call.NewLink)))
      → IsCause a b fault → Delivers name before NewLink a b new (Err fault)
  delivers_unopened a b new fault p cause = (λ events t. one_part Opens a b events p t, cause)

  -- a link is asked for
  module _ (new : Session) (a b : Seen) (does : new.core.space ≡ run_from session.core.space (calls_with session.core.space (Some call.NewLink)))
      (line : Does a b (reply_lines (reason_in None) (step session.core.space call.NewLink).space (step session.core.space call.NewLink).reply)
      (costs session.core.space (calls_with session.core.space (Some call.NewLink)))) where
    space_opened : new.core.space ≡ space_after name (before ++ Opens ∷ [])
    space_opened = does ∙ ap (λ x. run_from x (calls_at x Opens)) s.core ∙ sym (space-push name before Opens)

    quiet_opened : (link : ℕ) → (heard (Opens ∷ []) link ≡ []) × (arrived_on (Opens ∷ []) link ≡ 0)
    quiet_opened link = (refl, refl)

    kept : (link : ℕ) (b : Bool) (o : Option Decoding) → Knows before link b o → Knows (before ++ Opens ∷ []) link b o
    kept link b o k = knows_same before (before ++ Opens ∷ []) link b o (heard_kept before (Opens ∷ []) link (quiet_opened link)) (arrived_kept before (Opens ∷ []) link (quiet_opened link)) k

    -- none opens
    pub answers_full : opened_in (step session.core.space call.NewLink).reply ≡ None → ((link : ℕ) → found new link ≡ found session link) → Answers name before NewLink a b new
    answers_full none others = by_full (is_full session.core.space.links) refl
      where
        still : is_full session.core.space.links ≡ true → new.core.space ≡ session.core.space
        still full = does ∙ (opens_not session.core.space full).0

        by_full : (full : Bool) → is_full session.core.space.links ≡ full → Answers name before NewLink a b new
        by_full false e = absurd (none_some (length session.core.space.links + 1) (sym none ∙ (opens session.core.space e).1))
        by_full true e = record {
          events = Opens ∷ [];
          taken = refl;
          answer = one_done Opens a b line;
          stands = record {
            core = space_opened;
            drained = subst IsDrained (sym (still e)) s.drained;
            knows = λ link. subst (λ (x : Space). Knows (before ++ Opens ∷ []) link (is_open (state_of x.links link)) (found new link)) (sym (still e))
                (subst (Knows (before ++ Opens ∷ []) link (is_open (state_of session.core.space.links link))) (sym (others link))
                (kept link (is_open (state_of session.core.space.links link)) (found session link) (s.knows link)));
            fresh = λ link above. fresh_kept before (Opens ∷ []) link (quiet_opened link) (s.fresh link (subst (λ (x : Space). length x.links < link) (still e) above));
          };
        }

    -- the next one opens
    pub answers_opened : (link : ℕ) (d : Decoding) → opened_in (step session.core.space call.NewLink).reply ≡ Some link → Follows d [] 0 → found new link ≡ Some d
        → ((other : ℕ) → link ≢ other → found new other ≡ found session other) → Answers name before NewLink a b new
    answers_opened link d some f here others = by_full (is_full session.core.space.links) refl
      where
        links : List Link
        links = session.core.space.links

        by_full : (full : Bool) → is_full session.core.space.links ≡ full → Answers name before NewLink a b new
        by_full true e = absurd (none_some link (sym (opens_not session.core.space e).1 ∙ some))
        by_full false e =
            let more : new.core.space ≡ with_links session.core.space (session.core.space.links ++ new_link ∷ []) = does ∙ (opens session.core.space e).0 in
            let number : link ≡ length session.core.space.links + 1 = some_same link (length session.core.space.links + 1) (sym some ∙ (opens session.core.space e).1) in
            let at_link : link_at new.core.space.links link ≡ Some new_link =
            ap (λ (x : Space). link_at x.links link) more ∙ ap (link_at (session.core.space.links ++ new_link ∷ [])) number ∙ at_opened session.core.space.links
            in
            let at_other : (other : ℕ) → link ≢ other → link_at new.core.space.links other ≡ link_at session.core.space.links other =
            λ other apart. ap (λ (x : Space). link_at x.links other) more ∙ at_before session.core.space.links other (λ e. apart (number ∙ sym e))
            in
            let first = s.fresh link (omega (arith, number)) in
            record {
              events = Opens ∷ [];
              taken = refl;
              answer = one_done Opens a b line;
              stands = record {
                core = space_opened;
                drained = λ other. ⊎_elim (λ same. ap (pending_of new.core.space.links) (sym same) ∙ ap pending_or_none at_link) (λ apart. ap pending_or_none (at_other other apart) ∙ s.drained other)
                    (cases_eq link other);
                knows = λ other. ⊎_elim
                    (λ same. subst (λ n. Knows (before ++ Opens ∷ []) n (is_open (state_of new.core.space.links n)) (found new n)) same
                    (subst (λ o. Knows (before ++ Opens ∷ []) link (is_open (state_or_never o)) (found new link)) (sym at_link)
                    (subst (Knows (before ++ Opens ∷ []) link true) (sym here)
                    (subst (λ l. Follows d l (arrived_on (before ++ Opens ∷ []) link)) (sym (heard_kept before (Opens ∷ []) link (quiet_opened link) ∙ first.unheard))
                    (subst (Follows d []) (sym (arrived_kept before (Opens ∷ []) link (quiet_opened link) ∙ first.unmet)) f)))))
                    (λ apart. subst (λ o. Knows (before ++ Opens ∷ []) other (is_open (state_or_never o)) (found new other)) (sym (at_other other apart))
                    (subst (Knows (before ++ Opens ∷ []) other (is_open (state_of session.core.space.links other))) (sym (others other apart))
                    (kept other (is_open (state_of session.core.space.links other)) (found session other) (s.knows other))))
                    (cases_eq link other);
                fresh = λ other above.
                    let as_many : length new.core.space.links ≡ length session.core.space.links + 1 = ap (λ (x : Space). length x.links) more ∙ length-append session.core.space.links (new_link ∷ []) in
                    fresh_kept before (Opens ∷ []) other (quiet_opened other) (s.fresh other (omega (arith, as_many, above)));
              };
            }

-- the end of a link's bytes is a stop only inside a message
pub cut_inside : (d new : Decoding) (bytes : List ℕ) (came : ℕ) (at : stop.Stop) (why : Why) → Follows d bytes came → decoding.EndStands d (Err at) new → why_of at ≡ Some why
    → (start : ℕ) × IsInside bytes start × (why ≡ Cut start)
cut_inside d new bytes came (stop.TheVariants.Syntax place) why f e is = absurd (none_some (stop.TheVariants.Syntax place) (sym f.sound ∙ (e bytes came f.stands).1))
cut_inside d new bytes came (stop.TheVariants.TooLong start) why f e is = absurd (none_some (stop.TheVariants.TooLong start) (sym f.sound ∙ (e bytes came f.stands).1))
cut_inside d new bytes came stop.TheVariants.NoMemory why f e is = absurd e
cut_inside d new bytes came (stop.TheVariants.Cut start) why f e is =
    elim (e bytes came f.stands).1 as (λ _. (start : ℕ) × IsInside bytes start × (why ≡ Cut start)) [
      | inl met ↦ absurd (none_some (stop.TheVariants.Cut start) (sym f.sound ∙ met))
      | inr inside ↦ (start, inside, sym (some_same (Cut start) why is))
    ]
