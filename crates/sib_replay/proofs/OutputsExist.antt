-- Entries are taken as some events, and so some output is written.
use Rattle.std.proofs.Common.{◌≡◌, ◌≢◌, ◌⊎◌, inl, inr, ℕ, ◌+◌, ◌<◌, ◌==◌, Bool, true, false, cond, List, [], ◌∷◌, ◌++◌, length, drop, Option, Some, None, refl, sym, ◌∙◌, ap, subst, append_assoc, append-nil, length-append, arith}
use Rattle.std.specs.Prelude.{nat_le}
use Rattle.std.specs.Bool.{MatchBool}
use Rattle.std.specs.List.{AllByRecursion}
use Rattle.std.proofs.lemmas.Bool.{false≢true, cases_eq, eq-eqb}
use Rattle.link_table.specs.Links.{Link, new_link, is_open, is_full, link_at, state_of, state_or_never, pending_of, pending_or_none}
use Rattle.ssap_grammar.specs.Stream.{Placed, Stream, IsViable, IsInside}
use Rattle.ssap_grammar.proofs.StreamEnds.{nothing_streams}
use Rattle.ssap_accepts.proofs.Existing.{ends_exist}
use Rattle.ssap_shape.specs.Shape.{IsShape}
use Rattle.ssap_shape.specs.declared.request.Arrived.{Arrived}
use Rattle.ssap_shape.proofs.Somes.{shapes_some}
use Rattle.session_core.specs.Space.{Space}
use Rattle.session_core.specs.Runs.{run_from}
use Rattle.session_core.specs.declared.call.Call.TheVariants as call
use Rattle.sib_script.specs.declared.entry.Entry.{Entry}
use Rattle.sib_script.specs.declared.entry.Entry.TheVariants.{NewLink, Bytes, End}
use Rattle.sib_script.proofs.Existing.{splits_exist, places_exist}
use Rattle.sib_replay.specs.declared.why.Why.{Why}
use Rattle.sib_replay.specs.declared.why.Why.TheVariants.{Cut}
use Rattle.sib_replay.specs.Output.{Event, Opens, Hears, Arrives, Stops, Ends, Closed, calls_with, calls_at, space_after, is_open_after, heard, arrived_on, StopsBehind, GoesOn, AreArrived, IsHeard, IsEnded, IsTaken, AreTakenAfter, AreTaken, answers, farewell, IsOutput}
use Rattle.sib_replay.specs.Session.{IsDrained}
use Rattle.sib_replay.proofs.LinkLemmas.{some_within, at_opened, at_before}
use Rattle.sib_replay.proofs.LinksStayClosed.{open_before}
use Rattle.sib_replay.proofs.RingsDrain.{open_some}
use Rattle.sib_replay.proofs.CallLemmas.{end_closes, opens_not, opens}
use Rattle.sib_replay.proofs.EventLemmas.{IsOf, space-push, events_leave, heard-append, arrived_of, arrived_quiet, others_quiet}
use Rattle.sib_replay.proofs.Letting.{fronted}

-- an event that ends an open link
closes : (name : List ℕ) (before : List Event) (link : ℕ) (event : Event) → calls_at (space_after name before) event ≡ calls_with (space_after name before) (Some (call.End link))
    → is_open_after name before link ≡ true → is_open_after name (before ++ event ∷ []) link ≡ false
closes name before link event calls on =
    ap (λ (s : Space). is_open (state_of s.links link)) (space-push name before event ∙ ap (run_from (space_after name before)) calls)
    ∙ end_closes (space_after name before) link on

-- messages come on an open link as some events, and where it is open behind them no byte is left
record Comes (name : List ℕ) (before : List Event) (link : ℕ) (front rest : List ℕ) (messages : List Placed) : Type 0 where
  pub events : List Event
  pub are : AreArrived name before link front rest messages events
  pub all : is_open_after name (before ++ events) link ≡ true → rest ≡ []

-- behind all bytes nothing stops a link
none_left : (front rest : List ℕ) → StopsBehind front rest None → rest ≡ []
none_left front [] stands = refl
none_left front (byte ∷ rest) stands = absurd stands

-- behind the last message stands what stops the link
comes_last : (name : List ℕ) (before : List Event) (link : ℕ) (front rest : List ℕ) (stop : Option Why) → StopsBehind front rest stop
    → is_open_after name before link ≡ true → Comes name before link front rest []
comes_last name before link front rest None stands on = record { events = []; are = (None, stands, refl); all = λ now. none_left front rest stands }
comes_last name before link front rest (Some why) stands on = record {
  events = Stops link why ∷ [];
  are = (Some why, stands, refl);
  all = λ now. absurd (false≢true (sym (closes name before link (Stops link why) refl on) ∙ now));
}

-- a message comes, and others where the link is open then
comes_next : (name : List ℕ) (before : List Event) (link : ℕ) (front rest : List ℕ) (message : Placed) (messages : List Placed) (arrived : Arrived) → IsShape message.envelope arrived
    → (b : Bool) → is_open_after name (before ++ Arrives link message.start arrived ∷ []) link ≡ b
    → (b ≡ true → Comes name (before ++ Arrives link message.start arrived ∷ []) link front rest messages) → Comes name before link front rest (message ∷ messages)
comes_next name before link front rest message messages arrived shape true is more =
    let event : Event = Arrives link message.start arrived in
    let c = more refl in
    record {
      events = event ∷ c.events;
      are = (arrived, shape, subst (λ b. GoesOn b event (AreArrived name (before ++ event ∷ []) link front rest messages) (event ∷ c.events)) (sym is) (c.events, refl, c.are));
      all = λ now. c.all (subst (λ l. is_open_after name l link ≡ true) (sym (append_assoc before (event ∷ []) c.events)) now);
    }
comes_next name before link front rest message messages arrived shape false is more =
    let event : Event = Arrives link message.start arrived in
    record {
      events = event ∷ [];
      are = (arrived, shape, subst (λ b. GoesOn b event (AreArrived name (before ++ event ∷ []) link front rest messages) (event ∷ [])) (sym is) refl);
      all = λ now. absurd (false≢true (sym is ∙ now));
    }

-- messages come one after another
comes : (name : List ℕ) (before : List Event) (link : ℕ) (front rest : List ℕ) (stop : Option Why) → StopsBehind front rest stop → (messages : List Placed)
    → is_open_after name before link ≡ true → Comes name before link front rest messages
comes name before link front rest stop stands [] on = comes_last name before link front rest stop stands on
comes name before link front rest stop stands (message ∷ messages) on =
    let shape = shapes_some message.envelope in
    let event : Event = Arrives link message.start shape.0 in
    comes_next name before link front rest message messages shape.0 shape.1 (is_open_after name (before ++ event ∷ []) link) refl
    (λ now. comes name (before ++ event ∷ []) link front rest stop stands messages now)

-- behind some events no message waits, what came on an open link is viable, and on a link that has not opened yet nothing came
record Sound (name : List ℕ) (before : List Event) : Type 0 where
  pub drained : IsDrained (space_after name before)
  pub viable : (link : ℕ) → is_open_after name before link ≡ true → IsViable (heard before link)
  pub fresh : (link : ℕ) → length (space_after name before).links < link → heard before link ≡ []

-- before the first event
sound_first : (name : List ℕ) → Sound name []
sound_first name = record {
  drained = λ link. ap pending_or_none (elim (nat_le 1 link) as (λ b. ◌≡◌ {A = Option Link} (cond b None None) None) [ true ↦ refl | false ↦ refl ]);
  viable = λ link now. ([], [], nothing_streams);
  fresh = λ link above. refl;
}

module _ (name : List ℕ) (before vs : List Event) (s : Sound name before) where
  -- where nothing comes on a link, what came stays
  heard_kept : (link : ℕ) → heard vs link ≡ [] → heard (before ++ vs) link ≡ heard before link
  heard_kept link none = heard-append before vs link ∙ (ap (λ l. heard before link ++ l) none ∙ append-nil (heard before link))

  -- events that change nothing
  sound_still : space_after name (before ++ vs) ≡ space_after name before → ((link : ℕ) → heard vs link ≡ []) → Sound name (before ++ vs)
  sound_still same quiet = record {
    drained = subst IsDrained (sym same) s.drained;
    viable = λ link now. subst IsViable (sym (heard_kept link (quiet link))) (s.viable link (ap (λ (x : Space). is_open (state_of x.links link)) (sym same) ∙ now));
    fresh = λ link above. heard_kept link (quiet link) ∙ s.fresh link (subst (λ (x : Space). length x.links < link) same above);
  }

  -- events of an open link
  module _ (link : ℕ) (on : is_open_after name before link ≡ true) (of_ : AllByRecursion (IsOf link) vs) where
    kept : (other : ℕ) → link ≢ other → heard (before ++ vs) other ≡ heard before other
    kept other apart = heard_kept other (others_quiet link other vs apart of_).0

    sound_on : (is_open_after name (before ++ vs) link ≡ true → IsViable (heard (before ++ vs) link)) → Sound name (before ++ vs)
    sound_on here =
        let leaves = events_leave name before link vs s.drained of_ in
        let (l, at, now) = open_some (space_after name before).links link on in
        let within = some_within (space_after name before).links link l at in
        record {
          drained = leaves.drained;
          viable = λ other now. elim (cases_eq link other) [
            | inl same ↦ subst (λ n. IsViable (heard (before ++ vs) n)) same (here (subst (λ n. is_open_after name (before ++ vs) n ≡ true) (sym same) now))
            | inr apart ↦ subst IsViable (sym (kept other apart)) (s.viable other (open_before (space_after name before) (space_after name (before ++ vs)) leaves.closes other now))
          ];
          fresh = λ other above.
              let as_many = leaves.closes.as_many in
              let past : length (space_after name before).links < other = omega (arith, as_many, above) in
              kept other (λ e. omega (arith, e, past, within)) ∙ s.fresh other past;
        }

-- what an entry is taken as
record Takes (name : List ℕ) (before : List Event) (entry : Entry) : Type 0 where
  pub events : List Event
  pub taken : IsTaken name before entry events
  pub sound : Sound name (before ++ events)

-- a link is asked for
new_taken : (name : List ℕ) (before : List Event) → Sound name before → (full : Bool) → is_full (space_after name before).links ≡ full → Takes name before NewLink
new_taken name before s true is = record {
  events = Opens ∷ [];
  taken = refl;
  sound = sound_still name before (Opens ∷ []) s (space-push name before Opens ∙ (opens_not (space_after name before) is).0) (λ link. refl);
}
new_taken name before s false is = record {
  events = Opens ∷ [];
  taken = refl;
  sound = record {
    drained = λ link. elim (cases_eq (length links + 1) link) [
      | inl same ↦ subst (λ n. pending_of (space_after name (before ++ Opens ∷ [])).links n ≡ []) same (ap (λ ls. pending_of ls (length links + 1)) more ∙ ap pending_or_none (at_opened links))
      | inr apart ↦ ap pending_or_none (at_other link apart) ∙ s.drained link
    ];
    viable = λ link now. elim (cases_eq (length links + 1) link) [
      | inl same ↦ subst IsViable (sym (heard_kept name before (Opens ∷ []) s link refl ∙ s.fresh link (omega (arith, same)))) ([], [], nothing_streams)
      | inr apart ↦ subst IsViable (sym (heard_kept name before (Opens ∷ []) s link refl)) (s.viable link (ap (λ o. is_open (state_or_never o)) (sym (at_other link apart)) ∙ now))
    ];
    fresh = λ link above.
        let as_many : length (space_after name (before ++ Opens ∷ [])).links ≡ length links + 1 = ap length more ∙ length-append links (new_link ∷ []) in
        heard_kept name before (Opens ∷ []) s link refl ∙ s.fresh link (omega (arith, as_many, above));
  };
}
  where
    links : List Link
    links = (space_after name before).links

    more : (space_after name (before ++ Opens ∷ [])).links ≡ links ++ new_link ∷ []
    more = ap (λ (x : Space). x.links) (space-push name before Opens ∙ (opens (space_after name before) is).0)

    at_other : (link : ℕ) → length links + 1 ≢ link → link_at (space_after name (before ++ Opens ∷ [])).links link ≡ link_at links link
    at_other link apart = ap (λ ls. link_at ls link) more ∙ at_before links link (λ e. apart (sym e))

-- an entry of a link that isn't open
closed_sound : (name : List ℕ) (before : List Event) (link : ℕ) → Sound name before → Sound name (before ++ Closed link ∷ [])
closed_sound name before link s = sound_still name before (Closed link ∷ []) s (space-push name before (Closed link)) (λ other. refl)

-- a delivery
heard_taken : (name : List ℕ) (before : List Event) (link : ℕ) (bytes : List ℕ) → Sound name before → (b : Bool) → is_open_after name before link ≡ b → Takes name before (Bytes link bytes)
heard_taken name before link bytes s true on =
    let f = fronted (heard before link ++ bytes) in
    let first : List Event = before ++ Hears link bytes ∷ [] in
    let same : space_after name first ≡ space_after name before = space-push name before (Hears link bytes) in
    let c = comes name first link f.front f.rest f.stop f.stands (drop (arrived_on before link) f.messages)
    (ap (λ (x : Space). is_open (state_of x.links link)) same ∙ on)
    in
    let brought : heard (before ++ Hears link bytes ∷ c.events) link ≡ heard before link ++ bytes =
    heard-append before (Hears link bytes ∷ c.events) link
    ∙ ap (λ l. heard before link ++ (cond (link == link) bytes [] ++ l)) (arrived_quiet name first link link f.front f.rest (drop (arrived_on before link) f.messages) c.events c.are)
    ∙ ap (λ b. heard before link ++ (cond b bytes [] ++ [])) (eq-eqb link link refl) ∙ ap (λ l. heard before link ++ l) (append-nil bytes)
    in
    record {
      events = Hears link bytes ∷ c.events;
      taken = subst (λ b. MatchBool b (IsHeard name before link bytes (Hears link bytes ∷ c.events)) (Hears link bytes ∷ c.events ≡ Closed link ∷ [])) (sym on)
          (c.events, refl, record { front = f.front; rest = f.rest; split = f.split; messages = f.messages; through = f.through; taken = c.are });
      sound = sound_on name before (Hears link bytes ∷ c.events) s link on
          (refl, arrived_of name first link f.front f.rest (drop (arrived_on before link) f.messages) c.events c.are)
          (λ now.
          let none = c.all (subst (λ l. is_open_after name l link ≡ true) (sym (append_assoc before (Hears link bytes ∷ []) c.events)) now) in
          subst IsViable (sym (brought ∙ (f.split ∙ (ap (λ l. f.front ++ l) none ∙ append-nil f.front)))) f.through.viable);
    }
heard_taken name before link bytes s false off = record {
  events = Closed link ∷ [];
  taken = subst (λ b. MatchBool b (IsHeard name before link bytes (Closed link ∷ [])) (◌≡◌ {A = List Event} (Closed link ∷ []) (Closed link ∷ []))) (sym off) refl;
  sound = closed_sound name before link s;
}

-- the end of a link's input
ended_taken : (name : List ℕ) (before : List Event) (link : ℕ) → Sound name before → (b : Bool) → is_open_after name before link ≡ b → Takes name before (End link)
ended_taken name before link s true on = go (ends_exist (heard before link) (s.viable link on))
  where
    by : (event : Event) → IsEnded before link (event ∷ []) → IsOf link event → calls_at (space_after name before) event ≡ calls_with (space_after name before) (Some (call.End link))
        → Takes name before (End link)
    by event is of_ calls = record {
      events = event ∷ [];
      taken = subst (λ b. MatchBool b (IsEnded before link (event ∷ [])) (event ∷ [] ≡ Closed link ∷ [])) (sym on) is;
      sound = sound_on name before (event ∷ []) s link on (of_, tt) (λ now. absurd (false≢true (sym (closes name before link event calls on) ∙ now)));
    }

    go : ((messages : List Placed) × Stream (heard before link) messages) ⊎ ((start : ℕ) × IsInside (heard before link) start) → Takes name before (End link)
    go (inl (messages, stream)) = by (Ends link) (inl (messages, stream, refl)) refl refl
    go (inr (start, inside)) = by (Stops link (Cut start)) (inr (start, inside, refl)) refl refl
ended_taken name before link s false off = record {
  events = Closed link ∷ [];
  taken = subst (λ b. MatchBool b (IsEnded before link (Closed link ∷ [])) (◌≡◌ {A = List Event} (Closed link ∷ []) (Closed link ∷ []))) (sym off) refl;
  sound = closed_sound name before link s;
}

takes : (name : List ℕ) (before : List Event) (entry : Entry) → Sound name before → Takes name before entry
takes name before NewLink s = new_taken name before s (is_full (space_after name before).links) refl
takes name before (Bytes link bytes) s = heard_taken name before link bytes s (is_open_after name before link) refl
takes name before (End link) s = ended_taken name before link s (is_open_after name before link) refl

-- entries after others are taken as some events
taken_after : (name : List ℕ) (entries : List Entry) (before : List Event) → Sound name before → (events : List Event) × AreTakenAfter name before entries events
taken_after name [] before s = ([], refl)
taken_after name (entry ∷ entries) before s =
    let t = takes name before entry s in
    let others = taken_after name entries (before ++ t.events) t.sound in
    (t.events ++ others.0, (t.events, others.0, refl, t.taken, others.1))

pub entries_taken : (name : List ℕ) (entries : List Entry) → (events : List Event) × AreTaken name entries events
entries_taken name entries = taken_after name entries [] (sound_first name)

-- some output is written for each input
pub outputs_exist : (name input : List ℕ) → (output : List ℕ) × IsOutput name input output
outputs_exist name input =
    let s = splits_exist input in
    let place = places_exist input in
    let t = entries_taken name s.0 in
    (answers name t.0 ++ farewell name t.0 place.0 s.1, (s.0, s.1, t.0, place.0, s.2, place.1, t.1, refl))
