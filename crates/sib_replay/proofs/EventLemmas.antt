-- What events do to a space, and to what is known of its links.
use Rattle.std.proofs.Common.{◌≡◌, ◌≢◌, ◌∙◌, ap, sym, refl, subst, arith, ℕ, ◌+◌, ◌==◌, Bool, true, false, cond, List, [], ◌∷◌, ◌++◌, length, Option, Some, None, append_assoc, append-nil, inl, inr, ⊎_elim}
use Rattle.std.specs.List.{AllByRecursion}
use Rattle.std.specs.Prelude.{nat_le}
use Rattle.std.proofs.lemmas.Bool.{cases_eq}
use Rattle.std.proofs.lemmas.Bool.Decides.{eqb_tells}
use Rattle.link_table.specs.Links.{Link, new_link, is_full, pending_of, pending_or_none}
use Rattle.std.proofs.lemmas.Grind.{flat_map-append}
use Rattle.std.proofs.lemmas.List.Sums.{sum_by-append, sum_by-cons}
use Rattle.ssap_grammar.specs.Stream.{Placed}
use Rattle.session_core.specs.Space.{Space, empty_space}
use Rattle.session_core.specs.Runs.{run_from, run}
use Rattle.sib_replay.specs.Output.{Event, Opens, Hears, Arrives, Stops, Ends, Closed, calls_at, calls_from, history, space_from, space_after, is_open_after, brought_on, arrives_on, heard, arrived_on, answer, answers_after, event_lines, event_rows, rows_from, rows_after, GoesOn, AreArrived}
use Rattle.sib_replay.specs.Session.{IsDrained}
use Rattle.session_core.specs.Reads.{costs}
use Rattle.sib_replay.specs.Doing.{Seen, Does, DoesPart}
use Rattle.sib_replay.proofs.DoingLemmas.{does_both, does_as, part_more, then_part}
use Rattle.sib_replay.proofs.TakeLemmas.{run_from-append, costs-append}
use Rattle.sib_replay.proofs.LinkLemmas.{at_opened, at_before}
use Rattle.sib_replay.proofs.CallLemmas.{Leaves, leaves_same, leaves_both, deliver_leaves, end_leaves, opens, opens_not}

-- numbers that differ are told apart
pub ne-eqb : (a b : ℕ) → a ≢ b → (a == b) ≡ false
ne-eqb a b h = elim (eqb_tells a b) as (λ _. (a == b) ≡ false) [ inl told ↦ absurd (h told.1) | inr off ↦ off.0 ]

-- some events and then others
space_from-append : (space : Space) (before vs : List Event) → space_from space (before ++ vs) ≡ space_from (space_from space before) vs
space_from-append space [] vs = refl
space_from-append space (v ∷ before) vs = space_from-append (run_from space (calls_at space v)) before vs

pub space-append : (name : List ℕ) (before vs : List Event) → space_after name (before ++ vs) ≡ space_from (space_after name before) vs
space-append name before vs = space_from-append (empty_space name) before vs

-- one event more
pub space-push : (name : List ℕ) (before : List Event) (v : Event) → space_after name (before ++ v ∷ []) ≡ run_from (space_after name before) (calls_at (space_after name before) v)
space-push name before v = space-append name before (v ∷ [])

-- the space behind events is the space behind their calls
space_runs : (space : Space) (events : List Event) → space_from space events ≡ run_from space (calls_from space events)
space_runs space [] = refl
space_runs space (v ∷ events) =
    space_runs (run_from space (calls_at space v)) events
    ∙ sym (run_from-append space (calls_at space v) (calls_from (run_from space (calls_at space v)) events))

pub spaces_run : (name : List ℕ) (events : List Event) → space_after name events ≡ run name (history name events)
spaces_run name events = space_runs (empty_space name) events

-- an event is of this link
abbrev pub IsOf : ℕ → Event → Type 0
IsOf link Opens = ⊥
IsOf link (Hears other bytes) = other ≡ link
IsOf link (Arrives other place arrived) = other ≡ link
IsOf link (Stops other why) = other ≡ link
IsOf link (Ends other) = other ≡ link
IsOf link (Closed other) = other ≡ link

-- it opens no link
pub event_leaves : (space : Space) (link : ℕ) (v : Event) → IsDrained space → IsOf link v → Leaves space (run_from space (calls_at space v))
event_leaves space link Opens drained h = absurd h
event_leaves space link (Hears other bytes) drained h = leaves_same space drained
event_leaves space link (Arrives other place arrived) drained h = deliver_leaves space other arrived drained
event_leaves space link (Stops other why) drained h = end_leaves space other drained
event_leaves space link (Ends other) drained h = end_leaves space other drained
event_leaves space link (Closed other) drained h = leaves_same space drained

-- no message waits behind an event where none did before
event_drained : (space : Space) (v : Event) → IsDrained space → IsDrained (run_from space (calls_at space v))
event_drained space Opens drained = go (is_full space.links) refl
  where
    go : (full : Bool) → is_full space.links ≡ full → IsDrained (run_from space (calls_at space Opens))
    go true e = subst IsDrained (sym (opens_not space e).0) drained
    go false e =
        subst IsDrained (sym (opens space e).0)
        (λ link. ⊎_elim (λ same. subst (λ n. pending_of (space.links ++ new_link ∷ []) n ≡ []) same (ap pending_or_none (at_opened space.links)))
        (λ apart. ap pending_or_none (at_before space.links link (λ e. apart (sym e))) ∙ drained link) (cases_eq (length space.links + 1) link))
event_drained space (Hears link bytes) drained = drained
event_drained space (Arrives link place arrived) drained = (deliver_leaves space link arrived drained).drained
event_drained space (Stops link why) drained = (end_leaves space link drained).drained
event_drained space (Ends link) drained = (end_leaves space link drained).drained
event_drained space (Closed link) drained = drained

-- nor behind any events
drained_from : (space : Space) (events : List Event) → IsDrained space → IsDrained (space_from space events)
drained_from space [] drained = drained
drained_from space (v ∷ events) drained = drained_from (run_from space (calls_at space v)) events (event_drained space v drained)

pub space_drained : (name : List ℕ) (events : List Event) → IsDrained (space_after name events)
space_drained name events = drained_from (empty_space name) events
    (λ link. ap pending_or_none (elim (nat_le 1 link) as (λ b. ◌≡◌ {A = Option Link} (cond b None None) None) [ true ↦ refl | false ↦ refl ]))

-- nor do more
events_leave_from : (space : Space) (link : ℕ) (events : List Event) → IsDrained space → AllByRecursion (IsOf link) events → Leaves space (space_from space events)
events_leave_from space link [] drained h = leaves_same space drained
events_leave_from space link (v ∷ events) drained h =
    let first = event_leaves space link v drained h.0 in
    leaves_both space (run_from space (calls_at space v)) (space_from (run_from space (calls_at space v)) events) first
    (events_leave_from (run_from space (calls_at space v)) link events first.drained h.1)

pub events_leave : (name : List ℕ) (before : List Event) (link : ℕ) (events : List Event) → IsDrained (space_after name before) → AllByRecursion (IsOf link) events
    → Leaves (space_after name before) (space_after name (before ++ events))
events_leave name before link events drained h =
    subst (Leaves (space_after name before)) (sym (space-append name before events)) (events_leave_from (space_after name before) link events drained h)

-- an event and what follows it are of a link
goes_of : (link : ℕ) (v : Event) (b : Bool) (Others : List Event → Type 0) (events : List Event) → IsOf link v → ((others : List Event) → Others others → AllByRecursion (IsOf link) others)
    → GoesOn b v Others events → AllByRecursion (IsOf link) events
goes_of link v true Others events h rest (others, is, more) = subst (AllByRecursion (IsOf link)) (sym is) (h, rest others more)
goes_of link v false Others events h rest is = subst (AllByRecursion (IsOf link)) (sym is) (h, tt)

-- an event and what follows it bring no bytes
goes_quiet : (link : ℕ) (v : Event) (b : Bool) (Others : List Event → Type 0) (events : List Event) → brought_on link v ≡ [] → ((others : List Event) → Others others → heard others link ≡ [])
    → GoesOn b v Others events → heard events link ≡ []
goes_quiet link v true Others events h rest (others, is, more) = ap (λ vs. heard vs link) is ∙ ap (λ l. l ++ heard others link) h ∙ rest others more
goes_quiet link v false Others events h rest is = ap (λ vs. heard vs link) is ∙ ap (λ l. l ++ []) h

-- messages that come on a link are of it
pub arrived_of : (name : List ℕ) (before : List Event) (link : ℕ) (front rest : List ℕ) (messages : List Placed) (events : List Event)
    → AreArrived name before link front rest messages events → AllByRecursion (IsOf link) events
arrived_of name before link front rest [] events (None, stands, is) = subst (AllByRecursion (IsOf link)) (sym is) tt
arrived_of name before link front rest [] events (Some why, stands, is) = subst (AllByRecursion (IsOf link)) (sym is) (refl, tt)
arrived_of name before link front rest (message ∷ messages) events (arrived, shape, goes) =
    goes_of link (Arrives link message.start arrived) (is_open_after name (before ++ Arrives link message.start arrived ∷ []) link)
    (AreArrived name (before ++ Arrives link message.start arrived ∷ []) link front rest messages) events refl
    (λ others more. arrived_of name (before ++ Arrives link message.start arrived ∷ []) link front rest messages others more) goes

-- what comes of messages brings no bytes
pub arrived_quiet : (name : List ℕ) (before : List Event) (link other : ℕ) (front rest : List ℕ) (messages : List Placed) (events : List Event)
    → AreArrived name before other front rest messages events → heard events link ≡ []
arrived_quiet name before link other front rest [] events (None, stands, is) = ap (λ vs. heard vs link) is
arrived_quiet name before link other front rest [] events (Some why, stands, is) = ap (λ vs. heard vs link) is
arrived_quiet name before link other front rest (message ∷ messages) events (arrived, shape, goes) =
    goes_quiet link (Arrives other message.start arrived) (is_open_after name (before ++ Arrives other message.start arrived ∷ []) other)
    (AreArrived name (before ++ Arrives other message.start arrived ∷ []) other front rest messages) events refl
    (λ others more. arrived_quiet name (before ++ Arrives other message.start arrived ∷ []) link other front rest messages others more) goes

module _ (before vs : List Event) where
  -- what came with some events more
  pub heard-append : (link : ℕ) → heard (before ++ vs) link ≡ heard before link ++ heard vs link
  heard-append link = flat_map-append (brought_on link) before vs

  pub arrived-append : (link : ℕ) → arrived_on (before ++ vs) link ≡ arrived_on before link + arrived_on vs link
  arrived-append link = sum_by-append (λ x. cond (arrives_on link x) 1 0) before vs

-- one event and then others
pub arrived-cons : (v : Event) (vs : List Event) (link : ℕ) → arrived_on (v ∷ vs) link ≡ cond (arrives_on link v) 1 0 + arrived_on vs link
arrived-cons v vs link = sum_by-cons (λ x. cond (arrives_on link x) 1 0) v vs

-- an event of a link brings nothing on another, and no message comes there
of_quiet : (link other : ℕ) (v : Event) → link ≢ other → IsOf link v → (brought_on other v ≡ []) × (arrives_on other v ≡ false)
of_quiet link other Opens apart h = absurd h
of_quiet link other (Hears n bytes) apart h = (ap (λ b. cond b bytes []) (ne-eqb n other (λ e. apart (sym h ∙ e))), refl)
of_quiet link other (Arrives n place arrived) apart h = (refl, ne-eqb n other (λ e. apart (sym h ∙ e)))
of_quiet link other (Stops n why) apart h = (refl, refl)
of_quiet link other (Ends n) apart h = (refl, refl)
of_quiet link other (Closed n) apart h = (refl, refl)

pub others_quiet : (link other : ℕ) (events : List Event) → link ≢ other → AllByRecursion (IsOf link) events → (heard events other ≡ []) × (arrived_on events other ≡ 0)
others_quiet link other [] apart h = (refl, refl)
others_quiet link other (v ∷ events) apart h =
    let (bytes, message) = of_quiet link other v apart h.0 in
    let (heard_more, arrived_more) = others_quiet link other events apart h.1 in (
      ap (λ l. l ++ heard events other) bytes ∙ heard_more,
      arrived-cons v events other ∙ ap (λ b. cond b 1 0 + arrived_on events other) message ∙ omega (arith, arrived_more),
    )

-- what is written for some events and then for more
pub answers_after-append : (name : List ℕ) (before vs ws : List Event) → answers_after name before (vs ++ ws) ≡ answers_after name before vs ++ answers_after name (before ++ vs) ws
answers_after-append name before [] ws = ap (λ b. answers_after name b ws) (sym (append-nil before))
answers_after-append name before (v ∷ vs) ws =
    ap (λ l. answer name before v ++ l) (answers_after-append name (before ++ v ∷ []) vs ws
    ∙ ap (λ b. answers_after name (before ++ v ∷ []) vs ++ answers_after name b ws) (append_assoc before (v ∷ []) vs))
    ∙ sym (append_assoc (answer name before v) (answers_after name (before ++ v ∷ []) vs) (answers_after name (before ++ v ∷ vs) ws))

-- and for one more
pub answers-push : (name : List ℕ) (before vs : List Event) (v : Event) → answers_after name before (vs ++ v ∷ []) ≡ answers_after name before vs ++ event_lines (space_after name (before ++ vs)) v
answers-push name before vs v = answers_after-append name before vs (v ∷ []) ∙ ap (λ l. answers_after name before vs ++ l) (append-nil (answer name (before ++ vs) v))

-- the rows of some events and then of more
rows_from-append : (space : Space) (vs ws : List Event) → rows_from space (vs ++ ws) ≡ rows_from space vs + rows_from (space_from space vs) ws
rows_from-append space [] ws = omega arith
rows_from-append space (v ∷ vs) ws =
    let next : Space = run_from space (calls_at space v) in
    let all = costs-append space (calls_at space v) (calls_from next (vs ++ ws)) in
    let first = costs-append space (calls_at space v) (calls_from next vs) in
    let others = rows_from-append next vs ws in
    omega (arith, all, first, others)

pub rows_after-append : (name : List ℕ) (before vs ws : List Event) → rows_after name before (vs ++ ws) ≡ rows_after name before vs + rows_after name (before ++ vs) ws
rows_after-append name before vs ws =
    rows_from-append (space_after name before) vs ws ∙ ap (λ s. rows_after name before vs + rows_from s ws) (sym (space-append name before vs))

-- and of one more
pub rows-push : (name : List ℕ) (before vs : List Event) (v : Event) → rows_after name before (vs ++ v ∷ []) ≡ rows_after name before vs + event_rows (space_after name (before ++ vs)) v
rows-push name before vs v =
    rows_after-append name before vs (v ∷ [])
    ∙ ap (λ l. rows_after name before vs + costs (space_after name (before ++ vs)) l) (append-nil (calls_at (space_after name (before ++ vs)) v))

-- some events were answered, and then one more
pub event_done : (name : List ℕ) (before events : List Event) (event : Event) (space : Space) (a b c : Seen) → space ≡ space_after name (before ++ events)
    → Does a b (answers_after name before events) (rows_after name before events) → Does b c (event_lines space event) (event_rows space event)
    → Does a c (answers_after name before (events ++ event ∷ [])) (rows_after name before (events ++ event ∷ []))
event_done name before events event space a b c is p q =
    let rows = rows-push name before events event in
    let same = ap (λ s. event_rows s event) is in
    does_as a c (answers_after name before events ++ event_lines space event) _ (rows_after name before events + event_rows space event) _
    (ap (λ s. answers_after name before events ++ event_lines s event) is ∙ sym (answers-push name before events event)) (omega (arith, rows, same))
    (does_both a b c (answers_after name before events) (event_lines space event) (rows_after name before events) (event_rows space event) p q)

-- what was done of some events is a part of what is done of more
pub events_front : (name : List ℕ) (before events rest all : List Event) (a b : Seen) → DoesPart a b (answers_after name before events) (rows_after name before events) → all ≡ events ++ rest
    → DoesPart a b (answers_after name before all) (rows_after name before all)
events_front name before events rest all a b p is =
    let rows = rows_after-append name before events rest in
    let same = ap (rows_after name before) is in
    part_more a b (answers_after name before events) (answers_after name (before ++ events) rest) (answers_after name before all) (rows_after name before events) (rows_after name before all) p
    (sym (answers_after-append name before events rest) ∙ ap (answers_after name before) (sym is)) (omega (arith, rows, same))

-- some events were answered, and a part of one more, among all
pub event_part : (name : List ℕ) (before events rest all : List Event) (event : Event) (space : Space) (a b c : Seen) → space ≡ space_after name (before ++ events)
    → Does a b (answers_after name before events) (rows_after name before events) → DoesPart b c (event_lines space event) (event_rows space event) → all ≡ (events ++ event ∷ []) ++ rest
    → DoesPart a c (answers_after name before all) (rows_after name before all)
event_part name before events rest all event space a b c is p q whole =
    let rows = rows-push name before events event in
    let same = ap (λ s. event_rows s event) is in
    events_front name before (events ++ event ∷ []) rest all a c
    (part_more a c (answers_after name before events ++ event_lines space event) [] (answers_after name before (events ++ event ∷ []))
    (rows_after name before events + event_rows space event) (rows_after name before (events ++ event ∷ []))
    (then_part a b c (answers_after name before events) (event_lines space event) (rows_after name before events) (event_rows space event) p q)
    (append-nil (answers_after name before events ++ event_lines space event) ∙ ap (λ s. answers_after name before events ++ event_lines s event) is ∙ sym (answers-push name before events event))
    (omega (arith, rows, same))) whole
