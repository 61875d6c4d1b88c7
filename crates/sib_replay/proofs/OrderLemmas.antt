-- The messages that are written for a link are those that were sent on it.
use Rattle.std.proofs.Common.{◌≡◌, ◌∙◌, ap, sym, refl, subst, ℕ, ◌+◌, ◌==◌, Bool, true, false, cond, List, [], ◌∷◌, ◌++◌, length, map, replicate, Option, Some, None, append_assoc, append-nil}
use Rattle.std.specs.List.{flat_map}
use Rattle.std.proofs.lemmas.Grind.{flat_map-append}
use Rattle.link_table.specs.Links.{Link, link_at, pending_of, pending_or_none, state_or_never, state_of}
use Rattle.session_core.specs.Space.{Space, empty_space}
use Rattle.session_core.specs.Steps.{step}
use Rattle.session_core.specs.Runs.{run_from, run, sent, taken, taken_by, taken_from, message_in, loses}
use Rattle.session_core.specs.declared.call.Call.{Call}
use Rattle.session_core.specs.declared.call.Call.TheVariants.{NewLink, Deliver, End, Lost, Take}
use Rattle.session_core.specs.declared.call.Reply.{Reply}
use Rattle.session_core.specs.declared.call.Reply.TheVariants.{Opened, TooManyLinks, Done, Closed as NotOpen, NoLink, Message, Empty, Over}
use Rattle.session_core.proofs.Sending.{sent_taken_waiting}
use Rattle.sib_replay.specs.Lines.{Line, Sends, Halts, Finds, Full, line_bytes, message_on, messages_on, MessagesAreSent}
use Rattle.sib_replay.specs.Output.{Event, Opens, Hears, Arrives, Stops, Ends, Closed, calls_at, calls_from, takes, ring_of, history, space_from, space_after, message_lines, stop_lines, stop_at, link_lines, reply_lines, event_lines, reason_of, answer, answers_after}
use Rattle.sib_replay.specs.Session.{AreRising}
use Rattle.sib_replay.specs.declared.why.Why.{Why}
use Rattle.sib_replay.proofs.TakeLemmas.{all_of, all_still, takes_still, take_reply, take_pending}
use Rattle.sib_replay.proofs.CallLemmas.{reply_rises}
use Rattle.sib_replay.proofs.EventLemmas.{space-push, spaces_run, space_drained}

-- what calls take, and then others
taken_from-append : (space : Space) (calls others : List Call) (n : ℕ) → taken_from space (calls ++ others) n ≡ taken_from space calls n ++ taken_from (run_from space calls) others n
taken_from-append space [] others n = refl
taken_from-append space (call ∷ calls) others n =
    ap (λ l. taken_by space call n ++ l) (taken_from-append (step space call).space calls others n)
    ∙ sym (append_assoc (taken_by space call n) (taken_from (step space call).space calls n) (taken_from (run_from (step space call).space calls) others n))

-- one message more, on a link or another
one_more : (b : Bool) (m : List ℕ) (p : List (List ℕ)) → cond b (m ∷ []) [] ++ cond b p [] ≡ cond b (m ∷ p) []
one_more true m p = refl
one_more false m p = refl

none_either : (b : Bool) → ◌≡◌ {A = List (List ℕ)} [] (cond b [] [])
none_either true = refl
none_either false = refl

-- what is taken where all that waits on a link is
all_taken : (space : Space) (link n : ℕ) → taken_from space (all_of space link) n ≡ cond (link == n) (pending_of space.links link) []
all_taken space link n = go (pending_of space.links link) space refl
  where
    go : (p : List (List ℕ)) (s : Space) → pending_of s.links link ≡ p → taken_from s (all_of s link) n ≡ cond (link == n) (pending_of s.links link) []
    go [] s e = ap (λ l. taken_from s (replicate (length l) (Take link)) n) e ∙ none_either (link == n) ∙ ap (λ l. cond (link == n) l []) (sym e)
    go (m ∷ p) s e =
        let next : Space = (step s (Take link)).space in
        let left = take_pending s link m p e in
        ap (λ l. taken_from s (replicate (length l) (Take link)) n) e
        ∙ ap (λ r. cond (link == n) (message_in r) [] ++ taken_from next (replicate (length p) (Take link)) n) (take_reply s link m p e)
        ∙ ap (λ l. cond (link == n) (m ∷ []) [] ++ taken_from next (replicate (length l) (Take link)) n) (sym left)
        ∙ ap (λ l. cond (link == n) (m ∷ []) [] ++ l) (go p next left ∙ ap (λ l. cond (link == n) l []) left)
        ∙ one_more (link == n) m p ∙ ap (λ l. cond (link == n) l []) (sym e)

-- the lines for a link that a call was told of
stop_items : ℕ → Option Why → List Line
stop_items link None = []
stop_items link (Some why) = Halts link why ∷ []

abbrev of_link : (ℕ → Option Why) → ℕ → Option Link → List Line
of_link reason link o = map (Sends link) (pending_or_none o) ++ stop_items link (stop_at (state_or_never o) (reason link))

abbrev link_items : Space → (ℕ → Option Why) → ℕ → List Line
link_items space reason link = of_link reason link (link_at space.links link)

-- their bytes
message_bytes : (link : ℕ) (p : List (List ℕ)) → flat_map line_bytes (map (Sends link) p) ≡ flat_map (message_lines link) p
message_bytes link [] = refl
message_bytes link (m ∷ p) = ap (λ l. message_lines link m ++ l) (message_bytes link p)

stop_bytes : (link : ℕ) (o : Option Why) → flat_map line_bytes (stop_items link o) ≡ stop_lines link o
unfolding stop_items
stop_bytes link None = refl
stop_bytes link (Some why) = append-nil (stop_lines link (Some why))

bytes-append : (xs ys : List Line) → flat_map line_bytes (xs ++ ys) ≡ flat_map line_bytes xs ++ flat_map line_bytes ys
bytes-append xs ys = flat_map-append line_bytes xs ys

link_bytes : (space : Space) (reason : ℕ → Option Why) (link : ℕ) → flat_map line_bytes (link_items space reason link) ≡ link_lines space reason link
link_bytes space reason link =
    let p : List (List ℕ) = pending_of space.links link in
    let stop : Option Why = stop_at (state_of space.links link) (reason link) in
    bytes-append (map (Sends link) p) (stop_items link stop)
    ∙ ap (λ l. l ++ flat_map line_bytes (stop_items link stop)) (message_bytes link p) ∙ ap (λ l. flat_map (message_lines link) p ++ l) (stop_bytes link stop)

ring_bytes : (space : Space) (reason : ℕ → Option Why) (ring : List ℕ) → flat_map line_bytes (flat_map (link_items space reason) ring) ≡ flat_map (link_lines space reason) ring
ring_bytes space reason [] = refl
ring_bytes space reason (link ∷ ring) =
    bytes-append (link_items space reason link) (flat_map (link_items space reason) ring)
    ∙ ap (λ l. l ++ flat_map line_bytes (flat_map (link_items space reason) ring)) (link_bytes space reason link)
    ∙ ap (λ l. link_lines space reason link ++ l) (ring_bytes space reason ring)

-- their messages
on-append : (n : ℕ) (xs ys : List Line) → messages_on n (xs ++ ys) ≡ messages_on n xs ++ messages_on n ys
on-append n xs ys = flat_map-append (message_on n) xs ys

messages_here : (link n : ℕ) (p : List (List ℕ)) → messages_on n (map (Sends link) p) ≡ cond (link == n) p []
messages_here link n [] = none_either (link == n)
messages_here link n (m ∷ p) = ap (λ l. cond (link == n) (m ∷ []) [] ++ l) (messages_here link n p) ∙ one_more (link == n) m p

no_messages : (link n : ℕ) (o : Option Why) → messages_on n (stop_items link o) ≡ []
unfolding stop_items
no_messages link n None = refl
no_messages link n (Some why) = refl

link_messages : (space : Space) (reason : ℕ → Option Why) (link n : ℕ) → messages_on n (link_items space reason link) ≡ taken_from space (all_of space link) n
link_messages space reason link n =
    let p : List (List ℕ) = pending_of space.links link in
    let stop : Option Why = stop_at (state_of space.links link) (reason link) in
    on-append n (map (Sends link) p) (stop_items link stop) ∙ ap (λ l. messages_on n (map (Sends link) p) ++ l) (no_messages link n stop)
    ∙ append-nil (messages_on n (map (Sends link) p)) ∙ messages_here link n p ∙ sym (all_taken space link n)

ring_messages : (space : Space) (reason : ℕ → Option Why) (least : ℕ) (ring : List ℕ) (n : ℕ) → AreRising least ring
    → messages_on n (flat_map (link_items space reason) ring) ≡ taken_from space (takes space ring) n
ring_messages space reason least [] n rises = refl
ring_messages space reason least (link ∷ ring) n rises =
    let next : Space = run_from space (all_of space link) in
    let still : flat_map (link_items next reason) ring ≡ flat_map (link_items space reason) ring = all_still space link (of_link reason) ring rises.1 in
    on-append n (link_items space reason link) (flat_map (link_items space reason) ring)
    ∙ ap (λ l. l ++ messages_on n (flat_map (link_items space reason) ring)) (link_messages space reason link n)
    ∙ ap (λ l. taken_from space (all_of space link) n ++ messages_on n l) (sym still)
    ∙ ap (λ l. taken_from space (all_of space link) n ++ l) (ring_messages next reason (link + 1) ring n rises.1 ∙ ap (λ l. taken_from next l n) (takes_still space link ring rises.1))
    ∙ sym (taken_from-append space (all_of space link) (takes space ring) n)

-- the lines for a reply
reply_items : (ℕ → Option Why) → Space → Reply → List Line
reply_items reason space (Done ring) = flat_map (link_items space reason) ring
reply_items reason space (TooManyLinks count) = Full count ∷ []
reply_items reason space (Opened link) = []
reply_items reason space NotOpen = []
reply_items reason space NoLink = []
reply_items reason space (Message message) = []
reply_items reason space Empty = []
reply_items reason space Over = []

reply_bytes : (reason : ℕ → Option Why) (space : Space) (reply : Reply) → flat_map line_bytes (reply_items reason space reply) ≡ reply_lines reason space reply
unfolding reply_items
reply_bytes reason space (Done ring) = ring_bytes space reason ring
reply_bytes reason space (TooManyLinks count) = append-nil (reply_lines reason space (TooManyLinks count))
reply_bytes reason space (Opened link) = refl
reply_bytes reason space NotOpen = refl
reply_bytes reason space NoLink = refl
reply_bytes reason space (Message message) = refl
reply_bytes reason space Empty = refl
reply_bytes reason space Over = refl

reply_messages : (reason : ℕ → Option Why) (space : Space) (reply : Reply) (n : ℕ) → ((ring : List ℕ) → reply ≡ Done ring → AreRising 1 ring)
    → messages_on n (reply_items reason space reply) ≡ taken_from space (takes space (ring_of reply)) n
unfolding reply_items
reply_messages reason space (Done ring) n rises = ring_messages space reason 1 ring n (rises ring refl)
reply_messages reason space (TooManyLinks count) n rises = refl
reply_messages reason space (Opened link) n rises = refl
reply_messages reason space NotOpen n rises = refl
reply_messages reason space NoLink n rises = refl
reply_messages reason space (Message message) n rises = refl
reply_messages reason space Empty n rises = refl
reply_messages reason space Over n rises = refl

-- the lines for an event
items_at : Space → Event → List Line
items_at space Opens = reply_items (reason_of Opens) (step space NewLink).space (step space NewLink).reply
items_at space (Hears link bytes) = []
items_at space (Arrives link place arrived) = reply_items (reason_of (Arrives link place arrived)) (step space (Deliver link arrived)).space (step space (Deliver link arrived)).reply
items_at space (Stops link why) = reply_items (reason_of (Stops link why)) (step space (End link)).space (step space (End link)).reply
items_at space (Ends link) = reply_items (reason_of (Ends link)) (step space (End link)).space (step space (End link)).reply
items_at space (Closed link) = Finds link ∷ []

event_bytes : (space : Space) (event : Event) → flat_map line_bytes (items_at space event) ≡ event_lines space event
unfolding items_at
event_bytes space Opens = reply_bytes (reason_of Opens) (step space NewLink).space (step space NewLink).reply
event_bytes space (Hears link bytes) = refl
event_bytes space (Arrives link place arrived) = reply_bytes (reason_of (Arrives link place arrived)) (step space (Deliver link arrived)).space (step space (Deliver link arrived)).reply
event_bytes space (Stops link why) = reply_bytes (reason_of (Stops link why)) (step space (End link)).space (step space (End link)).reply
event_bytes space (Ends link) = reply_bytes (reason_of (Ends link)) (step space (End link)).space (step space (End link)).reply
event_bytes space (Closed link) = append-nil (event_lines space (Closed link))

event_messages : (space : Space) (event : Event) (n : ℕ) → messages_on n (items_at space event) ≡ taken_from space (calls_at space event) n
unfolding items_at
event_messages space Opens n = reply_messages (reason_of Opens) (step space NewLink).space (step space NewLink).reply n (reply_rises space NewLink)
event_messages space (Hears link bytes) n = refl
event_messages space (Arrives link place arrived) n =
    reply_messages (reason_of (Arrives link place arrived)) (step space (Deliver link arrived)).space (step space (Deliver link arrived)).reply n (reply_rises space (Deliver link arrived))
event_messages space (Stops link why) n = reply_messages (reason_of (Stops link why)) (step space (End link)).space (step space (End link)).reply n (reply_rises space (End link))
event_messages space (Ends link) n = reply_messages (reason_of (Ends link)) (step space (End link)).space (step space (End link)).reply n (reply_rises space (End link))
event_messages space (Closed link) n = refl

-- the lines for events
pub items_from : Space → List Event → List Line
items_from space [] = []
items_from space (event ∷ events) = items_at space event ++ items_from (run_from space (calls_at space event)) events

pub answers_bytes : (name : List ℕ) (before events : List Event) → answers_after name before events ≡ flat_map line_bytes (items_from (space_after name before) events)
unfolding items_from
answers_bytes name before [] = refl
answers_bytes name before (event ∷ events) =
    let space : Space = space_after name before in
    ap (λ l. answer name before event ++ l) (answers_bytes name (before ++ event ∷ []) events ∙ ap (λ s. flat_map line_bytes (items_from s events)) (space-push name before event))
    ∙ ap (λ l. l ++ flat_map line_bytes (items_from (run_from space (calls_at space event)) events)) (sym (event_bytes space event))
    ∙ sym (bytes-append (items_at space event) (items_from (run_from space (calls_at space event)) events))

-- the lines for some events and then for more
pub items_from-append : (space : Space) (vs ws : List Event) → items_from space (vs ++ ws) ≡ items_from space vs ++ items_from (space_from space vs) ws
unfolding items_from
items_from-append space [] ws = refl
items_from-append space (event ∷ events) ws =
    let next : Space = run_from space (calls_at space event) in
    ap (λ l. items_at space event ++ l) (items_from-append next events ws)
    ∙ sym (append_assoc (items_at space event) (items_from next events) (items_from (space_from next events) ws))

items_messages : (space : Space) (events : List Event) (n : ℕ) → messages_on n (items_from space events) ≡ taken_from space (calls_from space events) n
unfolding items_from
items_messages space [] n = refl
items_messages space (event ∷ events) n =
    let next : Space = run_from space (calls_at space event) in
    on-append n (items_at space event) (items_from next events) ∙ ap (λ l. l ++ messages_on n (items_from next events)) (event_messages space event n)
    ∙ ap (λ l. taken_from space (calls_at space event) n ++ l) (items_messages next events n) ∙ sym (taken_from-append space (calls_at space event) (calls_from next events) n)

-- no event loses a link
loses-both : (calls others : List Call) (n : ℕ) → loses calls n ≡ false → loses others n ≡ false → loses (calls ++ others) n ≡ false
loses-both [] others n p q = q
loses-both (NewLink ∷ calls) others n p q = loses-both calls others n p q
loses-both (Deliver link arrived ∷ calls) others n p q = loses-both calls others n p q
loses-both (End link ∷ calls) others n p q = loses-both calls others n p q
loses-both (Take link ∷ calls) others n p q = loses-both calls others n p q
loses-both (Lost link ∷ calls) others n p q =
    elim (link == n) as (λ b. cond b true (loses calls n) ≡ false → cond b true (loses (calls ++ others) n) ≡ false) [ true ↦ λ h. h | false ↦ λ h. loses-both calls others n h q ] p

takes_lose_none : (link k n : ℕ) → loses (replicate k (Take link)) n ≡ false
takes_lose_none link Rattle.std.proofs.Common.zero n = refl
takes_lose_none link (Rattle.std.proofs.Common.suc k) n = takes_lose_none link k n

ring_loses_none : (space : Space) (ring : List ℕ) (n : ℕ) → loses (takes space ring) n ≡ false
ring_loses_none space [] n = refl
ring_loses_none space (link ∷ ring) n = loses-both (all_of space link) (takes space ring) n (takes_lose_none link (length (pending_of space.links link)) n) (ring_loses_none space ring n)

event_loses_none : (space : Space) (event : Event) (n : ℕ) → loses (calls_at space event) n ≡ false
event_loses_none space Opens n = ring_loses_none (step space NewLink).space (ring_of (step space NewLink).reply) n
event_loses_none space (Hears link bytes) n = refl
event_loses_none space (Arrives link place arrived) n = ring_loses_none (step space (Deliver link arrived)).space (ring_of (step space (Deliver link arrived)).reply) n
event_loses_none space (Stops link why) n = ring_loses_none (step space (End link)).space (ring_of (step space (End link)).reply) n
event_loses_none space (Ends link) n = ring_loses_none (step space (End link)).space (ring_of (step space (End link)).reply) n
event_loses_none space (Closed link) n = refl

events_lose_none : (space : Space) (events : List Event) (n : ℕ) → loses (calls_from space events) n ≡ false
events_lose_none space [] n = refl
events_lose_none space (event ∷ events) n =
    loses-both (calls_at space event) (calls_from (run_from space (calls_at space event)) events) n (event_loses_none space event n) (events_lose_none (run_from space (calls_at space event)) events n)

-- their messages on a link are those that were sent there
pub items_sent : (name : List ℕ) (events : List Event) (link : ℕ) → messages_on link (items_from (empty_space name) events) ≡ sent name (history name events) link
items_sent name events link =
    let calls : List Call = history name events in
    let waits : pending_of (run name calls).links link ≡ [] = ap (λ (s : Space). pending_of s.links link) (sym (spaces_run name events)) ∙ space_drained name events link in
    items_messages (empty_space name) events link
    ∙ sym (append-nil (taken name calls link)) ∙ ap (λ l. taken name calls link ++ l) (sym waits)
    ∙ sym (sent_taken_waiting name calls link (events_lose_none (empty_space name) events link))

-- the messages of the answers are those that were sent
pub messages_are_sent : MessagesAreSent
messages_are_sent name events = (items_from (empty_space name) events, answers_bytes name [] events, items_sent name events)
