-- What is taken from a link by one seat alone: the messages in the replies to its calls.
use Rattle.std.proofs.Common.{◌≡◌, ◌∙◌, ap, sym, refl, subst, ℕ, Bool, true, false, ◌==◌, if◌then◌else◌, List, [], ◌∷◌, ◌++◌, append_assoc, append-nil, eq-eqb}
use Rattle.std.proofs.lemmas.List.{map-append, append_cancel_left, same_from_push}
use Rattle.std.proofs.lemmas.Grind.{flat_map-append}
use mathlib.Core.List.{IsPrefix}
use mathlib.Core.Bool.{true≢false}
use Rattle.space_turn.specs.declared.view.Entry.{Entry}
use Rattle.space_turn.specs.Histories.{entry, calls_of, calls_by}
use Rattle.space_turn.specs.Sights.{IsSameSeat, HasSameHistory, HasCalled}
use Rattle.space_turn.proofs.CallsOfANumber.{calls_by-append, calls_by-own}
use Rattle.link_table.specs.Links.{changed, lost, state_of}
use Rattle.link_table.specs.declared.state.LinkState.{LinkState}
use Rattle.link_table.specs.declared.state.LinkState.TheVariants as state
use Rattle.session_core.specs.Space.{Space, empty_space}
use Rattle.session_core.specs.Queues.{with_links}
use Rattle.session_core.specs.Steps.{step, on_opened}
use Rattle.session_core.specs.Opened.{takes, NoneTakes}
use Rattle.session_core.specs.Runs.{run, reply_to, message_in, taken, taken_by, taken_from}
use Rattle.session_core.specs.declared.call.Call.{Call}
use Rattle.session_core.specs.declared.call.Call.TheVariants as call
use Rattle.session_core.specs.declared.call.Reply.{Reply}
use Rattle.session_core.proofs.TakesAddUp.{taken_from-append, none_taken}
use Rattle.space_shared.specs.Exchanges.{SeatSight, Exchange, exchange}
use Rattle.space_shared.specs.Output.{messages_in, OnlySeatTakes}
use Rattle.space_shared.specs.Pumping.{HasAllTaken}

-- an entry whose seat alone takes, where that seat's calls take nothing
first_none : (link number : ℕ) (one : Entry Call) (calls : List Call) (does own : Bool) → takes link one.call ≡ does → (one.seat == number) ≡ own
    → (does ≡ true → one.seat ≡ number) → NoneTakes link (if own then one.call ∷ calls else calls)
    → (does ≡ false) × NoneTakes link calls
first_none link number one calls false true t o only none = (refl, none.1)
first_none link number one calls false false t o only none = (refl, none)
first_none link number one calls true true t o only none = (sym t ∙ none.0, none.1)
first_none link number one calls true false t o only none = absurd (true≢false (sym (eq-eqb one.seat number (only refl)) ∙ o))

-- where one seat alone takes from the link, and no call of it does, no call does
pub none_takes : (link number : ℕ) (history : List (Entry Call)) → OnlySeatTakes link number history → NoneTakes link (calls_by number history) → NoneTakes link (calls_of history)
none_takes link number [] only none = tt
none_takes link number (one ∷ history) (first, rest) none =
    let both = first_none link number one (calls_by number history) (takes link one.call) (one.seat == number) refl refl first none in
    (both.0, none_takes link number history rest both.1)

only_front : (link number : ℕ) (history more : List (Entry Call)) → OnlySeatTakes link number (history ++ more) → OnlySeatTakes link number history
only_front link number [] more only = tt
only_front link number (one ∷ history) more (first, rest) = (first, only_front link number history more rest)

only_back : (link number : ℕ) (history more : List (Entry Call)) → OnlySeatTakes link number (history ++ more) → OnlySeatTakes link number more
only_back link number [] more only = only
only_back link number (one ∷ history) more (first, rest) = only_back link number history more rest

-- before a seat's first call nothing was taken
pub nothing_taken : (link : ℕ) (first : SeatSight) → HasAllTaken link first [] first
nothing_taken link first history begins own only none =
    none_taken (empty_space first.root) (calls_of history) link (none_takes link first.number history only (subst (NoneTakes link) own none))

-- a seat that looked and saw no more
pub still_taken : (link : ℕ) (first now new : SeatSight) (said : List Exchange) → HasAllTaken link first said now → IsSameSeat now new → HasSameHistory now new
    → HasAllTaken link first said new
still_taken link first now new said all same stays history begins own only none =
    ap (λ r. taken r (calls_of history) link) same.1
    ∙ all history (subst (λ s. IsPrefix s history) stays.0 begins) (sym stays.1 ∙ own ∙ ap (λ n. calls_by n history) same.2)
    (subst (λ n. OnlySeatTakes link n history) same.2 only) none

-- a call takes from the link just the message of its reply
abbrev pub TakesItsReply : ℕ → Call → Type 0
TakesItsReply link one = (space : Space) → taken_by space one link ≡ message_in (step space one).reply

if_same : (b : Bool) (messages : List (List ℕ)) → b ≡ true → (if b then messages else []) ≡ messages
if_same true messages e = refl
if_same false messages e = absurd (true≢false (sym e))

pub take_takes : (link : ℕ) → TakesItsReply link (call.Take link)
take_takes link space = if_same (link == link) (message_in (step space (call.Take link)).reply) (eq-eqb link link refl)

-- that a link is lost is answered without a message, and takes none
lost_without : (state : LinkState) (old new : Space) → [] ≡ message_in (on_opened state old new).reply
lost_without state.Never old new = refl
lost_without state.Open old new = refl
lost_without state.Ended old new = refl
lost_without state.Overrun old new = refl
lost_without state.Gone old new = refl

pub lost_takes : (link : ℕ) → TakesItsReply link (call.Lost link)
lost_takes link space = lost_without (state_of space.links link) space (with_links space (changed lost space.links link))

pub messages_more : (said : List Exchange) (one : Exchange) → messages_in (said ++ one ∷ []) ≡ messages_in said ++ message_in one.reply
messages_more said one =
    flat_map-append (λ (e : Exchange). message_in e.reply) said (one ∷ []) ∙ ap (λ l. messages_in said ++ l) (append-nil (message_in one.reply))

-- what is taken in a history with one call behind it, and others that take nothing
taken_behind : (name : List ℕ) (link : ℕ) (before gap : List (Entry Call)) (number : ℕ) (one : Call) → TakesItsReply link one → NoneTakes link (calls_of gap)
    → taken name (calls_of ((before ++ entry number one ∷ []) ++ gap)) link ≡ taken name (calls_of before) link ++ message_in (reply_to name (calls_of before) one)
taken_behind name link before gap number one takes none =
    let space = run name (calls_of before) in
    let rest : taken_from space (one ∷ calls_of gap) link ≡ message_in (step space one).reply =
    ap (λ l. taken_by space one link ++ l) (none_taken (step space one).space (calls_of gap) link none) ∙ append-nil (taken_by space one link) ∙ takes space
    in
    ap (λ h. taken name (calls_of h) link) (append_assoc before (entry number one ∷ []) gap)
    ∙ ap (λ l. taken name l link) (map-append (λ (e : Entry Call). e.call) before (entry number one ∷ gap))
    ∙ taken_from-append (empty_space name) (calls_of before) (one ∷ calls_of gap) link
    ∙ ap (λ l. taken name (calls_of before) link ++ l) rest

nothing_more : (xs ys : List Call) → xs ≡ xs ++ ys → ys ≡ []
nothing_more xs ys e = sym (append_cancel_left xs [] ys (append-nil xs ∙ e))

-- after one call more the messages in the replies are still all that was taken
pub all_taken : (link : ℕ) (first now new : SeatSight) (said : List Exchange) (one : Call) (reply : Reply) → HasAllTaken link first said now
    → IsSameSeat now new → HasCalled reply_to now one reply new → new.mine ≡ calls_by new.number new.seen → TakesItsReply link one
    → HasAllTaken link first (said ++ exchange one reply ∷ []) new
all_taken link first now new said one reply told same (before, begins, seen, mine, due, found) own takes history (gap, split) new_own only none =
    let last : List (Entry Call) = entry now.number one ∷ [] in
    let whole : history ≡ (before ++ last) ++ gap = sym split ∙ ap (λ h. h ++ gap) seen in
    let here : calls_by new.number new.seen ≡ calls_by now.number before ++ one ∷ [] =
    ap (λ n. calls_by n new.seen) same.2 ∙ ap (calls_by now.number) seen ∙ calls_by-own now.number before one
    in
    let before_own : now.mine ≡ calls_by now.number before = (same_from_push now.mine (calls_by now.number before) one one (sym mine ∙ own ∙ here)).0 in
    let gap_own : calls_by now.number gap ≡ [] =
    nothing_more (calls_by now.number (before ++ last)) (calls_by now.number gap)
    (calls_by-own now.number before one ∙ sym here ∙ sym own ∙ new_own ∙ ap (λ n. calls_by n history) same.2 ∙ ap (calls_by now.number) whole
    ∙ calls_by-append now.number (before ++ last) gap)
    in
    let only_whole : OnlySeatTakes link now.number ((before ++ last) ++ gap) = subst (OnlySeatTakes link now.number) whole (subst (λ n. OnlySeatTakes link n history) same.2 only) in
    let gap_none : NoneTakes link (calls_of gap) =
    none_takes link now.number gap (only_back link now.number (before ++ last) gap only_whole) (subst (NoneTakes link) (sym gap_own) tt)
    in
    let before_taken : taken now.root (calls_of before) link ≡ messages_in said =
    told before begins before_own (only_front link now.number before last (only_front link now.number (before ++ last) gap only_whole)) none
    in
    ap (λ r. taken r (calls_of history) link) same.1
    ∙ ap (λ h. taken now.root (calls_of h) link) whole
    ∙ taken_behind now.root link before gap now.number one takes gap_none
    ∙ ap (λ l. l ++ message_in (reply_to now.root (calls_of before) one)) before_taken
    ∙ ap (λ r. messages_in said ++ message_in r) (sym due)
    ∙ sym (messages_more said (exchange one reply))
