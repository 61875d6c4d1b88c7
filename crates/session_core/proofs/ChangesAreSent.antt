-- The changes that a subscription was told were sent on its link, in their order.
use Rattle.std.proofs.Common.{◌≡◌, ◌⊎◌, ◌<◌, ℕ, ◌+◌, Bool, true, false, not, List, [], ◌∷◌, ◌++◌, length, map, drop, Contains, Option, Some, None, refl, sym, ap, subst, ◌∙◌, inl, inr, arith, if◌then◌else◌, append-nil, append_assoc}
use Rattle.std.proofs.lemmas.List.{drop_at, map-append}
use Rattle.std.proofs.lemmas.List.Elements.{Contains-push_cases}
use mathlib.Core.Logic.{⊎_elim}
use Rattle.m3_terms.specs.InsertedLaws.{was_there}
use Rattle.query_eval.proofs.Counts.{mapped_from}
use Rattle.sparql_algebra.proofs.Gathered.{none_in}
use Rattle.link_table.specs.Links.{new_link, is_open, is_full, state_of, link_at, sent as sent_on, ended, lost, changed, pending_of}
use Rattle.link_table.specs.declared.state.LinkState.{LinkState}
use Rattle.link_table.specs.declared.state.LinkState.TheVariants.{Never, Open, Ended, Overrun, Gone}
use Rattle.ssap_items.specs.declared.heads.Heads.{Heads}
use Rattle.ssap_items.specs.declared.heads.MessageType as message
use Rattle.ssap_items.specs.declared.heads.Transaction as transaction
use Rattle.ssap_shape.specs.declared.reply.Indication.TheVariants.{Changes}
use Rattle.ssap_shape.specs.declared.request.Ask.{Ask}
use Rattle.ssap_shape.specs.declared.request.Ask.TheVariants.{Join, Leave, Update, Query, Subscribe, Unsubscribe}
use Rattle.ssap_shape.specs.declared.request.Request as asked
use Rattle.ssap_shape.specs.declared.request.Arrived.{Arrived}
use Rattle.ssap_shape.specs.declared.request.Arrived.TheVariants.{Request, Wrong, NotRequest}
use Rattle.session_core.specs.Space.{Space, empty_space}
use Rattle.session_core.specs.Subscriptions.{Subscription, Wanted, wanted_by, has_number, numbers_of, indication_bytes, is_of, is_named}
use Rattle.session_core.specs.Requests.{verdict, is_success, granted, subscribed, done_with, due_with, confirm, wrong_status}
use Rattle.session_core.specs.Queues.{queue}
use Rattle.session_core.specs.Following.{Change, told_once_more, follow, follow_with}
use Rattle.session_core.specs.Steps.{delivered, on_open, step}
use Rattle.session_core.specs.Runs.{run, run_from, sent_by, sent_from}
use Rattle.session_core.specs.Watching.{Beginning, changes_by_ask, changes_by_arrived, begun_by, changes_by, changes_from}
use Rattle.session_core.specs.Indicated.{StandAmong, told_bytes, ChangesAreSent}
use Rattle.session_core.specs.declared.call.Call.{Call}
use Rattle.session_core.specs.declared.call.Call.TheVariants as call
use Rattle.session_core.proofs.NumbersDiffer.{HaveOwn, found_there}
use Rattle.session_core.proofs.WhatFollowsHolds.{HoldsOfTelling, queue_holds, granted_holds, follow_holds}
use Rattle.session_core.proofs.Growing.{IsAlike, alike_holds, grant_by, call_grows, name_stays}
use Rattle.session_core.proofs.Told.{done_links}
use Rattle.session_core.proofs.Sending.{extends_same, extends_chain, extends_holds, queued_extends, delivered_extends}
use Rattle.session_core.proofs.ChangesLeadOn.{own_holds}
use Rattle.session_core.proofs.TurnsSend.{SendsMore, ExtendsOn, among_both, none_sent, then_sent, turns_send}
use Rattle.session_core.proofs.SubscriptionsAreFollowed.{Thins, IsWatched, thins_same, thins_links, open_thins, end_thins, lose_thins, found_thins, call_watches, empty_watched}

-- a subscription is an earlier one, but for how often it was told
pub record IsSame (old new : Subscription) : Type 0 where
  pub number : new.number ≡ old.number
  pub link : new.link ≡ old.link
  pub node : new.node ≡ old.node
  pub transaction : new.transaction ≡ old.transaction

same_as : (s : Subscription) → IsSame s s
same_as s = record { number = refl; link = refl; node = refl; transaction = refl }

same_told : (number : ℕ) (s : Subscription) → IsSame s (told_once_more number s)
same_told number s = at (has_number number s)
  where
    at : (b : Bool) → IsSame s (if b then record s { sequence = s.sequence + 1 } else s)
    at true = record { number = refl; link = refl; node = refl; transaction = refl }
    at false = same_as s

-- a subscription comes from one that was there
abbrev ComesFrom : Space → Subscription → Type 0
ComesFrom space s = (old : Subscription) × Contains space.subscriptions old × IsSame old s

-- each does
abbrev AllCome : Space → Space → Type 0
AllCome old new = (s : Subscription) → Contains new.subscriptions s → ComesFrom old s

come_holds : HoldsOfTelling AllCome
come_holds = record {
  sending = record {
    same = λ space s c. (s, c, same_as s);
    chain = λ a b c p q s h.
        let later = q s h in
        let before = p later.0 later.1 in (
          before.0,
          before.1,
          record {
            number = later.2.number ∙ before.2.number;
            link = later.2.link ∙ before.2.link;
            node = later.2.node ∙ before.2.node;
            transaction = later.2.transaction ∙ before.2.transaction;
          },
        );
    sends = λ space link bytes s c. (s, was_there (λ s. is_open (state_of (changed (sent_on bytes) space.links link) s.link)) space.subscriptions s c, same_as s);
  };
  drops = λ space number s c. (s, was_there (λ s. not (has_number number s)) space.subscriptions s c, same_as s);
  counts = λ space number s c.
      let from = mapped_from (told_once_more number) space.subscriptions s c in
      (from.0, from.1, subst (IsSame from.0) from.2 (same_told number from.0));
}

-- what one was told is what the other was
same_bytes : (name : List ℕ) (old new : Subscription) (change : Change) → IsSame old new → told_bytes name new change ≡ told_bytes name old change
same_bytes name old new change h = λ i.
    let heads : Heads = record {
      message = message.TheVariants.Indication;
      transaction = transaction.TheVariants.Subscribe;
      transaction_id = h.transaction i;
      node_id = h.node i;
      space_id = name;
    } in
    indication_bytes (Changes heads (h.number i) change.sequence change.difference)

all_same : (name : List ℕ) (old new : Subscription) (changes : List Change) → IsSame old new → map (told_bytes name new) changes ≡ map (told_bytes name old) changes
all_same name old new [] h = refl
all_same name old new (change ∷ changes) h = λ i. same_bytes name old new change h i ∷ all_same name old new changes h i

-- a subscription after a request was done comes from one that was there, or is the one that was made
done_comes : (space : Space) (link : ℕ) (heads : Heads) (ask : Ask) (s : Subscription) → Contains (granted space link heads ask).subscriptions s
    → Contains space.subscriptions s ⊎ (space.numbered < s.number)
done_comes space link heads Join s c = inl c
done_comes space link heads Leave s c = inl (was_there (λ s. not (is_of heads.node_id s)) space.subscriptions s c)
done_comes space link heads (Update remove insert confirm) s c = inl c
done_comes space link heads (Query wish) s c = inl c
done_comes space link heads (Unsubscribe text) s c = inl (was_there (λ s. not (is_named heads.node_id text s)) space.subscriptions s c)
done_comes space link heads (Subscribe wish) s c = by (wanted_by wish) c
  where
    by : (wanted : Option Wanted) → Contains (subscribed space link heads wanted).subscriptions s → Contains space.subscriptions s ⊎ (space.numbered < s.number)
    by None c = inl c
    by (Some wanted) c = ⊎_elim inl
        (λ new. let e = ap (λ (s : Subscription). s.number) new in inr (omega (arith, e)))
        (Contains-push_cases space.subscriptions _ s c)

either_comes : (b : Bool) (space : Space) (link : ℕ) (heads : Heads) (ask : Ask) (s : Subscription)
    → Contains (if b then granted space link heads ask else space).subscriptions s → Contains space.subscriptions s ⊎ (space.numbered < s.number)
either_comes true space link heads ask s c = done_comes space link heads ask s c
either_comes false space link heads ask s c = inl c

arrived_comes : (space : Space) (link : ℕ) (arrived : Arrived) (s : Subscription) → Contains (delivered space link arrived).subscriptions s
    → ComesFrom space s ⊎ (space.numbered < s.number)
arrived_comes space link NotRequest s c = inl (s, (thins_links space (changed ended space.links link)).there s c, same_as s)
arrived_comes space link (Wrong heads status) s c = inl (come_holds.sending.sends space link (confirm heads (wrong_status space heads status)) s c)
arrived_comes space link (Request request) s c =
    let status = verdict space request in
    let done = done_with space link request status in
    let queued = queue done link (due_with space request status) in
    let all = come_holds.sending.chain done queued (follow_with space request status queued)
    (queue_holds AllCome come_holds.sending done link (due_with space request status)) (follow_holds AllCome come_holds space request status queued)
    in
    let from = all s c in
    ⊎_elim (λ (there : Contains space.subscriptions from.0). inl (from.0, there, from.2))
    (λ (new : space.numbered < from.0.number). inr (omega (arith, new, from.2.number)))
    (either_comes (is_success status) space link request.heads request.ask from.0 from.1)

-- the space after a request was done and its confirm was sent
abbrev confirmed : Space → ℕ → asked.Request → Space
confirmed space link request = queue (done_with space link request (verdict space request)) link (due_with space request (verdict space request))

-- of no change nothing need be sent
nothing_sent : (space queued : Space) (heads : Heads) (ask : Ask) (link : ℕ) → ExtendsOn link space queued → SendsMore space (follow space heads ask queued) link []
nothing_sent space queued heads ask link x =
    none_sent space (follow space heads ask queued) link
    (extends_chain (pending_of space.links link) (pending_of queued.links link) (pending_of (follow space heads ask queued).links link) x
    (granted_holds (ExtendsOn link) (extends_holds link) space heads ask queued))

-- what a request that is granted tells is sent
ask_sends : (space : Space) (link : ℕ) (request : asked.Request) (ask : Ask) (number : ℕ) (s : Subscription) → HaveOwn space.subscriptions
    → (HaveOwn (granted space link request.heads ask).subscriptions → HaveOwn (confirmed space link request).subscriptions)
    → (confirmed space link request).name ≡ space.name → ExtendsOn s.link space (confirmed space link request)
    → Contains (follow space request.heads ask (confirmed space link request)).subscriptions s → s.number ≡ number
    → SendsMore space (follow space request.heads ask (confirmed space link request)) s.link (map (told_bytes space.name s) (changes_by_ask space link request ask number))
ask_sends space link request (Update remove insert confirm) number s own keeps name x c same =
    let queued = confirmed space link request in
    then_sent space queued (follow space request.heads (Update remove insert confirm) queued) s.link _ x
    (subst (λ name. SendsMore queued (follow space request.heads (Update remove insert confirm) queued) s.link
    (map (told_bytes name s) (changes_by_ask space link request (Update remove insert confirm) number))) name
    (turns_send space.graph number (numbers_of space.subscriptions) queued own (keeps own) s c same))
ask_sends space link request Join number s own keeps name x c same = nothing_sent space (confirmed space link request) request.heads Join s.link x
ask_sends space link request Leave number s own keeps name x c same = nothing_sent space (confirmed space link request) request.heads Leave s.link x
ask_sends space link request (Query wish) number s own keeps name x c same = nothing_sent space (confirmed space link request) request.heads (Query wish) s.link x
ask_sends space link request (Subscribe wish) number s own keeps name x c same =
    nothing_sent space (confirmed space link request) request.heads (Subscribe wish) s.link x
ask_sends space link request (Unsubscribe text) number s own keeps name x c same =
    nothing_sent space (confirmed space link request) request.heads (Unsubscribe text) s.link x

request_sends : (space : Space) (link : ℕ) (request : asked.Request) (number : ℕ) (s : Subscription) → HaveOwn space.subscriptions
    → Contains (delivered space link (Request request)).subscriptions s → s.number ≡ number
    → SendsMore space (delivered space link (Request request)) s.link (map (told_bytes space.name s) (changes_by_arrived space link (Request request) number))
request_sends space link request number s own = by (is_success (verdict space request)) refl
  where
    due : Option (List ℕ)
    due = due_with space request (verdict space request)

    done : Space
    done = done_with space link request (verdict space request)

    queued : Space
    queued = queue done link due

    -- what is sent where this is whether the request is granted
    Decides : Bool → Type 0
    Decides b = Contains (if b then follow space request.heads request.ask queued else queued).subscriptions s → s.number ≡ number
        → SendsMore space (if b then follow space request.heads request.ask queued else queued) s.link
        (map (told_bytes space.name s) (if b then changes_by_ask space link request request.ask number else []))

    keeps : done ≡ granted space link request.heads request.ask → HaveOwn (granted space link request.heads request.ask).subscriptions → HaveOwn queued.subscriptions
    keeps is h =
        queue_holds (λ old new. HaveOwn old.subscriptions → HaveOwn new.subscriptions) own_holds.sending done link due
        (subst (λ (from : Space). HaveOwn from.subscriptions) (sym is) h)

    name : queued.name ≡ space.name
    name = (queue_holds IsAlike alike_holds.sending done link due).name ∙ (grant_by space link request.heads request.ask (is_success (verdict space request))).name

    extends : ExtendsOn s.link space queued
    extends = queued_extends space done link due s.link (done_links space link request (verdict space request))

    by : (b : Bool) → is_success (verdict space request) ≡ b → Decides (is_success (verdict space request))
    by true e = subst Decides (sym e)
        (ask_sends space link request request.ask number s own (keeps (ap (λ b. if b then granted space link request.heads request.ask else space) e)) name extends)
    by false e = subst Decides (sym e) (λ c same. none_sent space queued s.link extends)

arrived_sends : (space : Space) (link : ℕ) (arrived : Arrived) (number : ℕ) (s : Subscription) → HaveOwn space.subscriptions
    → Contains (delivered space link arrived).subscriptions s → s.number ≡ number
    → SendsMore space (delivered space link arrived) s.link (map (told_bytes space.name s) (changes_by_arrived space link arrived number))
arrived_sends space link (Request request) number s own c same = request_sends space link request number s own c same
arrived_sends space link (Wrong heads status) number s own c same = none_sent space (delivered space link (Wrong heads status)) s.link (delivered_extends space link (Wrong heads status) s.link)
arrived_sends space link NotRequest number s own c same = none_sent space (delivered space link NotRequest) s.link (delivered_extends space link NotRequest s.link)

-- what is delivered, by the state of its link
deliver_comes : (state : LinkState) (space new : Space) (s : Subscription)
    → (Contains new.subscriptions s → ComesFrom space s ⊎ (space.numbered < s.number))
    → Contains (on_open state space new).space.subscriptions s → ComesFrom space s ⊎ (space.numbered < s.number)
deliver_comes Never space new s h c = inl (s, c, same_as s)
deliver_comes Open space new s h c = h c
deliver_comes Ended space new s h c = inl (s, c, same_as s)
deliver_comes Overrun space new s h c = inl (s, c, same_as s)
deliver_comes Gone space new s h c = inl (s, c, same_as s)

still_sent : (space : Space) (link : ℕ) → SendsMore space space link []
still_sent space link = none_sent space space link (extends_same (pending_of space.links link))

deliver_sends : (state : LinkState) (space new : Space) (s : Subscription) (told : List Change)
    → (Contains new.subscriptions s → SendsMore space new s.link (map (told_bytes space.name s) told))
    → Contains (on_open state space new).space.subscriptions s
    → SendsMore space (on_open state space new).space s.link (map (told_bytes space.name s) (if is_open state then told else []))
deliver_sends Never space new s told h c = still_sent space s.link
deliver_sends Open space new s told h c = h c
deliver_sends Ended space new s told h c = still_sent space s.link
deliver_sends Overrun space new s told h c = still_sent space s.link
deliver_sends Gone space new s told h c = still_sent space s.link

-- the changes that the subscription of a number was told stand among what was sent on its link
abbrev pub AreSent : Space → ℕ → List Change → (ℕ → List (List ℕ)) → Type 0
AreSent space number changes lists = (s : Subscription) → Contains space.subscriptions s → s.number ≡ number
    → StandAmong (map (told_bytes space.name s) changes) (lists s.link)

-- they do so where nothing is told and nothing sent
thin_sends : (space new : Space) (number : ℕ) (changes : List Change) (lists : ℕ → List (List ℕ)) → new.name ≡ space.name → Thins space new
    → AreSent space number changes lists → AreSent new number (changes ++ []) (λ link. lists link ++ [])
thin_sends space new number changes lists name t sent s c same =
    let before = subst (λ name. StandAmong (map (told_bytes name s) changes) (lists s.link)) (sym name) (sent s (t.there s c) same) in
    subst (λ told. StandAmong (map (told_bytes new.name s) told) (lists s.link ++ [])) (sym (append-nil changes))
    (subst (StandAmong (map (told_bytes new.name s) changes)) (sym (append-nil (lists s.link))) before)

-- and where a message is delivered
delivery_sends : (space : Space) (link : ℕ) (arrived : Arrived) (number : ℕ) (beginnings : List Beginning) (changes : List Change) (lists : ℕ → List (List ℕ))
    → IsWatched space number beginnings changes → AreSent space number changes lists
    → AreSent (step space (call.Deliver link arrived)).space number (changes ++ changes_by space (call.Deliver link arrived) number)
    (λ other. lists other ++ sent_by space (call.Deliver link arrived) other)
delivery_sends space link arrived number beginnings changes lists w sent s c same =
    subst (λ name. StandAmong (map (told_bytes name s) (changes ++ told)) (lists s.link ++ now)) (sym (call_grows space one).name)
    (subst (λ m. StandAmong m (lists s.link ++ now)) (sym (map-append (told_bytes space.name s) changes told))
    (among_both (map (told_bytes space.name s) changes) (lists s.link) (map (told_bytes space.name s) told) now before after))
  where
    one : Call
    one = call.Deliver link arrived

    told : List Change
    told = changes_by space one number

    now : List (List ℕ)
    now = sent_by space one s.link

    old : ComesFrom space s ⊎ (space.numbered < s.number) → StandAmong (map (told_bytes space.name s) changes) (lists s.link)
    old (inl from) =
        subst (StandAmong (map (told_bytes space.name s) changes)) (ap lists (sym from.2.link))
        (subst (λ m. StandAmong m (lists from.0.link)) (sym (all_same space.name from.0 s changes from.2))
        (sent from.0 from.1 (sym from.2.number ∙ same)))
    old (inr new) =
        let none = w.to_come (omega (arith, new, same)) in
        subst (λ told. StandAmong (map (told_bytes space.name s) told) (lists s.link)) (sym none.1) tt

    before : StandAmong (map (told_bytes space.name s) changes) (lists s.link)
    before = old (deliver_comes (state_of space.links link) space (delivered space link arrived) s (arrived_comes space link arrived s) c)

    more : SendsMore space (step space one).space s.link (map (told_bytes space.name s) told)
    more = deliver_sends (state_of space.links link) space (delivered space link arrived) s (changes_by_arrived space link arrived number)
        (λ there. arrived_sends space link arrived number s w.own there same) c

    after : StandAmong (map (told_bytes space.name s) told) now
    after =
        let p = pending_of space.links s.link in
        subst (StandAmong (map (told_bytes space.name s) told)) (sym (ap (drop (length p)) more.1 ∙ drop_at p more.0 (length p) refl)) more.2

-- a call sends what it tells
call_sends : (space : Space) (one : Call) (number : ℕ) (beginnings : List Beginning) (changes : List Change) (lists : ℕ → List (List ℕ))
    → IsWatched space number beginnings changes → AreSent space number changes lists
    → AreSent (step space one).space number (changes ++ changes_by space one number) (λ link. lists link ++ sent_by space one link)
call_sends space (call.Deliver link arrived) number beginnings changes lists w sent = delivery_sends space link arrived number beginnings changes lists w sent
call_sends space call.NewLink number beginnings changes lists w sent =
    thin_sends space (step space call.NewLink).space number changes lists (call_grows space call.NewLink).name
    (open_thins (is_full space.links) space _ _ (thins_same space) (thins_links space (space.links ++ new_link ∷ []))) sent
call_sends space (call.End link) number beginnings changes lists w sent =
    thin_sends space (step space (call.End link)).space number changes lists (call_grows space (call.End link)).name
    (end_thins (state_of space.links link) space _ (thins_links space (changed ended space.links link))) sent
call_sends space (call.Lost link) number beginnings changes lists w sent =
    thin_sends space (step space (call.Lost link)).space number changes lists (call_grows space (call.Lost link)).name
    (lose_thins (state_of space.links link) space _ (thins_links space (changed lost space.links link))) sent
call_sends space (call.Take link) number beginnings changes lists w sent =
    thin_sends space (step space (call.Take link)).space number changes lists (call_grows space (call.Take link)).name
    (found_thins space link (link_at space.links link)) sent

-- and so do calls, one after another
run_sends : (space : Space) (calls : List Call) (number : ℕ) (beginnings : List Beginning) (changes : List Change) (lists : ℕ → List (List ℕ))
    → IsWatched space number beginnings changes → AreSent space number changes lists
    → AreSent (run_from space calls) number (changes ++ changes_from space calls number) (λ link. lists link ++ sent_from space calls link)
run_sends space [] number beginnings changes lists w sent = thin_sends space space number changes lists refl (thins_same space) sent
run_sends space (one ∷ calls) number beginnings changes lists w sent =
    let after = (step space one).space in
    let later = run_sends after calls number (beginnings ++ begun_by space one number) (changes ++ changes_by space one number)
    (λ link. lists link ++ sent_by space one link) (call_watches space one number beginnings changes w)
    (call_sends space one number beginnings changes lists w sent)
    in
    λ s c same.
    subst (λ told. StandAmong (map (told_bytes (run_from after calls).name s) told) (lists s.link ++ (sent_by space one s.link ++ sent_from after calls s.link)))
    (append_assoc changes (changes_by space one number) (changes_from after calls number))
    (subst (StandAmong (map (told_bytes (run_from after calls).name s) ((changes ++ changes_by space one number) ++ changes_from after calls number)))
    (append_assoc (lists s.link) (sent_by space one s.link) (sent_from after calls s.link)) (later s c same))

pub changes_are_sent : ChangesAreSent
changes_are_sent name history number subscription h =
    let there = found_there (run name history).subscriptions number subscription h in
    let all = run_sends (empty_space name) history number [] [] (λ link. []) (empty_watched name number) (λ s c same. absurd (none_in s c)) in
    subst (λ other. StandAmong (map (told_bytes other subscription) (changes_from (empty_space name) history number)) (sent_from (empty_space name) history subscription.link))
    (name_stays name history) (all subscription there.0 there.1)
