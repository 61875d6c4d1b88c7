-- Each subscription that lives was followed: what it was told, folded over its first answer, gives its answer over the graph.
use Rattle.std.proofs.Common.{◌≡◌, ◌≢◌, ◌<◌, ◌≤◌, ℕ, ◌+◌, ◌==◌, Bool, true, false, not, List, [], ◌∷◌, ◌++◌, filter, Contains, Option, Some, None, refl, sym, ap, subst, ◌∙◌, arith, if◌then◌else◌, append-nil, append_assoc}
use Rattle.std.proofs.lemmas.Bool.{eq-eqb, ne_eqb}
use Rattle.std.proofs.lemmas.List.{map-append}
use Rattle.std.proofs.lemmas.List.Elements.{Contains-push_cases}
use mathlib.Core.Logic.{⊎_elim}
use Rattle.m3_terms.specs.InsertedLaws.{was_there}
use Rattle.m3_terms.specs.Order.{triple_cmp}
use Rattle.m3_terms.specs.declared.pattern.Pattern.{Pattern}
use Rattle.link_table.specs.Links.{Link, new_link, is_open, is_full, state_of, link_at, sent, changed, ended, lost, taken}
use Rattle.link_table.specs.declared.state.LinkState.{LinkState}
use Rattle.link_table.specs.declared.state.LinkState.TheVariants.{Never, Open, Ended, Overrun, Gone}
use Rattle.ssap_items.specs.declared.heads.Heads.{Heads}
use Rattle.ssap_shape.specs.declared.status.Status.{Status}
use Rattle.ssap_shape.specs.declared.status.Status.TheVariants.{Success}
use Rattle.ssap_shape.specs.declared.request.Ask.{Ask}
use Rattle.ssap_shape.specs.declared.request.Ask.TheVariants.{Join, Leave, Update, Query, Subscribe, Unsubscribe}
use Rattle.ssap_shape.specs.declared.request.Request as asked
use Rattle.ssap_shape.specs.declared.request.Arrived.{Arrived}
use Rattle.ssap_shape.specs.declared.request.Arrived.TheVariants.{Request, Wrong, NotRequest}
use Rattle.session_core.specs.Space.{Space, empty_space, updated}
use Rattle.session_core.specs.Graph.{graph_after, terms_of, with_named}
use Rattle.session_core.specs.Subscriptions.{Subscription, Wanted, wanted_by, answer_over, has_number, numbers_of, subscription_at, is_of, is_named}
use Rattle.session_core.specs.Requests.{verdict, is_success, granted, subscribed, done_with, due_with, confirm, wrong_status}
use Rattle.session_core.specs.Queues.{queue, with_links}
use Rattle.session_core.specs.Following.{Change, tell_ends, tell_changes, change_among, follow}
use Rattle.session_core.specs.Steps.{Step, decided, delivered, on_open, on_opened, take_step, taken_from, step}
use Rattle.session_core.specs.Runs.{run, run_from}
use Rattle.session_core.specs.Watching.{Beginning, beginning_of, begun_by_ask, changes_by_ask, begun_by_arrived, changes_by_arrived, begun_by, changes_by, begun_from, changes_from, IsFollowed, AnswersAreFollowed}
use Rattle.session_core.specs.declared.call.Call.{Call}
use Rattle.session_core.specs.declared.call.Call.TheVariants as call
use Rattle.session_core.proofs.Fitting.{updates_keep_order}
use Rattle.session_core.proofs.NumbersCountOnce.{nil_ordered}
use Rattle.session_core.proofs.NumbersDiffer.{AreOthers, DoDiffer, HaveOwn, number_in, number_from, filter_differs, push_differs, found_there, none_found, told_numbers}
use Rattle.session_core.proofs.WhatFollowsHolds.{HoldsOfSending, HoldsOfTelling, queue_holds, ends_hold, changes_hold}
use Rattle.session_core.proofs.Growing.{IsAlike, alike_holds}
use Rattle.session_core.proofs.ChangesLeadOn.{IsOrdered, AreFollowed, own_holds, others_told, turns_lead}
use Rattle.sparql_algebra.proofs.Gathered.{none_in}

-- of one space another has some subscriptions, and what is shared is as it was
pub record Thins (old new : Space) : Type 0 where
  pub graph : new.graph ≡ old.graph
  pub numbered : new.numbered ≡ old.numbered
  pub there : (s : Subscription) → Contains new.subscriptions s → Contains old.subscriptions s
  pub own : HaveOwn old.subscriptions → HaveOwn new.subscriptions

pub thins_same : (space : Space) → Thins space space
thins_same space = record { graph = refl; numbered = refl; there = λ s c. c; own = λ own. own }

pub thins_chain : (a b c : Space) → Thins a b → Thins b c → Thins a c
thins_chain a b c p q = record {
  graph = q.graph ∙ p.graph;
  numbered = q.numbered ∙ p.numbered;
  there = λ s h. p.there s (q.there s h);
  own = λ own. q.own (p.own own);
}

-- where links change some subscriptions end
pub thins_links : (space : Space) (links : List Link) → Thins space (with_links space links)
thins_links space links = record {
  graph = refl;
  numbered = refl;
  there = was_there (λ s. is_open (state_of links s.link)) space.subscriptions;
  own = filter_differs (λ s. is_open (state_of links s.link)) space.subscriptions;
}

thins_sending : HoldsOfSending Thins
thins_sending = record { same = thins_same; chain = thins_chain; sends = λ space link message. thins_links space (changed (sent message) space.links link) }

-- the subscriptions of a number were followed over the graph; none has a number beyond the last that was given, and of
-- none of those that are to come anything was told
pub record IsWatched (space : Space) (number : ℕ) (beginnings : List Beginning) (changes : List Change) : Type 0 where
  pub ordered : IsOrdered space.graph
  pub own : HaveOwn space.subscriptions
  pub given : (s : Subscription) → Contains space.subscriptions s → s.number ≤ space.numbered
  pub followed : AreFollowed space.graph space.subscriptions number beginnings changes
  pub to_come : space.numbered < number → (beginnings ≡ []) × (changes ≡ [])

-- from one space to another the number begins so, and is told these changes
abbrev pub Watches : Space → Space → ℕ → List Beginning → List Change → Type 0
Watches old new number begun told = (beginnings : List Beginning) (changes : List Change) → IsWatched old number beginnings changes
    → IsWatched new number (beginnings ++ begun) (changes ++ told)

watched_again : (space : Space) (number : ℕ) (beginnings : List Beginning) (changes : List Change) → IsWatched space number beginnings changes
    → IsWatched space number (beginnings ++ []) (changes ++ [])
watched_again space number beginnings changes w =
    subst (λ b. IsWatched space number b (changes ++ [])) (sym (append-nil beginnings)) (subst (IsWatched space number beginnings) (sym (append-nil changes)) w)

watched_thinned : (old new : Space) (number : ℕ) (beginnings : List Beginning) (changes : List Change) → Thins old new → IsWatched old number beginnings changes
    → IsWatched new number beginnings changes
watched_thinned old new number beginnings changes t w = record {
  ordered = subst IsOrdered (sym t.graph) w.ordered;
  own = t.own w.own;
  given = λ s c. subst (λ n. s.number ≤ n) (sym t.numbered) (w.given s (t.there s c));
  followed = λ s c same. subst (λ graph. IsFollowed graph s beginnings changes) (sym t.graph) (w.followed s (t.there s c) same);
  to_come = λ below. w.to_come (subst (λ n. n < number) t.numbered below);
}

-- nothing begins and nothing is told where some subscriptions end
thins_watches : (old new : Space) (number : ℕ) → Thins old new → Watches old new number [] []
thins_watches old new number t beginnings changes w = watched_again new number beginnings changes (watched_thinned old new number beginnings changes t w)

-- nor afterwards
then_thins : (old new after : Space) (number : ℕ) (begun : List Beginning) (told : List Change) → Watches old new number begun told → Thins new after
    → Watches old after number begun told
then_thins old new after number begun told h t beginnings changes w =
    watched_thinned new after number (beginnings ++ begun) (changes ++ told) t (h beginnings changes w)

-- no number is new
abbrev AreAmong : Space → Space → Type 0
AreAmong old new = (number : ℕ) → Contains (numbers_of new.subscriptions) number → Contains (numbers_of old.subscriptions) number

among_kept : (test : Subscription → Bool) (xs : List Subscription) (number : ℕ) → Contains (numbers_of (filter test xs)) number → Contains (numbers_of xs) number
among_kept test xs number c =
    let from = number_from (filter test xs) number c in
    subst (Contains (numbers_of xs)) from.2 (number_in xs from.0 (was_there test xs from.0 from.1))

among_holds : HoldsOfTelling AreAmong
among_holds = record {
  sending = record {
    same = λ space number c. c;
    chain = λ a b c p q number d. p number (q number d);
    sends = λ space link message number c.
        among_kept (λ s. is_open (state_of (changed (sent message) space.links link) s.link)) space.subscriptions number c;
  };
  drops = λ space dropped number c. among_kept (λ s. not (has_number dropped s)) space.subscriptions number c;
  counts = λ space told number c. subst (λ numbers. Contains numbers number) (told_numbers told space.subscriptions) c;
}

module _ (space queued : Space) (remove insert : List Pattern) (number : ℕ)
    (t : Thins (updated space (graph_after space.graph remove insert) (with_named space.named (terms_of insert))) queued) where
  -- the space after the turns of all
  abbrev told_all : Space
  told_all = tell_changes space.graph queued (numbers_of space.subscriptions)

  -- what the subscription of the number is told
  abbrev told_changes : List Change
  told_changes = change_among space.graph queued (numbers_of space.subscriptions) number

  alike : IsAlike queued told_all
  alike = changes_hold IsAlike alike_holds space.graph queued (numbers_of space.subscriptions)

  among : AreAmong queued told_all
  among = changes_hold AreAmong among_holds space.graph queued (numbers_of space.subscriptions)

  was_given : (s : Subscription) → Contains told_all.subscriptions s → (old : Subscription) × Contains space.subscriptions old × (old.number ≡ s.number)
  was_given s c =
      let from = number_from queued.subscriptions s.number (among s.number (number_in told_all.subscriptions s c)) in
      (from.0, t.there from.0 from.1, from.2)

  -- whichever the number, its subscription is led on
  all_lead : (beginnings : List Beginning) (changes : List Change) (found : Option Subscription) → subscription_at space.subscriptions number ≡ found
      → IsWatched space number beginnings changes → AreFollowed told_all.graph told_all.subscriptions number beginnings (changes ++ told_changes)
  all_lead beginnings changes None h w = λ s c same.
      let old = was_given s c in
      absurd (none_found space.subscriptions number h old.0.number (number_in space.subscriptions old.0 old.1) (old.2 ∙ same))
  all_lead beginnings changes (Some one) h w = λ s c same.
      let there = found_there space.subscriptions number one h in
      let chosen = subst (Contains (numbers_of space.subscriptions)) there.1 (number_in space.subscriptions one there.0) in
      let ordered = subst IsOrdered (sym t.graph) (updates_keep_order space.graph remove insert w.ordered) in
      subst (λ graph. IsFollowed graph s beginnings (changes ++ told_changes)) (sym alike.graph)
      (turns_lead space.graph number beginnings changes (numbers_of space.subscriptions) queued chosen w.own (t.own w.own) w.ordered ordered
      (λ s c same. w.followed s (t.there s c) same) s c same)

  -- an update lets nothing begin, and tells all
  update_watches : Watches space told_all number [] told_changes
  update_watches beginnings changes w = record {
    ordered = subst IsOrdered (sym (alike.graph ∙ t.graph)) (updates_keep_order space.graph remove insert w.ordered);
    own = changes_hold (λ old new. HaveOwn old.subscriptions → HaveOwn new.subscriptions) own_holds space.graph queued (numbers_of space.subscriptions) (t.own w.own);
    given = λ s c.
        let old = was_given s c in
        omega (arith, w.given old.0 old.1, old.2, alike.numbered, t.numbered);
    followed = subst (λ b. AreFollowed told_all.graph told_all.subscriptions number b (changes ++ told_changes)) (sym (append-nil beginnings))
        (all_lead beginnings changes (subscription_at space.subscriptions number) refl w);
    to_come = λ below.
        let before = w.to_come (omega (arith, below, alike.numbered, t.numbered)) in
        let others : AreOthers (numbers_of space.subscriptions) number = λ other c same.
        let from = number_from space.subscriptions other c in
        omega (arith, w.given from.0 from.1, from.2, same, below, alike.numbered, t.numbered) in
        let none = others_told space.graph queued (numbers_of space.subscriptions) number others in
        (append-nil beginnings ∙ before.0, λ i. before.1 i ++ none i);
  }

-- all of some numbers and of one more
numbers_pushed : (xs : List Subscription) (one : Subscription) → numbers_of (xs ++ one ∷ []) ≡ numbers_of xs ++ one.number ∷ []
numbers_pushed xs one = map-append (λ (s : Subscription). s.number) xs (one ∷ [])

module _ (space : Space) (link : ℕ) (heads : Heads) (wanted : Wanted) (number : ℕ) where
  -- the subscription that is made
  abbrev made : Subscription
  made = record {
    number = space.numbered + 1;
    link = link;
    node = heads.node_id;
    transaction = heads.transaction_id;
    wanted = wanted;
    sequence = 0;
  }

  -- its beginning, where it has the number
  abbrev first_answer : Bool → List Beginning
  first_answer here = if here then record { wanted = wanted; answer = answer_over space.graph wanted } ∷ [] else []

  made_followed : IsFollowed space.graph made (record { wanted = wanted; answer = answer_over space.graph wanted } ∷ []) []
  made_followed = record {
    first = answer_over space.graph wanted;
    began = refl;
    folded = refl;
    numbered = tt;
    last = refl;
    filled = λ change c. absurd (none_in change c);
    apart = λ change c. absurd (none_in change c);
  }

  module _ (beginnings : List Beginning) (changes : List Change) (w : IsWatched space number beginnings changes) where
    -- the beginning of what has this number
    abbrev began_now : List Beginning
    began_now = first_answer ((space.numbered + 1) == number)

    new_followed : (s : Subscription) → made ≡ s → s.number ≡ number → IsFollowed space.graph s (beginnings ++ began_now) (changes ++ [])
    new_followed s new same =
        let here : space.numbered + 1 ≡ number = ap (λ (s : Subscription). s.number) new ∙ same in
        let none = w.to_come (omega (arith, here)) in
        let began : beginnings ++ began_now ≡ first_answer true = (λ i. none.0 i ++ began_now) ∙ ap first_answer (eq-eqb (space.numbered + 1) number here) in
        subst (λ s. IsFollowed space.graph s (beginnings ++ began_now) (changes ++ [])) new
        (subst (λ b. IsFollowed space.graph made b (changes ++ [])) (sym began)
        (subst (IsFollowed space.graph made (first_answer true)) (sym (append-nil changes ∙ none.1)) made_followed))

    old_followed : (s : Subscription) → Contains space.subscriptions s → s.number ≡ number → IsFollowed space.graph s (beginnings ++ began_now) (changes ++ [])
    old_followed s old same =
        let apart : space.numbered + 1 ≢ number = λ e. omega (arith, w.given s old, same, e) in
        let began : beginnings ++ began_now ≡ beginnings = ap (λ b. beginnings ++ first_answer b) (ne_eqb (space.numbered + 1) number apart) ∙ append-nil beginnings in
        subst (λ b. IsFollowed space.graph s b (changes ++ [])) (sym began)
        (subst (IsFollowed space.graph s beginnings) (sym (append-nil changes)) (w.followed s old same))

    made_watched : IsWatched (subscribed space link heads (Some wanted)) number (beginnings ++ began_now) (changes ++ [])
    made_watched = record {
      ordered = w.ordered;
      own = subst DoDiffer (sym (numbers_pushed space.subscriptions made)) (push_differs (numbers_of space.subscriptions) (space.numbered + 1) w.own (λ other c same.
          let from = number_from space.subscriptions other c in
          omega (arith, w.given from.0 from.1, from.2, same)));
      given = λ s c. ⊎_elim
          (λ (old : Contains space.subscriptions s). omega (arith, w.given s old))
          (λ (new : made ≡ s). let e = ap (λ (s : Subscription). s.number) new in omega (arith, e))
          (Contains-push_cases space.subscriptions made s c);
      followed = λ s c same. ⊎_elim
          (λ (old : Contains space.subscriptions s). old_followed s old same)
          (λ (new : made ≡ s). new_followed s new same)
          (Contains-push_cases space.subscriptions made s c);
      to_come = λ below.
          let none = w.to_come (omega (arith, below)) in
          let apart : space.numbered + 1 ≢ number = λ e. omega (arith, below, e) in (
            (λ i. none.0 i ++ began_now) ∙ ap first_answer (ne_eqb (space.numbered + 1) number apart),
            append-nil changes ∙ none.1,
          );
    }

-- a subscription begins with its answer, where it has the number
subscribed_watches : (space : Space) (link : ℕ) (heads : Heads) (wanted : Option Wanted) (number : ℕ)
    → Watches space (subscribed space link heads wanted) number (if (space.numbered + 1) == number then beginning_of space.graph wanted else []) []
subscribed_watches space link heads (Some wanted) number beginnings changes w = made_watched space link heads wanted number beginnings changes w
subscribed_watches space link heads None number beginnings changes w =
    subst (λ b. IsWatched space number (beginnings ++ b) (changes ++ [])) (sym (nothing ((space.numbered + 1) == number))) (watched_again space number beginnings changes w)
  where
    nothing : (b : Bool) → (if b then beginning_of space.graph None else []) ≡ []
    nothing true = refl
    nothing false = refl

-- what is taken out leaves the others
thins_kept : (space : Space) (joined : List (List ℕ)) (test : Subscription → Bool) → Thins space (record space { joined = joined; subscriptions = filter test space.subscriptions })
thins_kept space joined test = record { graph = refl; numbered = refl; there = was_there test space.subscriptions; own = filter_differs test space.subscriptions }

-- subscriptions that ended are told so
ends_watch : (space done queued : Space) (status : Status) (ended : List Subscription) (number : ℕ) → Thins space done → Thins done queued
    → Watches space (tell_ends status queued ended) number [] []
ends_watch space done queued status ended number p q =
    thins_watches space (tell_ends status queued ended) number
    (thins_chain space queued (tell_ends status queued ended) (thins_chain space done queued p q) (ends_hold Thins thins_sending status queued ended))

-- the space after a request was granted, its confirm was sent, and what follows was told
granted_watches : (space : Space) (link : ℕ) (request : asked.Request) (ask : Ask) (number : ℕ)
    → let queued = queue (done_with space link request (verdict space request)) link (due_with space request (verdict space request)) in
    Thins (granted space link request.heads ask) queued
    → Watches space (follow space request.heads ask queued) number (begun_by_ask space ask number) (changes_by_ask space link request ask number)
granted_watches space link request Join number t =
    thins_watches space _ number (thins_chain space _ _ (record { graph = refl; numbered = refl; there = λ s c. c; own = λ own. own }) t)
granted_watches space link request Leave number t =
    ends_watch space _ _ Success (filter (is_of request.heads.node_id) space.subscriptions) number
    (thins_kept space _ (λ s. not (is_of request.heads.node_id s))) t
granted_watches space link request (Update remove insert confirm) number t = update_watches space _ remove insert number t
granted_watches space link request (Query wish) number t = thins_watches space _ number t
granted_watches space link request (Subscribe wish) number t =
    then_thins space _ _ number _ [] (subscribed_watches space link request.heads (wanted_by wish) number) t
granted_watches space link request (Unsubscribe text) number t =
    ends_watch space _ _ Success (filter (is_named request.heads.node_id text) space.subscriptions) number
    (thins_kept space space.joined (λ s. not (is_named request.heads.node_id text s))) t

-- a request that was granted lets begin and tells what it grants, and one that was refused nothing
request_watches : (space : Space) (link : ℕ) (request : asked.Request) (number : ℕ) (success : Bool) → is_success (verdict space request) ≡ success
    → Watches space (decided space link request (verdict space request)) number (begun_by_arrived space (Request request) number)
    (changes_by_arrived space link (Request request) number)
request_watches space link request number success e = by success e
  where
    due : Option (List ℕ)
    due = due_with space request (verdict space request)

    queued : Space
    queued = queue (done_with space link request (verdict space request)) link due

    -- what is done, sent and told where this is whether the request is granted
    Decides : Bool → Type 0
    Decides b = Watches space (if b then follow space request.heads request.ask queued else queued) number
        (if b then begun_by_ask space request.ask number else []) (if b then changes_by_ask space link request request.ask number else [])

    thinned : (done : Space) → done_with space link request (verdict space request) ≡ done → Thins done queued
    thinned done is = subst (λ from. Thins done (queue from link due)) (sym is) (queue_holds Thins thins_sending done link due)

    by : (b : Bool) → is_success (verdict space request) ≡ b → Decides (is_success (verdict space request))
    by true e = subst Decides (sym e) (granted_watches space link request request.ask number
        (thinned (granted space link request.heads request.ask) (ap (λ b. if b then granted space link request.heads request.ask else space) e)))
    by false e = subst Decides (sym e) (thins_watches space queued number (thinned space (ap (λ b. if b then granted space link request.heads request.ask else space) e)))

arrived_watches : (space : Space) (link : ℕ) (arrived : Arrived) (number : ℕ)
    → Watches space (delivered space link arrived) number (begun_by_arrived space arrived number) (changes_by_arrived space link arrived number)
arrived_watches space link (Request request) number = request_watches space link request number (is_success (verdict space request)) refl
arrived_watches space link (Wrong heads status) number = thins_watches space _ number (thins_sending.sends space link (confirm heads (wrong_status space heads status)))
arrived_watches space link NotRequest number = thins_watches space _ number (thins_links space (changed ended space.links link))

still_watches : (space : Space) (number : ℕ) → Watches space space number [] []
still_watches space number = thins_watches space space number (thins_same space)

-- what is delivered, by the state of its link
deliver_watches : (state : LinkState) (space new : Space) (number : ℕ) (begun : List Beginning) (told : List Change) → Watches space new number begun told
    → Watches space (on_open state space new).space number (if is_open state then begun else []) (if is_open state then told else [])
deliver_watches Never space new number begun told h = still_watches space number
deliver_watches Open space new number begun told h = h
deliver_watches Ended space new number begun told h = still_watches space number
deliver_watches Overrun space new number begun told h = still_watches space number
deliver_watches Gone space new number begun told h = still_watches space number

pub end_thins : (state : LinkState) (space new : Space) → Thins space new → Thins space (on_open state space new).space
end_thins Never space new t = thins_same space
end_thins Open space new t = t
end_thins Ended space new t = thins_same space
end_thins Overrun space new t = thins_same space
end_thins Gone space new t = thins_same space

pub lose_thins : (state : LinkState) (space new : Space) → Thins space new → Thins space (on_opened state space new).space
lose_thins Never space new t = thins_same space
lose_thins Open space new t = t
lose_thins Ended space new t = t
lose_thins Overrun space new t = t
lose_thins Gone space new t = t

pub open_thins : (full : Bool) (space : Space) (refused opened : Step) → Thins space refused.space → Thins space opened.space
    → Thins space (if full then refused else opened).space
open_thins true space refused opened p q = p
open_thins false space refused opened p q = q

take_thins : (space : Space) (number : ℕ) (state : LinkState) (pending : List (List ℕ)) → Thins space (taken_from space number state pending).space
take_thins space number state [] = thins_same space
take_thins space number state (message ∷ pending) = thins_links space (changed taken space.links number)

pub found_thins : (space : Space) (number : ℕ) (found : Option Link) → Thins space (take_step space number found).space
found_thins space number None = thins_same space
found_thins space number (Some link) = take_thins space number link.state link.pending

-- a call lets begin and tells what it does
pub call_watches : (space : Space) (one : Call) (number : ℕ) → Watches space (step space one).space number (begun_by space one number) (changes_by space one number)
call_watches space call.NewLink number =
    thins_watches space _ number (open_thins (is_full space.links) space _ _ (thins_same space) (thins_links space (space.links ++ new_link ∷ [])))
call_watches space (call.Deliver link arrived) number =
    deliver_watches (state_of space.links link) space (delivered space link arrived) number _ _ (arrived_watches space link arrived number)
call_watches space (call.End link) number =
    thins_watches space _ number (end_thins (state_of space.links link) space _ (thins_links space (changed ended space.links link)))
call_watches space (call.Lost link) number =
    thins_watches space _ number (lose_thins (state_of space.links link) space _ (thins_links space (changed lost space.links link)))
call_watches space (call.Take link) number = thins_watches space _ number (found_thins space link (link_at space.links link))

-- and so do calls, one after another
run_watches : (space : Space) (calls : List Call) (number : ℕ) → Watches space (run_from space calls) number (begun_from space calls number) (changes_from space calls number)
run_watches space [] number beginnings changes w = still_watches space number beginnings changes w
run_watches space (one ∷ calls) number beginnings changes w =
    let after = (step space one).space in
    let later = run_watches after calls number (beginnings ++ begun_by space one number) (changes ++ changes_by space one number)
    (call_watches space one number beginnings changes w)
    in
    subst (λ b. IsWatched (run_from after calls) number b (changes ++ (changes_by space one number ++ changes_from after calls number)))
    (append_assoc beginnings (begun_by space one number) (begun_from after calls number))
    (subst (IsWatched (run_from after calls) number ((beginnings ++ begun_by space one number) ++ begun_from after calls number))
    (append_assoc changes (changes_by space one number) (changes_from after calls number)) later)

-- in a space in which nothing happened nothing lives
pub empty_watched : (name : List ℕ) (number : ℕ) → IsWatched (empty_space name) number [] []
empty_watched name number = record {
  ordered = nil_ordered triple_cmp;
  own = tt;
  given = λ s c. absurd (none_in s c);
  followed = λ s c same. absurd (none_in s c);
  to_come = λ below. (refl, refl);
}

pub answers_are_followed : AnswersAreFollowed
answers_are_followed name history number subscription h =
    let there = found_there (run name history).subscriptions number subscription h in
    (run_watches (empty_space name) history number [] [] (empty_watched name number)).followed subscription there.0 there.1
