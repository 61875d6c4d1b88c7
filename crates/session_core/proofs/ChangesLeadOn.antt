-- What the subscriptions are told after an update leads each from its answer over the graph before to that over the graph after.
use Rattle.std.proofs.Common.{◌≡◌, ◌≢◌, ℕ, ◌+◌, ◌==◌, nat_lt, Bool, true, false, ◌&&◌, not, List, [], ◌∷◌, ◌++◌, length, map, Contains, Option, Some, None, option_map, refl, sym, ap, subst, ◌∙◌, arith, if◌then◌else◌, append-nil, length-append}
use Rattle.std.proofs.lemmas.Bool.{cases_eq, eq-eqb, ne_eqb, not_from_true}
use Rattle.std.proofs.lemmas.List.Elements.{Contains-push_cases}
use Rattle.std.proofs.lemmas.List.Kept.{IsStrictlySortedBy-filter}
use Rattle.std.specs.List.Sorted.{IsStrictlySortedBy}
use mathlib.Core.Bool.{true≢false}
use mathlib.Core.Logic.{⊎_elim}
use Rattle.m3_terms.specs.Order.{triple_cmp, row_cmp}
use Rattle.m3_terms.specs.declared.triple.Triple.{Triple}
use Rattle.m3_terms.specs.InsertedLaws.{cons_cases, head_in, tail_in}
use Rattle.triple_index.specs.Graphs.{fits_one}
use Rattle.sparql_algebra.specs.Listed.{rows_of}
use Rattle.sparql_algebra.proofs.Gathered.{none_in}
use Rattle.sparql_algebra.proofs.ListMembers.{kept}
use Rattle.sparql_algebra.proofs.ListedAnswers.{answer_exact}
use Rattle.query_eval.proofs.Counts.{mapped_from}
use Rattle.answer_bodies.specs.Differences.{MayFollow, HaveNothingInCommon, folded, folds, is_empty_difference}
use Rattle.answer_bodies.specs.declared.answer.Answer.{Answer}
use Rattle.answer_bodies.proofs.DifferenceLaws.{differences_folded, sides_apart, empty_exactly}
use Rattle.link_table.specs.declared.state.LinkState.TheVariants.{Overrun}
use Rattle.link_table.proofs.OtherLinksStay.{link_at-changed}
use Rattle.link_table.specs.Links.{Link, is_open, state_of, link_at, closed_link, sent, changed, state_or_never, pending_or_none, fits as fit_waiting}
use Rattle.session_core.specs.Space.{Space}
use Rattle.session_core.specs.Graph.{fits}
use Rattle.session_core.specs.Subscriptions.{Subscription, Wanted, Fitting, Selected, answer_over, width_over, has_number, subscription_at}
use Rattle.session_core.specs.Queues.{queue, on_open_links}
use Rattle.session_core.specs.Following.{Change, takes, told_once_more, with_next, without_number, end_over, difference_over, change_bytes, tell_living, tell_changes, change_at, change_among}
use Rattle.session_core.specs.Watching.{Beginning, AreNumberedFrom, IsFollowed}
use Rattle.session_core.proofs.NumbersDiffer.{AreOthers, HaveOwn, DoDiffer, number_in, filter_differs, own_alone, found_there, none_found, told_number, told_numbers}
use Rattle.session_core.proofs.WhatFollowsHolds.{HoldsOfTelling, living_holds}
use Rattle.session_core.proofs.Growing.{IsAlike, alike_holds}

-- a graph is in order
abbrev pub IsOrdered : List Triple → Type 0
IsOrdered graph = IsStrictlySortedBy triple_cmp graph

-- the answers over two graphs have one form, and are in order
pub answers_may_follow : (before after : List Triple) (wanted : Wanted) → IsOrdered before → IsOrdered after → MayFollow (answer_over before wanted) (answer_over after wanted)
answers_may_follow before after (Fitting templates) b a = record {
  form = tt;
  earlier = IsStrictlySortedBy-filter triple_cmp (fits_one fits templates) before b;
  later = IsStrictlySortedBy-filter triple_cmp (fits_one fits templates) after a;
}
answers_may_follow before after (Selected query) b a = record { form = refl; earlier = rise before; later = rise after }
  where
    rise : (graph : List Triple) → IsStrictlySortedBy row_cmp (rows_of query graph)
    rise graph = ((answer_exact query graph (rows_of query graph)).1 refl).ordered

folds_more : (answer : Answer) (changes : List Change) (change : Change)
    → folds answer (map (λ change. change.difference) (changes ++ change ∷ [])) ≡ folded (folds answer (map (λ change. change.difference) changes)) change.difference
folds_more answer [] change = refl
folds_more answer (one ∷ changes) change = folds_more (folded answer one.difference) changes change

numbered_more : (first : ℕ) (changes : List Change) (change : Change) → AreNumberedFrom first changes → change.sequence ≡ first + length changes
    → AreNumberedFrom first (changes ++ change ∷ [])
numbered_more first [] change n e = (e ∙ omega arith, tt)
numbered_more first (one ∷ changes) change n e = (n.0, numbered_more (first + 1) changes change n.1 (e ∙ omega arith))

-- what holds of each change that was told and of one more holds of all
each_more : (P : Change → Type 0) (changes : List Change) (change : Change) → ((one : Change) → Contains changes one → P one) → P change
    → (one : Change) → Contains (changes ++ change ∷ []) one → P one
each_more P changes change each last one c = ⊎_elim (λ (old : Contains changes one). each one old) (λ (new : change ≡ one). subst P new last) (Contains-push_cases changes change one c)

module _ (before after : List Triple) (b : IsOrdered before) (a : IsOrdered after) where
  -- the change of a subscription's answer from one graph to the other, under its next number
  abbrev next_change : Subscription → Change
  next_change s = record { sequence = s.sequence + 1; difference = difference_over before after s.wanted }

  -- a subscription that is told a change that is not empty was followed
  followed_more : (s : Subscription) (beginnings : List Beginning) (changes : List Change) → is_empty_difference (difference_over before after s.wanted) ≡ false
      → IsFollowed before s beginnings changes → IsFollowed after (record s { sequence = s.sequence + 1 }) beginnings (changes ++ next_change s ∷ [])
  followed_more s beginnings changes full f = record {
    first = f.first;
    began = f.began;
    folded = folds_more f.first changes (next_change s) ∙ ap (λ answer. folded answer (difference_over before after s.wanted)) f.folded
        ∙ differences_folded (answer_over before s.wanted) (answer_over after s.wanted) (answers_may_follow before after s.wanted b a);
    numbered = numbered_more 1 changes (next_change s) f.numbered (omega (arith, f.last));
    last = omega (arith, f.last, length-append changes (next_change s ∷ []));
    filled = each_more (λ change. is_empty_difference change.difference ≡ false) changes (next_change s) f.filled full;
    apart = each_more (λ change. HaveNothingInCommon change.difference.added change.difference.obsolete) changes (next_change s) f.apart
        (sides_apart (answer_over before s.wanted) (answer_over after s.wanted));
  }

  -- and so was one whose answer does not change
  followed_same : (s : Subscription) (beginnings : List Beginning) (changes : List Change) → is_empty_difference (difference_over before after s.wanted) ≡ true
      → IsFollowed before s beginnings changes → IsFollowed after s beginnings changes
  followed_same s beginnings changes empty f = record {
    first = f.first;
    began = f.began;
    folded = f.folded ∙ (empty_exactly (answer_over before s.wanted) (answer_over after s.wanted) (answers_may_follow before after s.wanted b a)).0 empty;
    numbered = f.numbered;
    last = f.last;
    filled = f.filled;
    apart = f.apart;
  }

-- all subscriptions of a number were followed
abbrev pub AreFollowed : List Triple → List Subscription → ℕ → List Beginning → List Change → Type 0
AreFollowed graph subscriptions number beginnings changes = (s : Subscription) → Contains subscriptions s → s.number ≡ number → IsFollowed graph s beginnings changes

-- what holds of a turn, by what was told: nothing, where the answer is too wide, is as before, or is too long to tell, and
-- else the change, unless the link does not take it
pub turn_cases : (Goal : Space → List Change → Type 0) (wide empty long taken : Bool) (over space next : Space) (change : Change)
    → Goal over [] → (empty ≡ true → Goal space []) → (empty ≡ false → taken ≡ true → Goal next (change ∷ [])) → (taken ≡ false → Goal next [])
    → Goal (if wide then over else if empty then space else if long then over else next) (if not wide && (not empty && (not long && taken)) then change ∷ [] else [])
turn_cases Goal true empty long taken over space next change o s n c = o
turn_cases Goal false true long taken over space next change o s n c = s refl
turn_cases Goal false false true taken over space next change o s n c = o
turn_cases Goal false false false true over space next change o s n c = n refl refl
turn_cases Goal false false false false over space next change o s n c = c refl

-- a link that is open after a message was sent on it takes the message
pub open_takes : (links : List Link) (link : ℕ) (message : List ℕ) → is_open (state_of (changed (sent message) links link) link) ≡ true → takes links link message ≡ true
open_takes links link message h = found_takes (link_at links link) (sym (ap (λ found. is_open (state_or_never found)) (link_at-changed (sent message) links link)) ∙ h)
  where
    closed : (pending : List (List ℕ)) → is_open (closed_link Overrun pending).state ≡ true → ⊥
    closed [] e = true≢false (sym e)
    closed (first ∷ rest) e = true≢false (sym e)

    link_takes : (one : Link) (now fit : Bool) → is_open one.state ≡ now
        → is_open (if now then if fit then record one { pending = one.pending ++ message ∷ [] } else closed_link Overrun one.pending else one).state ≡ true → (now && fit) ≡ true
    link_takes one true true was e = refl
    link_takes one true false was e = absurd (closed one.pending e)
    link_takes one false fit was e = absurd (true≢false (sym e ∙ was))

    found_takes : (found : Option Link) → is_open (state_or_never (option_map (sent message) found)) ≡ true
        → (is_open (state_or_never found) && fit_waiting (pending_or_none found ++ message ∷ [])) ≡ true
    found_takes None e = absurd (true≢false (sym e))
    found_takes (Some one) e = link_takes one (is_open one.state) (fit_waiting (one.pending ++ message ∷ [])) refl e

-- what subscriptions with open links are, those were
kept_open : (links : List Link) (xs : List Subscription) (s : Subscription) → Contains (on_open_links links xs) s → Contains xs s × (is_open (state_of links s.link) ≡ true)
kept_open links xs s c = (kept (λ subscription. is_open (state_of links subscription.link)) xs s).0 c

-- one that was taken out is not there
pub none_over : (space : Space) (t : Subscription) (number : ℕ) (s : Subscription) → t.number ≡ number → Contains (end_over space t).subscriptions s → s.number ≢ number
none_over space t number s e c same =
    let left = (kept_open (end_over space t).links (without_number space t.number).subscriptions s c).0 in
    let out = ((kept (λ subscription. not (has_number t.number subscription)) space.subscriptions s).0 left).1 in
    true≢false (sym out ∙ not_from_true (s.number == t.number) (eq-eqb s.number t.number (same ∙ sym e)))

-- the others that were there stay as they were
stays_over : (space : Space) (t : Subscription) (s : Subscription) → Contains (end_over space t).subscriptions s → Contains space.subscriptions s
stays_over space t s c =
    let left = (kept_open (end_over space t).links (without_number space t.number).subscriptions s c).0 in
    ((kept (λ subscription. not (has_number t.number subscription)) space.subscriptions s).0 left).0

-- what is there after the next number of a change was used, was there
next_from : (space : Space) (t : Subscription) (message : List ℕ) (s : Subscription) → Contains (queue (with_next space t.number) t.link (Some message)).subscriptions s
    → (old : Subscription) × Contains space.subscriptions old × (told_once_more t.number old ≡ s)
next_from space t message s c =
    mapped_from (told_once_more t.number) space.subscriptions s (kept_open (changed (sent message) space.links t.link) (with_next space t.number).subscriptions s c).0

-- and the one that was told is so under its next number, on a link that took it
pub told_is : (space : Space) (t : Subscription) (message : List ℕ) (s : Subscription) → HaveOwn space.subscriptions → Contains space.subscriptions t
    → Contains (queue (with_next space t.number) t.link (Some message)).subscriptions s → s.number ≡ t.number → record t { sequence = t.sequence + 1 } ≡ s
told_is space t message s own there c same =
    let from = next_from space t message s c in
    let one = own_alone space.subscriptions from.0 t own from.1 there (sym (told_number t.number from.0) ∙ ap (λ (s : Subscription). s.number) from.2 ∙ same) in
    sym (ap (λ b. if b then record t { sequence = t.sequence + 1 } else t) (eq-eqb t.number t.number refl)) ∙ ap (told_once_more t.number) (sym one) ∙ from.2

told_took : (space : Space) (t : Subscription) (message : List ℕ) (s : Subscription) → record t { sequence = t.sequence + 1 } ≡ s
    → Contains (queue (with_next space t.number) t.link (Some message)).subscriptions s → takes space.links t.link message ≡ true
told_took space t message s is c =
    let links = changed (sent message) space.links t.link in
    let open_now = (kept_open links (with_next space t.number).subscriptions s c).1 in
    open_takes space.links t.link message (ap (λ (s : Subscription). is_open (state_of links s.link)) is ∙ open_now)

-- at the turn of another the subscriptions of a number stay
turn_other : (before : List Triple) (space : Space) (t : Subscription) (number : ℕ) (s : Subscription) → t.number ≢ number
    → Contains (tell_living before space (Some t)).subscriptions s → s.number ≡ number → Contains space.subscriptions s
turn_other before space t number s other =
    let difference = difference_over before space.graph t.wanted in
    let bytes = change_bytes space t difference in
    turn_cases (λ after more. Contains after.subscriptions s → s.number ≡ number → Contains space.subscriptions s)
    (nat_lt 65536 (width_over space.graph t.wanted)) (is_empty_difference difference) (nat_lt 4194304 (length bytes)) (takes space.links t.link bytes)
    (end_over space t) space (queue (with_next space t.number) t.link (Some bytes)) (record { sequence = t.sequence + 1; difference = difference })
    (λ c same. stays_over space t s c) (λ empty c same. c) (λ full took c same. stays_next bytes c same) (λ lost c same. stays_next bytes c same)
  where
    stays_next : (message : List ℕ) → Contains (queue (with_next space t.number) t.link (Some message)).subscriptions s → s.number ≡ number → Contains space.subscriptions s
    stays_next message c same =
        let from = next_from space t message s c in
        let apart = ne_eqb from.0.number t.number (λ e. other (sym e ∙ sym (told_number t.number from.0) ∙ ap (λ (s : Subscription). s.number) from.2 ∙ same)) in
        let is = sym (ap (λ b. if b then record from.0 { sequence = from.0.sequence + 1 } else from.0) apart) ∙ from.2 in
        subst (Contains space.subscriptions) is from.1

-- or of none
turn_apart : (before : List Triple) (space : Space) (one number : ℕ) (s : Subscription) (found : Option Subscription) → subscription_at space.subscriptions one ≡ found
    → one ≢ number → Contains (tell_living before space found).subscriptions s → s.number ≡ number → Contains space.subscriptions s
turn_apart before space one number s None h n c same = c
turn_apart before space one number s (Some t) h n c same =
    turn_other before space t number s (λ e. n (sym (found_there space.subscriptions one t h).1 ∙ e)) c same

-- the subscriptions of a number whose turn does not come stay
pub others_stay : (before : List Triple) (space : Space) (numbers : List ℕ) (number : ℕ) (s : Subscription) → AreOthers numbers number
    → Contains (tell_changes before space numbers).subscriptions s → s.number ≡ number → Contains space.subscriptions s
others_stay before space [] number s others c same = c
others_stay before space (one ∷ numbers) number s others c same =
    let found = subscription_at space.subscriptions one in
    let later = others_stay before (tell_living before space found) numbers number s (λ other d. others other (tail_in one numbers other d)) c same in
    turn_apart before space one number s found refl (others one (head_in one numbers)) later same

-- and are told nothing
pub others_told : (before : List Triple) (space : Space) (numbers : List ℕ) (number : ℕ) → AreOthers numbers number → change_among before space numbers number ≡ []
others_told before space [] number others = refl
others_told before space (one ∷ numbers) number others =
    let after = tell_living before space (subscription_at space.subscriptions one) in
    ap (λ b. (if b then change_at before space (subscription_at space.subscriptions one) else []) ++ change_among before after numbers number)
    (ne_eqb one number (others one (head_in one numbers)))
    ∙ others_told before after numbers number (λ other d. others other (tail_in one numbers other d))

-- at its own turn a subscription is told all that it is
pub own_told : (before : List Triple) (space : Space) (one : ℕ) (numbers : List ℕ) (number : ℕ) → one ≡ number → AreOthers numbers number
    → change_among before space (one ∷ numbers) number ≡ change_at before space (subscription_at space.subscriptions one)
own_told before space one numbers number e others =
    let found = subscription_at space.subscriptions one in
    let after = tell_living before space found in
    ap (λ b. (if b then change_at before space found else []) ++ change_among before after numbers number) (eq-eqb one number e)
    ∙ ap (λ l. change_at before space found ++ l) (others_told before after numbers number others) ∙ append-nil (change_at before space found)

-- and at that of another nothing
pub other_told : (before : List Triple) (space : Space) (one : ℕ) (numbers : List ℕ) (number : ℕ) → one ≢ number
    → change_among before space (one ∷ numbers) number ≡ change_among before (tell_living before space (subscription_at space.subscriptions one)) numbers number
other_told before space one numbers number n =
    let found = subscription_at space.subscriptions one in
    ap (λ b. (if b then change_at before space found else []) ++ change_among before (tell_living before space found) numbers number) (ne_eqb one number n)

-- numbers stay different whatever follows from a request
pub own_holds : HoldsOfTelling (λ old new. HaveOwn old.subscriptions → HaveOwn new.subscriptions)
own_holds = record {
  sending = record {
    same = λ space own. own;
    chain = λ a b c p q own. q (p own);
    sends = λ space link message own. filter_differs (λ s. is_open (state_of (changed (sent message) space.links link) s.link)) space.subscriptions own;
  };
  drops = λ space number own. filter_differs (λ s. not (has_number number s)) space.subscriptions own;
  counts = λ space number own. subst DoDiffer (sym (told_numbers number space.subscriptions)) own;
}

module _ (before : List Triple) (number : ℕ) (beginnings : List Beginning) (changes : List Change) where
  -- those of the number were followed over the graph, by the changes before and these
  abbrev Goal : List Triple → Space → List Change → Type 0
  Goal graph space more = AreFollowed graph space.subscriptions number beginnings (changes ++ more)

  turn_own : (space : Space) (t : Subscription) → Contains space.subscriptions t → t.number ≡ number → HaveOwn space.subscriptions
      → IsOrdered before → IsOrdered space.graph → IsFollowed before t beginnings changes
      → Goal space.graph (tell_living before space (Some t)) (change_at before space (Some t))
  turn_own space t there is own b a f =
      let difference = difference_over before space.graph t.wanted in
      let bytes = change_bytes space t difference in
      turn_cases (Goal space.graph) (nat_lt 65536 (width_over space.graph t.wanted)) (is_empty_difference difference) (nat_lt 4194304 (length bytes)) (takes space.links t.link bytes)
      (end_over space t) space (queue (with_next space t.number) t.link (Some bytes)) (record { sequence = t.sequence + 1; difference = difference })
      (λ s c same. absurd (none_over space t number s is c same))
      (λ empty s c same.
      subst (IsFollowed space.graph s beginnings) (sym (append-nil changes))
      (subst (λ s. IsFollowed space.graph s beginnings changes) (own_alone space.subscriptions t s own there c (is ∙ sym same))
      (followed_same before space.graph b a t beginnings changes empty f)))
      (λ full took s c same.
      subst (λ s. IsFollowed space.graph s beginnings (changes ++ record { sequence = t.sequence + 1; difference = difference } ∷ []))
      (told_is space t bytes s own there c (same ∙ sym is)) (followed_more before space.graph b a t beginnings changes full f))
      (λ lost s c same. absurd (true≢false (sym (told_took space t bytes s (told_is space t bytes s own there c (same ∙ sym is)) c) ∙ lost)))

  -- at its turn the subscription of the number is led on
  turn_leads : (space : Space) (found : Option Subscription) → subscription_at space.subscriptions number ≡ found → HaveOwn space.subscriptions
      → IsOrdered before → IsOrdered space.graph → AreFollowed before space.subscriptions number beginnings changes
      → Goal space.graph (tell_living before space found) (change_at before space found)
  turn_leads space None h own b a f = λ s c same. absurd (none_found space.subscriptions number h s.number (number_in space.subscriptions s c) same)
  turn_leads space (Some t) h own b a f =
      let at = found_there space.subscriptions number t h in
      turn_own space t at.0 at.1 own b a (f t at.0 at.1)

  -- among turns one of which is its own it is led on
  pub turns_lead : (numbers : List ℕ) (space : Space) → Contains numbers number → DoDiffer numbers → HaveOwn space.subscriptions
      → IsOrdered before → IsOrdered space.graph → AreFollowed before space.subscriptions number beginnings changes
      → Goal space.graph (tell_changes before space numbers) (change_among before space numbers number)
  turns_lead [] space c d own b a f = absurd (none_in number c)
  turns_lead (one ∷ numbers) space c d own b a f = ⊎_elim here
      (λ n. later n (turns_lead numbers after (rest n) d.1 own_after b (subst IsOrdered (sym graph_after) a)
      (λ s there same. f s (turn_apart before space one number s found refl n there same) same)))
      (cases_eq one number)
    where
      found : Option Subscription
      found = subscription_at space.subscriptions one

      after : Space
      after = tell_living before space found

      own_after : HaveOwn after.subscriptions
      own_after = living_holds (λ old new. HaveOwn old.subscriptions → HaveOwn new.subscriptions) own_holds before space found own

      graph_after : after.graph ≡ space.graph
      graph_after = (living_holds IsAlike alike_holds before space found).graph

      rest : one ≢ number → Contains numbers number
      rest n = ⊎_elim (λ (e : one ≡ number). absurd (n e)) (λ (c : Contains numbers number). c) (cons_cases one numbers number c)

      here : one ≡ number → Goal space.graph (tell_changes before after numbers) (change_among before space (one ∷ numbers) number)
      here e s there same =
          let others = subst (AreOthers numbers) e d.0 in
          subst (λ more. IsFollowed space.graph s beginnings (changes ++ more)) (sym (own_told before space one numbers number e others))
          (turn_leads space found (ap (subscription_at space.subscriptions) (sym e)) own b a f s (others_stay before after numbers number s others there same) same)

      later : one ≢ number → Goal after.graph (tell_changes before after numbers) (change_among before after numbers number)
          → Goal space.graph (tell_changes before after numbers) (change_among before space (one ∷ numbers) number)
      later n g s there same =
          subst (λ more. IsFollowed space.graph s beginnings (changes ++ more)) (sym (other_told before space one numbers number n))
          (subst (λ graph. IsFollowed graph s beginnings (changes ++ change_among before after numbers number)) graph_after (g s there same))
