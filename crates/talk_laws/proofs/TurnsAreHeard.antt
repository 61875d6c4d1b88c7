-- What is heard on a link of the turns that follow from an update: nothing, a change, an end, or nothing more at all.
use Rattle.std.proofs.Common.{◌≡◌, ◌≢◌, ℕ, ◌+◌, nat_lt, Bool, true, false, ◌&&◌, not, List, [], ◌∷◌, ◌++◌, length, map, Contains, Option, Some, None, refl, sym, ap, subst, ◌∙◌, arith, if◌then◌else◌}
use Rattle.std.proofs.lemmas.Bool.{cases_eq, eq-eqb}
use mathlib.Core.Bool.{true≢false}
use mathlib.Core.Logic.{⊎_elim}
use Rattle.m3_terms.specs.declared.triple.Triple.{Triple}
use Rattle.m3_terms.specs.InsertedLaws.{cons_cases, was_there, is_kept}
use Rattle.query_eval.proofs.Counts.{mapped_from, mapped_to}
use Rattle.sparql_algebra.proofs.Gathered.{none_in}
use Rattle.sparql_algebra.proofs.ListMembers.{kept}
use Rattle.answer_bodies.specs.Differences.{is_empty_difference}
use Rattle.link_table.specs.Links.{Link, is_open, link_at, changed, sent, state_of, state_or_never, pending_of, pending_or_none}
use Rattle.ssap_shape.specs.declared.status.Status.TheVariants.{OutOfResources}
use Rattle.session_core.specs.Space.{Space}
use Rattle.session_core.specs.Subscriptions.{Subscription, has_number, subscription_at, answer_over, width_over, indication_bytes, ended_by, changed_by}
use Rattle.session_core.specs.Queues.{queue, with_links}
use Rattle.session_core.specs.Following.{Change, takes, told_once_more, with_next, without_number, end_over, difference_over, change_bytes, tell_living, tell_changes, change_at, change_among}
use Rattle.session_core.proofs.NumbersDiffer.{AreOthers, HaveOwn, DoDiffer, own_alone, found_there, none_found, number_in}
use Rattle.session_core.proofs.WhatFollowsHolds.{living_holds}
use Rattle.session_core.proofs.Growing.{IsAlike, alike_holds}
use Rattle.session_core.proofs.ChangesLeadOn.{own_holds, own_told, other_told, none_over}
use Rattle.talk_laws.proofs.LinksTakeOrClose.{IsShut, took, missed}
use Rattle.talk_laws.proofs.QuietSteps.{Vacant, Housed, Quiet, quiet_same, quiet_chain, quiet_found, quiet_housed, quiet_vacant}

-- a subscription after one more change was told
abbrev pub told_more : Subscription → Subscription
told_more s = record s { sequence = s.sequence + 1 }

-- the change of a subscription's answer
abbrev pub change_of : List Triple → List Triple → Subscription → Change
change_of before graph s = record { sequence = s.sequence + 1; difference = difference_over before graph s.wanted }

-- what is heard of the subscription on a link: nothing, where its answer is as before; or its change; or its end; or the link closes
pub data Heard (name : List ℕ) (link : ℕ) (before graph : List Triple) (old new : Space) (s : Subscription) (told : List Change) : Type 0 where
  Nothing : Quiet link old new → answer_over before s.wanted ≡ answer_over graph s.wanted → Heard name link before graph old new s told
  News : pending_of new.links link ≡ pending_of old.links link ++ indication_bytes (changed_by name s (difference_over before graph s.wanted)) ∷ []
      → Housed link new (told_more s) → Contains told (change_of before graph s)
      → nat_lt 4194304 (length (indication_bytes (changed_by name s (difference_over before graph s.wanted)))) ≡ false → Heard name link before graph old new s told
  Ending : pending_of new.links link ≡ pending_of old.links link ++ indication_bytes (ended_by name s OutOfResources) ∷ [] → Vacant link new
      → link_at new.links link ≢ None → Heard name link before graph old new s told
  Lost : pending_of new.links link ≡ pending_of old.links link → IsShut new.links link → Vacant link new → Heard name link before graph old new s told

-- what comes of a turn
spoken_cases : (Goal : Space → List Change → Type 0) (wide empty long taken : Bool) (over space next : Space) (change : Change)
    → Goal over [] → (empty ≡ true → Goal space []) → (long ≡ false → taken ≡ true → Goal next (change ∷ [])) → (taken ≡ false → Goal next [])
    → Goal (if wide then over else if empty then space else if long then over else next) (if not wide && (not empty && (not long && taken)) then change ∷ [] else [])
spoken_cases Goal true empty long taken over space next change o s n c = o
spoken_cases Goal false true long taken over space next change o s n c = s refl
spoken_cases Goal false false true taken over space next change o s n c = o
spoken_cases Goal false false false true over space next change o s n c = n refl refl
spoken_cases Goal false false false false over space next change o s n c = c refl

-- an open link is known
pub open_known : (links : List Link) (link : ℕ) → is_open (state_of links link) ≡ true → link_at links link ≢ None
open_known links link h none = true≢false (sym h ∙ ap (λ found. is_open (state_or_never found)) none)

-- none lives on a link that is shut
pub shut_vacant : (space : Space) (links : List Link) (link : ℕ) → is_open (state_of links link) ≡ false → Vacant link (with_links space links)
shut_vacant space links link shut s c on =
    let open_now = ((kept (λ s. is_open (state_of links s.link)) space.subscriptions s).0 c).1 in
    true≢false (sym open_now ∙ ap (λ l. is_open (state_of links l)) on ∙ shut)

one_there : (change : Change) → Contains (change ∷ []) change
one_there change = (0, omega arith, refl)

module _ (link : ℕ) (before : List Triple) where
  module _ (space : Space) (s : Subscription) (h : Housed link space s) where
    -- none lives on the link after the end of its subscription
    vacant_over : Vacant link (end_over space s)
    vacant_over t c on =
        let links = changed (sent (indication_bytes (ended_by space.name s OutOfResources))) space.links s.link in
        let left = was_there (λ t. is_open (state_of links t.link)) (without_number space s.number).subscriptions t c in
        let was = was_there (λ t. not (has_number s.number t)) space.subscriptions t left in
        none_over space s s.number t refl c (ap (λ (t : Subscription). t.number) (h.sole t was on))

    abbrev Hears : Space → List Change → Type 0
    Hears new told = Heard space.name link before space.graph space new s told

    here_links : (message : List ℕ) → changed (sent message) space.links s.link ≡ changed (sent message) space.links link
    here_links message = ap (changed (sent message) space.links) h.here

    over_by : (taken : Bool) → takes space.links link (indication_bytes (ended_by space.name s OutOfResources)) ≡ taken → Hears (end_over space s) []
    over_by true e =
        let bytes = indication_bytes (ended_by space.name s OutOfResources) in
        let t = took bytes space.links link e in
        Ending (ap (λ links. pending_of links link) (here_links bytes) ∙ t.0) vacant_over
        (open_known (end_over space s).links link (ap (λ links. is_open (state_of links link)) (here_links bytes) ∙ t.1))
    over_by false e =
        let bytes = indication_bytes (ended_by space.name s OutOfResources) in
        let m = missed bytes space.links link h.opened e in
        Lost (ap (λ links. pending_of links link) (here_links bytes) ∙ m.0) (subst (λ links. IsShut links link) (sym (here_links bytes)) m.1) vacant_over

    over_heard : Hears (end_over space s) []
    over_heard = over_by (takes space.links link (indication_bytes (ended_by space.name s OutOfResources))) refl

    once_more : told_once_more s.number s ≡ told_more s
    once_more = ap (λ b. if b then record s { sequence = s.sequence + 1 } else s) (eq-eqb s.number s.number refl)

    told_on : (number : ℕ) (t : Subscription) → (told_once_more number t).link ≡ t.link
    told_on number t = at (has_number number t)
      where
        at : (b : Bool) → (if b then record t { sequence = t.sequence + 1 } else t).link ≡ t.link
        at true = refl
        at false = refl

    -- after a change was told the subscription lives, one change further
    housed_next : (message : List ℕ) → is_open (state_of (changed (sent message) space.links link) link) ≡ true
        → Housed link (queue (with_next space s.number) s.link (Some message)) (told_more s)
    housed_next message open_now =
        let links = changed (sent message) space.links s.link in
        let open_here = ap (λ l. is_open (state_of l link)) (here_links message) ∙ open_now in
        let mapped = map (told_once_more s.number) space.subscriptions in
        record {
          lives = is_kept (λ t. is_open (state_of links t.link)) mapped (told_more s) (ap (λ l. is_open (state_of links l)) h.here ∙ open_here)
              (subst (Contains mapped) once_more (mapped_to (told_once_more s.number) space.subscriptions s h.lives));
          here = h.here;
          opened = open_here;
          sole = λ other c on.
              let from = mapped_from (told_once_more s.number) space.subscriptions other (was_there (λ t. is_open (state_of links t.link)) mapped other c) in
              let was = h.sole from.0 from.1 (sym (told_on s.number from.0) ∙ ap (λ (t : Subscription). t.link) from.2 ∙ on) in
              sym from.2 ∙ ap (told_once_more s.number) was ∙ once_more;
        }

    -- at its turn
    turn_heard : (is_empty_difference (difference_over before space.graph s.wanted) ≡ true → answer_over before s.wanted ≡ answer_over space.graph s.wanted)
        → Hears (tell_living before space (Some s)) (change_at before space (Some s))
    turn_heard equal =
        let difference = difference_over before space.graph s.wanted in
        let bytes = change_bytes space s difference in
        let next = queue (with_next space s.number) s.link (Some bytes) in
        let same = here_links bytes in
        spoken_cases Hears (nat_lt 65536 (width_over space.graph s.wanted)) (is_empty_difference difference) (nat_lt 4194304 (length bytes)) (takes space.links s.link bytes)
        (end_over space s) space next (change_of before space.graph s)
        over_heard
        (λ empty. Nothing (quiet_same link space) (equal empty))
        (λ short taken.
        let t = took bytes space.links link (ap (λ l. takes space.links l bytes) (sym h.here) ∙ taken) in
        News (ap (λ links. pending_of links link) same ∙ t.0) (housed_next bytes t.1) (one_there (change_of before space.graph s)) short)
        (λ lost.
        let m = missed bytes space.links link h.opened (ap (λ l. takes space.links l bytes) (sym h.here) ∙ lost) in
        let shut = subst (λ links. IsShut links link) (sym same) m.1 in
        Lost (ap (λ links. pending_of links link) same ∙ m.0) shut (shut_vacant (with_next space s.number) (changed (sent bytes) space.links s.link) link shut.shut))

  module _ (name : List ℕ) (graph : List Triple) where
    -- quiet steps before and behind
    heard_later : (first old new : Space) (s : Subscription) (told : List Change) → Quiet link first old → Heard name link before graph old new s told
        → Heard name link before graph first new s told
    heard_later first old new s told q (Nothing p e) = Nothing (quiet_chain link first old new q p) e
    heard_later first old new s told q (News waits housed there short) =
        News (waits ∙ ap (λ found. pending_or_none found ++ indication_bytes (changed_by name s (difference_over before graph s.wanted)) ∷ []) q.same) housed there short
    heard_later first old new s told q (Ending waits vacant known) =
        Ending (waits ∙ ap (λ found. pending_or_none found ++ indication_bytes (ended_by name s OutOfResources) ∷ []) q.same) vacant known
    heard_later first old new s told q (Lost waits shut vacant) = Lost (waits ∙ ap pending_or_none q.same) shut vacant

    heard_then : (old new last : Space) (s : Subscription) (told : List Change) → Housed link old s
        → ((t : Subscription) → Housed link new t → t.number ≡ s.number → Quiet link new last) → (Vacant link new → Quiet link new last)
        → Heard name link before graph old new s told → Heard name link before graph old last s told
    heard_then old new last s told h stays none (Nothing p e) = Nothing (quiet_chain link old new last p (stays s (p.housed s h) refl)) e
    heard_then old new last s told h stays none (News waits housed there short) =
        let q = stays (told_more s) housed refl in
        News (ap pending_or_none q.same ∙ waits) (q.housed (told_more s) housed) there short
    heard_then old new last s told h stays none (Ending waits vacant known) =
        let q = none vacant in
        Ending (ap pending_or_none q.same ∙ waits) (q.vacant vacant) (λ gone. known (sym q.same ∙ gone))
    heard_then old new last s told h stays none (Lost waits shut vacant) =
        let q = none vacant in
        Lost (ap pending_or_none q.same ∙ waits) (record {
          known = λ gone. shut.known (sym q.same ∙ gone);
          shut = ap (λ found. is_open (state_or_never found)) q.same ∙ shut.shut;
        }) (q.vacant vacant)

    -- the subscription of a number that lives is found
    found_own : (xs : List Subscription) (s : Subscription) (found : Option Subscription) → subscription_at xs s.number ≡ found → HaveOwn xs → Contains xs s → found ≡ Some s
    found_own xs s None e own c = absurd (none_found xs s.number e s.number (number_in xs s c) refl)
    found_own xs s (Some t) e own c =
        let there = found_there xs s.number t e in
        ap (λ t. Some t) (own_alone xs t s own there.0 c there.1)

    -- among all turns, one of which is its own
    pub turns_heard : (numbers : List ℕ) (space : Space) (s : Subscription) → space.name ≡ name → space.graph ≡ graph → DoDiffer numbers → HaveOwn space.subscriptions
        → Housed link space s → Contains numbers s.number
        → (is_empty_difference (difference_over before graph s.wanted) ≡ true → answer_over before s.wanted ≡ answer_over graph s.wanted)
        → Heard name link before graph space (tell_changes before space numbers) s (change_among before space numbers s.number)
    turns_heard [] space s n g d own h there equal = absurd (none_in s.number there)
    turns_heard (one ∷ numbers) space s n g d own h there equal = ⊎_elim here
        (λ apart. later apart (λ next same_name same_graph own_next housed. turns_heard numbers next s same_name same_graph d.1 own_next housed (rest apart) equal))
        (cases_eq one s.number)
      where
        found : Option Subscription
        found = subscription_at space.subscriptions one

        next : Space
        next = tell_living before space found

        last : Space
        last = tell_changes before next numbers

        own_next : HaveOwn next.subscriptions
        own_next = living_holds (λ old new. HaveOwn old.subscriptions → HaveOwn new.subscriptions) own_holds before space found own

        alike : IsAlike space next
        alike = living_holds IsAlike alike_holds before space found

        rest : one ≢ s.number → Contains numbers s.number
        rest apart = ⊎_elim (λ (e : one ≡ s.number). absurd (apart e)) (λ (c : Contains numbers s.number). c) (cons_cases one numbers s.number there)

        Hear : Space → List Change → Type 0
        Hear new told = Heard name link before graph space new s told

        here : one ≡ s.number → Hear last (change_among before space (one ∷ numbers) s.number)
        here e =
            let others = subst (AreOthers numbers) e d.0 in
            let is = found_own space.subscriptions s found (ap (subscription_at space.subscriptions) (sym e)) own h.lives in
            let equal_here = subst (λ graph. is_empty_difference (difference_over before graph s.wanted) ≡ true → answer_over before s.wanted ≡ answer_over graph s.wanted) (sym g) equal in
            let own_turn : Heard name link before graph space (tell_living before space (Some s)) s (change_at before space (Some s)) =
            subst (λ graph. Heard name link before graph space (tell_living before space (Some s)) s (change_at before space (Some s))) g
            (subst (λ name. Heard name link before space.graph space (tell_living before space (Some s)) s (change_at before space (Some s))) n
            (turn_heard space s h equal_here))
            in
            let spoken = subst (λ found. Hear (tell_living before space found) (change_at before space found)) (sym is) own_turn in
            subst (Hear last) (sym (own_told before space one numbers s.number e others))
            (heard_then space next last s (change_at before space found) h
            (λ t housed same. quiet_housed link before numbers next t own_next housed (subst (AreOthers numbers) (sym same) others))
            (λ vacant. quiet_vacant link before numbers next own_next vacant) spoken)

        later : one ≢ s.number
            → ((next : Space) → next.name ≡ name → next.graph ≡ graph → HaveOwn next.subscriptions → Housed link next s
            → Heard name link before graph next (tell_changes before next numbers) s (change_among before next numbers s.number))
            → Hear last (change_among before space (one ∷ numbers) s.number)
        later apart rec =
            let q = quiet_found link before space one found refl own (λ t c e on. apart (sym e ∙ ap (λ (t : Subscription). t.number) (h.sole t c on))) in
            subst (Hear last) (sym (other_told before space one numbers s.number apart))
            (heard_later space next last s (change_among before next numbers s.number) q (rec next (alike.name ∙ n) (alike.graph ∙ g) own_next (q.housed s h)))
