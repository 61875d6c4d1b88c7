-- Steps of a space that leave a link and the subscription on it as they were.
use Rattle.std.proofs.Common.{◌≡◌, ◌≢◌, ℕ, ◌+◌, nat_lt, Bool, true, false, not, List, [], ◌∷◌, length, map, filter, Contains, Option, Some, None, refl, sym, ap, subst, ◌∙◌, if◌then◌else◌}
use Rattle.std.proofs.lemmas.Bool.{ne_eqb}
use Rattle.m3_terms.specs.declared.triple.Triple.{Triple}
use Rattle.m3_terms.specs.InsertedLaws.{head_in, tail_in, was_there, is_kept}
use Rattle.query_eval.proofs.Counts.{mapped_from, mapped_to}
use Rattle.answer_bodies.specs.Differences.{is_empty_difference}
use Rattle.link_table.specs.Links.{Link, is_open, link_at, changed, sent, state_of, state_or_never}
use Rattle.link_table.proofs.OtherLinksStay.{link_at-others}
use Rattle.ssap_shape.specs.declared.status.Status.TheVariants.{OutOfResources}
use Rattle.session_core.specs.Space.{Space}
use Rattle.session_core.specs.Subscriptions.{Subscription, has_number, subscription_at, width_over, indication_bytes, ended_by}
use Rattle.session_core.specs.Queues.{queue, with_links}
use Rattle.session_core.specs.Following.{takes, told_once_more, with_next, without_number, end_over, difference_over, change_bytes, tell_living, tell_changes}
use Rattle.session_core.proofs.NumbersDiffer.{AreOthers, HaveOwn, own_alone, found_there}
use Rattle.session_core.proofs.WhatFollowsHolds.{living_holds}
use Rattle.session_core.proofs.ChangesLeadOn.{turn_cases, own_holds}

-- no subscription lives on a link
abbrev pub Vacant : ℕ → Space → Type 0
Vacant link space = (s : Subscription) → Contains space.subscriptions s → s.link ≢ link

-- a link is open, and one subscription lives on it
pub record Housed (link : ℕ) (space : Space) (s : Subscription) : Type 0 where
  pub lives : Contains space.subscriptions s
  pub here : s.link ≡ link
  pub opened : is_open (state_of space.links link) ≡ true
  pub sole : (other : Subscription) → Contains space.subscriptions other → other.link ≡ link → other ≡ s

-- a link and the subscription on it are as they were
pub record Quiet (link : ℕ) (old new : Space) : Type 0 where
  pub same : link_at new.links link ≡ link_at old.links link
  pub vacant : Vacant link old → Vacant link new
  pub housed : (s : Subscription) → Housed link old s → Housed link new s

-- a number is not that of the subscription on a link
abbrev pub IsElse : ℕ → Space → ℕ → Type 0
IsElse link space number = (s : Subscription) → Housed link space s → s.number ≢ number

module _ (link : ℕ) where
  pub quiet_same : (space : Space) → Quiet link space space
  quiet_same space = record { same = refl; vacant = λ v. v; housed = λ s h. h }

  pub quiet_chain : (a b c : Space) → Quiet link a b → Quiet link b c → Quiet link a c
  quiet_chain a b c p q = record {
    same = q.same ∙ p.same;
    vacant = λ v. q.vacant (p.vacant v);
    housed = λ s h. q.housed s (p.housed s h);
  }

  open_so : (old new : List Link) → link_at new link ≡ link_at old link → is_open (state_of old link) ≡ true → is_open (state_of new link) ≡ true
  open_so old new same h = ap (λ found. is_open (state_or_never found)) same ∙ h

  -- where other links change
  pub quiet_linked : (space : Space) (links : List Link) → link_at links link ≡ link_at space.links link → Quiet link space (with_links space links)
  quiet_linked space links same = record {
    same = same;
    vacant = λ v s c. v s (was_there (λ s. is_open (state_of links s.link)) space.subscriptions s c);
    housed = λ s h. record {
      lives = is_kept (λ s. is_open (state_of links s.link)) space.subscriptions s (ap (λ l. is_open (state_of links l)) h.here ∙ open_so space.links links same h.opened) h.lives;
      here = h.here;
      opened = open_so space.links links same h.opened;
      sole = λ other c on. h.sole other (was_there (λ s. is_open (state_of links s.link)) space.subscriptions other c) on;
    };
  }

  pub quiet_queue : (space : Space) (other : ℕ) (due : Option (List ℕ)) → other ≢ link → Quiet link space (queue space other due)
  quiet_queue space other None apart = quiet_same space
  quiet_queue space other (Some message) apart =
      quiet_linked space (changed (sent message) space.links other) (link_at-others (sent message) space.links other link (λ e. apart (sym e)))

  -- where some subscriptions end that are not the one on the link
  pub quiet_filter : (space new : Space) (test : Subscription → Bool) → new.links ≡ space.links → new.subscriptions ≡ filter test space.subscriptions
      → ((s : Subscription) → Housed link space s → test s ≡ true) → Quiet link space new
  quiet_filter space new test links is stays = record {
    same = ap (λ l. link_at l link) links;
    vacant = λ v s c. v s (was_there test space.subscriptions s (subst (λ l. Contains l s) is c));
    housed = λ s h. record {
      lives = subst (λ l. Contains l s) (sym is) (is_kept test space.subscriptions s (stays s h) h.lives);
      here = h.here;
      opened = ap (λ l. is_open (state_of l link)) links ∙ h.opened;
      sole = λ other c on. h.sole other (was_there test space.subscriptions other (subst (λ l. Contains l other) is c)) on;
    };
  }

  pub quiet_without : (space : Space) (number : ℕ) → IsElse link space number → Quiet link space (without_number space number)
  quiet_without space number other =
      quiet_filter space (without_number space number) (λ s. not (has_number number s)) refl refl (λ s h. ap not (ne_eqb s.number number (other s h)))

  told_link : (number : ℕ) (s : Subscription) → (told_once_more number s).link ≡ s.link
  told_link number s = at (has_number number s)
    where
      at : (b : Bool) → (if b then record s { sequence = s.sequence + 1 } else s).link ≡ s.link
      at true = refl
      at false = refl

  told_else : (number : ℕ) (s : Subscription) → s.number ≢ number → told_once_more number s ≡ s
  told_else number s other = ap (λ b. if b then record s { sequence = s.sequence + 1 } else s) (ne_eqb s.number number other)

  pub quiet_next : (space : Space) (number : ℕ) → IsElse link space number → Quiet link space (with_next space number)
  quiet_next space number other = record {
    same = refl;
    vacant = λ v s c on.
        let from = mapped_from (told_once_more number) space.subscriptions s c in
        v from.0 from.1 (sym (told_link number from.0) ∙ ap (λ (s : Subscription). s.link) from.2 ∙ on);
    housed = λ s h. record {
      lives = subst (Contains (map (told_once_more number) space.subscriptions)) (told_else number s (other s h)) (mapped_to (told_once_more number) space.subscriptions s h.lives);
      here = h.here;
      opened = h.opened;
      sole = λ one c on.
          let from = mapped_from (told_once_more number) space.subscriptions one c in
          let was = h.sole from.0 from.1 (sym (told_link number from.0) ∙ ap (λ (s : Subscription). s.link) from.2 ∙ on) in
          sym from.2 ∙ ap (told_once_more number) was ∙ told_else number s (other s h);
    };
  }

  -- a subscription of another link ends, or is told once more
  pub quiet_over : (space : Space) (t : Subscription) → IsElse link space t.number → t.link ≢ link → Quiet link space (end_over space t)
  quiet_over space t other apart =
      quiet_chain space (without_number space t.number) (end_over space t) (quiet_without space t.number other)
      (quiet_queue (without_number space t.number) t.link (Some (indication_bytes (ended_by space.name t OutOfResources))) apart)

  pub quiet_told : (space : Space) (t : Subscription) (message : List ℕ) → IsElse link space t.number → t.link ≢ link
      → Quiet link space (queue (with_next space t.number) t.link (Some message))
  quiet_told space t message other apart =
      quiet_chain space (with_next space t.number) (queue (with_next space t.number) t.link (Some message)) (quiet_next space t.number other)
      (quiet_queue (with_next space t.number) t.link (Some message) apart)

  -- the turn of a subscription of another link
  pub quiet_turn : (before : List Triple) (space : Space) (t : Subscription) → Contains space.subscriptions t → HaveOwn space.subscriptions → t.link ≢ link
      → Quiet link space (tell_living before space (Some t))
  quiet_turn before space t there own apart =
      let difference = difference_over before space.graph t.wanted in
      let bytes = change_bytes space t difference in
      let other : IsElse link space t.number = λ s h same. apart (ap (λ (s : Subscription). s.link) (sym (own_alone space.subscriptions s t own h.lives there same)) ∙ h.here) in
      turn_cases (λ after more. Quiet link space after)
      (nat_lt 65536 (width_over space.graph t.wanted)) (is_empty_difference difference) (nat_lt 4194304 (length bytes)) (takes space.links t.link bytes)
      (end_over space t) space (queue (with_next space t.number) t.link (Some bytes)) (record { sequence = t.sequence + 1; difference = difference })
      (quiet_over space t other apart) (λ empty. quiet_same space) (λ full took. quiet_told space t bytes other apart) (λ lost. quiet_told space t bytes other apart)

  own_after : (before : List Triple) (space : Space) (found : Option Subscription) → HaveOwn space.subscriptions → HaveOwn (tell_living before space found).subscriptions
  own_after before space found own = living_holds (λ old new. HaveOwn old.subscriptions → HaveOwn new.subscriptions) own_holds before space found own

  -- the turn of a number, where its subscription is of another link
  pub quiet_found : (before : List Triple) (space : Space) (number : ℕ) (found : Option Subscription) → subscription_at space.subscriptions number ≡ found
      → HaveOwn space.subscriptions → ((t : Subscription) → Contains space.subscriptions t → t.number ≡ number → t.link ≢ link)
      → Quiet link space (tell_living before space found)
  quiet_found before space number None h own apart = quiet_same space
  quiet_found before space number (Some t) h own apart =
      let there = found_there space.subscriptions number t h in
      quiet_turn before space t there.0 own (apart t there.0 there.1)

  -- the turns of all, where none lives on the link
  pub quiet_vacant : (before : List Triple) (numbers : List ℕ) (space : Space) → HaveOwn space.subscriptions → Vacant link space
      → Quiet link space (tell_changes before space numbers)
  quiet_vacant before [] space own v = quiet_same space
  quiet_vacant before (number ∷ numbers) space own v =
      let found = subscription_at space.subscriptions number in
      let next = tell_living before space found in
      let first = quiet_found before space number found refl own (λ t c e. v t c) in
      quiet_chain space next (tell_changes before next numbers) first (quiet_vacant before numbers next (own_after before space found own) (first.vacant v))

  -- the turns of others
  pub quiet_housed : (before : List Triple) (numbers : List ℕ) (space : Space) (s : Subscription) → HaveOwn space.subscriptions → Housed link space s
      → AreOthers numbers s.number → Quiet link space (tell_changes before space numbers)
  quiet_housed before [] space s own h others = quiet_same space
  quiet_housed before (number ∷ numbers) space s own h others =
      let found = subscription_at space.subscriptions number in
      let next = tell_living before space found in
      let first = quiet_found before space number found refl own
      (λ t c e on. others number (head_in number numbers) (sym e ∙ ap (λ (t : Subscription). t.number) (h.sole t c on)))
      in
      quiet_chain space next (tell_changes before next numbers) first
      (quiet_housed before numbers next s (own_after before space found own) (first.housed s h) (λ other c. others other (tail_in number numbers other c)))
