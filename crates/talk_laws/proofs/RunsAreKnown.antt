-- What is known of the spaces before and after each call of a history.
use Rattle.std.proofs.Common.{◌≡◌, ◌≤◌, ◌<◌, ◌^◌, ℕ, ◌+◌, Bool, true, false, not, cond, List, [], ◌∷◌, ◌++◌, length, filter, Contains, Option, Some, None, refl, sym, ap, subst, ◌∙◌, arith, length-append}
use Rattle.std.specs.List.{AllByRecursion}
use Rattle.std.specs.List.Sorted.{IsStrictlySortedBy}
use Rattle.std.proofs.lemmas.List.Elements.{Contains-append_left}
use Rattle.std.proofs.lemmas.List.Kept.{IsStrictlySortedBy-filter}
use Rattle.m3_terms.specs.Text.{IsText}
use Rattle.m3_terms.specs.Order.{triple_cmp, row_cmp}
use Rattle.ssap_items.specs.declared.heads.Transaction as transaction
use Rattle.answer_bodies.specs.declared.answer.Answer.{Answer}
use Rattle.answer_bodies.specs.declared.answer.Answer.TheVariants.{Triples, Table}
use Rattle.answer_bodies.specs.Differences.{without_rows}
use Rattle.answer_bodies.specs.Laws.{IsSound, IsSoundTriple, IsSoundRow}
use Rattle.answer_bodies.specs.Lists.{is_among}
use Rattle.ssap_shape.specs.Sound.{IsSoundId, AreSoundHeads}
use Rattle.ssap_shape.specs.declared.request.Wish.TheVariants.{Sparql}
use Rattle.session_core.specs.Space.{Space, empty_space}
use Rattle.session_core.specs.Subscriptions.{Subscription, Wanted, wanted_by, answer_over, heads_for, subscription_at}
use Rattle.session_core.specs.Runs.{run}
use Rattle.session_core.specs.Steps.{step}
use Rattle.session_core.specs.declared.call.Call.{Call}
use Rattle.session_core.specs.declared.call.Call.TheVariants as call
use Rattle.session_core.proofs.Growing.{name_stays, triples_in_order}
use Rattle.session_core.proofs.ChangesLeadOn.{answers_may_follow}
use Rattle.session_core.proofs.NumbersDiffer.{HaveOwn, own_alone, found_there, none_found, number_in}
use Rattle.session_core.proofs.SubscriptionsAreFollowed.{answers_are_followed}
use Rattle.talk_laws.specs.Truth.{IsErrand, AreHandled}
use Rattle.talk_laws.proofs.Plain.{IsSmall, IsSaid}
use Rattle.talk_laws.proofs.Fits.{IsOurs, Given}
use Rattle.talk_laws.proofs.HistoriesGo.{run_one}
use Rattle.talk_laws.proofs.DeliveriesElsewhere.{Known}
use Rattle.talk_laws.proofs.CallsGo.{AllKnown}
use Rattle.talk_laws.proofs.CallsCount.{run_counts, run_own}
use Rattle.talk_laws.proofs.DeliveriesHere.{NumbersAreIds}

-- the answers to a text over the graphs of histories are sound
abbrev pub AnswersAreSaid : Type 0
AnswersAreSaid = (name : List ℕ) (history : List Call) (text : List ℕ) (wanted : Wanted) → AreHandled history → IsText text → wanted_by (Sparql text) ≡ Some wanted
    → IsSaid (answer_over (run name history).graph wanted)

kept_all : {A : Type 0} (P : A → Type 0) (test : A → Bool) (xs : List A) → AllByRecursion P xs → AllByRecursion P (filter test xs)
kept_all P test [] p = tt
kept_all P test (x ∷ xs) p = by (test x) (kept_all P test xs p.1)
  where
    by : (b : Bool) → AllByRecursion P (filter test xs) → AllByRecursion P (cond b (x ∷ filter test xs) (filter test xs))
    by true rest = (p.0, rest)
    by false rest = rest

-- what is left of a sound answer is sound
without_sound : (answer other : Answer) → IsSound answer → IsSound (without_rows answer other)
without_sound (Triples triples) (Triples others) s = record {
  rises = IsStrictlySortedBy-filter triple_cmp (λ item. not (is_among triple_cmp others item)) triples s.rises;
  each = kept_all IsSoundTriple (λ item. not (is_among triple_cmp others item)) triples s.each;
}
without_sound (Triples triples) (Table names others) s = s
without_sound (Table columns rows) (Triples others) s = s
without_sound (Table columns rows) (Table names others) s = record {
  distinct = s.distinct;
  rises = IsStrictlySortedBy-filter row_cmp (λ item. not (is_among row_cmp others item)) rows s.rises;
  each = kept_all (IsSoundRow columns) (λ item. not (is_among row_cmp others item)) rows s.each;
}

-- a subscription that lives is found
found_own : (xs : List Subscription) (s : Subscription) (found : Option Subscription) → subscription_at xs s.number ≡ found → HaveOwn xs → Contains xs s → found ≡ Some s
found_own xs s None e own c = absurd (none_found xs s.number e s.number (number_in xs s c) refl)
found_own xs s (Some t) e own c =
    let there = found_there xs s.number t e in
    ap (λ t. Some t) (own_alone xs t s own there.0 c there.1)

without_said : (answer other : Answer) → IsSaid answer → IsSaid (without_rows answer other)
without_said (Triples triples) (Triples others) s = (without_sound (Triples triples) (Triples others) s.0, s.1)
without_said (Triples triples) (Table names others) s = s
without_said (Table columns rows) (Triples others) s = s
without_said (Table columns rows) (Table names others) s = (without_sound (Table columns rows) (Table names others) s.0, s.1)

module _ (ids : NumbersAreIds) (sound : AnswersAreSaid) (given : Given) (is : IsErrand given.errand given.text) (handled : AreHandled given.history) (few : length given.history < 2 ^ 64) where
  module _ (past later : List Call) (one : Call) (split : given.history ≡ past ++ one ∷ later) where
    counted : length past + 1 ≤ length given.history
    counted =
        let e = ap length split in
        let s = length-append past (one ∷ later) in
        omega (arith, e, s)

    handled_front : (front back : List Call) → given.history ≡ front ++ back → AreHandled front
    handled_front front back e link arrived c =
        handled link arrived (subst (λ l. Contains l (call.Deliver link arrived)) (sym e) (Contains-append_left front back (call.Deliver link arrived) c))

    small_of : (s : Subscription) → Contains (run given.name past).subscriptions s → IsSmall s.number × IsSmall (s.sequence + 1)
    small_of s c =
        let own = run_own given.name past s.number in
        let number = own.1 s c in
        let numbers = run_counts given.name past in
        let found : subscription_at (run given.name past).subscriptions s.number ≡ Some s =
        found_own (run given.name past).subscriptions s (subscription_at (run given.name past).subscriptions s.number) refl own.0 c in
        let followed = (answers_are_followed given.name past s.number s found).last in
        let told = own.2 in
        let all = counted in
        ((omega (arith, number, numbers, all, few)), (omega (arith, followed, told, all, few)))

    heads_of : (s : Subscription) → IsOurs given.name given.errand given.text s → (kind : transaction.Transaction) → AreSoundHeads (heads_for given.name s kind)
    heads_of s ours kind = record {
      transaction_id = subst IsSoundId (sym ours.transaction) (ids 2 (omega arith));
      node_id = subst IsSoundId (sym ours.node) is.node;
      space_id = subst IsSoundId (sym ours.named) is.space;
    }

    after : (step (run given.name past) one).space ≡ run given.name (past ++ one ∷ [])
    after = sym (run_one (empty_space given.name) past one)

    sound_before : (wanted : Wanted) → wanted_by (Sparql given.text) ≡ Some wanted → IsSaid (answer_over (run given.name past).graph wanted)
    sound_before wanted asks = sound given.name past given.text wanted (handled_front past (one ∷ later) split) is.is_text asks

    sound_after : (wanted : Wanted) → wanted_by (Sparql given.text) ≡ Some wanted → IsSaid (answer_over (step (run given.name past) one).space.graph wanted)
    sound_after wanted asks =
        subst (λ (s : Space). IsSaid (answer_over s.graph wanted)) (sym after)
        (sound given.name (past ++ one ∷ []) given.text wanted (handled_front (past ++ one ∷ []) later (split ∙ pushed past)) is.is_text asks)
      where
        pushed : (xs : List Call) → xs ++ one ∷ later ≡ (xs ++ one ∷ []) ++ later
        pushed [] = refl
        pushed (x ∷ xs) = ap (λ l. x ∷ l) (pushed xs)

    known_one : Known given (run given.name past) (step (run given.name past) one).space
    known_one = record {
      named = name_stays given.name past;
      own = (run_own given.name past 0).0;
      small = small_of;
      next_small = let numbers = run_counts given.name past in let all = counted in omega (arith, numbers, all, few);
      heads = heads_of;
      follows = λ wanted. answers_may_follow (run given.name past).graph (step (run given.name past) one).space.graph wanted (triples_in_order given.name past)
          (subst (λ (s : Space). IsStrictlySortedBy triple_cmp s.graph) (sym after) (triples_in_order given.name (past ++ one ∷ [])));
      sound = sound_before;
      sides = λ wanted asks. (
        without_said (answer_over (step (run given.name past) one).space.graph wanted) (answer_over (run given.name past).graph wanted) (sound_after wanted asks),
        without_said (answer_over (run given.name past).graph wanted) (answer_over (step (run given.name past) one).space.graph wanted) (sound_before wanted asks),
      );
    }

  -- all is known
  pub all_known : AllKnown given
  all_known past later one split = known_one past later one split
