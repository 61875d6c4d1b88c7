-- The messages of confirms and indications tell what was sent.
use Rattle.std.proofs.Common.{◌≡◌, ℕ, Bool, true, false, ◌&&◌, List, [], ◌∷◌, ◌++◌, Option, Some, None, refl}
use Rattle.ssap_items.specs.declared.envelope.Param.{Param}
use Rattle.answer_bodies.specs.declared.answer.Answer.{Answer}
use Rattle.answer_bodies.specs.Laws.{IsSound}
use Rattle.answer_bodies.specs.Reading.{IsReadAs}
use Rattle.answer_bodies.proofs.Backs.{read_back}
use Rattle.ssap_shape.specs.declared.name.Name.TheVariants.{Status, SubscriptionId, Results, Sequence, NewResults, ObsoleteResults}
use Rattle.ssap_shape.specs.declared.status.Status as status
use Rattle.ssap_shape.specs.declared.reply.Indication.TheVariants.{Changes, Ended}
use Rattle.ssap_shape.specs.Table.{word}
use Rattle.ssap_shape.specs.Replies.{status_param, number_param, answer_param, subscription_params, results_params}
use Rattle.ssap_shape.specs.Told.{IsNumber, all_named, StandsWhere, is_success, has_number, has_results}
use Rattle.ssap_shape.specs.Sendable.{IsShort, MaySend}
use Rattle.ssap_shape.specs.Laws.{ConfirmsAreTold, IndicationsAreTold}

-- the parameters of a confirm
abbrev confirm_params : status.Status → Option ℕ → Option Answer → List Param
confirm_params it number answer = (status_param it ∷ []) ++ subscription_params number ++ results_params answer

-- its status stands once
status_once : (it : status.Status) (number : Option ℕ) (answer : Option Answer) → all_named (confirm_params it number answer) Status ≡ status_param it ∷ []
unfolding word
status_once it None None = refl
status_once it None (Some answer) = refl
status_once it (Some number) None = refl
status_once it (Some number) (Some answer) = refl

-- its number stands once, where it has one
number_once : (it : status.Status) (number : Option ℕ) (answer : Option Answer) → all_named (confirm_params it number answer) SubscriptionId ≡ subscription_params number
unfolding word
number_once it None None = refl
number_once it None (Some answer) = refl
number_once it (Some number) None = refl
number_once it (Some number) (Some answer) = refl

-- so do its results
results_once : (it : status.Status) (number : Option ℕ) (answer : Option Answer) → all_named (confirm_params it number answer) Results ≡ results_params answer
unfolding word
results_once it None None = refl
results_once it None (Some answer) = refl
results_once it (Some number) None = refl
results_once it (Some number) (Some answer) = refl

-- a number that may be sent stands
number_stands : (sent : Bool) (params : List Param) (number : Option ℕ) → all_named params SubscriptionId ≡ subscription_params number → MaySend sent IsShort number
    → StandsWhere sent IsNumber params SubscriptionId number
number_stands true params None all may = all
number_stands true params (Some number) all may = (number_param SubscriptionId number, all, (refl, may))
number_stands false params None all may = refl
number_stands false params (Some number) all may = absurd may

-- so do results
results_stand : (sent : Bool) (params : List Param) (answer : Option Answer) → all_named params Results ≡ results_params answer → MaySend sent IsSound answer
    → StandsWhere sent IsReadAs params Results answer
results_stand true params None all may = all
results_stand true params (Some answer) all may = (answer_param Results answer, all, read_back answer may)
results_stand false params None all may = refl
results_stand false params (Some answer) all may = absurd may

pub confirms_told : ConfirmsAreTold
confirms_told confirm may =
    let params = confirm_params confirm.status confirm.subscription confirm.answer in record {
      kind = refl;
      heads = refl;
      status = (status_param confirm.status, status_once confirm.status confirm.subscription confirm.answer, refl);
      subscription = number_stands (is_success confirm.status && has_number confirm.heads.transaction) params confirm.subscription
          (number_once confirm.status confirm.subscription confirm.answer) may.subscription;
      answer = results_stand (is_success confirm.status && has_results confirm.heads.transaction) params confirm.answer
          (results_once confirm.status confirm.subscription confirm.answer) may.answer;
    }

pub indications_told : IndicationsAreTold
unfolding word
indications_told (Changes heads subscription sequence difference) may = (
  refl,
  may.0,
  refl,
  (number_param SubscriptionId subscription, refl, (refl, may.1)),
  (number_param Sequence sequence, refl, (refl, may.2)),
  (answer_param NewResults difference.added, refl, read_back difference.added may.3),
  (answer_param ObsoleteResults difference.obsolete, refl, read_back difference.obsolete may.4),
)
indications_told (Ended heads subscription it) may = (
  refl,
  may.0,
  refl,
  (number_param SubscriptionId subscription, refl, (refl, may.1)),
  (status_param it, refl, refl),
)
