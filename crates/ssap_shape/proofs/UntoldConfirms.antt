-- Where a part of a confirm can't be read, the message tells no confirm.
use Rattle.std.proofs.Common.{◌≡◌, subst, ◌&&◌, None}
use Rattle.ssap_items.specs.declared.envelope.Envelope.{Envelope}
use Rattle.answer_bodies.specs.Reading.{IsReadAs}
use Rattle.ssap_shape.specs.declared.name.Name as name
use Rattle.ssap_shape.specs.declared.status.Status.{Status}
use Rattle.ssap_shape.specs.declared.reply.Confirm.{Confirm}
use Rattle.ssap_shape.specs.Told.{is_success, has_number, has_results, IsNumber, IsStatus, StandsOnce, StandsWhere, IsConfirm}
use Rattle.ssap_shape.specs.Fields.{IsPart}
use Rattle.ssap_shape.proofs.OneTold.{status_once, stands_once}

module _ (envelope : Envelope) where
  -- the status
  pub no_status : ((status : Status) → ¬ (StandsOnce IsStatus envelope.params name.TheVariants.Status status)) → (confirm : Confirm) → ¬ (IsConfirm envelope confirm)
  no_status none confirm is = none confirm.status is.status

  module _ (it : Status) (stands : StandsOnce IsStatus envelope.params name.TheVariants.Status it) where
    -- the status of a confirm is the one that stands
    same : (confirm : Confirm) → IsConfirm envelope confirm → confirm.status ≡ it
    same confirm is = stands_once IsStatus status_once envelope.params name.TheVariants.Status confirm.status it is.status stands

    -- the number of a subscription
    pub no_number : IsPart (is_success it && has_number envelope.heads.transaction) IsNumber envelope.params name.TheVariants.SubscriptionId None
        → (confirm : Confirm) → ¬ (IsConfirm envelope confirm)
    no_number none confirm is = none confirm.subscription
        (subst (λ (s : Status). StandsWhere (is_success s && has_number envelope.heads.transaction) IsNumber envelope.params name.TheVariants.SubscriptionId confirm.subscription)
        (same confirm is) is.subscription)

    -- the results
    pub no_answer : IsPart (is_success it && has_results envelope.heads.transaction) IsReadAs envelope.params name.TheVariants.Results None
        → (confirm : Confirm) → ¬ (IsConfirm envelope confirm)
    no_answer none confirm is = none confirm.answer
        (subst (λ (s : Status). StandsWhere (is_success s && has_results envelope.heads.transaction) IsReadAs envelope.params name.TheVariants.Results confirm.answer)
        (same confirm is) is.answer)
