-- Where a parameter of an indication does not stand once, the message tells no indication.
use Rattle.std.proofs.Common.{◌≡◌, ℕ}
use Rattle.ssap_items.specs.declared.heads.Transaction as transaction
use Rattle.ssap_items.specs.declared.envelope.Envelope.{Envelope}
use Rattle.answer_bodies.specs.declared.answer.Difference.{Difference}
use Rattle.answer_bodies.specs.Reading.{IsReadAs}
use Rattle.ssap_shape.specs.declared.name.Name as name
use Rattle.ssap_shape.specs.declared.status.Status.{Status}
use Rattle.ssap_shape.specs.declared.reply.Indication.{Indication}
use Rattle.ssap_shape.specs.declared.reply.Indication.TheVariants.{Changes, Ended}
use Rattle.ssap_shape.specs.Told.{IsNumber, IsStatus, StandsOnce, IsIndication}

module _ (envelope : Envelope) where
  -- the number of the subscription
  pub no_number : ((number : ℕ) → ¬ (StandsOnce IsNumber envelope.params name.TheVariants.SubscriptionId number)) → (indication : Indication) → ¬ (IsIndication envelope indication)
  no_number none (Changes heads subscription sequence difference) is = none subscription is.3
  no_number none (Ended heads subscription status) is = none subscription is.3

  -- the number of the change
  pub no_sequence : envelope.heads.transaction ≡ transaction.TheVariants.Subscribe
      → ((number : ℕ) → ¬ (StandsOnce IsNumber envelope.params name.TheVariants.Sequence number)) → (indication : Indication) → ¬ (IsIndication envelope indication)
  no_sequence kind none (Changes heads subscription sequence difference) is = none sequence is.4
  no_sequence kind none (Ended heads subscription status) is = absurd (cc)

  -- the results
  pub no_difference : envelope.heads.transaction ≡ transaction.TheVariants.Subscribe
      → ((difference : Difference) → ¬ (StandsOnce IsReadAs envelope.params name.TheVariants.NewResults difference.added
      × StandsOnce IsReadAs envelope.params name.TheVariants.ObsoleteResults difference.obsolete)) → (indication : Indication) → ¬ (IsIndication envelope indication)
  no_difference kind none (Changes heads subscription sequence difference) is = none difference (is.5, is.6)
  no_difference kind none (Ended heads subscription status) is = absurd (cc)

  -- the status
  pub no_status : envelope.heads.transaction ≡ transaction.TheVariants.Unsubscribe
      → ((status : Status) → ¬ (StandsOnce IsStatus envelope.params name.TheVariants.Status status)) → (indication : Indication) → ¬ (IsIndication envelope indication)
  no_status kind none (Changes heads subscription sequence difference) is = absurd (cc)
  no_status kind none (Ended heads subscription status) is = none status is.4
