-- Where a parameter can't be read no change is told.
use Rattle.std.proofs.Common.{subst, Option}
use Rattle.std.specs.Option.{MatchOption}
use Rattle.answer_bodies.specs.declared.answer.Difference.{Difference}
use Rattle.answer_bodies.specs.Reading.{IsReadAs}
use Rattle.ssap_shape.specs.declared.name.Name as name
use Rattle.ssap_shape.specs.Told.{IsNumber, StandsOnce}
use Rattle.ssap_shape.specs.Fields.{IsOnce}
use Rattle.ssap_shape.proofs.UntoldIndications.{no_number, no_sequence, no_difference}
use Rattle.ssap_shape.proofs.told.changes.Goals as goal

pub returns-in_default : goal.returns-in_default
returns-in_default c = no_number c.args.envelope.now
    (subst (IsOnce IsNumber c.args.envelope.now.params name.TheVariants.SubscriptionId) c.in_default.is c.in_ok-subscription.ensures)

pub returns-in_default-2 : goal.returns-in_default-2
returns-in_default-2 c = no_sequence c.args.envelope.now c.requires.transaction
    (subst (IsOnce IsNumber c.args.envelope.now.params name.TheVariants.Sequence) c.in_default-2.is c.in_ok-sequence.ensures)

pub returns-in_default-3 : goal.returns-in_default-3
returns-in_default-3 c =
    let Both : Difference → Type 0 = λ d. StandsOnce IsReadAs c.args.envelope.now.params name.TheVariants.NewResults d.added
    × StandsOnce IsReadAs c.args.envelope.now.params name.TheVariants.ObsoleteResults d.obsolete
    in
    no_difference c.args.envelope.now c.requires.transaction
    (subst (λ (o : Option Difference). MatchOption o ((d : Difference) → ¬ (Both d)) Both) c.in_default-3.is c.in_ok-difference.ensures)
