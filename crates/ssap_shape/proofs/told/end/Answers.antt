-- Where a parameter can't be read no end is told.
use Rattle.std.proofs.Common.{subst}
use Rattle.ssap_shape.specs.declared.name.Name as name
use Rattle.ssap_shape.specs.Told.{IsNumber}
use Rattle.ssap_shape.specs.Fields.{IsOnce}
use Rattle.ssap_shape.proofs.UntoldIndications.{no_number, no_status}
use Rattle.ssap_shape.proofs.told.end.Goals as goal

pub returns-in_default : goal.returns-in_default
returns-in_default c = no_number c.args.envelope.now
    (subst (IsOnce IsNumber c.args.envelope.now.params name.TheVariants.SubscriptionId) c.in_default.is c.in_ok-subscription.ensures)

pub returns-in_default-status : goal.returns-in_default-status
returns-in_default-status c = no_status c.args.envelope.now c.requires.transaction c.in_default-status.ensures
