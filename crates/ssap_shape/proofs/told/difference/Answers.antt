-- Where one side can't be read there is no difference.
use Rattle.std.proofs.Common.{subst}
use Rattle.answer_bodies.specs.Reading.{IsReadAs}
use Rattle.ssap_shape.specs.declared.name.Name as name
use Rattle.ssap_shape.specs.Fields.{IsOnce}
use Rattle.ssap_shape.proofs.told.difference.Goals as goal

pub returns-in_default : goal.returns-in_default
returns-in_default c difference (added, obsolete) =
    subst (IsOnce IsReadAs c.args.params.now name.TheVariants.NewResults) c.in_default.is c.in_ok-added.ensures difference.added added

pub returns-in-None : goal.returns-in-None
returns-in-None c difference (added, obsolete) =
    subst (IsOnce IsReadAs c.args.params.now name.TheVariants.ObsoleteResults) c.in-None.is c.in_ok-obsolete.ensures difference.obsolete obsolete
