-- The words of each list are tried.
use Rattle.std.proofs.Common.{refl}
use Rattle.ssap_grammar.specs.Head.{message_types}
use Rattle.ssap_machine.specs.Words.{words}
use Rattle.ssap_machine.specs.Options.{options}
use Rattle.ssap_machine.specs.Choosing.{pushed}
use Rattle.ssap_machine.proofs.Choosing.{told_listed}
use Rattle.ssap_machine.proofs.candidates.find_listed.Goals as goal

pub returns-in-Greater : goal.returns-in-Greater
unfolding options words pushed message_types
returns-in-Greater c = told_listed c.in-Greater.is c.find.ensures refl

pub returns-in-Equals : goal.returns-in-Equals
unfolding options words pushed message_types
returns-in-Equals c = told_listed c.in-Equals.is c.find-in-Equals.ensures refl

pub returns-in-Version : goal.returns-in-Version
unfolding options words pushed message_types
returns-in-Version c = told_listed c.in-Version.is c.find-in-Version.ensures refl

pub returns-in-VersionNumber : goal.returns-in-VersionNumber
unfolding options words pushed message_types
returns-in-VersionNumber c = told_listed c.in-VersionNumber.is c.find-in-VersionNumber.ensures refl

pub returns-in-EncodingName : goal.returns-in-EncodingName
unfolding options words pushed message_types
returns-in-EncodingName c = told_listed c.in-EncodingName.is c.find-in-EncodingName.ensures refl

pub returns-in-DeclarationFinish : goal.returns-in-DeclarationFinish
unfolding options words pushed message_types
returns-in-DeclarationFinish c = told_listed c.in-DeclarationFinish.is c.find-in-DeclarationFinish.ensures refl

pub returns-in-MessageTypes : goal.returns-in-MessageTypes
unfolding options words pushed message_types
returns-in-MessageTypes c = told_listed c.in-MessageTypes.is c.find-in-MessageTypes.ensures refl

pub returns-in-Name : goal.returns-in-Name
unfolding options words pushed message_types
returns-in-Name c = told_listed c.in-Name.is c.find-in-Name.ensures refl

pub returns-in-Kind : goal.returns-in-Kind
unfolding options words pushed message_types
returns-in-Kind c = told_listed c.in-Kind.is c.find-in-Kind.ensures refl

pub returns-in-Start : goal.returns-in-Start
unfolding options words pushed
returns-in-Start c = told_listed c.in-Start.is c.find-in-Start.ensures (rw c.start_tag.ensures refl)

pub returns-in-Finish : goal.returns-in-Finish
unfolding options words pushed
returns-in-Finish c = told_listed c.in-Finish.is c.find-in-Finish.ensures (rw c.finish_tag.ensures refl)
