-- Where a part can't be read no confirm is told.
use Rattle.std.proofs.Common.{subst, ◌&&◌}
use Rattle.answer_bodies.specs.Reading.{IsReadAs}
use Rattle.ssap_shape.specs.declared.name.Name as name
use Rattle.ssap_shape.specs.Told.{is_success, has_number, has_results, IsNumber}
use Rattle.ssap_shape.specs.Fields.{IsPart}
use Rattle.ssap_shape.proofs.UntoldConfirms.{no_status, no_number, no_answer}
use Rattle.ssap_shape.proofs.told.confirm.Goals as goal

pub returns-in_default : goal.returns-in_default
returns-in_default c = no_status c.args.envelope.now c.in_default.ensures

pub returns-in_default-2 : goal.returns-in_default-2
returns-in_default-2 c =
    let e = c.args.envelope.now in
    no_number e c.in-Some.status c.in-Some.ensures
    (subst (IsPart (is_success c.in-Some.status && has_number e.heads.transaction) IsNumber e.params name.TheVariants.SubscriptionId) c.in_default-2.is c.in_ok-subscription.ensures)

pub returns-in_default-3 : goal.returns-in_default-3
returns-in_default-3 c =
    let e = c.args.envelope.now in
    no_answer e c.in-Some.status c.in-Some.ensures
    (subst (IsPart (is_success c.in-Some.status && has_results e.heads.transaction) IsReadAs e.params name.TheVariants.Results) c.in_default-3.is c.in_ok-answer.ensures)
