-- What can't be read stands for nothing.
use Rattle.std.proofs.Common.{◌∙◌, sym, subst, ◌&&◌}
use Rattle.ssap_shape.specs.Told.{IsNumber}
use Rattle.ssap_shape.specs.declared.name.Name as name
use Rattle.ssap_shape.specs.Told.{is_success, has_number}
use Rattle.ssap_shape.specs.Fields.{IsField}
use Rattle.ssap_shape.proofs.MissingFields.{wrong_where}
use Rattle.ssap_shape.proofs.told.number_part.Goals as goal

pub returns-in-Wrong : goal.returns-in-Wrong
returns-in-Wrong c =
    let params = c.args.envelope.now.params in
    let wrong = subst (IsField IsNumber params name.TheVariants.SubscriptionId) c.in-Wrong.is c.in_ok-number.ensures in
    wrong_where IsNumber params name.TheVariants.SubscriptionId (is_success c.args.status && has_number c.args.envelope.now.heads.transaction)
    (sym c.lists_number.ensures ∙ c.if-not-lists_number.false) wrong.0 wrong.1
