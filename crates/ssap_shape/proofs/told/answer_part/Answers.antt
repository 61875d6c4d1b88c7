-- What can't be read stands for nothing.
use Rattle.std.proofs.Common.{◌∙◌, sym, subst, ◌&&◌}
use Rattle.answer_bodies.specs.Reading.{IsReadAs}
use Rattle.ssap_shape.specs.declared.name.Name as name
use Rattle.ssap_shape.specs.Told.{is_success, has_results}
use Rattle.ssap_shape.specs.Fields.{IsField}
use Rattle.ssap_shape.proofs.MissingFields.{wrong_where}
use Rattle.ssap_shape.proofs.told.answer_part.Goals as goal

pub returns-in-Wrong : goal.returns-in-Wrong
returns-in-Wrong c =
    let params = c.args.envelope.now.params in
    let wrong = subst (IsField IsReadAs params name.TheVariants.Results) c.in-Wrong.is c.in_ok-answer.ensures in
    wrong_where IsReadAs params name.TheVariants.Results (is_success c.args.status && has_results c.args.envelope.now.heads.transaction)
    (sym c.lists_results.ensures ∙ c.if-not-lists_results.false) wrong.0 wrong.1
