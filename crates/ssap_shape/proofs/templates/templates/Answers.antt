-- One triple more.
use Rattle.std.proofs.Common.{◌+◌, sym, subst, take}
use Rattle.std.specs.List.{AllZip}
use Rattle.answer_bodies.proofs.Zips.{zip_more}
use Rattle.ssap_shape.specs.Templates.{IsTemplateOf}
use Rattle.ssap_shape.proofs.templates.templates.Goals as goal

pub loop-triple-preserved : goal.loop-triple-preserved
loop-triple-preserved c =
    let item = c.triple-item.result in
    let i = c.loop-triple.triple-index in
    let items = c.as_slice-triple-items.result.now in
    subst (λ l. AllZip IsTemplateOf (take (i + 1) items) l) (sym c.in_ok-push.ensures.ok)
    (zip_more IsTemplateOf items c.loop-triple.templates i item c.in_ok-template.field-0
    c.loop-triple-test.true c.triple-item.is c.loop-triple.invariant c.in_ok-template.ensures)
