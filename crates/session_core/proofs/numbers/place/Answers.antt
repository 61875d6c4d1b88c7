use Rattle.std.proofs.Common.{◌∙◌, ap, sym}
use Rattle.session_core.specs.Numbers.{place_of}
use Rattle.session_core.proofs.NumbersMeanTerms.{number_listed}
use Rattle.session_core.proofs.numbers.place.Goals as goal

pub returns-in_err-id_of-in-Is : goal.returns-in_err-id_of-in-Is
returns-in_err-id_of-in-Is g c =
    let found = number_listed _ _ _ _ (g.met.T.Listed.by_position c.args.table.now) c.id_of.ensures.once c.id_of.ensures.id in
    rw (c.in-Is.is, c.from_residual.ensures) (ap place_of (sym c.in_err-id_of-in-Is.was ∙ found))

pub returns-in_ok-id_of-in-Is : goal.returns-in_ok-id_of-in-Is
returns-in_ok-id_of-in-Is g c =
    let found = number_listed _ _ _ _ (g.met.T.Listed.by_position c.args.table.now) c.id_of.ensures.once c.id_of.ensures.id in
    rw c.in-Is.is (ap place_of (sym c.in_ok-id_of-in-Is.was ∙ found))
