use Rattle.pattern_join.proofs.Masks.{mask_is}
use Rattle.pattern_join.proofs.mask.mask_of.Goals as goal

pub returns : goal.returns
returns g c =
    mask_is (g.T.TermTable.terms c.args.table.now) c.args.row.now c.args.pattern.now c.in_ok-subject.subject c.in_ok-predicate.predicate c.in_ok-object.object
    c.in_ok-subject.ensures c.in_ok-predicate.ensures c.in_ok-object.ensures
