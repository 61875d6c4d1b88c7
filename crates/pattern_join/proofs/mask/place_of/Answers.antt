use Rattle.pattern_join.proofs.Masks.{variable_place}
use Rattle.pattern_join.proofs.mask.place_of.Goals as goal

pub returns-in-Var : goal.returns-in-Var
returns-in-Var g c =
    variable_place (g.T.TermTable.terms c.args.table.now) c.requires.once c.args.row.now c.in-Var.var c.args.place.now c.get.result c.in-Var.is c.get.ensures
    c.requires.rising c.requires.named
