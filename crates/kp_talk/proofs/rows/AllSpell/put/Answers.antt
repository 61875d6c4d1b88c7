use Rattle.std.proofs.Common.{◌++◌, ◌+◌, take, drop}
use Rattle.std.specs.List.{flat_map}
use Rattle.std.proofs.lemmas.Result.{err_from_is_err_and}
use Rattle.ssap_encode.proofs.Lists.{flat_map_around}
use Rattle.kp_talk.proofs.rows.AllSpell.put.Goals as goal

-- an item was refused, and those behind it were not put
pub returns-in_err-print : goal.returns-in_err-print
returns-in_err-print g c =
    let text = g.T.Printed.text in
    let items = c.args.self.now.0.now in
    let at = c.loop-item.item-index in
    let item = c.item-item.result in
    let rest = flat_map text (drop (at + 1) items) in
    let around = flat_map_around text items at item c.loop-item-test.true c.item-item.is in
    let p = err_from_is_err_and c.from_residual.result c.from_residual.ensures.1 in
    rw (p.1, around) (g.met.O.Out.stops_behind _ _ _ (flat_map text (take at items)) (text item ++ rest) c.loop-item.invariant
    (g.met.O.Out.stops_before _ _ (text item) rest c.in_err-print.ensures))
