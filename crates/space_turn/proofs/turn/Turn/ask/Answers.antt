use Rattle.std.proofs.Common.{rules}
use Rattle.space_turn.proofs.StepsKeepTheRule.{asks}
use Rattle.space_turn.proofs.turn.Turn.ask.Goals as goal

pub fetch_or-requires : goal.fetch_or-requires
fetch_or-requires g c = (search rules, search rules, asks g.M.Machine.stands g.M.Machine.root c.self.inside.table.shared.key.me.0 _ _ _ c.requires.idle)
