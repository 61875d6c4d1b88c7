use Rattle.std.proofs.Common.{rules}
use Rattle.space_turn.proofs.StepsKeepTheRule.{opens}
use Rattle.space_turn.proofs.turn.Turn.make.Goals as goal

pub new-requires : goal.new-requires
new-requires g c = opens g.M.Machine.stands g.M.Machine.root c.in_ok-token.token.me.0 _ c.args.machine (search rules) c.requires.empty (search rules)
