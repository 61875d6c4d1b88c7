use Rattle.std.proofs.Common.{rules}
use Rattle.space_turn.proofs.StepsKeepTheRule.{releases}
use Rattle.space_turn.proofs.turn.Turn.release.Goals as goal

pub fetch_sub-requires : goal.fetch_sub-requires
fetch_sub-requires g c =
    let h = c.requires.holding in (
      search rules,
      search rules,
      releases g.M.Machine.stands g.M.Machine.root c.self.inside.table.shared.key.me.0 _ _ _ h.0 c.self.invariant.1 h.1 h.2 h.3 h.6 h.7,
    )
