use Rattle.std.proofs.Common.{ap, sym, subst, []}
use Rattle.ssap_shape.specs.declared.reply.Incoming.{Incoming}
use Rattle.kp_talk.proofs.ChangesFollow.{told_over, IsOther, over_confirm, follows_same}
use Rattle.kp_talk.proofs.StepsAnswer.{says_nothing}
use Rattle.kp_talk.proofs.following.follow.Goals as goal

-- an indication came
pub returns-in-Indication-clause-follows : goal.returns-in-Indication-clause-follows
returns-in-Indication-clause-follows g c errand written writes =
    follows_same errand _ _ _ _ _ _ _ (λ more last. ap (λ (i : Incoming). told_over errand c.args.left.now c.args.mirror.now i more last) c.in-Indication.is)
    (c.indicated.ensures.follows errand written writes)

-- a confirm came
pub returns-in-Confirm-clause-follows : goal.returns-in-Confirm-clause-follows
returns-in-Confirm-clause-follows g c errand written writes = (
  [],
  λ more last. over_confirm errand c.args.left.now c.args.mirror.now c.args.incoming more last c.requires.left (subst IsOther (sym c.in-Confirm.is) tt),
  λ x. x,
  says_nothing _,
)

-- neither came
pub returns-clause-follows : goal.returns-clause-follows
returns-clause-follows g c errand written writes = (
  [],
  λ more last. over_confirm errand c.args.left.now c.args.mirror.now c.args.incoming more last c.requires.left (subst IsOther (sym c.in-Other.is) tt),
  λ x. x,
  says_nothing _,
)
