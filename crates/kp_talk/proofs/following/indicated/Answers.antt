use Rattle.std.proofs.Common.{◌∙◌, ap, sym, refl, []}
use Rattle.ssap_shape.specs.declared.reply.Indication.{Indication}
use Rattle.ssap_shape.specs.declared.reply.Incoming.TheVariants as incoming
use Rattle.kp_talk.proofs.ChangesFollow.{told_over, over_own, over_anothers, follows_same}
use Rattle.kp_talk.proofs.StepsAnswer.{says_nothing}
use Rattle.kp_talk.proofs.following.indicated.Goals as goal

-- a change came
pub returns-in-Changes-clause-follows : goal.returns-in-Changes-clause-follows
returns-in-Changes-clause-follows g c errand written writes =
    follows_same errand _ _ _ _ _ _ _ (λ more last. ap (λ (i : Indication). told_over errand c.args.left.now c.args.mirror.now (incoming.Indication i) more last) c.in-Changes.is)
    (c.change.ensures.follows errand c.in-Changes.heads written writes)

-- the subscription ended
pub returns-then-subscription-clause-follows : goal.returns-then-subscription-clause-follows
returns-then-subscription-clause-follows g c errand written writes = (
  [],
  λ more last. over_own errand c.args.left.now c.args.mirror.now c.args.indication c.in-Ended.heads c.in-Ended.subscription c.in-Ended.status more last c.requires.left c.in-Ended.is
      (c.if-subscription.true ∙ c.subscription.ensures),
  λ x. x,
  says_nothing _,
)

-- another one did
pub returns-clause-follows : goal.returns-clause-follows
returns-clause-follows g c errand written writes = (
  [],
  λ more last. over_anothers errand c.args.left.now c.args.mirror.now c.args.indication c.in-Ended.heads c.in-Ended.subscription c.in-Ended.status more last c.requires.left c.in-Ended.is
      (λ e. c.if-subscription.false (e ∙ sym c.subscription.ensures)),
  says_nothing _,
  (λ e. c.requires.left, λ h. refl),
  c.requires.count,
)
