use Rattle.std.proofs.Common.{◌∙◌, sym}
use Rattle.std.proofs.lemmas.Result.{err_from_is_err_and}
use Rattle.kp_talk.specs.declared.stage.Stage.TheVariants.{Following}
use Rattle.kp_talk.proofs.PartiesFollow.{follows_failed, follows_on, follows_done, ready}
use Rattle.kp_talk.proofs.party.Party.change.Goals as goal

-- a change could not be taken
pub returns-in_err-follow-in-Following : goal.returns-in_err-follow-in-Following
returns-in_err-follow-in-Following g c errand on =
    let p = err_from_is_err_and c.from_residual.result c.from_residual.ensures.1 in
    rw (p.1, p.2) (follows_failed errand c.args.self.now c.in-Following.left c.in-Following.mirror c.args.incoming c.in-Following.is _ _ _ _ _ _ (c.in_err-follow-in-Following.ensures.follows errand _ _))

-- more changes are awaited
pub returns-then-branch : goal.returns-then-branch
returns-then-branch g c errand on =
    follows_on errand c.args.self.now c.in-Following.left c.in-Following.mirror c.args.incoming c.in-Following.is on c.follow.new.left c.follow.new.mirror _ _ _ c.if-branch.true
    (c.in_ok-follow-in-Following.ensures.follows errand _ _)

-- the last was taken
pub returns : goal.returns
returns g c errand on =
    follows_done errand c.args.self.now c.in-Following.left c.in-Following.mirror c.args.incoming c.in-Following.is on c.follow.new.left c.follow.new.mirror _ _ _ _ _ _ c.if-branch.false
    (c.in_ok-follow-in-Following.ensures.follows errand _ _)
    (c.unsubscribe.ensures errand (ready errand c.args.self.now c.in-Following.left c.in-Following.mirror c.args.incoming c.in-Following.is on (Following c.follow.new.left c.follow.new.mirror)) c.follow.new.mirror
    (c.in_ok-follow-in-Following.ensures.same ∙ sym c.subscription-number.ensures) _ _)
