use Rattle.std.proofs.Common.{◌∙◌, ap, sym, subst, []}
use Rattle.ssap_shape.specs.Sendable.{IsSoundIncoming}
use Rattle.ssap_shape.specs.declared.reply.Incoming.{Incoming}
use Rattle.kp_client.specs.Asked.{Asking}
use Rattle.kp_talk.specs.Stages.{rest_at, next_at, told_to, IsOn}
use Rattle.kp_talk.specs.declared.finish.Finish.TheVariants as finish
use Rattle.kp_talk.specs.Talk.{finished}
use Rattle.kp_talk.proofs.PartiesAwait.{awaits_it, says_confirmed, says_passed, says_stray, says_refused, over_confirmed, over_refused, over_passed, over_stray, past}
use Rattle.kp_talk.proofs.StepsAnswer.{answers_same, says_nothing}
use Rattle.kp_talk.proofs.party.Party.confirm.Goals as goal

-- what was awaited came
pub advance-requires-clause-past : goal.advance-requires-clause-past
advance-requires-clause-past g c =
    let (errand, on) = c.requires.on in
    let it = awaits_it errand c.args.self.now on c.requires.awaits in
    let t = says_confirmed _ it.awaited _ _ _ _ c.in-Ok-Confirmed.field-0-is (c.in-Ok-Confirmed.ensures.takes it.awaited it.is) in
    (errand, past errand c.args.self.now on c.requires.awaits c.take.new.self t.idle)

-- what is told is sound
pub advance-requires-clause-sound : goal.advance-requires-clause-sound
advance-requires-clause-sound g c =
    let (errand, on) = c.requires.on in
    let it = awaits_it errand c.args.self.now on c.requires.awaits in
    let t = says_confirmed _ it.awaited _ _ _ _ c.in-Ok-Confirmed.field-0-is (c.in-Ok-Confirmed.ensures.takes it.awaited it.is) in
    subst IsSoundIncoming t.is c.requires.sound

-- it goes on
pub returns-in-Ok-Confirmed : goal.returns-in-Ok-Confirmed
returns-in-Ok-Confirmed g c errand on =
    let it = awaits_it errand c.args.self.now on c.requires.awaits in
    let t = says_confirmed _ it.awaited _ _ _ _ c.in-Ok-Confirmed.field-0-is (c.in-Ok-Confirmed.ensures.takes it.awaited it.is) in
    answers_same errand _ (next_at errand c.args.self.now.stage c.in-Ok-Confirmed.confirm) _ _ _ _
    (λ more last. ap (λ (i : Incoming). told_to errand c.args.self.now i more last) t.is
    ∙ over_confirmed errand c.args.self.now on c.requires.awaits c.in-Ok-Confirmed.confirm more last t.own t.success)
    (c.advance.ensures errand (past errand c.args.self.now on c.requires.awaits c.take.new.self t.idle))

-- an indication is passed over
pub returns-in-Ok-Passed : goal.returns-in-Ok-Passed
returns-in-Ok-Passed g c errand on =
    let it = awaits_it errand c.args.self.now on c.requires.awaits in
    let t = says_passed _ it.awaited _ _ _ _ c.in-Ok-Passed.field-0-is (c.in-Ok-Passed.ensures.takes it.awaited it.is) in (
      [],
      [],
      λ more last. ap (λ (i : Incoming). told_to errand c.args.self.now i more last) t.0 ∙ over_passed errand c.args.self.now on c.requires.awaits c.in-Ok-Passed.field-0-0 more last
          ∙ ap (λ (x : Asking). rest_at errand x.made c.args.self.now.stage more last) (sym t.1),
      subst (λ (x : Asking). IsOn errand (record { client = x; ask = c.args.self.now.ask; goal = c.args.self.now.goal; stage = c.args.self.now.stage })) (sym t.1) on,
      says_nothing _,
    )

-- what is not awaited ends the talk
pub returns-in-Err-Unexpected : goal.returns-in-Err-Unexpected
returns-in-Err-Unexpected g c errand on =
    let it = awaits_it errand c.args.self.now on c.requires.awaits in
    let t = says_stray _ it.awaited _ _ _ _ _ c.in-Err-Unexpected.field-0-is (c.in-Err-Unexpected.ensures.takes it.awaited it.is) in
    ([], λ more last. over_stray errand c.args.self.now on c.requires.awaits c.args.incoming more last t, λ x. x, says_nothing _)

-- a refusal ends the talk
pub returns-in-Err-Refused : goal.returns-in-Err-Refused
returns-in-Err-Refused g c errand on =
    let it = awaits_it errand c.args.self.now on c.requires.awaits in
    let t = says_refused _ it.awaited _ _ c.in-Err-Refused.status _ c.in-Err-Refused.field-0-is (c.in-Err-Refused.ensures.takes it.awaited it.is) in (
      [],
      λ more last. ap (λ (i : Incoming). told_to errand c.args.self.now i more last) t.is ∙ over_refused errand c.args.self.now on c.requires.awaits t.confirm more last t.own t.failure
          ∙ ap (λ s. finished (finish.Refused s)) (t.states ∙ sym c.in-Err-Refused.status-is),
      λ x. x,
      says_nothing _,
    )
