use Rattle.std.proofs.Common.{◌∙◌, ◌≤◌, length, refl, ap, sym, subst, arith, true≢false}
use Rattle.std.specs.List.{AllZip}
use Rattle.delta_eval.specs.Changed.{IsChangeOf, HasRoomFor}
use Rattle.delta_eval.specs.Standing.{Kept, Changes, HasRoom, KeepsRows}
use Rattle.delta_eval.proofs.PlaceByPlace.{zip_long}
use Rattle.delta_eval.proofs.StandingLaws.{still_step}
use Rattle.delta_eval.proofs.standing.Standing.reserve.Goals as goal

pub reserve_all-requires : goal.reserve_all-requires
reserve_all-requires c =
    ap (λ (k : Kept). length k.parts) c.self.view_is ∙ zip_long IsChangeOf c.args.self.now.parts c.args.step.now.parts c.requires.parts
    ∙ sym (ap (λ (s : Changes). length s.parts) c.step.view_is) ∙ sym (ap length c.deref.ensures.value)

pub returns-in_err-reserve_all-clause-step : goal.returns-in_err-reserve_all-clause-step
returns-in_err-reserve_all-clause-step c =
    let i = c.self.inside in
    let new : Kept = record { wanted = i.wanted; parts = c.reserve_all.new.lists.items; answer = i.answer } in
    still_step c.args.self.now new c.args.step.now
    (subst (λ (k : Kept). KeepsRows k new) c.self.view_is (record { wanted = refl; parts = c.in_err-reserve_all.ensures.rows; answer = refl })) c.requires

pub returns-in_err-reserve_all-clause-succeeds : goal.returns-in_err-reserve_all-clause-succeeds
returns-in_err-reserve_all-clause-succeeds c all =
    let here = subst (λ (k : Kept). HasRoom k c.args.step.now) (sym c.self.view_is) all in
    let there = subst (λ (s : Changes). AllZip HasRoomFor c.self.inside.parts.items s.parts) (sym c.step.view_is) here.parts in
    absurd (true≢false (sym (c.in_err-reserve_all.ensures.succeeds (subst (AllZip HasRoomFor c.self.inside.parts.items) (sym c.deref.ensures.value) there))))

pub returns-clause-succeeds : goal.returns-clause-succeeds
returns-clause-succeeds c all =
    let here = subst (λ (k : Kept). HasRoom k c.args.step.now) (sym c.self.view_is) all in
    let there : HasRoomFor c.self.inside.answer c.step.inside.answer = subst (λ (s : Changes). HasRoomFor c.self.inside.answer s.answer) (sym c.step.view_is) here.answer in
    let enough : c.len.result ≤ c.self.inside.answer.room = omega (arith, there, c.len.ensures.length) in
    c.reserve.ensures.succeeds enough

pub returns-clause-step : goal.returns-clause-step
returns-clause-step c =
    let i = c.self.inside in
    let new : Kept = record { wanted = i.wanted; parts = c.reserve_all.new.lists.items; answer = c.reserve.new.self } in
    still_step c.args.self.now new c.args.step.now
    (subst (λ (k : Kept). KeepsRows k new) c.self.view_is (record { wanted = refl; parts = c.in_ok-reserve_all.ensures.rows; answer = c.reserve.ensures.rows })) c.requires
