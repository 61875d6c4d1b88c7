use Rattle.std.proofs.Common.{refl, subst}
use Rattle.delta_eval.specs.Standing.{Kept, Changes, IsAfter}
use Rattle.delta_eval.proofs.standing.Standing.commit.Goals as goal

pub returns : goal.returns
returns c =
    let i = c.self.inside in
    let before : Kept = record { wanted = i.wanted; parts = i.parts.items; answer = i.answer } in
    let after : Kept = record { wanted = i.wanted; parts = c.apply_all.new.lists.items; answer = c.apply.new.rows } in
    subst (λ (k : Kept). IsAfter k c.args.step after) c.self.view_is
    (subst (λ (s : Changes). IsAfter before s after) c.step.view_is (record { wanted = refl; parts = c.apply_all.ensures; answer = c.apply.ensures }))
