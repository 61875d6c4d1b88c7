use Rattle.std.proofs.Common.{◌≡◌, ap, sym, refl, arith, ℕ, ◌<◌, zero, suc, []}
use Rattle.kp_talk.specs.Talk.{follows}
use Rattle.kp_talk.proofs.StepsAnswer.{answers_same, says_nothing}
use Rattle.kp_talk.proofs.party.Party.begin.Goals as goal

-- what is not nothing is some
positive : (n : ℕ) → (n ≡ 0 → ⊥) → 0 < n
positive zero h = absurd (h refl)
positive (suc n) h = omega arith

-- no change is awaited
pub returns-then-count-eq0 : goal.returns-then-count-eq0
returns-then-count-eq0 g c errand r printed prints =
    answers_same errand _ (λ more last. follows last errand 0 c.args.mirror more) _ _ _ _ (λ more last. ap (λ n. follows last errand n c.args.mirror more) c.if-count-eq0.true)
    (c.unsubscribe.ensures errand r c.args.mirror (sym c.subscription.ensures) printed prints)

-- some are
pub returns : goal.returns
returns g c errand r printed prints = (
  [],
  [],
  λ more last. refl,
  (
    record { space = r.is_for.space; node = r.is_for.node; ask = r.is_for.ask; goal = r.is_for.goal; uris = r.is_for.uris },
    (omega (arith, r.made), r.idle, positive c.args.count c.if-count-eq0.false, omega (arith, c.requires.fresh, c.ranges.count)),
  ),
  says_nothing _,
)
