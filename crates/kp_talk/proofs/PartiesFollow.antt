-- What a party does with the changes of a subscription.
use Rattle.std.proofs.Common.{◌≡◌, ◌∙◌, ap, sym, refl, subst, arith, ℕ, ◌+◌, ◌<◌, zero, suc, Bool, true, false, List, [], ◌∷◌, Result, Ok, Err}
use Rattle.ssap_shape.specs.declared.reply.Incoming.{Incoming}
use Rattle.kp_client.specs.Mirroring.{Mirroring}
use Rattle.kp_talk.specs.Talk.{follows}
use Rattle.kp_talk.specs.Stages.{Future, behind, rest_at, told_to, IsOn, IsStage, IsReady}
use Rattle.kp_talk.specs.Saying.{Outlets, Answers, FollowsOn}
use Rattle.kp_talk.specs.declared.errand.Errand.{Errand}
use Rattle.kp_talk.specs.declared.finish.Finish.{Finish}
use Rattle.kp_talk.specs.declared.party.Party.{Party}
use Rattle.kp_talk.specs.declared.stage.Stage.{Stage}
use Rattle.kp_talk.specs.declared.stage.Stage.TheVariants.{Following}
use Rattle.kp_talk.specs.declared.ending.Ending.{Ending}
use Rattle.kp_talk.specs.declared.ending.Ending.TheVariants.{Finished, ReadFault, WriteFault, NoMemory, Spent}
use Rattle.kp_talk.proofs.StepsAnswer.{answers_same, answers_behind}

-- what is told to a party that follows
abbrev pub told_following : Errand → ℕ → Mirroring → Incoming → Future
told_following errand left mirror incoming more last = follows last errand left mirror (incoming ∷ more)

-- a failure there is one of the party
failed : (errand : Errand) (t : Future) (a b : Outlets) (ending : Ending) (left : ℕ) (mirror : Mirroring) (next : Party) → FollowsOn errand t a b (Err ending) left mirror
    → Answers errand t a b (Err ending) next
failed errand t a b (Finished finish) left mirror next h = h
failed errand t a b ReadFault left mirror next h = h
failed errand t a b WriteFault left mirror next h = h
failed errand t a b NoMemory left mirror next h = h
failed errand t a b Spent left mirror next h = h

module _ (errand : Errand) (party : Party) (left : ℕ) (mirror : Mirroring) (incoming : Incoming) (is : party.stage ≡ Following left mirror) where
  -- what is left of its talk
  same : (more : List Incoming) (last : Finish) → told_to errand party incoming more last ≡ told_following errand left mirror incoming more last
  same more last = ap (λ (s : Stage). rest_at errand party.client.made s (incoming ∷ more) last) is

  pub follows_failed : (a b : Outlets) (ending : Ending) (left_ : ℕ) (mirror_ : Mirroring) (next : Party) → FollowsOn errand (told_following errand left mirror incoming) a b (Err ending) left_ mirror_
      → Answers errand (told_to errand party incoming) a b (Err ending) next
  follows_failed a b ending left_ mirror_ next h =
      answers_same errand (told_to errand party incoming) (told_following errand left mirror incoming) a b (Err ending) next same
      (failed errand (told_following errand left mirror incoming) a b ending left_ mirror_ next h)

  module _ (on : IsOn errand party) where
    -- how it stands
    at : IsStage errand party.client (Following left mirror)
    at = subst (IsStage errand party.client) is on.1

    -- it is ready for what comes behind the last change
    pub ready : (stage : Stage) → IsReady errand (record party { stage = stage }) 3
    ready stage = record {
      is_for = record { space = on.0.space; node = on.0.node; ask = on.0.ask; goal = on.0.goal; uris = on.0.uris };
      idle = at.1;
      made = ap (λ n. n + 1) at.0;
    }

    pub follows_on : (left_ : ℕ) (mirror_ : Mirroring) (a b : Outlets) (more : Bool) → more ≡ true → FollowsOn errand (told_following errand left mirror incoming) a b (Ok more) left_ mirror_
        → Answers errand (told_to errand party incoming) a b (Ok tt) (record party { stage = Following left_ mirror_ })
    follows_on left_ mirror_ a b more is_more (lines, leads, says, test, bound) = (
      [],
      lines,
      λ after last. same after last ∙ leads after last,
      ((ready (Following left_ mirror_)).is_for, (at.0, at.1, test.0 is_more, bound)),
      says,
    )

    pub follows_done : (left_ : ℕ) (mirror_ : Mirroring) (a b c : Outlets) (more : Bool) (result : Result (Unit {0}) Ending) (next : Party) → more ≡ false
        → FollowsOn errand (told_following errand left mirror incoming) a b (Ok more) left_ mirror_
        → Answers errand (λ after last. follows last errand zero mirror_ after) b c result next → Answers errand (told_to errand party incoming) a c result next
    follows_done left_ mirror_ a b c more result next no_more (lines, leads, says, test, bound) h =
        answers_behind errand (told_to errand party incoming) (λ after last. follows last errand zero mirror_ after) lines
        (λ after last. same after last ∙ leads after last ∙ ap (λ n. behind [] lines (follows last errand n mirror_ after)) (none left_ (λ some. differ (sym no_more ∙ test.1 some)))) a b c result next says h
      where
        none : (n : ℕ) → (0 < n → ⊥) → n ≡ 0
        none zero h = refl
        none (suc n) h = absurd (h (omega arith))

        differ : ◌≡◌ {A = Bool} false true → ⊥
        differ e = cc
