-- What comes of a change of a subscription.
use Rattle.std.proofs.Common.{◌≡◌, ◌∙◌, ap, sym, refl, subst, arith, ℕ, ◌+◌, ◌-◌, ◌<◌, ◌^◌, zero, suc, ◌==◌, Bool, true, false, if◌then◌else◌, List, [], ◌∷◌, ◌++◌, None, Result, Ok, Err, append-nil}
use Rattle.std.specs.Prelude.{⊤}
use lib.Dec.{ltb}
use Rattle.std.proofs.lemmas.Bool.Decides.{nat_tests}
use Rattle.sib_io.specs.Causes.{AppendsPart}
use Rattle.answer_bodies.specs.declared.answer.Answer.{Answer}
use Rattle.sib_io.proofs.KnownLemmas.{part_of_more}
use Rattle.ssap_items.specs.declared.heads.Heads.{Heads}
use Rattle.answer_bodies.specs.declared.answer.Difference.{Difference}
use Rattle.ssap_shape.specs.declared.status.Status.{Status}
use Rattle.ssap_shape.specs.declared.reply.Indication.{Indication}
use Rattle.ssap_shape.specs.declared.reply.Indication.TheVariants.{Changes, Ended}
use Rattle.ssap_shape.specs.declared.reply.Incoming.{Incoming}
use Rattle.ssap_shape.specs.declared.reply.Incoming.TheVariants as incoming
use Rattle.kp_client.specs.Applying.{IsWhy}
use Rattle.kp_client.specs.Mirroring.{Mirroring, mirrored, refusal}
use Rattle.kp_client.specs.declared.fault.MirrorFault.{MirrorFault}
use Rattle.kp_client.specs.declared.fault.MirrorFault.TheVariants as fault
use Rattle.kp_talk.specs.Talk.{Answered, follows, applies, finished, prints}
use Rattle.kp_talk.specs.Lines.{line_bytes, answer_lines}
use Rattle.kp_talk.specs.Stages.{Future}
use Rattle.kp_talk.specs.Saying.{Outlets, Says, SaysPart, IsCause, Fails, FollowsOn, IsBroken}
use Rattle.kp_talk.specs.declared.errand.Errand.{Errand}
use Rattle.kp_talk.specs.declared.finish.Finish.{Finish}
use Rattle.kp_talk.specs.declared.finish.Finish.TheVariants as finish
use Rattle.kp_talk.specs.declared.ending.Ending.{Ending}
use Rattle.kp_talk.specs.declared.ending.Ending.TheVariants.{Finished, ReadFault, WriteFault, NoMemory, Spent}
use Rattle.kp_talk.proofs.StepsAnswer.{says_nothing, nothing_fails, fails_front, fails_same, says_as}

-- the talk while changes are awaited, over what is told next
abbrev pub told_over : Errand → ℕ → Mirroring → Incoming → Future
told_over errand left mirror told more last = follows last errand left mirror (told ∷ more)

-- a message is no indication
abbrev pub IsOther : Incoming → Type 0
IsOther (incoming.Confirm confirm) = ⊤
IsOther (incoming.Other heads) = ⊤
IsOther (incoming.Indication indication) = ⊥

-- a message that is none ends it
pub over_confirm : (errand : Errand) (left : ℕ) (mirror : Mirroring) (told : Incoming) (more : List Incoming) (last : Finish) → 0 < left
    → IsOther told → told_over errand left mirror told more last ≡ finished finish.BrokenMessage
over_confirm errand zero mirror told more last some is = absurd (omega (arith, some))
over_confirm errand (suc n) mirror (incoming.Confirm confirm) more last some is = refl
over_confirm errand (suc n) mirror (incoming.Other heads) more last some is = refl
over_confirm errand (suc n) mirror (incoming.Indication indication) more last some is = absurd is

-- the end of this subscription ends it, and that of another is passed over
over_ended : (errand : Errand) (left : ℕ) (mirror : Mirroring) (heads : Heads) (number : ℕ) (status : Status) (more : List Incoming) (last : Finish) → 0 < left
    → told_over errand left mirror (incoming.Indication (Ended heads number status)) more last
    ≡ (if number == mirror.subscription then finished (finish.Ended status) else follows last errand left mirror more)
over_ended errand zero mirror heads number status more last some = absurd (omega (arith, some))
over_ended errand (suc n) mirror heads number status more last some = refl

pub over_own : (errand : Errand) (left : ℕ) (mirror : Mirroring) (told : Indication) (heads : Heads) (number : ℕ) (status : Status) (more : List Incoming) (last : Finish) → 0 < left
    → told ≡ Ended heads number status → number ≡ mirror.subscription → told_over errand left mirror (incoming.Indication told) more last ≡ finished (finish.Ended status)
over_own errand left mirror told heads number status more last some is own =
    ap (λ i. told_over errand left mirror (incoming.Indication i) more last) is ∙ over_ended errand left mirror heads number status more last some
    ∙ ap (λ b. if b then finished (finish.Ended status) else follows last errand left mirror more) (same number mirror.subscription own)
  where
    same : (a b : ℕ) → a ≡ b → (a == b) ≡ true
    same a b e = grind (arith, nat_tests)

pub over_anothers : (errand : Errand) (left : ℕ) (mirror : Mirroring) (told : Indication) (heads : Heads) (number : ℕ) (status : Status) (more : List Incoming) (last : Finish) → 0 < left
    → told ≡ Ended heads number status → (number ≡ mirror.subscription → ⊥) → told_over errand left mirror (incoming.Indication told) more last ≡ follows last errand left mirror more
over_anothers errand left mirror told heads number status more last some is other =
    ap (λ i. told_over errand left mirror (incoming.Indication i) more last) is ∙ over_ended errand left mirror heads number status more last some
    ∙ ap (λ b. if b then finished (finish.Ended status) else follows last errand left mirror more) (differs number mirror.subscription other)
  where
    differs : (a b : ℕ) → (a ≡ b → ⊥) → (a == b) ≡ false
    differs a b e = grind (arith, nat_tests)

module _ (errand : Errand) (left : ℕ) (mirror : Mirroring) (heads : Heads) (number sequence : ℕ) (difference : Difference) (some : 0 < left) where
  -- the talk over a change
  abbrev pub changing : Future
  changing = told_over errand left mirror (incoming.Indication (Changes heads number sequence difference))

  over_change : (more : List Incoming) (last : Finish)
      → changing more last ≡ applies mirror difference (refusal mirror number sequence difference) (λ after. follows last errand (left - 1) after more)
  over_change more last = go left some
    where
      go : (l : ℕ) → 0 < l → told_over errand l mirror (incoming.Indication (Changes heads number sequence difference)) more last
          ≡ applies mirror difference (refusal mirror number sequence difference) (λ after. follows last errand (l - 1) after more)
      go zero h = absurd (omega (arith, h))
      go (suc n) h = ap (λ k. applies mirror difference (refusal mirror number sequence difference) (λ after. follows last errand k after more)) (omega arith)

  -- a change that is refused ends it
  pub change_refused : (a : Outlets) (why : MirrorFault) (ending : Ending) (left_ : ℕ) (mirror_ : Mirroring) → IsWhy (refusal mirror number sequence difference) why → IsBroken why ending
      → FollowsOn errand changing a a (Err ending) left_ mirror_
  change_refused a fault.NoMemory ending left_ mirror_ why is =
      subst (λ e. FollowsOn errand changing a a (Err e) left_ mirror_) (sym is) (nothing_fails changing a, (refl, refl))
  change_refused a (fault.OtherSubscription want got) ending left_ mirror_ why is =
      subst (λ e. FollowsOn errand changing a a (Err e) left_ mirror_) (sym is) ([], λ more last. over_change more last ∙ ap (λ r. applies mirror difference r (λ after. follows last errand (left - 1) after more)) why, λ x. x, says_nothing a)
  change_refused a (fault.Gap want got) ending left_ mirror_ why is =
      subst (λ e. FollowsOn errand changing a a (Err e) left_ mirror_) (sym is) ([], λ more last. over_change more last ∙ ap (λ r. applies mirror difference r (λ after. follows last errand (left - 1) after more)) why, λ x. x, says_nothing a)
  change_refused a (fault.OtherForm want got) ending left_ mirror_ why is =
      subst (λ e. FollowsOn errand changing a a (Err e) left_ mirror_) (sym is) ([], λ more last. over_change more last ∙ ap (λ r. applies mirror difference r (λ after. follows last errand (left - 1) after more)) why, λ x. x, says_nothing a)
  change_refused a (fault.Conflict row) ending left_ mirror_ why is =
      subst (λ e. FollowsOn errand changing a a (Err e) left_ mirror_) (sym is) ([], λ more last. over_change more last ∙ ap (λ r. applies mirror difference r (λ after. follows last errand (left - 1) after more)) why, λ x. x, says_nothing a)

  module _ (none : refusal mirror number sequence difference ≡ None) (new : Mirroring) (is : new ≡ mirrored mirror difference) where
    -- the answer behind it is printed
    goes : (more : List Incoming) (last : Finish) → changing more last ≡ prints (Answered new.applied new.answer) (follows last errand (left - 1) new more)
    goes more last =
        over_change more last ∙ ap (λ r. applies mirror difference r (λ after. follows last errand (left - 1) after more)) none
        ∙ ap (λ (m : Mirroring). prints (Answered m.applied m.answer) (follows last errand (left - 1) m more)) (sym is)

    -- the line was not printed whole
    pub change_unprinted : (a b : Outlets) (ending : Ending) (left_ : ℕ) (mirror_ : Mirroring) → SaysPart a b [] (answer_lines new.applied new.answer) × IsCause a b ending
        → FollowsOn errand changing a b (Err ending) left_ mirror_
    unfolding line_bytes
    change_unprinted a b ending left_ mirror_ (part, cause) = go ending cause
      where
        fails : Fails changing a b
        fails =
            fails_front changing (λ more last. follows last errand (left - 1) new more) [] (Answered new.applied new.answer ∷ []) goes a b
            (record { written = part.written; printed = part_of_more a.printed b.printed (answer_lines new.applied new.answer) [] part.printed })

        go : (e : Ending) → IsCause a b e → FollowsOn errand changing a b (Err e) left_ mirror_
        go (Finished finish) i = absurd i
        go ReadFault i = absurd i
        go Spent i = absurd i
        go NoMemory i = (fails, i)
        go WriteFault i = (fails, i)

    -- it was printed, and so many more changes are awaited
    pub change_printed : (a b : Outlets) → mirror.applied + left < 2 ^ 63 → Says a b [] (answer_lines new.applied new.answer)
        → FollowsOn errand changing a b (Ok (ltb 0 (left - 1))) (left - 1) new
    unfolding line_bytes
    change_printed a b bound p = (
      Answered new.applied new.answer ∷ [],
      goes,
      says_as a b [] (answer_lines new.applied new.answer) [] (answer_lines new.applied new.answer ++ []) refl (sym (append-nil (answer_lines new.applied new.answer))) p,
      (λ e. grind (arith, nat_tests), λ h. grind (arith, nat_tests)),
      omega (arith, ap (λ (m : Mirroring). m.applied) is, bound, some),
    )

-- the same step of an equal talk
pub follows_same : (errand : Errand) (t u : Future) (a b : Outlets) (result : Result Bool Ending) (left : ℕ) (mirror : Mirroring)
    → ((more : List Incoming) (last : Finish) → t more last ≡ u more last) → FollowsOn errand u a b result left mirror → FollowsOn errand t a b result left mirror
follows_same errand t u a b (Ok value) left mirror is (lines, leads, says, test, bound) = (lines, λ more last. is more last ∙ leads more last, says, test, bound)
follows_same errand t u a b (Err (Finished finish)) left mirror is (lines, done, unclean, says) = (lines, λ more last. is more last ∙ done more last, unclean, says)
follows_same errand t u a b (Err ReadFault) left mirror is h = absurd h
follows_same errand t u a b (Err Spent) left mirror is h = absurd h
follows_same errand t u a b (Err NoMemory) left mirror is (f, i) = (fails_same t u a b is f, i)
follows_same errand t u a b (Err WriteFault) left mirror is (f, i) = (fails_same t u a b is f, i)

-- an answer is printed as an equal one
pub lines_as : (n m : ℕ) (x y : Answer) → n ≡ m → x ≡ y → answer_lines n x ≡ answer_lines m y
lines_as n m x y e f = ap (λ k. answer_lines k x) e ∙ ap (answer_lines m) f

-- a failure among equal lines
pub unprinted_as : (a b : Outlets) (ending : Ending) (l m : List ℕ) → l ≡ m → SaysPart a b [] l × IsCause a b ending → SaysPart a b [] m × IsCause a b ending
unprinted_as a b ending l m e (part, cause) = (record { written = part.written; printed = subst (AppendsPart a.printed b.printed) e part.printed }, cause)
