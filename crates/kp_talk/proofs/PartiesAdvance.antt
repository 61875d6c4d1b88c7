-- What follows from a confirm at each stage.
use Rattle.std.proofs.Common.{◌≡◌, ap, subst, ℕ, ◌+◌}
use Rattle.kp_talk.specs.Stages.{IsPast, IsReady, AreMade}
use Rattle.kp_talk.specs.declared.errand.Errand.{Errand}
use Rattle.kp_talk.specs.declared.party.Party.{Party}
use Rattle.kp_talk.specs.declared.stage.Stage.{Stage}
use Rattle.kp_talk.specs.declared.stage.Stage.TheVariants.{Joining, Asking as Performing, Unsubscribing}

-- as many requests were made as belong before what comes behind the stage
pub made_at : (errand : Errand) (party : Party) (stage : Stage) → IsPast errand party → party.stage ≡ stage → AreMade party.client.made stage
made_at errand party stage p is = subst (AreMade party.client.made) is p.made

-- a party that joined is ready for its task
pub ready_joined : (errand : Errand) (party : Party) → IsPast errand party → party.stage ≡ Joining → IsReady errand party 2
ready_joined errand party p is = record { is_for = p.is_for; idle = p.idle; made = ap (λ n. n + 1) (made_at errand party Joining p is) }

-- one that performed it is ready for what follows
pub ready_performed : (errand : Errand) (party : Party) → IsPast errand party → party.stage ≡ Performing → IsReady errand party 3
ready_performed errand party p is = record { is_for = p.is_for; idle = p.idle; made = ap (λ n. n + 1) (made_at errand party Performing p is) }

-- one whose subscription ended is ready to leave
pub ready_unsubscribed : (errand : Errand) (party : Party) (number : ℕ) → IsPast errand party → party.stage ≡ Unsubscribing number → IsReady errand party 4
ready_unsubscribed errand party number p is = record { is_for = p.is_for; idle = p.idle; made = ap (λ n. n + 1) (made_at errand party (Unsubscribing number) p is) }
