-- A talk begins with the request to join.
use Rattle.std.proofs.Common.{◌≡◌, ◌∙◌, ap, sym, refl, subst, ◌+◌, [], ◌∷◌, ◌++◌, None, Ok, append-nil}
use Rattle.sib_io.specs.Causes.{AppendsPart}
use Rattle.ssap_items.specs.declared.heads.Transaction as transaction
use Rattle.ssap_shape.specs.declared.request.Ask.{Ask}
use Rattle.ssap_shape.specs.declared.request.Ask as ask
use Rattle.ssap_shape.specs.declared.request.Request.{Request}
use Rattle.kp_client.specs.Asked.{Asking, asked, asked_bytes}
use Rattle.kp_talk.specs.Talk.{talk_over, awaits, performs, request_at}
use Rattle.kp_talk.specs.Lines.{request_bytes}
use Rattle.kp_talk.specs.Stages.{ask_of, goal_of, HasUris, Future}
use Rattle.kp_talk.specs.Saying.{Outlets, Says, SaysPart, IsCause, Fails, Answers}
use Rattle.kp_talk.specs.declared.errand.Errand.{Errand}
use Rattle.kp_talk.specs.declared.ending.Ending.{Ending}
use Rattle.kp_talk.specs.declared.stage.Goal.{Goal}
use Rattle.kp_talk.specs.declared.stage.Stage.TheVariants.{Joining}
use Rattle.kp_talk.proofs.ClientsAwait.{awaits_is}
use Rattle.kp_talk.proofs.StepsAnswer.{fails_front, says_as}

-- a client of an errand that asked nothing yet
abbrev pub new_client : Errand → Asking
new_client errand = record { space = errand.space; node = errand.node; made = 0; awaited = None }

-- the request to join
abbrev joins : Errand → Request
joins errand = request_at errand 1 transaction.TheVariants.Join ask.TheVariants.Join

-- its bytes
bytes_are : (errand : Errand) (client : Asking) → client ≡ new_client errand → asked_bytes client transaction.TheVariants.Join ask.TheVariants.Join ≡ request_bytes (joins errand) ++ []
bytes_are errand client is = ap (λ x. asked_bytes x transaction.TheVariants.Join ask.TheVariants.Join) is ∙ sym (append-nil (request_bytes (joins errand)))

-- what is left behind it
abbrev rest : Errand → Future
rest errand more last = awaits last (joins errand) (λ confirm told. performs last errand errand.task told) more

-- the request was not written
pub unjoined : (errand : Errand) (client : Asking) (a b : Outlets) (ending : Ending) → client ≡ new_client errand
    → SaysPart a b (asked_bytes client transaction.TheVariants.Join ask.TheVariants.Join) [] × IsCause a b ending
    → Fails (λ told last. talk_over last errand told) a b × IsCause a b ending
unjoined errand client a b ending is (part, cause) = (
  fails_front (λ told last. talk_over last errand told) (rest errand) (joins errand ∷ []) [] (λ more last. refl) a b
      (record { written = subst (AppendsPart a.written b.written) (bytes_are errand client is) part.written; printed = part.printed }),
  cause,
)

-- it was written
pub joined : (errand : Errand) (client new : Asking) (wish : Ask) (goal : Goal) (a b : Outlets) → client ≡ new_client errand → new ≡ asked client transaction.TheVariants.Join
    → wish ≡ ask_of errand.task → goal ≡ goal_of errand.task → HasUris errand.task → Says a b (asked_bytes client transaction.TheVariants.Join ask.TheVariants.Join) []
    → Answers errand (λ told last. talk_over last errand told) a b (Ok tt) (record { client = new; ask = wish; goal = goal; stage = Joining })
joined errand client new wish goal a b is next w g uris p = (
  joins errand ∷ [],
  [],
  λ more last. refl,
  (
    record {
      space = ap (λ (c : Asking). c.space) next ∙ ap (λ (c : Asking). c.space) is;
      node = ap (λ (c : Asking). c.node) next ∙ ap (λ (c : Asking). c.node) is;
      ask = w;
      goal = g;
      uris = uris;
    },
    awaits_is client new transaction.TheVariants.Join 1 next (ap (λ (c : Asking). c.made + 1) is),
  ),
  says_as a b _ [] (request_bytes (joins errand) ++ []) [] (bytes_are errand client is) refl p,
)
