-- Each call of a history goes.
use Rattle.std.proofs.Common.{◌≡◌, ◌≢◌, ℕ, suc, ◌+◌, ◌==◌, Bool, List, [], ◌∷◌, ◌++◌, length, Contains, Option, refl, sym, ap, subst, arith, if◌then◌else◌}
use Rattle.std.proofs.lemmas.Bool.{cases_eq, eq-eqb, ne_eqb}
use mathlib.Core.Logic.{⊎_elim}
use Rattle.ssap_shape.specs.declared.request.Arrived.{Arrived}
use Rattle.session_core.specs.Space.{Space, empty_space}
use Rattle.session_core.specs.Subscriptions.{Subscription, answer_over}
use Rattle.session_core.specs.Runs.{run}
use Rattle.session_core.specs.Steps.{step}
use Rattle.session_core.specs.Watching.{changes_by}
use Rattle.session_core.specs.declared.call.Call.{Call}
use Rattle.session_core.specs.declared.call.Call.TheVariants as call
use Rattle.talk_laws.specs.Truth.{IsTrue, IsCause, TellsOn}
use Rattle.talk_laws.proofs.Stages.{Stage, point_of}
use Rattle.talk_laws.proofs.Plain.{AllPlain}
use Rattle.talk_laws.proofs.QuietSteps.{Housed}
use Rattle.talk_laws.proofs.TurnsAreHeard.{told_more, change_of}
use Rattle.talk_laws.proofs.Fits.{IsOurs, Holds, Fits, Suits, IsDue, AreDue, Given, Goes, CallGoes}
use Rattle.talk_laws.proofs.HistoriesGo.{run_one}
use Rattle.talk_laws.proofs.CallsThatClose.{closes_goes, opens_close, end_closes, lost_closes, takes_close}
use Rattle.talk_laws.proofs.DeliveriesElsewhere.{Known, sent_on}
use Rattle.talk_laws.proofs.CallsElsewhere.{elsewhere_goes}

-- what is delivered on the link itself goes
abbrev pub HereGoes : Given → Type 0
HereGoes given = (past later : List Call) (arrived : Arrived) (count : ℕ) (stage : Stage) (lives : Option Subscription)
    → given.history ≡ past ++ call.Deliver given.link arrived ∷ later
    → Known given (run given.name past) (step (run given.name past) (call.Deliver given.link arrived)).space
    → IsDue given.errand given.requests count arrived
    → Holds given.name given.errand given.text given.link (run given.name past) count lives
    → Fits given.errand (run given.name past).graph (run given.name past).links given.link count lives stage
    → Suits given.errand.task (point_of stage)
    → Goes given (count + 1) stage (sent_on given.link (run given.name past) (step (run given.name past) (call.Deliver given.link arrived)).space)
    (step (run given.name past) (call.Deliver given.link arrived)).space

-- what is known before and after each call of a history
abbrev pub AllKnown : Given → Type 0
AllKnown given = (past later : List Call) (one : Call) → given.history ≡ past ++ one ∷ later → Known given (run given.name past) (step (run given.name past) one).space

module _ (plain : AllPlain) (given : Given) (known : AllKnown given) (here_goes : HereGoes given) where
  -- the line of a change that a call told is true
  line_true : (past later : List Call) (one : Call) → given.history ≡ past ++ one ∷ later → (s : Subscription) → IsOurs given.name given.errand given.text s
      → Contains (changes_by (run given.name past) one s.number) (change_of (run given.name past).graph (step (run given.name past) one).space.graph s)
      → Housed given.link (step (run given.name past) one).space (told_more s)
      → IsTrue given.name given.history given.link given.text given.requests (s.sequence + 1) (answer_over (step (run given.name past) one).space.graph s.wanted)
  line_true past later one split s ours told housed =
      let moved : run given.name (past ++ one ∷ []) ≡ (step (run given.name past) one).space = run_one (empty_space given.name) past one in
      let plus : suc s.sequence ≡ s.sequence + 1 = omega arith in
      record {
        wanted = s.wanted;
        said = ours.asks;
        earlier = past;
        call = one;
        later = later;
        split = split;
        cause = subst (λ count. IsCause given.name given.link given.requests s.wanted count past one) plus (cause s.sequence (record {
          subscription = told_more s;
          change = change_of (run given.name past).graph (step (run given.name past) one).space.graph s;
          lives = subst (λ (space : Space). Contains space.subscriptions (told_more s)) (sym moved) housed.lives;
          here = housed.here;
          asks = refl;
          told = told;
          counted = sym plus;
        }));
        true = ap (λ (space : Space). answer_over space.graph s.wanted) (sym moved);
      }
    where
      cause : (n : ℕ) → TellsOn given.name given.link (suc n) s.wanted past one → IsCause given.name given.link given.requests s.wanted (suc n) past one
      cause n t = t

  -- how many more were delivered
  abbrev more_by : Bool → Arrived → ℕ
  more_by b arrived = length ((if b then arrived ∷ [] else []) ++ [])

  module _ (past later : List Call) (count : ℕ) (stage : Stage) (lives : Option Subscription)
      (holds : Holds given.name given.errand given.text given.link (run given.name past) count lives)
      (fits : Fits given.errand (run given.name past).graph (run given.name past).links given.link count lives stage) (suits : Suits given.errand.task (point_of stage)) where
    quiet_call : (new : Space) → Goes given count stage [] new → Goes given (count + 0) stage [] new
    quiet_call new g = subst (λ n. Goes given n stage [] new) (omega arith) g

    -- a delivery, by whether it is on the link
    abbrev Delivers : ℕ → Arrived → Bool → Type 0
    Delivers other arrived b = AreDue given.errand given.requests count ((if b then arrived ∷ [] else []) ++ [])
        → Goes given (count + more_by b arrived) stage (sent_on given.link (run given.name past) (step (run given.name past) (call.Deliver other arrived)).space)
        (step (run given.name past) (call.Deliver other arrived)).space

    delivers_here : (arrived : Arrived) → given.history ≡ past ++ call.Deliver given.link arrived ∷ later → Delivers given.link arrived (given.link == given.link)
    delivers_here arrived split =
        subst (Delivers given.link arrived) (sym (eq-eqb given.link given.link refl))
        (λ due. subst (λ n. Goes given n stage (sent_on given.link (run given.name past) (step (run given.name past) (call.Deliver given.link arrived)).space)
        (step (run given.name past) (call.Deliver given.link arrived)).space) (omega arith)
        (here_goes past later arrived count stage lives split (known past later (call.Deliver given.link arrived) split) due.0 holds fits suits))

    delivers_apart : (other : ℕ) (arrived : Arrived) → other ≢ given.link → given.history ≡ past ++ call.Deliver other arrived ∷ later → Delivers other arrived (other == given.link)
    delivers_apart other arrived apart split =
        subst (Delivers other arrived) (sym (ne_eqb other given.link apart))
        (λ due. subst (λ n. Goes given n stage (sent_on given.link (run given.name past) (step (run given.name past) (call.Deliver other arrived)).space)
        (step (run given.name past) (call.Deliver other arrived)).space) (omega arith)
        (elsewhere_goes plain given count stage (run given.name past) lives holds fits suits other apart arrived (known past later (call.Deliver other arrived) split)
        (line_true past later (call.Deliver other arrived) split)))

    delivers : (other : ℕ) (arrived : Arrived) → given.history ≡ past ++ call.Deliver other arrived ∷ later → Delivers other arrived (other == given.link)
    delivers other arrived split = ⊎_elim
        (λ (here : other ≡ given.link).
        subst (λ other. given.history ≡ past ++ call.Deliver other arrived ∷ later → Delivers other arrived (other == given.link)) (sym here) (delivers_here arrived) split)
        (λ (apart : other ≢ given.link). delivers_apart other arrived apart split)
        (cases_eq other given.link)

  -- each call goes
  pub calls_go : CallGoes given
  calls_go past later call.NewLink count stage lives split due holds fits suits =
      let space = run given.name past in
      quiet_call past later count stage lives holds fits suits (step space call.NewLink).space
      (closes_goes given count stage space (step space call.NewLink).space [] refl suits lives (opens_close given.link space) holds fits)
  calls_go past later (call.Deliver other arrived) count stage lives split due holds fits suits =
      delivers past later count stage lives holds fits suits other arrived split due
  calls_go past later (call.End number) count stage lives split due holds fits suits =
      let space = run given.name past in
      quiet_call past later count stage lives holds fits suits (step space (call.End number)).space
      (closes_goes given count stage space (step space (call.End number)).space [] refl suits lives (end_closes given.link space number) holds fits)
  calls_go past later (call.Lost number) count stage lives split due holds fits suits =
      let space = run given.name past in
      quiet_call past later count stage lives holds fits suits (step space (call.Lost number)).space
      (closes_goes given count stage space (step space (call.Lost number)).space [] refl suits lives (lost_closes given.link space number) holds fits)
  calls_go past later (call.Take number) count stage lives split due holds fits suits =
      let space = run given.name past in
      quiet_call past later count stage lives holds fits suits (step space (call.Take number)).space
      (closes_goes given count stage space (step space (call.Take number)).space [] refl suits lives (takes_close given.link space number) holds fits)
