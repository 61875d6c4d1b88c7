-- Where each call goes, the whole history does.
use Rattle.std.proofs.Common.{◌≡◌, ℕ, suc, ◌+◌, List, [], ◌∷◌, ◌++◌, length, Option, None, refl, sym, ap, subst, ◌∙◌, arith, if◌then◌else◌, Bool, true, false, ◌==◌, append_assoc}
use Rattle.std.specs.List.{AllByRecursion}
use Rattle.std.proofs.lemmas.List.{map-append}
use Rattle.ssap_shape.specs.declared.request.Request.{Request as Asked}
use Rattle.ssap_shape.specs.declared.request.Arrived.{Arrived}
use Rattle.session_core.specs.Space.{Space, empty_space}
use Rattle.session_core.specs.Subscriptions.{Subscription}
use Rattle.session_core.specs.Steps.{step}
use Rattle.session_core.specs.Runs.{run, run_from, sent_by, sent_from}
use Rattle.session_core.specs.declared.call.Call.{Call}
use Rattle.session_core.specs.declared.call.Call.TheVariants as call
use Rattle.ssap_shape.specs.declared.reply.Incoming.{Incoming}
use Rattle.kp_talk.specs.declared.errand.Errand.{Errand}
use Rattle.talk_laws.specs.Truth.{delivered_on, IsTrueLine}
use Rattle.talk_laws.proofs.Stages.{Stage, point_of, through, lines_on, through_more, lines_more}
use Rattle.talk_laws.proofs.Plain.{IsPlain, spelled}
use Rattle.talk_laws.proofs.Fits.{Holds, Fits, Suits, AreDue, Given, Goes, CallGoes}

-- what holds of all of two lists holds of all of both
pub all_both : {A : Type 0} (P : A → Type 0) (xs ys : List A) → AllByRecursion P xs → AllByRecursion P ys → AllByRecursion P (xs ++ ys)
all_both P [] ys p q = q
all_both P (x ∷ xs) ys p q = (p.0, all_both P xs ys p.1 q)

pub all_front : {A : Type 0} (P : A → Type 0) (xs ys : List A) → AllByRecursion P (xs ++ ys) → AllByRecursion P xs
all_front P [] ys p = tt
all_front P (x ∷ xs) ys p = (p.0, all_front P xs ys p.1)

pub run_one : (space : Space) (calls : List Call) (one : Call) → run_from space (calls ++ one ∷ []) ≡ (step (run_from space calls) one).space
run_one space [] one = refl
run_one space (first ∷ calls) one = run_one (step space first).space calls one

-- what a history delivers is what its first call delivers, and then the rest
delivered_first : (one : Call) (calls : List Call) (link : ℕ) → delivered_on (one ∷ calls) link ≡ delivered_on (one ∷ []) link ++ delivered_on calls link
delivered_first call.NewLink calls link = refl
delivered_first (call.Deliver other arrived) calls link = by (other == link)
  where
    by : (b : Bool) → (if b then arrived ∷ [] else []) ++ delivered_on calls link ≡ ((if b then arrived ∷ [] else []) ++ []) ++ delivered_on calls link
    by true = refl
    by false = refl
delivered_first (call.End other) calls link = refl
delivered_first (call.Lost other) calls link = refl
delivered_first (call.Take other) calls link = refl

due_front : (errand : Errand) (requests : List Asked) (count : ℕ) (xs ys : List Arrived) → AreDue errand requests count (xs ++ ys) → AreDue errand requests count xs
due_front errand requests count [] ys d = tt
due_front errand requests count (x ∷ xs) ys d = (d.0, due_front errand requests (suc count) xs ys d.1)

due_back : (errand : Errand) (requests : List Asked) (count : ℕ) (xs ys : List Arrived) → AreDue errand requests count (xs ++ ys)
    → AreDue errand requests (count + length xs) ys
due_back errand requests count [] ys d = subst (λ n. AreDue errand requests n ys) (omega arith) d
due_back errand requests count (x ∷ xs) ys d = subst (λ n. AreDue errand requests n ys) (omega arith) (due_back errand requests (suc count) xs ys d.1)

module _ (given : Given) (calls_go : CallGoes given) where
  abbrev True : Stage → List Incoming → Type 0
  True stage told = AllByRecursion (IsTrueLine given.name given.history given.link given.text given.requests) (lines_on given.errand stage told)

  -- two parts of a way, one behind the other
  both_go : (count more : ℕ) (stage : Stage) (sent further : List (List ℕ)) (new last : Space) (first : Goes given count stage sent new)
      → Goes given more (through given.errand stage first.told) further last → Goes given more stage (sent ++ further) last
  both_go count more stage sent further new last first then' =
      let walk = through_more given.errand stage first.told then'.told in
      record {
        told = first.told ++ then'.told;
        sends = (λ i. first.sends i ++ then'.sends i) ∙ sym (map-append spelled first.told then'.told);
        plain = all_both IsPlain first.told then'.told first.plain then'.plain;
        lines = subst (AllByRecursion (IsTrueLine given.name given.history given.link given.text given.requests)) (sym (lines_more given.errand stage first.told then'.told))
            (all_both (IsTrueLine given.name given.history given.link given.text given.requests) (lines_on given.errand stage first.told) _ first.lines then'.lines);
        lives = then'.lives;
        holds = then'.holds;
        fits = subst (Fits given.errand last.graph last.links given.link more then'.lives) (sym walk) then'.fits;
        suits = subst (λ stage. Suits given.errand.task (point_of stage)) (sym walk) then'.suits;
      }

  goes_from : (later past : List Call) (count : ℕ) (stage : Stage) (lives : Option Subscription) → given.history ≡ past ++ later
      → AreDue given.errand given.requests count (delivered_on later given.link)
      → Holds given.name given.errand given.text given.link (run given.name past) count lives
      → Fits given.errand (run given.name past).graph (run given.name past).links given.link count lives stage
      → Suits given.errand.task (point_of stage)
      → Goes given (count + length (delivered_on later given.link)) stage (sent_from (run given.name past) later given.link) (run_from (run given.name past) later)
  goes_from [] past count stage lives split due holds fits suits =
      let same : count + 0 ≡ count = omega arith in
      record {
        told = [];
        sends = refl;
        plain = tt;
        lines = tt;
        lives = lives;
        holds = subst (λ n. Holds given.name given.errand given.text given.link (run given.name past) n lives) (sym same) holds;
        fits = subst (λ n. Fits given.errand (run given.name past).graph (run given.name past).links given.link n lives stage) (sym same) fits;
        suits = suits;
      }
  goes_from (one ∷ later) past count stage lives split due holds fits suits =
      let here = delivered_on (one ∷ []) given.link in
      let rest = delivered_on later given.link in
      let parts = delivered_first one later given.link in
      let both = subst (AreDue given.errand given.requests count) parts due in
      let now = count + length here in
      let first = calls_go past later one count stage lives split (due_front given.errand given.requests count here rest both) holds fits suits in
      let space = (step (run given.name past) one).space in
      let moved : run given.name (past ++ one ∷ []) ≡ space = run_one (empty_space given.name) past one in
      let then' = goes_from later (past ++ one ∷ []) now (through given.errand stage first.told) first.lives
      (split ∙ sym (append_assoc past (one ∷ []) later)) (due_back given.errand given.requests count here rest both)
      (subst (λ (s : Space). Holds given.name given.errand given.text given.link s now first.lives) (sym moved) first.holds)
      (subst (λ (s : Space). Fits given.errand s.graph s.links given.link now first.lives (through given.errand stage first.told)) (sym moved) first.fits)
      first.suits
      in
      let after = subst (λ (s : Space). Goes given (now + length rest) (through given.errand stage first.told) (sent_from s later given.link) (run_from s later)) moved then' in
      subst (λ n. Goes given n stage (sent_by (run given.name past) one given.link ++ sent_from space later given.link) (run_from space later))
      (counted here rest parts)
      (both_go now (now + length rest) stage (sent_by (run given.name past) one given.link) (sent_from space later given.link) space (run_from space later) first after)
    where
      counted : (here rest : List Arrived) → delivered_on (one ∷ later) given.link ≡ here ++ rest
          → count + length here + length rest ≡ count + length (delivered_on (one ∷ later) given.link)
      counted here rest e =
          let lengths = ap length e in
          let split = length_both here rest in
          omega (arith, lengths, split)
        where
          length_both : (xs ys : List Arrived) → length (xs ++ ys) ≡ length xs + length ys
          length_both [] ys = omega arith
          length_both (x ∷ xs) ys = let more = length_both xs ys in omega (arith, more)

  -- the whole history
  pub history_goes : (stage : Stage) → AreDue given.errand given.requests 0 (delivered_on given.history given.link)
      → Holds given.name given.errand given.text given.link (empty_space given.name) 0 None
      → Fits given.errand (empty_space given.name).graph (empty_space given.name).links given.link 0 None stage → Suits given.errand.task (point_of stage)
      → Goes given (length (delivered_on given.history given.link)) stage (sent_from (empty_space given.name) given.history given.link) (run given.name given.history)
  history_goes stage due holds fits suits =
      subst (λ n. Goes given n stage (sent_from (empty_space given.name) given.history given.link) (run given.name given.history)) (omega arith)
      (goes_from given.history [] 0 stage None refl due holds fits suits)
