-- Steps in which nothing is sent on a link: the talk fits as before, or the link is shut.
use Rattle.std.proofs.Common.{◌≡◌, ◌≢◌, ◌⊎◌, ◌≤◌, ℕ, zero, suc, Bool, true, false, List, [], ◌∷◌, ◌++◌, Option, Some, None, option_map, refl, sym, ap, ◌∙◌, inl, inr, arith, if◌then◌else◌}
use Rattle.std.proofs.lemmas.Bool.{cases_eq, cases_Bool}
use mathlib.Core.Bool.{true≢false}
use mathlib.Core.Logic.{⊎_elim}
use Rattle.m3_terms.specs.declared.triple.Triple.{Triple}
use Rattle.m3_terms.specs.InsertedLaws.{was_there, is_kept}
use Rattle.link_table.specs.Links.{Link, new_link, is_open, is_full, link_at, changed, ended, lost, taken, state_of, state_or_never}
use Rattle.link_table.specs.declared.state.LinkState.{LinkState}
use Rattle.link_table.specs.declared.state.LinkState.TheVariants.{Never, Open, Ended, Overrun, Gone}
use Rattle.link_table.proofs.NoLinkOpensAgain.{OpensNone, OpensNone-ended, OpensNone-lost, OpensNone-taken, open_before}
use Rattle.link_table.proofs.OtherLinksStay.{link_at-changed, link_at-others}
use Rattle.session_core.specs.Space.{Space}
use Rattle.session_core.specs.Subscriptions.{Subscription, answer_over}
use Rattle.session_core.specs.Queues.{with_links}
use Rattle.session_core.specs.Steps.{Step, on_open, on_opened, take_step, taken_from, step}
use Rattle.session_core.specs.declared.call.Call.TheVariants as call
use Rattle.session_core.proofs.Changes.{link_at-place, push_old}
use Rattle.kp_talk.specs.declared.errand.Errand.{Errand}
use Rattle.talk_laws.proofs.Stages.{Joins, Asks, Follows, Unsubscribes, LeavesAsked, LeavesWatched, Stage, At, Closed, point_of}
use Rattle.talk_laws.proofs.LinksTakeOrClose.{IsShut}
use Rattle.talk_laws.proofs.QuietSteps.{Vacant, Housed, Quiet, quiet_same}
use Rattle.talk_laws.proofs.TurnsAreHeard.{shut_vacant, open_known}
use Rattle.talk_laws.proofs.Fits.{Holds, Fits, Suits, Given, Goes}

-- a link is as it was, or it is shut
pub record Closes (link : ℕ) (old new : Space) : Type 0 where
  pub graph : new.graph ≡ old.graph
  pub stays : IsShut old.links link → IsShut new.links link
  pub vacant : Vacant link old → Vacant link new
  pub housed : (s : Subscription) → Housed link old s → Housed link new s ⊎ (IsShut new.links link × Vacant link new)

-- where the link is shut the talk fits, however much was delivered since
pub fits_shut : (errand : Errand) (graph after : List Triple) (links then' : List Link) (link count more : ℕ) (lives : Option Subscription) (stage : Stage) → count ≤ more
    → Fits errand graph links link count lives stage → IsShut then' link → Fits errand after then' link more None stage
fits_shut errand graph after links then' link count more lives (At Joins) le f shut = tt
fits_shut errand graph after links then' link count more lives (At Asks) le f shut = omega (arith, f, le)
fits_shut errand graph after links then' link count more lives (At (Follows left mirror)) le f shut = shut
fits_shut errand graph after links then' link count more lives (At (Unsubscribes number)) le f shut = omega (arith, f, le)
fits_shut errand graph after links then' link count more lives (At LeavesAsked) le f shut = omega (arith, f, le)
fits_shut errand graph after links then' link count more lives (At (LeavesWatched number)) le f shut = omega (arith, f, le)
fits_shut errand graph after links then' link count more lives (Closed point finish) le (inl u) shut = inl u
fits_shut errand graph after links then' link count more lives (Closed point finish) le (inr late) shut = inr (omega (arith, late, le))

-- where nothing was sent the talk fits as it did
pub fits_same : (errand : Errand) (graph after : List Triple) (links then' : List Link) (link count : ℕ) (lives : Option Subscription) (stage : Stage)
    → Fits errand graph links link count lives stage → (IsShut links link → IsShut then' link)
    → ((s : Subscription) → lives ≡ Some s → answer_over graph s.wanted ≡ answer_over after s.wanted) → Fits errand after then' link count lives stage
fits_same errand graph after links then' link count lives (At Joins) f shut same = f
fits_same errand graph after links then' link count lives (At Asks) f shut same = f
fits_same errand graph after links then' link count None (At (Follows left mirror)) f shut same = shut f
fits_same errand graph after links then' link count (Some s) (At (Follows left mirror)) f shut same =
    (record { subscription = f.0.subscription; applied = f.0.applied; answer = f.0.answer ∙ same s refl }, f.1)
fits_same errand graph after links then' link count lives (At (Unsubscribes number)) f shut same = f
fits_same errand graph after links then' link count lives (At LeavesAsked) f shut same = f
fits_same errand graph after links then' link count lives (At (LeavesWatched number)) f shut same = f
fits_same errand graph after links then' link count lives (Closed point finish) f shut same = f

module _ (given : Given) (count : ℕ) (stage : Stage) (old new : Space) (sent : List (List ℕ)) (none : sent ≡ []) (suits : Suits given.errand.task (point_of stage)) where
  -- nothing is told
  pub nothing_goes : (lives : Option Subscription) → Holds given.name given.errand given.text given.link new count lives
      → Fits given.errand new.graph new.links given.link count lives stage → Goes given count stage sent new
  nothing_goes lives holds fits = record { told = []; sends = none; plain = tt; lines = tt; lives = lives; holds = holds; fits = fits; suits = suits }

  -- a step that leaves the link or shuts it
  pub closes_goes : (lives : Option Subscription) → Closes given.link old new → Holds given.name given.errand given.text given.link old count lives
      → Fits given.errand old.graph old.links given.link count lives stage → Goes given count stage sent new
  closes_goes None c holds fits =
      nothing_goes None (c.vacant holds)
      (fits_same given.errand old.graph new.graph old.links new.links given.link count None stage fits c.stays (λ s e. ap (λ graph. answer_over graph s.wanted) (sym c.graph)))
  closes_goes (Some s) c holds fits = ⊎_elim
      (λ (housed : Housed given.link new s). nothing_goes (Some s) (housed, holds.1, holds.2)
      (fits_same given.errand old.graph new.graph old.links new.links given.link count (Some s) stage fits c.stays (λ t e. ap (λ graph. answer_over graph t.wanted) (sym c.graph))))
      (λ (both : IsShut new.links given.link × Vacant given.link new). nothing_goes None both.1
      (fits_shut given.errand old.graph new.graph old.links new.links given.link count count (Some s) stage (omega arith) fits both.0))
      (c.housed s holds.0)

module _ (link : ℕ) where
  pub closes_quiet : (old new : Space) → new.graph ≡ old.graph → Quiet link old new → Closes link old new
  closes_quiet old new graph q = record {
    graph = graph;
    stays = λ was. record { known = λ gone. was.known (sym q.same ∙ gone); shut = ap (λ found. is_open (state_or_never found)) q.same ∙ was.shut };
    vacant = q.vacant;
    housed = λ s h. inl (q.housed s h);
  }

  still : (space : Space) → Closes link space space
  still space = closes_quiet space space refl (quiet_same link space)

  -- where links change, and none that was opened is open that was not
  closes_linked : (space : Space) (links : List Link) → (link_at space.links link ≢ None → link_at links link ≢ None)
      → (link_at space.links link ≢ None → is_open (state_of links link) ≡ true → is_open (state_of space.links link) ≡ true) → Closes link space (with_links space links)
  closes_linked space links known opens = record {
    graph = refl;
    stays = λ was. record {
      known = known was.known;
      shut = ⊎_elim (λ (now : is_open (state_of links link) ≡ true). absurd (true≢false (sym (opens was.known now) ∙ was.shut))) (λ (not_now : is_open (state_of links link) ≡ false). not_now)
          (cases_Bool (is_open (state_of links link)));
    };
    vacant = λ v s c. v s (was_there (λ s. is_open (state_of links s.link)) space.subscriptions s c);
    housed = λ s h. ⊎_elim
        (λ (now : is_open (state_of links link) ≡ true). inl (record {
          lives = is_kept (λ s. is_open (state_of links s.link)) space.subscriptions s (ap (λ l. is_open (state_of links l)) h.here ∙ now) h.lives;
          here = h.here;
          opened = now;
          sole = λ other c on. h.sole other (was_there (λ s. is_open (state_of links s.link)) space.subscriptions other c) on;
        }))
        (λ (not_now : is_open (state_of links link) ≡ false).
        inr (record { known = known (open_known space.links link h.opened); shut = not_now }, shut_vacant space links link not_now))
        (cases_Bool (is_open (state_of links link)));
  }

  mapped_known : (change : Link → Link) (found : Option Link) → found ≢ None → option_map change found ≢ None
  mapped_known change None k e = k refl
  mapped_known change (Some l) k e = cc

  changed_known : (change : Link → Link) (links : List Link) (number : ℕ) → link_at links link ≢ None → link_at (changed change links number) link ≢ None
  changed_known change links number known gone = ⊎_elim
      (λ (here : link ≡ number).
      mapped_known change (link_at links link) known
      (sym (link_at-changed change links link) ∙ ap (λ n. link_at (changed change links n) link) here ∙ gone))
      (λ (apart : link ≢ number). known (sym (link_at-others change links number link apart) ∙ gone))
      (cases_eq link number)

  pub closes_changed : (change : Link → Link) → OpensNone change → (space : Space) (number : ℕ) → Closes link space (with_links space (changed change space.links number))
  closes_changed change none space number =
      closes_linked space (changed change space.links number) (changed_known change space.links number) (λ known now. open_before change none space.links number link now)

  found_pushed : (links : List Link) (place : ℕ) (found : Option Link) → link_at links place ≡ found → found ≢ None → link_at (links ++ new_link ∷ []) place ≡ found
  found_pushed links place None e k = absurd (k refl)
  found_pushed links zero (Some l) e k = absurd (cc)
  found_pushed links (suc place) (Some l) e k =
      link_at-place (links ++ new_link ∷ []) place ∙ push_old links place new_link l (sym (link_at-place links place) ∙ e)

  opened : (full : Bool) (space : Space) (refused granted : Step) → Closes link space refused.space → Closes link space granted.space
      → Closes link space (if full then refused else granted).space
  opened true space refused granted p q = p
  opened false space refused granted p q = q

  pub opens_close : (space : Space) → Closes link space (step space call.NewLink).space
  opens_close space =
      opened (is_full space.links) space _ _ (still space)
      (closes_linked space (space.links ++ new_link ∷ [])
      (λ known gone. known (sym (found_pushed space.links link (link_at space.links link) refl known) ∙ gone))
      (λ known now. ap (λ found. is_open (state_or_never found)) (sym (found_pushed space.links link (link_at space.links link) refl known)) ∙ now))

  pub on_open_closes : (state : LinkState) (space new : Space) → Closes link space new → Closes link space (on_open state space new).space
  on_open_closes Never space new c = still space
  on_open_closes Open space new c = c
  on_open_closes Ended space new c = still space
  on_open_closes Overrun space new c = still space
  on_open_closes Gone space new c = still space

  on_opened_closes : (state : LinkState) (space new : Space) → Closes link space new → Closes link space (on_opened state space new).space
  on_opened_closes Never space new c = still space
  on_opened_closes Open space new c = c
  on_opened_closes Ended space new c = c
  on_opened_closes Overrun space new c = c
  on_opened_closes Gone space new c = c

  pub end_closes : (space : Space) (number : ℕ) → Closes link space (step space (call.End number)).space
  end_closes space number = on_open_closes (state_of space.links number) space _ (closes_changed ended OpensNone-ended space number)

  pub lost_closes : (space : Space) (number : ℕ) → Closes link space (step space (call.Lost number)).space
  lost_closes space number = on_opened_closes (state_of space.links number) space _ (closes_changed lost OpensNone-lost space number)

  take_closes : (space : Space) (number : ℕ) (state : LinkState) (pending : List (List ℕ)) → Closes link space (taken_from space number state pending).space
  take_closes space number state [] = still space
  take_closes space number state (message ∷ pending) = closes_changed taken OpensNone-taken space number

  found_closes : (space : Space) (number : ℕ) (found : Option Link) → Closes link space (take_step space number found).space
  found_closes space number None = still space
  found_closes space number (Some l) = take_closes space number l.state l.pending

  pub takes_close : (space : Space) (number : ℕ) → Closes link space (step space (call.Take number)).space
  takes_close space number = found_closes space number (link_at space.links number)
