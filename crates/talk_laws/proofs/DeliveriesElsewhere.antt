-- What is delivered on another link: the talk fits again.
use Rattle.std.proofs.Common.{◌≡◌, ◌≢◌, ◌≤◌, ℕ, ◌+◌, Bool, true, false, not, List, [], ◌++◌, length, map, drop, filter, Contains, Option, Some, None, refl, sym, ap, subst, ◌∙◌, append-nil}
use Rattle.std.specs.List.{AllByRecursion}
use Rattle.std.proofs.lemmas.Bool.{cases_Bool}
use Rattle.std.proofs.lemmas.List.{drop_at}
use mathlib.Core.Bool.{true≢false}
use mathlib.Core.Logic.{⊎_elim}
use Rattle.m3_terms.specs.InsertedLaws.{was_there, is_kept}
use Rattle.sparql_algebra.proofs.ListMembers.{kept}
use Rattle.answer_bodies.specs.Differences.{MayFollow}
use Rattle.link_table.specs.Links.{link_at, pending_of, pending_or_none}
use Rattle.ssap_items.specs.declared.heads.Transaction as transaction
use Rattle.ssap_shape.specs.Sound.{AreSoundHeads}
use Rattle.ssap_shape.specs.declared.request.Wish.TheVariants.{Sparql}
use Rattle.ssap_shape.specs.declared.status.Status.TheVariants.{Success}
use Rattle.session_core.specs.Space.{Space}
use Rattle.session_core.specs.Subscriptions.{Subscription, Wanted, wanted_by, answer_over, heads_for, ended_by}
use Rattle.session_core.specs.Following.{difference_over, tell_ends}
use Rattle.session_core.proofs.NumbersDiffer.{HaveOwn}
use Rattle.ssap_shape.specs.declared.reply.Incoming.TheVariants.{Indication as Indicated}
use Rattle.talk_laws.specs.Truth.{IsTrueLine}
use Rattle.talk_laws.proofs.Stages.{Stage, point_of}
use Rattle.talk_laws.proofs.Plain.{IsSaid, AllPlain, IsSmall, spelled}
use Rattle.talk_laws.proofs.QuietSteps.{Vacant, Housed, Quiet, quiet_chain, quiet_filter}
use Rattle.talk_laws.proofs.TurnsAreHeard.{open_known}
use Rattle.talk_laws.proofs.EndsAreHeard.{quiet_ends, ends_heard, repeated}
use Rattle.talk_laws.proofs.Fits.{IsOurs, Holds, Fits, Suits, Given, Goes}
use Rattle.talk_laws.proofs.TalksSuit.{suits_through}
use Rattle.talk_laws.proofs.CallsThatClose.{closes_goes, closes_quiet}
use Rattle.talk_laws.proofs.HeardGoes.{ends_fit, all_plain, end_plain}

-- what is known of a space before a call and after it
pub record Known (given : Given) (space new : Space) : Type 0 where
  pub named : space.name ≡ given.name
  pub own : HaveOwn space.subscriptions
  pub small : (s : Subscription) → Contains space.subscriptions s → IsSmall s.number × IsSmall (s.sequence + 1)
  pub next_small : IsSmall (space.numbered + 1)
  pub heads : (s : Subscription) → IsOurs given.name given.errand given.text s → (kind : transaction.Transaction) → AreSoundHeads (heads_for given.name s kind)
  pub follows : (wanted : Wanted) → MayFollow (answer_over space.graph wanted) (answer_over new.graph wanted)
  pub sound : (wanted : Wanted) → wanted_by (Sparql given.text) ≡ Some wanted → IsSaid (answer_over space.graph wanted)
  pub sides : (wanted : Wanted) → wanted_by (Sparql given.text) ≡ Some wanted
      → IsSaid (difference_over space.graph new.graph wanted).added × IsSaid (difference_over space.graph new.graph wanted).obsolete

-- what is sent on a link from one space to another
abbrev pub sent_on : ℕ → Space → Space → List (List ℕ)
sent_on link old new = drop (length (pending_of old.links link)) (pending_of new.links link)

pub sent_is : (link : ℕ) (old new : Space) (more : List (List ℕ)) → pending_of new.links link ≡ pending_of old.links link ++ more → sent_on link old new ≡ more
sent_is link old new more e =
    let p = pending_of old.links link in
    ap (drop (length p)) e ∙ drop_at p more (length p) refl

pub none_sent : (link : ℕ) (old new : Space) → link_at new.links link ≡ link_at old.links link → sent_on link old new ≡ []
none_sent link old new e = sent_is link old new [] (ap pending_or_none e ∙ sym (append-nil (pending_of old.links link)))

module _ (plain : AllPlain) (given : Given) (count : ℕ) (stage : Stage) (space : Space) (lives : Option Subscription)
    (holds : Holds given.name given.errand given.text given.link space count lives)
    (fits : Fits given.errand space.graph space.links given.link count lives stage) (suits : Suits given.errand.task (point_of stage)) where
  abbrev GoesTo : Space → Type 0
  GoesTo new = Goes given count stage (sent_on given.link space new) new

  -- a step that leaves the link
  pub quiet_goes : (new : Space) → new.graph ≡ space.graph → Quiet given.link space new → GoesTo new
  quiet_goes new graph q =
      closes_goes given count stage space new (sent_on given.link space new) (none_sent given.link space new q.same) suits lives
      (closes_quiet given.link space new graph q) holds fits

  -- subscriptions end that pass a test, and are told so
  module _ (test : Subscription → Bool) (done queued : Space) (links : done.links ≡ space.links) (is : done.subscriptions ≡ filter (λ s. not (test s)) space.subscriptions)
      (q : Quiet given.link done queued) (graph : queued.graph ≡ space.graph) (named : queued.name ≡ given.name) where
    abbrev pub gone : List Subscription
    gone = filter test space.subscriptions

    abbrev pub last : Space
    last = tell_ends Success queued gone

    quiet_all : last.graph ≡ space.graph → Quiet given.link space done → ((t : Subscription) → Contains gone t → t.link ≢ given.link) → GoesTo last
    quiet_all same first apart =
        quiet_goes last same (quiet_chain given.link space done last first (quiet_chain given.link done queued last q (quiet_ends given.link Success queued gone apart)))

    one_gone : last.graph ≡ space.graph → (new : Known given space last) → (s : Subscription) → Housed given.link space s → IsOurs given.name given.errand given.text s → 2 ≤ count
        → Fits given.errand space.graph space.links given.link count (Some s) stage → test s ≡ true → GoesTo last
    one_gone same known s h ours two fits_one passes =
        let vacant : Vacant given.link done = λ t c on.
        let both = (kept (λ s. not (test s)) space.subscriptions t).0 (subst (λ l. Contains l t) is c) in
        true≢false (sym both.1 ∙ ap not (ap test (h.sole t both.0 on) ∙ passes))
        in
        let here : link_at queued.links given.link ≡ link_at space.links given.link = q.same ∙ ap (λ l. link_at l given.link) links in
        let e = ends_heard given.link Success s given.name queued gone named (q.vacant vacant) (λ none. open_known space.links given.link h.opened (sym here ∙ none))
        (λ t c on. h.sole t (was_there test space.subscriptions t c) on) h.here
        in
        let small = known.small s h.lives in
        let f = ends_fit given.errand given.name Success space.graph last.graph space.links last.links given.link count s e.count stage fits_one
        (e.heard (is_kept test space.subscriptions s passes h.lives))
        in
        record {
          told = repeated e.count (Indicated (ended_by given.name s Success));
          sends = sent_is given.link space last _ (e.waits ∙ ap (λ found. pending_or_none found ++ map spelled (repeated e.count (Indicated (ended_by given.name s Success)))) here);
          plain = all_plain e.count _ (end_plain plain given count s ours two (known.heads s ours) small.0 small.1 Success);
          lines = subst (AllByRecursion (IsTrueLine given.name given.history given.link given.text given.requests)) (sym f.0) tt;
          lives = None;
          holds = e.vacant;
          fits = f.1;
          suits = suits_through given.errand stage (repeated e.count (Indicated (ended_by given.name s Success))) suits;
        }

    pub ends_go : last.graph ≡ space.graph → Known given space last → (lives : Option Subscription) → Holds given.name given.errand given.text given.link space count lives
        → Fits given.errand space.graph space.links given.link count lives stage → GoesTo last
    ends_go same known None holds_it fits_it =
        quiet_all same (quiet_filter given.link space done (λ s. not (test s)) links is (λ s h. absurd (holds_it s h.lives h.here)))
        (λ t c. holds_it t (was_there test space.subscriptions t c))
    ends_go same known (Some s) holds_it fits_it = ⊎_elim
        (λ (passes : test s ≡ true). one_gone same known s holds_it.0 holds_it.1 holds_it.2 fits_it passes)
        (λ (stays : test s ≡ false).
        quiet_all same (quiet_filter given.link space done (λ s. not (test s)) links is (λ t h. ap not (ap test (holds_it.0.sole t h.lives h.here) ∙ stays)))
        (λ t c on.
        let both = (kept test space.subscriptions t).0 c in
        true≢false (sym both.1 ∙ ap test (holds_it.0.sole t both.0 on) ∙ stays)))
        (cases_Bool (test s))
