-- What is heard of a subscription on the link of a talk is plain, what is printed of it is true, and the talk fits again.
use Rattle.std.proofs.Common.{◌≡◌, ◌≢◌, ◌⊎◌, ◌≤◌, ℕ, zero, suc, ◌+◌, nat_lt, false, List, [], ◌∷◌, ◌++◌, length, Contains, Some, None, Result, Ok, Err, refl, sym, ap, subst, ◌∙◌, inl, inr, arith, if◌then◌else◌, append-nil}
use Rattle.std.specs.List.{AllByRecursion}
use Rattle.std.proofs.lemmas.Bool.{eq-eqb, ltb-false}
use Rattle.std.proofs.lemmas.Option.{same_Some}
use Rattle.m3_terms.specs.declared.triple.Triple.{Triple}
use Rattle.answer_bodies.specs.declared.answer.Difference.{Difference}
use Rattle.answer_bodies.specs.Differences.{MayFollow, folded}
use Rattle.answer_bodies.proofs.DifferenceLaws.{differences_folded}
use Rattle.sparql_algebra.specs.Listed.{rows_of}
use Rattle.sparql_algebra.specs.declared.algebra.Query.{Query as Said}
use Rattle.sparql_text.specs.declared.fault.ReadFault.{ReadFault}
use Rattle.sparql_read.specs.Reading.{reading_of}
use Rattle.link_table.specs.Links.{Link, is_open, state_or_never, pending_of, pending_or_none}
use Rattle.ssap_items.specs.declared.heads.Transaction as transaction
use Rattle.ssap_shape.specs.Sound.{AreSoundHeads}
use Rattle.ssap_shape.specs.declared.reply.Indication.{Indication}
use Rattle.ssap_shape.specs.declared.status.Status.{Status}
use Rattle.ssap_shape.specs.declared.status.Status.TheVariants.{OutOfResources}
use Rattle.session_core.specs.Answers.{column_names}
use Rattle.session_core.specs.Space.{Space}
use Rattle.session_core.specs.Subscriptions.{Subscription, Wanted, Selected, wanted_of, answer_over, heads_for, ended_by, changed_by, indication_bytes}
use Rattle.session_core.specs.Following.{Change, difference_over}
use Rattle.ssap_shape.specs.declared.reply.Incoming.{Incoming}
use Rattle.ssap_shape.specs.declared.reply.Incoming.TheVariants.{Indication as Indicated}
use Rattle.kp_client.specs.Mirroring.{Mirroring, mirrored, refusal}
use Rattle.kp_talk.specs.declared.errand.Errand.{Errand}
use Rattle.kp_talk.specs.declared.finish.Finish.{Finish}
use Rattle.kp_talk.specs.declared.finish.Finish.TheVariants.{Ended as End}
use Rattle.kp_talk.specs.Talk.{Line}
use Rattle.talk_laws.specs.Truth.{IsTrue, IsTrueLine}
use Rattle.talk_laws.proofs.Stages.{Point, Joins, Asks, Follows, Unsubscribes, LeavesAsked, LeavesWatched, Stage, At, Closed, Move, point_of, following, applied, indicated, to, through, lines_on, over_stays}
use Rattle.talk_laws.proofs.Plain.{IsSaid, IsPlain, AllPlain, IsSmall}
use Rattle.talk_laws.proofs.LinksTakeOrClose.{IsShut}
use Rattle.talk_laws.proofs.QuietSteps.{Housed}
use Rattle.talk_laws.proofs.TurnsAreHeard.{Heard, Nothing, News, Ending, Lost, told_more, change_of}
use Rattle.talk_laws.proofs.EndsAreHeard.{repeated}
use Rattle.talk_laws.proofs.MirrorsApply.{not_refused}
use Rattle.talk_laws.proofs.Fits.{IsOurs, Mirrors, Fits, Suits, Given, Goes}
use Rattle.talk_laws.proofs.TalksSuit.{suits_through}
use Rattle.talk_laws.proofs.CallsThatClose.{fits_shut, fits_same}

-- a text that says a query asks for what it selects
pub selected : (read : Result Said ReadFault) (wanted : Wanted) → wanted_of read ≡ Some wanted → (query : Said) × (wanted ≡ Selected query)
selected (Ok query) wanted e = (query, sym (same_Some _ _ e))
selected (Err fault) wanted e = absurd (cc)

-- what is passed over leaves a stage, and nothing is printed
passed_over : (errand : Errand) (point : Point) (indication : Indication) → indicated point indication ≡ to (At point) → (count : ℕ)
    → (through errand (At point) (repeated count (Indicated indication)) ≡ At point) × (lines_on errand (At point) (repeated count (Indicated indication)) ≡ [])
passed_over errand point indication e zero = (refl, refl)
passed_over errand point indication e (suc count) =
    let rest = repeated count (Indicated indication) in
    let later = passed_over errand point indication e count in (
      ap (λ (m : Move). through errand m.stage rest) e ∙ later.0,
      ap (λ (m : Move). m.lines ++ lines_on errand m.stage rest) e ∙ later.1,
    )

-- what is over prints nothing more
over_silent : (errand : Errand) (point : Point) (finish : Finish) (told : List Incoming) → lines_on errand (Closed point finish) told ≡ []
over_silent errand point finish [] = refl
over_silent errand point finish (one ∷ told) = over_silent errand point finish told

module _ (errand : Errand) (name : List ℕ) (status : Status) (graph after : List Triple) (links then' : List Link) (link count : ℕ) (s : Subscription) where
  abbrev ending : Indication
  ending = ended_by name s status

  -- the talk after the end of its subscription was told so many times
  abbrev Ends : ℕ → Stage → Type 0
  Ends times stage = (lines_on errand stage (repeated times (Indicated ending)) ≡ [])
      × Fits errand after then' link count None (through errand stage (repeated times (Indicated ending)))

  ends_by : (point : Point) (times : ℕ) → indicated point ending ≡ to (At point) → Fits errand after then' link count None (At point) → Ends times (At point)
  ends_by point times e fits =
      let p = passed_over errand point ending e times in
      (p.1, subst (Fits errand after then' link count None) (sym p.0) fits)

  ends_mirror : (left : ℕ) (mirror : Mirroring) (times : ℕ) → mirror.subscription ≡ s.number → Ends (suc times) (At (Follows left mirror))
  ends_mirror left mirror times same =
      let here = ap (λ b. if b then to (Closed (Follows left mirror) (End status)) else to (At (Follows left mirror))) (eq-eqb s.number mirror.subscription (sym same)) in
      let rest = repeated times (Indicated ending) in (
        ap (λ (m : Move). m.lines ++ lines_on errand m.stage rest) here ∙ over_silent errand (Follows left mirror) (End status) rest,
        subst (Fits errand after then' link count None) (sym (ap (λ (m : Move). through errand m.stage rest) here ∙ over_stays errand (Follows left mirror) (End status) rest)) (inl tt),
      )

  pub ends_fit : (times : ℕ) (stage : Stage) → Fits errand graph links link count (Some s) stage → (times ≢ 0) ⊎ IsShut then' link → Ends times stage
  ends_fit times (At Joins) fits heard = ends_by Joins times refl fits
  ends_fit times (At Asks) fits heard = ends_by Asks times refl fits
  ends_fit zero (At (Follows left mirror)) fits (inl some) = absurd (some refl)
  ends_fit zero (At (Follows left mirror)) fits (inr shut) = (refl, shut)
  ends_fit (suc times) (At (Follows left mirror)) fits heard = ends_mirror left mirror times fits.0.subscription
  ends_fit times (At (Unsubscribes number)) fits heard = ends_by (Unsubscribes number) times refl fits
  ends_fit times (At LeavesAsked) fits heard = ends_by LeavesAsked times refl fits
  ends_fit times (At (LeavesWatched number)) fits heard = ends_by (LeavesWatched number) times refl fits
  ends_fit times (Closed point finish) fits heard = (
    over_silent errand point finish (repeated times (Indicated ending)),
    subst (Fits errand after then' link count None) (sym (over_stays errand point finish (repeated times (Indicated ending)))) fits,
  )

-- an indication that is plain so many times
pub all_plain : (times : ℕ) (one : Incoming) → IsPlain one → AllByRecursion IsPlain (repeated times one)
all_plain zero one p = tt
all_plain (suc times) one p = (p, all_plain times one p)

module _ (given : Given) (count : ℕ) (s : Subscription) (ours : IsOurs given.name given.errand given.text s) (before graph : List Triple)
    (follow : MayFollow (answer_over before s.wanted) (answer_over graph s.wanted))
    (line_true : IsTrue given.name given.history given.link given.text given.requests (s.sequence + 1) (answer_over graph s.wanted)) where
  abbrev difference : Difference
  difference = difference_over before graph s.wanted

  abbrev news : Indication
  news = changed_by given.name s difference

  abbrev AllTrue : List Line → Type 0
  AllTrue lines = AllByRecursion (IsTrueLine given.name given.history given.link given.text given.requests) lines

  -- the talk after the news
  abbrev Tells : List Link → Stage → Type 0
  Tells links stage = AllTrue (lines_on given.errand stage (Indicated news ∷ []))
      × Fits given.errand graph links given.link count (Some (told_more s)) (through given.errand stage (Indicated news ∷ []))

  unrefused : (mirror : Mirroring) → Mirrors before s mirror → refusal mirror s.number (s.sequence + 1) difference ≡ None
  unrefused mirror m =
      let q = selected (reading_of given.text) s.wanted ours.asks in
      (λ i. refusal (record { subscription = m.subscription i; applied = m.applied i; answer = m.answer i }) s.number (s.sequence + 1) difference)
      ∙ ap (λ wanted. refusal (record { subscription = s.number; applied = s.sequence; answer = answer_over before wanted }) s.number (s.sequence + 1) (difference_over before graph wanted)) q.1
      ∙ not_refused (column_names q.0) (rows_of q.0 before) (rows_of q.0 graph) s.number s.sequence

  mirrored_answer : (mirror : Mirroring) → Mirrors before s mirror → folded mirror.answer difference ≡ answer_over graph s.wanted
  mirrored_answer mirror m = ap (λ answer. folded answer difference) m.answer ∙ differences_folded (answer_over before s.wanted) (answer_over graph s.wanted) follow

  following_fits : (links : List Link) (left : ℕ) (mirror : Mirroring) → Mirrors graph (told_more s) mirror → count ≡ 2
      → Fits given.errand graph links given.link count (Some (told_more s)) (following left mirror)
  following_fits links zero mirror m two = omega (arith, two)
  following_fits links (suc left) mirror m two = (m, two)

  tells_mirror : (links : List Link) (left : ℕ) (mirror : Mirroring) → Mirrors before s mirror → count ≡ 2 → Tells links (At (Follows left mirror))
  tells_mirror links left mirror m two =
      let e : applied left mirror difference (refusal mirror s.number (s.sequence + 1) difference) ≡ applied left mirror difference None =
      ap (applied left mirror difference) (unrefused mirror m) in
      let answer = mirrored_answer mirror m in
      let line = subst (λ a. IsTrue given.name given.history given.link given.text given.requests (mirror.applied + 1) a) (sym answer)
      (subst (λ n. IsTrue given.name given.history given.link given.text given.requests (n + 1) (answer_over graph s.wanted)) (sym m.applied) line_true)
      in (
        subst AllTrue (sym (ap (λ (m : Move). m.lines ++ []) e)) (line, tt),
        subst (Fits given.errand graph links given.link count (Some (told_more s))) (sym (ap (λ (m : Move). m.stage) e))
            (following_fits links left (mirrored mirror difference) (record { subscription = m.subscription; applied = ap (λ n. n + 1) m.applied; answer = answer }) two),
      )

  tells : (old links : List Link) (stage : Stage) → Fits given.errand before old given.link count (Some s) stage → Tells links stage
  tells old links (At Joins) fits = (tt, tt)
  tells old links (At Asks) fits = (tt, fits)
  tells old links (At (Follows left mirror)) fits = tells_mirror links left mirror fits.0 fits.1
  tells old links (At (Unsubscribes number)) fits = (tt, fits)
  tells old links (At LeavesAsked) fits = (tt, fits)
  tells old links (At (LeavesWatched number)) fits = (tt, fits)
  tells old links (Closed point finish) fits = (tt, fits)

module _ (plain : AllPlain) (given : Given) (count : ℕ) (s : Subscription) (ours : IsOurs given.name given.errand given.text s) (two : 2 ≤ count)
    (heads : (kind : transaction.Transaction) → AreSoundHeads (heads_for given.name s kind)) (small : IsSmall s.number) (next : IsSmall (s.sequence + 1)) where
  -- an end that is told is plain
  pub end_plain : (status : Status) → IsPlain (Indicated (ended_by given.name s status))
  end_plain status = plain.ended (heads_for given.name s transaction.TheVariants.Unsubscribe) s.number status (heads transaction.TheVariants.Unsubscribe) refl refl small

  module _ (before graph : List Triple) (follow : MayFollow (answer_over before s.wanted) (answer_over graph s.wanted))
      (sound : IsSaid (difference_over before graph s.wanted).added × IsSaid (difference_over before graph s.wanted).obsolete)
      (stage : Stage) (suits : Suits given.errand.task (point_of stage)) where
    news_plain : nat_lt 4194304 (length (indication_bytes (changed_by given.name s (difference_over before graph s.wanted)))) ≡ false
        → IsPlain (Indicated (changed_by given.name s (difference_over before graph s.wanted)))
    news_plain short =
        plain.changed (heads_for given.name s transaction.TheVariants.Subscribe) s.number (s.sequence + 1) (difference_over before graph s.wanted)
        (heads transaction.TheVariants.Subscribe) refl refl small next sound.0 sound.1 (ltb-false _ _ short)

    -- from a space in which it lives on the link to one after what is heard
    pub heard_goes : (old new : Space) (sent : List (List ℕ)) (told : List Change) → new.graph ≡ graph
        → ((more : List (List ℕ)) → pending_of new.links given.link ≡ pending_of old.links given.link ++ more → sent ≡ more)
        → Fits given.errand before old.links given.link count (Some s) stage → Housed given.link old s
        → (Contains told (change_of before graph s) → Housed given.link new (told_more s)
        → IsTrue given.name given.history given.link given.text given.requests (s.sequence + 1) (answer_over graph s.wanted))
        → Heard given.name given.link before graph old new s told → Goes given count stage sent new
    heard_goes old new sent told g sends fits housed line (Nothing q e) = record {
      told = [];
      sends = sends [] (ap pending_or_none q.same ∙ sym (append-nil (pending_of old.links given.link)));
      plain = tt;
      lines = tt;
      lives = Some s;
      holds = (q.housed s housed, ours, two);
      fits = fits_same given.errand before new.graph old.links new.links given.link count (Some s) stage fits
          (λ was. record { known = λ gone. was.known (sym q.same ∙ gone); shut = ap (λ found. is_open (state_or_never found)) q.same ∙ was.shut })
          (λ t is. subst (λ t. answer_over before t.wanted ≡ answer_over new.graph t.wanted) (same_Some s t is) (e ∙ ap (λ graph. answer_over graph s.wanted) (sym g)));
      suits = suits;
    }
    heard_goes old new sent told g sends fits housed line (News waits after there short) =
        let t = tells given count s ours before graph follow (line there after) old.links new.links stage fits in
        record {
          told = Indicated (changed_by given.name s (difference_over before graph s.wanted)) ∷ [];
          sends = sends _ waits;
          plain = (news_plain short, tt);
          lines = t.0;
          lives = Some (told_more s);
          holds = (after, record { named = ours.named; node = ours.node; transaction = ours.transaction; asks = ours.asks }, two);
          fits = subst (λ g. Fits given.errand g new.links given.link count (Some (told_more s))
              (through given.errand stage (Indicated (changed_by given.name s (difference_over before graph s.wanted)) ∷ []))) (sym g) t.1;
          suits = suits_through given.errand stage (Indicated (changed_by given.name s (difference_over before graph s.wanted)) ∷ []) suits;
        }
    heard_goes old new sent told g sends fits housed line (Ending waits vacant known) =
        let e = ends_fit given.errand given.name OutOfResources before new.graph old.links new.links given.link count s 1 stage fits (inl (λ none. absurd (omega (arith, none)))) in
        record {
          told = Indicated (ended_by given.name s OutOfResources) ∷ [];
          sends = sends _ waits;
          plain = (end_plain OutOfResources, tt);
          lines = subst (AllByRecursion (IsTrueLine given.name given.history given.link given.text given.requests)) (sym e.0) tt;
          lives = None;
          holds = vacant;
          fits = e.1;
          suits = suits_through given.errand stage (Indicated (ended_by given.name s OutOfResources) ∷ []) suits;
        }
    heard_goes old new sent told g sends fits housed line (Lost waits shut vacant) = record {
      told = [];
      sends = sends [] (waits ∙ sym (append-nil (pending_of old.links given.link)));
      plain = tt;
      lines = tt;
      lives = None;
      holds = vacant;
      fits = fits_shut given.errand before new.graph old.links new.links given.link count count (Some s) stage (omega arith) fits shut;
      suits = suits;
    }
