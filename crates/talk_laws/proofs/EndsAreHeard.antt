-- What is heard on a link of subscriptions that are told their ends.
use Rattle.std.proofs.Common.{◌≡◌, ◌≢◌, ◌⊎◌, ℕ, zero, suc, Bool, true, false, List, [], ◌∷◌, ◌++◌, map, Contains, Some, None, refl, sym, ap, subst, ◌∙◌, arith, inl, inr, append-nil, append_assoc}
use Rattle.std.proofs.lemmas.Bool.{cases_eq}
use mathlib.Core.Bool.{true≢false}
use mathlib.Core.Logic.{⊎_elim}
use Rattle.m3_terms.specs.InsertedLaws.{cons_cases, head_in, tail_in, was_there}
use Rattle.sparql_algebra.proofs.Gathered.{none_in}
use Rattle.link_table.specs.Links.{Link, is_open, link_at, state_of, state_or_never, pending_of, pending_or_none}
use Rattle.ssap_shape.specs.declared.status.Status.{Status}
use Rattle.session_core.specs.Space.{Space}
use Rattle.session_core.specs.Subscriptions.{Subscription, indication_bytes, ended_by}
use Rattle.session_core.specs.Queues.{queue, with_links}
use Rattle.session_core.specs.Following.{takes, tell_end, tell_ends}
use Rattle.ssap_shape.specs.declared.reply.Incoming.{Incoming}
use Rattle.ssap_shape.specs.declared.reply.Incoming.TheVariants.{Indication as Indicated}
use Rattle.talk_laws.proofs.Plain.{spelled}
use Rattle.talk_laws.proofs.LinksTakeOrClose.{IsShut, took, missed, shut_same}
use Rattle.talk_laws.proofs.QuietSteps.{Vacant, Quiet, quiet_same, quiet_chain, quiet_queue}
use Rattle.talk_laws.proofs.TurnsAreHeard.{open_known}

-- the same so many times
abbrev pub repeated : ℕ → Incoming → List Incoming
repeated zero one = []
repeated (suc count) one = one ∷ repeated count one

-- none of the subscriptions that end is of the link
pub quiet_ends : (link : ℕ) (status : Status) (space : Space) (ended : List Subscription) → ((t : Subscription) → Contains ended t → t.link ≢ link)
    → Quiet link space (tell_ends status space ended)
quiet_ends link status space [] apart = quiet_same link space
quiet_ends link status space (t ∷ ended) apart =
    let next = tell_end status space t in
    quiet_chain link space next (tell_ends status next ended)
    (quiet_queue link space t.link (Some (indication_bytes (ended_by space.name t status))) (apart t (head_in t ended)))
    (quiet_ends link status next ended (λ u c. apart u (tail_in t ended u c)))

-- one subscription of a link is told its end, perhaps, and nothing else is heard; where it is told and does not hear it the link is shut
pub record EndsHeard (link : ℕ) (ending : Incoming) (old new : Space) (told : Type 0) : Type 0 where
  pub count : ℕ
  pub waits : pending_of new.links link ≡ pending_of old.links link ++ map spelled (repeated count ending)
  pub vacant : Vacant link new
  pub known : link_at new.links link ≢ None
  pub heard : told → (count ≢ 0) ⊎ IsShut new.links link
  pub shut : IsShut old.links link → (count ≡ 0) × IsShut new.links link

module _ (link : ℕ) (status : Status) (s : Subscription) (name : List ℕ) where
  abbrev ending : Incoming
  ending = Indicated (ended_by name s status)

  abbrev Ends : Space → Space → Type 0 → Type 0
  Ends old new told = EndsHeard link ending old new told

  -- behind a step in which nothing is heard
  ends_later : (old next last : Space) (told now : Type 0) → pending_of next.links link ≡ pending_of old.links link → (IsShut old.links link → IsShut next.links link)
      → (now → told ⊎ IsShut next.links link) → Ends next last told → Ends old last now
  ends_later old next last told now waits shuts either e = record {
    count = e.count;
    waits = e.waits ∙ ap (λ l. l ++ map spelled (repeated e.count ending)) waits;
    vacant = e.vacant;
    known = e.known;
    heard = λ n. ⊎_elim e.heard (λ shut. inr (e.shut shut).1) (either n);
    shut = λ was. e.shut (shuts was);
  }

  -- behind one in which the end is heard
  ends_more : (old next last : Space) (told now : Type 0) → pending_of next.links link ≡ pending_of old.links link ++ spelled ending ∷ []
      → is_open (state_of old.links link) ≡ true → Ends next last told → Ends old last now
  ends_more old next last told now waits was e = record {
    count = suc e.count;
    waits = e.waits ∙ ap (λ l. l ++ map spelled (repeated e.count ending)) waits
        ∙ append_assoc (pending_of old.links link) (spelled ending ∷ []) (map spelled (repeated e.count ending));
    vacant = e.vacant;
    known = e.known;
    heard = λ n. inl (λ none. absurd (zero_not e.count none));
    shut = λ shut. absurd (true≢false (sym was ∙ shut.shut));
  }
    where
      zero_not : (n : ℕ) → suc n ≡ 0 → ⊥
      zero_not n h = omega (arith, h)

  thinned : (space : Space) (links : List Link) → Vacant link space → Vacant link (with_links space links)
  thinned space links v t c = v t (was_there (λ t. is_open (state_of links t.link)) space.subscriptions t c)

  pub ends_heard : (space : Space) (ended : List Subscription) → space.name ≡ name → Vacant link space → link_at space.links link ≢ None
      → ((t : Subscription) → Contains ended t → t.link ≡ link → t ≡ s) → s.link ≡ link → Ends space (tell_ends status space ended) (Contains ended s)
  ends_heard space [] n v known each on = record {
    count = 0;
    waits = sym (append-nil (pending_of space.links link));
    vacant = v;
    known = known;
    heard = λ c. absurd (none_in s c);
    shut = λ shut. (refl, shut);
  }
  ends_heard space (t ∷ ended) n v known each on = ⊎_elim
      (λ (here : t.link ≡ link).
      at_link (λ after m w k. ends_heard after ended m w k (λ u c. each u (tail_in t ended u c)) on) here (each t (head_in t ended) here))
      (λ (apart : t.link ≢ link). other (λ after m w k. ends_heard after ended m w k (λ u c. each u (tail_in t ended u c)) on) apart)
      (cases_eq t.link link)
    where
      next : Space
      next = tell_end status space t

      -- what holds of the others
      Later : Type 0
      Later = (after : Space) → after.name ≡ name → Vacant link after → link_at after.links link ≢ None → Ends after (tell_ends status after ended) (Contains ended s)

      other : Later → t.link ≢ link → Ends space (tell_ends status space (t ∷ ended)) (Contains (t ∷ ended) s)
      other later apart =
          let q = quiet_queue link space t.link (Some (indication_bytes (ended_by space.name t status))) apart in
          ends_later space next (tell_ends status next ended) (Contains ended s) (Contains (t ∷ ended) s) (ap pending_or_none q.same)
          (λ was. record {
            known = λ gone. was.known (sym q.same ∙ gone);
            shut = ap (λ found. is_open (state_or_never found)) q.same ∙ was.shut;
          })
          (λ c. ⊎_elim (λ (e : t ≡ s). absurd (apart (ap (λ (t : Subscription). t.link) e ∙ on))) (λ (d : Contains ended s). inl d) (cons_cases t ended s c))
          (later next n (q.vacant v) (λ gone. known (sym q.same ∙ gone)))

      -- the link is sent the end
      queued : Space
      queued = queue space link (Some (spelled ending))

      by : Later → (now taken : Bool) → is_open (state_of space.links link) ≡ now → takes space.links link (spelled ending) ≡ taken
          → Ends space (tell_ends status queued ended) (Contains (t ∷ ended) s)
      by later true true e f =
          let k = took (spelled ending) space.links link f in
          ends_more space queued (tell_ends status queued ended) (Contains ended s) (Contains (t ∷ ended) s) k.0 e
          (later queued n (thinned space queued.links v) (open_known queued.links link k.1))
      by later true false e f =
          let m = missed (spelled ending) space.links link e f in
          ends_later space queued (tell_ends status queued ended) (Contains ended s) (Contains (t ∷ ended) s) m.0 (λ was. m.1) (λ c. inr m.1)
          (later queued n (thinned space queued.links v) m.1.known)
      by later false taken e f =
          let same = shut_same (spelled ending) space.links link e in
          let shut : IsShut queued.links link = record {
            known = λ gone. known (sym same ∙ gone);
            shut = ap (λ found. is_open (state_or_never found)) same ∙ e;
          } in
          ends_later space queued (tell_ends status queued ended) (Contains ended s) (Contains (t ∷ ended) s) (ap pending_or_none same) (λ was. shut) (λ c. inr shut)
          (later queued n (thinned space queued.links v) shut.known)

      at_link : Later → t.link ≡ link → t ≡ s → Ends space (tell_ends status space (t ∷ ended)) (Contains (t ∷ ended) s)
      at_link later here is =
          let same : queued ≡ next =
          ap (λ name. queue space link (Some (indication_bytes (ended_by name s status)))) (sym n)
          ∙ ap (λ (u : Subscription). queue space link (Some (indication_bytes (ended_by space.name u status)))) (sym is)
          ∙ ap (λ l. queue space l (Some (indication_bytes (ended_by space.name t status)))) (sym here)
          in
          subst (λ after. Ends space (tell_ends status after ended) (Contains (t ∷ ended) s)) same
          (by later (is_open (state_of space.links link)) (takes space.links link (spelled ending)) refl refl)
