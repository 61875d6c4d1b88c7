-- The events of the first bytes of a delivery begin those of all of it.
use Rattle.std.proofs.Common.{◌≡◌, ◌∙◌, ap, sym, refl, subst, arith, ℕ, ◌+◌, true, List, [], ◌∷◌, ◌++◌, length, drop, Option, append-nil}
use Rattle.std.proofs.lemmas.List.{drop-append-le}
use Rattle.ssap_grammar.specs.Stream.{Placed, AreMessages}
use Rattle.ssap_grammar.proofs.Streams.{messages_stay}
use Rattle.ssap_decode.specs.Decoding.{Decoding}
use Rattle.ssap_shape.proofs.Onces.{shapes_once}
use Rattle.m3_terms.proofs.Lists.{fronts, Shorter, Longer}
use Rattle.sib_replay.specs.declared.why.Why.{Why}
use Rattle.sib_replay.specs.Output.{Event, Arrives, StopsBehind, GoesOn, AreLet, AreArrived, AreHeard, is_open_after}
use Rattle.sib_replay.specs.Session.{Follows, AreArrivals}
use Rattle.sib_replay.proofs.ReadOnce.{none_longer, drop-two}

-- where the link is open behind an event, others follow
goes_on : (name : List ℕ) (before : List Event) (link : ℕ) (v : Event) (Others : List Event → Type 0) (all : List Event) → is_open_after name (before ++ v ∷ []) link ≡ true
    → GoesOn (is_open_after name (before ++ v ∷ []) link) v Others all → (others : List Event) × (all ≡ v ∷ others) × Others others
goes_on name before link v Others all on g = subst (λ b. GoesOn b v Others all) on g

-- events of some messages begin those of these and more
arrivals_begin : (name : List ℕ) (before : List Event) (link : ℕ) (front rest : List ℕ) (l others : List Placed) (events all : List Event) → AreArrivals name before link l events
    → AreArrived name before link front rest (l ++ others) all → (more : List Event) × (all ≡ events ++ more)
arrivals_begin name before link front rest [] others [] all h t = (all, refl)
arrivals_begin name before link front rest [] others (v ∷ events) all h t = absurd h
arrivals_begin name before link front rest (m ∷ l) others [] all h t = absurd h
arrivals_begin name before link front rest (m ∷ l) others (v ∷ events) all ((arrived, shape, is, on), more) (again, shape_too, g) =
    let same : Arrives link m.start again ≡ v = ap (λ x. Arrives link m.start x) (shapes_once m.envelope again arrived shape_too shape) ∙ sym is in
    let Others : Event → List Event → Type 0 = λ e. AreArrived name (before ++ e ∷ []) link front rest (l ++ others) in
    let (tail, whole, t) = goes_on name before link v (Others v) all on (subst (λ e. GoesOn (is_open_after name (before ++ e ∷ []) link) e (Others e) all) same g) in
    let (rest_of, e) = arrivals_begin name (before ++ v ∷ []) link front rest l others events tail more t in
    (rest_of, whole ∙ ap (λ x. v ∷ x) e)

-- nothing stops a link within messages behind each of which it is open
arrivals_past : (name : List ℕ) (before : List Event) (link : ℕ) (front rest : List ℕ) (l others : List Placed) (events all : List Event) → AreArrivals name before link (l ++ others) events
    → AreArrived name before link front rest l all → ((stop : Option Why) → StopsBehind front rest stop → ⊥) → ⊥
arrivals_past name before link front rest [] others events all h (stop, stands, is) none = none stop stands
arrivals_past name before link front rest (m ∷ l) others [] all h t none = absurd h
arrivals_past name before link front rest (m ∷ l) others (v ∷ events) all ((arrived, shape, is, on), more) (again, shape_too, g) none =
    let same : Arrives link m.start again ≡ v = ap (λ x. Arrives link m.start x) (shapes_once m.envelope again arrived shape_too shape) ∙ sym is in
    let Others : Event → List Event → Type 0 = λ e. AreArrived name (before ++ e ∷ []) link front rest l in
    let (tail, whole, t) = goes_on name before link v (Others v) all on (subst (λ e. GoesOn (is_open_after name (before ++ e ∷ []) link) e (Others e) all) same g) in
    arrivals_past name (before ++ v ∷ []) link front rest l others events tail more t none

module _ (name : List ℕ) (before : List Event) (link came : ℕ) (heard bytes : List ℕ) (events all : List Event) (d : Decoding) (f : Follows d heard (came + length events))
    (h : AreArrivals name before link (drop came f.messages) events) (t : AreHeard name before link came (heard ++ bytes) all) where
  -- the bytes that were taken are a prefix of those that are let through
  within : (k : List ℕ) → heard ++ k ≡ t.front → (rest : List Event) × (all ≡ events ++ rest)
  within k e =
      let grown = messages_stay heard k f.messages t.messages f.through.are (subst (λ x. AreMessages x t.messages) (sym e) t.through.are) in
      let split : drop came t.messages ≡ drop came f.messages ++ grown.0 = ap (drop came) grown.1 ∙ drop-append-le came f.messages grown.0 (omega (arith, f.counted)) in
      arrivals_begin name before link t.front t.rest (drop came f.messages) grown.0 events all h (subst (λ l. AreArrived name before link t.front t.rest l all) split t.taken)

  -- they are no longer
  past : (k : List ℕ) → t.front ++ k ≡ heard → t.rest ≡ k ++ bytes → (rest : List Event) × (all ≡ events ++ rest)
  past [] e r = within [] (append-nil heard ∙ sym e ∙ append-nil t.front)
  past (byte ∷ k) e r =
      let grown = messages_stay t.front (byte ∷ k) t.messages f.messages t.through.are (subst (λ x. AreMessages x f.messages) (sym e) f.through.are) in
      let rest = drop-two came t.messages grown.0 in
      absurd (arrivals_past name before link t.front t.rest (drop came t.messages) rest.0 events all
      (subst (λ l. AreArrivals name before link l events) (ap (drop came) grown.1 ∙ rest.1) h) t.taken
      (λ stop stands. none_longer t.front byte k (k ++ bytes) t.messages f.messages stop t.through (subst (λ z. AreLet z f.messages) (sym e) f.through)
      (subst (λ z. StopsBehind t.front z stop) r stands)))

  pub heard_begins : (rest : List Event) × (all ≡ events ++ rest)
  heard_begins = elim (fronts heard bytes t.front t.rest t.split) [
    | Shorter k p q ↦ within k p
    | Longer k p q ↦ past k p (sym q)
  ]
