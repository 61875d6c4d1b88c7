-- What a link hears is told once.
use Rattle.std.proofs.Common.{◌≡◌, ◌∙◌, ap, sym, refl, subst, arith, inl, inr, ℕ, zero, suc, Bool, true, false, ◌+◌, ◌-◌, List, [], ◌∷◌, ◌++◌, length, take, drop, Option, Some, None, append_assoc, append-nil, length-append}
use Rattle.std.specs.List.{AllByRecursion}
use Rattle.std.proofs.lemmas.Bool.{cases_lt}
use Rattle.std.proofs.lemmas.List.{take-append-le}
use Rattle.std.proofs.Math.Seq.{take-append-add}
use Rattle.ssap_grammar.specs.Stream.{Placed, Stream, IsViable, IsWhole, AreMessages, IsInside}
use Rattle.ssap_grammar.proofs.Streams.{streams_once, messages_stay}
use Rattle.ssap_grammar.proofs.StreamParts.{wholes_once, streams_are_whole, viable_front}
use Rattle.ssap_grammar.proofs.StreamEnds.{unfinished_begins}
use Rattle.ssap_decode.specs.Decoding.{message_limit}
use Rattle.ssap_decode.specs.Standing.{IsShort}
use Rattle.ssap_shape.proofs.Onces.{shapes_once}
use Rattle.ssap_shape.specs.declared.request.Arrived.{Arrived}
use Rattle.m3_terms.proofs.Lists.{fronts, Shorter, Longer}
use Rattle.sib_replay.specs.declared.why.Why.{Why}
use Rattle.sib_replay.specs.declared.why.Why.TheVariants.{Syntax, Long, Cut, Request, Overrun}
use Rattle.sib_replay.specs.Output.{Event, Arrives, Stops, heard, is_open_after, AreLet, StopsBehind, stops_of, GoesOn, AreArrived, AreHeard, IsEnded}

-- bytes have one list of messages
pub messages_once : (bytes : List ℕ) (l m : List Placed) → AreMessages bytes l → AreMessages bytes m → l ≡ m
messages_once bytes l m (w, a) (v, b) =
    let same : w ≡ v = wholes_once bytes w v (l, a) (m, b) in
    streams_once (take v bytes) l m (subst (λ n. Stream (take n bytes) l) same a.stream) b.stream

-- the last of some messages before others is as short as all
last_short : (before after : List Placed) (message : Placed) → AllByRecursion IsShort (before ++ message ∷ after) → IsShort message
last_short [] after message h = h.0
last_short (first ∷ before) after message h = last_short before after message h.1

-- bytes that are too long to be a stream end inside a message
pub long_inside : (bytes : List ℕ) (start : ℕ) → IsViable bytes → IsWhole bytes start → length bytes ≡ start + message_limit → IsInside bytes start
long_inside bytes start viable whole size = record {
  viable = viable;
  unfinished = λ others stream.
      let same = wholes_once bytes start (length bytes) whole (others, streams_are_whole bytes others stream) in
      absurd (omega (arith, same, size));
  whole = whole;
}

-- behind bytes that are let through no byte is let through that stops them
pub none_longer : (front : List ℕ) (byte : ℕ) (more rest : List ℕ) (l m : List Placed) (stop : Option Why) → AreLet front l → AreLet (front ++ byte ∷ more) m
    → StopsBehind front (byte ∷ rest) stop → ⊥
none_longer front byte more rest l m None a b s = s
none_longer front byte more rest l m (Some (Request start)) a b s = s
none_longer front byte more rest l m (Some Overrun) a b s = s
none_longer front byte more rest l m (Some (Cut start)) a b s = s
none_longer front byte more rest l m (Some (Syntax place)) a b s =
    s.0 (viable_front (front ++ byte ∷ []) more (subst IsViable (sym (append_assoc front (byte ∷ []) more)) b.viable))
none_longer front byte more rest l m (Some (Long start)) a b (viable, whole, size) =
    let (w, of) = b.are in
    let all = length-append front (byte ∷ more) in
    elim (cases_lt (length front) w) [
      | inl past ↦
          let more_of : List ℕ = take (w - length front) (byte ∷ more) in
          let parts : take w (front ++ byte ∷ more) ≡ front ++ more_of =
          ap (λ n. take n (front ++ byte ∷ more)) (omega (arith, past)) ∙ take-append-add front (byte ∷ more) (w - length front)
          in
          let u = unfinished_begins front start more_of m (long_inside front start a.viable whole size) (subst (λ x. Stream x m) parts of.stream) in
          let short = last_short u.before u.after u.message (subst (AllByRecursion IsShort) u.split b.short) in
          absurd (omega (arith, u.begins, u.ends, short, size))
      | inr within ↦
          let kept : take w (front ++ byte ∷ more) ≡ take w front = take-append-le w front (byte ∷ more) (omega (arith, within)) in
          let most = whole.1.longest w m (omega (arith, within)) (subst (λ x. Stream x m) kept of.stream) in
          let rest_is = b.rest_short w (m, of) in
          absurd (omega (arith, most, rest_is, size, all))
    ]

-- behind the same bytes one stop stands
stop_once : (front rest : List ℕ) (a b : Option Why) → StopsBehind front rest a → StopsBehind front rest b → a ≡ b
stop_once front [] None None s t = refl
stop_once front [] None (Some b) s t = absurd t
stop_once front [] (Some a) b s t = absurd s
stop_once front (byte ∷ rest) None b s t = absurd s
stop_once front (byte ∷ rest) (Some (Request p)) b s t = absurd s
stop_once front (byte ∷ rest) (Some Overrun) b s t = absurd s
stop_once front (byte ∷ rest) (Some (Cut p)) b s t = absurd s
stop_once front (byte ∷ rest) (Some (Syntax p)) None s t = absurd t
stop_once front (byte ∷ rest) (Some (Syntax p)) (Some (Request q)) s t = absurd t
stop_once front (byte ∷ rest) (Some (Syntax p)) (Some Overrun) s t = absurd t
stop_once front (byte ∷ rest) (Some (Syntax p)) (Some (Cut q)) s t = absurd t
stop_once front (byte ∷ rest) (Some (Syntax p)) (Some (Syntax q)) s t = ap (λ n. Some (Syntax n)) (s.1 ∙ sym t.1)
stop_once front (byte ∷ rest) (Some (Syntax p)) (Some (Long q)) s t = absurd (s.0 t.0)
stop_once front (byte ∷ rest) (Some (Long p)) None s t = absurd t
stop_once front (byte ∷ rest) (Some (Long p)) (Some (Request q)) s t = absurd t
stop_once front (byte ∷ rest) (Some (Long p)) (Some Overrun) s t = absurd t
stop_once front (byte ∷ rest) (Some (Long p)) (Some (Cut q)) s t = absurd t
stop_once front (byte ∷ rest) (Some (Long p)) (Some (Syntax q)) s t = absurd (t.0 s.0)
stop_once front (byte ∷ rest) (Some (Long p)) (Some (Long q)) s t = ap (λ n. Some (Long n)) (wholes_once front p q s.1 t.1)

-- an event and what follows it are one thing where what follows is
goes_once : (event : Event) (b : Bool) (P Q : List Event → Type 0) (v w : List Event) → ((x y : List Event) → P x → Q y → x ≡ y) → GoesOn b event P v → GoesOn b event Q w → v ≡ w
goes_once event true P Q v w once (x, is, p) (y, as_, q) = is ∙ ap (λ z. event ∷ z) (once x y p q) ∙ sym as_
goes_once event false P Q v w once is as_ = is ∙ sym as_

-- some messages and more come as one thing, where what stands behind the first ones is
arrived_once : (name : List ℕ) (before : List Event) (link : ℕ) (f r g q : List ℕ) (l m : List Placed) (v w : List Event) → AreArrived name before link f r l v → AreArrived name before link g q (l ++ m) w
    → ((between x y : List Event) → AreArrived name between link f r [] x → AreArrived name between link g q m y → x ≡ y) → v ≡ w
arrived_once name before link f r g q [] m v w s t behind = behind before v w s t
arrived_once name before link f r g q (message ∷ l) m v w (c, a, x) (d, b, y) behind =
    let Others : Arrived → List Event → Type 0 = λ e. AreArrived name (before ++ Arrives link message.start e ∷ []) link g q (l ++ m) in
    goes_once (Arrives link message.start c) (is_open_after name (before ++ Arrives link message.start c ∷ []) link) (AreArrived name (before ++ Arrives link message.start c ∷ []) link f r l) (Others c) v w
    (λ xs ys p s. arrived_once name (before ++ Arrives link message.start c ∷ []) link f r g q l m xs ys p s behind) x
    (subst (λ e. GoesOn (is_open_after name (before ++ Arrives link message.start e ∷ []) link) (Arrives link message.start e) (Others e) w) (sym (shapes_once message.envelope c d a b)) y)

-- what is left out of two lists that follow each other
pub drop-two : {A : Type 0} (n : ℕ) (xs ys : List A) → (zs : List A) × (drop n (xs ++ ys) ≡ drop n xs ++ zs)
drop-two zero [] ys = (ys, refl)
drop-two zero (x ∷ xs) ys = (ys, refl)
drop-two (suc n) [] ys = (drop (suc n) ys, refl)
drop-two (suc n) (x ∷ xs) ys = drop-two n xs ys

module _ (name : List ℕ) (before : List Event) (link came : ℕ) (bytes : List ℕ) (v w : List Event) (a : AreHeard name before link came bytes v) (b : AreHeard name before link came bytes w) where
  -- of two readings the longer front says the same as the other
  front_once : (k : List ℕ) → a.front ++ k ≡ b.front → a.rest ≡ k ++ b.rest → v ≡ w
  front_once [] f r =
      let same : a.front ≡ b.front = sym (append-nil a.front) ∙ f in
      let messages : a.messages ≡ b.messages = messages_once b.front a.messages b.messages (subst (λ x. AreMessages x a.messages) same a.through.are) b.through.are in
      arrived_once name before link a.front a.rest b.front b.rest (drop came a.messages) [] v w a.taken
      (subst (λ l. AreArrived name before link b.front b.rest l w) (ap (drop came) (sym messages) ∙ sym (append-nil (drop came a.messages))) b.taken)
      (λ between x y (s, stands, is) (t, also, as_).
      is ∙ ap (stops_of link) (stop_once b.front b.rest s t (subst (λ z. StopsBehind b.front z s) r (subst (λ z. StopsBehind z a.rest s) same stands)) also) ∙ sym as_)
  front_once (byte ∷ k) f r =
      let grown = messages_stay a.front (byte ∷ k) a.messages b.messages a.through.are (subst (λ x. AreMessages x b.messages) (sym f) b.through.are) in
      let rest = drop-two came a.messages grown.0 in
      arrived_once name before link a.front a.rest b.front b.rest (drop came a.messages) rest.0 v w a.taken
      (subst (λ l. AreArrived name before link b.front b.rest l w) (ap (drop came) grown.1 ∙ rest.1) b.taken)
      (λ between x y (s, stands, is) t. absurd (none_longer a.front byte k (k ++ b.rest) a.messages b.messages s a.through (subst (λ z. AreLet z b.messages) (sym f) b.through)
      (subst (λ z. StopsBehind a.front z s) r stands)))

-- what a link hears is told once
pub heard_once : (name : List ℕ) (before : List Event) (link came : ℕ) (bytes : List ℕ) (v w : List Event) → AreHeard name before link came bytes v → AreHeard name before link came bytes w → v ≡ w
heard_once name before link came bytes v w a b = elim (fronts a.front a.rest b.front b.rest (sym a.split ∙ b.split)) [
  | Shorter k p q ↦ front_once name before link came bytes v w a b k p q
  | Longer k p q ↦ sym (front_once name before link came bytes w v b a k p (sym q))
]

-- and so is the end of its input
pub ended_once : (before : List Event) (link : ℕ) (v w : List Event) → IsEnded before link v → IsEnded before link w → v ≡ w
ended_once before link v w (inl a) (inl b) = a.2 ∙ sym b.2
ended_once before link v w (inl a) (inr b) = absurd (b.1.unfinished a.0 a.1)
ended_once before link v w (inr a) (inl b) = absurd (a.1.unfinished b.0 b.1)
ended_once before link v w (inr a) (inr b) = a.2 ∙ ap (λ n. Stops link (Cut n) ∷ []) (wholes_once (heard before link) a.0 b.0 a.1.whole b.1.whole) ∙ sym b.2
