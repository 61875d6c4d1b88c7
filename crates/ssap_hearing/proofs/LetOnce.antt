-- Bytes are let through up to one place, and one stop stands behind them.
use Rattle.std.proofs.Common.{◌≡◌, ◌∙◌, ap, sym, refl, subst, arith, inl, inr, ℕ, ◌+◌, ◌-◌, List, [], ◌∷◌, ◌++◌, length, take, Option, Some, None, append_assoc, append-nil, length-append}
use Rattle.std.specs.List.{AllByRecursion}
use Rattle.std.proofs.lemmas.Bool.{cases_lt}
use Rattle.std.proofs.lemmas.List.{take-append-le}
use Rattle.std.proofs.Math.Seq.{take-append-add}
use Rattle.ssap_grammar.specs.Stream.{Placed, Stream, IsViable, IsWhole, AreMessages, IsInside}
use Rattle.ssap_grammar.proofs.Streams.{streams_once}
use Rattle.ssap_grammar.proofs.StreamParts.{wholes_once, streams_are_whole, viable_front}
use Rattle.ssap_grammar.proofs.StreamEnds.{unfinished_begins}
use Rattle.m3_terms.proofs.Lists.{tails_same, fronts, Shorter, Longer}
use Rattle.ssap_decode.specs.Decoding.{message_limit}
use Rattle.ssap_decode.specs.Standing.{IsShort}
use Rattle.ssap_decode.specs.declared.framed.Stop.{Stop}
use Rattle.ssap_decode.specs.declared.framed.Stop.TheVariants.{Syntax, TooLong, Cut, NoMemory}
use Rattle.ssap_hearing.specs.Hearing.{AreLet, StopsBehind, Fronted}

-- bytes have one list of messages
pub messages_once : (bytes : List ℕ) (l m : List Placed) → AreMessages bytes l → AreMessages bytes m → l ≡ m
messages_once bytes l m (w, a) (v, b) =
    let same : w ≡ v = wholes_once bytes w v (l, a) (m, b) in
    streams_once (take v bytes) l m (subst (λ n. Stream (take n bytes) l) same a.stream) b.stream

-- the last of some messages before others is as short as all
last_short : (before after : List Placed) (message : Placed) → AllByRecursion IsShort (before ++ message ∷ after) → IsShort message
last_short [] after message h = h.0
last_short (first ∷ before) after message h = last_short before after message h.1

-- bytes that are too long to be a stream end inside a message
pub long_inside : (bytes : List ℕ) (start : ℕ) → IsViable bytes → IsWhole bytes start → length bytes ≡ start + message_limit → IsInside bytes start
long_inside bytes start viable whole size = record {
  viable = viable;
  unfinished = λ others stream.
      let same = wholes_once bytes start (length bytes) whole (others, streams_are_whole bytes others stream) in
      absurd (omega (arith, same, size));
  whole = whole;
}

-- behind bytes that are let through no byte is let through that stops them
pub none_longer : (front : List ℕ) (byte : ℕ) (more rest : List ℕ) (l m : List Placed) (stop : Option Stop) → AreLet front l → AreLet (front ++ byte ∷ more) m
    → StopsBehind front (byte ∷ rest) stop → ⊥
none_longer front byte more rest l m None a b s = s
none_longer front byte more rest l m (Some NoMemory) a b s = s
none_longer front byte more rest l m (Some (Cut start)) a b s = s
none_longer front byte more rest l m (Some (Syntax place)) a b s =
    s.0 (viable_front (front ++ byte ∷ []) more (subst IsViable (sym (append_assoc front (byte ∷ []) more)) b.viable))
none_longer front byte more rest l m (Some (TooLong start)) a b (viable, whole, size) =
    let (w, of) = b.are in
    let all = length-append front (byte ∷ more) in
    elim (cases_lt (length front) w) [
      | inl past ↦
          let more_of : List ℕ = take (w - length front) (byte ∷ more) in
          let parts : take w (front ++ byte ∷ more) ≡ front ++ more_of =
          ap (λ n. take n (front ++ byte ∷ more)) (omega (arith, past)) ∙ take-append-add front (byte ∷ more) (w - length front)
          in
          let u = unfinished_begins front start more_of m (long_inside front start a.viable whole size) (subst (λ x. Stream x m) parts of.stream) in
          let short = last_short u.before u.after u.message (subst (AllByRecursion IsShort) u.split b.short) in
          absurd (omega (arith, u.begins, u.ends, short, size))
      | inr within ↦
          let kept : take w (front ++ byte ∷ more) ≡ take w front = take-append-le w front (byte ∷ more) (omega (arith, within)) in
          let most = whole.1.longest w m (omega (arith, within)) (subst (λ x. Stream x m) kept of.stream) in
          let rest_is = b.rest_short w (m, of) in
          absurd (omega (arith, most, rest_is, size, all))
    ]

-- behind the same bytes one stop stands
pub stop_once : (front rest : List ℕ) (a b : Option Stop) → StopsBehind front rest a → StopsBehind front rest b → a ≡ b
stop_once front [] None None s t = refl
stop_once front [] None (Some b) s t = absurd t
stop_once front [] (Some a) b s t = absurd s
stop_once front (byte ∷ rest) None b s t = absurd s
stop_once front (byte ∷ rest) (Some NoMemory) b s t = absurd s
stop_once front (byte ∷ rest) (Some (Cut p)) b s t = absurd s
stop_once front (byte ∷ rest) (Some (Syntax p)) None s t = absurd t
stop_once front (byte ∷ rest) (Some (Syntax p)) (Some NoMemory) s t = absurd t
stop_once front (byte ∷ rest) (Some (Syntax p)) (Some (Cut q)) s t = absurd t
stop_once front (byte ∷ rest) (Some (Syntax p)) (Some (Syntax q)) s t = ap (λ n. Some (Syntax n)) (s.1 ∙ sym t.1)
stop_once front (byte ∷ rest) (Some (Syntax p)) (Some (TooLong q)) s t = absurd (s.0 t.0)
stop_once front (byte ∷ rest) (Some (TooLong p)) None s t = absurd t
stop_once front (byte ∷ rest) (Some (TooLong p)) (Some NoMemory) s t = absurd t
stop_once front (byte ∷ rest) (Some (TooLong p)) (Some (Cut q)) s t = absurd t
stop_once front (byte ∷ rest) (Some (TooLong p)) (Some (Syntax q)) s t = absurd (t.0 s.0)
stop_once front (byte ∷ rest) (Some (TooLong p)) (Some (TooLong q)) s t = ap (λ n. Some (TooLong n)) (wholes_once front p q s.1 t.1)

-- two prefixes of one piece that are let through up to a stop are the same
same_front : (bytes : List ℕ) (a b : List Placed) (s t : Option Stop) (x : Fronted bytes a s) (y : Fronted bytes b t) → x.front ≡ y.front
same_front bytes a b s t x y = elim (fronts x.front x.rest y.front y.rest (sym x.split ∙ y.split)) [
  | Shorter [] p q ↦ sym (append-nil x.front) ∙ p
  | Shorter (byte ∷ k) p q ↦ absurd (none_longer x.front byte k (k ++ y.rest) a b s x.through (subst (λ z. AreLet z b) (sym p) y.through)
      (subst (λ z. StopsBehind x.front z s) q x.stands))
  | Longer [] p q ↦ sym p ∙ append-nil y.front
  | Longer (byte ∷ k) p q ↦ absurd (none_longer y.front byte k (k ++ x.rest) b a t y.through (subst (λ z. AreLet z a) (sym p) x.through)
      (subst (λ z. StopsBehind y.front z t) (sym q) y.stands))
]

-- what is left of one piece behind the same prefix is the same
same_rest : (front rest other : List ℕ) → front ++ rest ≡ front ++ other → rest ≡ other
same_rest [] rest other e = e
same_rest (byte ∷ front) rest other e = same_rest front rest other (tails_same byte byte (front ++ rest) (front ++ other) e)

pub fronts_once : (bytes : List ℕ) (a b : List Placed) (s t : Option Stop) (x : Fronted bytes a s) (y : Fronted bytes b t) → (x.front ≡ y.front) × (a ≡ b) × (s ≡ t)
fronts_once bytes a b s t x y =
    let same = same_front bytes a b s t x y in
    let behind = same_rest y.front x.rest y.rest (ap (λ z. z ++ x.rest) (sym same) ∙ sym x.split ∙ y.split) in (
      same,
      messages_once y.front a b (subst (λ z. AreMessages z a) same x.through.are) y.through.are,
      stop_once y.front y.rest s t (subst (λ z. StopsBehind y.front z s) behind (subst (λ z. StopsBehind z x.rest s) same x.stands)) y.stands,
    )
