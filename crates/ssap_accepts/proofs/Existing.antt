-- Each list of bytes has a whole, messages and a place, and is viable or not.
use Rattle.std.proofs.Common.{◌≡◌, ◌⊎◌, inl, inr, ℕ, zero, suc, ◌+◌, ◌-◌, ◌<◌, ◌≤◌, List, [], ◌∷◌, ◌++◌, length, take, drop, sym, ◌∙◌, ap, subst, append_assoc, length-append, arith}
use Rattle.std.proofs.lemmas.Bool.{cases_lt}
use Rattle.std.proofs.lemmas.List.{append-nil, length-take-le, take-append-drop}
use Rattle.std.proofs.Math.Seq.{take-append-add, take-append_seam, take-length}
use Rattle.ssap_items.specs.declared.envelope.Envelope.{Envelope}
use Rattle.ssap_grammar.specs.Characters.{Spaces}
use Rattle.ssap_grammar.specs.Message.{Spells}
use Rattle.ssap_grammar.specs.Stream.{Placed, Messages, Stream, IsViable, IsPlace, IsWholeOf, IsWhole, AreMessages, IsInside}
use Rattle.ssap_grammar.specs.Laws.{IsPart}
use Rattle.ssap_grammar.proofs.Characters.{NoSpace, spaces_meet, spaces_run, no_spaces}
use Rattle.ssap_grammar.proofs.Streams.{GoesOn, messages_no_space, stream_goes_on}
use Rattle.ssap_grammar.proofs.StreamEnds.{nothing_streams, spaces_add, placed, message_add, message_word, spelling_some, longer_solid}
use Rattle.ssap_grammar.proofs.StreamParts.{part_whole, part_viable}
use Rattle.ssap_machine.specs.Machine.{IsMessage}
use Rattle.ssap_machine.specs.declared.symbol.Symbol.TheVariants.{Message}
use Rattle.ssap_machine.proofs.Completions.{symbols_end}
use Rattle.m3_terms.proofs.Starts.{Start, Found, Half, Stuck, start_map}
use Rattle.ssap_machine.proofs.Starts.{start_symbols}
use Rattle.ssap_accepts.proofs.Messages.{spelled, accepted}

-- bytes spell some envelope
abbrev Spelled : List ℕ → Type 0
Spelled word = (envelope : Envelope) × Spells word envelope

-- bytes begin with a message, or are a part of one, or lead to none
start_message : (bytes : List ℕ) → Start Spelled bytes
start_message bytes = start_map IsMessage Spelled bytes accepted (λ word x. spelled word x.0 x.1) (start_symbols (Message ∷ []) bytes)

-- no message goes on from the bytes
abbrev IsDead : List ℕ → Type 0
IsDead bytes = (word more rest : List ℕ) → Spelled word → ¬ (bytes ++ more ≡ word ++ rest)

-- bytes are a stream, and then a part of a message, or some with which no message goes on
record Parted (bytes : List ℕ) : Type 0 where
  pub whole : List ℕ
  pub tail : List ℕ
  pub messages : List Placed
  pub is : bytes ≡ whole ++ tail
  pub stream : Stream whole messages
  pub solid : NoSpace tail
  pub ends : IsPart tail ⊎ ((0 < length tail) × IsDead tail)

-- the white space behind a stream belongs to it
spaces_part : (whole bytes rest : List ℕ) (messages : List Placed) → Stream whole messages → (s : Spaces bytes rest) → Stream (whole ++ s.white) messages
spaces_part whole bytes rest messages x s =
    spaces_add whole s.white messages x (record { white = s.white; each = s.each; reads = sym (append-nil s.white) })

-- some bytes are a message
some_message : (word : List ℕ) × Spelled word
some_message = let e = symbols_end (Message ∷ []) in (e.bytes, accepted e.bytes e.accepts)

-- what stands behind a stream and white space decides, where it is so of shorter bytes
part_step : (whole bytes rest : List ℕ) (messages : List Placed) → Stream whole messages → NoSpace rest → bytes ≡ whole ++ rest
    → ((front back : List ℕ) (others : List Placed) → Stream front others → length back < length rest → Parted (front ++ back))
    → Start Spelled rest → Parted bytes
part_step whole bytes rest messages x solid is shorter (Found word behind (envelope, spells) cut) =
    let some = spelling_some envelope word spells in
    let size : length rest ≡ length (word ++ behind) = ap length cut in
    let parted = shorter (whole ++ word) behind (messages ++ placed whole word envelope ∷ []) (message_add whole word messages envelope x spells)
    (omega (arith, some, size, length-append word behind)) in
    subst Parted (append_assoc whole word behind ∙ (ap (λ l. whole ++ l) (sym cut) ∙ sym is)) parted
part_step whole bytes rest messages x solid is shorter (Half more some (envelope, spells)) =
    record { whole = whole; tail = rest; messages = messages; is = is; stream = x; solid = solid; ends = inl (more, envelope, some, spells) }
part_step whole bytes [] messages x solid is shorter (Stuck none) =
    let m = some_message in
    absurd (none m.0 m.0 [] m.1 (sym (append-nil m.0)))
part_step whole bytes (c ∷ rest) messages x solid is shorter (Stuck none) =
    record { whole = whole; tail = c ∷ rest; messages = messages; is = is; stream = x; solid = solid; ends = inr (omega arith, none) }

-- bytes behind a stream part
part_within : (n : ℕ) (whole bytes : List ℕ) (messages : List Placed) → Stream whole messages → length bytes < n → Parted (whole ++ bytes)
part_within zero whole bytes messages x h = absurd (omega arith)
part_within (suc n) whole bytes messages x h =
    let run = spaces_run bytes in
    let size : length bytes ≡ length (run.1.white ++ run.0) = ap length run.1.reads in
    part_step (whole ++ run.1.white) (whole ++ bytes) run.0 messages (spaces_part whole bytes run.0 messages x run.1) run.2
    (ap (λ l. whole ++ l) run.1.reads ∙ sym (append_assoc whole run.1.white run.0))
    (λ front back others y less. part_within n front back others y (omega (arith, size, h, less, length-append run.1.white run.0)))
    (start_message run.0)

parted : (bytes : List ℕ) → Parted bytes
parted bytes = part_within (suc (length bytes)) [] bytes [] nothing_streams (omega arith)

-- what goes on from a stream to a longer one, and begins with no white space, begins with a message
next_message : (whole front : List ℕ) (messages others : List Placed) → Stream whole messages → Stream (whole ++ front) others → NoSpace front
    → 0 < length front → (word : List ℕ) × (behind : List ℕ) × Spelled word × (front ≡ word ++ behind)
next_message whole front messages others x y solid some = go g.tail g.reads
  where
    g : GoesOn messages others (length whole + length front) front
    g = stream_goes_on whole front messages others x y

    same : front ≡ g.next
    same = (spaces_meet.both front front g.next (no_spaces front) g.spaces solid (messages_no_space g.tail (length whole + length front) g.next g.reads)).1

    go : (tail : List Placed) → Messages (length whole + length front) tail g.next → (word : List ℕ) × (behind : List ℕ) × Spelled word × (front ≡ word ++ behind)
    go [] none = let n = ap length (same ∙ none) in absurd (omega (arith, n, some))
    go (p ∷ tail) z = let word = message_word p.envelope g.next z.behind z.reads in (word.0, z.behind, (p.envelope, word.2), same ∙ word.1)

-- a front of bytes that begin with no white space does neither
front_solid : (front back : List ℕ) → NoSpace (front ++ back) → NoSpace front
front_solid [] back h = tt
front_solid (c ∷ front) back h = h

-- behind a stream, bytes that lead to no message are in no stream
dead_viable : (whole tail : List ℕ) (messages : List Placed) → Stream whole messages → NoSpace tail → 0 < length tail → IsDead tail → ¬ (IsViable (whole ++ tail))
dead_viable whole tail messages x solid some dead v =
    let m = next_message whole (tail ++ v.0) messages v.1 x (subst (λ b. Stream b v.1) (append_assoc whole tail v.0) v.2) (longer_solid tail v.0 solid some)
    (omega (arith, some, length-append tail v.0)) in
    dead m.0 v.0 m.1 m.2 m.3

-- no longer front of the bytes is a stream
dead_front : (whole front back tail : List ℕ) (messages others : List Placed) → Stream whole messages → NoSpace tail → IsDead tail
    → front ++ back ≡ tail → 0 < length front → ¬ (Stream (whole ++ front) others)
dead_front whole front back tail messages others x solid dead joined some y =
    let m = next_message whole front messages others x y (front_solid front back (subst NoSpace (sym joined) solid)) some in
    dead m.0 [] (m.1 ++ back) m.2 (regroup m.0 m.1 m.3)
  where
    regroup : (word behind : List ℕ) → front ≡ word ++ behind → tail ++ [] ≡ word ++ (behind ++ back)
    regroup word behind e = append-nil tail ∙ (sym joined ∙ (ap (λ l. l ++ back) e ∙ append_assoc word behind back))

-- so the stream is the whole
dead_whole : (whole tail : List ℕ) (messages : List Placed) → Stream whole messages → NoSpace tail → IsDead tail → IsWholeOf (whole ++ tail) (length whole) messages
dead_whole whole tail messages x solid dead = record {
  within = omega (arith, length-append whole tail);
  stream = subst (λ b. Stream b messages) (sym (take-append_seam whole tail)) x;
  longest = λ n others within y. elim (cases_lt (length whole) n) [
    | inl past ↦ absurd (inside n (n - length whole) others within (omega arith) y past)
    | inr short ↦ omega arith
  ];
}
  where
    inside : (n k : ℕ) (others : List Placed) → n ≤ length (whole ++ tail) → n ≡ length whole + k → Stream (take n (whole ++ tail)) others → length whole < n → ⊥
    inside n k others within is y past =
        let split : take n (whole ++ tail) ≡ whole ++ take k tail = ap (λ m. take m (whole ++ tail)) is ∙ take-append-add whole tail k in
        let size = length-take-le k tail (omega (arith, within, length-append whole tail)) in
        dead_front whole (take k tail) (drop k tail) tail messages others x solid dead (take-append-drop k tail) (omega (arith, size))
        (subst (λ b. Stream b others) split y)

parted_whole : (bytes : List ℕ) (p : Parted bytes) → IsWholeOf bytes (length p.whole) p.messages
parted_whole bytes p = subst (λ b. IsWholeOf b (length p.whole) p.messages) (sym p.is) (elim p.ends [
  | inl part ↦ part_whole p.whole p.tail p.messages p.stream part
  | inr dead ↦ dead_whole p.whole p.tail p.messages p.stream p.solid dead.1
])

-- bytes have a whole
pub wholes_exist : (bytes : List ℕ) → (whole : ℕ) × IsWhole bytes whole
wholes_exist bytes = let p = parted bytes in (length p.whole, (p.messages, parted_whole bytes p))

-- and messages
pub messages_exist : (bytes : List ℕ) → (messages : List Placed) × AreMessages bytes messages
messages_exist bytes = let p = parted bytes in (p.messages, (length p.whole, parted_whole bytes p))

-- viable bytes of which the whole is not all end inside a message
pub ends_exist : (bytes : List ℕ) → IsViable bytes → ((messages : List Placed) × Stream bytes messages) ⊎ ((start : ℕ) × IsInside bytes start)
ends_exist bytes viable = go (wholes_exist bytes)
  where
    go : ((whole : ℕ) × IsWhole bytes whole) → ((messages : List Placed) × Stream bytes messages) ⊎ ((start : ℕ) × IsInside bytes start)
    go (start, (messages, whole)) = elim (cases_lt start (length bytes)) [
      | inl short ↦ inr (
        start,
        record {
          viable = viable;
          unfinished = λ others x.
              let most = whole.longest (length bytes) others (omega arith) (subst (λ b. Stream b others) (sym (take-length bytes)) x) in
              absurd (omega (arith, most, short));
          whole = (messages, whole);
        },
      )
      | inr all ↦
          let within = whole.within in
          let same : start ≡ length bytes = omega (arith, within, all) in
          inl (messages, subst (λ b. Stream b messages) (ap (λ n. take n bytes) same ∙ take-length bytes) whole.stream)
    ]

-- all bytes are viable or not
pub viability_is_decided : (bytes : List ℕ) → IsViable bytes ⊎ (IsViable bytes → ⊥)
viability_is_decided bytes = go (parted bytes)
  where
    go : Parted bytes → IsViable bytes ⊎ (IsViable bytes → ⊥)
    go p = elim p.ends [
      | inl part ↦ inl (subst IsViable (sym p.is) (part_viable p.whole p.tail p.messages p.stream part))
      | inr dead ↦ inr (λ v. dead_viable p.whole p.tail p.messages p.stream p.solid dead.0 dead.1 (subst IsViable p.is v))
    ]

-- the greatest number up to a limit of which something holds
record Greatest (P : ℕ → Type 0) (limit : ℕ) : Type 0 where
  pub number : ℕ
  pub within : number ≤ limit
  pub holds : P number
  pub most : (n : ℕ) → n ≤ limit → P n → n ≤ number

greatest : (P : ℕ → Type 0) → ((n : ℕ) → P n ⊎ (P n → ⊥)) → P 0 → (limit : ℕ) → Greatest P limit
greatest P decide first zero = record { number = 0; within = omega arith; holds = first; most = λ n low x. low }
greatest P decide first (suc limit) = elim (decide (suc limit)) [
  | inl x ↦ record { number = suc limit; within = omega arith; holds = x; most = λ n low y. low }
  | inr none ↦ below none (greatest P decide first limit)
]
  where
    below : (P (suc limit) → ⊥) → Greatest P limit → Greatest P (suc limit)
    below none g = record {
      number = g.number;
      within = let low = g.within in omega (arith, low);
      holds = g.holds;
      most = λ n low x. elim (cases_lt limit n) [
        | inl past ↦ absurd (none (let same : n ≡ suc limit = omega arith in subst P same x))
        | inr short ↦ g.most n short x
      ];
    }

-- bytes have a place
pub places_exist : (bytes : List ℕ) → (place : ℕ) × IsPlace bytes place
places_exist bytes =
    let g = greatest (λ n. IsViable (take n bytes)) (λ n. viability_is_decided (take n bytes)) ([], [], nothing_streams) (length bytes) in
    (g.number, record { within = g.within; viable = g.holds; longest = g.most })
