-- All bytes of a link have a longest front that is let through.
use Rattle.std.proofs.Common.{◌≡◌, inl, inr, ℕ, ◌+◌, ◌<◌, ◌≤◌, List, [], ◌∷◌, ◌++◌, length, take, drop, Option, Some, None, refl, sym, ◌∙◌, ap, subst, append_assoc, length-append, arith}
use Rattle.std.specs.List.{AllByRecursion}
use Rattle.std.proofs.lemmas.Bool.{cases_lt}
use Rattle.std.proofs.lemmas.List.{length-take-le, take-append-le, take-append-drop, take-take}
use Rattle.ssap_grammar.specs.Stream.{Placed, Messages, Stream, IsViable, IsWholeOf}
use Rattle.ssap_grammar.proofs.Streams.{GoesOn, stream_goes_on}
use Rattle.ssap_grammar.proofs.StreamEnds.{nothing_streams, message_word}
use Rattle.ssap_grammar.proofs.StreamParts.{wholes_once, streams_are_whole}
use Rattle.ssap_accepts.proofs.Existing.{wholes_exist, viability_is_decided}
use Rattle.ssap_decode.specs.Decoding.{message_limit}
use Rattle.ssap_decode.specs.Standing.{IsShort}
use Rattle.sib_replay.specs.declared.why.Why.{Why}
use Rattle.sib_replay.specs.declared.why.Why.TheVariants.{Syntax, Long}
use Rattle.sib_replay.specs.Output.{AreLet, StopsBehind}

-- nothing is let through
nothing_let : AreLet [] []
nothing_let = record {
  viable = ([], [], nothing_streams);
  are = (0, streams_are_whole [] [] nothing_streams);
  short = tt;
  rest_short = λ whole is. omega arith;
}

-- short messages and then others
short_both : (some others : List Placed) → AllByRecursion IsShort some → AllByRecursion IsShort others → AllByRecursion IsShort (some ++ others)
short_both [] others x y = y
short_both (message ∷ some) others x y = (x.0, short_both some others x.1 y)

-- messages that begin behind a place and end within the limit of it are short
late_short : (messages : List Placed) (total low : ℕ) (bytes : List ℕ) → Messages total messages bytes → low + length bytes ≤ total → total ≤ low + message_limit
    → AllByRecursion IsShort messages
late_short [] total low bytes x begins ends = tt
late_short (message ∷ messages) total low bytes x begins ends =
    let word = message_word message.envelope bytes x.behind x.reads in
    let start = x.start in
    let end = x.end in
    let first : length bytes ≡ length (word.0 ++ x.behind) = ap length word.1 in
    let second : length x.behind ≡ length (x.spaces.white ++ x.next) = ap length x.spaces.reads in (
      omega (arith, start, end, begins, ends),
      late_short messages total low x.next x.others
          (omega (arith, begins, first, second, length-append word.0 x.behind, length-append x.spaces.white x.next)) ends,
    )

-- with one byte more, bytes within the limit of their whole are let through, where they are viable
module _ (front : List ℕ) (byte : ℕ) (messages : List Placed) (x : AreLet front messages) (less : length front < x.are.0 + message_limit) (viable : IsViable (front ++ byte ∷ []))
    (later : ℕ) (others : List Placed) (is : IsWholeOf (front ++ byte ∷ []) later others) where
  -- the whole of the shorter bytes is a front of the longer ones
  abbrev first : List ℕ
  first = take x.are.0 front

  kept : take x.are.0 (front ++ byte ∷ []) ≡ first
  kept = take-append-le x.are.0 front (byte ∷ []) x.are.1.within

  order : x.are.0 ≤ later
  order =
      let within = x.are.1.within in
      is.longest x.are.0 messages (omega (arith, within, length-append front (byte ∷ []))) (subst (λ b. Stream b messages) (sym kept) x.are.1.stream)

  -- what the whole of the longer ones has behind it
  abbrev back : List ℕ
  back = drop x.are.0 (take later (front ++ byte ∷ []))

  split : take later (front ++ byte ∷ []) ≡ first ++ back
  split = sym (take-append-drop x.are.0 (take later (front ++ byte ∷ []))) ∙ ap (λ b. b ++ back) (take-take x.are.0 later (front ++ byte ∷ []) order ∙ kept)

  goes : GoesOn messages others (length first + length back) back
  goes = stream_goes_on first back messages others x.are.1.stream (subst (λ b. Stream b others) split is.stream)

  size : length first ≡ x.are.0
  size = length-take-le x.are.0 front x.are.1.within

  run : length goes.next ≤ length back
  run =
      let reads : length back ≡ length (goes.spaces.white ++ goes.next) = ap length goes.spaces.reads in
      omega (arith, reads, length-append goes.spaces.white goes.next)

  through : length first + length back ≡ later
  through = sym (length-append first back) ∙ (ap length (sym split) ∙ length-take-le later (front ++ byte ∷ []) is.within)

  more_let : AreLet (front ++ byte ∷ []) others
  more_let = record {
    viable = viable;
    are = (later, is);
    short =
        let last = is.within in
        subst (AllByRecursion IsShort) (sym goes.split) (short_both messages goes.tail x.short
        (late_short goes.tail (length first + length back) x.are.0 goes.next goes.reads (omega (arith, size, run)) (omega (arith, through, last, less, length-append front (byte ∷ [])))));
    rest_short = λ other y.
        let same = wholes_once (front ++ byte ∷ []) other later y (others, is) in
        omega (arith, same, order, less, length-append front (byte ∷ []));
  }

-- a front of the bytes is let through, and behind it stands what stops the link, if a byte does
pub record Fronted (bytes : List ℕ) : Type 0 where
  pub front : List ℕ
  pub rest : List ℕ
  pub split : bytes ≡ front ++ rest
  pub messages : List Placed
  pub through : AreLet front messages
  pub stop : Option Why
  pub stands : StopsBehind front rest stop

-- byte by byte, from a front that is let through
fronted_from : (front rest : List ℕ) (messages : List Placed) → AreLet front messages → Fronted (front ++ rest)
fronted_from front [] messages x = record { front = front; rest = []; split = refl; messages = messages; through = x; stop = None; stands = tt }
fronted_from front (byte ∷ rest) messages x = elim (viability_is_decided (front ++ byte ∷ [])) [
  | inr dead ↦ record { front = front; rest = byte ∷ rest; split = refl; messages = messages; through = x; stop = Some (Syntax (length front)); stands = (dead, refl) }
  | inl viable ↦ elim (cases_lt (length front) (x.are.0 + message_limit)) [
    | inl less ↦
        let w = wholes_exist (front ++ byte ∷ []) in
        subst Fronted (append_assoc front (byte ∷ []) rest) (fronted_from (front ++ byte ∷ []) rest w.1.0 (more_let front byte messages x less viable w.0 w.1.0 w.1.1))
    | inr least ↦
        let most = x.rest_short x.are.0 (messages, x.are.1) in
        record {
          front = front;
          rest = byte ∷ rest;
          split = refl;
          messages = messages;
          through = x;
          stop = Some (Long x.are.0);
          stands = (viable, (messages, x.are.1), omega (arith, most, least));
        }
  ]
]

pub fronted : (bytes : List ℕ) → Fronted bytes
fronted bytes = fronted_from [] bytes [] nothing_let
