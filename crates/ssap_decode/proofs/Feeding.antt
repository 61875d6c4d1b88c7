-- What a call of a decoder does, from what the machine makes of the piece.
use Rattle.std.proofs.Common.{◌≡◌, ◌⊎◌, inl, inr, ℕ, ◌+◌, ◌-◌, ◌<◌, ◌≤◌, List, [], ◌∷◌, ◌++◌, length, Some, None, refl, sym, ◌∙◌, ap, subst, append_assoc, length-append, arith}
use Rattle.std.proofs.lemmas.List.{append-nil, take-append-drop, length-take-le}
use Rattle.std.proofs.Math.Seq.{take-append_seam, drop-append_seam}
use Rattle.std.specs.Prelude.{◌≢◌, Option, max, take, drop}
use Rattle.std.specs.List.{AllByRecursion}
use Rattle.ssap_grammar.specs.Characters.{IsWhite}
use Rattle.ssap_grammar.specs.Message.{Spells}
use Rattle.ssap_grammar.specs.Laws.{IsDeadEnd}
use Rattle.ssap_machine.specs.Machine.{IsMessage}
use Rattle.ssap_machine.specs.declared.symbol.Symbol.{Symbol}
use Rattle.ssap_decode.specs.Decoding.{Decoding, message_limit, BeginMessage, FirstStops, StopStands, GoesOn, Reaches, Takes, FeedsWaiting, Feeds, IsReady, Refuses}
use Rattle.ssap_decode.specs.Unfinished.{AreSpaces, Reads, IsUnfinished, IsKept, stopped_of}
use Rattle.ssap_decode.specs.declared.framed.Framed.{Framed}
use Rattle.ssap_decode.specs.declared.framed.Stop.{Stop}
use Rattle.ssap_decode.specs.declared.framed.Stop.TheVariants.{Syntax, TooLong, NoMemory}
use Rattle.ssap_decode.specs.declared.decoder.Fault.{Fault}
use Rattle.ssap_decode.specs.declared.walk.Walked.{Walked}
use Rattle.ssap_decode.specs.declared.walk.Halt.{Halt}
use Rattle.ssap_decode.specs.declared.walk.Halt.TheVariants.{Whole, Half, Stuck}
use Rattle.ssap_decode.proofs.Spelled.{unfinished_part, part_begins, message_begins, dead_end_of}
use Rattle.ssap_decode.proofs.Extending.{Leaves, Dead, extended}

-- as many bytes as a message of so many has room for, and at least one
abbrev pub room : ℕ → ℕ
room length = max (message_limit - length) 1

-- bytes are white space, the part that was read, what was left of the piece, and what is beyond it
pub record Laid (message bytes white part left : List ℕ) : Type 0 where
  pub beyond : List ℕ
  pub split : bytes ≡ (white ++ part) ++ (left ++ beyond)
  pub each : AllByRecursion IsWhite white
  pub between : (white ≡ []) ⊎ (message ≡ [])
  pub solid : message ≡ [] → (byte : ℕ) (more : List ℕ) → part ++ (left ++ beyond) ≡ byte ∷ more → ¬ (IsWhite byte)
  pub small : length part + length left ≤ room (length message)
  pub full : (beyond ≡ []) ⊎ (length part + length left ≡ room (length message))

-- nothing is beyond a front that is not full
front_full : (n : ℕ) (bytes : List ℕ) → (drop n bytes ≡ []) ⊎ (length (take n bytes) ≡ n)
front_full n bytes = elim (Rattle.std.proofs.lemmas.Bool.cases_lt (length bytes) n) [
  | inl short ↦ inl (Rattle.std.proofs.lemmas.List.drop_all n bytes (omega arith))
  | inr long ↦ inr (length-take-le n bytes (omega arith))
]

pub front_small : (n : ℕ) (bytes : List ℕ) → length (take n bytes) ≤ n
front_small n bytes = elim (Rattle.std.proofs.lemmas.Bool.cases_lt (length bytes) n) [
  | inl short ↦
      let e = ap length (take-append-drop n bytes) in
      omega (arith, e, length-append (take n bytes) (drop n bytes))
  | inr long ↦ let e = length-take-le n bytes (omega arith) in omega (arith, e)
]

pub laid : (message bytes part left : List ℕ) (spaces : ℕ) → AreSpaces message bytes spaces
    → take (room (length message)) (drop spaces bytes) ≡ part ++ left → Laid message bytes (take spaces bytes) part left
laid message bytes part left spaces h e = record {
  beyond = beyond;
  split = sym (take-append-drop spaces bytes) ∙ (ap (λ l. take spaces bytes ++ l) rest ∙ sym (append_assoc (take spaces bytes) part (left ++ beyond)));
  each = h.each;
  between = elim h.between [ inl z ↦ inl (ap (λ n. take n bytes) z) | inr m ↦ inr m ];
  solid = λ m byte more f. h.solid m byte more (rest ∙ f);
  small = omega (arith, front_small k (drop spaces bytes), ap length e, length-append part left);
  full = elim (front_full k (drop spaces bytes)) [
    | inl z ↦ inl z
    | inr f ↦ inr (sym (length-append part left) ∙ (ap length (sym e) ∙ f))
  ];
}
  where
    k : ℕ
    k = room (length message)

    beyond : List ℕ
    beyond = drop k (drop spaces bytes)

    rest : drop spaces bytes ≡ part ++ (left ++ beyond)
    rest = sym (take-append-drop k (drop spaces bytes)) ∙ (ap (λ l. l ++ beyond) e ∙ append_assoc part left beyond)

-- where the message with its part is above the limit, the stop stands at the first byte
pub long_stops : (old : Decoding) (bytes white part left : List ℕ) (start : ℕ) → Laid old.unread bytes white part left
    → length old.unread ≤ message_limit → message_limit < length (old.unread ++ part) → BeginMessage (old.unread ++ part)
    → start + length old.unread ≡ old.taken → FirstStops old bytes (TooLong start)
long_stops old bytes white part left start h fits long begins is =
    by_part part refl
  where
    sizes : length (old.unread ++ part) ≡ length old.unread + length part
    sizes = length-append old.unread part

    small : length part + length left ≤ room (length old.unread)
    small = h.small

    full : length old.unread ≡ message_limit
    full = omega (arith, sizes, small)

    one : length part ≡ 1
    one = omega (arith, sizes, small)

    none : white ≡ []
    none = elim h.between [
      | inl z ↦ z
      | inr m ↦ let n = ap length m in absurd (omega (arith, n, full))
    ]

    by_part : (p : List ℕ) → part ≡ p → FirstStops old bytes (TooLong start)
    by_part [] e = let n = ap length e in absurd (omega (arith, n, one))
    by_part (byte ∷ c ∷ p) e = let n = ap length e in absurd (omega (arith, n, one))
    by_part (byte ∷ []) e =
        let first : bytes ≡ byte ∷ (left ++ h.beyond) =
        h.split ∙ (ap (λ w. (w ++ part) ++ (left ++ h.beyond)) none ∙ ap (λ p. p ++ (left ++ h.beyond)) e) in
        subst (λ b. FirstStops old b (TooLong start)) (sym first) (is, full, subst (λ p. BeginMessage (old.unread ++ p)) e begins)

-- a message begins with what was read
pub leaves_begin : (halt : Halt) (message part left : List ℕ) (stack : List Symbol) (read : ℕ) → Leaves halt message part left stack read
    → BeginMessage (message ++ part)
leaves_begin Whole message part left stack read h = message_begins (message ++ part) h.0
leaves_begin Half message part left stack read h = part_begins (message ++ part) (unfinished_part (message ++ part) stack read h.0)
leaves_begin Stuck message part left stack read h = part_begins (message ++ part) (unfinished_part (message ++ part) stack read h.0)

-- what is not whole is still unfinished
pub leaves_unfinished : (halt : Halt) (message part left : List ℕ) (stack : List Symbol) (read : ℕ) → halt ≢ Whole
    → Leaves halt message part left stack read → IsUnfinished (message ++ part) stack read
leaves_unfinished Whole message part left stack read n h = absurd (n refl)
leaves_unfinished Half message part left stack read n h = h.0
leaves_unfinished Stuck message part left stack read n h = h.0

-- no message goes on with the first byte that is left
dead_first : (message bytes white part left : List ℕ) → Laid message bytes white part left → (d : Dead (message ++ part) left)
    → IsDeadEnd (message ++ part) d.byte
dead_first message bytes white part left h d = dead_end_of (message ++ part) d.byte (solid message part refl refl) d.none
  where
    solid : (m p : List ℕ) → message ≡ m → part ≡ p → (0 < length (message ++ part)) ⊎ (¬ (IsWhite d.byte))
    solid (b ∷ m) p e f = let n = ap length e in inl (omega (arith, n, length-append message part))
    solid [] (b ∷ p) e f = let n = ap length f in inl (omega (arith, n, length-append message part))
    solid [] [] e f = inr (h.solid e d.byte (d.more ++ h.beyond) (ap (λ p. p ++ (left ++ h.beyond)) f ∙ ap (λ l. l ++ h.beyond) d.is))

-- so a stop stands at the first byte that was not taken
pub stop_stands : (new : Decoding) (message bytes white part left : List ℕ) (halt : Halt) (stack : List Symbol) (read : ℕ)
    → (h : Laid message bytes white part left) → halt ≢ Whole → Leaves halt message part left stack read → new.unread ≡ message ++ part
    → length message ≤ message_limit → length (message ++ part) ≤ message_limit → left ++ h.beyond ≢ [] → StopStands new (left ++ h.beyond)
stop_stands new message bytes white part left Whole stack read h n k is fits within some = absurd (n refl)
stop_stands new message bytes white part left Half stack read h n k is fits within some = at (left ++ h.beyond) some
  where
    full : length (message ++ part) ≡ message_limit
    full = elim h.full [
      | inl none ↦ absurd (some (ap (λ l. l ++ h.beyond) k.1 ∙ none))
      | inr all ↦
          let nothing = ap length k.1 in
          omega (arith, all, nothing, within, length-append message part)
    ]

    at : (rest : List ℕ) → rest ≢ [] → StopStands new rest
    at [] some = absurd (some refl)
    at (byte ∷ rest) some = inl (ap length is ∙ full)
stop_stands new message bytes white part left Stuck stack read h n k is fits within some =
    let d = k.1 in
    subst (StopStands new) (sym (ap (λ l. l ++ h.beyond) d.is))
    (inr (subst (λ m. IsDeadEnd m d.byte) (sym is) (dead_first message bytes white part left h d)))

-- and where none was taken, at the first of all
pub first_stops : (old : Decoding) (bytes white part left : List ℕ) (halt : Halt) (stack : List Symbol) (read : ℕ)
    → (h : Laid old.unread bytes white part left) → halt ≢ Whole → Leaves halt old.unread part left stack read
    → length white + length part ≡ 0 → bytes ≢ [] → FirstStops old bytes (Syntax old.taken)
first_stops old bytes white part left halt stack read h n k zero some = by_halt halt n k
  where
    no_white : white ≡ []
    no_white = Rattle.std.proofs.lemmas.List.nil_from_length white (omega arith)

    no_part : part ≡ []
    no_part = Rattle.std.proofs.lemmas.List.nil_from_length part (omega arith)

    bytes_are : bytes ≡ left ++ h.beyond
    bytes_are = h.split ∙ (ap (λ w. (w ++ part) ++ (left ++ h.beyond)) no_white ∙ ap (λ p. p ++ (left ++ h.beyond)) no_part)

    by_halt : (halt : Halt) → halt ≢ Whole → Leaves halt old.unread part left stack read → FirstStops old bytes (Syntax old.taken)
    by_halt Whole n k = absurd (n refl)
    by_halt Half n k = elim h.full [
      | inl none ↦ absurd (some (bytes_are ∙ (ap (λ l. l ++ h.beyond) k.1 ∙ none)))
      | inr all ↦ let nothing = ap length k.1 in absurd (omega (arith, all, nothing, zero))
    ]
    by_halt Stuck n k =
        let d = k.1 in
        let message : old.unread ++ part ≡ old.unread = ap (λ p. old.unread ++ p) no_part ∙ append-nil old.unread in
        subst (λ b. FirstStops old b (Syntax old.taken)) (sym (bytes_are ∙ ap (λ l. l ++ h.beyond) d.is))
        (refl, subst (λ m. IsDeadEnd m d.byte) message (dead_first old.unread bytes white part left h d))

-- where some of the bytes are white space or part of a message no stop stands at the first
first_goes : (old : Decoding) (bytes white part rest : List ℕ) → bytes ≡ (white ++ part) ++ rest → AllByRecursion IsWhite white
    → (white ≡ []) ⊎ (old.unread ≡ []) → BeginMessage (old.unread ++ part) → length (old.unread ++ part) ≤ message_limit
    → (0 < length white + length part) ⊎ (bytes ≡ []) → GoesOn old bytes
first_goes old [] white part rest e each between begins within some = tt
first_goes old (byte ∷ bytes) (w ∷ white) part rest e each between begins within some =
    let same : byte ≡ w = cc in
    inl (elim between [ inl none ↦ absurd (cc) | inr empty ↦ empty ], subst IsWhite (sym same) each.0)
first_goes old (byte ∷ bytes) [] (b ∷ part) rest e each between begins within some =
    let same : b ≡ byte = cc in
    let more : (old.unread ++ b ∷ part) ++ begins.0 ≡ (old.unread ++ byte ∷ []) ++ (part ++ begins.0) =
    ap (λ l. l ++ begins.0) (ap (λ x. old.unread ++ x ∷ part) same ∙ sym (append_assoc old.unread (byte ∷ []) part))
    ∙ append_assoc (old.unread ++ byte ∷ []) part begins.0 in
    inr (omega (arith, within, length-append old.unread (b ∷ part)), (part ++ begins.0, begins.1, subst (λ l. Spells l begins.1) more begins.2))
first_goes old (byte ∷ bytes) [] [] rest e each between begins within (inl some) = absurd (omega (arith, some))
first_goes old (byte ∷ bytes) [] [] rest e each between begins within (inr none) = absurd (cc)

-- a call took these of the bytes
pub record Took (bytes white part rest : List ℕ) (count : ℕ) : Type 0 where
  pub within : count ≤ length bytes
  pub taken : take count bytes ≡ white ++ part
  pub left : drop count bytes ≡ rest

pub took : (bytes white part rest : List ℕ) (count : ℕ) → bytes ≡ (white ++ part) ++ rest → count ≡ length white + length part
    → Took bytes white part rest count
took bytes white part rest count e n =
    let size : count ≡ length (white ++ part) = n ∙ sym (length-append white part) in
    record {
      within = omega (arith, size, ap length e, length-append (white ++ part) rest);
      taken = ap (take count) e ∙ (ap (λ k. take k ((white ++ part) ++ rest)) size ∙ take-append_seam (white ++ part) rest);
      left = ap (drop count) e ∙ (ap (λ k. drop k ((white ++ part) ++ rest)) size ∙ drop-append_seam (white ++ part) rest);
    }

-- a call that takes bytes where no message waits
feeds_ready : (old new : Decoding) (bytes : List ℕ) (count : ℕ) → IsReady old → count ≤ length bytes
    → Takes old (take count bytes) (drop count bytes) new → Feeds old bytes count new
feeds_ready old new bytes count r within t = record {
  within = within;
  does = subst (λ w. FeedsWaiting old w bytes count new) (sym r.idle) (r.sound, t);
}

-- a call that ends a message
pub feeds_message : (old new : Decoding) (bytes white part left : List ℕ) (count : ℕ) (framed : Framed) → IsReady old
    → Laid old.unread bytes white part left → 0 < length part → count ≡ length white + length part → Spells (old.unread ++ part) framed.envelope
    → length (old.unread ++ part) ≤ message_limit → framed.start + length (old.unread ++ part) ≡ framed.end → framed.end ≡ old.taken + count
    → new ≡ record old { unread = []; waiting = Some framed; taken = old.taken + count } → Feeds old bytes count new
feeds_message old new bytes white part left count framed r h some n spelled within start end is =
    let t = took bytes white part (left ++ h.beyond) count h.split n in
    let size : length (take count bytes) ≡ count = length-take-le count bytes t.within in
    let waits : new.waiting ≡ Some framed = ap (λ (d : Decoding). d.waiting) is in
    feeds_ready old new bytes count r t.within (record {
      white = white;
      part = part;
      split = t.taken;
      each = h.each;
      between = h.between;
      reaches = subst (λ w. Reaches old (take count bytes) part (drop count bytes) w new) (sym waits) (record {
        some = some;
        spelled = spelled;
        within = within;
        start = start;
        end = end ∙ ap (λ k. old.taken + k) (sym size);
        is = is ∙ ap (λ k. record old { unread = []; waiting = Some framed; taken = old.taken + k }) (sym size);
      });
    })

-- a call that ends inside a message, or before a stop
pub feeds_part : (old new : Decoding) (bytes white part left : List ℕ) (count : ℕ) (halt : Halt) (stack : List Symbol) (read : ℕ) → IsReady old
    → Laid old.unread bytes white part left → halt ≢ Whole → Leaves halt old.unread part left stack read → count ≡ length white + length part
    → length old.unread ≤ message_limit → length (old.unread ++ part) ≤ message_limit → (0 < count) ⊎ (bytes ≡ [])
    → new ≡ record old { unread = old.unread ++ part; taken = old.taken + count } → Feeds old bytes count new
feeds_part old new bytes white part left count halt stack read r h w k n fits within some is =
    let t = took bytes white part (left ++ h.beyond) count h.split n in
    let size : length (take count bytes) ≡ count = length-take-le count bytes t.within in
    let waits : new.waiting ≡ None = ap (λ (d : Decoding). d.waiting) is ∙ r.idle in
    feeds_ready old new bytes count r t.within (record {
      white = white;
      part = part;
      split = t.taken;
      each = h.each;
      between = h.between;
      reaches = subst (λ w. Reaches old (take count bytes) part (drop count bytes) w new) (sym waits) (record {
        begins = unfinished_part (old.unread ++ part) stack read (leaves_unfinished halt old.unread part left stack read w k);
        within = within;
        is = is ∙ ap (λ k. record old { unread = old.unread ++ part; taken = old.taken + k }) (sym size);
        stop = λ more. (
          omega (arith, size, positive (λ e. more (Rattle.std.proofs.lemmas.List.drop_all count bytes (let z = ap length e in omega (arith, z)))) some),
          subst (StopStands new) (sym t.left)
              (stop_stands new old.unread bytes white part left halt stack read h w k (ap (λ (d : Decoding). d.unread) is) fits within
              (λ e. more (t.left ∙ e))),
        );
      });
    })
  where
    positive : bytes ≢ [] → (0 < count) ⊎ (bytes ≡ []) → 0 < count
    positive some (inl p) = p
    positive some (inr e) = absurd (some e)

-- what a decoder's message has become with the bytes of a call
pub record Fed (message bytes : List ℕ) (spaces read : ℕ) (walked : Walked) (result : List ℕ) : Type 0 where
  pub part : List ℕ
  pub left : List ℕ
  pub laid : Laid message bytes (take spaces bytes) part left
  pub size : length (take spaces bytes) ≡ spaces
  pub is : result ≡ message ++ part
  pub leaves : Leaves walked.halt message part left walked.stack (read + walked.count)

pub fed : (message seen bytes rest piece result : List ℕ) (stack : List Symbol) (read spaces old : ℕ) (walked : Walked)
    → IsUnfinished message stack read → seen ≡ message → AreSpaces seen bytes spaces → rest ≡ drop spaces bytes → old ≡ length message
    → piece ≡ take (max (message_limit - old) 1) rest → Reads stack (drop read (message ++ piece)) walked
    → result ≡ take (read + walked.reach) (message ++ piece) → Fed message bytes spaces read walked result
fed message seen bytes rest piece result stack read spaces old walked u s h r o p w e =
    let x = extended message piece stack read walked u w in
    let spaced = subst (λ m. AreSpaces m bytes spaces) s h in
    let front : take (room (length message)) (drop spaces bytes) ≡ x.part ++ x.left =
    ap (λ n. take (room n) (drop spaces bytes)) (sym o) ∙ (ap (λ l. take (max (message_limit - old) 1) l) (sym r) ∙ (sym p ∙ x.split)) in
    record {
      part = x.part;
      left = x.left;
      laid = laid message bytes x.part x.left spaces spaced front;
      size = length-take-le spaces bytes h.within;
      is = e ∙ x.is;
      leaves = x.leaves;
    }

-- the message is no shorter than it was
pub fed_longer : (message bytes result : List ℕ) (spaces read : ℕ) (walked : Walked) → Fed message bytes spaces read walked result
    → length message ≤ length result
fed_longer message bytes result spaces read walked f = omega (arith, ap length f.is, length-append message f.part)

-- it is cut back to what it was
pub fed_back : (message bytes result : List ℕ) (spaces read : ℕ) (walked : Walked) → Fed message bytes spaces read walked result
    → take (length message) result ≡ message
fed_back message bytes result spaces read walked f = ap (take (length message)) f.is ∙ take-append_seam message f.part

-- where it is whole it is a message
pub fed_whole : (message bytes result : List ℕ) (spaces read : ℕ) (walked : Walked) → Fed message bytes spaces read walked result
    → walked.halt ≡ Whole → IsMessage result
fed_whole message bytes result spaces read walked f h =
    let known = subst (λ k. Leaves k message f.part f.left walked.stack (read + walked.count)) h f.leaves in
    subst IsMessage (sym f.is) known.0

-- and some bytes were taken
pub fed_some : (message bytes result : List ℕ) (spaces read : ℕ) (walked : Walked) → Fed message bytes spaces read walked result
    → walked.halt ≡ Whole → 0 < spaces + (length result - length message)
fed_some message bytes result spaces read walked f h =
    let known = subst (λ k. Leaves k message f.part f.left walked.stack (read + walked.count)) h f.leaves in
    omega (arith, known.1, ap length f.is, length-append message f.part)

-- and where not, it is kept
pub fed_kept : (message bytes result : List ℕ) (spaces read taken count : ℕ) (walked : Walked) → Fed message bytes spaces read walked result
    → walked.halt ≢ Whole → length message ≤ taken → length result ≤ message_limit → count ≡ spaces + (length result - length message)
    → IsKept result walked.stack (read + walked.count) (taken + count)
fed_kept message bytes result spaces read taken count walked f h inside fits n =
    let longer = fed_longer message bytes result spaces read walked f in
    record {
      unfinished = subst (λ m. IsUnfinished m walked.stack (read + walked.count)) (sym f.is)
          (leaves_unfinished walked.halt message f.part f.left walked.stack (read + walked.count) h f.leaves);
      fits = fits;
      inside = omega arith;
    }

-- how many bytes were taken
fed_count : (message bytes result : List ℕ) (spaces read count : ℕ) (walked : Walked) (f : Fed message bytes spaces read walked result)
    → count ≡ spaces + (length result - length message) → count ≡ length (take spaces bytes) + length f.part
fed_count message bytes result spaces read count walked f n =
    omega (arith, n, f.size, ap length f.is, length-append message f.part)

-- a decoder's fields, as contracts see them
abbrev pub seen_of : List ℕ → Option Framed → ℕ → Option Fault → Decoding
seen_of unread waiting taken fault = record { unread = unread; waiting = waiting; taken = taken; stopped = stopped_of taken (length unread) fault }

-- no stop was met where none is seen
no_fault : (taken unread : ℕ) (fault : Option Fault) → stopped_of taken unread fault ≡ None → fault ≡ None
no_fault taken unread None e = refl
no_fault taken unread (Some fault) e = absurd (cc)

-- the message is too long
pub refused_long : (old mid new : Decoding) (bytes result : List ℕ) (spaces read : ℕ) (walked : Walked) (stop : Stop) → IsReady old → mid ≡ old
    → length old.unread ≤ message_limit → length old.unread ≤ old.taken → Fed old.unread bytes spaces read walked result
    → message_limit < length result → stop ≡ TooLong (mid.taken - length mid.unread) → new ≡ record mid { stopped = Some stop }
    → Refuses old bytes new stop
refused_long old mid new bytes result spaces read walked stop r m fits inside f long is n =
    let start = old.taken - length old.unread in
    let stop_is : stop ≡ TooLong start = is ∙ ap (λ (d : Decoding). TooLong (d.taken - length d.unread)) m in
    let new_is : new ≡ record old { stopped = Some (TooLong start) } =
    n ∙ (ap (λ s. record mid { stopped = Some s }) stop_is ∙ ap (λ (d : Decoding). record d { stopped = Some (TooLong start) }) m) in
    let above : message_limit < length (old.unread ++ f.part) = omega (arith, long, ap length f.is) in
    let begins = leaves_begin walked.halt old.unread f.part f.left walked.stack (read + walked.count) f.leaves in
    subst (Refuses old bytes new) (sym stop_is)
    (new_is, inr (r, long_stops old bytes (take spaces bytes) f.part f.left start f.laid fits above begins (omega arith)))

-- no message goes on with the first byte
pub refused_dead : (old mid new : Decoding) (bytes result : List ℕ) (spaces read count : ℕ) (walked : Walked) (stop : Stop) → IsReady old
    → Fed old.unread bytes spaces read walked result → walked.halt ≢ Whole → count ≡ spaces + (length result - length old.unread)
    → count ≡ 0 → bytes ≢ [] → mid ≡ old → stop ≡ Syntax mid.taken → new ≡ record mid { stopped = Some stop } → Refuses old bytes new stop
refused_dead old mid new bytes result spaces read count walked stop r f h n zero some same is e =
    let none : length (take spaces bytes) + length f.part ≡ 0 = omega (arith, zero, fed_count old.unread bytes result spaces read count walked f n) in
    let stop_is : stop ≡ Syntax old.taken = is ∙ ap (λ (d : Decoding). Syntax d.taken) same in
    let new_is : new ≡ record old { stopped = Some (Syntax old.taken) } =
    e ∙ (ap (λ s. record mid { stopped = Some s }) stop_is ∙ ap (λ (d : Decoding). record d { stopped = Some (Syntax old.taken) }) same) in
    subst (Refuses old bytes new) (sym stop_is)
    (new_is, inr (r, first_stops old bytes (take spaces bytes) f.part f.left walked.halt walked.stack (read + walked.count) f.laid h f.leaves none some))

-- the same where the fields were set to what was read, which is nothing
pub refused_syntax : (old mid new : Decoding) (bytes result : List ℕ) (spaces read count : ℕ) (walked : Walked) (stop : Stop) → IsReady old
    → Fed old.unread bytes spaces read walked result → walked.halt ≢ Whole → count ≡ spaces + (length result - length old.unread)
    → count ≡ 0 → bytes ≢ [] → mid ≡ record old { unread = result; taken = old.taken + count } → stop ≡ Syntax mid.taken
    → new ≡ record mid { stopped = Some stop } → Refuses old bytes new stop
refused_syntax old mid new bytes result spaces read count walked stop r f h n zero some m is e =
    let none : length (take spaces bytes) + length f.part ≡ 0 = omega (arith, zero, fed_count old.unread bytes result spaces read count walked f n) in
    let no_part : f.part ≡ [] = Rattle.std.proofs.lemmas.List.nil_from_length f.part (omega (arith, none)) in
    let unread : result ≡ old.unread = f.is ∙ (ap (λ p. old.unread ++ p) no_part ∙ append-nil old.unread) in
    let taken : old.taken + count ≡ old.taken = omega (arith, zero) in
    let same : mid ≡ old = m ∙ (ap (λ u. record old { unread = u; taken = old.taken + count }) unread ∙ ap (λ t. record old { taken = t }) taken) in
    refused_dead old mid new bytes result spaces read count walked stop r f h n zero some same is e

-- the system was out of memory, and no stop stood at the first byte
pub refused_memory : (old new : Decoding) (bytes result : List ℕ) (spaces read : ℕ) (walked : Walked) → IsReady old → new ≡ old
    → Fed old.unread bytes spaces read walked result → length result ≤ message_limit → (0 < spaces + (length result - length old.unread)) ⊎ (bytes ≡ [])
    → Refuses old bytes new NoMemory
refused_memory old new bytes result spaces read walked r same f fits some = (
  same,
  r,
  first_goes old bytes (take spaces bytes) f.part (f.left ++ f.laid.beyond) f.laid.split f.laid.each f.laid.between
      (leaves_begin walked.halt old.unread f.part f.left walked.stack (read + walked.count) f.leaves) (omega (arith, fits, ap length f.is))
      (elim some [
        | inl p ↦ inl (omega (arith, p, f.size, ap length f.is, length-append old.unread f.part))
        | inr none ↦ inr none
      ]),
)

-- no message waits in the fields, and no stop was met
pub ready_of : (v old : Decoding) → v ≡ old → old.waiting ≡ None → old.stopped ≡ None → IsReady v
ready_of v old e w s = record { idle = ap (λ (d : Decoding). d.waiting) e ∙ w; sound = ap (λ (d : Decoding). d.stopped) e ∙ s }

-- the fields with other bytes, where no stop was met
pub seen_new : (unread more : List ℕ) (waiting new : Option Framed) (taken count : ℕ) (fault : Option Fault)
    → IsReady (seen_of unread waiting taken fault)
    → seen_of more new count fault ≡ record (seen_of unread waiting taken fault) { unread = more; waiting = new; taken = count }
seen_new unread more waiting new taken count fault r =
    let none = no_fault taken (length unread) fault r.sound in
    subst (λ f. seen_of more new count f ≡ record (seen_of unread waiting taken f) { unread = more; waiting = new; taken = count }) (sym none) refl

-- a call that ends a message, by the fields
pub fields_message : (message bytes result emptied : List ℕ) (waiting : Option Framed) (taken count spaces read : ℕ) (fault : Option Fault)
    (walked : Walked) (framed : Framed) → IsReady (seen_of message waiting taken fault) → length message ≤ taken
    → (f : Fed message bytes spaces read walked result) → walked.halt ≡ Whole → count ≡ spaces + (length result - length message)
    → length result ≤ message_limit → Spells result framed.envelope → emptied ≡ [] → framed.end ≡ taken + count → framed.start ≡ taken + count - length result
    → Feeds (seen_of message waiting taken fault) bytes count (seen_of emptied (Some framed) (taken + count) fault)
fields_message message bytes result emptied waiting taken count spaces read fault walked framed r inside f h n fits spelled none end start =
    let size = fed_count message bytes result spaces read count walked f n in
    let long : length result ≡ length message + length f.part = ap length f.is ∙ length-append message f.part in
    let joined : length (message ++ f.part) ≡ length result = sym (ap length f.is) in
    let known = subst (λ k. Leaves k message f.part f.left walked.stack (read + walked.count)) h f.leaves in
    feeds_message (seen_of message waiting taken fault) (seen_of emptied (Some framed) (taken + count) fault) bytes (take spaces bytes) f.part f.left count framed r f.laid
    known.1 size (subst (λ b. Spells b framed.envelope) f.is spelled) (omega (arith, fits, joined)) (omega (arith, start, end, joined, long, size, inside)) end
    (ap (λ u. seen_of u (Some framed) (taken + count) fault) none ∙ seen_new message [] waiting (Some framed) taken (taken + count) fault r)

-- a call that ends inside a message, by the fields
pub fields_part : (message bytes result : List ℕ) (waiting : Option Framed) (taken count spaces read : ℕ) (fault : Option Fault)
    (walked : Walked) → IsReady (seen_of message waiting taken fault) → length message ≤ message_limit → Fed message bytes spaces read walked result
    → walked.halt ≢ Whole → count ≡ spaces + (length result - length message) → length result ≤ message_limit → (0 < count) ⊎ (bytes ≡ [])
    → Feeds (seen_of message waiting taken fault) bytes count (seen_of result waiting (taken + count) fault)
fields_part message bytes result waiting taken count spaces read fault walked r fits f h n within some =
    let size = fed_count message bytes result spaces read count walked f n in
    feeds_part (seen_of message waiting taken fault) (seen_of result waiting (taken + count) fault) bytes (take spaces bytes) f.part f.left count walked.halt walked.stack
    (read + walked.count) r f.laid h f.leaves size fits (omega (arith, within, ap length f.is)) some
    (ap (λ u. seen_of u waiting (taken + count) fault) f.is ∙ seen_new message (message ++ f.part) waiting waiting taken (taken + count) fault r)

-- some bytes were taken, or there were none
pub some_taken : (count : ℕ) (bytes : List ℕ) → ¬ ((count ≡ 0) × (bytes ≢ [])) → (0 < count) ⊎ (bytes ≡ [])
some_taken count [] n = inr refl
some_taken count (b ∷ bytes) n = elim (Rattle.std.proofs.lemmas.Bool.cases_lt 0 count) [
  | inl some ↦ inl some
  | inr none ↦ absurd (n (omega arith, λ e. absurd (cc)))
]
