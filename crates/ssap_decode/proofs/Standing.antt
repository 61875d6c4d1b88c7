-- What a decoder stands for behind each call.
use Rattle.std.proofs.Common.{◌≡◌, ◌⊎◌, inl, inr, ℕ, ◌+◌, ◌<◌, ◌≤◌, List, [], ◌∷◌, ◌++◌, length, Some, None, Ok, Err, refl, sym, ◌∙◌, ap, subst, append_assoc, length-append, arith}
use Rattle.std.proofs.lemmas.List.{append-nil, length-take-le}
use Rattle.std.specs.Prelude.{Option, Result, IfOk, IfErr, take, drop}
use Rattle.std.specs.List.{AllByRecursion}
use Rattle.ssap_grammar.specs.Characters.{IsWhite}
use Rattle.ssap_grammar.specs.Stream.{Placed, Stream, IsViable, IsPlace, IsWhole, AreMessages, IsInside}
use Rattle.ssap_grammar.specs.Laws.{IsPart}
use Rattle.ssap_grammar.proofs.StreamEnds.{nothing_streams, spaces_add, message_add, placed}
use Rattle.ssap_grammar.proofs.StreamParts.{part_whole, part_inside, dead_end, dead_place, wholes_once}
use Rattle.ssap_decode.specs.Decoding.{Decoding, message_limit, fresh, FirstStops, StopStands, GoesOn, Reaches, Takes, FeedsWaiting, Feeds, Stays, Refuses, Ends}
use Rattle.ssap_decode.specs.Standing.{placed_of, IsShort, Waits, Stands, StopIs, HasRoom, IsLeft, FeedStands, NextStands, EndStands}
use Rattle.ssap_decode.specs.declared.framed.Framed.{Framed}
use Rattle.ssap_decode.specs.declared.framed.Stop.{Stop}
use Rattle.ssap_decode.specs.declared.framed.Stop.TheVariants.{Syntax, TooLong, Cut, NoMemory}
use Rattle.ssap_decode.proofs.Spelled.{none_begun, unfinished_part}

-- nothing is part of a message
pub nothing_part : IsPart []
nothing_part = unfinished_part [] _ 0 none_begun

-- a decoder that has taken nothing stands for nothing
pub fresh_stands : Stands fresh [] 0
fresh_stands = record {
  whole = [];
  messages = [];
  split = refl;
  stream = nothing_streams;
  part = nothing_part;
  short = tt;
  fits = omega arith;
  alone = inl refl;
  taken = refl;
  waits = refl;
}

-- the messages of the bytes are those that were given, and the one that waits
pub stands_messages : (d : Decoding) (read : List ℕ) (given : ℕ) (s : Stands d read given) → AreMessages read s.messages
stands_messages d read given s =
    (length s.whole, subst (λ b. Rattle.ssap_grammar.specs.Stream.IsWholeOf b (length s.whole) s.messages) (sym s.split) (part_whole s.whole d.unread s.messages s.stream s.part))

-- only what waits, what was taken and what is unread tells what a decoder stands for
pub stands_as : (d e : Decoding) (read : List ℕ) (given : ℕ) → d.unread ≡ e.unread → d.waiting ≡ e.waiting → d.taken ≡ e.taken
    → (e.waiting ≡ None) ⊎ ((e.unread ≡ []) × (e.stopped ≡ None)) → Stands d read given → Stands e read given
stands_as d e read given u w t a s = record {
  whole = s.whole;
  messages = s.messages;
  split = s.split ∙ ap (λ l. s.whole ++ l) u;
  stream = s.stream;
  part = subst IsPart u s.part;
  short = s.short;
  fits = subst (λ l. length l ≤ message_limit) u s.fits;
  alone = a;
  taken = sym t ∙ s.taken;
  waits = subst (λ o. Waits o given s.messages) w s.waits;
}

-- the message that waits is given
pub next_stands : (old : Decoding) (result : Option Framed) → result ≡ old.waiting → NextStands old result (record old { waiting = None })
next_stands old None e = λ read given s.
    let waits : Waits None given s.messages = subst (λ o. Waits o given s.messages) (sym e) s.waits in
    (stands_as old (record old { waiting = None }) read given refl (sym e) refl (inl refl) s, (s.messages, stands_messages old read given s, waits))
next_stands old (Some framed) e = λ read given s.
    let waits : Waits (Some framed) given s.messages = subst (λ o. Waits o given s.messages) (sym e) s.waits in (
      record {
        whole = s.whole;
        messages = s.messages;
        split = s.split;
        stream = s.stream;
        part = s.part;
        short = s.short;
        fits = s.fits;
        alone = inl refl;
        taken = s.taken;
        waits = ap (λ n. n + 1) waits.2 ∙ (sym (length-append waits.0 (placed_of framed ∷ [])) ∙ sym (ap length waits.1));
      },
      record {
        messages = s.messages;
        are = stands_messages old read given s;
        front = waits.0;
        back = [];
        split = waits.1;
        behind = sym waits.2;
      },
    )

-- white space behind a stream, where it stands between messages
white_behind : (old : Decoding) (read white : List ℕ) (given : ℕ) (s : Stands old read given) → Rattle.std.specs.List.AllByRecursion IsWhite white
    → (white ≡ []) ⊎ (old.unread ≡ []) → (whole : List ℕ) × (read ++ white ≡ whole ++ old.unread) × Stream whole s.messages
white_behind old read white given s each (inl none) = (s.whole, ap (λ w. read ++ w) none ∙ (append-nil read ∙ s.split), s.stream)
white_behind old read white given s each (inr empty) = (
  s.whole ++ white,
  ap (λ r. r ++ white) (s.split ∙ (ap (λ u. s.whole ++ u) empty ∙ append-nil s.whole)) ∙ (sym (append-nil (s.whole ++ white)) ∙ ap (λ u. (s.whole ++ white) ++ u) (sym empty)),
  spaces_add s.whole white s.messages s.stream (record { white = white; each = each; reads = sym (append-nil white) }),
)

-- one more that has P
all_push : {A : Type 0} (P : A → Type 0) (xs : List A) (x : A) → AllByRecursion P xs → P x → AllByRecursion P (xs ++ x ∷ [])
all_push P [] x h p = (p, tt)
all_push P (y ∷ xs) x h p = (h.0, all_push P xs x h.1 p)

-- a piece that was taken
takes_stands : (old new : Decoding) (read piece rest : List ℕ) (given : ℕ) → old.waiting ≡ None → old.stopped ≡ None → Takes old piece rest new → Stands old read given
    → Stands new (read ++ piece) given
takes_stands old new read piece rest given idle sound t s =
    by_waiting new.waiting refl t.reaches
  where
    b : (whole : List ℕ) × (read ++ t.white ≡ whole ++ old.unread) × Stream whole s.messages
    b = white_behind old read t.white given s t.each t.between

    all : read ++ piece ≡ b.0 ++ (old.unread ++ t.part)
    all =
        ap (λ p. read ++ p) t.split ∙ (sym (append_assoc read t.white t.part) ∙ (ap (λ l. l ++ t.part) b.1 ∙ append_assoc b.0 old.unread t.part))

    count : given ≡ length s.messages
    count = subst (λ o. Waits o given s.messages) idle s.waits

    total : old.taken + length piece ≡ length (read ++ piece)
    total = ap (λ n. n + length piece) s.taken ∙ sym (length-append read piece)

    by_waiting : (o : Option Framed) → new.waiting ≡ o → Reaches old piece t.part rest o new → Stands new (read ++ piece) given
    by_waiting None e r = record {
      whole = b.0;
      messages = s.messages;
      split = all ∙ ap (λ l. b.0 ++ l) (sym (ap (λ (d : Decoding). d.unread) r.is));
      stream = b.2;
      part = subst IsPart (sym (ap (λ (d : Decoding). d.unread) r.is)) r.begins;
      short = s.short;
      fits = subst (λ l. length l ≤ message_limit) (sym (ap (λ (d : Decoding). d.unread) r.is)) r.within;
      alone = inl e;
      taken = ap (λ (d : Decoding). d.taken) r.is ∙ total;
      waits = subst (λ o. Waits o given s.messages) (sym e) count;
    }
    by_waiting (Some framed) e r =
        let word = old.unread ++ t.part in
        let one : Placed = record { start = length b.0; end = length b.0 + length word; envelope = framed.envelope } in
        let sum : length (read ++ piece) ≡ length b.0 + length word = ap length all ∙ length-append b.0 word in
        let end : framed.end ≡ length b.0 + length word = r.end ∙ (total ∙ sum) in
        let start : framed.start ≡ length b.0 = let f = r.start in omega (arith, f, end) in
        let same : one ≡ placed_of framed = λ i. record { start = sym start i; end = sym end i; envelope = framed.envelope } in
        record {
          whole = b.0 ++ word;
          messages = s.messages ++ placed_of framed ∷ [];
          split = all ∙ (sym (append-nil (b.0 ++ word)) ∙ ap (λ l. (b.0 ++ word) ++ l) (sym (ap (λ (d : Decoding). d.unread) r.is)));
          stream = subst (λ p. Stream (b.0 ++ word) (s.messages ++ p ∷ [])) same (message_add b.0 word s.messages framed.envelope b.2 r.spelled);
          part = subst IsPart (sym (ap (λ (d : Decoding). d.unread) r.is)) nothing_part;
          short = all_push IsShort s.messages (placed_of framed) s.short (omega (arith, r.start, r.within));
          fits = subst (λ l. length l ≤ message_limit) (sym (ap (λ (d : Decoding). d.unread) r.is)) (omega arith);
          alone = inr (ap (λ (d : Decoding). d.unread) r.is, ap (λ (d : Decoding). d.stopped) r.is ∙ sound);
          taken = ap (λ (d : Decoding). d.taken) r.is ∙ total;
          waits = subst (λ o. Waits o given (s.messages ++ placed_of framed ∷ [])) (sym e) (s.messages, refl, count);
        }

-- a stop that is met is known by the grammar
first_is : (old : Decoding) (read bytes : List ℕ) (given : ℕ) (stop : Stop) → Stands old read given → FirstStops old bytes stop → StopIs read bytes stop
first_is old read [] given stop s f = absurd f
first_is old read (byte ∷ bytes) given (Syntax place) s f =
    let read_is : s.whole ++ old.unread ≡ read = sym s.split in
    let next : s.whole ++ (old.unread ++ byte ∷ []) ≡ read ++ byte ∷ [] = sym (append_assoc s.whole old.unread (byte ∷ [])) ∙ ap (λ l. l ++ byte ∷ []) read_is in
    let all = λ (more : List ℕ). sym (append_assoc s.whole old.unread (byte ∷ more)) ∙ ap (λ l. l ++ byte ∷ more) read_is in
    let at : place ≡ length read = f.0 ∙ s.taken in (
      λ v. dead_end s.whole old.unread byte s.messages s.stream s.part f.1 (subst IsViable (sym next) v),
      at,
      λ more.
          subst (λ b. IsPlace b place) (all more)
          (subst (IsPlace (s.whole ++ (old.unread ++ byte ∷ more))) (ap length read_is ∙ sym at)
          (dead_place s.whole old.unread more byte s.messages s.stream s.part f.1)),
    )
first_is old read (byte ∷ bytes) given (TooLong start) s f =
    let read_is : s.whole ++ old.unread ≡ read = sym s.split in
    let size : length read ≡ length s.whole + length old.unread = ap length s.split ∙ length-append s.whole old.unread in
    let taken = s.taken in
    let is = f.0 in
    let full = f.1 in
    let begins : length s.whole ≡ start = omega (arith, size, taken, is) in
    let word = (old.unread ++ byte ∷ []) ++ f.2.0 in
    let messages = s.messages ++ placed s.whole word f.2.1 ∷ [] in
    let stream = message_add s.whole word s.messages f.2.1 s.stream f.2.2 in
    let all : s.whole ++ word ≡ (read ++ byte ∷ []) ++ f.2.0 =
    sym (append_assoc s.whole (old.unread ++ byte ∷ []) f.2.0) ∙ ap (λ l. l ++ f.2.0) (sym (append_assoc s.whole old.unread (byte ∷ [])) ∙ ap (λ l. l ++ byte ∷ []) read_is) in (
      (f.2.0, messages, subst (λ b. Stream b messages) all stream),
      omega (arith, size, begins, full),
      subst (IsWhole read) begins (s.messages, subst (λ b. Rattle.ssap_grammar.specs.Stream.IsWholeOf b (length s.whole) s.messages) read_is (part_whole s.whole old.unread s.messages s.stream s.part)),
    )
first_is old read (byte ∷ bytes) given (Cut start) s f = f
first_is old read (byte ∷ bytes) given NoMemory s f = f

-- the unread bytes begin where the whole messages end
whole_is : (old : Decoding) (read : List ℕ) (given start : ℕ) (s : Stands old read given) → IsWhole read start → length s.whole ≡ start
whole_is old read given start s whole =
    wholes_once read (length s.whole) start
    (s.messages, subst (λ b. Rattle.ssap_grammar.specs.Stream.IsWholeOf b (length s.whole) s.messages) (sym s.split) (part_whole s.whole old.unread s.messages s.stream s.part))
    whole

-- where no stop stands a stream goes on, and an unfinished message has room
has_room : (old : Decoding) (read bytes : List ℕ) (given : ℕ) → Stands old read given → GoesOn old bytes → HasRoom read bytes
has_room old read [] given s h = tt
has_room old read (byte ∷ bytes) given s (inl white) =
    let read_is : read ≡ s.whole = s.split ∙ (ap (λ u. s.whole ++ u) white.0 ∙ append-nil s.whole) in
    let stream = spaces_add s.whole (byte ∷ []) s.messages s.stream (record { white = byte ∷ []; each = (white.1, tt); reads = refl }) in
    let all : s.whole ++ byte ∷ [] ≡ (read ++ byte ∷ []) ++ [] = ap (λ r. r ++ byte ∷ []) (sym read_is) ∙ sym (append-nil (read ++ byte ∷ [])) in (
      ([], s.messages, subst (λ b. Stream b s.messages) all stream),
      λ start whole.
          let same = whole_is old read given start s whole in
          omega (arith, same, ap length read_is),
    )
has_room old read (byte ∷ bytes) given s (inr goes) =
    let room = goes.0 in
    let word = (old.unread ++ byte ∷ []) ++ goes.1.0 in
    let messages = s.messages ++ placed s.whole word goes.1.1 ∷ [] in
    let stream = message_add s.whole word s.messages goes.1.1 s.stream goes.1.2 in
    let read_is : s.whole ++ old.unread ≡ read = sym s.split in
    let all : s.whole ++ word ≡ (read ++ byte ∷ []) ++ goes.1.0 =
    sym (append_assoc s.whole (old.unread ++ byte ∷ []) goes.1.0) ∙ ap (λ l. l ++ goes.1.0) (sym (append_assoc s.whole old.unread (byte ∷ [])) ∙ ap (λ l. l ++ byte ∷ []) read_is) in (
      (goes.1.0, messages, subst (λ b. Stream b messages) all stream),
      λ start whole.
          let same = whole_is old read given start s whole in
          omega (arith, same, room, ap length s.split, length-append s.whole old.unread),
    )

-- what is left of the bytes
left_is : (old new : Decoding) (read piece rest : List ℕ) (given count : ℕ) → count ≡ length piece → Takes old piece rest new
    → Stands new read given → IsLeft new read count rest
left_is old new read piece [] given count n t s = tt
left_is old new read piece (byte ∷ rest) given count n t s = by_waiting new.waiting refl t.reaches
  where
    next : StopStands new (byte ∷ rest) → (length new.unread ≡ message_limit) ⊎ (¬ (IsViable (read ++ byte ∷ [])))
    next (inl full) = inl full
    next (inr dead) = inr (λ v.
        dead_end s.whole new.unread byte s.messages s.stream s.part dead
        (subst IsViable (ap (λ r. r ++ byte ∷ []) s.split ∙ append_assoc s.whole new.unread (byte ∷ [])) v))

    some_none : (framed : Framed) → Some framed ≡ None → ⊥
    some_none framed e = cc

    by_waiting : (o : Option Framed) → new.waiting ≡ o → Reaches old piece t.part (byte ∷ rest) o new → IsLeft new read count (byte ∷ rest)
    by_waiting None e r =
        let stop = r.stop (λ z. absurd (cc)) in
        inr (subst (λ k. 0 < k) (sym n) stop.0, next stop.1)
    by_waiting (Some framed) e r = inl (λ z. some_none framed (sym e ∙ z))

-- a call stands for the bytes that it took too
pub feeds_stand : (old new : Decoding) (bytes : List ℕ) (count : ℕ) → Feeds old bytes count new → FeedStands old bytes (Ok count) new
feeds_stand old new bytes count f = λ read given s. by_waiting old.waiting refl f.does read given s
  where
    waits : (framed : Framed) (d : Decoding) (read rest : List ℕ) → d.waiting ≡ Some framed → IsLeft d read count rest
    waits framed d read [] e = tt
    waits framed d read (byte ∷ rest) e = inl (λ z. let no : Some framed ≡ None = sym e ∙ z in absurd (cc))

    by_waiting : (o : Option Framed) → old.waiting ≡ o → FeedsWaiting old o bytes count new → (read : List ℕ) (given : ℕ) → Stands old read given
        → Stands new (read ++ take count bytes) given × IsLeft new (read ++ take count bytes) count (drop count bytes)
    by_waiting None e h read given s =
        let t = takes_stands old new read (take count bytes) (drop count bytes) given e h.0 h.1 s in
        (t, left_is old new (read ++ take count bytes) (take count bytes) (drop count bytes) given count (sym (length-take-le count bytes f.within)) h.1 t)
    by_waiting (Some framed) e h read given s =
        let none : take count bytes ≡ [] = ap (λ n. take n bytes) h.0 in (
          subst (λ r. Stands new r given) (sym (ap (λ l. read ++ l) none ∙ append-nil read)) (subst (λ d. Stands d read given) (sym h.1) s),
          waits framed new (read ++ take count bytes) (drop count bytes) (ap (λ (d : Decoding). d.waiting) h.1 ∙ e),
        )

-- where a stop was met before nothing waits
stopped_alone : (old : Decoding) (stop : Stop) → old.stopped ≡ Some stop → (old.waiting ≡ None) ⊎ ((old.unread ≡ []) × (old.stopped ≡ None))
    → old.waiting ≡ None
stopped_alone old stop e (inl a) = a
stopped_alone old stop e (inr a) = let no : Some stop ≡ None = sym e ∙ a.1 in absurd (cc)

stays_alone : (old : Decoding) (bytes : List ℕ) (stop : Stop) → Stays old bytes stop
    → (old.waiting ≡ None) ⊎ ((old.unread ≡ []) × (old.stopped ≡ None)) → old.waiting ≡ None
stays_alone old bytes stop (inl e) a = stopped_alone old stop e a
stays_alone old bytes stop (inr h) a = h.0.idle

-- a call that was refused stands for what it stood for
pub refuses_stand : (old new : Decoding) (bytes : List ℕ) (stop : Stop) → Refuses old bytes new stop → FeedStands old bytes (Err stop) new
refuses_stand old new bytes (Syntax place) h = λ read given s. (
  subst (λ d. Stands d read given) (sym h.0) (stands_as old (record old { stopped = Some (Syntax place) }) read given refl refl refl (inl (stays_alone old bytes (Syntax place) h.1 s.alone)) s),
  elim h.1 [ inl e ↦ inl e | inr f ↦ inr (first_is old read bytes given (Syntax place) s f.1) ],
)
refuses_stand old new bytes (TooLong start) h = λ read given s. (
  subst (λ d. Stands d read given) (sym h.0) (stands_as old (record old { stopped = Some (TooLong start) }) read given refl refl refl (inl (stays_alone old bytes (TooLong start) h.1 s.alone)) s),
  elim h.1 [ inl e ↦ inl e | inr f ↦ inr (first_is old read bytes given (TooLong start) s f.1) ],
)
refuses_stand old new bytes (Cut start) h = λ read given s. (subst (λ d. Stands d read given) (sym h.0) s, h.1)
refuses_stand old new bytes NoMemory h = λ read given s. (subst (λ d. Stands d read given) (sym h.0) s, has_room old read bytes given s h.2)

-- so it is for either answer
pub fed_stand : (old new : Decoding) (bytes : List ℕ) (result : Result ℕ Stop) → IfOk result (λ count. Feeds old bytes count new)
    → IfErr result (Refuses old bytes new) → FeedStands old bytes result new
fed_stand old new bytes (Ok count) f r = feeds_stand old new bytes count f
fed_stand old new bytes (Err stop) f r = refuses_stand old new bytes stop r

-- the end
pub ends_stand : (old new : Decoding) (result : Result (Unit {0}) Stop) → Ends old result new → EndStands old result new
ends_stand old new (Ok done) h = λ read given s. (
  subst (λ d. Stands d read given) (sym h.2) s,
  (s.messages, subst (λ b. Stream b s.messages) (sym (s.split ∙ (ap (λ u. s.whole ++ u) h.0 ∙ append-nil s.whole))) s.stream),
)
ends_stand old new (Err (Syntax place)) h = λ read given s. (subst (λ d. Stands d read given) (sym h.0) s, h.1)
ends_stand old new (Err (TooLong start)) h = λ read given s. (subst (λ d. Stands d read given) (sym h.0) s, h.1)
ends_stand old new (Err (Cut start)) h = λ read given s. (
  subst (λ d. Stands d read given) (sym h.0) (stands_as old (record old { stopped = Some (Cut start) }) read given refl refl refl (inl (cut_alone h.1 s.alone)) s),
  elim h.1 [ inl e ↦ inl e | inr f ↦ inr (inside read given s f.1 f.2) ],
)
  where
    cut_alone : (old.stopped ≡ Some (Cut start)) ⊎ ((old.stopped ≡ None) × (0 < length old.unread) × (start + length old.unread ≡ old.taken))
        → (old.waiting ≡ None) ⊎ ((old.unread ≡ []) × (old.stopped ≡ None)) → old.waiting ≡ None
    cut_alone (inl e) a = stopped_alone old (Cut start) e a
    cut_alone (inr h) (inl a) = a
    cut_alone (inr h) (inr a) = let n = ap length a.0 in absurd (omega (arith, n, h.1))

    inside : (read : List ℕ) (given : ℕ) → Stands old read given → 0 < length old.unread → start + length old.unread ≡ old.taken → IsInside read start
    inside read given s some is =
        let size : length read ≡ length s.whole + length old.unread = ap length s.split ∙ length-append s.whole old.unread in
        let taken = s.taken in
        let begins : length s.whole ≡ start = omega (arith, size, taken, is) in
        subst (IsInside read) begins (subst (λ b. IsInside b (length s.whole)) (sym s.split) (part_inside s.whole old.unread s.messages s.stream s.part some))
ends_stand old new (Err NoMemory) h = h

-- the same for the fields of the decoder, of which what waited is taken
pub next_at : (v old : Decoding) (result left : Option Framed) → v ≡ old → result ≡ v.waiting → left ≡ None
    → NextStands old result (record v { waiting = left })
next_at v old result left e w n =
    subst (λ l. NextStands old result (record v { waiting = l })) (sym n)
    (subst (λ d. NextStands d result (record v { waiting = None })) e (next_stands v result w))
