-- A stream with a part of a message behind it, and bytes with which no message goes on.
use Rattle.std.proofs.Common.{◌≡◌, ◌⊎◌, inl, inr, ℕ, suc, ◌+◌, ◌-◌, ◌<◌, ◌≤◌, List, [], ◌∷◌, ◌++◌, length, take, drop, sym, ◌∙◌, ap, subst, arith, append_assoc}
use Rattle.std.proofs.lemmas.List.{append-nil, length-append, take-append-drop}
use Rattle.std.proofs.Math.Seq.{take-append-add, take-append_seam, take-length}
use Rattle.std.proofs.lemmas.Bool.{cases_lt}
use Rattle.ssap_items.specs.declared.envelope.Envelope.{Envelope}
use Rattle.ssap_grammar.specs.Characters.{IsWhite}
use Rattle.ssap_grammar.specs.Message.{ReadsMessage, Spells}
use Rattle.ssap_grammar.specs.Stream.{Placed, Messages, Stream, IsViable, IsPlace, IsWholeOf, IsWhole, IsInside}
use Rattle.ssap_grammar.specs.Laws.{IsPart, IsDeadEnd}
use Rattle.m3_terms.proofs.Lists.{heads_same, fronts, Shorter, Longer}
use Rattle.ssap_grammar.proofs.Fronts.{Head, more_behind}
use Rattle.ssap_grammar.proofs.Characters.{NoSpace, high_no_space, spaces_meet, no_spaces}
use Rattle.ssap_grammar.proofs.Messages.{message_both, message_alone, message_head, none_begins}
use Rattle.ssap_grammar.proofs.Streams.{head_no_space, GoesOn, messages_no_space, stream_goes_on}
use Rattle.ssap_grammar.proofs.StreamEnds.{message_add, placed, message_word}

-- bytes have one place
pub places_once : (bytes : List ℕ) (m n : ℕ) → IsPlace bytes m → IsPlace bytes n → m ≡ n
places_once bytes m n x y =
    let a = x.within in
    let b = y.within in
    let p = y.longest m (omega (arith, a)) x.viable in
    let q = x.longest n (omega (arith, b)) y.viable in
    omega (arith, p, q)

-- and one whole
pub wholes_once : (bytes : List ℕ) (m n : ℕ) → IsWhole bytes m → IsWhole bytes n → m ≡ n
wholes_once bytes m n x y =
    let a = x.1.within in
    let b = y.1.within in
    let p = y.1.longest m x.0 (omega (arith, a)) x.1.stream in
    let q = x.1.longest n y.0 (omega (arith, b)) y.1.stream in
    omega (arith, p, q)

-- a stream is whole
pub streams_are_whole : (bytes : List ℕ) (l : List Placed) → Stream bytes l → IsWholeOf bytes (length bytes) l
streams_are_whole bytes l x = record {
  within = omega arith;
  stream = subst (λ b. Stream b l) (sym (take-length bytes)) x;
  longest = λ n others within y. within;
}

-- a front of a spelling that is not empty begins with `<`
front_head : (front back : List ℕ) (e : Envelope) → 0 < length front → Spells (front ++ back) e → Head 60 front
front_head [] back e some x = absurd (omega arith)
front_head (c ∷ front) back e some x =
    let h = message_head e (c ∷ (front ++ back)) [] x in
    (front, ap (λ b. b ∷ front) (heads_same c 60 (front ++ back) h.0 h.1))

-- no stream ends inside a message
no_stream_inside : (w front back : List ℕ) (l others : List Placed) (e : Envelope) → Stream w l → Spells (front ++ back) e → 0 < length front → 0 < length back
    → ¬ (Stream (w ++ front) others)
no_stream_inside w front back l others e x spelled some left y = go g.tail g.reads
  where
    g : GoesOn l others (length w + length front) front
    g = stream_goes_on w front l others x y

    same : front ≡ g.next
    same =
        let h = head_no_space front (front_head front back e some spelled) in
        (spaces_meet.both front front g.next (no_spaces front) g.spaces h (messages_no_space g.tail (length w + length front) g.next g.reads)).1

    go : (tail : List Placed) → Messages (length w + length front) tail g.next → ⊥
    go [] none = let n = ap length (same ∙ none) in omega (arith, n, some)
    go (p ∷ tail) z =
        let longer = more_behind (message_alone p.envelope) front z.behind back (subst (λ b. ReadsMessage p.envelope b z.behind) (sym same) z.reads) in
        let nothing = ap length (message_both p.envelope e (front ++ back) (z.behind ++ back) [] longer spelled).1 in
        omega (arith, nothing, left, length-append z.behind back)

-- a stream and then a part of a message: the stream is the whole
pub part_whole : (w part : List ℕ) (l : List Placed) → Stream w l → IsPart part → IsWholeOf (w ++ part) (length w) l
part_whole w part l x p = record {
  within = omega (arith, length-append w part);
  stream = subst (λ b. Stream b l) (sym (take-append_seam w part)) x;
  longest = λ n others within y. elim (cases_lt (length w) n) [
    | inl past ↦ absurd (inside n others within y past)
    | inr short ↦ omega arith
  ];
}
  where
    inside : (n : ℕ) (others : List Placed) → n ≤ length (w ++ part) → Stream (take n (w ++ part)) others → length w < n → ⊥
    inside n others within y past =
        let k = n - length w in
        let is : n ≡ length w + k = omega arith in
        let front = take k part in
        let back = drop k part in
        let joined : front ++ (back ++ p.0) ≡ part ++ p.0 = sym (append_assoc front back p.0) ∙ ap (λ b. b ++ p.0) (take-append-drop k part) in
        let split : take n (w ++ part) ≡ w ++ front = ap (λ m. take m (w ++ part)) is ∙ take-append-add w part k in
        let size = Rattle.std.proofs.lemmas.List.length-take-le k part (omega (arith, within, length-append w part)) in
        let left = p.2 in
        no_stream_inside w front (back ++ p.0) l others p.1 x (subst (λ b. Spells b p.1) (sym joined) p.3) (omega (arith, size)) (omega (arith, left, length-append back p.0))
        (subst (λ b. Stream b others) split y)

-- it is viable
pub part_viable : (w part : List ℕ) (l : List Placed) → Stream w l → IsPart part → IsViable (w ++ part)
part_viable w part l x p = (
  p.0,
  l ++ placed w (part ++ p.0) p.1 ∷ [],
  subst (λ b. Stream b (l ++ placed w (part ++ p.0) p.1 ∷ [])) (sym (append_assoc w part p.0)) (message_add w (part ++ p.0) l p.1 x p.3),
)

-- and its bytes end inside the message
pub part_inside : (w part : List ℕ) (l : List Placed) → Stream w l → IsPart part → 0 < length part → IsInside (w ++ part) (length w)
part_inside w part l x p some = record {
  viable = part_viable w part l x p;
  unfinished = λ others y.
      let whole = part_whole w part l x p in
      let most = whole.longest (length (w ++ part)) others (omega arith) (subst (λ b. Stream b others) (sym (take-length (w ++ part))) y) in
      absurd (omega (arith, most, some, length-append w part));
  whole = (l, part_whole w part l x p);
}

-- behind a part no word goes on with a byte with which no message goes on
dead_word : (part more word behind : List ℕ) (byte : ℕ) (e : Envelope) → IsPart part → IsDeadEnd part byte → Spells word e
    → ¬ (part ++ byte ∷ more ≡ word ++ behind)
dead_word part more word behind byte e p d spelled same = elim (fronts part (byte ∷ more) word behind same) [
  | Shorter m q r ↦ shorter m q r
  | Longer m q r ↦ longer m q
]
  where
    longer : (m : List ℕ) → word ++ m ≡ part → ⊥
    longer m q =
        let all : part ++ p.0 ≡ word ++ (m ++ p.0) = ap (λ b. b ++ p.0) (sym q) ∙ append_assoc word m p.0 in
        let none = ap length (none_begins word (m ++ p.0) e p.1 spelled (subst (λ b. Spells b p.1) all p.3)) in
        let left = p.2 in
        omega (arith, none, left, length-append m p.0)

    shorter : (m : List ℕ) → part ++ m ≡ word → byte ∷ more ≡ m ++ behind → ⊥
    shorter [] q r = longer [] (append-nil word ∙ (sym q ∙ append-nil part))
    shorter (c ∷ m) q r =
        let c_is = heads_same byte c more (m ++ behind) r in
        d.none m e (subst (λ b. Spells b e) (sym q ∙ ap (λ x. part ++ x ∷ m) (sym c_is)) spelled)

-- no stream goes on with such a byte
pub dead_end : (w part : List ℕ) (byte : ℕ) (l : List Placed) → Stream w l → IsPart part → IsDeadEnd part byte → ¬ (IsViable (w ++ (part ++ byte ∷ [])))
dead_end w part byte l x p d v = go g.tail g.reads
  where
    more : List ℕ
    more = v.0

    all : List ℕ
    all = part ++ byte ∷ more

    joined : (w ++ (part ++ byte ∷ [])) ++ more ≡ w ++ all
    joined = simp append_assoc

    g : GoesOn l v.1 (length w + length all) all
    g = stream_goes_on w all l v.1 x (subst (λ b. Stream b v.1) joined v.2)

    some_part : (part : List ℕ) → IsPart part → ((0 < length part) ⊎ (¬ (IsWhite byte))) → NoSpace (part ++ byte ∷ more)
    some_part [] p (inl n) = absurd (omega arith)
    some_part [] p (inr n) = n
    some_part (c ∷ cs) p s =
        let h = front_head (c ∷ cs) p.0 p.1 (omega arith) p.3 in
        high_no_space 60 (h.0 ++ byte ∷ more) (c ∷ (cs ++ byte ∷ more)) (omega arith) (ap (λ l. l ++ byte ∷ more) h.1)

    same : all ≡ g.next
    same = (spaces_meet.both all all g.next (no_spaces all) g.spaces (some_part part p d.solid) (messages_no_space g.tail (length w + length all) g.next g.reads)).1

    go : (tail : List Placed) → Messages (length w + length all) tail g.next → ⊥
    go [] none = let n = ap length (same ∙ none) in omega (arith, n, length-append part (byte ∷ more))
    go (q ∷ tail) z =
        let word = message_word q.envelope g.next z.behind z.reads in
        dead_word part more word.0 z.behind byte q.envelope p d word.2 (same ∙ word.1)

-- a front of what is viable is viable
pub viable_front : (bytes more : List ℕ) → IsViable (bytes ++ more) → IsViable bytes
viable_front bytes more v = (more ++ v.0, v.1, subst (λ b. Stream b v.1) (append_assoc bytes more v.0) v.2)

-- so the place is where it stands
pub dead_place : (w part more : List ℕ) (byte : ℕ) (l : List Placed) → Stream w l → IsPart part → IsDeadEnd part byte
    → IsPlace (w ++ (part ++ byte ∷ more)) (length (w ++ part))
dead_place w part more byte l x p d =
    subst (λ b. IsPlace b (length (w ++ part))) (append_assoc w part (byte ∷ more)) (record {
      within = omega (arith, length-append (w ++ part) (byte ∷ more));
      viable = subst IsViable (sym (take-append_seam (w ++ part) (byte ∷ more))) (part_viable w part l x p);
      longest = λ n within v. elim (cases_lt (length (w ++ part)) n) [
        | inl past ↦ absurd (beyond n v past)
        | inr short ↦ omega arith
      ];
    })
  where
    beyond : (n : ℕ) → IsViable (take n ((w ++ part) ++ byte ∷ more)) → length (w ++ part) < n → ⊥
    beyond n v past =
        let k = n - length (w ++ part) - 1 in
        let is : n ≡ length (w ++ part) + suc k = omega arith in
        let split : take n ((w ++ part) ++ byte ∷ more) ≡ (w ++ (part ++ byte ∷ [])) ++ take k more =
        ap (λ m. take m ((w ++ part) ++ byte ∷ more)) is ∙ (take-append-add (w ++ part) (byte ∷ more) (suc k) ∙ regroup (take k more)) in
        dead_end w part byte l x p d (viable_front (w ++ (part ++ byte ∷ [])) (take k more) (subst IsViable split v))
      where
        regroup : (back : List ℕ) → (w ++ part) ++ byte ∷ back ≡ (w ++ (part ++ byte ∷ [])) ++ back
        regroup back = simp append_assoc
