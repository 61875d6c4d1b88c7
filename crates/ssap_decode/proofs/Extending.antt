-- What the machine makes of an unfinished message with a piece behind it.
use Rattle.std.proofs.Common.{◌≡◌, ℕ, ◌+◌, ◌<◌, List, [], ◌∷◌, ◌++◌, length, refl, sym, ◌∙◌, ap, subst, append_assoc, length-append, arith}
use Rattle.std.proofs.lemmas.List.{append-nil, take-append-drop, take-append-le, drop-append-le, take-take, length-take-le}
use Rattle.std.proofs.Math.Seq.{take-append-add, take-append_seam, drop-append_seam}
use Rattle.std.specs.Prelude.{◌≢◌, take, drop}
use Rattle.ssap_machine.specs.Machine.{Walks, IsStuck, IsMessage}
use Rattle.ssap_machine.specs.Progress.{IsPending}
use Rattle.ssap_machine.specs.declared.symbol.Symbol.{Symbol}
use Rattle.ssap_machine.specs.declared.symbol.Symbol.TheVariants.{Message}
use Rattle.ssap_machine.proofs.Steps.{walks_join}
use Rattle.m3_terms.proofs.Lists.{fronts, Shorter, Longer}
use Rattle.ssap_machine.proofs.Walking.{told_once, dead_end}
use Rattle.ssap_machine.proofs.Completions.{goes_on}
use Rattle.ssap_decode.specs.Unfinished.{Sticks, Halts, Reads, IsUnfinished}
use Rattle.ssap_decode.specs.declared.walk.Halt.{Halt}
use Rattle.ssap_decode.specs.declared.walk.Halt.TheVariants.{Whole, Half, Stuck}
use Rattle.ssap_decode.specs.declared.walk.Walked.{Walked}

-- what was pending, and the part of the piece that is read with it
record Joined (rest piece ahead left : List ℕ) (halt : Halt) : Type 0 where
  part : List ℕ
  split : piece ≡ part ++ left
  is : rest ++ part ≡ ahead
  some : halt ≡ Whole → 0 < length part

-- no whole message is a front of a part of one
whole_short : (front rest ahead m more : List ℕ) (stack : List Symbol) → Walks (Message ∷ []) front stack → Walks stack ahead [] → rest ≡ ahead ++ m
    → 0 < length more → IsMessage (front ++ (rest ++ more)) → ⊥
whole_short front rest ahead m more stack w v e long x =
    let all : front ++ (rest ++ more) ≡ (front ++ ahead) ++ (m ++ more) =
    ap (λ l. front ++ (l ++ more)) e ∙ (ap (λ l. front ++ l) (append_assoc ahead m more) ∙ sym (append_assoc front ahead (m ++ more))) in
    let nothing = ap length (told_once (front ++ ahead) (m ++ more) (walks_join (Message ∷ []) stack [] front ahead w v) (subst IsMessage all x)) in
    omega (arith, nothing, long, length-append m more)

-- nor does a byte with which no message goes on stand in one
stuck_short : (front rest ahead pending m more : List ℕ) (byte : ℕ) (stack new : List Symbol) → Walks (Message ∷ []) front stack → Walks stack ahead new
    → IsPending new pending → IsStuck new (pending ++ byte ∷ []) → rest ≡ (ahead ++ pending) ++ byte ∷ m → IsMessage (front ++ (rest ++ more)) → ⊥
stuck_short front rest ahead pending m more byte stack new w v p stuck e x =
    dead_end (front ++ ahead) pending (m ++ more) byte new (walks_join (Message ∷ []) stack new front ahead w v) p stuck (subst IsMessage all x)
  where
    regroup : (front ++ (((ahead ++ pending) ++ byte ∷ m) ++ more)) ≡ (front ++ ahead) ++ (pending ++ byte ∷ (m ++ more))
    regroup = simp append_assoc

    all : front ++ (rest ++ more) ≡ (front ++ ahead) ++ (pending ++ byte ∷ (m ++ more))
    all = ap (λ l. front ++ (l ++ more)) e ∙ regroup

-- a walk over what is pending and a piece comes at least as far as the piece
joined : (front rest piece ahead pending left : List ℕ) (stack new : List Symbol) (halt : Halt) → Walks (Message ∷ []) front stack → stack ≢ []
    → IsPending stack rest → rest ++ piece ≡ (ahead ++ pending) ++ left → Walks stack ahead new → Halts new pending left halt
    → Joined rest piece (ahead ++ pending) left halt
joined front rest piece ahead pending left stack new halt w goes p e v h = elim (fronts (ahead ++ pending) left rest piece (sym e)) [
  | Longer m q r ↦ record { part = m; split = sym r; is = q; some = λ whole. some whole m (sym q) (sym r) }
  | Shorter m q r ↦ shorter m (sym q) r
]
  where
    more : (more : List ℕ) × (0 < length more) × IsMessage (front ++ (rest ++ more))
    more = goes_on front rest stack w goes p

    no_whole : (m : List ℕ) → halt ≡ Whole → rest ≡ (ahead ++ pending) ++ m → ⊥
    no_whole m whole q =
        let known = subst (λ k. Halts new pending left k) whole h in
        whole_short front rest ahead m more.0 stack w (subst (λ s. Walks stack ahead s) known.0 v)
        (q ∙ ap (λ l. l ++ m) (ap (λ l. ahead ++ l) known.1 ∙ append-nil ahead)) more.1 more.2

    some : halt ≡ Whole → (m : List ℕ) → ahead ++ pending ≡ rest ++ m → piece ≡ m ++ left → 0 < length m
    some whole [] q r = absurd (no_whole [] whole (sym (append-nil rest) ∙ (sym q ∙ sym (append-nil (ahead ++ pending)))))
    some whole (b ∷ m) q r = omega arith

    past : (halt : Halt) (byte : ℕ) (m : List ℕ) → Halts new pending left halt → (halt ≡ Whole → ⊥) → rest ≡ (ahead ++ pending) ++ byte ∷ m
        → left ≡ byte ∷ (m ++ piece) → ⊥
    past Whole byte m h none q r = none refl
    past Half byte m h none q r =
        let nothing : byte ∷ (m ++ piece) ≡ [] = sym r ∙ h.2 in
        absurd (cc)
    past Stuck byte m h none q r =
        stuck_short front rest ahead pending m more.0 byte stack new w v h.1 (subst (λ l. Sticks new pending l) r h.2) q more.2

    shorter : (m : List ℕ) → rest ≡ (ahead ++ pending) ++ m → left ≡ m ++ piece → Joined rest piece (ahead ++ pending) left halt
    shorter [] q r = record {
      part = [];
      split = sym r;
      is = append-nil rest ∙ (q ∙ append-nil (ahead ++ pending));
      some = λ whole. absurd (no_whole [] whole q);
    }
    shorter (b ∷ m) q r = absurd (past halt b m h (λ whole. no_whole (b ∷ m) whole q) q r)

-- no message goes on from these bytes with the first of those that are left
pub record Dead (bytes left : List ℕ) : Type 0 where
  pub byte : ℕ
  pub more : List ℕ
  pub is : left ≡ byte ∷ more
  pub none : (after : List ℕ) → ¬ (IsMessage (bytes ++ byte ∷ after))

-- the message is whole, or is still unfinished: all of the piece was read, or no message goes on with the next byte
abbrev pub Leaves : Halt → List ℕ → List ℕ → List ℕ → List Symbol → ℕ → Type 0
Leaves Whole message part left stack read = IsMessage (message ++ part) × (0 < length part)
Leaves Half message part left stack read = IsUnfinished (message ++ part) stack read × (left ≡ [])
Leaves Stuck message part left stack read = IsUnfinished (message ++ part) stack read × Dead (message ++ part) left

-- an unfinished message with the part of the piece that it goes on with
pub record Extended (message piece : List ℕ) (read : ℕ) (walked : Walked) : Type 0 where
  pub part : List ℕ
  pub left : List ℕ
  pub split : piece ≡ part ++ left
  pub is : take (read + walked.reach) (message ++ piece) ≡ message ++ part
  pub leaves : Leaves walked.halt message part left walked.stack (read + walked.count)

-- what is read and what is pending, from a number
unfinished_at : (front pending : List ℕ) (stack : List Symbol) (read : ℕ) (message : List ℕ) → length front ≡ read → message ≡ front ++ pending
    → Walks (Message ∷ []) front stack → stack ≢ [] → IsPending stack pending → IsUnfinished message stack read
unfinished_at front pending stack read message size is w goes p = record {
  within = omega (arith, ap length is, length-append front pending);
  walks = subst (λ l. Walks (Message ∷ []) l stack) (sym (ap (take read) is ∙ (ap (λ n. take n (front ++ pending)) (sym size) ∙ take-append_seam front pending))) w;
  goes = goes;
  pending = subst (λ l. IsPending stack l) (sym (ap (drop read) is ∙ (ap (λ n. drop n (front ++ pending)) (sym size) ∙ drop-append_seam front pending))) p;
}

pub extended : (message piece : List ℕ) (stack : List Symbol) (read : ℕ) (walked : Walked) → IsUnfinished message stack read
    → Reads stack (drop read (message ++ piece)) walked → Extended message piece read walked
extended message piece stack read walked u h = record {
  part = j.part;
  left = left;
  split = j.split;
  is = whole ∙ grown;
  leaves = leaves walked.halt h.halts j.some;
}
  where
    bytes : List ℕ
    bytes = drop read (message ++ piece)

    front : List ℕ
    front = take read message

    rest : List ℕ
    rest = drop read message

    ahead : List ℕ
    ahead = take walked.count bytes

    pending : List ℕ
    pending = drop walked.count (take walked.reach bytes)

    left : List ℕ
    left = drop walked.reach bytes

    both : take walked.reach bytes ≡ ahead ++ pending
    both =
        sym (take-append-drop walked.count (take walked.reach bytes)) ∙ ap (λ l. l ++ pending) (take-take walked.count walked.reach bytes h.count)

    bytes_is : rest ++ piece ≡ (ahead ++ pending) ++ left
    bytes_is =
        sym (drop-append-le read message piece u.within) ∙ (sym (take-append-drop walked.reach bytes) ∙ ap (λ l. l ++ left) both)

    j : Joined rest piece (ahead ++ pending) left walked.halt
    j = joined front rest piece ahead pending left stack walked.stack walked.halt u.walks u.goes u.pending bytes_is h.walks h.halts

    front_size : length front ≡ read
    front_size = length-take-le read message u.within

    all : message ++ piece ≡ front ++ bytes
    all = sym (take-append-drop read (message ++ piece)) ∙ ap (λ l. l ++ bytes) (take-append-le read message piece u.within)

    whole : take (read + walked.reach) (message ++ piece) ≡ front ++ (ahead ++ pending)
    whole =
        ap (take (read + walked.reach)) all ∙ (ap (λ n. take (n + walked.reach) (front ++ bytes)) (sym front_size)
        ∙ (take-append-add front bytes walked.reach ∙ ap (λ l. front ++ l) both))

    grown : front ++ (ahead ++ pending) ≡ message ++ j.part
    grown =
        ap (λ l. front ++ l) (sym j.is) ∙ (sym (append_assoc front rest j.part) ∙ ap (λ l. l ++ j.part) (take-append-drop read message))

    message_is : message ++ j.part ≡ (front ++ ahead) ++ pending
    message_is = sym grown ∙ sym (append_assoc front ahead pending)

    size : length (front ++ ahead) ≡ read + walked.count
    size =
        let small = h.count in
        let within = h.reach in
        length-append front ahead ∙ (ap (λ n. n + length ahead) front_size ∙ ap (λ n. read + n) (length-take-le walked.count bytes (omega arith)))

    walks : Walks (Message ∷ []) (front ++ ahead) walked.stack
    walks = walks_join (Message ∷ []) stack walked.stack front ahead u.walks h.walks

    unfinished : walked.stack ≢ [] → IsPending walked.stack pending → IsUnfinished (message ++ j.part) walked.stack (read + walked.count)
    unfinished goes p = unfinished_at (front ++ ahead) pending walked.stack (read + walked.count) (message ++ j.part) size message_is walks goes p

    stuck : (l : List ℕ) → l ≡ left → IsPending walked.stack pending → Sticks walked.stack pending l → Dead (message ++ j.part) left
    stuck [] e p s = absurd s
    stuck (byte ∷ more) e p s = record {
      byte = byte;
      more = more;
      is = sym e;
      none = λ after x.
          dead_end (front ++ ahead) pending after byte walked.stack walks p s
          (subst IsMessage (ap (λ l. l ++ byte ∷ after) message_is ∙ append_assoc (front ++ ahead) pending (byte ∷ after)) x);
    }

    leaves : (halt : Halt) → Halts walked.stack pending left halt → (halt ≡ Whole → 0 < length j.part)
        → Leaves halt message j.part left walked.stack (read + walked.count)
    leaves Whole k some = (
      subst IsMessage (sym (message_is ∙ (ap (λ l. (front ++ ahead) ++ l) k.1 ∙ append-nil (front ++ ahead))))
          (subst (λ s. Walks (Message ∷ []) (front ++ ahead) s) k.0 walks),
      some refl,
    )
    leaves Half k some = (unfinished k.0 k.1, k.2)
    leaves Stuck k some = (unfinished k.0 k.1, stuck left refl k.1 k.2)
