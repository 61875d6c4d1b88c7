-- What is read of lines, one after another.
use Rattle.std.proofs.Common.{◌≡◌, ◌≢◌, ◌∙◌, ap, sym, refl, arith, ℕ, ◌+◌, ◌<◌, ◌≤◌, ◌^◌, ◌==◌, Bool, true, false, cond, List, [], ◌∷◌, ◌++◌, length, flat_map, append_assoc, length-append, Option, Some, None}
use Rattle.std.specs.List.{count_by}
use Rattle.std.proofs.lemmas.Bool.{false≢true, eqb-true}
use Rattle.std.proofs.lemmas.List.Sums.{sum_by-cons}
use Rattle.sib_replay.specs.Lines.{Line, Sends, Halts, Finds, Full, line_bytes}
use Rattle.replay_trial.specs.Reading.{Lacks, header_front, message_of, with_message, both_replies}
use Rattle.replay_trial.specs.Replies.{is_confirm, is_indication, confirm_front, indication_front, replies_in, message_in}
use Rattle.replay_trial.specs.declared.replies.Replies.{Replies}
use Rattle.replay_trial.proofs.Headers.{Heads, IsTold, sends_head, halts_head, finds_head, full_head}

-- bytes were cut at their first line end
abbrev pub AreApart : List ℕ → List ℕ → List ℕ → Type 0
AreApart bytes head rest = (front behind : List ℕ) → bytes ≡ front ++ 10 ∷ behind → Lacks 10 front → (head ≡ front) × (rest ≡ behind)

-- what a line's head and its tail are cut into
cut_heads : (line : Line) (bytes head rest more front tail : List ℕ) → Heads line front tail → bytes ≡ line_bytes line ++ more → AreApart bytes head rest
    → (head ≡ front) × (rest ≡ tail ++ more)
cut_heads line bytes head rest more front tail h is apart =
    apart front (tail ++ more) (is ∙ ap (λ l. l ++ more) h.whole ∙ append_assoc front (10 ∷ tail) more) h.lacks

-- the line of a message is cut into its header and the message
pub sends_cut : (link : ℕ) (message bytes head rest more : List ℕ) → bytes ≡ line_bytes (Sends link message) ++ more → AreApart bytes head rest
    → (head ≡ header_front link (length message)) × (rest ≡ message ++ 10 ∷ more)
sends_cut link message bytes head rest more is apart =
    let h = cut_heads (Sends link message) bytes head rest more (header_front link (length message)) (message ++ 10 ∷ []) (sends_head link message) is apart in
    (h.0, h.1 ∙ append_assoc message (10 ∷ []) more)

-- what the length in a header says of its line
abbrev pub TellsSize : List ℕ → Option ℕ → Type 0
TellsSize head size = ((link count : ℕ) → head ≡ header_front link count → count < 2 ^ 64 → size ≡ Some count)
    × ((first : ℕ) (more : List ℕ) → head ≡ first ∷ more → first ≢ 60 → size ≡ None)

some_same : {A : Type 0} (x y : A) → Some x ≡ Some y → x ≡ y
some_same x y e = cc

none_some : {A : Type 0} (x : A) → None ≡ Some x → ⊥
none_some x e = cc

module _ (bytes head rest more : List ℕ) (apart : AreApart bytes head rest) (small : length bytes < 2 ^ 64) where
  -- a message is no longer than all
  message_small : (link : ℕ) (message : List ℕ) → bytes ≡ line_bytes (Sends link message) ++ more → length message < 2 ^ 64
  message_small link message is =
      let h = sends_head link message in
      omega (
        arith,
        small,
        ap length is,
        ap (λ l. length (l ++ more)) h.whole,
        length-append (header_front link (length message) ++ 10 ∷ (message ++ 10 ∷ [])) more,
        length-append (header_front link (length message)) (10 ∷ (message ++ 10 ∷ [])),
        length-append message (10 ∷ []),
      )

  -- a line with a length is that of a message
  told_sized : (line : Line) (size : Option ℕ) (count : ℕ) → IsTold line → bytes ≡ line_bytes line ++ more → TellsSize head size → size ≡ Some count → ⊥
  told_sized line size count t is tells some =
      none_some count (sym (tells.1 33 t.front (cut_heads line bytes head rest more (33 ∷ t.front) [] t.heads is apart).0 (λ e. omega (arith, e))) ∙ some)

  pub sized : (line : Line) (size : Option ℕ) (count : ℕ) → bytes ≡ line_bytes line ++ more → TellsSize head size → size ≡ Some count
      → (rest ≡ message_of line ++ 10 ∷ more) × (count ≡ length (message_of line))
  sized (Sends link message) size count is tells some =
      let h = sends_cut link message bytes head rest more is apart in
      (h.1, some_same count (length message) (sym some ∙ tells.0 link (length message) h.0 (message_small link message is)))
  sized (Halts link why) size count is tells some = absurd (told_sized (Halts link why) size count (halts_head link why) is tells some)
  sized (Finds link) size count is tells some = absurd (told_sized (Finds link) size count (finds_head link) is tells some)
  sized (Full number) size count is tells some = absurd (told_sized (Full number) size count (full_head number) is tells some)

  -- and one without is another
  pub unsized : (line : Line) (size : Option ℕ) → bytes ≡ line_bytes line ++ more → TellsSize head size → size ≡ None → ([] ≡ message_of line) × (rest ≡ more)
  unsized (Sends link message) size is tells none =
      let h = sends_cut link message bytes head rest more is apart in
      absurd (none_some (length message) (sym none ∙ tells.0 link (length message) h.0 (message_small link message is)))
  unsized (Halts link why) size is tells none =
      let t = halts_head link why in (refl, (cut_heads (Halts link why) bytes head rest more (33 ∷ t.front) [] t.heads is apart).1)
  unsized (Finds link) size is tells none =
      let t = finds_head link in (refl, (cut_heads (Finds link) bytes head rest more (33 ∷ t.front) [] t.heads is apart).1)
  unsized (Full number) size is tells none =
      let t = full_head number in (refl, (cut_heads (Full number) bytes head rest more (33 ∷ t.front) [] t.heads is apart).1)

-- counts are equal where both of them are
pub same_replies : (a b : Replies) → a.confirms ≡ b.confirms → a.indications ≡ b.indications → a ≡ b
same_replies a b p q =
    ap (λ n. record { confirms = n; indications = a.indications }) p ∙ ap (λ n. record { confirms = b.confirms; indications = n }) q

nothing_more : (b : Bool) (n : ℕ) → b ≡ false → n ≡ cond b 1 0 + n
nothing_more true n e = absurd (false≢true (sym e))
nothing_more false n e = omega arith

-- one line more
counted_first : (p : List ℕ → Bool) (line : Line) (lines : List Line) → p [] ≡ false
    → count_by p (flat_map message_in (line ∷ lines)) ≡ cond (p (message_of line)) 1 0 + count_by p (flat_map message_in lines)
counted_first p (Sends link message) lines none = sum_by-cons (λ m. cond (p m) 1 0) message (flat_map message_in lines)
counted_first p (Halts link why) lines none = nothing_more (p []) (count_by p (flat_map message_in lines)) none
counted_first p (Finds link) lines none = nothing_more (p []) (count_by p (flat_map message_in lines)) none
counted_first p (Full count) lines none = nothing_more (p []) (count_by p (flat_map message_in lines)) none

nothing_confirms : is_confirm [] ≡ false
unfolding confirm_front
nothing_confirms = refl

nothing_indicates : is_indication [] ≡ false
unfolding indication_front
nothing_indicates = refl

-- what was counted and what is left to count, over one line more
counted_on : (so_far : Replies) (line : Line) (lines : List Line) → both_replies (with_message so_far (message_of line)) (replies_in lines) ≡ both_replies so_far (replies_in (line ∷ lines))
counted_on so_far line lines =
    let confirms = counted_first is_confirm line lines nothing_confirms in
    let indications = counted_first is_indication line lines nothing_indicates in
    same_replies (both_replies (with_message so_far (message_of line)) (replies_in lines)) (both_replies so_far (replies_in (line ∷ lines))) (omega (arith, confirms)) (omega (arith, indications))

-- some lines are left to count of these bytes, behind those that were counted
pub record Left (bytes : List ℕ) (so_far : Replies) (all : List Line) : Type 0 where
  pub lines : List Line
  pub spelled : bytes ≡ flat_map line_bytes lines
  pub whole : both_replies so_far (replies_in lines) ≡ replies_in all

-- one line was counted
pub left_on : (bytes more message : List ℕ) (so_far now : Replies) (all : List Line) → 0 < length bytes → now ≡ with_message so_far message → Left bytes so_far all
    → ((line : Line) (behind : List ℕ) → bytes ≡ line_bytes line ++ behind → (message ≡ message_of line) × (more ≡ behind)) → Left more now all
left_on bytes more message so_far now all some is left next = go left.lines left.spelled left.whole
  where
    go : (lines : List Line) → bytes ≡ flat_map line_bytes lines → both_replies so_far (replies_in lines) ≡ replies_in all → Left more now all
    go [] spelled whole = absurd (omega (arith, some, ap length spelled))
    go (line ∷ lines) spelled whole =
        let here = next line (flat_map line_bytes lines) spelled in
        record {
          lines = lines;
          spelled = here.1;
          whole = ap (λ r. both_replies r (replies_in lines)) (is ∙ ap (with_message so_far) here.0) ∙ counted_on so_far line lines ∙ whole;
        }

-- a message counts once at most
pub added_once : (b : Bool) → cond b 1 0 ≤ 1
added_once true = omega arith
added_once false = omega arith

-- bytes are some where they are not empty
pub are_some : (bytes : List ℕ) → false ≡ (length bytes == 0) → 0 < length bytes
are_some [] e = absurd (false≢true e)
are_some (byte ∷ bytes) e = omega arith

-- all were counted
pub left_none : (bytes : List ℕ) (so_far : Replies) (all : List Line) → true ≡ (length bytes == 0) → Left bytes so_far all → so_far ≡ replies_in all
left_none bytes so_far all is_none left = go left.lines left.spelled left.whole
  where
    none : length bytes ≡ 0
    none = eqb-true (length bytes) 0 (sym is_none)

    long : (line : Line) → 0 < length (line_bytes line)
    long (Sends link message) = let h = sends_head link message in omega (arith, ap length h.whole, length-append (header_front link (length message)) (10 ∷ (message ++ 10 ∷ [])))
    long (Halts link why) = omega (arith, ap length (halts_head link why).heads.whole)
    long (Finds link) = omega (arith, ap length (finds_head link).heads.whole)
    long (Full count) = omega (arith, ap length (full_head count).heads.whole)

    go : (lines : List Line) → bytes ≡ flat_map line_bytes lines → both_replies so_far (replies_in lines) ≡ replies_in all → so_far ≡ replies_in all
    go [] spelled whole = same_replies so_far (replies_in all) (omega (arith, ap (λ (r : Replies). r.confirms) whole)) (omega (arith, ap (λ (r : Replies). r.indications) whole))
    go (line ∷ lines) spelled whole = absurd (omega (arith, none, ap length spelled, long line, length-append (line_bytes line) (flat_map line_bytes lines)))
