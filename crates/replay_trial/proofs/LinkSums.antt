-- The counts of lines, link by link.
use Rattle.std.proofs.Common.{◌≡◌, ◌∙◌, ap, sym, refl, subst, arith, ℕ, zero, suc, ◌+◌, ◌<◌, ◌≤◌, ◌==◌, Bool, cond, List, [], ◌∷◌, ◌++◌, flat_map, inl, inr}
use Rattle.std.specs.List.{count_by, sum_by, range_with_len, AllByRecursion}
use Rattle.std.proofs.lemmas.Bool.{eq-eqb, cases_eq}
use Rattle.std.proofs.lemmas.List.Sums.{sum_by-cons}
use Rattle.sib_replay.specs.Lines.{Line, Sends, Halts, Finds, Full, messages_on}
use Rattle.sib_replay.proofs.EventLemmas.{ne-eqb}
use Rattle.replay_trial.specs.Replies.{is_confirm, is_indication, replies_in, message_in}
use Rattle.replay_trial.specs.Laws.{IsBelow, MessagesAreCounted}
use Rattle.replay_trial.proofs.Counting.{same_replies}

module _ (p : List ℕ → Bool) where
  -- how many of these are counted on links from one on
  sums : (ℕ → List (List ℕ)) → ℕ → ℕ → ℕ
  sums on start count = sum_by (λ link. count_by p (on link)) (range_with_len start count)

  sums_step : (on : ℕ → List (List ℕ)) (start count : ℕ) → sums on start (suc count) ≡ count_by p (on start) + sums on (start + 1) count
  unfolding sums
  sums_step on start count = sum_by-cons (λ link. count_by p (on link)) start (range_with_len (start + 1) count)

  sums_none : (on : ℕ → List (List ℕ)) (start : ℕ) → sums on start 0 ≡ 0
  unfolding sums
  sums_none on start = refl

  -- nothing is counted where there is nothing
  nothing : (start count : ℕ) → sums (λ link. []) start count ≡ 0
  nothing start zero = sums_none (λ link. []) start
  nothing start (suc count) = omega (arith, sums_step (λ link. []) start count, nothing (start + 1) count)

  -- with a message more on one link
  abbrev with_one : ℕ → List ℕ → (ℕ → List (List ℕ)) → ℕ → List (List ℕ)
  with_one link message on other = cond (link == other) (message ∷ []) [] ++ on other

  one_here : (link : ℕ) (message : List ℕ) (on : ℕ → List (List ℕ)) → count_by p (with_one link message on link) ≡ cond (p message) 1 0 + count_by p (on link)
  one_here link message on =
      ap (λ b. count_by p (cond b (message ∷ []) [] ++ on link)) (eq-eqb link link refl) ∙ sum_by-cons (λ m. cond (p m) 1 0) message (on link)

  one_apart : (link other : ℕ) (message : List ℕ) (on : ℕ → List (List ℕ)) → (link ≡ other → ⊥) → count_by p (with_one link message on other) ≡ count_by p (on other)
  one_apart link other message on apart = ap (λ b. count_by p (cond b (message ∷ []) [] ++ on other)) (ne-eqb link other apart)

  -- it is counted on no link above its own
  one_above : (link : ℕ) (message : List ℕ) (on : ℕ → List (List ℕ)) (start count : ℕ) → link < start → sums (with_one link message on) start count ≡ sums on start count
  one_above link message on start zero above = sums_none (with_one link message on) start ∙ sym (sums_none on start)
  one_above link message on start (suc count) above =
      omega (
        arith,
        sums_step (with_one link message on) start count,
        sums_step on start count,
        one_apart link start message on (λ e. omega (arith, e, above)),
        one_above link message on (start + 1) count (omega (arith, above)),
      )

  -- and once where its own is among them
  one_within : (link : ℕ) (message : List ℕ) (on : ℕ → List (List ℕ)) (start count : ℕ) → start ≤ link → link < start + count
      → sums (with_one link message on) start count ≡ cond (p message) 1 0 + sums on start count
  one_within link message on start zero low high = absurd (omega (arith, low, high))
  one_within link message on start (suc count) low high = elim (cases_eq link start) [
    | inl same ↦ omega (
      arith,
      sums_step (with_one link message on) start count,
      sums_step on start count,
      subst (λ n. count_by p (with_one link message on n) ≡ cond (p message) 1 0 + count_by p (on n)) same (one_here link message on),
      one_above link message on (start + 1) count (omega (arith, same)),
    )
    | inr apart ↦ omega (
      arith,
      sums_step (with_one link message on) start count,
      sums_step on start count,
      one_apart link start message on apart,
      one_within link message on (start + 1) count (omega (arith, low, apart)) (omega (arith, high)),
    )
  ]

  -- lines are counted link by link
  counted : (limit : ℕ) (lines : List Line) → AllByRecursion (IsBelow limit) lines → count_by p (flat_map message_in lines) ≡ sums (λ link. messages_on link lines) 0 limit
  counted limit [] below = sym (nothing 0 limit)
  counted limit (Sends link message ∷ lines) below =
      omega (
        arith,
        sum_by-cons (λ m. cond (p m) 1 0) message (flat_map message_in lines),
        one_within link message (λ other. messages_on other lines) 0 limit (omega arith) (omega (arith, below.0)),
        counted limit lines below.1,
      )
  counted limit (Halts link why ∷ lines) below = counted limit lines below.1
  counted limit (Finds link ∷ lines) below = counted limit lines below.1
  counted limit (Full count ∷ lines) below = counted limit lines below.1

  pub counted_sum : (limit : ℕ) (lines : List Line) → AllByRecursion (IsBelow limit) lines
      → count_by p (flat_map message_in lines) ≡ sum_by (λ link. count_by p (messages_on link lines)) (range_with_len 0 limit)
  unfolding sums
  counted_sum limit lines below = counted limit lines below

pub messages_counted : MessagesAreCounted
messages_counted limit lines below = (counted_sum is_confirm limit lines below, counted_sum is_indication limit lines below)

-- a number above all links of lines
limit_of : List Line → ℕ
limit_of [] = 0
limit_of (Sends link message ∷ lines) = link + 1 + limit_of lines
limit_of (Halts link why ∷ lines) = limit_of lines
limit_of (Finds link ∷ lines) = limit_of lines
limit_of (Full count ∷ lines) = limit_of lines

below_limit : (limit : ℕ) (lines : List Line) → limit_of lines ≤ limit → AllByRecursion (IsBelow limit) lines
unfolding limit_of
below_limit limit [] within = tt
below_limit limit (Sends link message ∷ lines) within = (omega (arith, within), below_limit limit lines (omega (arith, within)))
below_limit limit (Halts link why ∷ lines) within = (tt, below_limit limit lines within)
below_limit limit (Finds link ∷ lines) within = (tt, below_limit limit lines within)
below_limit limit (Full count ∷ lines) within = (tt, below_limit limit lines within)

module _ (a b : List Line) (same : (link : ℕ) → messages_on link a ≡ messages_on link b) where
  alike : (p : List ℕ → Bool) → count_by p (flat_map message_in a) ≡ count_by p (flat_map message_in b)
  alike p =
      counted_sum p (limit_of a + limit_of b) a (below_limit (limit_of a + limit_of b) a (omega arith))
      ∙ ap (λ f. sum_by f (range_with_len 0 (limit_of a + limit_of b))) (λ i. λ link. count_by p (same link i))
      ∙ sym (counted_sum p (limit_of a + limit_of b) b (below_limit (limit_of a + limit_of b) b (omega arith)))

  -- lines with the same messages on each link have the same counts
  pub same_counts : replies_in a ≡ replies_in b
  same_counts = same_replies (replies_in a) (replies_in b) (alike is_confirm) (alike is_indication)
