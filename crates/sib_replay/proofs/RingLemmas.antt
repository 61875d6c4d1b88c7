-- One link of a ring after another.
use Rattle.std.proofs.Common.{◌≡◌, ◌∙◌, ap, sym, arith, ℕ, zero, suc, ◌+◌, ◌<◌, List, [], ◌∷◌, ◌++◌, length, drop, Option, Some, None}
use Rattle.std.specs.List.{slice_get, flat_map}
use Rattle.session_core.specs.Space.{Space}
use Rattle.session_core.specs.Runs.{run_from}
use Rattle.session_core.specs.Reads.{costs}
use Rattle.sib_replay.specs.Output.{takes, link_lines}
use Rattle.sib_replay.specs.Session.{AreRising}
use Rattle.sib_replay.specs.declared.why.Why.{Why}
use Rattle.sib_replay.proofs.LinkLemmas.{none_some, some_same, rising_from}
use Rattle.sib_replay.proofs.TakeLemmas.{run_from-append, costs-append, all_of, takes_still, lines_still}

-- an item, and those behind it
pub drop_get : {A : Type 0} (xs : List A) (i : ℕ) (x : A) → slice_get xs i ≡ Some x → drop i xs ≡ x ∷ drop (i + 1) xs
drop_get [] i x h = absurd (none_some x h)
drop_get (y ∷ xs) zero x h = ap (λ z. z ∷ xs) (some_same y x h)
drop_get (y ∷ xs) (suc i) x h = drop_get xs i x h ∙ ap (λ n. x ∷ drop n (y ∷ xs)) (more i)
  where
    more : (n : ℕ) → suc (n + 1) ≡ suc n + 1
    more n = omega arith

-- nothing is behind the last item
pub get_within : {A : Type 0} (xs : List A) (i : ℕ) → i < length xs → ◌≡◌ {A = Option A} (slice_get xs i) None → ⊥
get_within [] i h e = omega (arith, h)
get_within (x ∷ xs) zero h e = none_some x (sym e)
get_within (x ∷ xs) (suc i) h e = get_within xs i (omega (arith, h)) e

module _ (space next : Space) (link : ℕ) (ring : List ℕ) (rises : AreRising 1 (link ∷ ring)) (is : next ≡ run_from space (all_of space link)) where
  -- the others rise too
  pub ring_others : AreRising 1 ring
  ring_others = rising_from 1 (link + 1) ring (omega (arith, rises.0)) rises.1

  -- what waits on the others
  others_wait : takes space ring ≡ takes next ring
  others_wait = sym (takes_still space link ring rises.1) ∙ ap (λ s. takes s ring) (sym is)

  -- what waits on the first link is taken, and then what waits on the others
  pub ring_runs : run_from next (takes next ring) ≡ run_from space (takes space (link ∷ ring))
  ring_runs = ap (λ s. run_from s (takes next ring)) is ∙ ap (run_from (run_from space (all_of space link))) (sym others_wait) ∙ sym (run_from-append space (all_of space link) (takes space ring))

  -- so many rows are read
  pub ring_costs : costs space (all_of space link) + costs next (takes next ring) ≡ costs space (takes space (link ∷ ring))
  ring_costs =
      ap (λ s. costs space (all_of space link) + costs s (takes next ring)) is ∙ ap (λ l. costs space (all_of space link) + costs (run_from space (all_of space link)) l) (sym others_wait)
      ∙ sym (costs-append space (all_of space link) (takes space ring))

  -- and it is written so
  pub ring_writes : (reason : ℕ → Option Why) → link_lines space reason link ++ flat_map (link_lines next reason) ring ≡ flat_map (link_lines space reason) (link ∷ ring)
  ring_writes reason =
      ap (λ s. link_lines space reason link ++ flat_map (link_lines s reason) ring) is
      ∙ ap (λ l. link_lines space reason link ++ l) (lines_still space link reason ring rises.1)
