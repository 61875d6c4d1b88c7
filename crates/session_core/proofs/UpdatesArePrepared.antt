-- What an update comes to is prepared for entries, one after another.
use Rattle.std.proofs.Common.{◌≡◌, ◌≤◌, ◌<◌, ◌+◌, ℕ, Bool, true, false, List, [], ◌∷◌, ◌++◌, length, get_or, take, drop, sum_by, Option, Some, None, refl, sym, ap, subst, ◌∙◌, arith}
use Rattle.std.proofs.lemmas.List.{take_more, take-append-drop}
use Rattle.std.proofs.lemmas.List.Sums.{sum_by-append}
use Rattle.delta_eval.specs.Standing.{Changes}
use Rattle.link_table.specs.Links.{Link}
use Rattle.session_core.specs.Numbers.{Numbers, graph_of}
use Rattle.session_core.specs.Subscriptions.{Subscription}
use Rattle.session_core.specs.Entries.{subscription_of, is_living, living, IsSameEntry, IsDue, IsNext, IsStepNext, IsReady, IsPassed}
use Rattle.session_core.specs.declared.entry.Entry.{Entry}
use Rattle.session_core.specs.declared.entry.Due.{Due}
use Rattle.session_core.specs.declared.entry.Due.TheVariants.{Nothing}
use Rattle.session_core.specs.declared.watch.Watch.{Watch}
use Rattle.session_core.proofs.Halfway.{Halfway, halfway_item}
use Rattle.session_core.proofs.RoomIsMade.{entry_with}

-- the step that leads to some numbers is one for the watch
pub step_for : (numbers : Numbers) (watch : Watch) (next : Option Changes) (due : Due) → IsNext numbers watch next due → IsStepNext watch next
step_for numbers watch (Some step) due h = h.step_of
step_for numbers watch None due h = tt

module _ (links : List Link) (before after : Numbers) (name : List ℕ) (old new : Entry) where
  -- an entry for which what is due and the step were prepared is ready
  pub ready_living : IsSameEntry old new → IsDue (graph_of before) (graph_of after) name (subscription_of old) new.due → IsNext after new.watch new.next new.due
      → IsReady links before after name old new
  ready_living same due next = record { same = same; due = λ lives. due; next = λ lives. next; step = step_for after new.watch new.next new.due next }

  -- and one that does not live, for which nothing is prepared
  pub ready_passed : is_living links old ≡ false → IsPassed old new → IsReady links before after name old new
  ready_passed gone passed = subst (IsReady links before after name old) (sym passed) (record {
    same = entry_with old None Nothing;
    due = λ lives. absurd (never lives);
    next = λ lives. absurd (never lives);
    step = tt;
  })
    where
      never : is_living links old ≡ true → ⊥
      never lives = let both : true ≡ false = sym lives ∙ gone in cc

module _ (links : List Link) where
  one_more : (x : Entry) (xs ys : List Entry) (lives : Bool) → is_living links x ≡ lives → living links (xs ++ ys) ≡ living links xs ++ living links ys
      → living links (x ∷ xs ++ ys) ≡ living links (x ∷ xs) ++ living links ys
  one_more x xs ys true e rest = rw e (ap (λ l. subscription_of x ∷ l) rest)
  one_more x xs ys false e rest = rw e rest

  -- the living entries of two lists, one behind the other
  pub living-append : (xs ys : List Entry) → living links (xs ++ ys) ≡ living links xs ++ living links ys
  living-append [] ys = refl
  living-append (x ∷ xs) ys = one_more x xs ys (is_living links x) refl (living-append xs ys)

  module _ (cost : Subscription → ℕ) where
    costs-append : (xs ys : List Entry) → sum_by cost (living links (xs ++ ys)) ≡ sum_by cost (living links xs) + sum_by cost (living links ys)
    costs-append xs ys = ap (sum_by cost) (living-append xs ys) ∙ sum_by-append cost (living links xs) (living links ys)

    -- what the first entries cost is no more than what all of them do
    pub costs_within : (n : ℕ) (entries : List Entry) → sum_by cost (living links (take n entries)) ≤ sum_by cost (living links entries)
    costs_within n entries =
        let all = ap (λ l. sum_by cost (living links l)) (take-append-drop n entries) in
        let parts = costs-append (take n entries) (drop n entries) in
        omega (arith, all, parts)

    module _ (R : Entry → Entry → Type 0) (given new : List Entry) (n : ℕ) (x : Entry) (within : n < length given) (half : Halfway R n given new) where
      item : get_or new n x ≡ get_or given n x
      item = halfway_item R n given new x half

      more : sum_by cost (living links (take (n + 1) given)) ≡ sum_by cost (living links (take n given)) + sum_by cost (living links (get_or given n x ∷ []))
      more = ap (λ l. sum_by cost (living links l)) (take_more given n x within) ∙ costs-append (take n given) (get_or given n x ∷ [])

      one_yes : (entry : Entry) → is_living links entry ≡ true → sum_by cost (living links (entry ∷ [])) ≡ cost (subscription_of entry)
      one_yes entry lives = rw lives (omega arith)

      one_no : (entry : Entry) → is_living links entry ≡ false → sum_by cost (living links (entry ∷ [])) ≡ 0
      one_no entry gone = rw gone refl

      -- one more that lives costs what it reads
      pub costs_living : (initial steps now : ℕ) → is_living links (get_or new n x) ≡ true → steps ≤ initial + sum_by cost (living links (take n given))
          → now ≤ steps + cost (subscription_of (get_or new n x)) → now ≤ initial + sum_by cost (living links (take (n + 1) given))
      costs_living initial steps now lives before read =
          let same = one_yes (get_or given n x) (subst (λ entry. is_living links entry ≡ true) item lives) in
          let taken = ap (λ entry. cost (subscription_of entry)) item in
          let all = more in
          omega (arith, same, taken, all)

      -- and one that does not live costs nothing
      pub costs_passed : (initial steps : ℕ) → is_living links (get_or new n x) ≡ false → steps ≤ initial + sum_by cost (living links (take n given))
          → steps ≤ initial + sum_by cost (living links (take (n + 1) given))
      costs_passed initial steps gone before =
          let none = one_no (get_or given n x) (subst (λ entry. is_living links entry ≡ false) item gone) in
          let all = more in
          omega (arith, none, all)
