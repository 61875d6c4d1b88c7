-- Pairs whose numbers rise: which key stands with a number, and what a change leaves.
use Rattle.std.proofs.Common.{◌≡◌, ◌≢◌, ℕ, zero, suc, ◌+◌, ◌<◌, ◌≤◌, true, false, List, [], ◌∷◌, ◌++◌, length, get_or, Option, Some, None, IsSome, Result, Ok, Err, refl, sym, ap, inl, inr, arith, if◌then◌else◌, eqb}
use Rattle.std.specs.List.{All, remove}
use Rattle.std.specs.List.Sorted.{IsSearchInRange, IsBinarySearchResult, IsNonDecreasingBy}
use Rattle.std.specs.Result.{result_ok}
use Rattle.std.specs.Ordering.{nat_cmp, ordering_index}
use Rattle.std.proofs.lemmas.Cmp.{ranked}
use Rattle.std.proofs.lemmas.List.Sorted.{IsNonDecreasingBy-from_default}
use Rattle.std.proofs.lemmas.Bool.{eq-eqb, ne_eqb, cases_eq}
use Rattle.std.proofs.lemmas.Bool.Decides.{nat_tests}
use Rattle.link_table.specs.Index.{RiseFrom, key_of, without, StandsAt}

-- the number of the pair at a place
abbrev number_at : List (ℕ × ℕ) → ℕ → ℕ
number_at pairs place = (get_or pairs place (0, 0)).0

-- numbers that rise from one rise from a smaller one
RiseFrom-less : (pairs : List (ℕ × ℕ)) (least less : ℕ) → less ≤ least → RiseFrom least pairs → RiseFrom less pairs
RiseFrom-less [] least less within rise = tt
RiseFrom-less (pair ∷ pairs) least less within rise = (omega (arith, rise.0), rise.1)

-- each number is at least the least
number_at-least : (pairs : List (ℕ × ℕ)) (least place : ℕ) → RiseFrom least pairs → place < length pairs → least ≤ number_at pairs place
number_at-least [] least place rise within = absurd (omega arith)
number_at-least (pair ∷ pairs) least zero rise within = rise.0
number_at-least (pair ∷ pairs) least (suc place) rise within = omega (arith, rise.0, number_at-least pairs (pair.0 + 1) place rise.1 (omega arith))

-- a number is at most those that come after it
number_at-rises : (pairs : List (ℕ × ℕ)) (least early late : ℕ) → RiseFrom least pairs → early ≤ late → late < length pairs → number_at pairs early ≤ number_at pairs late
number_at-rises [] least early late rise order within = absurd (omega arith)
number_at-rises (pair ∷ pairs) least zero zero rise order within = omega arith
number_at-rises (pair ∷ pairs) least zero (suc late) rise order within = omega (arith, number_at-least pairs (pair.0 + 1) late rise.1 (omega arith))
number_at-rises (pair ∷ pairs) least (suc early) zero rise order within = absurd (omega arith)
number_at-rises (pair ∷ pairs) least (suc early) (suc late) rise order within = number_at-rises pairs (pair.0 + 1) early late rise.1 (omega arith) (omega arith)

-- no key stands with a number that no pair has
key_of-absent : (pairs : List (ℕ × ℕ)) (number : ℕ) → ((place : ℕ) → place < length pairs → number_at pairs place ≢ number) → key_of pairs number ≡ None
key_of-absent [] number absent = refl
key_of-absent (pair ∷ pairs) number absent =
    let differs = ne_eqb pair.0 number (absent 0 (omega arith)) in
    rw differs (key_of-absent pairs number (λ place within. absent (suc place) (omega arith)))

-- no key stands with a number below the least
pub key_of-below : (pairs : List (ℕ × ℕ)) (least number : ℕ) → RiseFrom least pairs → number < least → key_of pairs number ≡ None
key_of-below pairs least number rise below = key_of-absent pairs number (λ place within same. omega (arith, number_at-least pairs least place rise within))

-- the key of a number is the one in its pair
pub key_of-at : (pairs : List (ℕ × ℕ)) (least number place : ℕ) → RiseFrom least pairs → place < length pairs → number_at pairs place ≡ number → key_of pairs number ≡ Some (get_or pairs place (0, 0)).1
key_of-at [] least number place rise within has = absurd (omega arith)
key_of-at (pair ∷ pairs) least number zero rise within has = rw (eq-eqb pair.0 number has) refl
key_of-at (pair ∷ pairs) least number (suc place) rise within has =
    let later : place < length pairs = omega arith in
    let above = number_at-least pairs (pair.0 + 1) place rise.1 later in
    rw (ne_eqb pair.0 number (λ same. omega (arith, above, has))) (key_of-at pairs (pair.0 + 1) number place rise.1 later has)

-- what a binary search by number finds
module _ (pairs : List (ℕ × ℕ)) (rise : RiseFrom 1 pairs) (number : ℕ) where
  orders_rise : IsNonDecreasingBy (λ pair. ordering_index (nat_cmp pair.0 number)) pairs
  orders_rise = IsNonDecreasingBy-from_default (λ pair. ordering_index (nat_cmp pair.0 number)) pairs (0, 0) (λ early late order within.
      let rises = number_at-rises pairs 1 early late rise order within in
      grind (arith, nat_tests))

  pub searched : (result : Result ℕ ℕ) → IsSearchInRange result (length pairs) → IsBinarySearchResult (λ pair. nat_cmp pair.0 number) pairs result → StandsAt pairs number (result_ok result)
  searched (Ok place) within equal = (within, ranked _ number _ (sym (equal (0, 0))))
  searched (Err gap) within parted =
      let (below, above) = parted orders_rise in
      key_of-absent pairs number (λ place inside same. grind (arith, nat_tests, below place (0, 0), above place (0, 0)))

-- the pairs without a number that is below the least are the same
without-below : (pairs : List (ℕ × ℕ)) (least number : ℕ) → RiseFrom least pairs → number < least → without pairs number ≡ pairs
without-below [] least number rise below = refl
without-below (pair ∷ pairs) least number rise below =
    rw (ne_eqb pair.0 number (λ same. omega (arith, rise.0))) (ap (λ rest. pair ∷ rest) (without-below pairs (pair.0 + 1) number rise.1 (omega (arith, rise.0))))

-- the pair of a number is the only one that goes
pub without-at : (pairs : List (ℕ × ℕ)) (least number place : ℕ) → RiseFrom least pairs → place < length pairs → number_at pairs place ≡ number → remove pairs place ≡ without pairs number
without-at [] least number place rise within has = absurd (omega arith)
without-at (pair ∷ pairs) least number zero rise within has =
    rw (eq-eqb pair.0 number has) (sym (without-below pairs (pair.0 + 1) number rise.1 (omega (arith, has))))
without-at (pair ∷ pairs) least number (suc place) rise within has =
    let later : place < length pairs = omega arith in
    let above = number_at-least pairs (pair.0 + 1) place rise.1 later in
    rw (ne_eqb pair.0 number (λ same. omega (arith, above, has))) (ap (λ rest. pair ∷ rest) (without-at pairs (pair.0 + 1) number place rise.1 later has))

-- without a number that is not there nothing changes
pub without-absent : (pairs : List (ℕ × ℕ)) (number : ℕ) → key_of pairs number ≡ None → without pairs number ≡ pairs
without-absent [] number absent = refl
without-absent (pair ∷ pairs) number absent = elim (cases_eq pair.0 number) [
  | inl same ↦ absurd (cc (rw (eq-eqb pair.0 number same) at absent))
  | inr differs ↦
      let test = ne_eqb pair.0 number differs in
      rw test (ap (λ rest. pair ∷ rest) (without-absent pairs number (rw test at absent)))
]

-- what is left rises
pub RiseFrom-without : (pairs : List (ℕ × ℕ)) (least number : ℕ) → RiseFrom least pairs → RiseFrom least (without pairs number)
RiseFrom-without [] least number rise = tt
RiseFrom-without (pair ∷ pairs) least number rise = elim (cases_eq pair.0 number) [
  | inl same ↦ rw (eq-eqb pair.0 number same) (RiseFrom-less (without pairs number) (pair.0 + 1) least (omega (arith, rise.0)) (RiseFrom-without pairs (pair.0 + 1) number rise.1))
  | inr differs ↦ rw (ne_eqb pair.0 number differs) (rise.0, RiseFrom-without pairs (pair.0 + 1) number rise.1)
]

-- with a greater number at the end the numbers rise
pub RiseFrom-push : (pairs : List (ℕ × ℕ)) (least number key : ℕ) → RiseFrom least pairs → least ≤ number → All (λ pair. pair.0 < number) pairs → RiseFrom least (pairs ++ (number, key) ∷ [])
RiseFrom-push [] least number key rise enough all = (enough, tt)
RiseFrom-push (pair ∷ pairs) least number key rise enough all =
    (rise.0, RiseFrom-push pairs (pair.0 + 1) number key rise.1 (omega (arith, all 0 (0, 0))) (λ place other within. all (suc place) other (omega arith)))

-- of the numbers that are left each keeps its key
pub key_of-without : (pairs : List (ℕ × ℕ)) (number other : ℕ) → key_of (without pairs number) other ≡ (if eqb other number then None else key_of pairs other)
key_of-without [] number other = elim (eqb other number) as (λ same. ◌≡◌ {A = Option ℕ} None (if same then None else None)) [ true ↦ refl | false ↦ refl ]
key_of-without (pair ∷ pairs) number other = grind (arith, nat_tests, key_of-without pairs number other)

-- a number at the end has its key, where it was not there
pub key_of-pushed : (pairs : List (ℕ × ℕ)) (number key : ℕ) → key_of pairs number ≡ None → key_of (pairs ++ (number, key) ∷ []) number ≡ Some key
key_of-pushed [] number key absent = rw (eq-eqb number number refl) refl
key_of-pushed (pair ∷ pairs) number key absent = elim (cases_eq pair.0 number) [
  | inl same ↦ absurd (cc (rw (eq-eqb pair.0 number same) at absent))
  | inr differs ↦ let test = ne_eqb pair.0 number differs in rw test (key_of-pushed pairs number key (rw test at absent))
]

-- and the others keep theirs
pub key_of-push : (pairs : List (ℕ × ℕ)) (number key other : ℕ) → other ≢ number → key_of (pairs ++ (number, key) ∷ []) other ≡ key_of pairs other
key_of-push [] number key other differs = grind (arith, nat_tests)
key_of-push (pair ∷ pairs) number key other differs = grind (arith, nat_tests, key_of-push pairs number key other differs)

-- a number that stands in a pair has a key
pub key_of-there : (pairs : List (ℕ × ℕ)) (place : ℕ) → place < length pairs → IsSome (key_of pairs (number_at pairs place))
key_of-there [] place within = absurd (omega arith)
key_of-there (pair ∷ pairs) zero within = rw (eq-eqb pair.0 pair.0 refl) refl
key_of-there (pair ∷ pairs) (suc place) within = grind (arith, nat_tests, key_of-there pairs place (omega arith))
