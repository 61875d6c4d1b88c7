-- What the answer to a call says of the history.
use Rattle.std.proofs.Common.{◌≡◌, ◌∙◌, ap, sym, refl, subst, ℕ, ◌*◌, Result, Ok, Err, true, false}
use Rattle.space_turn.specs.Histories.{calls_by}
use Rattle.space_turn.specs.declared.faults.CallFault.{CallFault}
use Rattle.space_turn.specs.declared.faults.CallFault.TheVariants as fault
use Rattle.space_shared.specs.Exchanges.{SeatSight}
use Rattle.space_shared.specs.Listening.{wants_end, FoundLast}
use Rattle.space_shared.specs.declared.ends.InEnd.{InEnd}
use Rattle.space_shared.specs.declared.ends.InEnd.TheVariants.{Ended, Syntax, TooLong, Cut, NotRequest, Closed, ReadFault, Spent, Worn, NoMemory}

-- the history is full exactly where it is said to be worn
abbrev pub SaysWorn : {R : Type 0} → Result R CallFault → ℕ → Type 0
SaysWorn result found = (count : ℕ) → (result ≡ Err (fault.Worn count) → (found ≡ 2 * count) × (count ≡ 4611686018427387904))
    × ((found ≡ 2 * count) × (count ≡ 4611686018427387904) → result ≡ Err (fault.Worn count))

-- a call that was made found room
pub made_in_room : {R : Type 0} (reply : R) (found : ℕ) → SaysWorn (Ok reply) found → (count : ℕ) → found ≡ 2 * count → count ≡ 4611686018427387904 → ⊥
made_in_room reply found says count is full = absurd (other reply (fault.Worn count) ((says count).1 (is, full)))
  where
    other : {R : Type 0} (reply : R) (why : CallFault) → ◌≡◌ {A = Result R CallFault} (Ok reply) (Err why) → ⊥
    other reply why e = cc

-- a link that is to be ended did not end as worn
wanted_not_worn : (end : InEnd) (count : ℕ) → wants_end end ≡ true → end ≡ Worn count → ⊥
wanted_not_worn end count wanted is = worn count (sym (ap wants_end is) ∙ wanted)
  where
    worn : (count : ℕ) → wants_end (Worn count) ≡ true → ⊥
    worn count e = cc

-- an end that was made is not worn
pub ended_in_room : {R : Type 0} (reply : R) (end : InEnd) (found : ℕ) → wants_end end ≡ true → SaysWorn (Ok reply) found
    → (count : ℕ) → (end ≡ Worn count → (found ≡ 2 * count) × (count ≡ 4611686018427387904)) × ((found ≡ 2 * count) × (count ≡ 4611686018427387904) → end ≡ Worn count)
ended_in_room reply end found wanted says count = (
  λ is. absurd (wanted_not_worn end count wanted is),
  λ full. absurd (made_in_room reply found says count full.0 full.1),
)

worn_same : (a b : ℕ) → Worn a ≡ Worn b → a ≡ b
worn_same a b e = cc

module _ {R : Type 0} (result : Result R CallFault) (why : CallFault) (at found : ℕ) (is : result ≡ Err why) (names : why ≡ fault.Worn at) (says : SaysWorn result found) where
  says_at : SaysWorn {R = R} (Err (fault.Worn at)) found
  says_at = subst (λ r. SaysWorn r found) (is ∙ ap (λ f. Err f) names) says

  -- a call that was not made since the history is full says so
  pub worn_full : (found ≡ 2 * at) × (at ≡ 4611686018427387904)
  worn_full = (says_at at).0 refl

  pub worn_says : (count : ℕ) → (Worn at ≡ Worn count → (found ≡ 2 * count) × (count ≡ 4611686018427387904))
      × ((found ≡ 2 * count) × (count ≡ 4611686018427387904) → Worn at ≡ Worn count)
  worn_says count = (
    λ same. (says_at count).0 (ap (λ n. Err (fault.Worn n)) (worn_same at count same)),
    λ full. ap (λ n. Worn n) (faults_same at count ((says_at count).1 full)),
  )
    where
      faults_same : (a b : ℕ) → ◌≡◌ {A = Result R CallFault} (Err (fault.Worn a)) (Err (fault.Worn b)) → a ≡ b
      faults_same a b e = cc

-- a link that is not to be ended is worn exactly where the history was found full
pub heard_says : (end : InEnd) (seat : SeatSight) → wants_end end ≡ false → FoundLast end seat
    → (count : ℕ) → (end ≡ Worn count → (seat.found ≡ 2 * count) × (count ≡ 4611686018427387904))
    × ((seat.found ≡ 2 * count) × (count ≡ 4611686018427387904) → end ≡ Worn count)
heard_says Ended seat un found = absurd (cc)
heard_says (Syntax place) seat un found = absurd (cc)
heard_says (TooLong start) seat un found = absurd (cc)
heard_says (Cut start) seat un found = absurd (cc)
heard_says (NotRequest start) seat un found = absurd (cc)
heard_says ReadFault seat un found = absurd (cc)
heard_says Spent seat un found = absurd (cc)
heard_says NoMemory seat un found = absurd (cc)
heard_says Closed seat un (own, room) = λ count. (λ is. absurd (other count is), λ full. absurd (room count full.0 full.1))
  where
    other : (count : ℕ) → Closed ≡ Worn count → ⊥
    other count e = cc
heard_says (Worn at) seat un (own, found, full) = λ count. (
  λ is. let same = worn_same at count is in (found ∙ ap (λ n. 2 * n) same, sym same ∙ full),
  λ is. ap (λ n. Worn n) (full ∙ sym is.1),
)

-- and its seat knows its calls
pub heard_own : (end : InEnd) (seat : SeatSight) → wants_end end ≡ false → FoundLast end seat → seat.mine ≡ calls_by seat.number seat.seen
heard_own Ended seat un found = absurd (cc)
heard_own (Syntax place) seat un found = absurd (cc)
heard_own (TooLong start) seat un found = absurd (cc)
heard_own (Cut start) seat un found = absurd (cc)
heard_own (NotRequest start) seat un found = absurd (cc)
heard_own ReadFault seat un found = absurd (cc)
heard_own Spent seat un found = absurd (cc)
heard_own NoMemory seat un found = absurd (cc)
heard_own Closed seat un found = found.0
heard_own (Worn at) seat un found = found.0
