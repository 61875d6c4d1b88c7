-- What a call of a pump of input does: a delivery, or the end of the link.
use Rattle.std.specs.Prelude.{◌≡◌, ◌⊎◌, ℕ, ◌*◌, Bool, true, false, Result, Ok, Err}
use Rattle.space_turn.specs.Sights.{HasSameHistory, HasCalled}
use Rattle.space_turn.specs.Histories.{calls_by}
use Rattle.ssap_shape.specs.declared.request.Arrived.{Arrived}
use Rattle.session_core.specs.Runs.{reply_to}
use Rattle.session_core.specs.declared.call.Call.TheVariants.{Deliver, End}
use Rattle.session_core.specs.declared.call.Reply.{Reply}
use Rattle.session_core.specs.declared.call.Reply.TheVariants as reply
use Rattle.space_shared.specs.Exchanges.{SeatSight}
use Rattle.space_shared.specs.Input.{IsDone}
use Rattle.space_shared.specs.declared.ends.InEnd.{InEnd}
use Rattle.space_shared.specs.declared.ends.InEnd.TheVariants.{Ended, Syntax, TooLong, Cut, NotRequest, Closed, ReadFault, Spent, Worn, NoMemory}

-- whether a call for a link that was opened was done, or found it closed
abbrev pub IsAnswered : Reply → Bool → Type 0
IsAnswered answer true = IsDone answer
IsAnswered answer false = answer ≡ reply.Closed

-- the seat knows its calls, and the last of them found so many in the history as it may have
abbrev pub FoundFull : ℕ → SeatSight → Type 0
FoundFull count seat = (seat.mine ≡ calls_by seat.number seat.seen) × (seat.found ≡ 2 * count) × (count ≡ 4611686018427387904)

-- or fewer
abbrev pub FoundRoom : SeatSight → Type 0
FoundRoom seat = (seat.mine ≡ calls_by seat.number seat.seen) × ((count : ℕ) → seat.found ≡ 2 * count → count ≡ 4611686018427387904 → ⊥)

-- what arrived was delivered to the open link, or found it closed, or was not delivered
abbrev pub Calls : ℕ → Arrived → SeatSight → Result (Unit {0}) InEnd → SeatSight → Type 0
Calls link arrived old (Ok done) new = (answer : Reply) × IsDone answer × HasCalled reply_to old (Deliver link arrived) answer new
Calls link arrived old (Err Ended) new = ⊥
Calls link arrived old (Err (Syntax place)) new = ⊥
Calls link arrived old (Err (TooLong start)) new = ⊥
Calls link arrived old (Err (Cut start)) new = ⊥
Calls link arrived old (Err (NotRequest start)) new = ⊥
Calls link arrived old (Err Closed) new = HasCalled reply_to old (Deliver link arrived) reply.Closed new × FoundRoom new
Calls link arrived old (Err ReadFault) new = ⊥
Calls link arrived old (Err Spent) new = ⊥
Calls link arrived old (Err (Worn count)) new = HasSameHistory old new × FoundFull count new
Calls link arrived old (Err NoMemory) new = HasSameHistory old new

-- a link whose input ended so was ended, or the history is worn
abbrev pub EndsLink : ℕ → InEnd → SeatSight → InEnd → SeatSight → Type 0
EndsLink link end old result new = ((result ≡ end) × (answer : Reply) × HasCalled reply_to old (End link) answer new)
    ⊎ ((count : ℕ) × (result ≡ Worn count) × HasSameHistory old new)
