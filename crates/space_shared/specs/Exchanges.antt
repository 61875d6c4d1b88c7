-- The calls that a seat of a shared space makes, with their replies.
use Rattle.std.specs.Prelude.{◌≡◌, ℕ, List, [], ◌∷◌, ◌++◌, map}
use mathlib.Core.List.{IsPrefix}
use Rattle.space_turn.specs.Sights.{Sight, IsSameSeat, HasSameHistory, HasCalled}
use Rattle.space_turn.specs.Histories.{calls_of}
use Rattle.session_core.specs.Runs.{reply_to}
use Rattle.session_core.specs.Opened.{IsOpened}
use Rattle.session_core.specs.declared.call.Call.{Call}
use Rattle.session_core.specs.declared.call.Reply.{Reply}

-- what a seat of a shared space shows
abbrev pub SeatSight : Type 0
SeatSight = Sight Call (List ℕ)

-- a call, and the reply to it
pub record Exchange : Type 0 where
  pub call : Call
  pub reply : Reply

abbrev pub exchange : Call → Reply → Exchange
exchange call reply = record { call = call; reply = reply }

-- the calls of exchanges
abbrev pub calls_in : List Exchange → List Call
calls_in said = map (λ one. one.call) said

-- A seat made these calls, one after another, and no other, each with the reply that is due to it at its place in the one history. Calls of other seats may stand between them.
abbrev pub Makes : SeatSight → List Exchange → SeatSight → Type 0
Makes old [] new = IsSameSeat old new × HasSameHistory old new
Makes old (one ∷ more) new = (now : SeatSight) × IsSameSeat old now × HasCalled reply_to old one.call one.reply now × Makes now more new

-- the link was opened in what the seat has seen
abbrev pub HasOpened : SeatSight → ℕ → Type 0
HasOpened seat link = IsOpened seat.root (calls_of seat.seen) link

-- the calls that a seat made are its own, behind those that it had made
abbrev pub CallsAreMine : Type 0
CallsAreMine = (old new : SeatSight) (said : List Exchange) → Makes old said new → new.mine ≡ old.mine ++ calls_in said

-- what a seat has seen grows as it makes calls
abbrev pub SeenGrows : Type 0
SeenGrows = (old new : SeatSight) (said : List Exchange) → Makes old said new → IsPrefix old.seen new.seen
