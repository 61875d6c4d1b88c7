-- What holds of a pump of output between two of its calls, and what each of them adds.
use Rattle.std.specs.Prelude.{◌≡◌, ℕ, ◌*◌, List, [], ◌∷◌, ◌++◌, Option, Some, None}
use mathlib.Core.List.{IsPrefix}
use Rattle.space_turn.specs.Sights.{HasSameHistory, HasCalled}
use Rattle.space_turn.specs.Causes.{IsFull}
use Rattle.space_turn.specs.declared.view.Entry.{Entry}
use Rattle.space_turn.specs.Histories.{calls_of, calls_by}
use Rattle.session_core.specs.Opened.{NoneTakes}
use Rattle.session_core.specs.Runs.{reply_to, taken}
use Rattle.session_core.specs.declared.call.Call.{Call}
use Rattle.session_core.specs.declared.call.Call.TheVariants.{Take, Lost}
use Rattle.session_core.specs.declared.call.Reply.{Reply}
use Rattle.session_core.specs.declared.call.Reply.TheVariants as reply
use Rattle.space_shared.specs.Exchanges.{SeatSight, Exchange, Makes}
use Rattle.space_shared.specs.Output.{Outlet, AreTakings, messages_in, GivesAll, PumpsOut, OnlySeatTakes, GivesWhatWasSent}
use Rattle.space_shared.specs.declared.ends.OutEnd.{OutEnd}
use Rattle.space_shared.specs.declared.ends.OutEnd.TheVariants.{Over, WriteFault, Worn}
use Rattle.space_shared.specs.declared.outgoing.Next.{Next}
use Rattle.space_shared.specs.declared.outgoing.Next.TheVariants as next

-- a look that found this word found no history that is full
abbrev pub IsNotFull : ℕ → Type 0
IsNotFull found = found ≡ 2 * 4611686018427387904 → ⊥

-- the link was asked for its next message, and this came
abbrev pub Asks : ℕ → SeatSight → Next → SeatSight → Type 0
Asks link old (next.Message message) new = HasCalled reply_to old (Take link) (reply.Message message) new × IsNotFull new.found
Asks link old next.Empty new = HasCalled reply_to old (Take link) reply.Empty new × IsNotFull new.found
Asks link old next.Over new = HasCalled reply_to old (Take link) reply.Over new × IsNotFull new.found
Asks link old (next.Worn count) new = HasSameHistory old new × IsFull count new.found

-- the space was told that the link is lost, unless the history is full
abbrev pub Loses : ℕ → SeatSight → OutEnd → SeatSight → Type 0
Loses link old Over new = ⊥
Loses link old WriteFault new = (answer : Reply) × HasCalled reply_to old (Lost link) answer new × IsNotFull new.found
Loses link old (Worn count) new = HasSameHistory old new × IsFull count new.found

-- where no other seat takes from the link, and this one took nothing from it before these exchanges, the messages in their replies are all that was taken from it up to the seat's last call
abbrev pub HasAllTaken : ℕ → SeatSight → List Exchange → SeatSight → Type 0
HasAllTaken link first said now = (history : List (Entry Call)) → IsPrefix now.seen history → now.mine ≡ calls_by now.number history
    → OnlySeatTakes link now.number history → NoneTakes link first.mine → taken now.root (calls_of history) link ≡ messages_in said

-- the link was asked for messages, and those that came were given
pub record Pumps (link : ℕ) (first : SeatSight) (old : Outlet) (said : List Exchange) (now : SeatSight) (new : Outlet) : Type 0 where
  pub makes : Makes first said now
  pub takings : AreTakings link said
  pub faults : new.faults ≡ old.faults
  pub given : GivesAll old new (messages_in said)
  pub taken : HasAllTaken link first said now

-- the pump ended
pub record IsPumped (link : ℕ) (first : SeatSight) (old new : Outlet) (end : OutEnd) (later : SeatSight) : Type 0 where
  pub pumped : PumpsOut link first old new end later
  pub sent : GivesWhatWasSent link first old new later

-- the link was asked for one message more, or the pump ended
abbrev pub PumpsOn : ℕ → SeatSight → Outlet → List Exchange → Option OutEnd → SeatSight → Outlet → Type 0
PumpsOn link first old said None now new = (one : Exchange) × Pumps link first old (said ++ one ∷ []) now new
PumpsOn link first old said (Some end) now new = IsPumped link first old new end now

-- the end says that the history is full exactly where the last look found that
abbrev pub EndsAt : OutEnd → ℕ → Type 0
EndsAt Over found = IsNotFull found
EndsAt WriteFault found = IsNotFull found
EndsAt (Worn count) found = IsFull count found
