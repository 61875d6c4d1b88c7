-- What asking for a link does, beginning its jobs, and giving up a link whose jobs did not both begin.
use Rattle.std.specs.Prelude.{◌≡◌, ℕ, List, [], ◌∷◌, Option, Some, None, Result, Ok, Err}
use Rattle.atomic_table.specs.Seated.{TableId}
use Rattle.sib_io.specs.Causes.{Rose}
use Rattle.sib_io.specs.Connections.{Added}
use Rattle.space_turn.specs.Sights.{IsSameSeat, HasSameHistory, HasCalled}
use Rattle.session_core.specs.Runs.{reply_to}
use Rattle.session_core.specs.declared.call.Call.TheVariants.{NewLink, Lost}
use Rattle.session_core.specs.declared.call.Reply.{Reply}
use Rattle.session_core.specs.declared.call.Reply.TheVariants as reply
use Rattle.space_shared.specs.Exchanges.{SeatSight}
use Rattle.serve_links.specs.Serving.{JobSight, input_job, output_job, AreSome, HasRoom, WornExactly}
use Rattle.serve_links.specs.declared.serve.StartFault.{StartFault}
use Rattle.serve_links.specs.declared.serve.StartFault.TheVariants.{Refused, NoMemory}
use Rattle.serve_links.specs.declared.served.ServeEnd.{ServeEnd}
use Rattle.serve_links.specs.declared.served.ServeEnd.TheVariants as end

-- the number of the link that opened, if a reply tells one
abbrev pub opened_link : Reply → Option ℕ
opened_link (reply.Opened link) = Some link
opened_link (reply.TooManyLinks count) = None
opened_link (reply.Done ring) = None
opened_link reply.Closed = None
opened_link reply.NoLink = None
opened_link (reply.Message message) = None
opened_link reply.Empty = None
opened_link reply.Over = None

-- a link was asked for, and it opened or did not; or no call was made, out of memory or since the history is worn
abbrev pub AsksLink : SeatSight → Result (Option ℕ) ServeEnd → SeatSight → Type 0
AsksLink old (Ok found) new = (answer : Reply) × HasCalled reply_to old NewLink answer new × (found ≡ opened_link answer) × HasRoom new.found
AsksLink old (Err end.Ended) new = ⊥
AsksLink old (Err end.AcceptFault) new = ⊥
AsksLink old (Err end.NoThread) new = ⊥
AsksLink old (Err (end.Worn count)) new = HasSameHistory old new × WornExactly (end.Worn count) new.found
AsksLink old (Err end.NoMemory) new = HasSameHistory old new × HasRoom new.found

-- both jobs of a link began; or the spawner refused one of them, so the others did not begin; or none did, out of memory
abbrev pub StartsBoth : {T I O : Type 0} → TableId → ℕ → I × O → Option (List (JobSight I O)) → Option (List (JobSight I O)) → ℕ → ℕ → Result T StartFault → Type 0
StartsBoth turn link connection old new before now (Ok value) = (now ≡ before)
    × Added old new (input_job turn link connection ∷ output_job turn link connection ∷ [])
StartsBoth {T} {I} {O} turn link connection old new before now (Err Refused) = Rose before now
    × (some : List (JobSight I O)) × AreSome turn link connection some × Added old new some
StartsBoth turn link connection old new before now (Err NoMemory) = (now ≡ before) × Added old new []

-- the space was told that the link is lost, or its history is worn
abbrev pub Loses : ℕ → SeatSight → ServeEnd → SeatSight → Type 0
Loses link old end.Ended new = ⊥
Loses link old end.AcceptFault new = ⊥
Loses link old end.NoThread new = IsSameSeat old new × (answer : Reply) × HasCalled reply_to old (Lost link) answer new × WornExactly end.NoThread new.found
Loses link old (end.Worn count) new = IsSameSeat old new × HasSameHistory old new × WornExactly (end.Worn count) new.found
Loses link old end.NoMemory new = ⊥
