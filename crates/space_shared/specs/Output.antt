-- What a pump of output does: it takes the messages that wait on a link, and writes them.
use Rattle.std.specs.Prelude.{◌≡◌, ◌⊎◌, ℕ, ◌≤◌, true, List, [], ◌∷◌, ◌++◌, flat_map, Option, ⊤}
use Rattle.std.specs.Io.KnownBytes.{Appends}
use Rattle.sib_io.specs.Causes.{Rose}
use Rattle.space_turn.specs.declared.view.Entry.{Entry}
use Rattle.space_turn.specs.Histories.{calls_of}
use Rattle.session_core.specs.Runs.{message_in, sent}
use Rattle.session_core.specs.Opened.{takes, NoneTakes}
use Rattle.session_core.specs.declared.call.Call.{Call}
use Rattle.session_core.specs.declared.call.Call.TheVariants.{Take, Lost}
use Rattle.session_core.specs.declared.call.Reply.{Reply}
use Rattle.session_core.specs.declared.call.Reply.TheVariants as reply
use Rattle.space_shared.specs.Exchanges.{SeatSight, Exchange, exchange, Makes}
use Rattle.space_shared.specs.declared.ends.OutEnd.{OutEnd}
use Rattle.space_shared.specs.declared.ends.OutEnd.TheVariants.{Over, WriteFault, Worn}

-- what is seen of a sink: what it was given, where it tells that, and its count of faults
pub record Outlet : Type 0 where
  pub given : Option (List ℕ)
  pub faults : ℕ

abbrev pub outlet : Option (List ℕ) → ℕ → Outlet
outlet given faults = record { given = given; faults = faults }

-- what a message is asked for with, while the link isn't over: it is given, or none waits
abbrev pub IsTaking : ℕ → Exchange → Type 0
IsTaking link one = (one.call ≡ Take link) × (((message : List ℕ) × (one.reply ≡ reply.Message message)) ⊎ (one.reply ≡ reply.Empty))

-- all of these exchanges ask the link for its next message
abbrev pub AreTakings : ℕ → List Exchange → Type 0
AreTakings link [] = ⊤
AreTakings link (one ∷ said) = IsTaking link one × AreTakings link said

-- the messages of the replies, in their order
abbrev pub messages_in : List Exchange → List (List ℕ)
messages_in said = flat_map (λ one. message_in one.reply) said

-- the bytes of messages, one behind another
abbrev pub joined : List (List ℕ) → List ℕ
joined messages = flat_map (λ message. message) messages

-- all of the messages were given
abbrev pub GivesAll : Outlet → Outlet → List (List ℕ) → Type 0
GivesAll old new messages = Appends old.given new.given (joined messages)

-- all of the messages but the last were given, and a prefix of that one
pub record GivesMost (old new : Outlet) (messages : List (List ℕ)) : Type 0 where
  pub whole : List (List ℕ)
  pub last : List ℕ
  pub part : List ℕ
  pub rest : List ℕ
  pub split : messages ≡ whole ++ last ∷ []
  pub cut : part ++ rest ≡ last
  pub given : Appends old.given new.given (joined whole ++ part)

-- what holds at each end, of the calls that were made
abbrev pub EndsSo : ℕ → Outlet → Outlet → List Exchange → OutEnd → Type 0
EndsSo link old new said Over = (old.faults ≤ new.faults) × (takings : List Exchange) × AreTakings link takings
    × (said ≡ takings ++ exchange (Take link) reply.Over ∷ []) × GivesAll old new (messages_in takings)
EndsSo link old new said WriteFault = Rose old.faults new.faults × (takings : List Exchange) × (answer : Reply) × AreTakings link takings
    × (said ≡ takings ++ exchange (Lost link) answer ∷ []) × (GivesAll old new (messages_in takings) ⊎ GivesMost old new (messages_in takings))
EndsSo link old new said (Worn count) = AreTakings link said
    × (((new.faults ≡ old.faults) × GivesAll old new (messages_in said))
    ⊎ (Rose old.faults new.faults × (GivesAll old new (messages_in said) ⊎ GivesMost old new (messages_in said))))

-- a pump of output made some calls, wrote what they gave, and ended so
pub record PumpsOut (link : ℕ) (seat : SeatSight) (old new : Outlet) (end : OutEnd) (later : SeatSight) : Type 0 where
  pub said : List Exchange
  pub makes : Makes seat said later
  pub ends : EndsSo link old new said end

-- in this history no other seat takes from the link
abbrev pub OnlySeatTakes : ℕ → ℕ → List (Entry Call) → Type 0
OnlySeatTakes link number [] = ⊤
OnlySeatTakes link number (entry ∷ history) = (takes link entry.call ≡ true → entry.seat ≡ number) × OnlySeatTakes link number history

-- Where no other seat takes from the link, and this one took nothing from it before, the bytes that the sink was given are a prefix of the messages that were sent on the link, one behind another.
abbrev pub GivesWhatWasSent : ℕ → SeatSight → Outlet → Outlet → SeatSight → Type 0
GivesWhatWasSent link seat old new later = OnlySeatTakes link seat.number later.seen → NoneTakes link seat.mine
    → (bytes : List ℕ) × (rest : List ℕ) × Appends old.given new.given bytes × (bytes ++ rest ≡ joined (sent seat.root (calls_of later.seen) link))

-- at the end of the link all that the sink was given has been handed on, unless a flush failed
abbrev pub HandsOn : OutEnd → Option (List ℕ) → Option (List ℕ) → ℕ → ℕ → Type 0
HandsOn Over given handed before now = (handed ≡ given) ⊎ Rose before now
HandsOn WriteFault given handed before now = ⊤
HandsOn (Worn count) given handed before now = ⊤
