-- Links that were opened: they stay so, and which replies come of calls on them.
use Rattle.std.specs.Prelude.{◌≡◌, ℕ, Bool, true, false, ◌==◌, List, [], ◌∷◌, ◌++◌, ⊤}
use Rattle.link_table.specs.Links.{state_of}
use Rattle.link_table.specs.declared.state.LinkState.{LinkState}
use Rattle.link_table.specs.declared.state.LinkState.TheVariants.{Never, Open, Ended, Overrun, Gone}
use Rattle.session_core.specs.Runs.{run, reply_to}
use Rattle.session_core.specs.declared.call.Call.{Call}
use Rattle.session_core.specs.declared.call.Call.TheVariants as call
use Rattle.session_core.specs.declared.call.Reply.{Reply}
use Rattle.session_core.specs.declared.call.Reply.TheVariants.{Opened, TooManyLinks, Done, Closed, NoLink, Message, Empty, Over}

-- a link in this state was opened once
abbrev pub was_opened : LinkState → Bool
was_opened Never = false
was_opened Open = true
was_opened Ended = true
was_opened Overrun = true
was_opened Gone = true

-- the link was opened in a history of the space of this name
abbrev pub IsOpened : List ℕ → List Call → ℕ → Type 0
IsOpened name history link = was_opened (state_of (run name history).links link) ≡ true

-- a link that was opened stays so, whatever follows
abbrev pub OpenedStays : Type 0
OpenedStays = (name : List ℕ) (history more : List Call) (link : ℕ) → IsOpened name history link → IsOpened name (history ++ more) link

-- a link whose number was told was opened
abbrev pub OpenedIsOpened : Type 0
OpenedIsOpened = (name : List ℕ) (history : List Call) (link : ℕ) → reply_to name history call.NewLink ≡ Opened link → IsOpened name (history ++ call.NewLink ∷ []) link

-- the reply to a call that asks for a link: its number, or that too many count
abbrev pub SuitsNewLink : Reply → Type 0
SuitsNewLink (Opened link) = ⊤
SuitsNewLink (TooManyLinks count) = ⊤
SuitsNewLink (Done ring) = ⊥
SuitsNewLink Closed = ⊥
SuitsNewLink NoLink = ⊥
SuitsNewLink (Message message) = ⊥
SuitsNewLink Empty = ⊥
SuitsNewLink Over = ⊥

-- the reply to what is for an open link, where the link was opened: it was done, or the link is closed
abbrev pub SuitsOpen : Reply → Type 0
SuitsOpen (Opened link) = ⊥
SuitsOpen (TooManyLinks count) = ⊥
SuitsOpen (Done ring) = ⊤
SuitsOpen Closed = ⊤
SuitsOpen NoLink = ⊥
SuitsOpen (Message message) = ⊥
SuitsOpen Empty = ⊥
SuitsOpen Over = ⊥

-- the reply to what is for any link that was opened: it was done
abbrev pub SuitsLost : Reply → Type 0
SuitsLost (Opened link) = ⊥
SuitsLost (TooManyLinks count) = ⊥
SuitsLost (Done ring) = ⊤
SuitsLost Closed = ⊥
SuitsLost NoLink = ⊥
SuitsLost (Message message) = ⊥
SuitsLost Empty = ⊥
SuitsLost Over = ⊥

-- the reply to a call that takes a message from a link that was opened: the message, or that none waits, or that none will
abbrev pub SuitsTake : Reply → Type 0
SuitsTake (Opened link) = ⊥
SuitsTake (TooManyLinks count) = ⊥
SuitsTake (Done ring) = ⊥
SuitsTake Closed = ⊥
SuitsTake NoLink = ⊥
SuitsTake (Message message) = ⊤
SuitsTake Empty = ⊤
SuitsTake Over = ⊤

-- a reply that may come to a call; a link that the call names was opened
abbrev pub Suits : Call → Reply → Type 0
Suits call.NewLink reply = SuitsNewLink reply
Suits (call.Deliver link arrived) reply = SuitsOpen reply
Suits (call.End link) reply = SuitsOpen reply
Suits (call.Lost link) reply = SuitsLost reply
Suits (call.Take link) reply = SuitsTake reply

-- the link that a call names, if it names one, was opened
abbrev pub NamesOpened : List ℕ → List Call → Call → Type 0
NamesOpened name history call.NewLink = ⊤
NamesOpened name history (call.Deliver link arrived) = IsOpened name history link
NamesOpened name history (call.End link) = IsOpened name history link
NamesOpened name history (call.Lost link) = IsOpened name history link
NamesOpened name history (call.Take link) = IsOpened name history link

-- only replies that suit come
abbrev pub RepliesSuit : Type 0
RepliesSuit = (name : List ℕ) (history : List Call) (one : Call) → NamesOpened name history one → Suits one (reply_to name history one)

-- a call takes from the link
abbrev pub takes : ℕ → Call → Bool
takes number call.NewLink = false
takes number (call.Deliver link arrived) = false
takes number (call.End link) = false
takes number (call.Lost link) = false
takes number (call.Take link) = link == number

-- no call of these takes from the link
abbrev pub NoneTakes : ℕ → List Call → Type 0
NoneTakes number [] = ⊤
NoneTakes number (one ∷ calls) = (takes number one ≡ false) × NoneTakes number calls
