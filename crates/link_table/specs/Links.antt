-- The links of a space, in the order in which they were opened: the state of each, and the messages that wait to be taken.
use Rattle.std.specs.Prelude.{◌≡◌, ℕ, ◌+◌, ◌-◌, ◌^◌, ◌<◌, ◌≤◌, Bool, true, false, not, ◌||◌, nat_le, nat_lt, if◌then◌else◌, List, [], ◌∷◌, ◌++◌, length, drop, slice_get, slice_set, count_by, sum_by, Option, Some, None, codes, refl}
use Rattle.std.specs.List.{list_all}
use Rattle.link_table.specs.declared.open_link.OpenLink.{OpenLink}
use Rattle.link_table.specs.declared.state.LinkState.{LinkState}
use Rattle.link_table.specs.declared.state.LinkState.TheVariants.{Never, Open, Ended, Overrun, Gone}

-- a link that was opened: its state, and the messages that wait to be taken, the oldest first
pub record Link : Type 0 where
  pub state : LinkState
  pub pending : List (List ℕ)

-- a link is open in this state
abbrev pub is_open : LinkState → Bool
is_open Never = false
is_open Open = true
is_open Ended = false
is_open Overrun = false
is_open Gone = false

-- a link that has just opened
abbrev pub new_link : Link
new_link = record { state = Open; pending = [] }

-- a link that isn't open any more, in this state while messages wait, and gone where none does
abbrev pub closed_link : LinkState → List (List ℕ) → Link
closed_link state [] = record { state = Gone; pending = [] }
closed_link state (message ∷ pending) = record { state = state; pending = message ∷ pending }

-- a link whose messages are these, and whose state is this as long as it is open or one waits
abbrev pub link_with : LinkState → List (List ℕ) → Link
link_with state pending = if is_open state then record { state = state; pending = pending } else closed_link state pending

-- how many bytes messages have
abbrev pub bytes_of : List (List ℕ) → ℕ
bytes_of messages = sum_by length messages

-- these messages may wait on a link: they have 8,388,608 bytes at most
abbrev pub fits : List (List ℕ) → Bool
fits pending = nat_le (bytes_of pending) (2 ^ 23)

-- an open link that is sent a message: the message waits behind the others, or, where that would be too many bytes, is
-- dropped and the link is overrun
abbrev pub with_message : List ℕ → Link → Link
with_message message link = if fits (link.pending ++ message ∷ []) then record link { pending = link.pending ++ message ∷ [] } else closed_link Overrun link.pending

-- a link that is sent a message, which is dropped where the link isn't open
abbrev pub sent : List ℕ → Link → Link
sent message link = if is_open link.state then with_message message link else link

-- a link whose input ended: what waits stays
abbrev pub ended : Link → Link
ended link = if is_open link.state then closed_link Ended link.pending else link

-- a link that is lost: what waits is dropped, so it is gone
abbrev pub lost : Link → Link
lost link = record { state = Gone; pending = [] }

-- a link of which the oldest message was taken
abbrev pub taken : Link → Link
taken link = link_with link.state (drop 1 link.pending)

-- the link of this number, which are counted from 1
abbrev pub link_at : List Link → ℕ → Option Link
link_at links number = if nat_le 1 number then slice_get links (number - 1) else None

-- the links after one of them changed
abbrev pub changed_at : (Link → Link) → List Link → ℕ → Option Link → List Link
changed_at change links number None = links
changed_at change links number (Some link) = slice_set links (number - 1) (change link)

-- the links after the link of this number changed, if there is one
abbrev pub changed : (Link → Link) → List Link → ℕ → List Link
changed change links number = changed_at change links number (link_at links number)

-- the state of a link, or that it was never opened
abbrev pub state_or_never : Option Link → LinkState
state_or_never None = Never
state_or_never (Some link) = link.state

-- the state of the link of this number
abbrev pub state_of : List Link → ℕ → LinkState
state_of links number = state_or_never (link_at links number)

-- the messages that wait on a link, if there is one
abbrev pub pending_or_none : Option Link → List (List ℕ)
pending_or_none None = []
pending_or_none (Some link) = link.pending

-- the messages that wait on the link of this number
abbrev pub pending_of : List Link → ℕ → List (List ℕ)
pending_of links number = pending_or_none (link_at links number)

-- some message waits
abbrev pub is_waiting : List (List ℕ) → Bool
is_waiting [] = false
is_waiting (message ∷ pending) = true

-- a link counts while it is open or a message waits on it
abbrev pub is_counted : Link → Bool
is_counted link = is_open link.state || is_waiting link.pending

-- how many links count
abbrev pub counted : List Link → ℕ
counted links = count_by is_counted links

-- the link of this number, if it is open, with how many messages wait on it
abbrev pub if_open : ℕ → Link → List OpenLink
if_open number link = if is_open link.state then record { number = number; waiting = length link.pending } ∷ [] else []

-- of links that are numbered from this on, those that are open
abbrev pub open_from : ℕ → List Link → List OpenLink
open_from number [] = []
open_from number (link ∷ links) = if_open number link ++ open_from (number + 1) links

-- the links that are open, by rising number, each with how many messages wait on it
abbrev pub open_links : List Link → List OpenLink
open_links links = open_from 1 links

-- no link may open: 256 count, or the last number was given
abbrev pub is_full : List Link → Bool
is_full links = nat_le 256 (counted links) || nat_le (2 ^ 32 - 1) (length links)

-- the links after one was asked for, and its number where it opened
abbrev pub Opens : List Link → Option ℕ → List Link → Type 0
Opens old None new = (is_full old ≡ true) × (new ≡ old)
Opens old (Some number) new = (is_full old ≡ false) × (number ≡ length old + 1) × (new ≡ old ++ new_link ∷ [])

-- the oldest of the messages, if there is one
abbrev pub oldest : List (List ℕ) → Option (List ℕ)
oldest [] = None
oldest (message ∷ pending) = Some message

-- no message that waits is empty
abbrev pub all_filled : List (List ℕ) → Bool
all_filled pending = list_all (λ message. nat_lt 0 (length message)) pending

-- a state is right for the messages that wait: on a link that ended or was overrun one waits, and on one that is gone none
abbrev pub suits : LinkState → List (List ℕ) → Bool
suits Never pending = false
suits Open pending = true
suits Ended pending = is_waiting pending
suits Overrun pending = is_waiting pending
suits Gone pending = not (is_waiting pending)

-- a link of a table: its state is right for what waits, which is 8,388,608 bytes at most in messages that are not empty
pub record IsLink (link : Link) : Type 0 where
  pub suited : suits link.state link.pending ≡ true
  pub in_limit : fits link.pending ≡ true
  pub filled : all_filled link.pending ≡ true

-- the links of a table: 256 count at most, each number is less than 2^32, and each is a link of a table
pub record AreLinks (links : List Link) : Type 0 where
  pub few : counted links ≤ 256
  pub numbered : length links < 2 ^ 32
  pub each : (number : ℕ) (link : Link) → link_at links number ≡ Some link → IsLink link

-- a link that ends while a message waits is gone once that was taken
example_drained : changed taken (changed ended (changed (sent (codes "a")) (new_link ∷ []) 1) 1) 1 ≡ record { state = Gone; pending = [] } ∷ []
example_drained = refl

-- of two links the second is sent a message
example_second : pending_of (changed (sent (codes "a")) (new_link ∷ new_link ∷ []) 2) 2 ≡ codes "a" ∷ []
example_second = refl

-- no link has the number 0 or one above the last
example_never : (state_of (new_link ∷ []) 0 ≡ Never) × (state_of (new_link ∷ []) 2 ≡ Never)
example_never = (refl, refl)

-- what is sent on a link that ended is dropped
example_closed : changed (sent (codes "b")) (changed ended (new_link ∷ []) 1) 1 ≡ record { state = Gone; pending = [] } ∷ []
example_closed = refl

-- of three links the first is open with a message, the second has ended and the third is open with none
example_open : open_links (changed ended (changed (sent (codes "a")) (new_link ∷ new_link ∷ new_link ∷ []) 1) 2) ≡ record { number = 1; waiting = 1 } ∷ record { number = 3; waiting = 0 } ∷ []
example_open = refl

-- a link that ended isn't open, although a message waits on it
example_waited_on : open_links (changed ended (changed (sent (codes "a")) (new_link ∷ []) 1) 1) ≡ []
example_waited_on = refl
