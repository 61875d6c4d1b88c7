-- How the slots of the table stand for links.
use Rattle.std.specs.Prelude.{◌≡◌, ℕ, zero, suc, ◌+◌, ◌^◌, ◌<◌, ◌≤◌, ◌==◌, Bool, true, List, [], ◌∷◌, ◌++◌, Option, Some, None, if◌then◌else◌, refl}
use Rattle.std.specs.List.{find}
use Rattle.std.specs.Option.{option_map}
use Rattle.slab.specs.Slab.{Slab, get, slab_len, entries_from, Updates, HasRoomFor}
use Rattle.link_table.specs.Links.{Link, if_open, bytes_of, fits, all_filled, suits, new_link, is_counted, counted}
use Rattle.link_table.specs.Index.{key_of, without}
use Rattle.link_table.specs.declared.open_link.OpenLink.{OpenLink}
use Rattle.link_table.specs.declared.entry.Entry.{Entry}
use Rattle.link_table.specs.declared.state.LinkState.TheVariants.{Open, Gone}

-- the link that an entry stands for
abbrev pub link_of : Entry → Link
link_of entry = record { state = entry.state; pending = entry.pending }

-- a link that is neither open nor waited on
abbrev pub gone_link : Link
gone_link = record { state = Gone; pending = [] }

-- an entry, with its key, has this number
abbrev pub has_number : ℕ → ℕ × Entry → Bool
has_number number slot = slot.1.number == number

-- the first slot with this number, with its key
abbrev pub slot_of : List (Option Entry) → ℕ → Option (ℕ × Entry)
slot_of slots number = find (has_number number) (entries_from 0 slots)

-- the key of the slot of a number, if it has one
abbrev pub key_in : List (Option Entry) → ℕ → Option ℕ
key_in slots number = option_map (λ slot. slot.0) (slot_of slots number)

-- the entry of a number, if it has a slot
abbrev pub entry_in : List (Option Entry) → ℕ → Option Entry
entry_in slots number = option_map (λ slot. slot.1) (slot_of slots number)

-- an index has of each number the key of its slot
pub record IsIndex (slots : List (Option Entry)) (index : List (ℕ × ℕ)) : Type 0 where
  pub keys : (number : ℕ) → key_of index number ≡ key_in slots number

-- the link of an entry, if there is an entry and it is open
abbrev pub open_in : Option Entry → List OpenLink
open_in None = []
open_in (Some entry) = if_open entry.number (link_of entry)

-- the link in a slot, and a link that has none is gone
abbrev pub link_or_gone : Option (ℕ × Entry) → Link
link_or_gone None = gone_link
link_or_gone (Some slot) = link_of slot.1

-- the link of a number that was given
abbrev pub link_in : List (Option Entry) → ℕ → Link
link_in slots number = link_or_gone (slot_of slots number)

-- the links that have the numbers from 1 to this
abbrev pub links_to : List (Option Entry) → ℕ → List Link
links_to slots zero = []
links_to slots (suc opened) = links_to slots opened ++ link_in slots (suc opened) ∷ []

-- an entry counts its bytes, of which there are not too many, none of its messages is empty, and its state suits them
pub record IsEntry (entry : Entry) : Type 0 where
  pub counted_bytes : entry.bytes ≡ bytes_of entry.pending
  pub suited : suits entry.state entry.pending ≡ true
  pub in_limit : fits entry.pending ≡ true
  pub filled : all_filled entry.pending ≡ true

-- an entry that counts has a number that was given
pub record IsListed (opened : ℕ) (entry : Entry) : Type 0 where
  pub sound : IsEntry entry
  pub from_one : 0 < entry.number
  pub given : entry.number ≤ opened
  pub counts : is_counted (link_of entry) ≡ true

-- no two slots have entries of one number
abbrev pub IsDistinct : Slab Entry → Type 0
IsDistinct slots = (key other : ℕ) (entry second : Entry) → get slots key ≡ Some entry → get slots other ≡ Some second → entry.number ≡ second.number → key ≡ other

-- so many links were opened, less than 2^32, and those that count, which are 256 at most, have a slot each
pub record IsTable (slots : Slab Entry) (opened : ℕ) : Type 0 where
  pub listed : (key : ℕ) (entry : Entry) → get slots key ≡ Some entry → IsListed opened entry
  pub distinct : IsDistinct slots
  pub all_counted : slab_len slots ≡ counted (links_to slots.slots opened)
  pub in_limit : slab_len slots ≤ 256
  pub numbered : opened < 2 ^ 32

-- the slot of an entry, which is empty where the link does not count
abbrev pub slot_left : Entry → Option Entry
slot_left entry = if is_counted (link_of entry) then Some entry else None

-- the index without the number of an entry, where the link does not count
abbrev pub index_left : Entry → List (ℕ × ℕ) → List (ℕ × ℕ)
index_left entry index = if is_counted (link_of entry) then index else without index entry.number

-- how many slots an entry takes
abbrev pub slots_of : Entry → ℕ
slots_of entry = if is_counted (link_of entry) then 1 else 0

-- an entry was taken out of the slot that is the next to be filled
pub record Removes (old : Slab Entry) (number : ℕ) (entry : Entry) (new : Slab Entry) : Type 0 where
  pub there : get old new.vacant_key ≡ Some entry
  pub has : entry.number ≡ number
  pub updates : Updates old new new.vacant_key None
  pub len : slab_len new + 1 ≡ slab_len old
  pub room : HasRoomFor new 1

-- the entry of a number was taken out, if there is one
abbrev pub TakesOut : Slab Entry → ℕ → Option Entry → Slab Entry → Type 0
TakesOut old number None new = (slot_of old.slots number ≡ None) × (new ≡ old)
TakesOut old number (Some entry) new = Removes old number entry new

-- an entry was put back into the next slot, if it counts
pub record PutsBack (old : Slab Entry) (entry : Entry) (new : Slab Entry) : Type 0 where
  pub updates : Updates old new old.vacant_key (slot_left entry)
  pub len : slab_len new ≡ slab_len old + slots_of entry

-- an open link of this number, on which nothing waits
abbrev open_entry : ℕ → Entry
open_entry number = record { number = number; state = Open; pending = []; bytes = 0 }

-- of three links the second is in the slot 1, and the others are gone
example_links : links_to (None ∷ Some (open_entry 2) ∷ []) 3 ≡ gone_link ∷ new_link ∷ gone_link ∷ []
example_links = refl

-- an index that leads to the slot of the second
example_key : key_in (None ∷ Some (open_entry 2) ∷ []) 2 ≡ key_of ((2, 1) ∷ []) 2
example_key = refl

-- an entry with no message that is not open leaves its slot empty
example_left : slot_left (record (open_entry 1) { state = Gone }) ≡ None
example_left = refl
