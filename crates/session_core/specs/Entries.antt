-- Subscriptions as they are kept, and what is prepared for them.
use Rattle.std.specs.Prelude.{◌≡◌, ◌<◌, ◌≤◌, ◌⊎◌, ◌+◌, ◌^◌, ℕ, Bool, if◌then◌else◌, true, false, ◌&&◌, not, List, [], ◌∷◌, length, map, filter, Contains, Option, Some, None, suc, ⊤}
use Rattle.std.specs.Fmt.{decimal}
use Rattle.std.specs.Option.{option_map_or}
use Rattle.std.specs.Str.{bytes_eq}
use Rattle.m3_terms.specs.declared.triple.Triple.{Triple}
use Rattle.link_table.specs.Links.{Link, is_open, state_of, changed, sent}
use Rattle.answer_bodies.specs.declared.answer.Difference.{Difference}
use Rattle.answer_bodies.specs.Differences.{is_empty_difference}
use Rattle.delta_eval.specs.Standing.{Changes}
use Rattle.ssap_items.specs.declared.heads.Heads.{Heads}
use Rattle.ssap_shape.specs.declared.status.Status.TheVariants.{Success, OutOfResources}
use Rattle.session_core.specs.Numbers.{Numbers, graph_of}
use Rattle.session_core.specs.Space.{Space}
use Rattle.session_core.specs.Subscriptions.{Subscription, width_over, indication_bytes, ended_by, changed_by}
use Rattle.session_core.specs.Following.{difference_over}
use Rattle.session_core.specs.Watches.{wanted_in, Stands, Leads, HasRoom, IsStepFor, IsSameWatch}
use Rattle.session_core.specs.declared.watch.Watch.{Watch}
use Rattle.session_core.specs.declared.entry.Entry.{Entry}
use Rattle.session_core.specs.declared.telling.Whose.{Whose}
use Rattle.session_core.specs.declared.telling.Whose.TheVariants.{Node as OfNode, Named}
use Rattle.session_core.specs.declared.entry.Due.{Due}
use Rattle.session_core.specs.declared.entry.Due.TheVariants.{Nothing, Change, End}

-- the subscription that an entry keeps
abbrev pub subscription_of : Entry → Subscription
subscription_of entry = record {
  number = entry.number;
  link = entry.link;
  node = entry.node;
  transaction = entry.transaction;
  wanted = wanted_in entry.watch;
  sequence = entry.sequence;
}

-- the entry of a subscription of which nothing was told yet
abbrev pub new_entry : ℕ → ℕ → Heads → Watch → Entry
new_entry number link heads watch = record {
  number = number;
  digits = decimal number;
  link = link;
  node = heads.node_id;
  transaction = heads.transaction_id;
  sequence = 0;
  ended = false;
  watch = watch;
  next = None;
  due = Nothing;
}

-- it lives: it has not ended, and its link is open
abbrev pub is_living : List Link → Entry → Bool
is_living links entry = not entry.ended && is_open (state_of links entry.link)

-- the subscriptions that live
abbrev pub living : List Link → List Entry → List Subscription
living links entries = map subscription_of (filter (is_living links) entries)

-- an entry that may be kept: so many links were opened, so many updates made and so many numbers given, and where it lives its
-- standing query stands over the numbers of the graph
pub record IsEntry (numbers : Numbers) (links : List Link) (updates numbered : ℕ) (entry : Entry) : Type 0 where
  pub digits : entry.digits ≡ decimal entry.number
  pub given : entry.number ≤ numbered
  pub opened : entry.link ≤ length links
  pub sequence : entry.sequence ≤ updates
  pub stands : is_living links entry ≡ true → Stands numbers entry.watch

-- entries that may be kept, by rising number
abbrev pub AreRising : ℕ → List Entry → Type 0
AreRising least [] = ⊤
AreRising least (entry ∷ entries) = (least ≤ entry.number) × AreRising (suc entry.number) entries

pub record AreEntries (numbers : Numbers) (links : List Link) (updates numbered : ℕ) (entries : List Entry) : Type 0 where
  pub each : (entry : Entry) → Contains entries entry → IsEntry numbers links updates numbered entry
  pub rising : AreRising 0 entries

-- a relation holds between entries, one by one
abbrev pub Each : (Entry → Entry → Type 0) → List Entry → List Entry → Type 0
Each R [] [] = ⊤
Each R [] (other ∷ others) = ⊥
Each R (entry ∷ entries) [] = ⊥
Each R (entry ∷ entries) (other ∷ others) = R entry other × Each R entries others

-- an entry after something was prepared for it: it keeps the same subscription
pub record IsSameEntry (old new : Entry) : Type 0 where
  pub number : new.number ≡ old.number
  pub digits : new.digits ≡ old.digits
  pub link : new.link ≡ old.link
  pub node : new.node ≡ old.node
  pub transaction : new.transaction ≡ old.transaction
  pub sequence : new.sequence ≡ old.sequence
  pub ended : new.ended ≡ old.ended
  pub watch : IsSameWatch old.watch new.watch

-- what is due to a subscription where the graph changes from one to another
abbrev pub IsDue : List Triple → List Triple → List ℕ → Subscription → Due → Type 0
IsDue before after name subscription Nothing = (width_over after subscription.wanted ≤ 65536)
    × (is_empty_difference (difference_over before after subscription.wanted) ≡ true)
IsDue before after name subscription (Change message) = (width_over after subscription.wanted ≤ 65536)
    × (is_empty_difference (difference_over before after subscription.wanted) ≡ false)
    × (message ≡ indication_bytes (changed_by name subscription (difference_over before after subscription.wanted)))
    × (length (indication_bytes (changed_by name subscription (difference_over before after subscription.wanted))) ≤ 4194304)
IsDue before after name subscription (End message) = (message ≡ indication_bytes (ended_by name subscription OutOfResources))
    × ((65536 < width_over after subscription.wanted) ⊎ ((width_over after subscription.wanted ≤ 65536)
    × (is_empty_difference (difference_over before after subscription.wanted) ≡ false)
    × (4194304 < length (indication_bytes (changed_by name subscription (difference_over before after subscription.wanted))))))

-- the step that is prepared for a watch leads to these numbers; where the subscription ends there may be none
abbrev pub IsNext : Numbers → Watch → Option Changes → Due → Type 0
IsNext numbers watch (Some step) due = Leads watch step numbers
IsNext numbers watch None Nothing = ⊥
IsNext numbers watch None (Change message) = ⊥
IsNext numbers watch None (End message) = ⊤

-- the step that there may be is one for a watch
abbrev pub IsStepNext : Watch → Option Changes → Type 0
IsStepNext watch (Some step) = IsStepFor watch step
IsStepNext watch None = ⊤

-- entries whose standing queries stand over the numbers where they live, and that have not used up their numbers
abbrev pub AreSound : Numbers → List Link → List Entry → Type 0
AreSound numbers links entries = (entry : Entry) → Contains entries entry → (entry.sequence < 2 ^ 63) × (is_living links entry ≡ true → Stands numbers entry.watch)

-- an entry is ready for a change of the numbers: it keeps the same subscription, and where it lives what is due is prepared
pub record IsReady (links : List Link) (before after : Numbers) (name : List ℕ) (old new : Entry) : Type 0 where
  pub same : IsSameEntry old new
  pub due : is_living links old ≡ true → IsDue (graph_of before) (graph_of after) name (subscription_of old) new.due
  pub next : is_living links old ≡ true → IsNext after new.watch new.next new.due
  pub step : IsStepNext new.watch new.next

-- an entry has room for the step that is prepared for it
abbrev pub HasRoomForNext : Watch → Option Changes → Type 0
HasRoomForNext watch (Some step) = HasRoom watch step × IsStepFor watch step
HasRoomForNext watch None = ⊤

-- an entry after room was made
pub record IsRoomier (old new : Entry) : Type 0 where
  pub same : IsSameEntry old new
  pub next : new.next ≡ old.next
  pub due : new.due ≡ old.due

-- an entry after the step that is prepared for it
pub record IsCommitted (old new : Entry) : Type 0 where
  pub number : new.number ≡ old.number
  pub digits : new.digits ≡ old.digits
  pub link : new.link ≡ old.link
  pub node : new.node ≡ old.node
  pub transaction : new.transaction ≡ old.transaction
  pub sequence : new.sequence ≡ old.sequence
  pub ended : new.ended ≡ old.ended
  pub due : new.due ≡ old.due
  pub wanted : wanted_in new.watch ≡ wanted_in old.watch
  pub stands : (numbers : Numbers) → IsNext numbers old.watch old.next Nothing → Stands numbers new.watch

-- of each living entry it is known what is due to it where the graph changed to that of a space
abbrev pub HaveDues : List Triple → Space → List Entry → Type 0
HaveDues before space entries = (entry : Entry) → Contains entries entry → is_living space.links entry ≡ true
    → IsDue before space.graph space.name (subscription_of entry) entry.due

-- for what is due, the messages that tell a change of an answer: the change itself, or the end where that would be too long
abbrev pub is_news : List ℕ → Subscription → Difference → Due → Type 0
is_news name subscription difference Nothing = ⊥
is_news name subscription difference (Change message) = (message ≡ indication_bytes (changed_by name subscription difference))
    × (length (indication_bytes (changed_by name subscription difference)) ≤ 4194304)
is_news name subscription difference (End message) = (message ≡ indication_bytes (ended_by name subscription OutOfResources))
    × (4194304 < length (indication_bytes (changed_by name subscription difference)))

-- nothing is prepared for an entry any more, and it keeps all else
abbrev pub IsPassed : Entry → Entry → Type 0
IsPassed old new = new ≡ record old { next = None; due = Nothing }

-- the farewell that is due, if there is one
abbrev pub message_in : Due → Option (List ℕ)
message_in Nothing = None
message_in (Change message) = None
message_in (End message) = Some message

-- an entry and the links after what is due was told: a change uses the next number, and an end ends the subscription
abbrev pub told_entry : Entry → Due → Entry
told_entry entry Nothing = record entry { due = Nothing }
told_entry entry (Change message) = record entry { due = Nothing; sequence = entry.sequence + 1 }
told_entry entry (End message) = record entry { due = Nothing; ended = true }

abbrev pub told_links : List Link → ℕ → Due → List Link
told_links links link Nothing = links
told_links links link (Change message) = changed (sent message) links link
told_links links link (End message) = changed (sent message) links link

abbrev pub IsToldOnce : Entry → List Link → Entry → List Link → Type 0
IsToldOnce old links new others = (new ≡ told_entry old old.due) × (others ≡ told_links links old.link old.due)

-- the links after all living subscriptions were told what is due to them, one after another
abbrev pub told_links_all : List Link → List Entry → List Link
told_links_all links [] = links
told_links_all links (entry ∷ entries) = told_links_all (if is_living links entry then told_links links entry.link entry.due else links) entries

-- and the entries: one that has ended by then is passed over
abbrev pub told_entries_all : List Link → List Entry → List Entry
told_entries_all links [] = []
told_entries_all links (entry ∷ entries) = (if is_living links entry then told_entry entry entry.due else entry)
    ∷ told_entries_all (if is_living links entry then told_links links entry.link entry.due else links) entries

-- the links after the farewells were sent, one after another
abbrev pub ended_links_all : List Link → List Entry → List Link
ended_links_all links [] = links
ended_links_all links (entry ∷ entries) = ended_links_all (option_map_or (λ message. changed (sent message) links entry.link) (message_in entry.due) links) entries

-- an entry is of a node, or is the one that a text names
abbrev pub has_whose : Whose → Entry → Bool
has_whose (OfNode node) entry = bytes_eq entry.node node.now
has_whose (Named node digits) entry = bytes_eq entry.node node.now && bytes_eq entry.digits digits.now

-- an entry ends where it is one of these
abbrev pub ended_if : Whose → Entry → Entry
ended_if whose entry = if has_whose whose entry then record entry { ended = true } else entry

-- a farewell is prepared for an entry that lives and is one of these, and nothing for another
abbrev pub farewell_of : Bool → List ℕ → Entry → Due
farewell_of true name entry = End (indication_bytes (ended_by name (subscription_of entry) Success))
farewell_of false name entry = Nothing

pub record IsEnding (links : List Link) (name : List ℕ) (whose : Whose) (old new : Entry) : Type 0 where
  pub same : IsSameEntry old new
  pub due : new.due ≡ farewell_of (is_living links old && has_whose whose old) name old

-- a space has these links and the subscriptions of these entries
abbrev pub with_entries : Space → List Link → List Entry → Space
with_entries space links entries = record space { links = links; subscriptions = living links entries }
