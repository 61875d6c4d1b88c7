-- The space after a link opened, and after the oldest message of one was taken.
use Rattle.std.proofs.Common.{◌≡◌, ℕ, List, [], ◌∷◌, Option, Some, None, Result, Ok, Err, OnOk, refl, ap}
use Rattle.link_table.specs.Links.{Link, link_at, pending_or_none, pending_of, oldest, taken, changed, Opens}
use Rattle.link_table.specs.declared.state.LinkState.{LinkState}
use Rattle.session_core.specs.Space.{Space}
use Rattle.session_core.specs.Queues.{with_links}
use Rattle.session_core.specs.Steps.{open_step, taken_from, take_step}
use Rattle.session_core.specs.Numbers.{Numbers}
use Rattle.session_core.specs.declared.entry.Entry.{Entry}
use Rattle.session_core.proofs.LinksKeepEntries.{stored, IsStored, stored_opened, space_opened}

module _ (name : List ℕ) (joined : List (List ℕ)) (numbers : Numbers) (updates numbered : ℕ) (entries : List Entry) (links new : List Link) where
  -- the space that is kept is the one after a link was asked for
  pub opened_space : (found : Option ℕ) → Opens links found new → IsStored name joined numbers updates numbered entries links
      → stored name joined numbers updates numbered entries new ≡ (open_step (stored name joined numbers updates numbered entries links)).space
  opened_space None (full, same) is = rw full (ap (stored name joined numbers updates numbered entries) same)
  opened_space (Some number) (room, given, e) is = rw room (space_opened name joined numbers updates numbered entries links new e is.1)

  -- and what holds of it holds still
  pub opened_kept : (found : Option ℕ) → Opens links found new → IsStored name joined numbers updates numbered entries links
      → IsStored name joined numbers updates numbered entries new
  opened_kept None (full, same) is = rw same is
  opened_kept (Some number) (room, given, e) is = stored_opened name joined numbers updates numbered entries links new e is

module _ (space : Space) (number : ℕ) (message : List ℕ) where
  from_pending : (state : LinkState) (pending : List (List ℕ)) → oldest pending ≡ Some message
      → (taken_from space number state pending).space ≡ with_links space (changed taken space.links number)
  from_pending state [] h = cc
  from_pending state (first ∷ pending) h = refl

  from_found : (found : Option Link) → oldest (pending_or_none found) ≡ Some message
      → (take_step space number found).space ≡ with_links space (changed taken space.links number)
  from_found None h = cc
  from_found (Some link) h = from_pending link.state link.pending h

  -- where a message waits, the space has the links of which one was taken
  pub taken_space : oldest (pending_of space.links number) ≡ Some message
      → (take_step space number (link_at space.links number)).space ≡ with_links space (changed taken space.links number)
  taken_space h = from_found (link_at space.links number) h

-- what holds anyway holds where a call ended well
pub on_ok : {A E P : Type 0} (result : Result A E) → P → OnOk result P
on_ok (Ok value) p = p
on_ok (Err refused) p = tt
