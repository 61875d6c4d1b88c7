-- Farewells are prepared for entries, and the entries end.
use Rattle.std.proofs.Common.{◌≡◌, Bool, true, false, ◌&&◌, ℕ, List, None, refl, sym, ap, subst}
use Rattle.link_table.specs.Links.{Link}
use Rattle.ssap_shape.specs.declared.status.Status.TheVariants.{Success}
use Rattle.session_core.specs.Subscriptions.{indication_bytes, ended_by}
use Rattle.session_core.specs.Entries.{subscription_of, is_living, has_whose, ended_if, IsEnding, IsPassed}
use Rattle.session_core.specs.declared.entry.Entry.{Entry}
use Rattle.session_core.specs.declared.entry.Due.TheVariants.{Nothing, End}
use Rattle.session_core.specs.declared.telling.Whose.{Whose}
use Rattle.session_core.proofs.RoomIsMade.{entry_with}

-- an entry that is one of those that end has ended
pub ended_yes : (whose : Whose) (old : Entry) → has_whose whose old ≡ true → record old { ended = true } ≡ ended_if whose old
ended_yes whose old has = rw has refl

-- and another has not
pub ended_no : (whose : Whose) (old : Entry) → has_whose whose old ≡ false → old ≡ ended_if whose old
ended_no whose old has = rw has refl

module _ (links : List Link) (name : List ℕ) (whose : Whose) (old : Entry) where
  -- a farewell is prepared where the entry lives and is one of those
  pub ending_yes : (message : List ℕ) → is_living links old ≡ true → has_whose whose old ≡ true → message ≡ indication_bytes (ended_by name (subscription_of old) Success)
      → IsEnding links name whose old (record old { next = None; due = End message })
  ending_yes message lives has is = record { same = entry_with old None (End message); due = rw (lives, has) (ap End is) }

  -- and nothing else
  pub ending_no : (new : Entry) → (is_living links old && has_whose whose old) ≡ false → IsPassed old new → IsEnding links name whose old new
  ending_no new not_both passed = subst (IsEnding links name whose old) (sym passed) (record { same = entry_with old None Nothing; due = rw not_both refl })

-- an entry that does not live, or is none of those
pub not_first : (one other : Bool) → one ≡ false → (one && other) ≡ false
not_first one other e = rw e refl

pub not_second : (one other : Bool) → one ≡ true → other ≡ false → (one && other) ≡ false
not_second one other e f = rw (e, f) refl
