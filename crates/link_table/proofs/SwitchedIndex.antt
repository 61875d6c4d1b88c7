-- The slots that an index leads to, and the index after one slot changed.
use Rattle.std.proofs.Common.{◌≡◌, ◌≢◌, ℕ, List, [], ◌∷◌, ◌++◌, Option, Some, None, option_map, sym, ap, ◌∙◌, inl, inr}
use Rattle.std.proofs.lemmas.Bool.{cases_eq, eq-eqb, ne_eqb}
use Rattle.slab.specs.Slab.{Slab, get}
use Rattle.link_table.specs.Index.{key_of, without}
use Rattle.link_table.specs.Table.{slot_of, key_in, entry_in, IsDistinct, IsIndex}
use Rattle.link_table.specs.declared.entry.Entry.{Entry}
use Rattle.link_table.proofs.RisingPairs.{key_of-without, key_of-push, key_of-pushed}
use Rattle.link_table.proofs.SlotLemmas.{slot_cases, slot_of-found, slot_of-there, Switches, Switches-others, Switches-here}

-- the key of a slot, if there is one
abbrev pub key_or_none : Option (ℕ × Entry) → Option ℕ
key_or_none slot = option_map (λ (s : ℕ × Entry). s.0) slot

-- the key of a number leads to its slot
pub slot_of-key : (slots : List (Option Entry)) (index : List (ℕ × ℕ)) (number key : ℕ) → IsIndex slots index → key_of index number ≡ Some key → (entry : Entry) × (slot_of slots number ≡ Some (key, entry))
slot_of-key slots index number key is has =
    let in_slots : key_in slots number ≡ Some key = sym (is.keys number) ∙ has in
    elim (slot_cases (slot_of slots number)) [
      | inl none ↦ absurd (cc)
      | inr slot ↦ let same : slot.0 ≡ key = cc (ap key_or_none slot.2) in (slot.1, slot.2 ∙ ap (λ (k : ℕ). Some (k, slot.1)) same)
    ]

-- a number that has no key has no slot
pub slot_of-no_key : (slots : List (Option Entry)) (index : List (ℕ × ℕ)) (number : ℕ) → IsIndex slots index → key_of index number ≡ None → slot_of slots number ≡ None
slot_of-no_key slots index number is missing =
    let in_slots : key_in slots number ≡ None = sym (is.keys number) ∙ missing in
    elim (slot_cases (slot_of slots number)) [
      | inl none ↦ none
      | inr slot ↦ absurd (cc (ap key_or_none slot.2))
    ]

-- what stands under the key of a number is its entry
pub get-key : (slots : Slab Entry) (index : List (ℕ × ℕ)) (number key : ℕ) → IsIndex slots.slots index → key_of index number ≡ Some key → get slots key ≡ entry_in slots.slots number
get-key slots index number key is has =
    let slot = slot_of-key slots.slots index number key is has in
    (slot_of-found slots number key slot.0 slot.1).0 ∙ sym (ap (option_map (λ (s : ℕ × Entry). s.1)) slot.1)

module _ (old new : Slab Entry) (key number : ℕ) (slot : Option Entry) (index : List (ℕ × ℕ)) (switches : Switches old new key number slot) (distinct : IsDistinct old) (is : IsIndex old.slots index) where
  key_others : (other : ℕ) → other ≢ number → key_of index other ≡ key_in new.slots other
  key_others other differs = is.keys other ∙ sym (ap key_or_none (Switches-others old new key number slot switches distinct other differs))

  key_here : key_in new.slots number ≡ key_or_none (option_map (λ (entry : Entry). (key, entry)) slot)
  key_here = ap key_or_none (Switches-here old new key number slot switches distinct)

  -- an entry that is in its slot again keeps its key
  pub IsIndex-kept : (before after : Entry) → get old key ≡ Some before → slot ≡ Some after → IsIndex new.slots index
  IsIndex-kept before after was left = record {
    keys = λ other. elim (cases_eq other number) [
      | inl same ↦
          let there = slot_of-there old number key before distinct was (switches.before before was) in
          rw same (is.keys number ∙ ap key_or_none there ∙ sym (key_here ∙ ap (λ s. key_or_none (option_map (λ (entry : Entry). (key, entry)) s)) left))
      | inr differs ↦ key_others other differs
    ];
  }

  -- a slot that is empty has no key
  pub IsIndex-gone : slot ≡ None → IsIndex new.slots (without index number)
  IsIndex-gone left = record {
    keys = λ other. key_of-without index number other ∙ elim (cases_eq other number) [
      | inl same ↦ rw (eq-eqb other number same, same) (sym (key_here ∙ ap (λ s. key_or_none (option_map (λ (entry : Entry). (key, entry)) s)) left))
      | inr differs ↦ rw (ne_eqb other number differs) (key_others other differs)
    ];
  }

  -- a number that had no slot has the key of the one that was filled
  pub IsIndex-more : (entry : Entry) → slot_of old.slots number ≡ None → slot ≡ Some entry → IsIndex new.slots (index ++ (number, key) ∷ [])
  IsIndex-more entry none filled = record {
    keys = λ other. elim (cases_eq other number) [
      | inl same ↦
          let absent : key_of index number ≡ None = is.keys number ∙ ap key_or_none none in
          rw same (key_of-pushed index number key absent ∙ sym (key_here ∙ ap (λ s. key_or_none (option_map (λ (entry : Entry). (key, entry)) s)) filled))
      | inr differs ↦ key_of-push index number key other differs ∙ key_others other differs
    ];
  }
