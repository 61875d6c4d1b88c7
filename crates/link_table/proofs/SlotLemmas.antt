-- Which slot has a number, and what that says once one slot changed.
use Rattle.std.proofs.Common.{◌≡◌, ◌≢◌, ◌⊎◌, ℕ, Bool, true, false, List, [], ◌∷◌, Option, Some, None, option_map, subst, refl, sym, ap, ◌∙◌, inl, inr, arith, Contains}
use Rattle.std.proofs.lemmas.Bool.{cases_Bool, cases_eq, eqb-true, eq-eqb}
use Rattle.std.proofs.lemmas.Grind.{common_steps}
use Rattle.std.specs.List.{find}
use Rattle.slab.specs.Slab.{Slab, get, entries, Updates}
use Rattle.slab.proofs.SlabLemmas.{Contains-entries, Contains-cons, Contains-cons_cases}
use Rattle.link_table.specs.Table.{has_number, slot_of, entry_in, IsDistinct}
use Rattle.link_table.specs.declared.entry.Entry.{Entry}

-- a value is there, or it isn't
pub option_cases : {A : Type 0} (found : Option A) → (found ≡ None) ⊎ ((x : A) × (found ≡ Some x))
option_cases None = inl refl
option_cases (Some x) = inr (x, refl)

-- a slot is found, or none is
pub slot_cases : (found : Option (ℕ × Entry)) → (found ≡ None) ⊎ ((key : ℕ) × (entry : Entry) × (found ≡ Some (key, entry)))
slot_cases None = inl refl
slot_cases (Some slot) = inr (slot.0, slot.1, refl)

module _ {A : Type 0} (test : A → Bool) where
  -- what is found is there and passes the test
  find-found : (xs : List A) (x : A) → find test xs ≡ Some x → Contains xs x × (test x ≡ true)
  find-found [] x found = absurd (cc)
  find-found (y ∷ ys) x found =
      elim (cases_Bool (test y)) [
        | inl passes ↦ let same : y ≡ x = grind (arith, common_steps) in subst (λ (z : A). Contains (y ∷ ys) z × (test z ≡ true)) same ((0, omega arith, refl), passes)
        | inr fails ↦ let later = find-found ys x (grind (arith, common_steps)) in (Contains-cons y x ys later.0, later.1)
      ]

  -- what is there is not found only where it fails the test
  find-none : (xs : List A) (x : A) → find test xs ≡ None → Contains xs x → test x ≡ false
  find-none [] x none there = absurd (omega (arith, there.1))
  find-none (y ∷ ys) x none there =
      elim (cases_Bool (test y)) [
        | inl passes ↦ absurd (grind (arith, common_steps))
        | inr fails ↦ elim (Contains-cons_cases y x ys there) [
          | inl same ↦ cc (ap test same)
          | inr later ↦ find-none ys x (grind (arith, common_steps)) later
        ]
      ]

-- the slot that is found has the number
pub slot_of-found : (slots : Slab Entry) (number key : ℕ) (entry : Entry) → slot_of slots.slots number ≡ Some (key, entry) → (get slots key ≡ Some entry) × (entry.number ≡ number)
slot_of-found slots number key entry found =
    let there = find-found (has_number number) (entries slots) (key, entry) found in
    ((Contains-entries slots key entry).0 there.0, eqb-true entry.number number there.1)

-- no slot has a number that is not found
pub slot_of-none : (slots : Slab Entry) (number key : ℕ) (entry : Entry) → slot_of slots.slots number ≡ None → get slots key ≡ Some entry → entry.number ≢ number
slot_of-none slots number key entry none there has =
    let fails = find-none (has_number number) (entries slots) (key, entry) none ((Contains-entries slots key entry).1 there) in
    absurd (cc (eq-eqb entry.number number has, fails))

-- a number whose entry was found has a slot, and one that has no entry has none
pub slot_of-entry : (slots : List (Option Entry)) (number : ℕ) (entry : Entry) → entry_in slots number ≡ Some entry → (key : ℕ) × (slot_of slots number ≡ Some (key, entry))
slot_of-entry slots number entry found = elim (slot_cases (slot_of slots number)) [
  | inl none ↦ absurd (cc (ap (option_map (λ (slot : ℕ × Entry). slot.1)) none))
  | inr slot ↦ let same : slot.1 ≡ entry = cc (ap (option_map (λ (s : ℕ × Entry). s.1)) slot.2) in (slot.0, slot.2 ∙ ap (λ e. Some (slot.0, e)) same)
]

pub slot_of-no_entry : (slots : List (Option Entry)) (number : ℕ) → entry_in slots number ≡ None → slot_of slots number ≡ None
slot_of-no_entry slots number missing = elim (slot_cases (slot_of slots number)) [
  | inl none ↦ none
  | inr slot ↦ absurd (cc (ap (option_map (λ (s : ℕ × Entry). s.1)) slot.2))
]

-- where numbers are distinct, the slot with a number is found
pub slot_of-there : (slots : Slab Entry) (number key : ℕ) (entry : Entry) → IsDistinct slots → get slots key ≡ Some entry → entry.number ≡ number → slot_of slots.slots number ≡ Some (key, entry)
slot_of-there slots number key entry distinct there has =
    elim (slot_cases (slot_of slots.slots number)) [
      | inl none ↦ absurd (slot_of-none slots number key entry none there has)
      | inr found ↦
          let is = slot_of-found slots number found.0 found.1 found.2 in
          let here = distinct found.0 key found.1 entry is.0 there (is.1 ∙ sym has) in
          let same : Some found.1 ≡ Some entry = sym is.0 ∙ ap (get slots) here ∙ there in
          found.2 ∙ cc (here, same)
    ]

-- the slot under this key took another entry, and before and after it had this number, which no other slot has
pub record Switches (old new : Slab Entry) (key number : ℕ) (slot : Option Entry) : Type 0 where
  pub updates : Updates old new key slot
  pub before : (entry : Entry) → get old key ≡ Some entry → entry.number ≡ number
  pub after : (entry : Entry) → slot ≡ Some entry → entry.number ≡ number
  pub alone : (other : ℕ) (entry : Entry) → get old other ≡ Some entry → entry.number ≡ number → other ≡ key

module _ (old new : Slab Entry) (key number : ℕ) (slot : Option Entry) (switches : Switches old new key number slot) where
  -- an entry has the number, in its slot, or was there before
  new_slot : (other : ℕ) (entry : Entry) → get new other ≡ Some entry → ((other ≡ key) × (entry.number ≡ number)) ⊎ ((other ≢ key) × (get old other ≡ Some entry))
  new_slot other entry there =
      elim (cases_eq other key) [
        | inl same ↦ inl (same, switches.after entry (sym switches.updates.changed ∙ ap (get new) (sym same) ∙ there))
        | inr differs ↦ inr (differs, sym (switches.updates.others other differs) ∙ there)
      ]

  -- numbers stay distinct
  pub Switches-distinct : IsDistinct old → IsDistinct new
  Switches-distinct distinct one other entry second at_one at_other same =
      elim (new_slot one entry at_one) [
        | inl here ↦ elim (new_slot other second at_other) [
          | inl too ↦ here.0 ∙ sym too.0
          | inr there ↦ here.0 ∙ sym (switches.alone other second there.1 (sym same ∙ here.1))
        ]
        | inr there ↦ elim (new_slot other second at_other) [
          | inl here ↦ switches.alone one entry there.1 (same ∙ here.1) ∙ sym here.0
          | inr too ↦ distinct one other entry second there.1 too.1 same
        ]
      ]

  -- the slots of other numbers stay
  pub Switches-others : IsDistinct old → (other : ℕ) → other ≢ number → slot_of new.slots other ≡ slot_of old.slots other
  Switches-others distinct other differs =
      elim (slot_cases (slot_of old.slots other)) [
        | inl none ↦ elim (slot_cases (slot_of new.slots other)) [
          | inl also ↦ also ∙ sym none
          | inr found ↦
              let is = slot_of-found new other found.0 found.1 found.2 in
              elim (new_slot found.0 found.1 is.0) [
                | inl here ↦ absurd (differs (sym is.1 ∙ here.1))
                | inr there ↦ absurd (slot_of-none old other found.0 found.1 none there.1 is.1)
              ]
        ]
        | inr was ↦
            let is = slot_of-found old other was.0 was.1 was.2 in
            let apart : was.0 ≢ key = λ same. differs (sym is.1 ∙ switches.before was.1 (ap (get old) (sym same) ∙ is.0)) in
            let stays = switches.updates.others was.0 apart ∙ is.0 in
            slot_of-there new other was.0 was.1 (Switches-distinct distinct) stays is.1 ∙ sym was.2
      ]

  -- the slot of the number is the one that it took
  pub Switches-here : IsDistinct old → slot_of new.slots number ≡ option_map (λ (entry : Entry). (key, entry)) slot
  Switches-here distinct =
      elim (option_cases slot) [
        | inl none ↦ elim (slot_cases (slot_of new.slots number)) [
          | inl also ↦ also ∙ ap (option_map (λ (entry : Entry). (key, entry))) (sym none)
          | inr found ↦
              let is = slot_of-found new number found.0 found.1 found.2 in
              elim (new_slot found.0 found.1 is.0) [
                | inl here ↦ absurd (cc (switches.updates.changed, ap (get new) here.0, is.0, none))
                | inr there ↦ absurd (there.0 (switches.alone found.0 found.1 there.1 is.1))
              ]
        ]
        | inr entry ↦
            let there = switches.updates.changed ∙ entry.1 in
            slot_of-there new number key entry.0 (Switches-distinct distinct) there (switches.after entry.0 entry.1)
            ∙ ap (option_map (λ (entry : Entry). (key, entry))) (sym entry.1)
      ]
