-- The list of all links that were opened, by their numbers.
use Rattle.std.proofs.Common.{◌≡◌, ◌≢◌, ◌⊎◌, ℕ, zero, suc, ◌-◌, ◌^◌, ◌<◌, ◌≤◌, true, false, List, [], ◌∷◌, length, get_or, set, Option, Some, None, refl, sym, ap, ◌∙◌, inl, inr, arith, length-append, nat_le}
use Rattle.std.proofs.Math.Bool.{or-true}
use Rattle.std.proofs.Math.Seq.{set-append_seam, get_or-append_seam}
use Rattle.std.proofs.lemmas.Bool.{cases_eq, le-leb, lt-leb}
use Rattle.std.proofs.lemmas.List.{set-append_left, get_or_append_left, set-get_or}
use Rattle.std.proofs.lemmas.Option.{slice_get-get_or, slice_get_past}
use Rattle.link_table.specs.Links.{Link, link_at, changed, pending_of, counted, is_full}
use Rattle.link_table.specs.Table.{gone_link, slot_of, link_or_gone, link_in, links_to}
use Rattle.link_table.specs.declared.entry.Entry.{Entry}

module _ (slots : List (Option Entry)) where
  pub length-links_to : (opened : ℕ) → length (links_to slots opened) ≡ opened
  length-links_to zero = refl
  length-links_to (suc opened) = omega (arith, length-append (links_to slots opened) (link_in slots (suc opened) ∷ []), length-links_to opened)

  -- the link of a number that was given
  pub get_or-links_to : (opened at : ℕ) → at < opened → get_or (links_to slots opened) at gone_link ≡ link_in slots (suc at)
  get_or-links_to zero at within = absurd (omega arith)
  get_or-links_to (suc opened) at within =
      let before = links_to slots opened in
      let link = link_in slots (suc opened) in
      elim (cases_eq at opened) [
        | inl last ↦
            let seam = get_or-append_seam before link [] gone_link in
            let same : at ≡ length before = omega (arith, length-links_to opened) in
            rw (same, seam) (rw (← same, last) refl)
        | inr earlier ↦
            let lower : at < opened = omega arith in
            let front : at < length before = omega (arith, length-links_to opened) in
            get_or_append_left before (link ∷ []) gone_link at front ∙ get_or-links_to opened at lower
      ]

  pub link_at-given : (opened number : ℕ) → 0 < number → number ≤ opened → link_at (links_to slots opened) number ≡ Some (link_in slots number)
  link_at-given opened number positive given =
      let within : number - 1 < length (links_to slots opened) = omega (arith, length-links_to opened) in
      let back : suc (number - 1) ≡ number = omega arith in
      let read = slice_get-get_or (links_to slots opened) (number - 1) gone_link within in
      let link = get_or-links_to opened (number - 1) (omega arith) in
      let positive_test : nat_le 1 number ≡ true = le-leb 1 number (omega arith) in
      rw positive_test (read ∙ ap Some (link ∙ ap (link_in slots) back))

  pub link_at-never : (opened number : ℕ) → (number ≡ 0) ⊎ (opened < number) → link_at (links_to slots opened) number ≡ None
  link_at-never opened number (inl nought) = rw nought refl
  link_at-never opened number (inr above) =
      let positive : nat_le 1 number ≡ true = le-leb 1 number (omega arith) in
      let past : length (links_to slots opened) ≤ number - 1 = omega (arith, length-links_to opened) in
      rw positive (slice_get_past (links_to slots opened) (number - 1) past)

-- where the links up to a number are the same, so is the list
pub links_to-same : (old new : List (Option Entry)) (opened : ℕ) → ((number : ℕ) → number ≤ opened → link_in new number ≡ link_in old number) → links_to new opened ≡ links_to old opened
links_to-same old new zero same = refl
links_to-same old new (suc opened) same =
    let front = links_to-same old new opened (λ number within. same number (omega arith)) in
    let last = same (suc opened) (omega arith) in
    rw (front, last) refl

-- where the link of one number changes, one element does
pub links_to-changed : (old new : List (Option Entry)) (opened number : ℕ) → 0 < number → number ≤ opened → ((other : ℕ) → other ≢ number → link_in new other ≡ link_in old other) → links_to new opened ≡ set (links_to old opened) (number - 1) (link_in new number)
links_to-changed old new zero number positive given others = absurd (omega arith)
links_to-changed old new (suc opened) number positive given others =
    elim (cases_eq number (suc opened)) [
      | inl last ↦
          let front = links_to-same old new opened (λ other within. others other (λ same. omega arith)) in
          let at : number - 1 ≡ length (links_to old opened) = omega (arith, length-links_to old opened) in
          let seam = set-append_seam (links_to old opened) (link_in old (suc opened)) [] (link_in new number) in
          rw (at, seam, front, last) refl
      | inr earlier ↦
          let front = links_to-changed old new opened number positive (omega arith) others in
          let stays = others (suc opened) (λ same. earlier (sym same)) in
          let within : number - 1 < length (links_to old opened) = omega (arith, length-links_to old opened) in
          let left = set-append_left (links_to old opened) (link_in old (suc opened) ∷ []) (number - 1) (link_in new number) within in
          rw (left, front, stays) refl
    ]

-- the list after a change to the link of a number that was given
pub changed-given : (change : Link → Link) (slots : List (Option Entry)) (opened number : ℕ) → 0 < number → number ≤ opened → changed change (links_to slots opened) number ≡ set (links_to slots opened) (number - 1) (change (link_in slots number))
changed-given change slots opened number positive given =
    rw (link_at-given slots opened number positive given) refl

-- a number that was given, or none
pub number_cases : (opened number : ℕ) → ((number ≡ 0) ⊎ (opened < number)) ⊎ ((0 < number) × (number ≤ opened))
number_cases opened number = grind arith

-- a change of a link that is gone, which leaves it so, changes nothing
pub changed-gone : (change : Link → Link) (slots : List (Option Entry)) (opened number : ℕ) → slot_of slots number ≡ None → change gone_link ≡ gone_link → changed change (links_to slots opened) number ≡ links_to slots opened
changed-gone change slots opened number none stays =
    elim (number_cases opened number) [
      | inl never ↦ rw (link_at-never slots opened number never) refl
      | inr given ↦
          let links = links_to slots opened in
          let gone : link_in slots number ≡ gone_link = ap link_or_gone none in
          let here : get_or links (number - 1) gone_link ≡ gone_link = get_or-links_to slots opened (number - 1) (omega arith) ∙ ap (link_in slots) (omega arith) ∙ gone in
          let kept = set-get_or links (number - 1) gone_link in
          changed-given change slots opened number given.0 given.1
          ∙ ap (λ (l : Link). set links (number - 1) l) (ap change gone ∙ stays ∙ sym here) ∙ kept
    ]

-- a number that was given and has no slot is that of a link that is gone
pub link_at-gone : (slots : List (Option Entry)) (opened number : ℕ) → slot_of slots number ≡ None → 0 < number → number ≤ opened → link_at (links_to slots opened) number ≡ Some gone_link
link_at-gone slots opened number none positive given =
    link_at-given slots opened number positive given ∙ ap (λ (slot : Option (ℕ × Entry)). Some (link_or_gone slot)) none

-- on a link that has no slot nothing waits
pub pending_of-gone : (slots : List (Option Entry)) (opened number : ℕ) → slot_of slots number ≡ None → pending_of (links_to slots opened) number ≡ []
pending_of-gone slots opened number none =
    elim (number_cases opened number) [
      | inl never ↦ rw (link_at-never slots opened number never) refl
      | inr given ↦ rw (link_at-gone slots opened number none given.0 given.1) refl
    ]

-- no link may open where 256 count or the last number was given
pub is_full-true : (links : List Link) → (256 ≤ counted links) ⊎ (2 ^ 32 - 1 ≤ length links) → is_full links ≡ true
is_full-true links (inl many) = rw (le-leb 256 (counted links) many) refl
is_full-true links (inr last) = rw (le-leb (2 ^ 32 - 1) (length links) last) (or-true (nat_le 256 (counted links)))

-- and else one may
pub is_full-false : (links : List Link) → counted links < 256 → length links < 2 ^ 32 - 1 → is_full links ≡ false
is_full-false links few more = rw (lt-leb 256 (counted links) few, lt-leb (2 ^ 32 - 1) (length links) more) refl
