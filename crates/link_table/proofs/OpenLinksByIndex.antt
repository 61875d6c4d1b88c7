-- The links that are open are those of the index that are.
use Rattle.std.proofs.Common.{◌≡◌, ℕ, zero, suc, ◌+◌, ◌<◌, ◌≤◌, List, [], ◌∷◌, ◌++◌, length, get_or, None, refl, sym, ap, subst, ◌∙◌, inl, inr, arith, append_assoc}
use Rattle.std.specs.List.{All, flat_map}
use Rattle.std.proofs.lemmas.Bool.{cases_eq, ne_eqb}
use Rattle.std.proofs.lemmas.Grind.{common_steps}
use Rattle.std.proofs.lemmas.List.{get_or_default}
use Rattle.slab.specs.Slab.{Slab, get}
use Rattle.link_table.specs.Links.{Link, if_open, open_from, open_links}
use Rattle.link_table.specs.Index.{RiseFrom, key_of}
use Rattle.link_table.specs.Table.{link_of, link_or_gone, link_in, links_to, open_in, IsTable, IsIndex}
use Rattle.link_table.specs.declared.entry.Entry.{Entry}
use Rattle.link_table.specs.declared.open_link.OpenLink.{OpenLink}
use Rattle.link_table.proofs.RisingPairs.{key_of-below, key_of-at}
use Rattle.link_table.proofs.SlotLemmas.{slot_of-found}
use Rattle.link_table.proofs.SwitchedIndex.{slot_of-key, slot_of-no_key}
use Rattle.link_table.proofs.LinkLemmas.{length-links_to}
use Rattle.link_table.proofs.TableLemmas.{numbers_given}

-- of the links with one more at the end, that one comes last
open_from-push : (number : ℕ) (links : List Link) (link : Link) → open_from number (links ++ link ∷ []) ≡ open_from number links ++ if_open (number + length links) link
open_from-push number [] link = grind (arith, common_steps)
open_from-push number (first ∷ links) link =
    let next : number + 1 + length links ≡ number + suc (length links) = omega arith in
    ap (λ rest. if_open number first ++ rest) (open_from-push (number + 1) links link ∙ ap (λ n. open_from (number + 1) links ++ if_open n link) next)
    ∙ sym (append_assoc (if_open number first) (open_from (number + 1) links) (if_open (number + suc (length links)) link))

-- what is told of so many numbers from this one on
abbrev along : (ℕ → List OpenLink) → ℕ → ℕ → List OpenLink
along part number zero = []
along part number (suc count) = part number ++ along part (number + 1) count

along-last : (part : ℕ → List OpenLink) (number count : ℕ) → along part number (suc count) ≡ along part number count ++ part (number + count)
along-last part number zero = grind (arith, common_steps)
along-last part number (suc count) =
    let next : number + 1 + count ≡ number + suc count = omega arith in
    ap (λ rest. part number ++ rest) (along-last part (number + 1) count ∙ ap (λ n. along part (number + 1) count ++ part n) next)
    ∙ sym (append_assoc (part number) (along part (number + 1) count) (part (number + suc count)))

-- a number of which nothing is told may be passed over
along-pairs : (part : ℕ → List OpenLink) (number count : ℕ) (pairs : List (ℕ × ℕ)) → RiseFrom number pairs → All (λ pair. pair.0 < number + count) pairs → ((other : ℕ) → number ≤ other → key_of pairs other ≡ None → part other ≡ []) → flat_map (λ pair. part pair.0) pairs ≡ along part number count
along-pairs part number zero [] rise all nothing = refl
along-pairs part number zero (pair ∷ pairs) rise all nothing = absurd (omega (arith, rise.0, all 0 (0, 0)))
along-pairs part number (suc count) [] rise all nothing =
    rw (nothing number (omega arith) refl) (along-pairs part (number + 1) count [] tt (λ place other within. absurd (omega arith)) (λ other above none. nothing other (omega arith) none))
along-pairs part number (suc count) (pair ∷ pairs) rise all nothing = elim (cases_eq pair.0 number) [
  | inl here ↦
      let rest : RiseFrom (number + 1) pairs = subst (λ (n : ℕ). RiseFrom (n + 1) pairs) here rise.1 in
      rw here (ap (λ later. part number ++ later) (along-pairs part (number + 1) count pairs rest
      (λ place other within. omega (arith, all (suc place) other (omega arith)))
      (λ other above none. nothing other (omega arith) (rw (ne_eqb pair.0 other (λ same. omega arith)) none))))
  | inr differs ↦
      let above : number + 1 ≤ pair.0 = omega (arith, rise.0) in
      let none = key_of-below (pair ∷ pairs) (number + 1) number (above, rise.1) (omega arith) in
      rw (nothing number (omega arith) none) (along-pairs part (number + 1) count (pair ∷ pairs) (above, rise.1)
      (λ place other within. omega (arith, all place other within))
      (λ other above none. nothing other (omega arith) none))
]

flat_map-same : {A : Type 0} (one other : A → List OpenLink) (xs : List A) → All (λ x. one x ≡ other x) xs → flat_map one xs ≡ flat_map other xs
flat_map-same one other [] same = refl
flat_map-same one other (x ∷ xs) same =
    let here = same 0 x (omega arith) in
    let later = flat_map-same one other xs (λ place d within. same (suc place) d (omega arith)) in
    cc

module _ (slots : Slab Entry) (opened : ℕ) (index : List (ℕ × ℕ)) (table : IsTable slots opened) (is : IsIndex slots.slots index) (rise : RiseFrom 1 index) where
  -- what is told of a number
  abbrev part : ℕ → List OpenLink
  part number = if_open number (link_in slots.slots number)

  links_along : (count : ℕ) → open_links (links_to slots.slots count) ≡ along part 1 count
  links_along zero = refl
  links_along (suc count) =
      let links = links_to slots.slots count in
      let last : 1 + length links ≡ suc count = omega (arith, length-links_to slots.slots count) in
      open_from-push 1 links (link_in slots.slots (suc count))
      ∙ ap (λ n. open_links links ++ if_open n (link_in slots.slots (suc count))) last
      ∙ ap (λ told. told ++ part (suc count)) (links_along count)
      ∙ ap (λ n. along part 1 count ++ part n) (omega arith)
      ∙ sym (along-last part 1 count)

  -- a number that is not in the index is that of a link that is gone
  nothing_told : (number : ℕ) → key_of index number ≡ None → part number ≡ []
  nothing_told number none = ap (λ slot. if_open number (link_or_gone slot)) (slot_of-no_key slots.slots index number is none)

  -- what is told of a number of the index is what its entry tells
  told : All (λ pair. open_in (get slots pair.1) ≡ part pair.0) index
  told place other within =
      let pair = get_or index place (0, 0) in
      let (entry, in_slot) = slot_of-key slots.slots index pair.0 pair.1 is (key_of-at index 1 pair.0 place rise within refl) in
      let found = slot_of-found slots pair.0 pair.1 entry in_slot in
      subst (λ (p : ℕ × ℕ). open_in (get slots p.1) ≡ part p.0) (sym (get_or_default index place other (0, 0) within)) (
      ap open_in found.0
      ∙ ap (λ n. if_open n (link_of entry)) found.1
      ∙ ap (λ slot. if_open pair.0 (link_or_gone slot)) (sym in_slot)
      )

  pub open_links-index : flat_map (λ pair. open_in (get slots pair.1)) index ≡ open_links (links_to slots.slots opened)
  open_links-index =
      flat_map-same (λ pair. open_in (get slots pair.1)) (λ pair. part pair.0) index told
      ∙ along-pairs part 1 opened index rise (λ place other within. omega (arith, numbers_given slots opened index table is place other within)) (λ number positive none. nothing_told number none)
      ∙ sym (links_along opened)
