-- The table after one link changed or opened.
use Rattle.std.proofs.Common.{◌≡◌, ℕ, suc, ◌+◌, ◌-◌, ◌^◌, ◌<◌, Bool, true, false, List, [], ◌∷◌, ◌++◌, length, get_or, set, drop, Option, Some, None, cond, refl, sym, ap, subst, slice_index_or, add-one, ◌∙◌, inl, inr, arith, if◌then◌else◌}
use Rattle.std.specs.List.{All}
use Rattle.std.proofs.lemmas.Bool.{cases_eq, cases_lt, cases_Bool, true≢false}
use Rattle.std.proofs.lemmas.List.{get_or_default}
use Rattle.link_table.specs.Index.{key_of}
use Rattle.std.proofs.lemmas.Grind.{common_steps}
use Rattle.std.proofs.lemmas.List.Sums.{sum_by-set, sum_by_push}
use Rattle.slab.specs.Slab.{Slab, get, slab_len, Updates, HasRoomFor}
use Rattle.link_table.specs.Links.{Link, is_counted, counted, changed, link_at, is_open, closed_link, with_message, fits, new_link, sent, ended, lost, taken, IsLink, AreLinks}
use Rattle.link_table.specs.Table.{link_of, gone_link, slot_of, link_or_gone, link_in, links_to, IsEntry, IsListed, IsTable, IsIndex, entry_in, slot_left, index_left, slots_of, Removes, PutsBack}
use Rattle.link_table.specs.declared.entry.Entry.{Entry}
use Rattle.link_table.specs.declared.state.LinkState.{LinkState}
use Rattle.link_table.specs.declared.state.LinkState.TheVariants.{Ended, Overrun}
use Rattle.link_table.proofs.RisingPairs.{key_of-there}
use Rattle.link_table.proofs.SlotLemmas.{slot_cases, slot_of-found, slot_of-there, slot_of-entry, Switches, Switches-distinct, Switches-others, Switches-here}
use Rattle.link_table.proofs.SwitchedIndex.{key_or_none, IsIndex-kept, IsIndex-gone, IsIndex-more}
use Rattle.link_table.proofs.LinkLemmas.{length-links_to, get_or-links_to, links_to-changed, links_to-same, changed-given, number_cases, link_at-given, link_at-never}

-- a link, or the gone link where it does not count
abbrev pub settled : Link → Link
settled link = if is_counted link then link else gone_link

-- a link's part of the number of those that count
abbrev part : Link → ℕ
part link = cond (is_counted link) 1 0

part-settled : (link : Link) → part (settled link) ≡ part link
part-settled link = elim (cases_Bool (is_counted link)) [
  | inl counts ↦ simp counts
  | inr not ↦ simp not
]

-- a link that is closed is settled
settled-closed : (state : LinkState) (pending : List (List ℕ)) → settled (closed_link state pending) ≡ closed_link state pending
settled-closed state [] = refl
settled-closed state (message ∷ pending) = let counts : is_counted (record { state = state; pending = message ∷ pending }) ≡ true = grind (arith, common_steps) in simp counts

-- a link that is open is settled
settled-open : (link : Link) → is_open link.state ≡ true → settled link ≡ link
settled-open link open_now = let counts : is_counted link ≡ true = grind (arith, common_steps) in simp counts

-- a link that counts is settled
settled-counts : (link : Link) → is_counted link ≡ true → settled link ≡ link
settled-counts link counts = simp counts

-- of two links that are settled each is
settled-either : (test : Bool) (first second : Link) → (test ≡ true → settled first ≡ first) → (test ≡ false → settled second ≡ second) → settled (if test then first else second) ≡ (if test then first else second)
settled-either true first second one other = one refl
settled-either false first second one other = other refl

-- a link that counts is settled after each change
pub settled-sent : (message : List ℕ) (link : Link) → is_counted link ≡ true → settled (sent message link) ≡ sent message link
settled-sent message link counts =
    let longer : Link = record link { pending = link.pending ++ message ∷ [] } in
    settled-either (is_open link.state) (with_message message link) link
    (λ is. settled-either (fits longer.pending) longer (closed_link Overrun link.pending) (λ _. settled-open longer is) (λ _. settled-closed Overrun link.pending))
    (λ _. settled-counts link counts)

pub settled-ended : (link : Link) → is_counted link ≡ true → settled (ended link) ≡ ended link
settled-ended link counts =
    settled-either (is_open link.state) (closed_link Ended link.pending) link (λ _. settled-closed Ended link.pending) (λ _. settled-counts link counts)

pub settled-lost : (link : Link) → is_counted link ≡ true → settled (lost link) ≡ lost link
settled-lost link counts = refl

pub settled-taken : (link : Link) → is_counted link ≡ true → settled (taken link) ≡ taken link
settled-taken link counts =
    let shorter : Link = record link { pending = drop 1 link.pending } in
    settled-either (is_open link.state) shorter (closed_link link.state shorter.pending) (λ is. settled-open shorter is) (λ _. settled-closed link.state shorter.pending)

-- what is removed from the slot that was found
pub Removes-found : (old new : Slab Entry) (number key : ℕ) (entry removed : Entry) → slot_of old.slots number ≡ Some (key, entry) → new.vacant_key ≡ key → get old key ≡ Some removed → Updates old new key None → slab_len new + 1 ≡ slab_len old → HasRoomFor new 1 → Removes old number removed new
Removes-found old new number key entry removed found next there updates len room =
    let is = slot_of-found old number key entry found in
    let same : entry ≡ removed = cc (is.0, there) in
    record {
      there = rw next there;
      has = ap (λ (e : Entry). e.number) (sym same) ∙ is.1;
      updates = subst (λ (k : ℕ). Updates old new k None) (sym next) updates;
      len = len;
      room = room;
    }

-- a number that a slot has is that of its link
pub link_at-found : (slots : Slab Entry) (opened number key : ℕ) (entry : Entry) → IsTable slots opened → slot_of slots.slots number ≡ Some (key, entry) → link_at (links_to slots.slots opened) number ≡ Some (link_of entry)
link_at-found slots opened number key entry table found =
    let is = slot_of-found slots number key entry found in
    let listed = table.listed key entry is.0 in
    link_at-given slots.slots opened number (omega (arith, listed, is.1)) (omega (arith, listed, is.1)) ∙ ap (λ (slot : Option (ℕ × Entry)). Some (link_or_gone slot)) found

pub link_at-entry : (slots : Slab Entry) (opened number : ℕ) (entry : Entry) → IsTable slots opened → entry_in slots.slots number ≡ Some entry → link_at (links_to slots.slots opened) number ≡ Some (link_of entry)
link_at-entry slots opened number entry table found =
    let slot = slot_of-entry slots.slots number entry found in
    link_at-found slots opened number slot.0 entry table slot.1

-- a number that was given is that of the link in its slot, or of one that is gone
link_at-in : (slots : Slab Entry) (opened number : ℕ) (link : Link) → link_at (links_to slots.slots opened) number ≡ Some link → link_in slots.slots number ≡ link
link_at-in slots opened number link there =
    elim (number_cases opened number) [
      | inl never ↦ absurd (cc (link_at-never slots.slots opened number never, there))
      | inr given ↦ cc (link_at-given slots.slots opened number given.0 given.1, there)
    ]

-- callers may rely on each link of a table
pub IsTable-links : (slots : Slab Entry) (opened : ℕ) → IsTable slots opened → AreLinks (links_to slots.slots opened)
IsTable-links slots opened table = record {
  few = omega (arith, table.in_limit, table.all_counted);
  numbered = omega (arith, table.numbered, length-links_to slots.slots opened);
  each = λ number link there. subst IsLink (link_at-in slots opened number link there) (by_slot number (slot_of slots.slots number) refl);
}
  where
    by_slot : (number : ℕ) (slot : Option (ℕ × Entry)) → slot_of slots.slots number ≡ slot → IsLink (link_or_gone slot)
    by_slot number None found = record { suited = refl; in_limit = refl; filled = refl }
    by_slot number (Some (key, entry)) found =
        let sound = (table.listed key entry (slot_of-found slots number key entry found).0).sound in
        record { suited = sound.suited; in_limit = sound.in_limit; filled = sound.filled }

-- an entry that was taken out was sound, and was the link of its number
pub Removes-entry : (old mid : Slab Entry) (opened number : ℕ) (entry : Entry) → IsTable old opened → Removes old number entry mid → IsEntry entry
Removes-entry old mid opened number entry table removes = (table.listed mid.vacant_key entry removes.there).sound

pub Removes-link : (old mid : Slab Entry) (opened number : ℕ) (entry : Entry) → IsTable old opened → Removes old number entry mid → link_at (links_to old.slots opened) number ≡ Some (link_of entry)
Removes-link old mid opened number entry table removes =
    link_at-found old opened number mid.vacant_key entry table (slot_of-there old number mid.vacant_key entry table.distinct removes.there removes.has)

-- one entry was taken out, and what it became was put back, where it counts
pub record Replaces (old new : Slab Entry) (opened number key : ℕ) (before after : Entry) : Type 0 where
  pub table : IsTable old opened
  pub has : before.number ≡ number
  pub there : get old key ≡ Some before
  pub updates : Updates old new key (slot_left after)
  pub len : slab_len new + 1 ≡ slab_len old + slots_of after
  pub same : after.number ≡ before.number
  pub sound : IsEntry after

pub Replaces-by : (old mid new : Slab Entry) (opened number : ℕ) (before after : Entry) → IsTable old opened → Removes old number before mid → PutsBack mid after new → after.number ≡ before.number → IsEntry after → Replaces old new opened number mid.vacant_key before after
Replaces-by old mid new opened number before after table removes puts same sound =
    record {
      table = table;
      has = removes.has;
      there = removes.there;
      updates = record {
        changed = puts.updates.changed;
        others = λ other differs. puts.updates.others other differs ∙ removes.updates.others other differs;
      };
      len = omega (arith, removes.len, puts.len);
      same = same;
      sound = sound;
    }

module _ (old new : Slab Entry) (opened number key : ℕ) (before after : Entry) (replaces : Replaces old new opened number key before after) where
  listed : IsListed opened before
  listed = replaces.table.listed key before replaces.there

  slot_left-is : (entry : Entry) → slot_left after ≡ Some entry → (after ≡ entry) × (is_counted (link_of after) ≡ true)
  slot_left-is entry left = elim (cases_Bool (is_counted (link_of after))) [
    | inl counts ↦ (grind (arith, common_steps), counts)
    | inr not ↦ absurd (grind (arith, common_steps))
  ]

  switches : Switches old new key before.number (slot_left after)
  switches = record {
    updates = replaces.updates;
    before = λ entry there. let same : entry ≡ before = cc (there, replaces.there) in ap (λ (e : Entry). e.number) same;
    after = λ entry left. ap (λ (e : Entry). e.number) (sym (slot_left-is entry left).0) ∙ replaces.same;
    alone = λ other entry there same. replaces.table.distinct other key entry before there replaces.there same;
  }

  -- the link of the number is what is left of it
  link_left : link_in new.slots before.number ≡ settled (link_of after)
  link_left = ap link_or_gone (Switches-here old new key before.number (slot_left after) switches replaces.table.distinct) ∙ elim (cases_Bool (is_counted (link_of after))) [
    | inl counts ↦ rw counts refl
    | inr not ↦ rw not refl
  ]

  link_was : link_in old.slots before.number ≡ link_of before
  link_was = ap link_or_gone (slot_of-there old before.number key before replaces.table.distinct replaces.there refl)

  links_left : links_to new.slots opened ≡ set (links_to old.slots opened) (before.number - 1) (settled (link_of after))
  links_left =
      links_to-changed old.slots new.slots opened before.number listed.from_one listed.given (λ other differs. ap link_or_gone (Switches-others old new key before.number (slot_left after) switches replaces.table.distinct other differs))
      ∙ ap (set (links_to old.slots opened) (before.number - 1)) link_left

  -- the list of all links, where the entry changed in this way
  pub Replaces-changed : (change : Link → Link) → ((link : Link) → is_counted link ≡ true → settled (change link) ≡ change link) → link_of after ≡ change (link_of before) → links_to new.slots opened ≡ changed change (links_to old.slots opened) number
  Replaces-changed change settles is =
      links_left
      ∙ ap (set (links_to old.slots opened) (before.number - 1)) (ap settled is ∙ settles (link_of before) listed.counts ∙ ap change (sym link_was))
      ∙ sym (changed-given change old.slots opened before.number listed.from_one listed.given)
      ∙ ap (changed change (links_to old.slots opened)) replaces.has

  counted_left : slab_len new ≡ counted (links_to new.slots opened)
  counted_left =
      let links = links_to old.slots opened in
      let at = before.number - 1 in
      let link = settled (link_of after) in
      let within : at < length links = omega (arith, length-links_to old.slots opened, listed) in
      let one : part (get_or links at gone_link) ≡ 1 =
      ap part (get_or-links_to old.slots opened at (omega (arith, listed)) ∙ ap (link_in old.slots) (omega (arith, listed)) ∙ link_was)
      ∙ ap (λ (b : Bool). cond b 1 0) listed.counts
      in
      omega (arith, sum_by-set part links at link gone_link within, one, part-settled (link_of after), ap counted links_left, replaces.table.all_counted, replaces.len)

  listed_left : (other : ℕ) (entry : Entry) → get new other ≡ Some entry → IsListed opened entry
  listed_left other entry there = elim (cases_eq other key) [
    | inl same ↦
        let is = slot_left-is entry (sym replaces.updates.changed ∙ ap (get new) (sym same) ∙ there) in
        subst (IsListed opened) is.0 (record {
          sound = replaces.sound;
          from_one = omega (arith, listed, replaces.same);
          given = omega (arith, listed, replaces.same);
          counts = is.1;
        })
    | inr differs ↦ replaces.table.listed other entry (sym (replaces.updates.others other differs) ∙ there)
  ]

  Replaces-table : IsTable new opened
  Replaces-table = record {
    listed = listed_left;
    distinct = Switches-distinct old new key before.number (slot_left after) switches replaces.table.distinct;
    all_counted = counted_left;
    in_limit = elim (cases_Bool (is_counted (link_of after))) [
      | inl counts ↦ let one : slots_of after ≡ 1 = simp counts in omega (arith, replaces.len, replaces.table.in_limit)
      | inr not ↦ let nought : slots_of after ≡ 0 = simp not in omega (arith, replaces.len, replaces.table.in_limit)
    ];
    numbered = replaces.table.numbered;
  }

  replaced_index : (index : List (ℕ × ℕ)) → IsIndex old.slots index → IsIndex new.slots (index_left after index)
  replaced_index index is = elim (cases_Bool (is_counted (link_of after))) [
    | inl counts ↦ rw counts (IsIndex-kept old new key before.number (slot_left after) index switches replaces.table.distinct is before after replaces.there (rw counts refl))
    | inr not ↦ rw (not, replaces.same) (IsIndex-gone old new key before.number (slot_left after) index switches replaces.table.distinct is (rw not refl))
  ]

  -- the table and its index, from which the number went where the link counts no more
  pub Replaces-indexed : (index left : List (ℕ × ℕ)) → IsIndex old.slots index → left ≡ index_left after index → IsTable new opened × IsIndex new.slots left
  Replaces-indexed index left is same = (Replaces-table, subst (IsIndex new.slots) (sym same) (replaced_index index is))

-- what the table says reads the slots alone
pub IsTable-slots : (old new : Slab Entry) (opened : ℕ) → new.slots ≡ old.slots → IsTable old opened → IsTable new opened
IsTable-slots old new opened same table =
    let at : (key : ℕ) → get new key ≡ get old key = λ key. ap (λ (slots : List (Option Entry)). slice_index_or slots key None) same in
    record {
      listed = λ key entry there. table.listed key entry (sym (at key) ∙ there);
      distinct = λ key other entry second there also. table.distinct key other entry second (sym (at key) ∙ there) (sym (at other) ∙ also);
      all_counted = rw same table.all_counted;
      in_limit = rw same table.in_limit;
      numbered = table.numbered;
    }

-- and so does what the index says
pub Keeps-indexed : (old new : Slab Entry) (opened : ℕ) (index left : List (ℕ × ℕ)) → new.slots ≡ old.slots → left ≡ index → IsTable old opened × IsIndex old.slots index → IsTable new opened × IsIndex new.slots left
Keeps-indexed old new opened index left same stays are =
    (IsTable-slots old new opened same are.0, subst (IsIndex new.slots) (sym stays) (subst (λ (slots : List (Option Entry)). IsIndex slots index) (sym same) are.1))

-- a number above those that were given has no slot
pub slot_of-unopened : (slots : Slab Entry) (opened number : ℕ) → IsTable slots opened → opened < number → slot_of slots.slots number ≡ None
slot_of-unopened slots opened number table above = elim (slot_cases (slot_of slots.slots number)) [
  | inl none ↦ none
  | inr found ↦
      let is = slot_of-found slots number found.0 found.1 found.2 in
      absurd (omega (arith, is.1, table.listed found.0 found.1 is.0))
]

-- each number of the index was given
pub numbers_given : (slots : Slab Entry) (opened : ℕ) (index : List (ℕ × ℕ)) → IsTable slots opened → IsIndex slots.slots index → All (λ pair. pair.0 < opened + 1) index
numbers_given slots opened index table is place other within =
    let number = (get_or index place (0, 0)).0 in
    let same = ap (λ (pair : ℕ × ℕ). pair.0) (get_or_default index place other (0, 0) within) in
    elim (cases_lt number (opened + 1)) [
      | inl below ↦ omega (arith, same, below)
      | inr above ↦
          let none : key_of index number ≡ None = is.keys number ∙ ap key_or_none (slot_of-unopened slots opened number table (omega (arith, above))) in
          absurd (true≢false (sym (rw none at (key_of-there index place within))))
    ]

-- a link opened: its entry was put into an empty slot, under the next number
pub record Adds (old new : Slab Entry) (opened key : ℕ) (entry : Entry) : Type 0 where
  pub table : IsTable old opened
  pub vacant : get old key ≡ None
  pub updates : Updates old new key (Some entry)
  pub len : slab_len new ≡ slab_len old + 1
  pub below : slab_len old < 256
  pub last : opened + 1 < 2 ^ 32
  pub number : entry.number ≡ opened + 1
  pub link : link_of entry ≡ new_link
  pub sound : IsEntry entry

module _ (old new : Slab Entry) (opened key : ℕ) (entry : Entry) (adds : Adds old new opened key entry) where
  adds_switches : Switches old new key (suc opened) (Some entry)
  adds_switches = record {
    updates = adds.updates;
    before = λ other there. absurd (cc (adds.vacant, there));
    after = λ other is. let same : other ≡ entry = cc (is) in ap (λ (e : Entry). e.number) same ∙ adds.number ∙ add-one opened;
    alone = λ other second there same. absurd (omega (arith, same, adds.table.listed other second there));
  }

  pub Adds-links : links_to new.slots (opened + 1) ≡ links_to old.slots opened ++ new_link ∷ []
  Adds-links =
      let others = Switches-others old new key (suc opened) (Some entry) adds_switches adds.table.distinct in
      let here = Switches-here old new key (suc opened) (Some entry) adds_switches adds.table.distinct in
      let front = links_to-same old.slots new.slots opened (λ number within. ap link_or_gone (others number (λ same. omega arith))) in
      rw (add-one, front, here, adds.link) refl

  adds_index : (index : List (ℕ × ℕ)) → IsIndex old.slots index → IsIndex new.slots (index ++ (opened + 1, key) ∷ [])
  adds_index index is = rw add-one (IsIndex-more old new key (suc opened) (Some entry) index adds_switches adds.table.distinct is entry (slot_of-unopened old opened (suc opened) adds.table (omega arith)) refl)

  adds_counted : slab_len new ≡ counted (links_to new.slots (opened + 1))
  adds_counted =
      let more = ap counted Adds-links in
      let one = sum_by_push part (links_to old.slots opened) new_link in
      omega (arith, more, one, adds.table.all_counted, adds.len)

  adds_listed : (other : ℕ) (second : Entry) → get new other ≡ Some second → IsListed (opened + 1) second
  adds_listed other second there = elim (cases_eq other key) [
    | inl same ↦
        let is : entry ≡ second = cc (adds.updates.changed, ap (get new) same, there) in
        subst (IsListed (opened + 1)) is (record {
          sound = adds.sound;
          from_one = omega (arith, adds.number);
          given = omega (arith, adds.number);
          counts = ap is_counted adds.link;
        })
    | inr differs ↦
        let was = adds.table.listed other second (sym (adds.updates.others other differs) ∙ there) in
        record { sound = was.sound; from_one = was.from_one; given = omega arith; counts = was.counts }
  ]

  adds_table : IsTable new (opened + 1)
  adds_table = record {
    listed = adds_listed;
    distinct = Switches-distinct old new key (suc opened) (Some entry) adds_switches adds.table.distinct;
    all_counted = adds_counted;
    in_limit = omega (arith, adds.len, adds.below);
    numbered = adds.last;
  }

  -- the table and its index, at whose end the number is
  pub Adds-indexed : (index more : List (ℕ × ℕ)) → IsIndex old.slots index → more ≡ index ++ (opened + 1, key) ∷ [] → IsTable new (opened + 1) × IsIndex new.slots more
  Adds-indexed index more is same = (adds_table, subst (IsIndex new.slots) (sym same) (adds_index index is))
