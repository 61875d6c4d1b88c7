-- The subscriptions that live where links change: each of them lives on as long as its link is open.
use Rattle.std.proofs.Common.{◌≡◌, ◌≤◌, ℕ, Bool, true, false, ◌&&◌, not, cond, List, [], ◌∷◌, ◌++◌, length, map, filter, Contains, refl, sym, ap, subst, ◌∙◌, arith, true≢false}
use Rattle.std.proofs.lemmas.List.{length-append}
use Rattle.m3_terms.specs.InsertedLaws.{head_in, tail_in}
use Rattle.link_table.specs.Links.{Link, is_open, new_link, changed, state_of}
use Rattle.link_table.proofs.NoLinkOpensAgain.{OpensNone, open_before}
use Rattle.link_table.proofs.OtherLinksStay.{length-changed}
use Rattle.link_table.proofs.OpeningKeepsLinks.{state_of-opened}
use Rattle.session_core.specs.Space.{Space}
use Rattle.session_core.specs.Kept.{IsKept}
use Rattle.session_core.specs.Queues.{on_open_links, with_links}
use Rattle.session_core.specs.Numbers.{Numbers, graph_of}
use Rattle.session_core.specs.Entries.{subscription_of, is_living, living, AreEntries}
use Rattle.session_core.specs.declared.entry.Entry.{Entry}
use Rattle.session_core.proofs.Changes.{KeepsOpened, changed-opened, opens-opened}

-- of the links of some entries those that are open were open
abbrev pub OpensNoneOf : List Link → List Link → List Entry → Type 0
OpensNoneOf old new entries = (entry : Entry) → Contains entries entry → is_open (state_of new entry.link) ≡ true → is_open (state_of old entry.link) ≡ true

-- an entry that lives on is a subscription of those that lived, on an open link
keeps : (new : List Link) (entry : Entry) (old rest : List Entry) (ended was now : Bool) → is_open (state_of new entry.link) ≡ now → (now ≡ true → was ≡ true)
    → map subscription_of rest ≡ on_open_links new (map subscription_of old)
    → map subscription_of (cond (not ended && now) (entry ∷ rest) rest) ≡ on_open_links new (map subscription_of (cond (not ended && was) (entry ∷ old) old))
keeps new entry old rest true was now e h same = same
keeps new entry old rest false true true e h same = rw e (ap (λ l. subscription_of entry ∷ l) same)
keeps new entry old rest false true false e h same = rw e same
keeps new entry old rest false false true e h same = absurd (true≢false (sym (h refl)))
keeps new entry old rest false false false e h same = same

-- where no link opens, those that live are those that lived whose links are open
pub living_stays : (old new : List Link) (entries : List Entry) → OpensNoneOf old new entries → living new entries ≡ on_open_links new (living old entries)
living_stays old new [] none = refl
living_stays old new (entry ∷ entries) none =
    keeps new entry (filter (is_living old) entries) (filter (is_living new) entries) entry.ended (is_open (state_of old entry.link)) (is_open (state_of new entry.link)) refl
    (none entry (head_in entry entries)) (living_stays old new entries (λ other c. none other (tail_in entry entries other c)))

both_live : (ended was now : Bool) → (now ≡ true → was ≡ true) → (not ended && now) ≡ true → (not ended && was) ≡ true
both_live true was now h e = e
both_live false was now h e = h e

-- and the entries are what they were
pub entries_stay : (numbers : Numbers) (old new : List Link) (updates numbered : ℕ) (entries : List Entry) → OpensNoneOf old new entries
    → length old ≤ length new → AreEntries numbers old updates numbered entries → AreEntries numbers new updates numbered entries
entries_stay numbers old new updates numbered entries none long are = record {
  each = λ entry c. let one = are.each entry c in let opened = one.opened in record {
    digits = one.digits;
    given = one.given;
    opened = omega arith;
    sequence = one.sequence;
    stands = λ lives. one.stands (both_live entry.ended (is_open (state_of old entry.link)) (is_open (state_of new entry.link)) (none entry c) lives);
  };
  rising = are.rising;
}

-- where one link changes so that it does not open
changed_none : (change : Link → Link) → OpensNone change → (links : List Link) (number : ℕ) (entries : List Entry) → OpensNoneOf links (changed change links number) entries
changed_none change none links number entries entry c = open_before change none links number entry.link

pub living_changed : (change : Link → Link) → OpensNone change → (links : List Link) (number : ℕ) (entries : List Entry)
    → living (changed change links number) entries ≡ on_open_links (changed change links number) (living links entries)
living_changed change none links number entries = living_stays links (changed change links number) entries (changed_none change none links number entries)

pub entries_changed : (change : Link → Link) → OpensNone change → (numbers : Numbers) (links : List Link) (number updates numbered : ℕ) (entries : List Entry)
    → AreEntries numbers links updates numbered entries → AreEntries numbers (changed change links number) updates numbered entries
entries_changed change none numbers links number updates numbered entries are =
    let long = length-changed change links number in
    entries_stay numbers links (changed change links number) updates numbered entries (changed_none change none links number entries) (omega arith) are

-- where the next link opens: no entry is of it
opened_none : (numbers : Numbers) (links : List Link) (updates numbered : ℕ) (entries : List Entry) → AreEntries numbers links updates numbered entries
    → OpensNoneOf links (links ++ new_link ∷ []) entries
opened_none numbers links updates numbered entries are entry c e = ap is_open (sym (state_of-opened links entry.link (are.each entry c).opened)) ∙ e

pub living_opened : (numbers : Numbers) (links : List Link) (updates numbered : ℕ) (entries : List Entry) → AreEntries numbers links updates numbered entries
    → living (links ++ new_link ∷ []) entries ≡ on_open_links (links ++ new_link ∷ []) (living links entries)
living_opened numbers links updates numbered entries are = living_stays links (links ++ new_link ∷ []) entries (opened_none numbers links updates numbered entries are)

pub entries_opened : (numbers : Numbers) (links : List Link) (updates numbered : ℕ) (entries : List Entry) → AreEntries numbers links updates numbered entries
    → AreEntries numbers (links ++ new_link ∷ []) updates numbered entries
entries_opened numbers links updates numbered entries are =
    let long = length-append links (new_link ∷ []) in
    entries_stay numbers links (links ++ new_link ∷ []) updates numbered entries (opened_none numbers links updates numbered entries are) (omega arith) are

-- a space of these links, as it is kept
abbrev pub stored : List ℕ → List (List ℕ) → Numbers → ℕ → ℕ → List Entry → List Link → Space
stored name joined numbers updates numbered entries links = record {
  name = name;
  joined = joined;
  links = links;
  graph = graph_of numbers;
  named = numbers.terms;
  updates = updates;
  subscriptions = living links entries;
  numbered = numbered;
}

-- what holds of it whenever a call is done
abbrev pub IsStored : List ℕ → List (List ℕ) → Numbers → ℕ → ℕ → List Entry → List Link → Type 0
IsStored name joined numbers updates numbered entries links =
    IsKept (stored name joined numbers updates numbered entries links) × AreEntries numbers links updates numbered entries

module _ (name : List ℕ) (joined : List (List ℕ)) (numbers : Numbers) (updates numbered : ℕ) (entries : List Entry) (links new : List Link) where
  -- it holds still where one link changed
  pub stored_changed : (change : Link → Link) → OpensNone change → KeepsOpened change → (number : ℕ) → new ≡ changed change links number
      → IsStored name joined numbers updates numbered entries links → IsStored name joined numbers updates numbered entries new
  stored_changed change none keeps number e is =
      subst (IsStored name joined numbers updates numbered entries) (sym e) (
        record { joined = is.0.joined; opened = changed-opened change keeps links number is.0.opened },
        entries_changed change none numbers links number updates numbered entries is.1,
      )

  -- and the space has the changed links
  pub space_changed : (change : Link → Link) → OpensNone change → (number : ℕ) → new ≡ changed change links number
      → stored name joined numbers updates numbered entries new
      ≡ with_links (stored name joined numbers updates numbered entries links) (changed change links number)
  space_changed change none number e =
      ap (stored name joined numbers updates numbered entries) e
      ∙ ap (λ subscriptions. record {
        name = name;
        joined = joined;
        links = changed change links number;
        graph = graph_of numbers;
        named = numbers.terms;
        updates = updates;
        subscriptions = subscriptions;
        numbered = numbered;
      }) (living_changed change none links number entries)

  -- and where the next one opened
  pub stored_opened : new ≡ links ++ new_link ∷ [] → IsStored name joined numbers updates numbered entries links → IsStored name joined numbers updates numbered entries new
  stored_opened e is =
      subst (IsStored name joined numbers updates numbered entries) (sym e) (
        record { joined = is.0.joined; opened = opens-opened links is.0.opened },
        entries_opened numbers links updates numbered entries is.1,
      )

  pub space_opened : new ≡ links ++ new_link ∷ [] → AreEntries numbers links updates numbered entries
      → stored name joined numbers updates numbered entries new
      ≡ with_links (stored name joined numbers updates numbered entries links) (links ++ new_link ∷ [])
  space_opened e are =
      ap (stored name joined numbers updates numbered entries) e
      ∙ ap (λ subscriptions. record {
        name = name;
        joined = joined;
        links = links ++ new_link ∷ [];
        graph = graph_of numbers;
        named = numbers.terms;
        updates = updates;
        subscriptions = subscriptions;
        numbered = numbered;
      }) (living_opened numbers links updates numbered entries are)
